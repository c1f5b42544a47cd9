-- A join over one server, as an evaluation.
use Rattle.std.proofs.Common.{ℕ, ◌≡◌, ◌+◌, ◌≤◌, ◌<◌, ◌*◌, ◌&&◌, ◌==◌, true, List, [], ◌∷◌, ◌++◌, map, length, Option, Some, None, inl, inr, ◌⊎◌, ap, sym, subst, ◌∙◌, Ok, Err, arith}
use Rattle.std.specs.Prelude.{Result, IfOk, OnOk, MatchOption, ⊤}
use Rattle.std.specs.Option.{option_map}
use Rattle.std.specs.List.{All, Contains}
use Rattle.std.specs.List.Sorted.{IsPermutation}
use Rattle.std.proofs.lemmas.Nat.{mul-le}
use Rattle.std.proofs.lemmas.List.Elements.{All-nil, All-cons, All-head}
use Rattle.std.proofs.lemmas.List.Sorted.{IsPermutation-refl, IsPermutation-sym, Contains-permutation}
use Rattle.list_laws.proofs.Members.{at_head, in_flat_map}
use Rattle.list_laws.proofs.Orders.{flat_map_IsPermutation}
use Rattle.tpf_base.specs.Addresses.{Address}
use Rattle.request_plan.specs.declared.evaluation.Ask.{Ask}
use Rattle.request_plan.specs.declared.evaluation.Answered.{Answered}
use Rattle.request_plan.specs.declared.evaluation.Answered.TheVariants.{Taken, Stranger}
use Rattle.request_plan.specs.Rounds.{RoundData, round_of_one, addresses_in, FormsAtHome, NextRoundAtHome}
use Rattle.request_plan.specs.Worlds.{World, IsRoundPageAt, IsOneServer, IsPageAt}
use Rattle.join_core.specs.Ones.{SuitsOne, AsksFirstAt, AskStartsOne, pairs_in, round_ask}
use Rattle.request_plan.specs.JointPages.{joint_page}
use Rattle.fragment_page.specs.declared.page.Page.{Page}
use Rattle.join_core.proofs.Rounded.{out-is-round, one-address-of}
use Rattle.bgp_core.specs.Solutions.{Places, no_names_bound}
use Rattle.template_fill.specs.declared.form.Form.{Form}
use Rattle.request_plan.specs.declared.joint_page.JointPage.{JointPage}
use Rattle.join_core.specs.declared.first.First.TheVariants.{Got}
use Rattle.request_plan.specs.Plans.{round_plan}
use Rattle.join_core.specs.Nodes.{NodeData}
use Rattle.request_plan.specs.Beginnings.{BeginsWith, FitsWorld, world_rows, world_plan, terms_of, sizes_of}
use Rattle.bgp_core.specs.Queries.{QueryData}
use Rattle.join_core.specs.Events.{with_first_at}
use Rattle.join_core.specs.Sound.{KeepsTo, IsKeptSmall, KeepsSizes}
use Rattle.join_core.specs.Joins.{JoinData, nodes, left_over, out, Suits, GivesRow, IsTrueFor, HandsOut, AsksAt, TakesFirst, TakesNext, TakesFirstAt, with_longest}
use Rattle.join_core.specs.Outcomes.{AskDone, AskNumbered, AnswerDone, AnswerTakes, GivesWaiting}
use Rattle.join_core.specs.NewJoins.{IsNewJoin}
use Rattle.join_core.specs.TakenRows.{TakesRow}
use Rattle.join_core.specs.JoinAccounts.{is_over, account_of, standing_of}
use Rattle.request_plan.specs.Evaluations.{HasHome, NextAtHome, Sizes, OwesAfterAsk, OwesAfterAnswer, StandsAfterAsk, TakesOne, GivesOwed}

-- ---- authorities

pub one-next-home : (homes : List Address) (next : Option Address) → NextAtHome homes next → NextRoundAtHome homes (option_map round_of_one next)
one-next-home homes None h = tt
one-next-home homes (Some address) h = All-cons (HasHome homes) address [] h (All-nil (HasHome homes))

pub one-ask-home : (homes : List Address) (address : Address) (others : List Address) → All (HasHome homes) (address ∷ others) → HasHome homes address
one-ask-home homes address others h = All-head (HasHome homes) address others h

-- ---- accounts

turned : (xs ys : List RoundData) → IsPermutation xs ys → IsPermutation (addresses_in xs) (addresses_in ys)
turned xs ys h = flat_map_IsPermutation (λ (round : RoundData). round.addresses) xs ys h

turned-pairs : (xs ys : List (ℕ × RoundData)) → IsPermutation xs ys → IsPermutation (pairs_in xs) (pairs_in ys)
turned-pairs xs ys h = flat_map_IsPermutation (λ (out : ℕ × RoundData). map (λ (address : Address). (out.0, address)) out.1.addresses) xs ys h

pub on-ok : {A E : Type 0} (P : Type 0) (r : Result A E) → P → OnOk r P
on-ok P (Ok x) p = p
on-ok P (Err e) p = tt

pub ask-owes : (w : World) (old new : JoinData) (ask : Option Ask) → AskDone w old new (round_ask ask) → OwesAfterAsk (account_of w old) (account_of w new) ask
ask-owes w old new None h = ap (account_of w) h
ask-owes w old new (Some ask) h = record { owed = h.owed; left = turned _ _ h.left; out = turned-pairs _ _ h.out }

pub asked-owes : {E : Type 0} (w : World) (old new : JoinData) (r : Result (Option Ask) E) → IfOk r (λ ask. AskDone w old new (round_ask ask)) → IfOk r (OwesAfterAsk (account_of w old) (account_of w new))
asked-owes w old new (Ok ask) h = ask-owes w old new ask h
asked-owes w old new (Err e) h = tt

-- the one address of a round that was handed out
head-of : Address → List Address → Address
head-of a [] = a
head-of a (x ∷ xs) = x

pub handed-one : (w : World) (old new : JoinData) (ticket : ℕ) (round : RoundData) (address : Address) (others : List Address) → IsOneServer w → round.addresses ≡ address ∷ others → HandsOut w old new ticket round → HandsOut w old new ticket (round_of_one address)
unfolding head-of
handed-one w old new ticket round address others one is h =
    let a = one-address-of w one old round (left_over w new) h.left in
    let same : address ≡ a.0 = ap (λ (l : List Address). head-of address l) (sym is ∙ ap (λ (r : RoundData). r.addresses) a.1) in
    subst (λ (r : RoundData). HandsOut w old new ticket r) (a.1 ∙ ap (λ (x : Address). round_of_one x) (sym same)) h

-- the same in a join that is seen so
pub handed-as : (w : World) (old seen new : JoinData) (ticket : ℕ) (round : RoundData) (address : Address) (others : List Address) → old ≡ seen → IsOneServer w → round.addresses ≡ address ∷ others → HandsOut w old new ticket round → HandsOut w seen new ticket (round_of_one address)
handed-as w old seen new ticket round address others e one is h = subst (λ (j : JoinData). HandsOut w j new ticket (round_of_one address)) e (handed-one w old new ticket round address others one is h)

-- the first address of a round that was asked for, in a join that is seen so
pub first-as : (old seen new : JoinData) (round : RoundData) (address : Address) (others : List Address) → old ≡ seen → round.addresses ≡ address ∷ others → AsksAt old new round → AsksFirstAt seen new address
first-as old seen new round address others e is h = record { round = round; others = others; addresses = is; asks = subst (λ (j : JoinData). AsksAt j new round) e h }

ask-suits : (w : World) (old new : JoinData) (ask : Option Ask) → SuitsOne w old → AskDone w old new (round_ask ask) → SuitsOne w new
ask-suits w old new None s h = subst (λ (j : JoinData). SuitsOne w j) (sym h) s
ask-suits w old new (Some ask) s h = (s.0, h.suits)

pub asked-suits : {E : Type 0} (w : World) (old new : JoinData) (r : Result (Option Ask) E) → SuitsOne w old → IfOk r (λ ask. AskDone w old new (round_ask ask)) → OnOk r (SuitsOne w new)
asked-suits w old new (Ok ask) s h = ask-suits w old new ask s h
asked-suits w old new (Err e) s h = tt

ask-stands : (old new : JoinData) (ask : Option Ask) → AskNumbered old new (round_ask ask) → AskStartsOne old new ask → StandsAfterAsk (standing_of old) (standing_of new) ask
ask-stands old new None h e = ap standing_of h
ask-stands old new (Some ask) h e = record { number = h.number; given = h.next; out = h.out; waiting = ap (λ (j : JoinData). length j.waiting) e.asks.done }

pub asked-stands : {E : Type 0} (old new : JoinData) (r : Result (Option Ask) E) → IfOk r (λ ask. AskNumbered old new (round_ask ask)) → IfOk r (AskStartsOne old new) → IfOk r (StandsAfterAsk (standing_of old) (standing_of new))
asked-stands old new (Ok ask) h e = ask-stands old new ask h e
asked-stands old new (Err x) h e = tt

-- whatever came of a page, a join suits its world as before
pub answer-suits : {E : Type 0} (w : World) (old new : JoinData) (ticket : ℕ) (r : Result Answered E) → SuitsOne w old → IfOk r (AnswerDone w old new ticket) → OnOk r (SuitsOne w new)
answer-suits w old new ticket (Ok Taken) s h = (s.0, h.suits)
answer-suits w old new ticket (Ok Stranger) s h = subst (λ (j : JoinData). SuitsOne w j) (sym h) s
answer-suits w old new ticket (Err x) s h = tt

-- ---- before the first turn

module _ {E : Type 0} (q : QueryData) (forms : List Form) (window block : ℕ) where
  pub begun-suits : (r : Result JoinData E) → IfOk r (IsNewJoin q forms window block) → (w : World) → FitsWorld w forms block → IfOk r (λ j. SuitsOne w j)
  begun-suits (Ok j) new w fits = (fits.one, (new.begins w fits.world fits.forms_are fits.rows).suits)
  begun-suits (Err e) new w fits = tt

  pub begun-owes : (r : Result JoinData E) → IfOk r (IsNewJoin q forms window block) → (w : World) → FitsWorld w forms block → IfOk r (λ j. BeginsWith (world_rows w q) (world_plan w q) (account_of w j))
  begun-owes (Ok j) new w fits =
      let begins = new.begins w fits.world fits.forms_are fits.rows in
      record { owed = begins.owed; left = turned (round_plan w q.patterns (no_names_bound q ∷ [])) (left_over w j) begins.left; out = ap (λ (l : List (ℕ × RoundData)). pairs_in l) begins.out }
  begun-owes (Err e) new w fits = tt

  pub begun-keeps : (r : Result JoinData E) → IfOk r (IsNewJoin q forms window block) → (homes : List Address) → FormsAtHome homes forms → IfOk r (λ j. KeepsTo (terms_of homes q) j)
  begun-keeps (Ok j) new homes home = new.keeps homes home
  begun-keeps (Err e) new homes home = tt

  pub begun-stands : (r : Result JoinData E) → IfOk r (IsNewJoin q forms window block) → IfOk r (λ j. ((standing_of j).given ≡ 0) × ((standing_of j).out ≡ []))
  begun-stands (Ok j) new = new.tickets
  begun-stands (Err e) new = tt

-- ---- pages

one-round : (w : World) (j : JoinData) → SuitsOne w j → (ticket : ℕ) (round : RoundData) → Contains (out w j) (ticket, round) → (address : Address) × (round ≡ round_of_one address)
one-round w j s ticket round h = let i = out-is-round w j s.1 ticket round h in let a = s.0 i.selection i.number in (a.0, sym i.is ∙ a.1)

pub one-true : (w : World) (j : JoinData) (ticket : ℕ) (page : Page) → SuitsOne w j → ((address : Address) → Contains (account_of w j).out (ticket, address) → IsPageAt w address page) → IsTrueFor w j ticket (joint_page page)
one-true w j ticket page s told = λ round h.
    let a = one-round w j s ticket round h in
    let own : Contains {X = ℕ × Address} (map (λ (x : Address). (ticket, x)) round.addresses) (ticket, a.0) = subst (λ (r : RoundData). Contains {X = ℕ × Address} (map (λ (x : Address). (ticket, x)) r.addresses) (ticket, a.0)) (sym a.1) (at_head (ticket, a.0) []) in
    let there : Contains {X = ℕ × Address} (pairs_in (out w j)) (ticket, a.0) = in_flat_map (λ (o : ℕ × RoundData). map (λ (x : Address). (o.0, x)) o.1.addresses) (out w j) (ticket, round) (ticket, a.0) h own in
    subst (λ (r : RoundData). IsRoundPageAt w r (joint_page page)) (sym a.1) (told a.0 there)

pub answer-owes : {E : Type 0} (w : World) (old new : JoinData) (ticket : ℕ) (r : Result Answered E) → SuitsOne w old → IfOk r (AnswerDone w old new ticket) → IfOk r (OwesAfterAnswer (account_of w old) (account_of w new) ticket)
answer-owes w old new ticket (Ok Taken) s h =
    let there = Contains-permutation ((ticket, h.round) ∷ out w new) (out w old) (ticket, h.round) (IsPermutation-sym (out w old) ((ticket, h.round) ∷ out w new) h.out) (at_head (ticket, h.round) (out w new)) in
    let a = one-round w old s ticket h.round there in
    record {
      owed = h.owed;
      left = turned _ _ h.left;
      address = a.0;
      out = subst (λ (r : RoundData). IsPermutation (pairs_in (out w old)) (map (λ (x : Address). (ticket, x)) r.addresses ++ pairs_in (out w new))) a.1 (turned-pairs _ _ h.out);
    }
answer-owes w old new ticket (Ok Stranger) s h = ap (account_of w) h
answer-owes w old new ticket (Err x) s h = tt

pub over-is : (j : JoinData) → length j.waiting ≡ 0 → nodes j.levels ≡ [] → is_over j ≡ true
over-is j e f = ap (λ (n : ℕ). (n == 0) && (length (nodes j.levels) == 0)) e ∙ ap (λ (l : List NodeData). (0 == 0) && (length l == 0)) f

-- ---- sizes

within : (a b c : ℕ) → a ≡ b → b ≤ c → a ≤ c
within a b c e l = omega (arith, e, l)

many-times : (w n : ℕ) → 0 < n → w ≤ w * n
many-times w n some =
    let same : w ≤ w = omega arith in
    let low : 1 ≤ n = omega (arith, some) in
    let more : w * 1 ≤ w * n = mul-le w 1 w n same low in
    omega (arith, more)

small-so : (patterns window : ℕ) (forms : List Form) (j : JoinData) → 0 < length forms → IsKeptSmall patterns 1 j → j.longest ≡ 1 → j.window ≡ window → KeepsSizes (record { patterns = patterns; window = window * length forms }) j
small-so patterns window forms j some k l w = record {
  small = subst (λ (m : ℕ). IsKeptSmall patterns m j) (sym l) k;
  window = within j.window window (window * length forms) w (many-times window (length forms) some);
}

pub begun-small : {E : Type 0} (q : QueryData) (forms : List Form) (window block : ℕ) (r : Result JoinData E) → IfOk r (IsNewJoin q forms window block) → 0 < length forms
    → IfOk r (λ j. KeepsSizes (sizes_of q (window * length forms)) j)
begun-small q forms window block (Ok j) new some = small-so (length q.patterns) window forms j some new.small new.longest new.window
begun-small q forms window block (Err e) new some = tt

ask-sizes : (sizes : Sizes) (old new : JoinData) (ask : Option Ask) → AskStartsOne old new ask → ((n m : ℕ) → IsKeptSmall n m old → IsKeptSmall n m new) → KeepsSizes sizes old → KeepsSizes sizes new
ask-sizes sizes old new None h small k = subst (λ (j : JoinData). KeepsSizes sizes j) (sym h) k
ask-sizes sizes old new (Some ask) h small k = record {
  small = subst (λ (m : ℕ). IsKeptSmall sizes.patterns m new) (sym (ap (λ (j : JoinData). j.longest) h.asks.done)) (small sizes.patterns old.longest k.small);
  window = within new.window old.window sizes.window (ap (λ (j : JoinData). j.window) h.asks.done) k.window;
}

pub asked-sizes : {E : Type 0} (sizes : Sizes) (old new : JoinData) (r : Result (Option Ask) E) → IfOk r (AskStartsOne old new) → ((n m : ℕ) → IsKeptSmall n m old → IsKeptSmall n m new) → KeepsSizes sizes old → OnOk r (KeepsSizes sizes new)
asked-sizes sizes old new (Ok ask) h small k = ask-sizes sizes old new ask h small k
asked-sizes sizes old new (Err e) h small k = tt

first-window : (old new : JoinData) (depth index : ℕ) (n : NodeData) → TakesFirstAt old new depth index n → new.window ≡ old.window
first-window old new depth index n (inl h) = ap (λ (j : JoinData). j.window) h.1
first-window old new depth index n (inr h) = ap (λ (j : JoinData). j.window) h.1.done

page-window : (old new : JoinData) (ticket : ℕ) (page : JointPage) → TakesFirst old new ticket page ⊎ TakesNext old new ticket page → new.window ≡ old.window
page-window old new ticket page (inl t) = first-window old new t.depth t.index (with_first_at t.first (Got page) t.taker) t.turns
page-window old new ticket page (inr t) = ap (λ (j : JoinData). j.window) t.done

pub answer-sizes : {E : Type 0} (sizes : Sizes) (old new : JoinData) (ticket : ℕ) (page : JointPage) (r : Result Answered E) → IfOk r (AnswerTakes old (with_longest new old.longest) ticket page) → (IsKeptSmall sizes.patterns old.longest old → IsKeptSmall sizes.patterns new.longest new)
    → KeepsSizes sizes old → OnOk r (KeepsSizes sizes new)
answer-sizes sizes old new ticket page (Ok Taken) h small k = record { small = small k.small; window = within new.window old.window sizes.window (page-window old (with_longest new old.longest) ticket page h) k.window }
answer-sizes sizes old new ticket page (Ok Stranger) h small k = record { small = small k.small; window = within new.window old.window sizes.window (ap (λ (j : JoinData). j.window) h) k.window }
answer-sizes sizes old new ticket page (Err x) h small k = tt

-- ---- a row was taken

module _ (old new : JoinData) (row : Option Places) (t : TakesRow old new row) where
  pub row-stands : MatchOption row ((standing_of old).waiting ≡ 0) (λ taken. TakesOne (standing_of old) (standing_of new))
  row-stands = by row t.none t.one where
    by : (o : Option Places) → MatchOption o (old.waiting ≡ []) (λ taken. ⊤) → MatchOption o ⊤ (λ taken. length old.waiting ≡ length new.waiting + 1)
        → MatchOption o ((standing_of old).waiting ≡ 0) (λ taken. TakesOne (standing_of old) (standing_of new))
    by None none one = ap length none
    by (Some taken) none one = record { given = t.kept.0; out = t.tickets; waiting = one }

  pub row-suits : (w : World) → SuitsOne w old → SuitsOne w new
  row-suits w s = (s.0, by row t.stays (t.row w s.1)) where
    by : (o : Option Places) → MatchOption o (new ≡ old) (λ taken. ⊤) → MatchOption o ⊤ (GivesRow w old new) → Suits w new
    by None stays gives = subst (λ (j : JoinData). Suits w j) (sym stays) s.1
    by (Some taken) stays gives = gives.suits

  pub row-owes : (w : World) → SuitsOne w old → MatchOption row ⊤ (GivesOwed (account_of w old) (account_of w new))
  row-owes w s = by row (t.row w s.1) where
    by : (o : Option Places) → MatchOption o ⊤ (GivesRow w old new) → MatchOption o ⊤ (GivesOwed (account_of w old) (account_of w new))
    by None gives = tt
    by (Some taken) gives = record { owed = gives.owed; left = turned _ _ gives.left; out = subst (λ (l : List (ℕ × RoundData)). IsPermutation (pairs_in (out w old)) (pairs_in l)) (sym gives.out) (IsPermutation-refl (pairs_in (out w old))) }

  pub row-sizes : (sizes : Sizes) → KeepsSizes sizes old → KeepsSizes sizes new
  row-sizes sizes k = by row t.stays t.gives where
    by : (o : Option Places) → MatchOption o (new ≡ old) (λ taken. ⊤) → MatchOption o ⊤ (GivesWaiting old new) → KeepsSizes sizes new
    by None stays gives = subst (λ (j : JoinData). KeepsSizes sizes j) (sym stays) k
    by (Some taken) stays gives = record {
      small = subst (λ (m : ℕ). IsKeptSmall sizes.patterns m new) (sym t.kept.1) (t.small sizes.patterns old.longest k.small);
      window = within new.window old.window sizes.window (ap (λ (j : JoinData). j.window) gives.done) k.window;
    }
