-- A federation that takes a page.
use Rattle.std.proofs.Common.{ℕ, ◌≡◌, ◌+◌, ◌-◌, ◌<◌, inl, inr, Bool, true, List, [], ◌∷◌, length, Ok, Err, refl, ap, sym, subst, ◌∙◌, arith, length-append}
use Rattle.std.specs.Prelude.{◌==◌, Result, IfOk, OnOk}
use Rattle.std.specs.List.{All, Contains}
use Rattle.std.specs.List.Sorted.{IsPermutation}
use Rattle.std.proofs.lemmas.List.Elements.{All-tail, All-weaker}
use Rattle.std.proofs.lemmas.List.Sorted.{IsPermutation-refl, IsPermutation-sym, IsPermutation-trans, IsPermutation-cons, IsPermutation-append, IsPermutation-append_left, IsPermutation-map, All-permutation, Contains-permutation}
use Rattle.list_laws.proofs.Members.{at_head, in_tail}
use Rattle.list_laws.proofs.Orders.{same, flat_map_IsPermutation}
use Rattle.tpf_base.specs.Addresses.{Address}
use Rattle.fragment_page.specs.declared.page.Page.{Page}
use Rattle.request_plan.specs.declared.evaluation.Answered.{Answered}
use Rattle.request_plan.specs.declared.evaluation.Answered.TheVariants.{Taken, Stranger}
use Rattle.request_plan.specs.declared.joint_page.JointPage.{JointPage}
use Rattle.request_plan.specs.Rounds.{RoundData, addresses_in, NextRoundAtHome}
use Rattle.request_plan.specs.Worlds.{World, IsRoundPageAt}
use Rattle.join_core.specs.Joins.{JoinData, Suits, owed, out, left_over, tickets_out, IsTrueFor}
use Rattle.join_core.specs.Outcomes.{AnswerDone, AnswerNumbered, WaitsMore}
use Rattle.request_plan.specs.Evaluations.{Terms, Sizes, NextAtHome, EndsTicket, EndsNumber, OwesAfterAnswer, StandsAfterAnswer}
use Rattle.join_core.specs.Sound.{KeepsTo, IsKeptSmall}
use Rattle.plan_laws.specs.JointWorlds.{joint_world}
use Rattle.joint_pages.specs.Parts.{pages_in}
use Rattle.joint_pages.specs.Joined.{joined_as}
use Rattle.joint_pages.specs.Gatherings.{GatheringData, tickets_of, outs_of, is_whole}
use Rattle.joint_pages.specs.Truths.{AreServers, is_one, IsPageOfAll, HoldsTrue, IsJointPageOf}
use Rattle.federation.specs.Federations.{FederationData, SuitsAll, KeepsAll, KeepsSmall, KeepsRound, IsItsRound, AreSame, account_of, standing_of, all_wanted, all_tickets, all_outs, numbers_of}
use Rattle.federation.specs.Changes.{StaysOpen, ComesOut}
use Rattle.federation.specs.Steps.{TakesOne, TakesLast, JoinsRound, AnswersJoin, Answers}
use Rattle.federation.proofs.Counting.{one-server}
use Rattle.federation.proofs.Lists.{one-of-all, all-changed, all-left, all-among, parts-keep, parts-lose, parts-end, same-more, same-less, stands-often, never-stands, count-less}
use Rattle.federation.proofs.Gathered.{taken-outs, taken-tickets, taken-round, taken-true, taken-keeps, joined-home, whole-wants, whole-outs, whole-tickets}
use Rattle.federation.proofs.Asking.{its-round, number-below}

-- a page was taken by one of the rounds
abbrev pub with-page : FederationData → List GatheringData → FederationData
with-page old changed = record { join = old.join; rounds = changed; given = old.given; awaited = old.awaited - 1; most = old.most }

-- the join took its round
abbrev pub with-last : FederationData → JoinData → List GatheringData → FederationData
with-last old j changed = record { join = j; rounds = changed; given = old.given; awaited = old.awaited - 1; most = old.most }

-- what is true of each page that a ticket is out for
abbrev IsTrueAt : List World → List GatheringData → ℕ → Page → Type 0
IsTrueAt worlds rounds ticket page = (address : Address) → Contains (all_outs rounds) (ticket, address) → IsPageOfAll worlds address page

-- ---- another page of its round is awaited

module _ (old : FederationData) (changed : List GatheringData) (ticket : ℕ) (page : Page) (h : StaysOpen old.rounds changed ticket page) where
  open-outs : IsPermutation (all_outs old.rounds) ((ticket, h.among.takes.part.address) ∷ all_outs changed)
  open-outs = parts-lose outs_of old.rounds changed h.others h.among.round h.after (ticket, h.among.takes.part.address) h.among.was h.now (taken-outs h.among.round h.after ticket page h.among.takes)

  open-tickets : IsPermutation (all_tickets old.rounds) (ticket ∷ all_tickets changed)
  open-tickets = parts-lose tickets_of old.rounds changed h.others h.among.round h.after ticket h.among.was h.now (taken-tickets h.among.round h.after ticket page h.among.takes)

  open-wanted : IsPermutation (all_wanted old.rounds) (all_wanted changed)
  open-wanted = parts-keep (λ (g : GatheringData). g.wanted) old.rounds changed h.others h.among.round h.after h.among.was h.now (same _ _ (sym h.among.takes.wanted))

  open-suits : (worlds : List World) → SuitsAll worlds old → IsTrueAt worlds old.rounds ticket page → SuitsAll worlds (with-page old changed)
  open-suits worlds s told =
      let w = joint_world worlds in
      let a = h.among in
      let is : IsPageOfAll worlds a.takes.part.address page = told a.takes.part.address (Contains-permutation ((ticket, a.takes.part.address) ∷ all_outs changed) (all_outs old.rounds) (ticket, a.takes.part.address) (IsPermutation-sym _ _ open-outs) (at_head (ticket, a.takes.part.address) (all_outs changed))) in
      record {
        servers = s.servers;
        join = s.join;
        pages = all-changed (HoldsTrue worlds) old.rounds changed h.others a.round h.after a.was h.now (taken-true worlds a.round h.after ticket page a.takes is) s.pages;
        rounds = all-changed (IsItsRound w old.join) old.rounds changed h.others a.round h.after a.was h.now (its-round w old.join a.round h.after a.takes.number (taken-round a.round h.after ticket page a.takes)) s.rounds;
        numbers = all-changed (λ g. g.number < old.join.tickets) old.rounds changed h.others a.round h.after a.was h.now (number-below old.join.tickets a.round h.after a.takes.number) s.numbers;
        tickets = s.tickets;
      }

  open-owes : (worlds : List World) → EndsTicket (account_of worlds old) (account_of worlds (with-page old changed)) ticket
  open-owes worlds = record {
    owed = IsPermutation-refl _;
    left = IsPermutation-append_left (addresses_in (left_over (joint_world worlds) old.join)) (all_wanted old.rounds) (all_wanted changed) open-wanted;
    address = h.among.takes.part.address;
    out = open-outs;
  }

  open-stands : EndsNumber (standing_of old) (standing_of (with-page old changed)) ticket
  open-stands = record { given = refl; out = open-tickets; waiting = omega arith }

  open-numbers : AreSame (tickets_out old.join) (numbers_of old.rounds) → AreSame (tickets_out old.join) (numbers_of changed)
  open-numbers k = λ n.
      let a = h.among in
      let before : IsPermutation (numbers_of old.rounds) (a.round.number ∷ numbers_of h.others) = IsPermutation-map (λ (g : GatheringData). g.number) old.rounds (a.round ∷ h.others) a.was in
      let after : IsPermutation (numbers_of changed) (h.after.number ∷ numbers_of h.others) = IsPermutation-map (λ (g : GatheringData). g.number) changed (h.after ∷ h.others) h.now in
      k n ∙ same-more a.round.number n (numbers_of h.others) (numbers_of old.rounds) (numbers_of h.others) (numbers_of changed) before (subst (λ (m : ℕ). IsPermutation (numbers_of changed) (m ∷ numbers_of h.others)) a.takes.number after) refl

  open-round : (terms : Terms) → NextAtHome terms.homes page.next → KeepsRound terms.homes h.among.round → KeepsRound terms.homes h.after
  open-round terms home r = let k = taken-keeps terms.homes h.among.round h.after ticket page h.among.takes home r in record { wanted = k.0; pages = k.1; open_still = h.open_still }

  open-keeps : (terms : Terms) → NextAtHome terms.homes page.next → KeepsAll terms old → KeepsAll terms (with-page old changed)
  open-keeps terms home k = record {
    join = k.join;
    rounds = all-changed (KeepsRound terms.homes) old.rounds changed h.others h.among.round h.after h.among.was h.now (open-round terms home) k.rounds;
    numbers = open-numbers k.numbers;
    tickets = All-tail (λ t. t < old.given) ticket (all_tickets changed) (All-permutation (λ t. t < old.given) (all_tickets old.rounds) (ticket ∷ all_tickets changed) open-tickets k.tickets);
    counted = count-less ticket old.awaited (all_tickets old.rounds) (all_tickets changed) open-tickets k.counted;
  }

  open-small : (sizes : Sizes) → KeepsSmall sizes old → KeepsSmall sizes (with-page old changed)
  open-small sizes k =
      let fewer = count-less ticket (length (all_tickets old.rounds)) (all_tickets old.rounds) (all_tickets changed) open-tickets refl in
      let few = k.few in
      record {
        join = k.join;
        window = k.window;
        most = k.most;
        rounds = all-changed (λ g. 0 < sizes.patterns) old.rounds changed h.others h.among.round h.after h.among.was h.now (λ is. is) k.rounds;
        counted = count-less ticket old.awaited (all_tickets old.rounds) (all_tickets changed) open-tickets k.counted;
        few = omega (arith, fewer, few);
      }

-- ---- what the join takes

done-suits : (w : World) (j k : JoinData) (number : ℕ) (answered : Answered) → AnswerDone w j k number answered → Suits w j → Suits w k
done-suits w j k number Taken h s = h.suits
done-suits w j k number Stranger h s = subst (λ (x : JoinData). Suits w x) (sym h) s

done-owed : (w : World) (j k : JoinData) (number : ℕ) (answered : Answered) → AnswerDone w j k number answered → IsPermutation (owed w j) (owed w k)
done-owed w j k number Taken h = h.owed
done-owed w j k number Stranger h = same _ _ (ap (λ (x : JoinData). owed w x) (sym h))

done-left : (w : World) (j k : JoinData) (number : ℕ) (answered : Answered) → AnswerDone w j k number answered → IsPermutation (left_over w j) (left_over w k)
done-left w j k number Taken h = h.left
done-left w j k number Stranger h = same _ _ (ap (λ (x : JoinData). left_over w x) (sym h))

-- no round is out that was not
done-out : (w : World) (j k : JoinData) (number : ℕ) (answered : Answered) → AnswerDone w j k number answered → (o : ℕ × RoundData) → Contains (out w k) o → Contains (out w j) o
done-out w j k number Taken h o m = Contains-permutation ((number, h.round) ∷ out w k) (out w j) o (IsPermutation-sym _ _ h.out) (in_tail (number, h.round) o (out w k) m)
done-out w j k number Stranger h o m = subst (λ (x : JoinData). Contains (out w x) o) h m

-- the numbers that are out, where the round was among those that are gathered
done-numbers : (j k : JoinData) (number : ℕ) (page : JointPage) (answered : Answered) (before after : List ℕ) → AnswersJoin j k number page answered → AreSame (tickets_out j) before → IsPermutation before (number ∷ after) → AreSame (tickets_out k) after
done-numbers j k number page Taken before after a s h = λ n. same-less number n (tickets_out j) (tickets_out k) before after a.numbered h (s n)
done-numbers j k number page Stranger before after a s h =
    let some = stands-often number before after h in
    let none = never-stands number (tickets_out j) (a.stranger refl) in
    let is = s number in
    absurd (omega (arith, some, none, is))

-- the join took the joint page of a round
pub joins-round : {E : Type 0} (old new : JoinData) (g : GatheringData) (page : JointPage) (number : ℕ) (alone : Bool) (result : Result Answered E) → number ≡ g.number → alone ≡ (length old.forms == 1) → page ≡ joined_as alone g.taken (pages_in g.parts)
    → ((worlds : List World) → AreServers worlds → alone ≡ is_one worlds → HoldsTrue worlds g → is_whole g ≡ true → IsJointPageOf worlds g page)
    → ((w : World) → Suits w old → IsTrueFor w old number page → IfOk result (AnswerDone w old new number)) → IfOk result (AnswerNumbered old new number) → (result ≡ Ok Stranger → All (λ t. t ≡ number → ⊥) (tickets_out old))
    → ((terms : Terms) → KeepsTo terms old → NextRoundAtHome terms.homes page.next → KeepsTo terms new) → ((n : ℕ) → IsKeptSmall n old.longest old → IsKeptSmall n new.longest new) → WaitsMore old new → new.tickets ≡ old.tickets → IfOk result (JoinsRound old new g)
joins-round old new g page number alone (Ok answered) e one is together taken numbered stranger keeps small grows kept = record {
  page = page;
  alone = alone;
  is_alone = one;
  is = is;
  together = together;
  joins = subst (λ (n : ℕ). AnswersJoin old new n page answered) e
      (record { taken = taken; numbered = numbered; stranger = λ h. stranger (ap (λ (a : Answered). Ok a) h); keeps = keeps; small = small; grows = grows; tickets = kept });
}
joins-round old new g page number alone (Err x) e one is together taken numbered stranger keeps small grows kept = tt

-- ---- the last page of its round

module _ (old : FederationData) (j : JoinData) (changed : List GatheringData) (after : GatheringData) (answered : Answered) (ticket : ℕ) (page : Page) (h : ComesOut old.rounds changed ticket page after) (b : JoinsRound old.join j after answered) where
  last-outs : IsPermutation (all_outs old.rounds) ((ticket, h.among.takes.part.address) ∷ all_outs changed)
  last-outs = parts-end outs_of old.rounds changed h.others h.among.round ((ticket, h.among.takes.part.address) ∷ []) h.among.was h.now
      (subst (λ (l : List (ℕ × Address)). IsPermutation (outs_of h.among.round) ((ticket, h.among.takes.part.address) ∷ l)) (whole-outs after h.whole) (taken-outs h.among.round after ticket page h.among.takes))

  last-tickets : IsPermutation (all_tickets old.rounds) (ticket ∷ all_tickets changed)
  last-tickets = parts-end tickets_of old.rounds changed h.others h.among.round (ticket ∷ []) h.among.was h.now
      (subst (λ (l : List ℕ). IsPermutation (tickets_of h.among.round) (ticket ∷ l)) (whole-tickets after h.whole) (taken-tickets h.among.round after ticket page h.among.takes))

  last-wanted : IsPermutation (all_wanted old.rounds) (all_wanted changed)
  last-wanted = parts-end (λ (g : GatheringData). g.wanted) old.rounds changed h.others h.among.round [] h.among.was h.now (same _ _ (sym h.among.takes.wanted ∙ whole-wants after h.whole))

  last-numbers : IsPermutation (numbers_of old.rounds) (after.number ∷ numbers_of changed)
  last-numbers =
      let before : IsPermutation (numbers_of old.rounds) (h.among.round.number ∷ numbers_of h.others) = IsPermutation-map (λ (g : GatheringData). g.number) old.rounds (h.among.round ∷ h.others) h.among.was in
      let turned : IsPermutation (numbers_of changed) (numbers_of h.others) = IsPermutation-map (λ (g : GatheringData). g.number) changed h.others h.now in
      subst (λ (m : ℕ). IsPermutation (numbers_of old.rounds) (m ∷ numbers_of changed)) (sym h.among.takes.number) (IsPermutation-trans _ _ _ before (IsPermutation-cons h.among.round.number _ _ (IsPermutation-sym _ _ turned)))

  -- the joint page is the page of the round that is out in the join
  last-done : (worlds : List World) → SuitsAll worlds old → IsTrueAt worlds old.rounds ticket page → AnswerDone (joint_world worlds) old.join j after.number answered
  last-done worlds s told =
      let w = joint_world worlds in
      let a = h.among in
      let is : IsPageOfAll worlds a.takes.part.address page = told a.takes.part.address (Contains-permutation ((ticket, a.takes.part.address) ∷ all_outs changed) (all_outs old.rounds) (ticket, a.takes.part.address) (IsPermutation-sym _ _ last-outs) (at_head (ticket, a.takes.part.address) (all_outs changed))) in
      let holds : HoldsTrue worlds after = taken-true worlds a.round after ticket page a.takes is (one-of-all (HoldsTrue worlds) old.rounds h.others a.round a.was s.pages) in
      let its : IsItsRound w old.join after = its-round w old.join a.round after a.takes.number (taken-round a.round after ticket page a.takes) (one-of-all (IsItsRound w old.join) old.rounds h.others a.round a.was s.rounds) in
      let true_ : IsTrueFor w old.join after.number b.page = λ round m. subst (λ (r : RoundData). IsRoundPageAt w r b.page) (sym (its round m)) (b.together worlds s.servers (b.is_alone ∙ one-server worlds old.join s.servers s.join) holds h.whole) in
      b.joins.taken w s.join true_

  last-suits : (worlds : List World) → SuitsAll worlds old → IsTrueAt worlds old.rounds ticket page → SuitsAll worlds (with-last old j changed)
  last-suits worlds s told =
      let w = joint_world worlds in
      let done = last-done worlds s told in
      let kept = b.joins.tickets in
      let fewer = done-out w old.join j after.number answered done in
      record {
        servers = s.servers;
        join = done-suits w old.join j after.number answered done s.join;
        pages = all-left (HoldsTrue worlds) old.rounds changed h.others h.among.round h.among.was h.now s.pages;
        rounds = all-left (IsItsRound w j) old.rounds changed h.others h.among.round h.among.was h.now (All-weaker (IsItsRound w old.join) (IsItsRound w j) (λ g is. λ round m. is round (fewer (g.number, round) m)) old.rounds s.rounds);
        numbers = subst (λ (n : ℕ). All (λ g. g.number < n) changed) (sym kept) (all-left (λ g. g.number < old.join.tickets) old.rounds changed h.others h.among.round h.among.was h.now s.numbers);
        tickets = subst (λ (n : ℕ). All (λ o. o.0 < n) (out w j)) (sym kept) (all-among (λ (o : ℕ × RoundData). o.0 < old.join.tickets) (out w old.join) (out w j) fewer s.tickets);
      }

  last-owes : (worlds : List World) → SuitsAll worlds old → IsTrueAt worlds old.rounds ticket page → EndsTicket (account_of worlds old) (account_of worlds (with-last old j changed)) ticket
  last-owes worlds s told =
      let w = joint_world worlds in
      let done = last-done worlds s told in
      record {
        owed = done-owed w old.join j after.number answered done;
        left = IsPermutation-append (all_wanted old.rounds) (all_wanted changed) (addresses_in (left_over w old.join)) (addresses_in (left_over w j)) last-wanted
            (flat_map_IsPermutation (λ (r : RoundData). r.addresses) (left_over w old.join) (left_over w j) (done-left w old.join j after.number answered done));
        address = h.among.takes.part.address;
        out = last-outs;
      }

  last-stands : EndsNumber (standing_of old) (standing_of (with-last old j changed)) ticket
  last-stands = record {
    given = refl;
    out = last-tickets;
    waiting = let more : length j.waiting ≡ length old.join.waiting + length b.joins.grows.0 = ap length b.joins.grows.1 ∙ length-append old.join.waiting b.joins.grows.0 in omega (arith, more);
  }

  last-keeps : (terms : Terms) → NextAtHome terms.homes page.next → KeepsAll terms old → KeepsAll terms (with-last old j changed)
  last-keeps terms home k =
      let a = h.among in
      let pages = (taken-keeps terms.homes a.round after ticket page a.takes home (one-of-all (KeepsRound terms.homes) old.rounds h.others a.round a.was k.rounds)).1 in
      let next : NextRoundAtHome terms.homes b.page.next = subst (λ (p : JointPage). NextRoundAtHome terms.homes p.next) (sym b.is) (joined-home terms.homes b.alone after.parts after.taken pages) in
      record {
        join = b.joins.keeps terms k.join next;
        rounds = all-left (KeepsRound terms.homes) old.rounds changed h.others a.round a.was h.now k.rounds;
        numbers = done-numbers old.join j after.number b.page answered (numbers_of old.rounds) (numbers_of changed) b.joins k.numbers last-numbers;
        tickets = All-tail (λ t. t < old.given) ticket (all_tickets changed) (All-permutation (λ t. t < old.given) (all_tickets old.rounds) (ticket ∷ all_tickets changed) last-tickets k.tickets);
        counted = count-less ticket old.awaited (all_tickets old.rounds) (all_tickets changed) last-tickets k.counted;
      }

  last-small : (sizes : Sizes) → KeepsSmall sizes old → KeepsSmall sizes (with-last old j changed)
  last-small sizes k =
      let fewer = count-less ticket (length (all_tickets old.rounds)) (all_tickets old.rounds) (all_tickets changed) last-tickets refl in
      let few = k.few in
      record {
        join = b.joins.small sizes.patterns k.join;
        window = k.window;
        most = k.most;
        rounds = all-left (λ g. 0 < sizes.patterns) old.rounds changed h.others h.among.round h.among.was h.now k.rounds;
        counted = count-less ticket old.awaited (all_tickets old.rounds) (all_tickets changed) last-tickets k.counted;
        few = omega (arith, fewer, few);
      }

-- ---- either of them

module _ (P : FederationData → Type 0) (old new : FederationData) (ticket : ℕ) (page : Page) where
  after-one : (t : TakesOne old new ticket page) → P (with-page old t.rounds) → P new
  after-one t p = subst P (sym t.done) p

  after-last : (t : TakesLast old new ticket page) → P (with-last old t.join t.rounds) → P new
  after-last t p = subst P (sym t.done) p

answered-suits : (worlds : List World) (old new : FederationData) (ticket : ℕ) (page : Page) (answered : Answered) → SuitsAll worlds old → IsTrueAt worlds old.rounds ticket page → Answers old new ticket page answered → SuitsAll worlds new
answered-suits worlds old new ticket page Stranger s told a = subst (λ (f : FederationData). SuitsAll worlds f) (sym a.0) s
answered-suits worlds old new ticket page Taken s told a = elim a [
  | inl t ↦ after-one (SuitsAll worlds) old new ticket page t (open-suits old t.rounds ticket page t.stays worlds s told)
  | inr t ↦ after-last (SuitsAll worlds) old new ticket page t (last-suits old t.join t.rounds t.after t.answered ticket page t.comes t.joins worlds s told)
]

answered-owes : (worlds : List World) (old new : FederationData) (ticket : ℕ) (page : Page) (answered : Answered) → SuitsAll worlds old → IsTrueAt worlds old.rounds ticket page → Answers old new ticket page answered → OwesAfterAnswer (account_of worlds old) (account_of worlds new) ticket answered
answered-owes worlds old new ticket page Stranger s told a = ap (account_of worlds) a.0
answered-owes worlds old new ticket page Taken s told a = elim a [
  | inl t ↦ after-one (λ f. EndsTicket (account_of worlds old) (account_of worlds f) ticket) old new ticket page t (open-owes old t.rounds ticket page t.stays worlds)
  | inr t ↦ after-last (λ f. EndsTicket (account_of worlds old) (account_of worlds f) ticket) old new ticket page t (last-owes old t.join t.rounds t.after t.answered ticket page t.comes t.joins worlds s told)
]

answered-stands : (old new : FederationData) (ticket : ℕ) (page : Page) (answered : Answered) → Answers old new ticket page answered → StandsAfterAnswer (standing_of old) (standing_of new) ticket answered
answered-stands old new ticket page Stranger a = (ap standing_of a.0, a.1)
answered-stands old new ticket page Taken a = elim a [
  | inl t ↦ after-one (λ f. EndsNumber (standing_of old) (standing_of f) ticket) old new ticket page t (open-stands old t.rounds ticket page t.stays)
  | inr t ↦ after-last (λ f. EndsNumber (standing_of old) (standing_of f) ticket) old new ticket page t (last-stands old t.join t.rounds t.after t.answered ticket page t.comes t.joins)
]

answered-keeps : (terms : Terms) (old new : FederationData) (ticket : ℕ) (page : Page) (answered : Answered) → NextAtHome terms.homes page.next → KeepsAll terms old → Answers old new ticket page answered → KeepsAll terms new
answered-keeps terms old new ticket page Stranger home k a = subst (λ (f : FederationData). KeepsAll terms f) (sym a.0) k
answered-keeps terms old new ticket page Taken home k a = elim a [
  | inl t ↦ after-one (KeepsAll terms) old new ticket page t (open-keeps old t.rounds ticket page t.stays terms home k)
  | inr t ↦ after-last (KeepsAll terms) old new ticket page t (last-keeps old t.join t.rounds t.after t.answered ticket page t.comes t.joins terms home k)
]

answered-small : (sizes : Sizes) (old new : FederationData) (ticket : ℕ) (page : Page) (answered : Answered) → KeepsSmall sizes old → Answers old new ticket page answered → KeepsSmall sizes new
answered-small sizes old new ticket page Stranger k a = subst (λ (f : FederationData). KeepsSmall sizes f) (sym a.0) k
answered-small sizes old new ticket page Taken k a = elim a [
  | inl t ↦ after-one (KeepsSmall sizes) old new ticket page t (open-small old t.rounds ticket page t.stays sizes k)
  | inr t ↦ after-last (KeepsSmall sizes) old new ticket page t (last-small old t.join t.rounds t.after t.answered ticket page t.comes t.joins sizes k)
]

-- ---- what a call gives

module _ {E : Type 0} (old new : FederationData) (ticket : ℕ) (page : Page) (result : Result Answered E) (h : IfOk result (Answers old new ticket page)) where
  pub call-suits : (worlds : List World) → SuitsAll worlds old → IsTrueAt worlds old.rounds ticket page → OnOk result (SuitsAll worlds new)
  call-suits worlds s told = by result h where
    by : (r : Result Answered E) → IfOk r (Answers old new ticket page) → OnOk r (SuitsAll worlds new)
    by (Ok answered) a = answered-suits worlds old new ticket page answered s told a
    by (Err e) a = tt

  pub call-owes : (worlds : List World) → SuitsAll worlds old → IsTrueAt worlds old.rounds ticket page → IfOk result (OwesAfterAnswer (account_of worlds old) (account_of worlds new) ticket)
  call-owes worlds s told = by result h where
    by : (r : Result Answered E) → IfOk r (Answers old new ticket page) → IfOk r (OwesAfterAnswer (account_of worlds old) (account_of worlds new) ticket)
    by (Ok answered) a = answered-owes worlds old new ticket page answered s told a
    by (Err e) a = tt

  pub call-stands : IfOk result (StandsAfterAnswer (standing_of old) (standing_of new) ticket)
  call-stands = by result h where
    by : (r : Result Answered E) → IfOk r (Answers old new ticket page) → IfOk r (StandsAfterAnswer (standing_of old) (standing_of new) ticket)
    by (Ok answered) a = answered-stands old new ticket page answered a
    by (Err e) a = tt

  pub call-keeps : (terms : Terms) → KeepsAll terms old → NextAtHome terms.homes page.next → OnOk result (KeepsAll terms new)
  call-keeps terms k home = by result h where
    by : (r : Result Answered E) → IfOk r (Answers old new ticket page) → OnOk r (KeepsAll terms new)
    by (Ok answered) a = answered-keeps terms old new ticket page answered home k a
    by (Err e) a = tt

  pub call-small : (sizes : Sizes) → KeepsSmall sizes old → OnOk result (KeepsSmall sizes new)
  call-small sizes k = by result h where
    by : (r : Result Answered E) → IfOk r (Answers old new ticket page) → OnOk r (KeepsSmall sizes new)
    by (Ok answered) a = answered-small sizes old new ticket page answered k a
    by (Err e) a = tt
