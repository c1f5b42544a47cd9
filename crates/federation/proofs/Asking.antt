-- A federation that hands out an address.
use Rattle.std.proofs.Common.{ℕ, ◌≡◌, ◌+◌, ◌*◌, ◌<◌, ◌≤◌, inl, inr, Bool, true, ◌&&◌, List, [], ◌∷◌, ◌++◌, length, Option, Some, None, Ok, Err, refl, ap, ap₂, sym, subst, ◌∙◌, arith, append_assoc, ⊎_elim}
use Rattle.std.specs.Prelude.{◌==◌, Result, IfOk, OnOk}
use Rattle.std.specs.List.{All, Contains}
use Rattle.std.specs.List.Sorted.{IsPermutation}
use Rattle.std.proofs.Math.Nat.{mul-pos}
use Rattle.std.proofs.lemmas.List.Elements.{All-nil, All-cons, All-head, All-push, All-weaker, All-contains, All-get_or}
use Rattle.std.proofs.lemmas.List.Sorted.{IsPermutation-refl, IsPermutation-sym, IsPermutation-trans, IsPermutation-cons, IsPermutation-append_left, IsPermutation-append_right, IsPermutation-map, IsPermutation-to_front, All-permutation, Contains-permutation}
use Rattle.list_laws.proofs.Members.{head_or_tail}
use Rattle.list_laws.proofs.Orders.{same, front, flat_map_IsPermutation}
use Rattle.list_laws.proofs.Tests.{not_both_ways}
use Rattle.tpf_base.specs.Addresses.{Address}
use Rattle.request_plan.specs.declared.evaluation.Ask.{Ask}
use Rattle.request_plan.specs.Rounds.{RoundData, addresses_in}
use Rattle.request_plan.specs.Worlds.{World}
use Rattle.join_core.specs.Nodes.{NodeData}
use Rattle.join_core.specs.Joins.{JoinData, out, left_over, tickets_out, level_at, HandsOut}
use Rattle.join_core.specs.JoinAccounts.{is_over}
use Rattle.join_core.specs.Outcomes.{NothingToAsk}
use Rattle.request_plan.specs.Evaluations.{Terms, Sizes, HasHome, AsksAtHome, HandsOver, NumbersAsk, OwesAfterAsk, StandsAfterAsk, EndsInQuiet}
use Rattle.join_core.specs.Sound.{IsKeptSmall, IsOfDepth}
use Rattle.join_core.proofs.Evaluating.{over-is}
use Rattle.join_core.proofs.Keeping.{nothing-left}
use Rattle.plan_laws.specs.JointWorlds.{joint_world}
use Rattle.joint_pages.specs.Parts.{PartData}
use Rattle.joint_pages.specs.Gatherings.{GatheringData, begun, round_of, tickets_of, outs_of, is_whole}
use Rattle.joint_pages.specs.Truths.{HoldsTrue, IsTruePart}
use Rattle.federation.specs.Federations.{FederationData, SuitsAll, KeepsAll, KeepsSmall, KeepsRound, PageAtHome, IsItsRound, AreSame, times, account_of, standing_of, all_wanted, all_tickets, all_outs, numbers_of}
use Rattle.federation.specs.Changes.{HandsAmong, NoneWant}
use Rattle.federation.specs.Steps.{HasRoom, IsFull, AsksPart, AsksRound, AsksNone, Asks, BeginsRound}
use Rattle.federation.proofs.Lists.{one-of-all, all-changed, all-of-two, front-none, parts-lose, parts-more, same-more, none-stands, count-more}
use Rattle.federation.proofs.Gathered.{handed-outs, handed-tickets, handed-round, handed-true, handed-keeps, handed-home, is-whole}

-- an address of one of the rounds was handed out
abbrev with-part : FederationData → List GatheringData → FederationData
with-part old changed = record { join = old.join; rounds = changed; given = old.given + 1; awaited = old.awaited + 1; most = old.most }

-- the first address of a new round was
abbrev with-round : FederationData → JoinData → GatheringData → FederationData
with-round old j g = record { join = j; rounds = old.rounds ++ g ∷ []; given = old.given + 1; awaited = old.awaited + 1; most = old.most }

-- ---- a round stays what it is

pub its-round : (w : World) (j : JoinData) (old new : GatheringData) → new.number ≡ old.number → round_of new ≡ round_of old → IsItsRound w j old → IsItsRound w j new
its-round w j old new e g is = λ round h. is round (subst (λ (n : ℕ). Contains (out w j) (n, round)) e h) ∙ sym g

pub number-below : (most : ℕ) (old new : GatheringData) → new.number ≡ old.number → old.number < most → new.number < most
number-below most old new e h = subst (λ (n : ℕ). n < most) (sym e) h

-- ---- an address of one of the rounds

module _ (old : FederationData) (changed : List GatheringData) (ticket : ℕ) (address : Address) (h : HandsAmong old.rounds changed ticket address) where
  part-suits : (worlds : List World) → SuitsAll worlds old → SuitsAll worlds (with-part old changed)
  part-suits worlds s =
      let w = joint_world worlds in
      record {
        servers = s.servers;
        join = s.join;
        pages = all-changed (HoldsTrue worlds) old.rounds changed h.others h.round h.after h.was h.now (handed-true worlds h.round h.after ticket address h.hands) s.pages;
        rounds = all-changed (IsItsRound w old.join) old.rounds changed h.others h.round h.after h.was h.now (its-round w old.join h.round h.after h.hands.number (handed-round h.round h.after ticket address h.hands)) s.rounds;
        numbers = all-changed (λ g. g.number < old.join.tickets) old.rounds changed h.others h.round h.after h.was h.now (number-below old.join.tickets h.round h.after h.hands.number) s.numbers;
        tickets = s.tickets;
      }

  part-owes : (worlds : List World) → HandsOver (account_of worlds old) (account_of worlds (with-part old changed)) ticket address
  part-owes worlds = record {
    owed = IsPermutation-refl _;
    left = IsPermutation-append_left (addresses_in (left_over (joint_world worlds) old.join)) (all_wanted old.rounds) (address ∷ all_wanted changed)
        (parts-lose (λ (g : GatheringData). g.wanted) old.rounds changed h.others h.round h.after address h.was h.now (same _ _ h.hands.wanted));
    out = parts-lose outs_of changed old.rounds h.others h.after h.round (ticket, address) h.now h.was (handed-outs h.round h.after ticket address h.hands);
  }

  part-out : IsPermutation (all_tickets changed) (ticket ∷ all_tickets old.rounds)
  part-out = parts-lose tickets_of changed old.rounds h.others h.after h.round ticket h.now h.was (handed-tickets h.round h.after ticket address h.hands)

  part-stands : ticket ≡ old.given → NumbersAsk (standing_of old) (standing_of (with-part old changed)) ticket
  part-stands e = record { number = e; given = refl; out = part-out; waiting = refl }

  part-numbers : (n : ℕ) → times n (numbers_of changed) ≡ times n (numbers_of old.rounds)
  part-numbers n =
      let before : IsPermutation (numbers_of old.rounds) (h.round.number ∷ numbers_of h.others) = IsPermutation-map (λ (g : GatheringData). g.number) old.rounds (h.round ∷ h.others) h.was in
      let after : IsPermutation (numbers_of changed) (h.after.number ∷ numbers_of h.others) = IsPermutation-map (λ (g : GatheringData). g.number) changed (h.after ∷ h.others) h.now in
      same-more h.round.number n (numbers_of h.others) (numbers_of changed) (numbers_of h.others) (numbers_of old.rounds) (subst (λ (m : ℕ). IsPermutation (numbers_of changed) (m ∷ numbers_of h.others)) h.hands.number after) before refl

  part-keeps : (terms : Terms) → ticket ≡ old.given → KeepsAll terms old → KeepsAll terms (with-part old changed)
  part-keeps terms e k = record {
    join = k.join;
    rounds = all-changed (KeepsRound terms.homes) old.rounds changed h.others h.round h.after h.was h.now (λ r. handed-keeps terms.homes h.round h.after ticket address h.hands r.wanted r.pages) k.rounds;
    numbers = λ n. k.numbers n ∙ sym (part-numbers n);
    tickets = All-permutation (λ t. t < old.given + 1) (ticket ∷ all_tickets old.rounds) (all_tickets changed) (IsPermutation-sym _ _ part-out)
        (All-cons (λ t. t < old.given + 1) ticket (all_tickets old.rounds) (omega (arith, e)) (All-weaker (λ t. t < old.given) (λ t. t < old.given + 1) (λ t b. omega (arith, b)) (all_tickets old.rounds) k.tickets));
    counted = count-more ticket old.awaited (all_tickets old.rounds) (all_tickets changed) part-out k.counted;
  }

  part-home : (terms : Terms) → KeepsAll terms old → HasHome terms.homes address
  part-home terms k = handed-home terms.homes h.round h.after ticket address h.hands (one-of-all (KeepsRound terms.homes) old.rounds h.others h.round h.was k.rounds).wanted

-- ---- the first address of a new round

eta : (r : RoundData) → record { addresses = r.addresses; taken = r.taken } ≡ r
eta r = refl

module _ (old : FederationData) (j : JoinData) (g : GatheringData) (ticket : ℕ) (address : Address) (b : BeginsRound old.join j ticket (record { gathering = g; address = address })) where
  -- the number of the new round is that of the next ticket
  new-number : g.number ≡ old.join.tickets
  new-number = b.hands.number ∙ b.joins.numbered.number

  old-stays : (w : World) → HandsOut w old.join j b.ask.ticket b.ask.round → (x : GatheringData) → IsItsRound w old.join x → x.number < old.join.tickets → IsItsRound w j x
  old-stays w handed x is below = λ round m.
      ⊎_elim
      (λ (e : (b.ask.ticket, b.ask.round) ≡ (x.number, round)). absurd (omega (arith, ap (λ (o : ℕ × RoundData). o.0) e, b.joins.numbered.number, below)))
      (λ (c : Contains (out w old.join) (x.number, round)). is round c)
      (head_or_tail (b.ask.ticket, b.ask.round) (x.number, round) (out w old.join) (Contains-permutation (out w j) ((b.ask.ticket, b.ask.round) ∷ out w old.join) (x.number, round) handed.out m))

  new-is : (w : World) → HandsOut w old.join j b.ask.ticket b.ask.round → All (λ o. o.0 < old.join.tickets) (out w old.join) → IsItsRound w j g
  new-is w handed below = λ round m.
      ⊎_elim
      (λ (e : (b.ask.ticket, b.ask.round) ≡ (g.number, round)). sym (ap (λ (o : ℕ × RoundData). o.1) e) ∙ sym (handed-round (begun b.ask) g ticket address b.hands ∙ eta b.ask.round))
      (λ (c : Contains (out w old.join) (g.number, round)). absurd (omega (arith, new-number, All-contains (λ (o : ℕ × RoundData). o.0 < old.join.tickets) (out w old.join) (g.number, round) below c)))
      (head_or_tail (b.ask.ticket, b.ask.round) (g.number, round) (out w old.join) (Contains-permutation (out w j) ((b.ask.ticket, b.ask.round) ∷ out w old.join) (g.number, round) handed.out m))

  round-suits : (worlds : List World) → SuitsAll worlds old → SuitsAll worlds (with-round old j g)
  round-suits worlds s =
      let w = joint_world worlds in
      let handed = b.joins.handed w s.join in
      let next = b.joins.numbered.next in
      record {
        servers = s.servers;
        join = handed.suits;
        pages = All-push (HoldsTrue worlds) old.rounds g s.pages (handed-true worlds (begun b.ask) g ticket address b.hands (All-nil (IsTruePart worlds)));
        rounds = All-push (IsItsRound w j) old.rounds g (all-of-two (IsItsRound w old.join) (λ x. x.number < old.join.tickets) (IsItsRound w j) (old-stays w handed) old.rounds s.rounds s.numbers) (new-is w handed s.tickets);
        numbers = All-push (λ x. x.number < j.tickets) old.rounds g (All-weaker (λ x. x.number < old.join.tickets) (λ x. x.number < j.tickets) (λ x below. omega (arith, below, next)) old.rounds s.numbers) (omega (arith, new-number, next));
        tickets = All-permutation (λ o. o.0 < j.tickets) ((b.ask.ticket, b.ask.round) ∷ out w old.join) (out w j) (IsPermutation-sym _ _ handed.out)
            (All-cons (λ (o : ℕ × RoundData). o.0 < j.tickets) (b.ask.ticket, b.ask.round) (out w old.join) (omega (arith, b.joins.numbered.number, next)) (All-weaker (λ (o : ℕ × RoundData). o.0 < old.join.tickets) (λ (o : ℕ × RoundData). o.0 < j.tickets) (λ o below. omega (arith, below, next)) (out w old.join) s.tickets));
      }

  -- of the rounds that are left one goes, and all its addresses but the first are wanted
  round-left : (w : World) → HandsOut w old.join j b.ask.ticket b.ask.round
      → IsPermutation (all_wanted old.rounds ++ addresses_in (left_over w old.join)) (address ∷ (all_wanted (old.rounds ++ g ∷ []) ++ addresses_in (left_over w j)))
  round-left w handed =
      let wanted = all_wanted old.rounds in
      let rest = addresses_in (left_over w j) in
      let one : IsPermutation (addresses_in (left_over w old.join)) (b.ask.round.addresses ++ rest) = flat_map_IsPermutation (λ (r : RoundData). r.addresses) (left_over w old.join) (b.ask.round ∷ left_over w j) handed.left in
      let two : IsPermutation (addresses_in (left_over w old.join)) ((address ∷ g.wanted) ++ rest) = subst (λ (l : List Address). IsPermutation (addresses_in (left_over w old.join)) (l ++ rest)) b.hands.wanted one in
      let three = IsPermutation-append_right wanted (addresses_in (left_over w old.join)) ((address ∷ g.wanted) ++ rest) two in
      let four : IsPermutation (wanted ++ ((address ∷ g.wanted) ++ rest)) (address ∷ (g.wanted ++ (wanted ++ rest))) = front wanted (address ∷ g.wanted) rest in
      let more : IsPermutation (all_wanted (old.rounds ++ g ∷ [])) (g.wanted ++ wanted) = parts-more (λ (x : GatheringData). x.wanted) old.rounds g in
      let five : IsPermutation (all_wanted (old.rounds ++ g ∷ []) ++ rest) (g.wanted ++ (wanted ++ rest)) =
      IsPermutation-trans _ _ _ (IsPermutation-append_left rest (all_wanted (old.rounds ++ g ∷ [])) (g.wanted ++ wanted) more) (same _ _ (append_assoc g.wanted wanted rest)) in
      IsPermutation-trans _ _ _ three (IsPermutation-trans _ _ _ four (IsPermutation-cons address _ _ (IsPermutation-sym _ _ five)))

  round-outs : IsPermutation (all_outs (old.rounds ++ g ∷ [])) ((ticket, address) ∷ all_outs old.rounds)
  round-outs = IsPermutation-trans _ _ _ (parts-more outs_of old.rounds g) (IsPermutation-append_left (all_outs old.rounds) (outs_of g) ((ticket, address) ∷ []) (handed-outs (begun b.ask) g ticket address b.hands))

  round-out : IsPermutation (all_tickets (old.rounds ++ g ∷ [])) (ticket ∷ all_tickets old.rounds)
  round-out = IsPermutation-trans _ _ _ (parts-more tickets_of old.rounds g) (IsPermutation-append_left (all_tickets old.rounds) (tickets_of g) (ticket ∷ []) (handed-tickets (begun b.ask) g ticket address b.hands))

  round-owes : (worlds : List World) → SuitsAll worlds old → HandsOver (account_of worlds old) (account_of worlds (with-round old j g)) ticket address
  round-owes worlds s = let handed = b.joins.handed (joint_world worlds) s.join in record { owed = handed.owed; left = round-left (joint_world worlds) handed; out = round-outs }

  round-stands : ticket ≡ old.given → NumbersAsk (standing_of old) (standing_of (with-round old j g)) ticket
  round-stands e = record { number = e; given = refl; out = round-out; waiting = ap (λ (x : JoinData). length x.waiting) b.joins.starts.done }

  round-numbers : AreSame (tickets_out old.join) (numbers_of old.rounds) → AreSame (tickets_out j) (numbers_of (old.rounds ++ g ∷ []))
  round-numbers k = λ n.
      let more : IsPermutation (numbers_of (old.rounds ++ g ∷ [])) (g.number ∷ numbers_of old.rounds) = IsPermutation-map (λ (x : GatheringData). x.number) (old.rounds ++ g ∷ []) (g ∷ old.rounds) (IsPermutation-to_front old.rounds g) in
      same-more b.ask.ticket n (tickets_out old.join) (tickets_out j) (numbers_of old.rounds) (numbers_of (old.rounds ++ g ∷ [])) b.joins.numbered.out (subst (λ (m : ℕ). IsPermutation (numbers_of (old.rounds ++ g ∷ [])) (m ∷ numbers_of old.rounds)) b.hands.number more) (k n)

  round-keeps : (terms : Terms) → ticket ≡ old.given → KeepsAll terms old → KeepsAll terms (with-round old j g)
  round-keeps terms e k = record {
    join = b.joins.keeps terms k.join;
    rounds = All-push (KeepsRound terms.homes) old.rounds g k.rounds (handed-keeps terms.homes (begun b.ask) g ticket address b.hands (b.joins.at_home terms k.join) (All-nil (λ (p : PartData). PageAtHome terms.homes p.page)));
    numbers = round-numbers k.numbers;
    tickets = All-permutation (λ t. t < old.given + 1) (ticket ∷ all_tickets old.rounds) (all_tickets (old.rounds ++ g ∷ [])) (IsPermutation-sym _ _ round-out)
        (All-cons (λ t. t < old.given + 1) ticket (all_tickets old.rounds) (omega (arith, e)) (All-weaker (λ t. t < old.given) (λ t. t < old.given + 1) (λ t below. omega (arith, below)) (all_tickets old.rounds) k.tickets));
    counted = count-more ticket old.awaited (all_tickets old.rounds) (all_tickets (old.rounds ++ g ∷ [])) round-out k.counted;
  }

  round-home : (terms : Terms) → KeepsAll terms old → HasHome terms.homes address
  round-home terms k = handed-home terms.homes (begun b.ask) g ticket address b.hands (b.joins.at_home terms k.join)

  -- where a round is handed out there is a node, and so a pattern
  some-pattern : (n m : ℕ) → IsKeptSmall n m old.join → 0 < n
  some-pattern n m k =
      let a = b.joins.starts in
      let level = level_at old.join.levels a.depth in
      let is : IsOfDepth n a.depth a.asker = subst (λ (x : NodeData). IsOfDepth n a.depth x) (sym a.at) (All-get_or (IsOfDepth n a.depth) level a.index a.asker a.stands.within (k.depths a.depth)) in
      let below = is.1 in
      omega (arith, below)

  round-small-join : (n : ℕ) → IsKeptSmall n old.join.longest old.join → IsKeptSmall n j.longest j
  round-small-join n k = subst (λ (m : ℕ). IsKeptSmall n m j) (sym (ap (λ (x : JoinData). x.longest) b.joins.starts.done)) (b.joins.small n old.join.longest k)

-- ---- the bound

few-more : (sizes : Sizes) (old : FederationData) → HasRoom old → 0 < sizes.patterns → KeepsSmall sizes old → length (all_tickets old.rounds) + 1 ≤ sizes.patterns * sizes.window
few-more sizes old (inl e) some k = let all : 0 < sizes.patterns * sizes.window = mul-pos some k.window in let counted = k.counted in omega (arith, all, counted, e)
few-more sizes old (inr h) some k = let most = k.most in let counted = k.counted in omega (arith, most, counted, h)

few-after : (sizes : Sizes) (old : FederationData) (changed : List GatheringData) (ticket : ℕ) → HasRoom old → 0 < sizes.patterns → KeepsSmall sizes old → IsPermutation (all_tickets changed) (ticket ∷ all_tickets old.rounds) → length (all_tickets changed) ≤ sizes.patterns * sizes.window
few-after sizes old changed ticket room some k h = let more = few-more sizes old room some k in let long = count-more ticket (length (all_tickets old.rounds)) (all_tickets old.rounds) (all_tickets changed) h refl in omega (arith, more, long)

part-small : (sizes : Sizes) (old : FederationData) (changed : List GatheringData) (ticket : ℕ) (address : Address) → HandsAmong old.rounds changed ticket address → HasRoom old → KeepsSmall sizes old → KeepsSmall sizes (with-part old changed)
part-small sizes old changed ticket address h room k =
    let some : 0 < sizes.patterns = one-of-all (λ g. 0 < sizes.patterns) old.rounds h.others h.round h.was k.rounds in
    let out = part-out old changed ticket address h in
    record {
      join = k.join;
      window = k.window;
      most = k.most;
      rounds = all-changed (λ g. 0 < sizes.patterns) old.rounds changed h.others h.round h.after h.was h.now (λ is. is) k.rounds;
      counted = count-more ticket old.awaited (all_tickets old.rounds) (all_tickets changed) out k.counted;
      few = few-after sizes old changed ticket room some k out;
    }

round-small : (sizes : Sizes) (old : FederationData) (j : JoinData) (g : GatheringData) (ticket : ℕ) (address : Address) → BeginsRound old.join j ticket (record { gathering = g; address = address }) → HasRoom old → KeepsSmall sizes old → KeepsSmall sizes (with-round old j g)
round-small sizes old j g ticket address b room k =
    let some : 0 < sizes.patterns = some-pattern old j g ticket address b sizes.patterns old.join.longest k.join in
    let out = round-out old j g ticket address b in
    record {
      join = round-small-join old j g ticket address b sizes.patterns k.join;
      window = k.window;
      most = k.most;
      rounds = All-push (λ x. 0 < sizes.patterns) old.rounds g k.rounds some;
      counted = count-more ticket old.awaited (all_tickets old.rounds) (all_tickets (old.rounds ++ g ∷ [])) out k.counted;
      few = few-after sizes old (old.rounds ++ g ∷ []) ticket room some k out;
    }

-- ---- either of them

module _ (P : FederationData → Type 0) where
  -- what holds after each holds of what an ask leaves
  after-part : (old new : FederationData) (ticket : ℕ) (address : Address) → (a : AsksPart old new ticket address) → P (with-part old a.rounds) → P new
  after-part old new ticket address a p = subst P (sym a.done) p

  after-round : (old new : FederationData) (ticket : ℕ) (address : Address) → (a : AsksRound old new ticket address) → P (with-round old a.join a.gathering) → P new
  after-round old new ticket address a p = subst P (sym a.done) p

asked-suits : (worlds : List World) (old new : FederationData) (ask : Option Ask) → SuitsAll worlds old → Asks old new ask → SuitsAll worlds new
asked-suits worlds old new None s a = subst (λ (f : FederationData). SuitsAll worlds f) (sym a.same) s
asked-suits worlds old new (Some ask) s a = elim a.asked [
  | inl p ↦ after-part (SuitsAll worlds) old new ask.ticket ask.address p (part-suits old p.rounds ask.ticket ask.address p.hands worlds s)
  | inr r ↦ after-round (SuitsAll worlds) old new ask.ticket ask.address r (round-suits old r.join r.gathering ask.ticket ask.address r.begins worlds s)
]

asked-owes : (worlds : List World) (old new : FederationData) (ask : Option Ask) → SuitsAll worlds old → Asks old new ask → OwesAfterAsk (account_of worlds old) (account_of worlds new) ask
asked-owes worlds old new None s a = ap (account_of worlds) a.same
asked-owes worlds old new (Some ask) s a = elim a.asked [
  | inl p ↦ after-part (λ f. HandsOver (account_of worlds old) (account_of worlds f) ask.ticket ask.address) old new ask.ticket ask.address p (part-owes old p.rounds ask.ticket ask.address p.hands worlds)
  | inr r ↦ after-round (λ f. HandsOver (account_of worlds old) (account_of worlds f) ask.ticket ask.address) old new ask.ticket ask.address r (round-owes old r.join r.gathering ask.ticket ask.address r.begins worlds s)
]

asked-stands : (old new : FederationData) (ask : Option Ask) → Asks old new ask → StandsAfterAsk (standing_of old) (standing_of new) ask
asked-stands old new None a = ap standing_of a.same
asked-stands old new (Some ask) a = elim a.asked [
  | inl p ↦ after-part (λ f. NumbersAsk (standing_of old) (standing_of f) ask.ticket) old new ask.ticket ask.address p (part-stands old p.rounds ask.ticket ask.address p.hands p.number)
  | inr r ↦ after-round (λ f. NumbersAsk (standing_of old) (standing_of f) ask.ticket) old new ask.ticket ask.address r (round-stands old r.join r.gathering ask.ticket ask.address r.begins r.number)
]

asked-keeps : (terms : Terms) (old new : FederationData) (ask : Option Ask) → KeepsAll terms old → Asks old new ask → KeepsAll terms new
asked-keeps terms old new None k a = subst (λ (f : FederationData). KeepsAll terms f) (sym a.same) k
asked-keeps terms old new (Some ask) k a = elim a.asked [
  | inl p ↦ after-part (KeepsAll terms) old new ask.ticket ask.address p (part-keeps old p.rounds ask.ticket ask.address p.hands terms p.number k)
  | inr r ↦ after-round (KeepsAll terms) old new ask.ticket ask.address r (round-keeps old r.join r.gathering ask.ticket ask.address r.begins terms r.number k)
]

asked-home : (terms : Terms) (old new : FederationData) (ask : Option Ask) → KeepsAll terms old → Asks old new ask → AsksAtHome terms.homes ask
asked-home terms old new None k a = tt
asked-home terms old new (Some ask) k a = elim a.asked [
  | inl p ↦ part-home old p.rounds ask.ticket ask.address p.hands terms k
  | inr r ↦ round-home old r.join r.gathering ask.ticket ask.address r.begins terms k
]

asked-small : (sizes : Sizes) (old new : FederationData) (ask : Option Ask) → KeepsSmall sizes old → Asks old new ask → KeepsSmall sizes new
asked-small sizes old new None k a = subst (λ (f : FederationData). KeepsSmall sizes f) (sym a.same) k
asked-small sizes old new (Some ask) k a = elim a.asked [
  | inl p ↦ after-part (KeepsSmall sizes) old new ask.ticket ask.address p (part-small sizes old p.rounds ask.ticket ask.address p.hands a.room k)
  | inr r ↦ after-round (KeepsSmall sizes) old new ask.ticket ask.address r (round-small sizes old r.join r.gathering ask.ticket ask.address r.begins a.room k)
]

-- ---- nothing to ask for

-- where no ticket is out and no address is wanted, no round is gathered
no-rounds : (homes : List Address) (rounds : List GatheringData) → All (KeepsRound homes) rounds → NoneWant rounds → all_tickets rounds ≡ [] → rounds ≡ []
no-rounds homes [] k none e = refl
no-rounds homes (g ∷ rounds) k none e =
    absurd (not_both_ways (is_whole g) (is-whole g (All-head (λ (x : GatheringData). x.wanted ≡ []) g rounds none) (front-none (tickets_of g) (all_tickets rounds) e)) (All-head (KeepsRound homes) g rounds k).open_still)

idle-over : (terms : Terms) (old : FederationData) → KeepsAll terms old → NoneWant old.rounds → NothingToAsk old.join → EndsInQuiet (standing_of old)
idle-over terms old k none nothing = λ e waits.
    let empty : old.rounds ≡ [] = no-rounds terms.homes old.rounds k.rounds none e in
    let no-out : tickets_out old.join ≡ [] = none-stands (tickets_out old.join) (λ n. k.numbers n ∙ ap (λ (l : List GatheringData). times n (numbers_of l)) empty) in
    let ended : is_over old.join ≡ true = over-is old.join waits (nothing-left terms old.join k.join nothing no-out) in
    ap₂ (λ (b : Bool) (l : List GatheringData). b && (length l == 0)) ended empty

full-out : (terms : Terms) (old : FederationData) → KeepsAll terms old → IsFull old → EndsInQuiet (standing_of old)
full-out terms old k full = λ e waits. let none : length (all_tickets old.rounds) ≡ 0 = ap (λ (l : List ℕ). length l) e in let counted = k.counted in let some = full.some in absurd (omega (arith, none, counted, some))

quiet : (terms : Terms) (old new : FederationData) → KeepsAll terms old → AsksNone old new → EndsInQuiet (standing_of old)
quiet terms old new k a = elim a.ends [
  | inl full ↦ full-out terms old k full
  | inr idle ↦ idle-over terms old k idle.0 idle.1
]

-- ---- what a call gives

module _ {E : Type 0} (old new : FederationData) (result : Result (Option Ask) E) (h : IfOk result (Asks old new)) where
  pub call-suits : (worlds : List World) → SuitsAll worlds old → OnOk result (SuitsAll worlds new)
  call-suits worlds s = by result h where
    by : (r : Result (Option Ask) E) → IfOk r (Asks old new) → OnOk r (SuitsAll worlds new)
    by (Ok ask) a = asked-suits worlds old new ask s a
    by (Err e) a = tt

  pub call-owes : (worlds : List World) → SuitsAll worlds old → IfOk result (OwesAfterAsk (account_of worlds old) (account_of worlds new))
  call-owes worlds s = by result h where
    by : (r : Result (Option Ask) E) → IfOk r (Asks old new) → IfOk r (OwesAfterAsk (account_of worlds old) (account_of worlds new))
    by (Ok ask) a = asked-owes worlds old new ask s a
    by (Err e) a = tt

  pub call-stands : IfOk result (StandsAfterAsk (standing_of old) (standing_of new))
  call-stands = by result h where
    by : (r : Result (Option Ask) E) → IfOk r (Asks old new) → IfOk r (StandsAfterAsk (standing_of old) (standing_of new))
    by (Ok ask) a = asked-stands old new ask a
    by (Err e) a = tt

  pub call-keeps : (terms : Terms) → KeepsAll terms old → OnOk result (KeepsAll terms new)
  call-keeps terms k = by result h where
    by : (r : Result (Option Ask) E) → IfOk r (Asks old new) → OnOk r (KeepsAll terms new)
    by (Ok ask) a = asked-keeps terms old new ask k a
    by (Err e) a = tt

  pub call-home : (terms : Terms) → KeepsAll terms old → IfOk result (AsksAtHome terms.homes)
  call-home terms k = by result h where
    by : (r : Result (Option Ask) E) → IfOk r (Asks old new) → IfOk r (AsksAtHome terms.homes)
    by (Ok ask) a = asked-home terms old new ask k a
    by (Err e) a = tt

  pub call-small : (sizes : Sizes) → KeepsSmall sizes old → OnOk result (KeepsSmall sizes new)
  call-small sizes k = by result h where
    by : (r : Result (Option Ask) E) → IfOk r (Asks old new) → OnOk r (KeepsSmall sizes new)
    by (Ok ask) a = asked-small sizes old new ask k a
    by (Err e) a = tt

  pub call-quiet : (terms : Terms) → KeepsAll terms old → result ≡ Ok None → EndsInQuiet (standing_of old)
  call-quiet terms k e = quiet terms old new k (subst (λ (r : Result (Option Ask) E). IfOk r (Asks old new)) e h)
