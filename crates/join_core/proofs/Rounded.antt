-- Each round that is left to ask is one of the world's.
use Rattle.std.proofs.Common.{ℕ, zero, suc, ◌≡◌, ◌+◌, ◌-◌, slice_index_or, List, [], ◌∷◌, ◌++◌, length, map, drop, Some, None, ap, sym, ◌∙◌, ⊎_elim}
use Rattle.std.specs.List.{remove, Contains}
use Rattle.std.specs.List.Sorted.{IsPermutation}
use Rattle.std.proofs.lemmas.List.Elements.{All-contains, Contains-append_cases}
use Rattle.std.proofs.lemmas.List.Sorted.{IsPermutation-sym, Contains-permutation}
use Rattle.list_laws.proofs.Members.{none_in, at_head, head_or_tail, from_map, from_flat_map}
use Rattle.rdf_terms.specs.Selections.{Selection}
use Rattle.tpf_base.specs.Addresses.{Address}
use Rattle.bgp_core.specs.declared.pattern.Pattern.{Pattern}
use Rattle.bgp_core.specs.Solutions.{Places}
use Rattle.request_plan.specs.Rounds.{RoundData, round_of_one}
use Rattle.request_plan.specs.Blocks.{selection_for}
use Rattle.request_plan.specs.Worlds.{World, IsOneServer, numbers, cut_of}
use Rattle.join_core.specs.declared.first.First.{First}
use Rattle.join_core.specs.declared.first.First.TheVariants.{Out, Got}
use Rattle.request_plan.specs.Plans.{rounds_after, first_rounds, askable_rows, least, counts, Plans, page_blocks, page_plans, plans_over, chosen_plan, asking_plan, plan_for, round_plan}
use Rattle.join_core.specs.Nodes.{Holds, Stage, NodeData, node, taken, left_of, left}
use Rattle.join_core.specs.Nodes.Stage.{Asking, Walking}
use Rattle.join_core.specs.Joins.{JoinData, nodes, left_over, first_outs, outs, out, Suits}

pub record IsRoundOf (w : World) (round : RoundData) : Type 0 where
  pub selection : Selection
  pub number : ℕ
  pub is : w.round selection number ≡ round

module _ (w : World) where
  from-first : (rows : List Places) (ps : List Pattern) (r : RoundData) → Contains (first_rounds w rows ps) r → IsRoundOf w r
  from-first rows ps r h = let m = from_map (λ (p : Pattern). w.round (selection_for p rows) 1) ps r h in record { selection = selection_for m.0 rows; number = 1; is = m.2 }

  from-after : (s : Selection) (ns : List ℕ) (r : RoundData) → Contains (map (w.round s) ns) r → IsRoundOf w r
  from-after s ns r h = let m = from_map (w.round s) ns r h in record { selection = s; number = m.0; is = m.2 }

  abbrev AllRounds : Plans → Type 0
  AllRounds plans = (ps : List Pattern) (rows : List Places) (r : RoundData) → Contains (plans ps rows) r → IsRoundOf w r

  from-over : (plans : Plans) → AllRounds plans → (p : Pattern) (others : List Pattern) (rows : List Places) (k : ℕ) (r : RoundData) → Contains (plans_over w plans p others rows k) r → IsRoundOf w r
  from-over plans all p others rows k r h =
      let s = selection_for p rows in
      let page = from_flat_map (λ n. page_plans (cut_of w) plans p others rows (w.items s n)) (numbers k (w.last s - k)) r h in
      let block = from_flat_map (plans others) (page_blocks (cut_of w) p others rows (w.items s page.0)) r page.2 in
      all others block.0 r block.2

  from-either : (xs ys : List RoundData) (r : RoundData) → (Contains xs r → IsRoundOf w r) → (Contains ys r → IsRoundOf w r) → Contains (xs ++ ys) r → IsRoundOf w r
  from-either xs ys r f g h = ⊎_elim f g (Contains-append_cases xs ys r h)

  from-asking : (plans : Plans) → AllRounds plans → (n : ℕ) → AllRounds (asking_plan w plans n)
  from-asking plans all n [] rows r h = absurd (none_in r h)
  from-asking plans all n (p ∷ ps) [] r h = absurd (none_in r h)
  from-asking plans all n (p ∷ ps) (row ∷ rows) r h =
      let i = least (counts w (row ∷ rows) (p ∷ ps)) in
      from-either (first_rounds w (row ∷ rows) (drop n (p ∷ ps))) (chosen_plan w plans i p (p ∷ ps) (row ∷ rows)) r (from-first (row ∷ rows) (drop n (p ∷ ps)) r) (chosen (slice_index_or (p ∷ ps) i p) (remove (p ∷ ps) i) (row ∷ rows)) h where
        chosen : (q : Pattern) (others : List Pattern) (all' : List Places) → Contains (rounds_after w (selection_for q all') 1 ++ plans_over w plans q others all' 0) r → IsRoundOf w r
        chosen q others all' = from-either (rounds_after w (selection_for q all') 1) (plans_over w plans q others all' 0) r (from-after (selection_for q all') (numbers 2 (w.last (selection_for q all') - 1)) r) (from-over plans all q others all' 0 r)

  from-plan-for : (n : ℕ) → AllRounds (plan_for w n)
  from-plan-for zero ps rows r h = absurd (none_in r h)
  from-plan-for (suc n) ps rows r h = from-asking (plan_for w n) (from-plan-for n) 0 ps (askable_rows ps rows) r h

  from-plan : AllRounds (round_plan w)
  from-plan ps rows r h = from-plan-for (length ps) ps rows r h

  from-left : (n : NodeData) (r : RoundData) → Contains (left w n) r → IsRoundOf w r
  from-left n r h = by n.rows n.rest n.stage h where
    by : (rows : List Places) (rest : List Pattern) (s : Stage) → Contains (left_of w rows rest s) r → IsRoundOf w r
    by rows rest (Asking firsts) k = from-asking (round_plan w) from-plan (length firsts) rest rows r k
    by rows rest (Walking p k next o) h =
        let s = selection_for p rows in
        from-either (rounds_after w s (k + taken o)) (plans_over w (round_plan w) p rest rows k) r (from-after s (numbers (suc (k + taken o)) (w.last s - (k + taken o))) r) (from-over (round_plan w) from-plan p rest rows k r) h

  pub left-is-round : (j : JoinData) (r : RoundData) → Contains (left_over w j) r → IsRoundOf w r
  left-is-round j r h = let m = from_flat_map (left w) (nodes j.levels) r h in from-left m.0 r m.2

  from-first-outs : (rows : List Places) (ps : List Pattern) (fs : List First) (t : ℕ) (r : RoundData) → Contains (first_outs w rows ps fs) (t, r) → IsRoundOf w r
  from-first-outs rows [] fs t r h = absurd (none_in (t, r) h)
  from-first-outs rows (p ∷ ps) [] t r h = absurd (none_in (t, r) h)
  from-first-outs rows (p ∷ ps) (Out ticket ∷ fs) t r h = ⊎_elim (λ (e : (ticket, w.round (selection_for p rows) 1) ≡ (t, r)). record { selection = selection_for p rows; number = 1; is = ap (λ (x : ℕ × RoundData). x.1) e }) (λ (m : Contains (first_outs w rows ps fs) (t, r)). from-first-outs rows ps fs t r m) (head_or_tail (ticket, w.round (selection_for p rows) 1) (t, r) (first_outs w rows ps fs) h)
  from-first-outs rows (p ∷ ps) (Got page ∷ fs) t r h = from-first-outs rows ps fs t r h

  from-outs : (rows : List Places) (rest : List Pattern) (s : Stage) → Holds w (node rows rest s) → (t : ℕ) (r : RoundData) → Contains (outs w (node rows rest s)) (t, r) → IsRoundOf w r
  from-outs rows rest (Asking fs) holds t r h = from-first-outs rows rest fs t r h
  from-outs rows rest (Walking p k next None) holds t r h = absurd (none_in (t, r) h)
  from-outs rows rest (Walking p k next (Some ticket)) holds t r h = ⊎_elim (λ (e : (ticket, next) ≡ (t, r)). record { selection = selection_for p rows; number = suc k; is = sym holds.stage.next ∙ ap (λ (x : ℕ × RoundData). x.1) e }) (λ (m : Contains [] (t, r)). absurd (none_in (t, r) m)) (head_or_tail (ticket, next) (t, r) [] h)

  -- so is each round that is out
  pub out-is-round : (j : JoinData) → Suits w j → (t : ℕ) (r : RoundData) → Contains (out w j) (t, r) → IsRoundOf w r
  out-is-round j is t r h =
      let m = from_flat_map (outs w) (nodes j.levels) (t, r) h in
      from-outs m.0.rows m.0.rest m.0.stage (All-contains (Holds w) (nodes j.levels) m.0 is.holds m.1) t r m.2

  -- a round that was left to ask has one address, where one server has the world
  pub one-address-of : IsOneServer w → (j : JoinData) (r : RoundData) (rest : List RoundData) → IsPermutation (left_over w j) (r ∷ rest) → (address : Address) × (r ≡ round_of_one address)
  one-address-of one j r rest perm =
      let i = left-is-round j r (Contains-permutation (r ∷ rest) (left_over w j) r (IsPermutation-sym (left_over w j) (r ∷ rest) perm) (at_head r rest)) in
      let a = one i.selection i.number in
      (a.0, sym i.is ∙ a.1)
