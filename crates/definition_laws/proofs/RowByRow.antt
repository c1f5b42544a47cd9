-- In blocks of one row the plan is that row by row.
use Rattle.std.proofs.Common.{ℕ, zero, suc, ◌≡◌, Bool, true, false, List, [], ◌∷◌, ◌++◌, map, get_or, length, ◌-◌, refl, ap, sym, ◌∙◌, append-nil}
use Rattle.std.specs.List.{flat_map, remove}
use Rattle.rdf_terms.specs.declared.term.Triple.{Triple}
use Rattle.rdf_terms.specs.Selections.{all_of}
use Rattle.bgp_core.specs.declared.pattern.Pattern.{Pattern}
use Rattle.bgp_core.specs.Solutions.{Places, extension, rows_from}
use Rattle.bgp_core.specs.Instances.{instance}
use Rattle.bgp_core.proofs.Patterns.{flat_map-same, flat_map-filter}
use Rattle.request_plan.specs.Rounds.{RoundData, addresses_in}
use Rattle.request_plan.specs.Worlds.{World, numbers, items_after, cut_of}
use Rattle.request_plan.specs.Plans.{found, all_askable, askable_rows, least, plan_for, plans_over, page_plans, rounds_after}
use Rattle.request_plan.specs.RowPlans.{row_counts, row_plan_for, BlocksOfOneAreRows}
use Rattle.request_plan.proofs.Cuts.{of-one}
use Rattle.request_plan.proofs.Lists.{flat_map-flat_map}
use Rattle.request_plan.proofs.Under.{over-found}

-- ---- blocks of one

over-ones : {A : Type 0} (f : List Places → List A) (rows : List Places) → flat_map f (map (λ row. row ∷ []) rows) ≡ flat_map (λ row. f (row ∷ [])) rows
over-ones f [] = refl
over-ones f (row ∷ rows) = ap (λ x. f (row ∷ []) ++ x) (over-ones f rows)

none-asked : (w : World) (n : ℕ) (ps : List Pattern) (row : Places) → all_askable row ps ≡ false → row_plan_for w n ps row ≡ []
none-asked w zero ps row h = refl
none-asked w (suc n) [] row h = refl
none-asked w (suc n) (p ∷ ps) row h = rw h refl

-- the plans under one row are those row by row
abbrev OneRow : World → ℕ → Type 0
OneRow w n = (ps : List Pattern) (row : Places) → plan_for w n ps (row ∷ []) ≡ row_plan_for w n ps row

-- what the plans of a page are
of-page : (w : World) → w.block ≡ 1 → (n : ℕ) → OneRow w n → (p : Pattern) (others : List Pattern) (row : Places) (ts : List Triple) →
    page_plans (cut_of w) (plan_for w n) p others (row ∷ []) ts ≡ flat_map (λ t. rows_from (extension p row t) (row_plan_for w n others)) ts
of-page w one n below p others row ts =
    let rows = found p (row ∷ []) ts in
    let f = row_plan_for w n others in
    ap (λ (l : List (List Places)). flat_map (plan_for w n others) l) (of-one (cut_of w) others (askable_rows others rows) one)
    ∙ over-ones (plan_for w n others) (askable_rows others rows)
    ∙ flat_map-same _ _ (askable_rows others rows) (λ r. below others r)
    ∙ flat_map-filter f (λ r. all_askable r others) rows (λ r no. none-asked w n others r no)
    ∙ over-found f p (row ∷ []) ts
    ∙ flat_map-same _ _ ts (λ t. append-nil (rows_from (extension p row t) f))

over-plans : (w : World) → w.block ≡ 1 → (n : ℕ) → OneRow w n → (p : Pattern) (others : List Pattern) (row : Places) →
    plans_over w (plan_for w n) p others (row ∷ []) 0 ≡ flat_map (λ t. rows_from (extension p row t) (row_plan_for w n others)) (items_after w (all_of (instance p row)) 0)
over-plans w one n below p others row =
    let s = all_of (instance p row) in
    let g = λ (t : Triple). rows_from (extension p row t) (row_plan_for w n others) in
    flat_map-same _ _ (numbers 0 (w.last s - 0)) (λ k. of-page w one n below p others row (w.items s k)) ∙ sym (flat_map-flat_map (w.items s) g (numbers 0 (w.last s - 0)))

-- ---- the plan

asked-or-not : (w : World) → w.block ≡ 1 → (n : ℕ) → OneRow w n → (p : Pattern) (ps : List Pattern) (row : Places) (b : Bool) → all_askable row (p ∷ ps) ≡ b → plan_for w (suc n) (p ∷ ps) (row ∷ []) ≡ row_plan_for w (suc n) (p ∷ ps) row
asked-or-not w one n below p ps row false e = rw e refl
asked-or-not w one n below p ps row true e =
    let i = least (row_counts w row (p ∷ ps)) in
    let q = get_or (p ∷ ps) i p in
    let s = all_of (instance q row) in
    rw e (ap (λ (l : List RoundData). map (λ q. w.round (all_of (instance q row)) 1) (p ∷ ps) ++ (rounds_after w s 1 ++ l)) (over-plans w one n below q (remove (p ∷ ps) i) row))

same-for : (w : World) → w.block ≡ 1 → (n : ℕ) → OneRow w n
same-for w one zero ps row = refl
same-for w one (suc n) [] row = refl
same-for w one (suc n) (p ∷ ps) row = asked-or-not w one n (same-for w one n) p ps row (all_askable row (p ∷ ps)) refl

pub ones-are-rows : BlocksOfOneAreRows
ones-are-rows w ps row one = ap addresses_in (same-for w one (length ps) ps row)
