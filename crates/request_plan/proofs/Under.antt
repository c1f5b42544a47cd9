-- Any pattern may be taken first under a block, and what a page makes of a block is cut into blocks.
use Rattle.std.proofs.Common.{ℕ, suc, ◌≡◌, ◌<◌, Bool, true, false, ◌&&◌, List, [], ◌∷◌, length, get_or, Option, Some, None, refl, ap, sym, ◌∙◌, arith, append-nil}
use Rattle.std.specs.List.{flat_map, remove, list_all}
use Rattle.std.specs.List.Sorted.{IsPermutation}
use Rattle.std.proofs.lemmas.List.Sorted.{IsPermutation-trans}
use Rattle.list_laws.proofs.Orders.{same, flat_map_each, flat_map_IsPermutation}
use Rattle.rdf_terms.specs.declared.term.Triple.{Triple}
use Rattle.rdf_terms.specs.Askable.{askable}
use Rattle.rdf_terms.specs.Selections.{all_of}
use Rattle.bgp_core.specs.declared.pattern.Pattern.{Pattern}
use Rattle.bgp_core.specs.Solutions.{Places, extension, rows_from, solutions}
use Rattle.bgp_core.specs.Instances.{instance}
use Rattle.bgp_core.proofs.Patterns.{flat_map-same, turned, solutions-first, flat_map-filter}
use Rattle.request_plan.specs.Blocks.{Cut, blocks, selection_for}
use Rattle.request_plan.specs.Worlds.{World, IsWorld, items_after}
use Rattle.request_plan.specs.Plans.{found, solutions_under, all_askable, askable_rows}
use Rattle.request_plan.proofs.Lists.{flat_map-flat_map, nil_of}
use Rattle.request_plan.proofs.Matching.{given, gives-none}
use Rattle.request_plan.proofs.Cuts.{are-cut}

-- ---- what triples make of a block

from-one : {A : Type 0} (f : Places → List A) (o : Option Places) → flat_map f (rows_from o (λ r. r ∷ [])) ≡ rows_from o f
from-one f None = refl
from-one f (Some r) = append-nil (f r)

pub over-found : {A : Type 0} (f : Places → List A) (p : Pattern) (rows : List Places) (ts : List Triple) → flat_map f (found p rows ts) ≡ flat_map (λ t. flat_map (λ row. rows_from (extension p row t) f) rows) ts
over-found f p rows ts =
    flat_map-flat_map (λ t. flat_map (λ row. rows_from (extension p row t) (λ r. r ∷ [])) rows) f ts
    ∙ flat_map-same _ _ ts (λ t. flat_map-flat_map (λ row. rows_from (extension p row t) (λ r. r ∷ [])) f rows ∙ flat_map-same _ _ rows (λ row. from-one f (extension p row t)))

-- ---- any pattern first

-- over what is given for the block: the solutions under the block are those under what its triples make of it
pub any-first : (w : World) → IsWorld w → (ps : List Pattern) (i : ℕ) (p : Pattern) (rows : List Places) → i < length ps → p ≡ get_or ps i p → IsPermutation (solutions_under w ps rows) (solutions_under w (remove ps i) (found p rows (items_after w (selection_for p rows) 0)))
any-first w is ps i p rows h e =
    let s = selection_for p rows in
    let f = solutions w.triples (remove ps i) in
    let g = λ (row : Places) (t : Triple). rows_from (extension p row t) f in
    let made = λ (t : Triple). flat_map (λ row. rows_from (extension p row t) f) rows in
    let one = flat_map_each (solutions w.triples ps) (λ row. flat_map (g row) w.triples) rows (λ row. solutions-first w.triples ps i p row h e) in
    let two = turned g rows w.triples in
    let three = flat_map-filter made (given w s) w.triples (λ t no. gives-none w is p rows t f no) in
    let four = flat_map_IsPermutation made _ _ (is.fragments s) in
    IsPermutation-trans _ _ _ one (IsPermutation-trans _ _ _ two (IsPermutation-trans _ _ _ (same _ _ (sym three)) (IsPermutation-trans _ _ _ four (same _ _ (sym (over-found f p rows (items_after w s 0)))))))

-- ---- rows that cannot be asked for

Fails : {X : Type 0} → (X → Bool) → List X → Type 0
Fails {X} test xs = (i : ℕ) × (x : X) × (i < length xs) × (x ≡ get_or xs i x) × (test x ≡ false)

later : {X : Type 0} (test : X → Bool) (x : X) (xs : List X) → Fails test xs → Fails test (x ∷ xs)
unfolding Fails
later test x xs f = (suc f.0, f.1, omega (arith, f.2), f.3, f.4)

failure : {X : Type 0} (test : X → Bool) (x : X) (xs : List X) (b : Bool) → test x ≡ b → (b && list_all test xs) ≡ false → (list_all test xs ≡ false → Fails test xs) → Fails test (x ∷ xs)
unfolding Fails
failure test x xs true e h more = later test x xs (more h)
failure test x xs false e h more = (0, x, omega arith, refl, e)

first_failure : {X : Type 0} (test : X → Bool) (xs : List X) → list_all test xs ≡ false → Fails test xs
first_failure test [] h = cc
first_failure test (x ∷ xs) h = failure test x xs (test x) refl h (λ k. first_failure test xs k)

pub no-solution : (w : World) → IsWorld w → (row : Places) (ps : List Pattern) → all_askable row ps ≡ false → solutions w.triples ps row ≡ []
unfolding Fails
no-solution w is row ps h =
    let f = first_failure (λ p. askable (instance p row)) ps h in
    let first = any-first w is ps f.0 f.1 (row ∷ []) f.2 f.3 in
    let none : solutions_under w (remove ps f.0) (found f.1 (row ∷ []) (items_after w (all_of (instance f.1 row)) 0)) ≡ [] =
    ap (λ (ts : List Triple). solutions_under w (remove ps f.0) (found f.1 (row ∷ []) ts)) (is.unasked (all_of (instance f.1 row)) f.4) in
    sym (append-nil (solutions w.triples ps row)) ∙ nil_of _ _ first none

-- what is left out as not askable has no solution
pub unaskable-none : (w : World) → IsWorld w → (ps : List Pattern) (rows : List Places) → solutions_under w ps rows ≡ solutions_under w ps (askable_rows ps rows)
unaskable-none w is ps rows = sym (flat_map-filter (solutions w.triples ps) (λ row. all_askable row ps) rows (λ row no. no-solution w is row ps no))

-- ---- pages

pub over-blocks : {A : Type 0} (f : Places → List A) (cut : Cut) (ps : List Pattern) (rows : List Places) → flat_map f rows ≡ flat_map (λ block. flat_map f block) (blocks cut ps rows)
over-blocks f cut ps rows = ap (λ (l : List Places). flat_map f l) (sym (are-cut cut ps rows).all) ∙ flat_map-flat_map (λ (block : List Places). block) f (blocks cut ps rows)

-- so the solutions under some rows are those of the blocks of the askable ones
pub solutions-split : (w : World) → IsWorld w → (cut : Cut) (ps : List Pattern) (rows : List Places) → solutions_under w ps rows ≡ flat_map (solutions_under w ps) (blocks cut ps (askable_rows ps rows))
solutions-split w is cut ps rows = unaskable-none w is ps rows ∙ over-blocks (solutions w.triples ps) cut ps (askable_rows ps rows)
