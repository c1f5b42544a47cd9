-- A pattern takes a triple under one of some rows only where the server gives it for the block.
use Rattle.std.proofs.Common.{ℕ, zero, suc, ◌≡◌, ◌⊎◌, inl, inr, Bool, true, false, ◌&&◌, cond, List, [], ◌∷◌, ◌++◌, map, Option, Some, None, refl, ap, sym, subst}
use Rattle.std.specs.List.{flat_map, list_any, AllByRecursion}
use Rattle.std.proofs.lemmas.Bool.{and_from, or_cases, or_left, or_right}
use Rattle.list_laws.proofs.Each.{all_so}
use Rattle.list_laws.proofs.Tests.{all_three}
use Rattle.rdf_terms.specs.declared.term.Term.{Term}
use Rattle.rdf_terms.specs.declared.term.Triple.{Triple}
use Rattle.rdf_terms.specs.declared.slots.Slot.{Slot}
use Rattle.rdf_terms.specs.declared.slots.Slot.TheVariants as slots
use Rattle.rdf_terms.specs.declared.slots.Slots.{Slots}
use Rattle.rdf_terms.specs.Slots.{matches_slot, matches}
use Rattle.bgp_core.specs.declared.pattern.Part.{Part}
use Rattle.bgp_core.specs.declared.pattern.Part.TheVariants.{Fixed, Name}
use Rattle.bgp_core.specs.declared.pattern.Pattern.{Pattern}
use Rattle.bgp_core.specs.Solutions.{Places, term_at, extension, rows_from}
use Rattle.bgp_core.specs.Instances.{slot_of, slot, instance}
use Rattle.bgp_core.proofs.Fragments.{extension-matches}
use Rattle.rdf_terms.specs.Selections.{Selection, matches_one}
use Rattle.rdf_terms.proofs.Equality.{term_same}
use Rattle.bgp_core.specs.Instances.{bound_slot, bound_places}
use Rattle.request_plan.specs.Blocks.{slot_eq, slots_eq, distinct_behind, distinct_slots, selection_for}
use Rattle.request_plan.specs.Worlds.{World, IsWorld}

pub three : (a b c : Bool) → (a && (b && c)) ≡ true → (a ≡ true) × (b ≡ true) × (c ≡ true)
three true true true h = (refl, refl, refl)
three true true false h = absurd (cc)
three true false c h = absurd (cc)
three false b c h = absurd (cc)

-- ---- what a row binds, and what the pattern fixes

free : (n : ℕ) (t : Term) → matches_slot (slot_of (term_at [] n)) t ≡ true
free zero t = refl
free (suc n) t = refl

fixed-matches : (row : Places) (p : Part) (t : Term) → matches_slot (slot row p) t ≡ true → matches_slot (slot [] p) t ≡ true
fixed-matches row (Fixed u) t h = h
fixed-matches row (Name n) t h = free n t

bound-matches : (row : Places) (p : Part) (t : Term) → matches_slot (slot row p) t ≡ true → matches_slot (bound_slot row p) t ≡ true
bound-matches row (Fixed u) t h = refl
bound-matches row (Name n) t h = h

pub pattern-matches : (p : Pattern) (row : Places) (t : Triple) → matches (instance p row) t ≡ true → matches (instance p []) t ≡ true
pattern-matches p row t h =
    let e = three _ _ _ h in
    all_three _ _ _ (fixed-matches row p.subject t.subject e.0) (fixed-matches row p.predicate t.predicate e.1) (fixed-matches row p.object t.object e.2)

pub row-matches : (p : Pattern) (row : Places) (t : Triple) → matches (instance p row) t ≡ true → matches (bound_places p row) t ≡ true
row-matches p row t h =
    let e = three _ _ _ h in
    all_three _ _ _ (bound-matches row p.subject t.subject e.0) (bound-matches row p.predicate t.predicate e.1) (bound-matches row p.object t.object e.2)

-- ---- rows that stand twice

slot-same : (a b : Slot) → slot_eq b a ≡ true → a ≡ b
slot-same slots.Any slots.Any h = refl
slot-same slots.Any (slots.Fixed u) h = absurd (cc)
slot-same (slots.Fixed t) slots.Any h = absurd (cc)
slot-same (slots.Fixed t) (slots.Fixed u) h = ap (λ (x : Term). let s : Slot = slots.Fixed x in s) (sym (term_same u t h))

same-matches : (a b : Slots) (t : Triple) → slots_eq b a ≡ true → matches a t ≡ true → matches b t ≡ true
same-matches a b t h m =
    let e = three _ _ _ h in
    let k = three _ _ _ m in
    all_three _ _ _ (subst (λ (s : Slot). matches_slot s t.subject ≡ true) (slot-same a.subject b.subject e.0) k.0)
    (subst (λ (s : Slot). matches_slot s t.predicate ≡ true) (slot-same a.predicate b.predicate e.1) k.1)
    (subst (λ (s : Slot). matches_slot s t.object ≡ true) (slot-same a.object b.object e.2) k.2)

-- a triple that matches a row matches one that stands before, where the row does
found-before : (s : Slots) (before : List Slots) (t : Triple) → list_any (λ other. slots_eq other s) before ≡ true → matches s t ≡ true → matches_one before t ≡ true
found-before s [] t h m = absurd (cc)
found-before s (b ∷ before) t h m = elim (or_cases (slots_eq b s) (list_any (λ other. slots_eq other s) before) h) [
  | inl e ↦ or_left (matches b t) (matches_one before t) (same-matches s b t e m)
  | inr e ↦ or_right (matches b t) (matches_one before t) (found-before s before t e m)
]

pushed : (before : List Slots) (s : Slots) (t : Triple) → matches_one (before ++ s ∷ []) t ≡ true → (matches_one before t ≡ true) ⊎ (matches s t ≡ true)
pushed [] s t h = elim (or_cases (matches s t) false h) [ inl e ↦ inr e | inr e ↦ absurd (cc) ]
pushed (b ∷ before) s t h = elim (or_cases (matches b t) (matches_one (before ++ s ∷ []) t) h) [
  | inl e ↦ inl (or_left (matches b t) (matches_one before t) e)
  | inr e ↦ elim (pushed before s t e) [ inl k ↦ inl (or_right (matches b t) (matches_one before t) k) | inr k ↦ inr k ]
]

Split : List Slots → List Slots → Triple → Type 0
Split before left t = (matches_one before t ≡ true) ⊎ (matches_one left t ≡ true)

there : (before : List Slots) (s : Slots) (ss : List Slots) (t : Triple) (b : Bool) → list_any (λ other. slots_eq other s) before ≡ b → (matches s t ≡ true) ⊎ (matches_one ss t ≡ true)
    → (matches_one ss t ≡ true → Split before (distinct_behind before ss) t)
    → (matches_one ss t ≡ true → Split (before ++ s ∷ []) (distinct_behind (before ++ s ∷ []) ss) t)
    → Split before (cond b (distinct_behind before ss) (s ∷ distinct_behind (before ++ s ∷ []) ss)) t
unfolding Split
there before s ss t true e (inl m) one other = inl (found-before s before t e m)
there before s ss t true e (inr m) one other = one m
there before s ss t false e (inl m) one other = inr (or_left (matches s t) _ m)
there before s ss t false e (inr m) one other = elim (other m) [
  | inl k ↦ elim (pushed before s t k) [ inl x ↦ inl x | inr x ↦ inr (or_left (matches s t) _ x) ]
  | inr k ↦ inr (or_right (matches s t) _ k)
]

behind : (before ss : List Slots) (t : Triple) → matches_one ss t ≡ true → Split before (distinct_behind before ss) t
unfolding Split
behind before [] t h = absurd (cc)
behind before (s ∷ ss) t h = there before s ss t (list_any (λ other. slots_eq other s) before) refl (or_cases (matches s t) (matches_one ss t) h) (behind before ss t) (behind (before ++ s ∷ []) ss t)

pub distinct-matches : (ss : List Slots) (t : Triple) → matches_one ss t ≡ true → matches_one (distinct_slots ss) t ≡ true
unfolding Split
distinct-matches ss t h = elim (behind [] ss t h) [ inl e ↦ absurd (cc) | inr e ↦ e ]

-- ---- a block

one-of : (p : Pattern) (t : Triple) (rows : List Places) → AllByRecursion (λ row. matches (bound_places p row) t ≡ true → matches_one (map (bound_places p) rows) t ≡ true) rows
one-of p t [] = tt
one-of p t (row ∷ rows) = (
  λ m. or_left (matches (bound_places p row) t) (matches_one (map (bound_places p) rows) t) m,
  all_so _ _ (λ x h m. or_right (matches (bound_places p row) t) (matches_one (map (bound_places p) rows) t) (h m)) rows (one-of p t rows),
)

-- the server gives the triple for the selection
abbrev pub given : World → Selection → Triple → Bool
given w s t = matches s.slots t && w.keeps s.rows t

abbrev pub Gives : World → Pattern → Selection → Triple → Places → Type 0
Gives w p s t row = (new : Places) → extension p row t ≡ Some new → given w s t ≡ true

block-gives : (w : World) → IsWorld w → (p : Pattern) (rows : List Places) (t : Triple) → AllByRecursion (Gives w p (selection_for p rows) t) rows
block-gives w is p [] t = tt
block-gives w is p (row ∷ []) t = (λ new e. and_from (matches (instance p row) t) (w.keeps [] t) (extension-matches p row t new e) (is.keeps_all t), tt)
block-gives w is p (row ∷ other ∷ rows) t =
    let all : List Places = row ∷ other ∷ rows in
    all_so _ _ (λ x h new e.
    let m = extension-matches p x t new e in
    and_from (matches (instance p []) t) (w.keeps (distinct_slots (map (bound_places p) all)) t) (pattern-matches p x t m)
    (is.keeps_rows (distinct_slots (map (bound_places p) all)) t (distinct-matches (map (bound_places p) all) t (h (row-matches p x t m)))))
    all (one-of p t all)

none : {A : Type 0} (w : World) (p : Pattern) (s : Selection) (t : Triple) (f : Places → List A) (row : Places) (o : Option Places) → extension p row t ≡ o → given w s t ≡ false → Gives w p s t row → rows_from o f ≡ []
none w p s t f row None e h g = refl
none w p s t f row (Some new) e h g = let yes : given w s t ≡ true = g new e in cc

-- a triple that the server does not give makes nothing of any of the rows
pub nothing-made : {A : Type 0} (w : World) (p : Pattern) (s : Selection) (t : Triple) (f : Places → List A) (rows : List Places) → given w s t ≡ false → AllByRecursion (Gives w p s t) rows → flat_map (λ row. rows_from (extension p row t) f) rows ≡ []
nothing-made w p s t f [] h all = refl
nothing-made w p s t f (row ∷ rows) h all =
    let one : rows_from (extension p row t) f ≡ [] = none w p s t f row (extension p row t) refl h all.0 in
    rw one (nothing-made w p s t f rows h all.1)

pub gives-none : {A : Type 0} (w : World) → IsWorld w → (p : Pattern) (rows : List Places) (t : Triple) (f : Places → List A) → given w (selection_for p rows) t ≡ false → flat_map (λ row. rows_from (extension p row t) f) rows ≡ []
gives-none w is p rows t f h = nothing-made w p (selection_for p rows) t f rows h (block-gives w is p rows t)
