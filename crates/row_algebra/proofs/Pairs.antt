-- Rows that are found by their places.
use Rattle.std.proofs.Common.{Bor, ℕ, zero, suc, ◌≡◌, ◌<◌, ◌≤◌, ◌+◌, Bool, true, false, if◌then◌else◌, List, [], ◌∷◌, ◌++◌, length, get_or, take, Option, Some, None, slice_get, refl, ap, sym, subst, ◌∙◌, arith}
use Rattle.std.specs.List.{AllByRecursion}
use Rattle.std.specs.Slice.{IsItemAt}
use Rattle.std.proofs.lemmas.List.{flat_map_more, take_more}
use Rattle.list_laws.proofs.Each.{all_so, every_at}
use Rattle.list_laws.proofs.Lists.{at_place}
use Rattle.list_laws.proofs.Options.{none_not_some, some_same}
use Rattle.bgp_core.specs.Solutions.{Places}
use Rattle.bgp_core.specs.Merging.{MergingIsUnion}
use Rattle.row_algebra.specs.Algebra.{merge, merges}
use Rattle.row_algebra.specs.Finding.{key_of, BindsAll, places_where, has_key, merge_with, merges_at, given, combined}
use Rattle.row_algebra.proofs.Keys.{apart}

-- what stands at no place
pub past_places : {X : Type 0} (xs : List X) (i : ℕ) → length xs ≤ i → slice_get xs i ≡ None
past_places [] i h = refl
past_places (y ∷ ys) zero h = absurd (omega (arith, h))
past_places (y ∷ ys) (suc i) h = past_places ys i (omega (arith, h))

-- what a `get` found
pub got : {X : Type 0} (xs : List X) (i : ℕ) (r : Option (Bor X)) (x : Bor X) → IsItemAt xs i r → r ≡ Some x → slice_get xs i ≡ Some x.now
got xs i None x h e = absurd (none_not_some e)
got {X} xs i (Some y) x h e = at_place xs i y.now h.3.0 h.1 ∙ ap (λ (z : Bor X). let o : Option X = Some z.now in o) (some_same e)

pub got_none : {X : Type 0} (xs : List X) (i : ℕ) (r : Option (Bor X)) → IsItemAt xs i r → r ≡ None → slice_get xs i ≡ None
got_none xs i None h e = past_places xs i h.3
got_none xs i (Some y) h e = absurd (none_not_some (sym e))

pub at_got : {X : Type 0} (P : X → Type 0) (xs : List X) (i : ℕ) (r : Option (Bor X)) (x : Bor X) → AllByRecursion P xs → IsItemAt xs i r → r ≡ Some x → P x.now
at_got P xs i None x a h e = absurd (none_not_some e)
at_got {X} P xs i (Some y) x a h e = subst (λ (z : Bor X). P z.now) (some_same e) (every_at P xs i y.now a h.3.0 h.1)

-- one place more
pub merges_more : (l : Places) (right : List Places) (places : List ℕ) (i : ℕ) (before old new : List Places) → i < length places → old ≡ before ++ merges_at l right (take i places) → new ≡ old ++ merge_with l (slice_get right (get_or places i 0)) → new ≡ before ++ merges_at l right (take (i + 1) places)
merges_more l right places i before old new below e f =
    f ∙ ap (λ (x : List Places). x ++ merge_with l (slice_get right (get_or places i 0))) e ∙
    flat_map_more (λ p. merge_with l (slice_get right p)) before (take i places) (get_or places i 0) ∙
    ap (λ (x : List ℕ). before ++ merges_at l right x) (sym (take_more places i 0 below))

-- one row more
pub combined_more : (keeps : Bool) (left right : List Places) (i : ℕ) (l : Places) (old new : List Places) → i < length left → l ≡ get_or left i l → old ≡ combined keeps (take i left) right → new ≡ old ++ given keeps l (merges right l) → new ≡ combined keeps (take (i + 1) left) right
combined_more keeps left right i l old new below at e f =
    let front : take (i + 1) left ≡ take i left ++ l ∷ [] = take_more left i l below ∙ ap (λ (x : Places). take i left ++ x ∷ []) (sym at) in
    f ∙ ap (λ (x : List Places). x ++ given keeps l (merges right l)) e ∙
    flat_map_more (λ x. given keeps x (merges right x)) [] (take i left) l ∙
    ap (λ (x : List Places). combined keeps x right) (sym front)

module _ (l : Places) (p : Places → Bool) (all : List Places) where
  place_step : (b : Bool) (r : Places) (rest : List Places) (places : List ℕ) (n : ℕ) → (b ≡ false → merge l r ≡ []) → slice_get all n ≡ Some r → merges_at l all places ≡ merges rest l → merges_at l all (if b then n ∷ places else places) ≡ merge l r ++ merges rest l
  place_step true r rest places n f here e = ap (λ (o : Option Places). merge_with l o ++ merges_at l all places) here ∙ ap (λ (x : List Places). merge l r ++ x) e
  place_step false r rest places n f here e = e ∙ sym (ap (λ (x : List Places). x ++ merges rest l) (f refl))

  -- the rows at which a test fails give nothing
  places_give : (rest : List Places) (n : ℕ) → ((k : ℕ) → slice_get all (n + k) ≡ slice_get rest k) → AllByRecursion (λ r. p r ≡ false → merge l r ≡ []) rest → merges_at l all (places_where p n rest) ≡ merges rest l
  places_give [] n h a = refl
  places_give (r ∷ rest) n h a =
      let zero_more : n ≡ n + 0 = omega arith in
      let here : slice_get all n ≡ Some r = ap (slice_get all) zero_more ∙ h 0 in
      let later : merges_at l all (places_where p (suc n) rest) ≡ merges rest l = places_give rest (suc n) (λ k.
      let one_more : suc n + k ≡ n + suc k = omega arith in
      ap (slice_get all) one_more ∙ h (suc k)) a.1 in
      place_step (p r) r rest (places_where p (suc n) rest) n a.0 here later

-- the places of a row's key give what all rows give
pub found : (u : MergingIsUnion) (names : List ℕ) (l : Places) (right : List Places) (places : List ℕ) → BindsAll names l → AllByRecursion (BindsAll names) right → places ≡ places_where (has_key names (key_of names l)) 0 right → merges_at l right places ≡ merges right l
found u names l right places a b e =
    ap (merges_at l right) e ∙
    places_give l (has_key names (key_of names l)) right right 0
    (λ k. let none_more : 0 + k ≡ k = omega arith in ap (slice_get right) none_more)
    (all_so (BindsAll names) (λ r. has_key names (key_of names l) r ≡ false → merge l r ≡ []) (λ r h differ. apart u names l r a h differ) right b)
