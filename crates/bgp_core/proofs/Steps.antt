-- Lists that loops make, element by element, and a name bound at its place.
use Rattle.std.proofs.Common.{ℕ, zero, suc, ◌≡◌, ◌+◌, ◌<◌, ◌≤◌, nat_lt, Bool, if◌then◌else◌, true, false, List, [], ◌∷◌, ◌++◌, map, take, length, get_or, Option, Some, None, slice_get, slice_set, refl, sym, ap, ◌∙◌, append_assoc, append-nil, arith}
use Rattle.std.specs.List.{flat_map}
use Rattle.std.proofs.lemmas.Grind.{flat_map-append}
use Rattle.std.proofs.lemmas.List.{map_more, map_push, take_more}
use Rattle.list_laws.proofs.Options.{some_not_none}
use Rattle.rdf_terms.specs.Same.{term_eq}
use Rattle.rdf_terms.specs.declared.term.Term.{Term}
use Rattle.bgp_core.specs.Pairs.{name_if}
use Rattle.bgp_core.specs.Solutions.{Places, joined, put, term_at}

-- ---- one element more

-- a copy of it
pub copied_more : {X : Type 0} (from : List X) (i : ℕ) (x : X) → i < length from → x ≡ get_or from i x → (now new : List X) (s : X) → s ≡ x → now ≡ take i from → new ≡ now ++ s ∷ [] → new ≡ take (i + 1) from
copied_more from i x within is now new s same e h = h ∙ ap (λ ys. ys ++ s ∷ []) e ∙ ap (λ y. take i from ++ y ∷ []) (same ∙ is) ∙ sym (take_more from i x within)

module _ {X Y : Type 0} (from : List X) (i : ℕ) (x : X) (within : i < length from) (is : x ≡ get_or from i x) where
  -- one with the same image
  pub shared_more : (f : X → Y) (old : List Y) (now new : List X) (s : X) → f s ≡ f x → map f now ≡ old ++ map f (take i from) → new ≡ now ++ s ∷ [] → map f new ≡ old ++ map f (take (i + 1) from)
  shared_more f old now new s same e h =
      ap (map f) h ∙ map_push f now s ∙ ap (λ y. map f now ++ y ∷ []) (same ∙ ap f is) ∙ ap (λ ys. ys ++ f (get_or from i x) ∷ []) e
      ∙ append_assoc old (map f (take i from)) (f (get_or from i x) ∷ []) ∙ ap (λ ys. old ++ ys) (sym (map_more f from i x within))

  -- what it gives
  module _ {A : Type 0} (f : X → Y) (g : Y → List A) where
    each_more : flat_map g (map f (take (i + 1) from)) ≡ flat_map g (map f (take i from)) ++ g (f x)
    each_more =
        ap (flat_map g) (map_more f from i x within) ∙ flat_map-append g (map f (take i from)) (f (get_or from i x) ∷ [])
        ∙ ap (λ ys. flat_map g (map f (take i from)) ++ ys) (append-nil (g (f (get_or from i x))) ∙ ap (λ y. g (f y)) (sym is))

    pub gives_more : (now new : List A) → now ≡ flat_map g (map f (take i from)) → new ≡ now ++ g (f x) → new ≡ flat_map g (map f (take (i + 1) from))
    gives_more now new e h = h ∙ ap (λ ys. ys ++ g (f x)) e ∙ sym each_more

    pub adds_more : (old now new : List A) → now ≡ old ++ flat_map g (map f (take i from)) → new ≡ now ++ g (f x) → new ≡ old ++ flat_map g (map f (take (i + 1) from))
    adds_more old now new e h = h ∙ ap (λ ys. ys ++ g (f x)) e ∙ append_assoc old (flat_map g (map f (take i from))) (g (f x)) ∙ ap (λ ys. old ++ ys) (sym each_more)

-- ---- a name below a count, and one that is not

pub is_named : (n count : ℕ) → n < count → name_if (nat_lt n count) n ≡ n ∷ []
is_named n count l = by (nat_lt n count) refl
  where
    by : (b : Bool) → nat_lt n count ≡ b → name_if b n ≡ n ∷ []
    by true e = refl
    by false e = absurd (grind (arith, e, l))

pub not_named : (n count : ℕ) → count ≤ n → name_if (nat_lt n count) n ≡ []
not_named n count l = by (nat_lt n count) refl
  where
    by : (b : Bool) → nat_lt n count ≡ b → name_if b n ≡ []
    by true e = absurd (grind (arith, e, l))
    by false e = refl

-- ---- a term put at the place of a name

in_place : {X : Type 0} (xs : List X) (n : ℕ) → n < length xs → slice_get xs n ≡ None → ⊥
in_place [] n l e = omega (arith, l)
in_place (x ∷ xs) zero l e = some_not_none e
in_place (x ∷ xs) (suc n) l e = in_place xs n (omega (arith, l)) e

pub put_free : (row : Places) (n : ℕ) (t : Term) → n < length row → term_at row n ≡ None → put (slice_get row n) n t row ≡ Some (slice_set row n (Some t))
put_free row n t l free = by (slice_get row n) refl free
  where
    by : (o : Option (Option Term)) → slice_get row n ≡ o → joined o ≡ None → put o n t row ≡ Some (slice_set row n (Some t))
    by None e f = absurd (in_place row n l e)
    by (Some None) e f = refl
    by (Some (Some u)) e f = absurd (some_not_none f)

pub put_bound : (row : Places) (n : ℕ) (t u : Term) → term_at row n ≡ Some u → put (slice_get row n) n t row ≡ (if term_eq u t then Some row else None)
put_bound row n t u bound = by (slice_get row n) bound
  where
    by : (o : Option (Option Term)) → joined o ≡ Some u → put o n t row ≡ (if term_eq u t then Some row else None)
    by None f = absurd (some_not_none (sym f))
    by (Some None) f = absurd (some_not_none (sym f))
    by (Some (Some v)) f = ap (λ o. put (Some o) n t row) f
