-- What lists hold: their elements one by one, after a map, a filter, a `flat_map` and a `dedup`.
use Rattle.std.proofs.Common.{ℕ, ◌≡◌, ◌<◌, Bool, true, false, cond, List, [], ◌∷◌, zero, suc, refl, sym, ap, subst, ◌∙◌, length, get_or, arith, map, Option, Some, None, ⊎_elim, inl, inr}
use Rattle.std.specs.Prelude.{◌⊎◌}
use Rattle.std.specs.List.{Contains, Any, AllByRecursion, filter, filter_map, flat_map, list_any, dedup}
use Rattle.std.specs.List.Retain.{IsFiltered, DiffersFromLast}
use Rattle.std.specs.List.Sorted.{IsStrictlySortedBy, IsSorted, IsPermutation}
use Rattle.std.specs.Cmp.{IsTotalOrder, IsEquivalence}
use Rattle.std.specs.Ordering.{eq_by_cmp}
use Rattle.std.proofs.lemmas.Cmp.{eq_by_cmp_equiv}
use Rattle.std.proofs.lemmas.Bool.{or_cases, or_right, false≢true}
use Rattle.std.proofs.lemmas.List.Elements.{Contains-append_left, Contains-append_right, Contains-append_cases}
use Rattle.std.proofs.lemmas.List.Filters.{dedup_is}
use Rattle.std.proofs.lemmas.List.Kept.{Any-dedup, Contains-from_dedup, IsStrictlySortedBy-dedup}
use Rattle.std.proofs.lemmas.List.Sorted.{Contains-permutation, IsPermutation-sym}
use Rattle.std.specs.declared.cmp.Ordering.{Ordering}

-- ---- an element behind the first, or the first

pub at_head : {X : Type 0} (x : X) (xs : List X) → Contains (x ∷ xs) x
at_head x xs = (0, omega arith, refl)

pub in_tail : {X : Type 0} (x y : X) (xs : List X) → Contains xs y → Contains (x ∷ xs) y
in_tail x y xs h = (suc h.0, let l = h.1 in omega arith, h.2)

pub head_or_tail : {X : Type 0} (x y : X) (xs : List X) → Contains (x ∷ xs) y → (x ≡ y) ⊎ Contains xs y
head_or_tail {X} x y xs h = by h.0 h.1 h.2
  where
    by : (k : ℕ) → k < length (x ∷ xs) → get_or (x ∷ xs) k y ≡ y → (x ≡ y) ⊎ Contains xs y
    by zero l e = inl e
    by (suc k) l e = inr (k, omega arith, e)

pub none_in : {X : Type 0} (y : X) → Contains [] y → ⊥
none_in y h = let l = h.1 in omega arith

-- the one element of a list
pub one_of : {X : Type 0} (x y : X) → Contains (x ∷ []) y → x ≡ y
one_of x y h = ⊎_elim (λ e. e) (λ t. absurd (none_in y t)) (head_or_tail x y [] h)

pub contains_one : {X : Type 0} (x y : X) → x ≡ y → Contains (x ∷ []) y
contains_one x y e = (0, omega arith, e)

-- what holds of each element
pub all_from : {X : Type 0} (P : X → Type 0) (xs : List X) → ((x : X) → Contains xs x → P x) → AllByRecursion P xs
all_from P [] h = tt
all_from P (x ∷ xs) h = (h x (at_head x xs), all_from P xs (λ y m. h y (in_tail x y xs m)))

-- ---- a test

pub any_of : {X : Type 0} (p : X → Bool) (xs : List X) (x : X) → Contains xs x → p x ≡ true → list_any p xs ≡ true
any_of p [] x h e = absurd (none_in x h)
any_of p (y ∷ xs) x h e = ⊎_elim (λ s. let f : p y ≡ true = ap p s ∙ e in rw f refl) (λ t. or_right (p y) (list_any p xs) (any_of p xs x t e)) (head_or_tail y x xs h)

pub some_of : {X : Type 0} (p : X → Bool) (xs : List X) → list_any p xs ≡ true → (x : X) × Contains xs x × (p x ≡ true)
some_of p [] h = absurd (false≢true h)
some_of p (y ∷ xs) h = ⊎_elim (λ e. (y, at_head y xs, e)) (λ t. let r = some_of p xs t in (r.0, in_tail y r.0 xs r.1, r.2)) (or_cases (p y) (list_any p xs) h)

-- ---- a map

pub Contains-map : {X Y : Type 0} (f : X → Y) (xs : List X) (x : X) → Contains xs x → Contains (map f xs) (f x)
Contains-map f [] x h = absurd (none_in x h)
Contains-map f (y ∷ xs) x h = ⊎_elim (λ e. subst (λ z. Contains (map f (y ∷ xs)) (f z)) e (at_head (f y) (map f xs))) (λ t. in_tail (f y) (f x) (map f xs) (Contains-map f xs x t)) (head_or_tail y x xs h)

pub from_map : {X Y : Type 0} (f : X → Y) (xs : List X) (y : Y) → Contains (map f xs) y → (x : X) × Contains xs x × (f x ≡ y)
from_map f [] y h = absurd (none_in y h)
from_map f (x ∷ xs) y h = ⊎_elim (λ e. (x, at_head x xs, e)) (λ t. let r = from_map f xs y t in (r.0, in_tail x r.0 xs r.1, r.2)) (head_or_tail (f x) y (map f xs) h)

-- ---- a filter

kept_by : {X : Type 0} (x y : X) (b : Bool) (xs : List X) → (x ≡ y → b ≡ true) → (x ≡ y) ⊎ Contains xs y → Contains (cond b (x ∷ xs) xs) y
kept_by x y true xs passes (inl e) = subst (λ z. Contains (x ∷ xs) z) e (at_head x xs)
kept_by x y true xs passes (inr h) = in_tail x y xs h
kept_by x y false xs passes (inl e) = absurd (false≢true (passes e))
kept_by x y false xs passes (inr h) = h

pub in_filter : {X : Type 0} (p : X → Bool) (xs : List X) (x : X) → p x ≡ true → Contains xs x → Contains (filter p xs) x
in_filter p [] x e h = absurd (none_in x h)
in_filter p (y ∷ xs) x e h = kept_by y x (p y) (filter p xs) (λ s. ap p s ∙ e) (⊎_elim (λ s. inl s) (λ t. inr (in_filter p xs x e t)) (head_or_tail y x xs h))

from_kept : {X : Type 0} (x y : X) (b : Bool) (xs : List X) → Contains (cond b (x ∷ xs) xs) y → (x ≡ y) ⊎ Contains xs y
from_kept x y true xs h = head_or_tail x y xs h
from_kept x y false xs h = inr h

pub from_filter : {X : Type 0} (p : X → Bool) (xs : List X) (x : X) → Contains (filter p xs) x → Contains xs x
from_filter p [] x h = absurd (none_in x h)
from_filter p (y ∷ xs) x h = ⊎_elim (λ s. subst (λ z. Contains (y ∷ xs) z) s (at_head y xs)) (λ t. in_tail y x xs (from_filter p xs x t)) (from_kept y x (p y) (filter p xs) h)

from_passed : {X : Type 0} (p : X → Bool) (x y : X) (b : Bool) (xs : List X) → p x ≡ b → (Contains xs y → p y ≡ true) → Contains (cond b (x ∷ xs) xs) y → p y ≡ true
from_passed p x y true xs e later h = ⊎_elim (λ s. ap p (sym s) ∙ e) later (head_or_tail x y xs h)
from_passed p x y false xs e later h = later h

-- what a filter keeps passes its test
pub passed_filter : {X : Type 0} (p : X → Bool) (xs : List X) (x : X) → Contains (filter p xs) x → p x ≡ true
passed_filter p [] x h = absurd (none_in x h)
passed_filter p (y ∷ xs) x h = from_passed p y x (p y) (filter p xs) refl (passed_filter p xs x) h

-- ---- a filter_map

gives : {X Y : Type 0} (f : X → Option Y) (x : X) (xs : List X) (o : Option Y) (y : Y) → f x ≡ o → Contains (filter_map f xs) y → Contains (filter_map f (x ∷ xs)) y
gives f x xs None y e h = rw e h
gives f x xs (Some z) y e h = rw e (in_tail z y (filter_map f xs) h)

pub Contains-filter_map : {X Y : Type 0} (f : X → Option Y) (xs : List X) (x : X) (y : Y) → Contains xs x → f x ≡ Some y → Contains (filter_map f xs) y
Contains-filter_map f [] x y h e = absurd (none_in x h)
Contains-filter_map f (z ∷ xs) x y h e =
    ⊎_elim (λ s. let g : f z ≡ Some y = ap f s ∙ e in rw g (at_head y (filter_map f xs))) (λ t. gives f z xs (f z) y refl (Contains-filter_map f xs x y t e)) (head_or_tail z x xs h)

pub from_filter_map : {X Y : Type 0} (f : X → Option Y) (xs : List X) (y : Y) → Contains (filter_map f xs) y → (x : X) × Contains xs x × (f x ≡ Some y)
from_filter_map f [] y h = absurd (none_in y h)
from_filter_map {X} {Y} f (z ∷ xs) y h = by (f z) refl (from_filter_map f xs y) h
  where
    R : Type 0
    R = (x : X) × Contains (z ∷ xs) x × (f x ≡ Some y)

    later : ((x : X) × Contains xs x × (f x ≡ Some y)) → R
    later r = (r.0, in_tail z r.0 xs r.1, r.2)

    by : (o : Option Y) → f z ≡ o → (Contains (filter_map f xs) y → (x : X) × Contains xs x × (f x ≡ Some y)) → Contains (filter_map f (z ∷ xs)) y → R
    by None e ih h = later (ih (rw e at h))
    by (Some w) e ih h = ⊎_elim (λ s. (z, at_head z xs, e ∙ ap (λ v. Some v) s)) (λ t. later (ih t)) (head_or_tail w y (filter_map f xs) (rw e at h))

-- ---- a flat_map

pub in_flat_map : {X Y : Type 0} (f : X → List Y) (xs : List X) (x : X) (y : Y) → Contains xs x → Contains (f x) y → Contains (flat_map f xs) y
in_flat_map f [] x y h k = absurd (none_in x h)
in_flat_map f (z ∷ xs) x y h k =
    ⊎_elim (λ e. Contains-append_left (f z) (flat_map f xs) y (subst (λ w. Contains (f w) y) (sym e) k)) (λ t. Contains-append_right (f z) (flat_map f xs) y (in_flat_map f xs x y t k)) (head_or_tail z x xs h)

pub from_flat_map : {X Y : Type 0} (f : X → List Y) (xs : List X) (y : Y) → Contains (flat_map f xs) y → (x : X) × Contains xs x × Contains (f x) y
from_flat_map f [] y h = absurd (none_in y h)
from_flat_map f (z ∷ xs) y h =
    ⊎_elim (λ k. (z, at_head z xs, k)) (λ k. let r = from_flat_map f xs y k in (r.0, in_tail z r.0 xs r.1, r.2)) (Contains-append_cases (f z) (flat_map f xs) y h)

-- ---- a sort and a dedup

module _ {X : Type 0} {R : X → X → Ordering} (o : IsTotalOrder R) {E : X → X → Bool} (ties : (x y : X) → E x y ≡ eq_by_cmp R x y) (xs ys zs : List X)
    (moved : IsPermutation xs ys) (kept : IsFiltered (DiffersFromLast E) [] ys zs) where
  is_dedup : zs ≡ dedup E ys
  is_dedup = dedup_is E ys zs kept

  pub deduped_ascends : IsSorted R ys → IsStrictlySortedBy R zs
  deduped_ascends s = rw is_dedup (IsStrictlySortedBy-dedup o ties ys s)

  pub from_deduped : (x : X) → Contains zs x → Contains xs x
  from_deduped x h = Contains-permutation ys xs x (IsPermutation-sym xs ys moved) (Contains-from_dedup E ys x (subst (λ l. Contains l x) is_dedup h))

  same_test : IsEquivalence E
  same_test = record {
    refl = λ x. ties x x ∙ (eq_by_cmp_equiv o).refl x;
    symm = λ x y. ties x y ∙ (eq_by_cmp_equiv o).symm x y ∙ sym (ties y x);
    congr = λ x y z e. ties x z ∙ (eq_by_cmp_equiv o).congr x y z (sym (ties x y) ∙ e) ∙ sym (ties y z);
  }

  pub in_deduped : (x : X) → Contains xs x → Any (λ y. E x y ≡ true) zs
  in_deduped x h = subst (λ l. Any (λ y. E x y ≡ true) l) (sym is_dedup) (Any-dedup same_test ys x (Contains-permutation xs ys x moved h))
