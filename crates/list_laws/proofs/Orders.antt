-- Lists in another order.
use Rattle.std.proofs.Common.{ℕ, zero, suc, ◌≡◌, ◌<◌, Bool, true, false, cond, List, [], ◌∷◌, ◌++◌, length, get_or, subst, arith, append_assoc}
use Rattle.std.specs.List.{flat_map, filter, swap}
use Rattle.std.specs.List.Sorted.{IsPermutation}
use Rattle.std.proofs.Math.ListN.{set}
use Rattle.std.proofs.lemmas.List.Edits.{swap_is}
use Rattle.std.proofs.lemmas.List.Sorted.{IsPermutation-refl, IsPermutation-trans, IsPermutation-cons, IsPermutation-append, IsPermutation-append_left, IsPermutation-append_right, IsPermutation-append_comm, IsPermutation-keeps}

pub same : {A : Type 0} (xs ys : List A) → xs ≡ ys → IsPermutation xs ys
same xs ys e = subst (IsPermutation xs) e (IsPermutation-refl xs)

-- the middle of three moves to the front
pub front : {A : Type 0} (x y z : List A) → IsPermutation (x ++ (y ++ z)) (y ++ (x ++ z))
front x y z = subst (λ l. IsPermutation l (y ++ (x ++ z))) (append_assoc x y z) (subst (λ l. IsPermutation ((x ++ y) ++ z) l) (append_assoc y x z) (IsPermutation-append_left z (x ++ y) (y ++ x) (IsPermutation-append_comm x y)))

-- what holds of one element more, of the first two exchanged, and of one after another, holds of every order
module _ {X : Type 0} (R : List X → List X → Type 0) (stays : (xs : List X) → R xs xs) (below : (x : X) (xs ys : List X) → R xs ys → R (x ∷ xs) (x ∷ ys)) (turn : (x y : X) (xs : List X) → R (x ∷ y ∷ xs) (y ∷ x ∷ xs)) (chain : (xs ys zs : List X) → R xs ys → R ys zs → R xs zs) where
  moved : (xs : List X) (k : ℕ) (d e : X) → k < length xs → R (d ∷ xs) (get_or xs k e ∷ set xs k d)
  moved [] k d e h = absurd (omega arith)
  moved (x ∷ xs) zero d e h = turn d x xs
  moved (x ∷ xs) (suc k) d e h =
      chain (d ∷ x ∷ xs) (x ∷ d ∷ xs) (get_or xs k e ∷ x ∷ set xs k d) (turn d x xs)
      (chain (x ∷ d ∷ xs) (x ∷ get_or xs k e ∷ set xs k d) (get_or xs k e ∷ x ∷ set xs k d) (below x (d ∷ xs) (get_or xs k e ∷ set xs k d) (moved xs k d e (omega arith))) (turn x (get_or xs k e) (set xs k d)))

  swapped : (l : List X) (i j : ℕ) (e : X) → i < length l → j < length l → R l (set (set l i (get_or l j e)) j (get_or l i e))
  swapped [] i j e h g = absurd (omega arith)
  swapped (x ∷ xs) zero zero e h g = stays (x ∷ xs)
  swapped (x ∷ xs) zero (suc j) e h g = moved xs j x e (omega arith)
  swapped (x ∷ xs) (suc i) zero e h g = moved xs i x e (omega arith)
  swapped (x ∷ xs) (suc i) (suc j) e h g = below x xs (set (set xs i (get_or xs j e)) j (get_or xs i e)) (swapped xs i j e (omega arith) (omega arith))

  first_of : (l : List X) → 0 < length l → X
  first_of [] h = absurd (omega arith)
  first_of (x ∷ xs) h = x

  step : (xs l : List X) (i j : ℕ) → i < length l → j < length l → R xs l → R xs (swap l i j)
  step xs l i j h g p =
      let e = first_of l (omega arith) in
      chain xs l (swap l i j) p (subst (λ m. R l m) (swap_is l i j e h g) (swapped l i j e h g))

  pub along : (xs ys : List X) → IsPermutation xs ys → R xs ys
  along xs ys p = IsPermutation-keeps xs (λ l. R xs l) (stays xs) (step xs) ys p

-- ---- lists that each element gives

pub flat_map_IsPermutation : {X A : Type 0} (f : X → List A) (xs ys : List X) → IsPermutation xs ys → IsPermutation (flat_map f xs) (flat_map f ys)
flat_map_IsPermutation f = along (λ xs ys. IsPermutation (flat_map f xs) (flat_map f ys))
    (λ xs. IsPermutation-refl (flat_map f xs))
    (λ x xs ys h. IsPermutation-append_right (f x) (flat_map f xs) (flat_map f ys) h)
    (λ x y xs. front (f x) (f y) (flat_map f xs))
    (λ xs ys zs. IsPermutation-trans (flat_map f xs) (flat_map f ys) (flat_map f zs))

pub flat_map_each : {X A : Type 0} (f g : X → List A) (xs : List X) → ((x : X) → IsPermutation (f x) (g x)) → IsPermutation (flat_map f xs) (flat_map g xs)
flat_map_each f g [] h = IsPermutation-refl []
flat_map_each f g (x ∷ xs) h = IsPermutation-append (f x) (g x) (flat_map f xs) (flat_map g xs) (h x) (flat_map_each f g xs h)

-- ---- a filter

filter_cons : {X : Type 0} (b : Bool) (x : X) (xs ys : List X) → IsPermutation xs ys → IsPermutation (cond b (x ∷ xs) xs) (cond b (x ∷ ys) ys)
filter_cons true x xs ys h = IsPermutation-cons x xs ys h
filter_cons false x xs ys h = h

filter_turn : {X : Type 0} (a b : Bool) (x y : X) (xs : List X) → IsPermutation (cond a (x ∷ cond b (y ∷ xs) xs) (cond b (y ∷ xs) xs)) (cond b (y ∷ cond a (x ∷ xs) xs) (cond a (x ∷ xs) xs))
filter_turn true true x y xs = front (x ∷ []) (y ∷ []) xs
filter_turn true false x y xs = IsPermutation-refl (x ∷ xs)
filter_turn false true x y xs = IsPermutation-refl (y ∷ xs)
filter_turn false false x y xs = IsPermutation-refl xs

pub filter_turned : {X : Type 0} (q : X → Bool) (xs ys : List X) → IsPermutation xs ys → IsPermutation (filter q xs) (filter q ys)
filter_turned q = along (λ xs ys. IsPermutation (filter q xs) (filter q ys))
    (λ xs. IsPermutation-refl (filter q xs))
    (λ x xs ys h. filter_cons (q x) x (filter q xs) (filter q ys) h)
    (λ x y xs. filter_turn (q x) (q y) x y (filter q xs))
    (λ xs ys zs. IsPermutation-trans (filter q xs) (filter q ys) (filter q zs))
