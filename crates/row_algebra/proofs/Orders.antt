-- The order of the rows is free.
use Rattle.std.proofs.Common.{◌≡◌, Bool, true, false, not, cond, ◌&&◌, List, [], ◌∷◌, refl, ap, sym, subst, ◌∙◌, arith}
use Rattle.std.specs.List.{filter}
use Rattle.std.specs.List.Sorted.{IsPermutation}
use Rattle.std.proofs.lemmas.List.Sorted.{IsPermutation-refl, IsPermutation-trans, IsPermutation-cons, length_permutation}
use Rattle.list_laws.proofs.Orders.{along, filter_turned, flat_map_IsPermutation as flat_map_order, flat_map_each, front, same as same_order}
use Rattle.bgp_core.specs.Solutions.{Places}
use Rattle.row_algebra.specs.Algebra.{merge, merges, joined, or_alone, optional, row_eq, once, OrderIsFree}
use Rattle.row_algebra.proofs.Keys.{row_same}
use Rattle.row_algebra.proofs.Onces.{filter_filter}

joins_order : (a b c d : List Places) → IsPermutation a b → IsPermutation c d → IsPermutation (joined a c) (joined b d)
joins_order a b c d p q =
    IsPermutation-trans (joined a c) (joined b c) (joined b d)
    (flat_map_order (merges c) a b p)
    (flat_map_each (merges c) (merges d) b (λ l. flat_map_order (merge l) c d q))

alone_order : (l : Places) (xs ys : List Places) → IsPermutation xs ys → IsPermutation (or_alone l xs) (or_alone l ys)
alone_order l [] [] h = IsPermutation-refl (l ∷ [])
alone_order l [] (y ∷ ys) h = absurd (omega (arith, length_permutation [] (y ∷ ys) h))
alone_order l (x ∷ xs) [] h = absurd (omega (arith, length_permutation (x ∷ xs) [] h))
alone_order l (x ∷ xs) (y ∷ ys) h = h

optionals_order : (a b c d : List Places) → IsPermutation a b → IsPermutation c d → IsPermutation (optional a c) (optional b d)
optionals_order a b c d p q =
    IsPermutation-trans (optional a c) (optional b c) (optional b d)
    (flat_map_order (λ l. or_alone l (merges c l)) a b p)
    (flat_map_each (λ l. or_alone l (merges c l)) (λ l. or_alone l (merges d l)) b (λ l. alone_order l (merges c l) (merges d l) (flat_map_order (merge l) c d q)))

-- ---- rows that stand once

flips : (x y : Places) → row_eq x y ≡ row_eq y x
flips x y = by (row_eq x y) (row_eq y x) refl refl
  where
    by : (a b : Bool) → row_eq x y ≡ a → row_eq y x ≡ b → row_eq x y ≡ row_eq y x
    by true true e f = e ∙ sym f
    by false false e f = e ∙ sym f
    by true false e f = ap (λ (z : Places). row_eq x z) (sym (row_same x y e)) ∙ ap (λ (z : Places). row_eq z x) (row_same x y e)
    by false true e f = ap (λ (z : Places). row_eq z y) (sym (row_same y x f)) ∙ ap (λ (z : Places). row_eq y z) (row_same y x f)

and_turn : (a b : Bool) → (a && b) ≡ (b && a)
and_turn true true = refl
and_turn true false = refl
and_turn false true = refl
and_turn false false = refl

-- the rows but some that are equal to x, and but some that are equal to y
abbrev but : Places → List Places → List Places
but x rows = filter (λ s. not (row_eq x s)) rows

both_but : (x y : Places) (rows : List Places) → but x (but y rows) ≡ but y (but x rows)
both_but x y rows =
    filter_filter (λ s. not (row_eq x s)) (λ s. not (row_eq y s)) (λ s. not (row_eq y s) && not (row_eq x s)) rows (λ s. refl) ∙
    sym (filter_filter (λ s. not (row_eq y s)) (λ s. not (row_eq x s)) (λ s. not (row_eq y s) && not (row_eq x s)) rows (λ s. and_turn (not (row_eq y s)) (not (row_eq x s))))

once_turn_by : (b : Bool) (x y : Places) (rows : List Places) → row_eq x y ≡ b → row_eq y x ≡ b → IsPermutation (x ∷ cond (not b) (y ∷ but x (but y rows)) (but x (but y rows))) (y ∷ cond (not b) (x ∷ but y (but x rows)) (but y (but x rows)))
once_turn_by true x y rows e f =
    let is : x ≡ y = row_same x y e in
    same_order (x ∷ but x (but y rows)) (y ∷ but y (but x rows)) (ap (λ (z : Places). z ∷ but x (but y rows)) is ∙ ap (λ (l : List Places). y ∷ l) (both_but x y rows))
once_turn_by false x y rows e f =
    IsPermutation-trans (x ∷ y ∷ but x (but y rows)) (y ∷ x ∷ but x (but y rows)) (y ∷ x ∷ but y (but x rows))
    (front (x ∷ []) (y ∷ []) (but x (but y rows)))
    (same_order (y ∷ x ∷ but x (but y rows)) (y ∷ x ∷ but y (but x rows)) (ap (λ (l : List Places). y ∷ x ∷ l) (both_but x y rows)))

once_turn : (x y : Places) (rows : List Places) → IsPermutation (once (x ∷ y ∷ rows)) (once (y ∷ x ∷ rows))
once_turn x y rows =
    subst (λ (b : Bool). IsPermutation (x ∷ cond (not (row_eq x y)) (y ∷ but x (but y (once rows))) (but x (but y (once rows)))) (y ∷ cond (not b) (x ∷ but y (but x (once rows))) (but y (but x (once rows)))))
    (flips x y) (once_turn_by (row_eq x y) x y (once rows) refl (sym (flips x y)))

onces_order : (a b : List Places) → IsPermutation a b → IsPermutation (once a) (once b)
onces_order = along (λ xs ys. IsPermutation (once xs) (once ys))
    (λ xs. IsPermutation-refl (once xs))
    (λ x xs ys h. IsPermutation-cons x (but x (once xs)) (but x (once ys)) (filter_turned (λ s. not (row_eq x s)) (once xs) (once ys) h))
    once_turn
    (λ xs ys zs. IsPermutation-trans (once xs) (once ys) (once zs))

pub order-free : OrderIsFree
order-free = record { joins = joins_order; optionals = optionals_order; onces = onces_order }
