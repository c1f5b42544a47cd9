-- What a sort and a dedup leave of a list, seen by what its items hold.
use Rattle.std.proofs.Common.{◌≡◌, Bool, true, List, [], sym, subst, ◌∙◌, map}
use Rattle.std.specs.List.{Contains}
use Rattle.std.specs.List.Retain.{IsFiltered, DiffersFromLast}
use Rattle.std.specs.List.Sorted.{IsSorted, IsPermutation, IsStrictlySortedBy}
use Rattle.std.specs.Cmp.{IsTotalOrder}
use Rattle.std.specs.Ordering.{eq_by_cmp}
use Rattle.std.specs.declared.cmp.Ordering.{Ordering}
use Rattle.std.proofs.lemmas.Cmp.{on_total}
use Rattle.list_laws.proofs.Ascending.{ascending_map}
use Rattle.list_laws.proofs.Members.{Contains-map, deduped_ascends, from_deduped, from_map, in_deduped}

module _ {X Y : Type 0} (v : X → Y) {R : Y → Y → Ordering} (o : IsTotalOrder R) {E : X → X → Bool} (ties : (x y : X) → E x y ≡ eq_by_cmp (λ a b. R (v a) (v b)) x y) (same : (x y : X) → E x y ≡ true → v x ≡ v y)
    (all : List Y) (xs ys zs : List X) (listed : map v xs ≡ all) (moved : IsPermutation xs ys) (kept : IsFiltered (DiffersFromLast E) [] ys zs) where
  total : IsTotalOrder (λ x y. R (v x) (v y))
  total = on_total v o

  pub from_sorted : (y : Y) → Contains (map v zs) y → Contains all y
  from_sorted y h =
      let found = from_map v zs y h in
      let first = from_deduped total ties xs ys zs moved kept found.0 found.1 in
      subst (λ (l : List Y). Contains l y) listed (subst (λ (x : Y). Contains (map v xs) x) found.2 (Contains-map v xs found.0 first))

  pub in_sorted : (y : Y) → Contains all y → Contains (map v zs) y
  in_sorted y h =
      let found = from_map v xs y (subst (λ (l : List Y). Contains l y) (sym listed) h) in
      let left = in_deduped total ties xs ys zs moved kept found.0 found.1 in
      subst (λ (x : Y). Contains (map v zs) x) (sym (same found.0 left.1 left.4) ∙ found.2) (Contains-map v zs left.1 (left.0, left.2, left.3))

  pub sorted_ascends : IsSorted (λ x y. R (v x) (v y)) ys → IsStrictlySortedBy R (map v zs)
  sorted_ascends s = ascending_map v R zs (deduped_ascends total ties xs ys zs moved kept s)
