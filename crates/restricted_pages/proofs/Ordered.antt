-- Triples by ids, sorted by an order of the table and each once.
use Rattle.std.proofs.Common.{ℕ, nat_eq, ◌&&◌, ◌≡◌, ◌+◌, Bool, true, false, List, [], get_or, refl, sym, ap, subst, ◌∙◌}
use Rattle.std.specs.Prelude.{◌↔◌}
use Rattle.std.specs.List.{Contains}
use Rattle.std.specs.List.Retain.{IsFiltered, DiffersFromLast}
use Rattle.std.specs.List.Sorted.{IsStrictlySortedBy, IsSorted, IsSortedByKey, IsPermutation}
use Rattle.std.specs.Cmp.{IsTotalOrder, unsigned_ties}
use Rattle.std.specs.Cmp.Derive.{tie, on_tied, then_tied}
use Rattle.std.specs.declared.cmp.Ordering.{Ordering}
use Rattle.std.specs.declared.cmp.Ordering.TheVariants.{Less, Equal, Greater}
use Rattle.std.specs.Ordering.{is_lt, nat_cmp, ordering_then, eq_by_cmp}
use Rattle.std.proofs.lemmas.Cmp.{on_total}
use Rattle.list_laws.proofs.Ascending.{is_equal}
use Rattle.list_laws.proofs.Members.{deduped_ascends, from_deduped, in_deduped}
use Rattle.triple_table.specs.declared.ids.IdTriple.{IdTriple}
use Rattle.triple_table.specs.declared.ids.Order.{Order}
use Rattle.triple_table.specs.declared.ids.Order.TheVariants.{Spo, Pos, Osp}
use Rattle.triple_table.specs.Rows.{row_of}
use Rattle.triple_table.proofs.Built.{same_row, same_triple}
use Rattle.triple_table.proofs.Distinct.{id_ties}
use Rattle.triple_table.proofs.RowOrder.{row_total}
use Rattle.restricted_pages.specs.Patterns.{ids_in, ids_order}

ids_total : (o : Order) → IsTotalOrder (ids_order o)
ids_total o = on_total (row_of o) row_total

-- ---- the derived test of equality and the orders

turned : (s p o : Bool) → (s && (p && o)) ≡ (p && (o && s))
turned true true true = refl
turned true true false = refl
turned true false o = refl
turned false true true = refl
turned false true false = refl
turned false false o = refl

turned_back : (s p o : Bool) → (s && (p && o)) ≡ (o && (s && p))
turned_back s p o = turned s p o ∙ turned p o s

pub ties : (o : Order) (x y : IdTriple) → (nat_eq x.subject y.subject && (nat_eq x.predicate y.predicate && nat_eq x.object y.object)) ≡ eq_by_cmp (ids_order o) x y
ties Spo x y = id_ties x y
ties Pos x y =
    turned (nat_eq x.subject y.subject) (nat_eq x.predicate y.predicate) (nat_eq x.object y.object)
    ∙ (then_tied (on_tied (λ (t : IdTriple). t.predicate) (tie nat_cmp unsigned_ties)) (then_tied (on_tied (λ (t : IdTriple). t.object) (tie nat_cmp unsigned_ties)) (on_tied (λ (t : IdTriple). t.subject) (tie nat_cmp unsigned_ties)))).ties x y
ties Osp x y =
    turned_back (nat_eq x.subject y.subject) (nat_eq x.predicate y.predicate) (nat_eq x.object y.object)
    ∙ (then_tied (on_tied (λ (t : IdTriple). t.object) (tie nat_cmp unsigned_ties)) (then_tied (on_tied (λ (t : IdTriple). t.subject) (tie nat_cmp unsigned_ties)) (on_tied (λ (t : IdTriple). t.predicate) (tie nat_cmp unsigned_ties)))).ties x y

-- ---- a sort by three ids

then_then : (a b c : Ordering) → ordering_then (ordering_then a b) c ≡ ordering_then a (ordering_then b c)
then_then Less b c = refl
then_then Equal b c = refl
then_then Greater b c = refl

-- the order of three ids
abbrev pub three_order : ℕ × ℕ × ℕ → ℕ × ℕ × ℕ → Ordering
three_order x y = ordering_then (ordering_then (nat_cmp x.0 y.0) (nat_cmp x.1 y.1)) (nat_cmp x.2 y.2)

by_three : (o : Order) (x y : IdTriple) → ids_order o x y ≡ three_order (ids_in o x) (ids_in o y)
by_three o x y = sym (then_then (nat_cmp (row_of o x).first (row_of o y).first) (nat_cmp (row_of o x).second (row_of o y).second) (nat_cmp (row_of o x).third (row_of o y).third))

pub ids_sorted : (o : Order) (ys : List IdTriple) → IsSortedByKey (ids_in o) three_order ys → IsSorted (ids_order o) ys
ids_sorted o ys h k d l m = ap is_lt (by_three o (get_or ys (k + 1) d) (get_or ys k d)) ∙ h k d l m

-- ---- a sort and a dedup

module _ (o : Order) {E : IdTriple → IdTriple → Bool} (tied : (x y : IdTriple) → E x y ≡ eq_by_cmp (ids_order o) x y) (xs ys zs : List IdTriple) (moved : IsPermutation xs ys) (kept : IsFiltered (DiffersFromLast E) [] ys zs) where
  pub left_ascend : IsSortedByKey (ids_in o) three_order ys → IsStrictlySortedBy (ids_order o) zs
  left_ascend h = deduped_ascends (ids_total o) tied xs ys zs moved kept (ids_sorted o ys h)

  same : (x y : IdTriple) → E x y ≡ true → x ≡ y
  same x y h = same_triple o x y (same_row (row_of o x) (row_of o y) (is_equal (ids_order o x y) (sym (tied x y) ∙ h)))

  back : (t : IdTriple) → Contains xs t → Contains zs t
  back t h =
      let left = in_deduped (ids_total o) tied xs ys zs moved kept t h in
      subst (Contains zs) (sym (same t left.1 left.4)) (left.0, left.2, left.3)

  pub left_members : (t : IdTriple) → Contains zs t ↔ Contains xs t
  left_members t = (from_deduped (ids_total o) tied xs ys zs moved kept t, back t)
