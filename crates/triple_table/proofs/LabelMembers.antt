-- The labels that a sort and a dedup leave.
use Rattle.std.proofs.Common.{ℕ, ◌≡◌, List, [], refl, sym, ap, subst, ◌∙◌, Some}
use Rattle.std.specs.Prelude.{◌↔◌}
use Rattle.std.specs.Borrow.{Bor}
use Rattle.std.specs.List.{Contains, filter_map}
use Rattle.std.specs.List.Retain.{IsFiltered, DiffersFromLast}
use Rattle.std.specs.List.Sorted.{IsStrictlySortedBy, IsSorted, IsPermutation}
use Rattle.std.specs.Str.{bytes_eq}
use Rattle.std.specs.Cmp.{IsTotalOrder}
use Rattle.std.specs.Cmp.Lexicographic.{texts_ties}
use Rattle.std.proofs.lemmas.Cmp.{nat_list_cmp_total, on_total}
use Rattle.list_laws.proofs.Ascending.{ascending_map}
use Rattle.list_laws.proofs.Members.{Contains-filter_map, Contains-map, deduped_ascends, from_deduped, from_filter_map, from_map, in_deduped}
use Rattle.rdf_terms.specs.Order.{bytes_order}
use Rattle.list_laws.proofs.Bytes.{same_is}
use Rattle.rdf_terms.specs.declared.term.Term.{Term}
use Rattle.rdf_terms.specs.declared.term.Term.TheVariants.{Iri, Blank, Literal}
use Rattle.triple_table.specs.Labels.{texts, label_of}

is_blank : (t : Term) (label : List ℕ) → label_of t ≡ Some label → t ≡ Blank label
is_blank (Iri text) label e = cc
is_blank (Blank text) label e = let same : text ≡ label = cc in ap (λ t. Blank t) same
is_blank (Literal form kind) label e = cc

module _ (terms : List Term) (xs ys zs : List (Bor (List ℕ))) (labels : texts xs ≡ filter_map label_of terms) (moved : IsPermutation xs ys)
    (kept : IsFiltered (DiffersFromLast (λ x y. bytes_eq x.now y.now)) [] ys zs) where
  total : IsTotalOrder (λ (x y : Bor (List ℕ)). bytes_order x.now y.now)
  total = on_total (λ (t : Bor (List ℕ)). t.now) nat_list_cmp_total

  pub labels_ascend : IsSorted (λ (x y : Bor (List ℕ)). bytes_order x.now y.now) ys → IsStrictlySortedBy bytes_order (texts zs)
  labels_ascend s = ascending_map (λ (t : Bor (List ℕ)). t.now) bytes_order zs (deduped_ascends total (λ x y. texts_ties x.now y.now) xs ys zs moved kept s)

  there : (label : List ℕ) → Contains (texts zs) label → Contains terms (Blank label)
  there label h =
      let found = from_map (λ (t : Bor (List ℕ)). t.now) zs label h in
      let first = from_deduped total (λ x y. texts_ties x.now y.now) xs ys zs moved kept found.0 found.1 in
      let in_labels : Contains (texts xs) label = subst (λ l. Contains (texts xs) l) found.2 (Contains-map (λ (t : Bor (List ℕ)). t.now) xs found.0 first) in
      let term = from_filter_map label_of terms label (subst (λ l. Contains l label) labels in_labels) in
      subst (λ t. Contains terms t) (is_blank term.0 label term.2) term.1

  back : (label : List ℕ) → Contains terms (Blank label) → Contains (texts zs) label
  back label h =
      let in_labels : Contains (texts xs) label = subst (λ l. Contains l label) (sym labels) (Contains-filter_map label_of terms (Blank label) label h refl) in
      let found = from_map (λ (t : Bor (List ℕ)). t.now) xs label in_labels in
      let left = in_deduped total (λ x y. texts_ties x.now y.now) xs ys zs moved kept found.0 found.1 in
      let same : (left.1).now ≡ label = sym (same_is (found.0).now (left.1).now left.4) ∙ found.2 in
      subst (λ l. Contains (texts zs) l) same (Contains-map (λ (t : Bor (List ℕ)). t.now) zs left.1 (left.0, left.2, left.3))

  pub labels_are : (label : List ℕ) → Contains (texts zs) label ↔ Contains terms (Blank label)
  labels_are label = (there label, back label)
