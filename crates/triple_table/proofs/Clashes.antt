-- The clash that the first place shows.
use Rattle.std.proofs.Common.{ℕ, ◌≡◌, ◌<◌, ◌≤◌, Bool, true, false, ltb, List, [], refl, ap, sym, subst, ◌∙◌, length, get_or, arith}
use Rattle.std.specs.Prelude.{◌↔◌, slice_index_or}
use Rattle.std.specs.List.{Contains}
use Rattle.std.specs.List.Sorted.{IsStrictlySortedBy}
use Rattle.std.specs.declared.cmp.Ordering.TheVariants.{Less, Equal}
use Rattle.std.specs.Ordering.{ordering_reverse}
use Rattle.std.proofs.lemmas.Cmp.{nat_list_cmp_total, tied_itself}
use Rattle.std.proofs.lemmas.List.{get_or_default}
use Rattle.std.proofs.lemmas.List.Elements.{Contains-get_or}
use Rattle.list_laws.proofs.Ascending.{less_not_equal, less_not_greater, pair_less}
use Rattle.rdf_terms.specs.Order.{bytes_order}
use Rattle.rdf_terms.specs.declared.term.Term.TheVariants.{Iri, Blank}
use Rattle.rdf_terms.specs.declared.term.Triple.{Triple}
use Rattle.triple_table.specs.Genid.{genid}
use Rattle.triple_table.specs.Labels.{IsFirstClash}
use Rattle.triple_table.specs.Served.{terms_of, Clashes, IsLeastClash}

default : {X : Type 0} (xs : List X) (k : ℕ) (d e : X) → k < length xs → get_or xs k e ≡ e → get_or xs k d ≡ e
default xs k d e l h = get_or_default xs k d e l ∙ h

-- what stands at n or behind it is not below what stands at n
not_below : (labels : List (List ℕ)) (s : IsStrictlySortedBy bytes_order labels) (n k : ℕ) → k < length labels → n ≤ k → bytes_order (get_or labels k []) (get_or labels n []) ≡ Less → ⊥
not_below labels s n k l m less = by (ltb n k) refl
  where
    by : (b : Bool) → ltb n k ≡ b → ⊥
    by true t =
        less_not_greater (sym less ∙ nat_list_cmp_total.antisymm (get_or labels k []) (get_or labels n []) ∙ ap ordering_reverse (pair_less bytes_order labels s n k [] [] (grind (arith, t)) l))
    by false t =
        let same : k ≡ n = grind (arith, t, m) in
        less_not_equal (sym less ∙ subst (λ i. bytes_order (get_or labels k []) (get_or labels i []) ≡ Equal) same (tied_itself nat_list_cmp_total (get_or labels k [])))

module _ (authority : List ℕ) (triples : List Triple) (labels : List (List ℕ)) (n : ℕ) (s : IsStrictlySortedBy bytes_order labels)
    (members : (label : List ℕ) → Contains labels label ↔ Contains (terms_of triples) (Blank label)) (first : IsFirstClash authority labels (terms_of triples) n) where
  -- a clash stands at n or behind it
  later : (label : List ℕ) → Clashes authority triples label → (k : ℕ) × (k < length labels) × (slice_index_or labels k [] ≡ label) × (n ≤ k)
  later label c = by (ltb k n) refl
    where
      held : Contains labels label
      held = (members label).1 c.blank

      k : ℕ
      k = held.0

      at : slice_index_or labels k [] ≡ label
      at = default labels k [] label held.1 held.2

      by : (b : Bool) → ltb k n ≡ b → (k : ℕ) × (k < length labels) × (slice_index_or labels k [] ≡ label) × (n ≤ k)
      by true t = absurd (first.before k (grind (arith, t)) (subst (λ l. Contains (terms_of triples) (Iri (genid authority l))) (sym at) c.iri))
      by false t = (k, held.1, at, grind (arith, t))

  pub no_clashes : length labels ≤ n → (label : List ℕ) → Clashes authority triples label → ⊥
  no_clashes past label c = let h = later label c in let l = h.1 in let m = h.3 in omega arith

  pub least_clash : (label : List ℕ) → n < length labels → slice_index_or labels n [] ≡ label → IsLeastClash authority triples label
  least_clash label l at = record {
    clashes = record {
      blank = (members label).0 (subst (λ t. Contains labels t) at (Contains-get_or labels n [] l));
      iri = subst (λ t. Contains (terms_of triples) (Iri (genid authority t))) at (first.found l);
    };
    least = λ other c less. let h = later other c in
        not_below labels s n h.0 h.1 h.3 (subst (λ a. bytes_order a (get_or labels n []) ≡ Less) (sym h.2) (subst (λ a. bytes_order other a ≡ Less) (sym at) less));
  }
