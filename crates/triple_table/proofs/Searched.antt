-- What a search for a label found.
use Rattle.std.proofs.Common.{ℕ, ◌≡◌, ◌≢◌, ◌<◌, List, [], ◌∷◌, refl, sym, ap, subst, ◌∙◌, length, get_or, arith, ⊎_elim, inl, inr, Bool, true, false, ltb}
use Rattle.std.specs.Prelude.{◌⊎◌, slice_index_or}
use Rattle.std.specs.Ordering.{ordering_index}
use Rattle.std.specs.List.{HoldsAt}
use Rattle.std.specs.List.Sorted.{IsStrictlySortedBy, IsNonDecreasingBy, IsPartitionPoint}
use Rattle.std.specs.declared.cmp.Ordering.{Ordering}
use Rattle.std.specs.declared.cmp.Ordering.TheVariants.{Less, Equal, Greater}
use Rattle.std.specs.Borrow.{Bor}
use Rattle.std.proofs.lemmas.Cmp.{nat_list_cmp_total, tied_itself}
use Rattle.std.proofs.lemmas.List.{get_or-map, length-map}
use Rattle.std.proofs.lemmas.List.Sorted.{searchable_from_sorted}
use Rattle.list_laws.proofs.Ascending.{apart, greater_not_equal, less_not_equal, pair_less, sorted_keys}
use Rattle.list_laws.proofs.Members.{contains_one, one_of}
use Rattle.rdf_terms.specs.Order.{bytes_order}
use Rattle.rdf_terms.specs.EqualityLaws.{same_iri}
use Rattle.rdf_terms.proofs.Equality.{equal as bytes_same}
use Rattle.rdf_terms.specs.declared.term.Term.{Term}
use Rattle.rdf_terms.specs.declared.term.Term.TheVariants.{Iri}
use Rattle.triple_table.specs.Genid.{genid}
use Rattle.triple_table.specs.Labels.{IsFirstClash, texts}
use Rattle.triple_table.proofs.Parts.{genid_same}

pub clash_at : (authority : List ℕ) (labels : List (List ℕ)) (text label : List ℕ) (place : ℕ) → IsStrictlySortedBy bytes_order labels →
    text ≡ genid authority label → place < length labels → slice_index_or labels place [] ≡ label → IsFirstClash authority labels (Iri text ∷ []) place
clash_at authority labels text label place s e l at = record {
  within = omega (arith, l);
  found = λ _. contains_one _ _ (ap (λ t. Iri t) (e ∙ ap (genid authority) (sym at)));
  before = λ k m h. apart nat_list_cmp_total labels s k place [] [] m l (sym (genid_same authority label (slice_index_or labels k []) (sym e ∙ same_iri _ _ (one_of _ _ h))) ∙ sym at);
}

pub no_clash : (authority : List ℕ) (labels : List (List ℕ)) (text label : List ℕ) → text ≡ genid authority label →
    ((k : ℕ) → k < length labels → slice_index_or labels k [] ≢ label) → IsFirstClash authority labels (Iri text ∷ []) (length labels)
no_clash authority labels text label e none = record {
  within = omega arith;
  found = λ l. absurd (omega arith);
  before = λ k m h. none k m (sym (genid_same authority label (slice_index_or labels k []) (sym e ∙ same_iri _ _ (one_of _ _ h))));
}

-- a term that is no IRI, and an IRI that stands for no label
pub no_iri : (authority : List ℕ) (labels : List (List ℕ)) (term : Term) (n : ℕ) → n ≡ length labels → ((iri : List ℕ) → term ≢ Iri iri) → IsFirstClash authority labels (term ∷ []) n
no_iri authority labels term n e other = record {
  within = omega (arith, e);
  found = λ l. absurd (omega (arith, e, l));
  before = λ k m h. other _ (one_of _ _ h);
}

pub no_label : (authority : List ℕ) (labels : List (List ℕ)) (text : List ℕ) (n : ℕ) → n ≡ length labels → ((label : List ℕ) → text ≢ genid authority label) → IsFirstClash authority labels (Iri text ∷ []) n
no_label authority labels text n e none = record {
  within = omega (arith, e);
  found = λ l. absurd (omega (arith, e, l));
  before = λ k m h. none _ (same_iri _ _ (one_of _ _ h));
}

module _ (borrowed : List (Bor (List ℕ))) (s : IsStrictlySortedBy bytes_order (texts borrowed)) (d : Bor (List ℕ)) (key : List ℕ) where
  same_length : length (texts borrowed) ≡ length borrowed
  same_length = length-map _ _

  at_text : (k : ℕ) → k < length borrowed → slice_index_or (texts borrowed) k [] ≡ (get_or borrowed k d).now
  at_text k l = get_or-map (λ (t : Bor (List ℕ)). t.now) borrowed k d [] l

  pub found_at : (place : ℕ) → place < length borrowed → HoldsAt (λ y. bytes_order y.now key ≡ Equal) borrowed place → slice_index_or (texts borrowed) place [] ≡ key
  found_at place l h = at_text place l ∙ bytes_same _ key (h d)

  ascending : IsNonDecreasingBy (λ y. ordering_index (bytes_order y.now key)) borrowed
  ascending =
      searchable_from_sorted nat_list_cmp_total (λ (t : Bor (List ℕ)). t.now) borrowed key
      (sorted_keys nat_list_cmp_total (λ (t : Bor (List ℕ)). t.now) borrowed (λ i j x y l m.
      subst (λ a. bytes_order a (get_or borrowed j y).now ≡ Less) (get_or-map (λ (t : Bor (List ℕ)). t.now) borrowed i x [] (omega arith))
      (subst (λ b. bytes_order (get_or (texts borrowed) i []) b ≡ Less) (get_or-map (λ (t : Bor (List ℕ)). t.now) borrowed j y [] m)
      (pair_less bytes_order (texts borrowed) s i j [] [] l (subst (λ n. j < n) (sym same_length) m)))))

  not_equal : (o : Ordering) → (o ≡ Less) ⊎ (o ≡ Greater) → o ≢ Equal
  not_equal o h e = ⊎_elim (λ l. less_not_equal (sym l ∙ e)) (λ g. greater_not_equal (sym g ∙ e)) h

  -- where the search found nothing, no label is the key
  pub found_none : (i : ℕ) → (IsNonDecreasingBy (λ y. ordering_index (bytes_order y.now key)) borrowed → IsPartitionPoint (λ y. bytes_order y.now key ≡ Less) (λ y. bytes_order y.now key ≡ Greater) borrowed i) →
      (k : ℕ) → k < length (texts borrowed) → slice_index_or (texts borrowed) k [] ≢ key
  found_none i h k l same =
      let m : k < length borrowed = subst (λ n. k < n) same_length l in
      let equal : bytes_order (get_or borrowed k d).now key ≡ Equal = subst (λ t. bytes_order t key ≡ Equal) (sym same ∙ at_text k m) (tied_itself nat_list_cmp_total key) in
      let parts = h ascending in
      by (ltb k i) refl m parts equal
    where
      by : (b : Bool) → ltb k i ≡ b → k < length borrowed → IsPartitionPoint (λ y. bytes_order y.now key ≡ Less) (λ y. bytes_order y.now key ≡ Greater) borrowed i → bytes_order (get_or borrowed k d).now key ≡ Equal → ⊥
      by true t m parts e = not_equal _ (inl (parts.0 k d (omega arith) (grind (arith, t)))) e
      by false t m parts e = not_equal _ (inr (parts.1 k d (grind (arith, t)) m)) e
