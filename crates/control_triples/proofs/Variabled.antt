-- The variables of mappings.
use Rattle.std.proofs.Common.{ℕ, ◌≡◌, ◌-◌, ◌<◌, ◌≤◌, Bool, true, false, cond, ◌&&◌, List, [], refl, ap, subst, ◌∙◌, length, get_or, take, drop, Option, Some, None}
use Rattle.std.specs.Prelude.{◌≢◌}
use Rattle.std.specs.List.{Contains, filter_map}
use Rattle.std.specs.List.Retain.{IsFiltered, DiffersFromLast}
use Rattle.std.specs.List.Sorted.{IsSorted, IsPermutation, IsStrictlySortedBy, IsPartitionedBy}
use Rattle.std.specs.Str.{bytes_eq}
use Rattle.std.specs.declared.cmp.Ordering.{Ordering}
use Rattle.std.specs.declared.cmp.Ordering.TheVariants.{Less, Equal, Greater}
use Rattle.std.specs.Ordering.{ordering_then, is_eq}
use Rattle.std.specs.Cmp.{IsTotalOrder, tied_then}
use Rattle.std.specs.Cmp.Lexicographic.{texts_ties}
use Rattle.std.proofs.lemmas.Cmp.{nat_list_cmp_total, on_total, then_total}
use Rattle.std.proofs.lemmas.Slice.Eq.{bytes_eq-Decides}
use Rattle.std.proofs.lemmas.Bool.{and_parts}
use Rattle.list_laws.proofs.Options.{some_same}
use Rattle.list_laws.proofs.Ascending.{ascending_unmap, less_not_greater, pair_less}
use Rattle.list_laws.proofs.Members.{Contains-filter_map, Contains-map, from_filter_map, from_map}
use Rattle.rdf_terms.specs.declared.term.Term.{Term}
use Rattle.rdf_terms.specs.declared.term.Term.TheVariants.{Iri, Blank, Literal}
use Rattle.rdf_terms.specs.declared.term.Triple.{Triple}
use Rattle.rdf_terms.specs.declared.term.Quad.{Quad}
use Rattle.rdf_terms.specs.Same.{term_eq}
use Rattle.rdf_terms.specs.Order.{term_order, bytes_order}
use Rattle.rdf_terms.specs.OrderLaws.{term_total, term_ties, term_equal}
use Rattle.rdf_terms.proofs.Equality.{term_same, term_self}
use Rattle.control_triples.specs.declared.variable.Variable.{Variable}
use Rattle.control_triples.specs.Vocabulary.{mapped_variable}
use Rattle.control_triples.specs.Controls.{IsLiteral}
use Rattle.control_triples.specs.Parts.{form_of, AreControls, triple}
use Rattle.control_triples.specs.Variables.{Named, named, named_all, texts_in, named_by, named_of, name_order, goes_before, HasVariable, AreVariables}
use Rattle.control_triples.proofs.Sorted.{from_sorted, in_sorted, sorted_ascends}
use Rattle.control_triples.proofs.Ranged.{partitioned, in_part, part_in, in_order}

pub literal_form : (o : Term) (text : List ℕ) → IsLiteral o text → form_of o ≡ Some text
literal_form (Iri x) text h = absurd h
literal_form (Blank x) text h = absurd h
literal_form (Literal form kind) text h = ap (λ (t : List ℕ). Some t) h

pub form_literal : (o : Term) (text : List ℕ) → form_of o ≡ Some text → IsLiteral o text
form_literal (Iri x) text h = absurd (cc)
form_literal (Blank x) text h = absurd (cc)
form_literal (Literal form kind) text h = some_same h

named_is : (b : Bool) (subject : Term) (o : Option (List ℕ)) (n : Named) → cond b (named_by subject o) None ≡ Some n → (b ≡ true) × (subject ≡ n.mapping) × (o ≡ Some n.text)
named_is false subject o n h = absurd (cc)
named_is true subject None n h = absurd (cc)
named_is true subject (Some text) n h = let e = some_same h in (refl, ap (λ (x : Named). x.mapping) e, ap (λ (x : Named). Some x.text) e)

at_subject : (t : Triple) (s p : Term) → t.subject ≡ s → t.predicate ≡ p → t ≡ triple s p t.object
at_subject t s p e f = λ i. record { subject = e i; predicate = f i; object = t.object }

-- the list of the control triples' variables
pub listed_has : (quads : List Quad) (topic : List ℕ) (triples : List Triple) → AreControls quads topic triples → (mapping : Term) (text : List ℕ) → Contains (filter_map named_of triples) (record { mapping = mapping; text = text }) → HasVariable quads topic mapping text
listed_has quads topic triples are mapping text h =
    let r = from_filter_map named_of triples (record { mapping = mapping; text = text }) h in
    let t = r.0 in
    let n = named_is (term_eq t.predicate mapped_variable) t.subject (form_of t.object) (record { mapping = mapping; text = text }) r.2 in
    (t.object, (are.members mapping mapped_variable t.object).0 (subst (λ (x : Triple). Contains triples x) (at_subject t mapping mapped_variable n.1 (term_same _ _ n.0)) r.1), form_literal t.object text n.2)

pub has_listed : (quads : List Quad) (topic : List ℕ) (triples : List Triple) → AreControls quads topic triples → (mapping : Term) (text : List ℕ) → HasVariable quads topic mapping text → Contains (filter_map named_of triples) (record { mapping = mapping; text = text })
has_listed quads topic triples are mapping text h =
    Contains-filter_map named_of triples (triple mapping mapped_variable h.0) (record { mapping = mapping; text = text }) ((are.members mapping mapped_variable h.0).1 h.1)
    (ap (λ (b : Bool). cond b (named_by mapping (form_of h.0)) None) (term_self mapped_variable) ∙ ap (λ (o : Option (List ℕ)). named_by mapping o) (literal_form h.0 text h.2))

-- ---- sorted

pub name_total : IsTotalOrder name_order
name_total = then_total (on_total (λ (n : Named). n.mapping) term_total) (on_total (λ (n : Named). n.text) nat_list_cmp_total)

named_ties : (x y : Variable) → (term_eq x.mapping.now y.mapping.now && bytes_eq x.text.now y.text.now) ≡ is_eq (name_order (named x) (named y))
named_ties x y =
    ap (λ (b : Bool). b && bytes_eq x.text.now y.text.now) (term_ties x.mapping.now y.mapping.now) ∙ ap (λ (b : Bool). is_eq (term_order x.mapping.now y.mapping.now) && b) (texts_ties x.text.now y.text.now)
    ∙ tied_then (term_order x.mapping.now y.mapping.now) (bytes_order x.text.now y.text.now)

named_same : (x y : Variable) → (term_eq x.mapping.now y.mapping.now && bytes_eq x.text.now y.text.now) ≡ true → named x ≡ named y
named_same x y h =
    let p = and_parts (term_eq x.mapping.now y.mapping.now) (bytes_eq x.text.now y.text.now) h in
    let e = term_same x.mapping.now y.mapping.now p.0 in
    let f = (bytes_eq-Decides x.text.now y.text.now).0 p.1 in
    λ i. record { mapping = e i; text = f i }

pub are_variables : (quads : List Quad) (topic : List ℕ) (triples : List Triple) (xs ys zs : List Variable) → AreControls quads topic triples → named_all xs ≡ filter_map named_of triples → IsPermutation xs ys →
    IsFiltered (DiffersFromLast (λ (x y : Variable). term_eq x.mapping.now y.mapping.now && bytes_eq x.text.now y.text.now)) [] ys zs → IsSorted (λ (x y : Variable). name_order (named x) (named y)) ys → AreVariables quads topic (named_all zs)
are_variables quads topic triples xs ys zs are listed moved kept s = record {
  ascending = sorted_ascends named name_total named_ties named_same _ xs ys zs listed moved kept s;
  members = λ mapping text. (
    (λ h. listed_has quads topic triples are mapping text (from_sorted named name_total named_ties named_same _ xs ys zs listed moved kept (record { mapping = mapping; text = text }) h)),
    (λ h. in_sorted named name_total named_ties named_same _ xs ys zs listed moved kept (record { mapping = mapping; text = text }) (has_listed quads topic triples are mapping text h)),
  );
}

-- ---- those of one mapping

first_not_greater : (s t : Ordering) → ordering_then s t ≡ Less → s ≢ Greater
first_not_greater Less t h e = less_not_greater e
first_not_greater Equal t h e = let x : Equal ≡ Greater = e in cc
first_not_greater Greater t h e = let x : Greater ≡ Less = h in cc

pub variables_parted : (xs : List Variable) (w : Bool) (mapping : Term) → IsStrictlySortedBy name_order (named_all xs) → IsPartitionedBy (λ (v : Variable). goes_before w mapping (named v)) xs
variables_parted xs w mapping s =
    partitioned term_total (λ (v : Variable). v.mapping.now) xs w mapping
    (λ i j d l m. first_not_greater (term_order (get_or xs i d).mapping.now (get_or xs j d).mapping.now) (bytes_order (get_or xs i d).text.now (get_or xs j d).text.now)
    (pair_less (λ (x y : Variable). name_order (named x) (named y)) xs (ascending_unmap named name_order xs s) i j d d l m))

module _ (xs : List Variable) (mapping : Term) (from to : ℕ) (low : from ≤ length xs) (high : to ≤ length xs)
    (from_before : (k : ℕ) (d : Variable) → k < from → goes_before false mapping (named (get_or xs k d)) ≡ true)
    (from_behind : (k : ℕ) (d : Variable) → from ≤ k → k < length xs → goes_before false mapping (named (get_or xs k d)) ≡ false)
    (to_before : (k : ℕ) (d : Variable) → k < to → goes_before true mapping (named (get_or xs k d)) ≡ true)
    (to_behind : (k : ℕ) (d : Variable) → to ≤ k → k < length xs → goes_before true mapping (named (get_or xs k d)) ≡ false) where
  pub variables_in_order : from ≤ to
  variables_in_order = in_order (λ (v : Variable). term_order v.mapping.now mapping) xs from to low high from_before from_behind to_before to_behind

  pub part_has : (text : List ℕ) → Contains (texts_in (take (to - from) (drop from xs))) text → Contains (named_all xs) (record { mapping = mapping; text = text })
  part_has text h =
      let found = from_map (λ (v : Variable). v.text.now) (take (to - from) (drop from xs)) text h in
      let v = found.0 in
      let r = in_part (λ (v : Variable). term_order v.mapping.now mapping) xs from to low high from_before from_behind to_before to_behind v found.1 in
      let e = (term_equal v.mapping.now mapping).0 r.1 in
      let same : named v ≡ record { mapping = mapping; text = text } = λ i. record { mapping = e i; text = found.2 i } in
      subst (λ (n : Named). Contains (named_all xs) n) same (Contains-map named xs v r.0)

  pub has_part : (text : List ℕ) → Contains (named_all xs) (record { mapping = mapping; text = text }) → Contains (texts_in (take (to - from) (drop from xs))) text
  has_part text h =
      let found = from_map named xs (record { mapping = mapping; text = text }) h in
      let v = found.0 in
      let there = part_in (λ (v : Variable). term_order v.mapping.now mapping) xs from to low high from_before from_behind to_before to_behind v found.1 ((term_equal v.mapping.now mapping).1 (ap (λ (n : Named). n.mapping) found.2)) in
      subst (λ (x : List ℕ). Contains (texts_in (take (to - from) (drop from xs))) x) (ap (λ (n : Named). n.text) found.2) (Contains-map (λ (v : Variable). v.text.now) (take (to - from) (drop from xs)) v there)
