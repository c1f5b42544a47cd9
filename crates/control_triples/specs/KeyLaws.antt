-- Serves proofs alone: triples as keys of an ordered set, equal where they are the same triple, in the order of the lengths of their terms.
use Rattle.std.specs.Prelude.{◌≡◌, Bool}
use Rattle.std.specs.declared.cmp.Ordering.{Ordering}
use Rattle.std.specs.Ordering.{is_eq, as_partial_cmp}
use Rattle.std.specs.Cmp.{IsPartialEquivalence, IsEquivalence, IsPartialOrder, IsTotalOrder, partial_equiv_from_equiv, po}
use Rattle.std.proofs.lemmas.Cmp.{on_equiv, on_total}
use Rattle.rdf_terms.specs.declared.term.Triple.{Triple}
use Rattle.rdf_terms.specs.Same.{triple_eq}
use Rattle.rdf_terms.specs.EqualityLaws.{triple_equiv}
use Rattle.control_triples.specs.declared.order.TripleKey.{TripleKey}
use Rattle.control_triples.specs.Ranges.{length_triple_order}
use Rattle.control_triples.specs.LengthLaws.{length_triple_total, length_triple_ties}

abbrev pub key_triple : TripleKey → Triple
key_triple key = key.triple.now

abbrev pub key_eq : TripleKey → TripleKey → Bool
key_eq a b = triple_eq a.triple.now b.triple.now

abbrev pub key_order : TripleKey → TripleKey → Ordering
key_order a b = length_triple_order a.triple.now b.triple.now

pub key_equiv : IsEquivalence key_eq
key_equiv = on_equiv key_triple triple_equiv

pub key_per : IsPartialEquivalence key_eq
key_per = partial_equiv_from_equiv key_equiv

pub key_total : IsTotalOrder key_order
key_total = on_total key_triple length_triple_total

pub key_ties : (a b : TripleKey) → key_eq a b ≡ is_eq (key_order a b)
key_ties a b = length_triple_ties a.triple.now b.triple.now

pub key_partial : IsPartialOrder key_eq (as_partial_cmp key_order)
key_partial = po key_total key_ties
