-- The length of canonical text, by the law of terms.
use Rattle.std.proofs.Common.{ℕ, ◌≡◌, ◌+◌, ◌*◌, ◌≤◌, List, [], ◌∷◌, length, arith}
use Rattle.list_laws.proofs.Tests.{one_mark}
use Rattle.rdf_terms.specs.Canon.{is_marked, canonical_term, marks, kind_len}
use Rattle.rdf_terms.specs.declared.term.Term.TheVariants.{Iri, Literal}
use Rattle.rdf_terms.specs.declared.term.Kind.{Kind}
use Rattle.rdf_terms.proofs.Lengths.{canonical_len_is}

pub literal_len_is : (form : List ℕ) (kind : Kind) → length (canonical_term (Literal form kind)) ≡ length form + marks form + 2 + kind_len kind
literal_len_is form kind = canonical_len_is (Literal form kind)

pub iri_len_is : (text : List ℕ) → length (canonical_term (Iri text)) ≡ length text + 2
iri_len_is text = canonical_len_is (Iri text)

marks_within : (form : List ℕ) → marks form ≤ length form
marks_within [] = omega arith
marks_within (b ∷ form) = omega (arith, one_mark (is_marked b), marks_within form)

pub len_bound : (form : List ℕ) (kind : Kind) → length (canonical_term (Literal form kind)) ≤ length form * 2 + 2 + kind_len kind
len_bound form kind = omega (arith, literal_len_is form kind, marks_within form)
