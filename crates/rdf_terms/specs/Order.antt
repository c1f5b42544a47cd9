-- The order of terms and of triples.
use Rattle.std.specs.Prelude.{ℕ, List}
use Rattle.std.specs.declared.cmp.Ordering.{Ordering}
use Rattle.std.specs.Ordering.{nat_cmp, ordering_then}
use Rattle.std.specs.Cmp.Lexicographic.{slice_cmp}
use Rattle.rdf_terms.specs.declared.term.Term.{Term}
use Rattle.rdf_terms.specs.declared.term.Term.TheVariants.{Iri, Blank, Literal}
use Rattle.rdf_terms.specs.declared.term.Triple.{Triple}
use Rattle.rdf_terms.specs.Canon.{canonical_term}

-- bytes in the order of the first that differ; a front of the other comes first
abbrev pub bytes_order : List ℕ → List ℕ → Ordering
bytes_order xs ys = slice_cmp nat_cmp xs ys

-- IRIs come before blank nodes, and these before literals
abbrev pub class : Term → ℕ
class (Iri text) = 0
class (Blank label) = 1
class (Literal form kind) = 2

-- the class, and within a class the bytes of the canonical text
unfoldable pub term_order : Term → Term → Ordering
term_order a b = ordering_then (nat_cmp (class a) (class b)) (bytes_order (canonical_term a) (canonical_term b))

-- subject, predicate, object
abbrev pub triple_order : Triple → Triple → Ordering
triple_order a b = ordering_then (term_order a.subject b.subject) (ordering_then (term_order a.predicate b.predicate) (term_order a.object b.object))
