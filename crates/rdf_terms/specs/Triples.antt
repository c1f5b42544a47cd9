-- Data sets, and the classes of terms that RDF allows (RDF 1.1 Concepts 3.1).
use Rattle.std.specs.Prelude.{Option, Some, None, List, ⊤}
use Rattle.std.specs.List.{AllByRecursion}
use Rattle.std.specs.List.Sorted.{IsStrictlySortedBy}
use Rattle.rdf_terms.specs.declared.term.Term.{Term}
use Rattle.rdf_terms.specs.declared.term.Term.TheVariants.{Iri, Blank, Literal}
use Rattle.rdf_terms.specs.declared.term.Triple.{Triple}
use Rattle.rdf_terms.specs.declared.term.Quad.{Quad}
use Rattle.rdf_terms.specs.Order.{triple_order}

abbrev pub IsIri : Term → Type 0
IsIri (Iri text) = ⊤
IsIri (Blank label) = ⊥
IsIri (Literal form kind) = ⊥

abbrev pub IsIriOrBlank : Term → Type 0
IsIriOrBlank (Iri text) = ⊤
IsIriOrBlank (Blank label) = ⊤
IsIriOrBlank (Literal form kind) = ⊥

abbrev pub IsIriOrLiteral : Term → Type 0
IsIriOrLiteral (Iri text) = ⊤
IsIriOrLiteral (Blank label) = ⊥
IsIriOrLiteral (Literal form kind) = ⊤

-- subject and predicate are IRIs, the object is an IRI or a literal
pub record IsGroundTriple (t : Triple) : Type 0 where
  pub subject : IsIri t.subject
  pub predicate : IsIri t.predicate
  pub object : IsIriOrLiteral t.object

-- such triples, each once, in the order of triples
pub record IsDataSet (triples : List Triple) : Type 0 where
  pub ascending : IsStrictlySortedBy triple_order triples
  pub classes : AllByRecursion IsGroundTriple triples

-- the subject is an IRI or a blank node, the predicate an IRI
pub record IsRdfTriple (t : Triple) : Type 0 where
  pub subject : IsIriOrBlank t.subject
  pub predicate : IsIri t.predicate

abbrev pub IsRdfGraph : Option Term → Type 0
IsRdfGraph None = ⊤
IsRdfGraph (Some graph) = IsIriOrBlank graph

-- such a triple, whose graph is none, an IRI or a blank node
pub record IsRdfQuad (q : Quad) : Type 0 where
  pub triple : IsRdfTriple q.triple
  pub graph : IsRdfGraph q.graph
