-- The quads that N-Quads text can give: RDF's classes, terms that keep the rules of their parts, texts within the limits.
use Rattle.std.specs.Prelude.{ℕ, ◌≤◌, length, Option, Some, None, ⊤}
use Rattle.rdf_terms.specs.Valid.{IsValidTerm}
use Rattle.rdf_terms.specs.Sizes.{HasShortLabel}
use Rattle.rdf_terms.specs.Canon.{canonical_term}
use Rattle.rdf_terms.specs.Triples.{IsRdfQuad}
use Rattle.rdf_terms.specs.declared.term.Quad.{Quad}
use Rattle.rdf_terms.specs.declared.term.Term.{Term}

-- a valid term, whose canonical text has at most longest bytes, with a label of at most LONGEST_LABEL
pub record IsReadableTerm (longest : ℕ) (term : Term) : Type 0 where
  pub valid : IsValidTerm term
  pub fits : length (canonical_term term) ≤ longest
  pub label : HasShortLabel term

abbrev pub IsReadableGraph : ℕ → Option Term → Type 0
IsReadableGraph longest None = ⊤
IsReadableGraph longest (Some graph) = IsReadableTerm longest graph

-- such terms, in places where RDF allows them
pub record IsReadable (longest : ℕ) (q : Quad) : Type 0 where
  pub classes : IsRdfQuad q
  pub subject : IsReadableTerm longest q.triple.subject
  pub predicate : IsReadableTerm longest q.triple.predicate
  pub object : IsReadableTerm longest q.triple.object
  pub graph : IsReadableGraph longest q.graph
