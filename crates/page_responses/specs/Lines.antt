-- The lines of a body, one by one.
use Rattle.std.specs.Prelude.{ℕ, List, [], ◌∷◌, ◌++◌, None, map}
use Rattle.rdf_terms.specs.declared.term.Term.TheVariants.{Iri}
use Rattle.rdf_terms.specs.declared.term.Triple.{Triple}
use Rattle.rdf_terms.specs.declared.term.Quad.{Quad}
use Rattle.rdf_terms.specs.Canon.{canonical_line, canonical_term}
use Rattle.rdf_terms.specs.declared.term.Term.{Term}
use Rattle.triple_table.specs.Stored.{term_at}
use Rattle.template_fill.specs.Bodies.{in_default_graph}

abbrev pub quad_lines : List Quad → List (List ℕ)
quad_lines quads = map canonical_line quads

abbrev pub triple_line : Triple → List ℕ
triple_line triple = canonical_line (in_default_graph triple)

-- lines of the default graph
abbrev pub triple_lines : List Triple → List (List ℕ)
triple_lines triples = map triple_line triples

-- the canonical text of the term with an id, and a space
abbrev pub spaced_at : List Term → ℕ → List ℕ
spaced_at terms id = canonical_term (term_at terms id) ++ 32 ∷ []

-- any quad
abbrev pub some_quad : Quad
some_quad = record { triple = record { subject = Iri []; predicate = Iri []; object = Iri [] }; graph = None }
