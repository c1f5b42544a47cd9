-- Triples that hold a blank node.
use Rattle.std.specs.Prelude.{◌≡◌, Bool, true, false, ◌||◌, List}
use Rattle.rdf_terms.specs.declared.term.Triple.{Triple}
use Rattle.rdf_terms.specs.declared.term.Quad.{Quad}
use Rattle.rdf_terms.specs.declared.term.Term.{Term}
use Rattle.rdf_terms.specs.declared.term.Term.TheVariants.{Iri, Blank, Literal}
use Rattle.control_triples.specs.Contents.{page_triples, HasBlankData}

abbrev pub is_blank : Term → Bool
is_blank (Iri text) = false
is_blank (Blank label) = true
is_blank (Literal form kind) = false

abbrev pub holds_blank : Triple → Bool
holds_blank t = is_blank t.subject || (is_blank t.predicate || is_blank t.object)

-- the triples of a page, none of which holds a blank node
pub record TakesTriples (quads : List Quad) (triples : List Triple) : Type 0 where
  pub triples_are : triples ≡ page_triples quads
  pub no_blank : HasBlankData quads → ⊥
