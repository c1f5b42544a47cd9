-- The triples of a page: those of the default graph.
use Rattle.std.specs.Prelude.{not, ◌⊎◌, is_none, List, [], ◌∷◌, map, ⊤}
use Rattle.std.specs.List.{Contains, filter}
use Rattle.rdf_terms.specs.declared.term.Term.{Term}
use Rattle.rdf_terms.specs.declared.term.Term.TheVariants.{Iri, Blank, Literal}
use Rattle.rdf_terms.specs.declared.term.Triple.{Triple}
use Rattle.rdf_terms.specs.declared.term.Quad.{Quad}
use Rattle.rdf_terms.specs.Same.{triple_eq}

-- each item once, at its first place
abbrev pub firsts : List Triple → List Triple
firsts [] = []
firsts (t ∷ ts) = t ∷ filter (λ s. not (triple_eq t s)) (firsts ts)

-- the triples of the quads that stand in no named graph
abbrev pub default_triples : List Quad → List Triple
default_triples quads = map (λ (q : Quad). q.triple) (filter (λ (q : Quad). is_none q.graph) quads)

-- the distinct triples of the default graph, in the order of their first lines
abbrev pub page_triples : List Quad → List Triple
page_triples quads = firsts (default_triples quads)

abbrev pub IsBlank : Term → Type 0
IsBlank (Iri text) = ⊥
IsBlank (Blank label) = ⊤
IsBlank (Literal form kind) = ⊥

-- a triple that holds a blank node
abbrev pub HoldsBlank : Triple → Type 0
HoldsBlank t = IsBlank t.subject ⊎ (IsBlank t.predicate ⊎ IsBlank t.object)

-- some triple of the page does
abbrev pub HasBlankData : List Quad → Type 0
HasBlankData quads = (t : Triple) × Contains (page_triples quads) t × HoldsBlank t
