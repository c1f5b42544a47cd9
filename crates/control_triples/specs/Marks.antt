-- Quads that are marked: the first with each triple of the default graph.
use Rattle.std.specs.Prelude.{Bool, not, ◌&&◌, is_none, List, map}
use Rattle.std.specs.List.{list_any, filter, zip}
use Rattle.std.specs.Ordering.{is_eq}
use Rattle.std.specs.BTreeSet.{BTreeSet}
use Rattle.rdf_terms.specs.Same.{triple_eq}
use Rattle.rdf_terms.specs.declared.term.Triple.{Triple}
use Rattle.rdf_terms.specs.declared.term.Quad.{Quad}
use Rattle.control_triples.specs.declared.order.TripleKey.{TripleKey}
use Rattle.control_triples.specs.Ranges.{length_triple_order}

-- a triple of the set is this one
abbrev pub is_seen : BTreeSet TripleKey → Triple → Bool
is_seen seen t = list_any (λ (key : TripleKey). is_eq (length_triple_order t key.triple.now)) seen.keys

-- the quad has this triple in the default graph
abbrev pub is_data : Triple → Quad → Bool
is_data t q = is_none q.graph && triple_eq q.triple t

-- the quad stands in the default graph, and its triple was not seen before
abbrev pub is_first : Bool → Quad → Bool
is_first stands q = is_none q.graph && not stands

-- the triples of the quads that are marked
abbrev pub marked : List Quad → List Bool → List Triple
marked quads marks = map (λ p. p.0.triple) (filter (λ p. p.1) (zip quads marks))
