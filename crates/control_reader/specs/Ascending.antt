-- Triples that ascend, as those of a server's page do (Triple Pattern Fragments, "Fragments").
use Rattle.std.specs.Prelude.{Bool, true, false, ◌&&◌, List, [], ◌∷◌, map}
use Rattle.std.specs.declared.cmp.Ordering.{Ordering}
use Rattle.std.specs.Ordering.{is_lt}
use Rattle.rdf_terms.specs.declared.term.Triple.{Triple}
use Rattle.rdf_terms.specs.declared.term.Quad.{Quad}
use Rattle.rdf_terms.specs.Order.{triple_order}
use Rattle.rdf_terms.specs.Slots.{pos_order}

-- the triples of quads, of whatever graph
abbrev pub triples_of : List Quad → List Triple
triples_of quads = map (λ (q : Quad). q.triple) quads

-- predicate, object, subject, the order of a fragment whose predicate alone is fixed, or subject, predicate, object, in which those of all others ascend
abbrev pub page_order : Bool → Triple → Triple → Ordering
page_order true = pos_order
page_order false = triple_order

-- the triple stands before that of the first quad, and each of these before the next
abbrev pub climbs : (Triple → Triple → Ordering) → Triple → List Quad → Bool
climbs order last [] = true
climbs order last (q ∷ quads) = is_lt (order last q.triple) && climbs order q.triple quads

-- the triple of each quad stands before the next
abbrev pub ascends : (Triple → Triple → Ordering) → List Quad → Bool
ascends order [] = true
ascends order (q ∷ quads) = climbs order q.triple quads
