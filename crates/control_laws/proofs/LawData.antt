-- The data of a page: distinct triples without blank nodes, in the default graph.
use Rattle.std.proofs.Common.{◌≡◌, ℕ, ◌-◌, ◌*◌, inl, inr, List, [], ◌∷◌, ◌++◌, map, drop, ap, subst}
use Rattle.std.specs.Prelude.{is_none}
use Rattle.std.specs.List.{AllByRecursion, Contains, filter}
use Rattle.std.proofs.lemmas.List.Elements.{All-from_recursion, recursion_from_All, All-contains, All-contains_itself, All-weaker, All-take, All-drop}
use Rattle.list_laws.proofs.Ascending.{strict_take, strict_drop}
use Rattle.rdf_terms.specs.declared.term.Term.{Term}
use Rattle.rdf_terms.specs.declared.term.Term.TheVariants.{Iri, Blank, Literal}
use Rattle.rdf_terms.specs.declared.term.Triple.{Triple}
use Rattle.rdf_terms.specs.declared.term.Quad.{Quad}
use Rattle.rdf_terms.specs.Selections.{Selection, selected, selected_page}
use Rattle.rdf_terms.specs.Slots.{order_of}
use Rattle.rdf_terms.specs.Triples.{IsIri, IsIriOrLiteral, IsGroundTriple}
use Rattle.rdf_terms.proofs.FragmentLaws.{order_of_total}
use Rattle.rdf_terms.proofs.SelectionLaws.{one-selection}
use Rattle.template_fill.specs.Bodies.{in_default_graph}
use Rattle.control_triples.specs.Contents.{firsts, default_triples, page_triples, IsBlank, HoldsBlank, HasBlankData}
use Rattle.control_reader.proofs.Distinct.{ascending_firsts}

-- ---- pages

-- a page has each triple once
pub page_firsts : (triples : List Triple) (s : Selection) (k size : ℕ) → firsts (selected_page triples s k size) ≡ selected_page triples s k size
page_firsts triples s k size =
    let ascending = strict_take (order_of s.slots) size (drop ((k - 1) * size) (selected triples s)) (strict_drop (order_of s.slots) ((k - 1) * size) (selected triples s) (one-selection.is triples s).ascending) in
    ascending_firsts (order_of s.slots) (order_of_total s.slots) (selected_page triples s k size) ascending

-- what holds of each triple of the data holds of each of a page
pub page_all : (P : Triple → Type 0) (triples : List Triple) (s : Selection) (k size : ℕ) → AllByRecursion P triples → AllByRecursion P (selected_page triples s k size)
page_all P triples s k size all =
    let own = All-from_recursion P triples all in
    let found = All-weaker (Contains (selected triples s)) P (λ t h. All-contains P triples t own (((one-selection.is triples s).members t).0 h).0) (selected triples s) (All-contains_itself (selected triples s)) in
    recursion_from_All P (selected_page triples s k size) (All-take P size (drop ((k - 1) * size) (selected triples s)) (All-drop P ((k - 1) * size) (selected triples s) found))

-- ---- the default graph

pub default_data : (ts : List Triple) (named : List Quad) → filter (λ (q : Quad). is_none q.graph) named ≡ [] → default_triples (map in_default_graph ts ++ named) ≡ ts
default_data [] named none = ap (λ (qs : List Quad). map (λ (q : Quad). q.triple) qs) none
default_data (t ∷ ts) named none = ap (λ (more : List Triple). t ∷ more) (default_data ts named none)

-- ---- no blank nodes

iri_no_blank : (term : Term) → IsIri term → IsBlank term → ⊥
iri_no_blank (Iri text) h b = b
iri_no_blank (Blank label) h b = h
iri_no_blank (Literal form kind) h b = b

object_no_blank : (term : Term) → IsIriOrLiteral term → IsBlank term → ⊥
object_no_blank (Iri text) h b = b
object_no_blank (Blank label) h b = h
object_no_blank (Literal form kind) h b = b

triple_no_blank : (t : Triple) → IsGroundTriple t → HoldsBlank t → ⊥
triple_no_blank t g (inl b) = iri_no_blank t.subject g.subject b
triple_no_blank t g (inr (inl b)) = iri_no_blank t.predicate g.predicate b
triple_no_blank t g (inr (inr b)) = object_no_blank t.object g.object b

pub no_blank_data : (quads : List Quad) (ts : List Triple) → page_triples quads ≡ ts → AllByRecursion IsGroundTriple ts → HasBlankData quads → ⊥
no_blank_data quads ts is classes h =
    let inside : Contains ts h.0 = subst (λ (xs : List Triple). Contains xs h.0) is h.1 in
    triple_no_blank h.0 (All-contains IsGroundTriple ts h.0 (All-from_recursion IsGroundTriple ts classes) inside) h.2
