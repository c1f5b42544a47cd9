-- What a sort and a dedup of the served triples leave.
use Rattle.std.proofs.Common.{◌≡◌, ℕ, List, sym, subst, get_or, map, All, []}
use Rattle.std.specs.List.{Contains, filter}
use Rattle.std.specs.List.Retain.{IsFiltered, DiffersFromLast}
use Rattle.std.specs.List.Sorted.{IsSorted, IsPermutation}
use Rattle.std.proofs.lemmas.List.Elements.{recursion_from_All, All-contains, All-filter, Contains-get_or}
use Rattle.list_laws.proofs.Members.{deduped_ascends, from_deduped, from_map, in_deduped}
use Rattle.rdf_terms.specs.declared.term.Term.{Term}
use Rattle.rdf_terms.specs.declared.term.Term.TheVariants.{Iri, Blank, Literal}
use Rattle.rdf_terms.specs.declared.term.Triple.{Triple}
use Rattle.rdf_terms.specs.declared.term.Quad.{Quad}
use Rattle.rdf_terms.specs.declared.slots.Slot.TheVariants.{Any}
use Rattle.rdf_terms.specs.declared.slots.Slots.{Slots}
use Rattle.rdf_terms.proofs.FragmentLaws.{fragments_same}
use Rattle.rdf_terms.specs.Same.{triple_eq}
use Rattle.rdf_terms.specs.Order.{triple_order}
use Rattle.rdf_terms.specs.EqualityLaws.{triple_decides}
use Rattle.rdf_terms.specs.OrderLaws.{triple_total, triple_ties}
use Rattle.rdf_terms.specs.Triples.{IsIri, IsIriOrBlank, IsIriOrLiteral, IsRdfTriple, IsRdfQuad, IsGroundTriple}
use Rattle.triple_table.specs.declared.choice.Choice.{Choice}
use Rattle.triple_table.specs.Chosen.{is_chosen, chosen}
use Rattle.triple_table.specs.Genid.{skolem, skolem_triple}
use Rattle.triple_table.specs.Served.{IsServed}

iri_served : (authority : List ℕ) (t : Term) → IsIriOrBlank t → IsIri (skolem authority t)
iri_served authority (Iri text) h = tt
iri_served authority (Blank label) h = tt
iri_served authority (Literal form kind) h = h

iri_kept : (authority : List ℕ) (t : Term) → IsIri t → IsIri (skolem authority t)
iri_kept authority (Iri text) h = tt
iri_kept authority (Blank label) h = absurd h
iri_kept authority (Literal form kind) h = h

object_served : (authority : List ℕ) (t : Term) → IsIriOrLiteral (skolem authority t)
object_served authority (Iri text) = tt
object_served authority (Blank label) = tt
object_served authority (Literal form kind) = tt

triple_served : (authority : List ℕ) (t : Triple) → IsRdfTriple t → IsGroundTriple (skolem_triple authority t)
triple_served authority t h = record {
  subject = iri_served authority t.subject h.subject;
  predicate = iri_kept authority t.predicate h.predicate;
  object = object_served authority t.object;
}

-- the served triples are ground
pub served_ground : (authority : List ℕ) (choice : Choice) (quads : List Quad) → All IsRdfQuad quads → (t : Triple) → Contains (map (skolem_triple authority) (chosen choice quads)) t → IsGroundTriple t
served_ground authority choice quads classes t h =
    let before = from_map (skolem_triple authority) (chosen choice quads) t h in
    let quad = from_map (λ (q : Quad). q.triple) (filter (λ (q : Quad). is_chosen choice q.graph) quads) before.0 before.1 in
    let rdf = All-contains IsRdfQuad _ quad.0 (All-filter (λ (q : Quad). is_chosen choice q.graph) IsRdfQuad quads classes) quad.1 in
    subst IsGroundTriple before.2 (triple_served authority before.0 (subst IsRdfTriple quad.2 rdf.triple))

module _ (authority : List ℕ) (choice : Choice) (quads : List Quad) (classes : All IsRdfQuad quads) (ys zs : List Triple)
    (moved : IsPermutation (map (skolem_triple authority) (chosen choice quads)) ys) (kept : IsFiltered (DiffersFromLast triple_eq) [] ys zs) where
  all : List Triple
  all = map (skolem_triple authority) (chosen choice quads)

  there : (t : Triple) → Contains zs t → Contains all t
  unfolding all
  there t h = from_deduped triple_total triple_ties all ys zs moved kept t h

  back : (t : Triple) → Contains all t → Contains zs t
  unfolding all
  back t h =
      let left = in_deduped triple_total triple_ties all ys zs moved kept t h in
      subst (Contains zs) (sym ((triple_decides t left.1).0 left.4)) (left.0, left.2, left.3)

  pub is_served : IsSorted triple_order ys → IsServed authority (chosen choice quads) zs
  unfolding all
  is_served s = record {
    data_set = record {
      ascending = deduped_ascends triple_total triple_ties all ys zs moved kept s;
      classes = recursion_from_All IsGroundTriple zs (λ k d l. served_ground authority choice quads classes (get_or zs k d) (there (get_or zs k d) (Contains-get_or zs k d l)));
    };
    members = λ t. (there t, back t);
  }

-- the served data are one list
any_slots : Slots
any_slots = record { subject = Any; predicate = Any; object = Any }

pub served_one : (authority : List ℕ) (triples xs ys : List Triple) → IsServed authority triples xs → IsServed authority triples ys → xs ≡ ys
unfolding any_slots
served_one authority triples xs ys h k =
    fragments_same xs any_slots xs ys
    record { ascending = h.data_set.ascending; members = λ t. (λ c. (c, record { subject = tt; predicate = tt; object = tt }), λ c. c.0) }
    record { ascending = k.data_set.ascending; members = λ t. (λ c. ((h.members t).1 ((k.members t).0 c), record { subject = tt; predicate = tt; object = tt }), λ c. (k.members t).1 ((h.members t).0 c.0)) }
