-- The generated data have no blank node, and few triples.
use Rattle.std.proofs.Common.{◌≡◌, ℕ, zero, suc, ◌+◌, ◌*◌, ◌%◌, ◌<◌, ◌≤◌, ◌==◌, ◌⊎◌, inl, inr, Bool, true, false, List, [], ◌∷◌, length, map, ap, subst, if◌then◌else◌, arith, lit≤, length-append}
use Rattle.std.specs.Bool.{Decides}
use Rattle.std.specs.Ordering.{eq_by_cmp, is_eq}
use Rattle.std.specs.List.{Contains, filter, flat_map, range_with_len}
use Rattle.std.proofs.lemmas.Cmp.{eq_by_cmp_equiv}
use Rattle.std.proofs.lemmas.List.{length-map}
use Rattle.std.proofs.lemmas.Map.Keys.{IsDistinct-from_sorted}
use Rattle.std.proofs.lemmas.Map.Made.{length-le_from_is_member, is_member-Decides}
use Rattle.list_laws.proofs.Ascending.{is_equal}
use Rattle.list_laws.proofs.Lists.{filter_length}
use Rattle.list_laws.proofs.Members.{head_or_tail, none_in, from_map, from_filter, from_flat_map}
use Rattle.list_laws.proofs.Told.{all_in}
use Rattle.rdf_terms.specs.declared.limits.TheConstants.{MOST_TRIPLES}
use Rattle.rdf_terms.specs.declared.term.Quad.{Quad}
use Rattle.rdf_terms.specs.declared.term.Term.{Term}
use Rattle.rdf_terms.specs.declared.term.Term.TheVariants.{Blank}
use Rattle.rdf_terms.specs.declared.term.Triple.{Triple}
use Rattle.rdf_terms.specs.Order.{triple_order}
use Rattle.rdf_terms.specs.OrderLaws.{triple_total, triple_equal}
use Rattle.rdf_terms.specs.Triples.{IsIri, IsIriOrLiteral, IsGroundTriple}
use Rattle.triple_table.specs.declared.choice.Choice.TheVariants.{DefaultGraph}
use Rattle.triple_table.specs.Chosen.{chosen, is_chosen}
use Rattle.triple_table.specs.Genid.{skolem_triple}
use Rattle.triple_table.specs.Served.{terms_in, Clashes, IsLeastClash, IsServed}
use Rattle.triple_table.specs.Stored.{PassesMost}
use Rattle.triple_table.proofs.Distinct.{terms_few}
use Rattle.generated_data.specs.declared.limits.TheConstants.{MOST_PERSONS}
use Rattle.generated_data.specs.Generated.{names, cities, about, generated, IsGroundQuad}
use Rattle.generated_data.proofs.Classes.{all_are_ground}

-- ---- no blank node

-- each chosen triple is that of a generated quad
chosen_ground : (n : ℕ) (t : Triple) → Contains (chosen DefaultGraph (generated n)) t → IsGroundTriple t
chosen_ground n t h =
    let q = from_map (λ (q : Quad). q.triple) (filter (λ (q : Quad). is_chosen DefaultGraph q.graph) (generated n)) t h in
    let there = from_filter (λ (q : Quad). is_chosen DefaultGraph q.graph) (generated n) q.0 q.1 in
    subst IsGroundTriple q.2 (all_in IsGroundQuad (generated n) q.0 (all_are_ground n) there).triple

no_iri : (t : Term) (label : List ℕ) → t ≡ Blank label → IsIri t → ⊥
no_iri t label e h = subst IsIri e h

no_object : (t : Term) (label : List ℕ) → t ≡ Blank label → IsIriOrLiteral t → ⊥
no_object t label e h = subst IsIriOrLiteral e h

no_blank : (t : Triple) (label : List ℕ) → IsGroundTriple t → Contains (terms_in t) (Blank label) → ⊥
no_blank t label g h = first (head_or_tail t.subject (Blank label) (t.predicate ∷ t.object ∷ []) h)
  where
    third : (t.object ≡ Blank label) ⊎ Contains [] (Blank label) → ⊥
    third (inl e) = no_object t.object label e g.object
    third (inr c) = none_in (Blank label) c

    second : (t.predicate ≡ Blank label) ⊎ Contains (t.object ∷ []) (Blank label) → ⊥
    second (inl e) = no_iri t.predicate label e g.predicate
    second (inr c) = third (head_or_tail t.object (Blank label) [] c)

    first : (t.subject ≡ Blank label) ⊎ Contains (t.predicate ∷ t.object ∷ []) (Blank label) → ⊥
    first (inl e) = no_iri t.subject label e g.subject
    first (inr c) = second (head_or_tail t.predicate (Blank label) (t.object ∷ []) c)

pub no_clash : (authority : List ℕ) (n : ℕ) (label : List ℕ) → Clashes authority (chosen DefaultGraph (generated n)) label → ⊥
no_clash authority n label h =
    let t = from_flat_map terms_in (chosen DefaultGraph (generated n)) (Blank label) h.blank in
    no_blank t.0 label (chosen_ground n t.0 t.1) t.2

-- ---- few triples

length_if : (b : Bool) (q : Quad) → length (if b then q ∷ [] else []) ≤ 1
length_if true q = omega arith
length_if false q = omega arith

-- of each person at most three quads speak
names_few : (i : ℕ) → length (names i) ≤ 1
unfolding names
names_few i = length_if (i % 3 == 0) _

cities_few : (i : ℕ) → length (cities i) ≤ 1
unfolding cities
cities_few i = length_if (i % 10 == 0) _

about_few : (n i : ℕ) → length (about n i) ≤ 3
unfolding about
about_few n i = omega (arith, names_few i, cities_few i, length-append (names i) (cities i))

all_few : (n from k : ℕ) → length (flat_map (about n) (range_with_len from k)) ≤ 3 * k
all_few n from zero = omega arith
all_few n from (suc k) = omega (arith, about_few n from, all_few n (from + 1) k, length-append (about n from) (flat_map (about n) (range_with_len (from + 1) k)))

generated_few : (n : ℕ) → length (generated n) ≤ 3 * n
unfolding generated
generated_few n = all_few n 0 n

pub chosen_few : (n : ℕ) → length (chosen DefaultGraph (generated n)) ≤ 3 * n
chosen_few n = omega (
  arith,
  generated_few n,
  filter_length (λ (q : Quad). is_chosen DefaultGraph q.graph) (generated n),
  length-map (filter (λ (q : Quad). is_chosen DefaultGraph q.graph) (generated n)) (λ (q : Quad). q.triple),
)

triple_decided : (a b : Triple) → Decides (eq_by_cmp triple_order a b) (a ≡ b)
triple_decided a b = (λ h. (triple_equal a b).0 (is_equal _ h), λ e. ap is_eq ((triple_equal a b).1 e))

-- no more triples are served than are chosen
pub served_few : (authority : List ℕ) (triples served : List Triple) → IsServed authority triples served → length served ≤ length triples
served_few authority triples served s =
    let some : length served ≤ length (map (skolem_triple authority) triples) = length-le_from_is_member (eq_by_cmp_equiv triple_total) served (map (skolem_triple authority) triples) (IsDistinct-from_sorted triple_order served s.data_set.ascending) (λ q m.
    (is_member-Decides triple_decided (map (skolem_triple authority) triples) q).1 ((s.members q).0 ((is_member-Decides triple_decided served q).0 m))) in
    let e = length-map triples (skolem_triple authority) in omega (arith, some, e)

pub not_too_many : (authority : List ℕ) (n : ℕ) → n ≤ MOST_PERSONS → PassesMost MOST_TRIPLES authority (chosen DefaultGraph (generated n)) → ⊥
not_too_many authority n most p = over p.passes
  where
    few : length p.triples ≤ 3 * n
    few = omega (arith, served_few authority (chosen DefaultGraph (generated n)) p.triples p.served, chosen_few n)

    room : 9000000 ≤ MOST_TRIPLES
    room = lit≤ tt

    over : (MOST_TRIPLES < length p.triples) ⊎ (MOST_TRIPLES < length p.terms) → ⊥
    over (inl h) = omega (arith, room, h, few, most)
    over (inr h) = omega (arith, room, h, few, most, terms_few p.triples p.terms p.ranking)

-- ---- quads that are the generated ones

module _ (authority : List ℕ) (n : ℕ) (quads : List Quad) (are : quads ≡ generated n) where
  pub served_of : (triples : List Triple) → IsServed authority (chosen DefaultGraph quads) triples → IsServed authority (chosen DefaultGraph (generated n)) triples
  served_of triples s = subst (λ (qs : List Quad). IsServed authority (chosen DefaultGraph qs) triples) are s

  pub no_clash_of : (label : List ℕ) → IsLeastClash authority (chosen DefaultGraph quads) label → ⊥
  no_clash_of label h = no_clash authority n label (subst (λ (qs : List Quad). Clashes authority (chosen DefaultGraph qs) label) are h.clashes)

  pub not_too_many_of : n ≤ MOST_PERSONS → PassesMost MOST_TRIPLES authority (chosen DefaultGraph quads) → ⊥
  not_too_many_of most p = not_too_many authority n most (subst (λ (qs : List Quad). PassesMost MOST_TRIPLES authority (chosen DefaultGraph qs)) are p)
