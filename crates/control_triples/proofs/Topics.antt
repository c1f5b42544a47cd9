-- The topics of named graphs.
use Rattle.std.proofs.Common.{ℕ, ◌≡◌, Bool, true, false, cond, not, List, [], refl, sym, ap, subst, ◌∙◌, Option, Some, None, inl, inr}
use Rattle.std.specs.Prelude.{◌≢◌}
use Rattle.std.specs.List.{Contains, list_any}
use Rattle.std.proofs.lemmas.Bool.{not-true}
use Rattle.list_laws.proofs.Options.{some_same}
use Rattle.rdf_terms.specs.EqualityLaws.{same_iri}
use Rattle.list_laws.proofs.Members.{Contains-filter_map, Contains-map, any_of, from_filter_map, from_map, none_in, some_of}
use Rattle.list_laws.proofs.Tests.{not_both_ways}
use Rattle.rdf_terms.specs.declared.term.Term.{Term}
use Rattle.rdf_terms.specs.declared.term.Term.TheVariants.{Iri, Blank, Literal}
use Rattle.rdf_terms.specs.declared.term.Quad.{Quad}
use Rattle.rdf_terms.specs.Same.{term_eq}
use Rattle.rdf_terms.proofs.Equality.{term_same, term_self, same_passes}
use Rattle.control_triples.specs.declared.topic.GraphTopic.{GraphTopic}
use Rattle.control_triples.specs.Vocabulary.{primary_topic}
use Rattle.control_triples.specs.Controls.{IsAbout, HasTopic, IsTopic, HasNoTopic}
use Rattle.control_triples.specs.Parts.{About, iri_of, about_by, about_of, abouts_of, about, abouts, topics_in, has_same_topic, has_other_topic}

-- a quad by its parts
same_quad : (q : Quad) (graph predicate object : Term) → q.graph ≡ Some graph → q.triple.predicate ≡ predicate → q.triple.object ≡ object →
    q ≡ record { triple = record { subject = q.triple.subject; predicate = predicate; object = object }; graph = Some graph }
same_quad q graph predicate object e f h = λ i. record { triple = record { subject = q.triple.subject; predicate = f i; object = h i }; graph = e i }

IsPart : Option Term → Bool → Term → About → Type 0
IsPart g b o a = (g ≡ Some a.graph) × (b ≡ true) × ((text : List ℕ) × (o ≡ Iri text) × (a.topic ≡ Iri text))

about_parts : (g : Option Term) (b : Bool) (o : Term) (a : About) → cond b (about_by g (iri_of o)) None ≡ Some a → IsPart g b o a
unfolding IsPart
about_parts g false o a e = absurd (cc)
about_parts None true o a e = absurd (cc)
about_parts (Some g) true (Iri x) a e = let s = some_same e in (ap (λ (y : About). Some y.graph) s, refl, (x, refl, ap (λ (y : About). y.topic) (sym s)))
about_parts (Some g) true (Blank x) a e = absurd (cc)
about_parts (Some g) true (Literal x k) a e = absurd (cc)

quad_says : (quads : List Quad) (q : Quad) (a : About) → Contains quads q → about_of q ≡ Some a → (text : List ℕ) × (a.topic ≡ Iri text) × IsAbout quads a.graph text
unfolding IsPart
quad_says quads q a h e =
    let parts = about_parts q.graph (term_eq q.triple.predicate primary_topic) q.triple.object a e in
    let text = parts.2.0 in
    let same = same_quad q a.graph primary_topic (Iri text) parts.0 (term_same _ _ parts.1) parts.2.1 in
    (text, parts.2.2, (q.triple.subject, subst (λ (x : Quad). Contains quads x) same h))

-- what the quads say of their graphs
pub listed_about : (quads : List Quad) (a : About) → Contains (abouts_of quads) a → (text : List ℕ) × (a.topic ≡ Iri text) × IsAbout quads a.graph text
listed_about quads a h = let r = from_filter_map about_of quads a h in quad_says quads r.0 a r.1 r.2

pub about_listed : (quads : List Quad) (graph : Term) (text : List ℕ) → IsAbout quads graph text → Contains (abouts_of quads) (record { graph = graph; topic = Iri text })
about_listed quads graph text h =
    let a : About = record { graph = graph; topic = Iri text } in
    Contains-filter_map about_of quads (record { triple = record { subject = h.0; predicate = primary_topic; object = Iri text }; graph = Some graph }) a h.1
    (ap (λ (b : Bool). cond b (Some a) None) (term_self primary_topic))

-- ---- the list of what they say

module _ (quads : List Quad) (gs : List GraphTopic) (all : abouts gs ≡ abouts_of quads) where
  listed : (g : GraphTopic) → Contains gs g → (text : List ℕ) × (g.topic.now ≡ Iri text) × HasTopic quads text
  listed g h =
      let l = listed_about quads (about g) (subst (λ (xs : List About). Contains xs (about g)) all (Contains-map about gs g h)) in
      (l.0, l.1, (g.graph.now, l.2))

  found_in : (text : List ℕ) → HasTopic quads text → (g : GraphTopic) × Contains gs g × (g.topic.now ≡ Iri text)
  found_in text h =
      let r = from_map about gs (record { graph = h.0; topic = Iri text }) (subst (λ (xs : List About). Contains xs (record { graph = h.0; topic = Iri text })) (sym all) (about_listed quads h.0 text h.1)) in
      (r.0, r.1, ap (λ (a : About). a.topic) r.2)

  listed_topic : (t : Term) → Contains (topics_in gs) t → (text : List ℕ) × (t ≡ Iri text) × HasTopic quads text
  listed_topic t h =
      let r = from_map (λ (g : GraphTopic). g.topic.now) gs t h in let l = listed r.0 r.1 in
      (l.0, sym r.2 ∙ l.1, l.2)

  -- ---- the tests

  pub own_topic : (own : List ℕ) → list_any (has_same_topic (Iri own)) gs ≡ true → HasTopic quads own
  own_topic own h =
      let r = some_of (has_same_topic (Iri own)) gs h in let l = listed r.0 r.1 in
      subst (HasTopic quads) (same_iri l.0 own (sym l.1 ∙ term_same _ _ r.2)) l.2

  not_own : (own : List ℕ) → list_any (has_same_topic (Iri own)) gs ≡ false → HasTopic quads own → ⊥
  not_own own h has =
      let r = found_in own has in
      not_both_ways _ (any_of (has_same_topic (Iri own)) gs r.0 r.1 (same_passes _ _ r.2)) h

  other_topic : (t : Term) → list_any (has_other_topic t) gs ≡ true → (text : List ℕ) × (Iri text ≢ t) × HasTopic quads text
  other_topic t h =
      let r = some_of (has_other_topic t) gs h in let l = listed r.0 r.1 in
      (l.0, (λ e. not_both_ways (term_eq r.0.topic.now t) (same_passes _ t (l.1 ∙ e)) (not-true _ r.2)), l.2)

  no_other : (t : Term) (text : List ℕ) → list_any (has_other_topic t) gs ≡ false → HasTopic quads text → Iri text ≡ t
  no_other t text h has = by (term_eq (Iri text) t) refl
    where
      by : (b : Bool) → term_eq (Iri text) t ≡ b → Iri text ≡ t
      by true e = term_same (Iri text) t e
      by false e =
          let r = found_in text has in
          absurd (not_both_ways _ (any_of (has_other_topic t) gs r.0 r.1 (ap (λ (x : Term). not (term_eq x t)) r.2 ∙ ap not e)) h)

  -- ---- the topic

  pub no_topic : (own : List ℕ) → list_any (has_same_topic (Iri own)) gs ≡ false → topics_in gs ≡ [] → HasNoTopic quads own
  no_topic own f e text (inl h) = not_own own f h.1
  no_topic own f e text (inr h) =
      let r = found_in text h.1.0 in
      none_in r.0.topic.now (subst (λ (l : List Term). Contains l r.0.topic.now) e (Contains-map (λ (g : GraphTopic). g.topic.now) gs r.0 r.1))

  pub two_topics : (own : List ℕ) (t : Term) → list_any (has_same_topic (Iri own)) gs ≡ false → Contains (topics_in gs) t → list_any (has_other_topic t) gs ≡ true → HasNoTopic quads own
  two_topics own t f first other text (inl h) = not_own own f h.1
  two_topics own t f first other text (inr h) =
      let one = listed_topic t first in
      let two = other_topic t other in
      two.1 (ap (λ (x : List ℕ). Iri x) (h.1.1 two.0 two.2 ∙ sym (h.1.1 one.0 one.2)) ∙ sym one.1)

  pub only_one_topic : (own : List ℕ) (t : Term) → list_any (has_same_topic (Iri own)) gs ≡ false → Contains (topics_in gs) t → list_any (has_other_topic t) gs ≡ false → (topic : List ℕ) × (t ≡ Iri topic) × IsTopic quads own topic
  only_one_topic own t f first other =
      let one = listed_topic t first in
      (one.0, one.1, inr (not_own own f, (one.2, λ text h. same_iri text one.0 (no_other t text other h ∙ one.1))))

-- the topic is one
pub one_topic : (quads : List Quad) (own a b : List ℕ) → IsTopic quads own a → IsTopic quads own b → a ≡ b
one_topic quads own a b (inl h) (inl k) = h.0 ∙ sym k.0
one_topic quads own a b (inl h) (inr k) = absurd (k.0 h.1)
one_topic quads own a b (inr h) (inl k) = absurd (h.0 k.1)
one_topic quads own a b (inr h) (inr k) = k.1.1 a h.1.0
