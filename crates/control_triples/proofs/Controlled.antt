-- The control triples.
use Rattle.std.proofs.Common.{ℕ, ◌≡◌, Bool, true, false, cond, ◌&&◌, ◌||◌, List, [], ◌∷◌, map, refl, sym, ap, subst, ◌∙◌, Option, Some, None}
use Rattle.std.specs.Prelude.{◌↔◌}
use Rattle.std.specs.Borrow.{Bor}
use Rattle.std.specs.List.{Contains, filter_map, list_any}
use Rattle.std.specs.List.Retain.{IsFiltered, DiffersFromLast}
use Rattle.std.specs.List.Sorted.{IsSorted, IsPermutation}
use Rattle.rdf_terms.specs.declared.term.Term.{Term}
use Rattle.rdf_terms.specs.declared.term.Term.TheVariants.{Iri}
use Rattle.rdf_terms.specs.declared.term.Triple.{Triple}
use Rattle.rdf_terms.specs.declared.term.Quad.{Quad}
use Rattle.rdf_terms.specs.Same.{term_eq, triple_eq}
use Rattle.std.specs.Ordering.{is_eq}
use Rattle.std.proofs.lemmas.Bool.{and_from, and_parts}
use Rattle.list_laws.proofs.Members.{Contains-filter_map, any_of, from_filter_map, some_of}
use Rattle.rdf_terms.specs.Order.{term_order}
use Rattle.rdf_terms.specs.EqualityLaws.{triple_decides, same_iri}
use Rattle.rdf_terms.specs.OrderLaws.{term_ties}
use Rattle.rdf_terms.proofs.Equality.{term_same, term_self}
use Rattle.control_triples.specs.declared.topic.GraphTopic.{GraphTopic}
use Rattle.control_triples.specs.Controls.{IsAbout, Says}
use Rattle.control_triples.specs.Parts.{Source, About, about, abouts, abouts_of, borrowed_triples, is_about, is_about_in, has_about, is_control, control_of, AreControls, triple}
use Rattle.control_triples.specs.Ranges.{length_triple_order}
use Rattle.control_triples.specs.LengthLaws.{length_triple_total, length_triple_ties}
use Rattle.control_triples.proofs.Sorted.{from_sorted, in_sorted, sorted_ascends}
use Rattle.control_triples.proofs.Topics.{listed_about, about_listed}

pub about_has : (quads : List Quad) (topic : List ℕ) (graph : Term) → IsAbout quads graph topic → has_about quads (Iri topic) graph ≡ true
about_has quads topic graph h =
    any_of (is_about (Iri topic) graph) (abouts_of quads) (record { graph = graph; topic = Iri topic }) (about_listed quads graph topic h) (and_from _ _ (term_self graph) (term_self (Iri topic)))

pub has_is_about : (quads : List Quad) (topic : List ℕ) (graph : Term) → has_about quads (Iri topic) graph ≡ true → IsAbout quads graph topic
has_is_about quads topic graph h =
    let r = some_of (is_about (Iri topic) graph) (abouts_of quads) h in
    let both_are = and_parts (term_eq r.0.graph graph) (term_eq r.0.topic (Iri topic)) r.2 in
    let l = listed_about quads r.0 r.1 in
    let same = same_iri l.0 topic (sym l.1 ∙ term_same _ _ both_are.1) in
    subst (λ (g : Term). IsAbout quads g topic) (term_same _ _ both_are.0) (subst (λ (t : List ℕ). IsAbout quads r.0.graph t) same l.2)

some_same : (a b : Triple) → ◌≡◌ {A = Option Triple} (Some a) (Some b) → a ≡ b
some_same a b e = cc

control_by : (quads : List Quad) (topic : Term) (o : Option Term) (t u : Triple) → cond (is_control quads topic o) (Some t) None ≡ Some u → (graph : Term) × (o ≡ Some graph) × (has_about quads topic graph ≡ true) × (t ≡ u)
control_by quads topic None t u e = absurd (cc)
control_by quads topic (Some graph) t u e = by (has_about quads topic graph) refl e
  where
    by : (b : Bool) → has_about quads topic graph ≡ b → cond b (Some t) None ≡ Some u → (g : Term) × (Some graph ≡ Some g) × (has_about quads topic g ≡ true) × (t ≡ u)
    by true h e = (graph, refl, h, some_same t u e)
    by false h e = absurd (cc)

quad_with : (q : Quad) (graph : Term) (t : Triple) → q.graph ≡ Some graph → q.triple ≡ t → q ≡ record { triple = t; graph = Some graph }
quad_with q graph t e f = λ i. record { triple = f i; graph = e i }

-- the triples of the control quads are what they say
pub listed_says : (quads : List Quad) (topic : List ℕ) (subject predicate object : Term) → Contains (filter_map (control_of quads (Iri topic)) quads) (triple subject predicate object) → Says quads topic subject predicate object
listed_says quads topic s p o h =
    let r = from_filter_map (control_of quads (Iri topic)) quads (triple s p o) h in
    let q = r.0 in
    let c = control_by quads (Iri topic) q.graph q.triple (triple s p o) r.2 in
    record {
      graph = c.0;
      about = has_is_about quads topic c.0 c.2;
      holds = subst (λ (x : Quad). Contains quads x) (quad_with q c.0 (triple s p o) c.1 c.3) r.1;
    }

pub says_listed : (quads : List Quad) (topic : List ℕ) (subject predicate object : Term) → Says quads topic subject predicate object → Contains (filter_map (control_of quads (Iri topic)) quads) (triple subject predicate object)
says_listed quads topic s p o h =
    Contains-filter_map (control_of quads (Iri topic)) quads (record { triple = triple s p o; graph = Some h.graph }) (triple s p o) h.holds
    (ap (λ (b : Bool). cond b (Some (triple s p o)) None) (about_has quads topic h.graph h.about))

-- ---- sorted

pub are_controls : (quads : List Quad) (topic : List ℕ) (t : Term) (xs ys zs : List (Bor Triple)) → t ≡ Iri topic → borrowed_triples xs ≡ filter_map (control_of quads t) quads → IsPermutation xs ys →
    IsFiltered (DiffersFromLast (λ x y. triple_eq x.now y.now)) [] ys zs → IsSorted (λ (x y : Bor Triple). length_triple_order x.now y.now) ys → AreControls quads topic (borrowed_triples zs)
are_controls quads topic t xs ys zs e triples moved kept s =
    let all : borrowed_triples xs ≡ filter_map (control_of quads (Iri topic)) quads = triples ∙ ap (λ (x : Term). filter_map (control_of quads x) quads) e in
    record {
      ascending = sorted_ascends (λ (t : Bor Triple). t.now) length_triple_total (λ x y. length_triple_ties x.now y.now) (λ x y h. (triple_decides x.now y.now).0 h) _ xs ys zs all moved kept s;
      members = λ s p o. ((λ h. listed_says quads topic s p o (from_sorted (λ (t : Bor Triple). t.now) length_triple_total (λ x y. length_triple_ties x.now y.now) (λ x y h. (triple_decides x.now y.now).0 h) _ xs ys zs all moved kept (triple s p o) h)), (λ h. in_sorted (λ (t : Bor Triple). t.now) length_triple_total (λ x y. length_triple_ties x.now y.now) (λ x y h. (triple_decides x.now y.now).0 h) _ xs ys zs all moved kept (triple s p o) (says_listed quads topic s p o h)));
    }

-- ---- graphs

-- a set with one graph more
pub graph_added : (new old tells : Bool) (g graph : Term) → tells ≡ true → new ≡ cond (is_eq (term_order g graph)) true old → new ≡ ((term_eq g graph && tells) || old)
graph_added new old tells g graph t h = rw t (h ∙ ap (λ (b : Bool). cond b true old) (sym (term_ties g graph)) ∙ by (term_eq g graph) old)
  where
    by : (a b : Bool) → cond a true b ≡ ((a && true) || b)
    by true b = refl
    by false b = refl

-- and one without
pub no_graph : (old same tells : Bool) → tells ≡ false → old ≡ ((same && tells) || old)
no_graph old true tells t = rw t refl
no_graph old false tells t = refl

any_map : {X Y : Type 0} (f : X → Y) (p : Y → Bool) (xs : List X) → list_any (λ x. p (f x)) xs ≡ list_any p (map f xs)
any_map f p [] = refl
any_map f p (x ∷ xs) = ap (λ (b : Bool). p (f x) || b) (any_map f p xs)

-- the graphs about a topic, by the list and by the quads
pub graphs_are : (quads : List Quad) (gs : List GraphTopic) (topic graph : Term) → abouts gs ≡ abouts_of quads → list_any (is_about_in topic graph) gs ≡ has_about quads topic graph
graphs_are quads gs topic graph e = any_map about (is_about topic graph) gs ∙ ap (λ (l : List About). list_any (is_about topic graph) l) e

-- what the list of control triples says of a range
pub objects_say : (source : Source) (quads : List Quad) (topic : List ℕ) (xs ys : List (Bor Triple)) (part : List Term) (s p o : Term) → ◌≡◌ {A = Source} (record { quads = quads; topic = topic }) source →
    AreControls quads topic (borrowed_triples xs) → ys ≡ xs → (Contains part o ↔ Contains (borrowed_triples ys) (triple s p o)) → Contains part o ↔ Says source.quads source.topic s p o
objects_say source quads topic xs ys part s p o e h same part_is =
    subst (λ (x : Source). Contains part o ↔ Says x.quads x.topic s p o) e (
      (λ m. (h.members s p o).0 (subst (λ (l : List (Bor Triple)). Contains (borrowed_triples l) (triple s p o)) same (part_is.0 m))),
      (λ m. part_is.1 (subst (λ (l : List (Bor Triple)). Contains (borrowed_triples l) (triple s p o)) (sym same) ((h.members s p o).1 m))),
    )
