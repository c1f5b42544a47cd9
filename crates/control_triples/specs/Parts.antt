-- What each quad, and each list of control triples, tells.
use Rattle.std.specs.Prelude.{ℕ, ◌↔◌, Bool, false, not, ◌&&◌, List, [], map, Option, Some, None, if◌then◌else◌}
use Rattle.std.specs.List.{Contains, list_any, filter_map}
use Rattle.std.specs.List.Sorted.{IsStrictlySortedBy}
use Rattle.std.specs.Borrow.{Bor}
use Rattle.rdf_terms.specs.declared.term.Term.{Term}
use Rattle.rdf_terms.specs.declared.term.Term.TheVariants.{Iri, Blank, Literal}
use Rattle.rdf_terms.specs.declared.term.Triple.{Triple}
use Rattle.rdf_terms.specs.declared.term.Quad.{Quad}
use Rattle.rdf_terms.specs.Same.{term_eq}
use Rattle.control_triples.specs.Vocabulary.{primary_topic}
use Rattle.control_triples.specs.declared.topic.GraphTopic.{GraphTopic}
use Rattle.control_triples.specs.Controls.{Says}
use Rattle.control_triples.specs.Ranges.{length_triple_order}

-- ---- borrowed values

abbrev pub borrowed_triples : List (Bor Triple) → List Triple
borrowed_triples triples = map (λ (t : Bor Triple). t.now) triples

abbrev pub borrowed_terms : List (Bor Term) → List Term
borrowed_terms terms = map (λ (t : Bor Term). t.now) terms

abbrev pub objects_in : List (Bor Triple) → List Term
objects_in triples = map (λ (t : Bor Triple). t.now.object) triples

-- ---- topics

abbrev pub iri_of : Term → Option Term
iri_of (Iri text) = Some (Iri text)
iri_of (Blank label) = None
iri_of (Literal form kind) = None

-- the text of an IRI
abbrev pub iri_text : Term → List ℕ
iri_text (Iri text) = text
iri_text (Blank label) = []
iri_text (Literal form kind) = []

-- a named graph, and what it is said to be about
pub record About : Type 0 where
  pub graph : Term
  pub topic : Term

abbrev pub about_by : Option Term → Option Term → Option About
about_by None topic = None
about_by (Some graph) None = None
about_by (Some graph) (Some topic) = Some (record { graph = graph; topic = topic })

-- what a quad says of its graph
abbrev pub about_of : Quad → Option About
about_of q = if term_eq q.triple.predicate primary_topic then about_by q.graph (iri_of q.triple.object) else None

-- what all quads say of their graphs
abbrev pub abouts_of : List Quad → List About
abouts_of quads = filter_map about_of quads

abbrev pub about : GraphTopic → About
about g = record { graph = g.graph.now; topic = g.topic.now }

abbrev pub abouts : List GraphTopic → List About
abouts topics = map about topics

abbrev pub topics_in : List GraphTopic → List Term
topics_in topics = map (λ (g : GraphTopic). g.topic.now) topics

abbrev pub has_same_topic : Term → GraphTopic → Bool
has_same_topic topic g = term_eq g.topic.now topic

abbrev pub has_other_topic : Term → GraphTopic → Bool
has_other_topic topic g = not (term_eq g.topic.now topic)

-- ---- control quads

-- the graph is the one that is about the topic
abbrev pub is_about : Term → Term → About → Bool
is_about topic graph a = term_eq a.graph graph && term_eq a.topic topic

abbrev pub is_about_in : Term → Term → GraphTopic → Bool
is_about_in topic graph g = is_about topic graph (about g)

-- the graph is about the topic
abbrev pub has_about : List Quad → Term → Term → Bool
has_about quads topic graph = list_any (is_about topic graph) (abouts_of quads)

abbrev pub is_control : List Quad → Term → Option Term → Bool
is_control quads topic None = false
is_control quads topic (Some graph) = has_about quads topic graph

-- the triple of a control quad
abbrev pub control_of : List Quad → Term → Quad → Option Triple
control_of quads topic q = if is_control quads topic q.graph then Some q.triple else None

-- what a body says of its topic
pub record Source : Type 0 where
  pub quads : List Quad
  pub topic : List ℕ

-- the triple
abbrev pub triple : Term → Term → Term → Triple
triple subject predicate object = record { subject = subject; predicate = predicate; object = object }

-- the control triples, each once, in the order of the lengths of their terms
pub record AreControls (quads : List Quad) (topic : List ℕ) (triples : List Triple) : Type 0 where
  pub ascending : IsStrictlySortedBy length_triple_order triples
  pub members : (subject predicate object : Term) → Contains triples (triple subject predicate object) ↔ Says quads topic subject predicate object

-- the form of a literal
abbrev pub form_of : Term → Option (List ℕ)
form_of (Iri text) = None
form_of (Blank label) = None
form_of (Literal form kind) = Some form
