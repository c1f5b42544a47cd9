-- The IRIs of the controls: FOAF, VoID, RDF, OWL and the Hydra core vocabulary.
use Rattle.std.specs.Prelude.{ℕ, ◌≡◌, true, List, [], ◌∷◌, map, codes}
use Rattle.std.specs.Borrow.{Bor}
use Rattle.rdf_terms.specs.Iri.{is_iri}
use Rattle.rdf_terms.specs.declared.term.Term.{Term}
use Rattle.rdf_terms.specs.declared.term.Term.TheVariants.{Iri}

unfoldable pub primary_topic : Term
primary_topic = Iri (codes "http://xmlns.com/foaf/0.1/primaryTopic")

unfoldable pub void_triples : Term
void_triples = Iri (codes "http://rdfs.org/ns/void#triples")

unfoldable pub total_items : Term
total_items = Iri (codes "http://www.w3.org/ns/hydra/core#totalItems")

unfoldable pub next_page : Term
next_page = Iri (codes "http://www.w3.org/ns/hydra/core#next")

unfoldable pub search_form : Term
search_form = Iri (codes "http://www.w3.org/ns/hydra/core#search")

unfoldable pub form_template : Term
form_template = Iri (codes "http://www.w3.org/ns/hydra/core#template")

unfoldable pub representation : Term
representation = Iri (codes "http://www.w3.org/ns/hydra/core#variableRepresentation")

unfoldable pub explicit_representation : Term
explicit_representation = Iri (codes "http://www.w3.org/ns/hydra/core#ExplicitRepresentation")

unfoldable pub form_mapping : Term
form_mapping = Iri (codes "http://www.w3.org/ns/hydra/core#mapping")

unfoldable pub mapped_variable : Term
mapped_variable = Iri (codes "http://www.w3.org/ns/hydra/core#variable")

unfoldable pub mapped_property : Term
mapped_property = Iri (codes "http://www.w3.org/ns/hydra/core#property")

unfoldable pub rdf_subject : Term
rdf_subject = Iri (codes "http://www.w3.org/1999/02/22-rdf-syntax-ns#subject")

unfoldable pub rdf_predicate : Term
rdf_predicate = Iri (codes "http://www.w3.org/1999/02/22-rdf-syntax-ns#predicate")

unfoldable pub rdf_object : Term
rdf_object = Iri (codes "http://www.w3.org/1999/02/22-rdf-syntax-ns#object")

unfoldable pub version_info : Term
version_info = Iri (codes "http://www.w3.org/2002/07/owl#versionInfo")

-- ---- several words

abbrev pub is_iri_text : Bor (List ℕ) → Type 0
is_iri_text text = is_iri text.now ≡ true

-- the terms that are these IRIs
abbrev pub iris_of : List (Bor (List ℕ)) → List Term
iris_of texts = map (λ (text : Bor (List ℕ)). Iri text.now) texts

-- the IRIs of forms
unfoldable pub form_words : List Term
form_words =
    form_template ∷ representation ∷ explicit_representation ∷ form_mapping ∷ mapped_property ∷ rdf_subject ∷ rdf_predicate ∷ rdf_object ∷ []
