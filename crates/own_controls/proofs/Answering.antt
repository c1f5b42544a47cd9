-- Which quads of what is said of a page answer each question.
use Rattle.std.proofs.Common.{◌≡◌, Bool, true, false, List, [], ◌∷◌, ◌++◌, ℕ, refl}
use Rattle.std.specs.Prelude.{codes, is_none}
use Rattle.std.specs.List.{filter}
use Rattle.rdf_terms.specs.declared.term.Term.{Term}
use Rattle.rdf_terms.specs.declared.term.Term.TheVariants.{Iri, Blank}
use Rattle.rdf_terms.specs.declared.term.Quad.{Quad}
use Rattle.tpf_base.specs.Decimals.{decimal_text}
use Rattle.template_fill.specs.Metadata.{foaf, void, hydra, rdf, plain, integer, topic_quads, form_quads, mapping_quads, count_quads, link_quads, version_quads, owl}
use Rattle.control_triples.specs.Vocabulary.{primary_topic, total_items, next_page, search_form, form_template, representation, explicit_representation, form_mapping, mapped_variable, mapped_property, rdf_subject, rdf_predicate, rdf_object, version_info}
use Rattle.own_controls.specs.Metadata.{Parts, metadata}
use Rattle.own_controls.proofs.Asking.{asks, asks_object, asks_subject, named}

abbrev pub node : Term
node = Blank (codes "form")

-- ---- the answers

pub all_named : (there back : Bool) (m : Parts) → filter (λ (q : Quad). is_none q.graph) (metadata there back m) ≡ []
unfolding metadata topic_quads form_quads mapping_quads count_quads link_quads version_quads foaf void hydra rdf owl
all_named true true m = refl
all_named true false m = refl
all_named false true m = refl
all_named false false m = refl

pub topic_asked : (there back : Bool) (m : Parts) → filter (asks primary_topic) (metadata there back m) ≡ named (Iri m.graph) (Iri m.graph) primary_topic (Iri m.page) ∷ []
unfolding metadata topic_quads form_quads mapping_quads count_quads link_quads version_quads foaf void hydra rdf owl primary_topic
topic_asked true true m = refl
topic_asked true false m = refl
topic_asked false true m = refl
topic_asked false false m = refl

pub count_asked : (there back : Bool) (m : Parts) → filter (asks total_items) (metadata there back m) ≡ named (Iri m.graph) (Iri m.page) total_items (integer m.count) ∷ []
unfolding metadata topic_quads form_quads mapping_quads count_quads link_quads version_quads foaf void hydra rdf owl total_items
count_asked true true m = refl
count_asked true false m = refl
count_asked false true m = refl
count_asked false false m = refl

pub version_asked : (there back : Bool) (m : Parts) → filter (asks version_info) (metadata there back m) ≡ named (Iri m.graph) (Iri (m.base ++ codes "#dataset")) version_info (plain (decimal_text m.version)) ∷ []
unfolding metadata topic_quads form_quads mapping_quads count_quads link_quads version_quads foaf void hydra rdf owl version_info
version_asked true true m = refl
version_asked true false m = refl
version_asked false true m = refl
version_asked false false m = refl

pub next_asked : (back : Bool) (m : Parts) → filter (asks next_page) (metadata true back m) ≡ named (Iri m.graph) (Iri m.page) next_page (Iri m.next) ∷ []
unfolding metadata topic_quads form_quads mapping_quads count_quads link_quads version_quads foaf void hydra rdf owl next_page
next_asked true m = refl
next_asked false m = refl

pub no_next_asked : (back : Bool) (m : Parts) → filter (asks next_page) (metadata false back m) ≡ []
unfolding metadata topic_quads form_quads mapping_quads count_quads link_quads version_quads foaf void hydra rdf owl next_page
no_next_asked true m = refl
no_next_asked false m = refl

pub form_asked : (there back : Bool) (m : Parts) → filter (asks search_form) (metadata there back m) ≡ named (Iri m.graph) (Iri (m.base ++ codes "#dataset")) search_form node ∷ []
unfolding metadata topic_quads form_quads mapping_quads count_quads link_quads version_quads foaf void hydra rdf owl search_form
form_asked true true m = refl
form_asked true false m = refl
form_asked false true m = refl
form_asked false false m = refl

pub template_asked : (there back : Bool) (m : Parts) → filter (asks form_template) (metadata there back m) ≡ named (Iri m.graph) node form_template (plain m.template) ∷ []
unfolding metadata topic_quads form_quads mapping_quads count_quads link_quads version_quads foaf void hydra rdf owl form_template
template_asked true true m = refl
template_asked true false m = refl
template_asked false true m = refl
template_asked false false m = refl

pub representation_asked : (there back : Bool) (m : Parts) → filter (asks representation) (metadata there back m) ≡ named (Iri m.graph) node representation explicit_representation ∷ []
unfolding metadata topic_quads form_quads mapping_quads count_quads link_quads version_quads foaf void hydra rdf owl representation explicit_representation
representation_asked true true m = refl
representation_asked true false m = refl
representation_asked false true m = refl
representation_asked false false m = refl

-- ---- the places

-- what is said of a place with this label, this name and this property
pub record Said (quads : List Quad) (graph : List ℕ) (label name : List ℕ) (property : Term) : Type 0 where
  pub mapping : filter (asks_object form_mapping (Blank label)) quads ≡ named (Iri graph) node form_mapping (Blank label) ∷ []
  pub property_is : filter (asks_object mapped_property property) quads ≡ named (Iri graph) (Blank label) mapped_property property ∷ []
  pub variable : filter (asks_subject mapped_variable (Blank label)) quads ≡ named (Iri graph) (Blank label) mapped_variable (plain name) ∷ []

pub subject_said : (there back : Bool) (m : Parts) → Said (metadata there back m) m.graph (codes "s") (codes "subject") rdf_subject
unfolding metadata topic_quads form_quads mapping_quads count_quads link_quads version_quads foaf void hydra rdf owl form_mapping mapped_property mapped_variable rdf_subject
subject_said true true m = record { mapping = refl; property_is = refl; variable = refl }
subject_said true false m = record { mapping = refl; property_is = refl; variable = refl }
subject_said false true m = record { mapping = refl; property_is = refl; variable = refl }
subject_said false false m = record { mapping = refl; property_is = refl; variable = refl }

pub predicate_said : (there back : Bool) (m : Parts) → Said (metadata there back m) m.graph (codes "p") (codes "predicate") rdf_predicate
unfolding metadata topic_quads form_quads mapping_quads count_quads link_quads version_quads foaf void hydra rdf owl form_mapping mapped_property mapped_variable rdf_predicate
predicate_said true true m = record { mapping = refl; property_is = refl; variable = refl }
predicate_said true false m = record { mapping = refl; property_is = refl; variable = refl }
predicate_said false true m = record { mapping = refl; property_is = refl; variable = refl }
predicate_said false false m = record { mapping = refl; property_is = refl; variable = refl }

pub object_said : (there back : Bool) (m : Parts) → Said (metadata there back m) m.graph (codes "o") (codes "object") rdf_object
unfolding metadata topic_quads form_quads mapping_quads count_quads link_quads version_quads foaf void hydra rdf owl form_mapping mapped_property mapped_variable rdf_object
object_said true true m = record { mapping = refl; property_is = refl; variable = refl }
object_said true false m = record { mapping = refl; property_is = refl; variable = refl }
object_said false true m = record { mapping = refl; property_is = refl; variable = refl }
object_said false false m = record { mapping = refl; property_is = refl; variable = refl }
