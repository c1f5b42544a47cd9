-- Forms as they are looked for.
use Rattle.std.specs.Prelude.{ℕ, ◌≡◌, ◌≢◌, List, Option, Some, None, if◌then◌else◌}
use Rattle.rdf_terms.specs.declared.term.Term.{Term}
use Rattle.rdf_terms.specs.declared.term.Triple.{Triple}
use Rattle.rdf_terms.specs.declared.term.Quad.{Quad}
use Rattle.rdf_terms.specs.Same.{term_eq}
use Rattle.control_triples.specs.declared.form.FormParts.{FormParts}
use Rattle.control_triples.specs.declared.form.NodeWords.{NodeWords}
use Rattle.control_triples.specs.declared.form.MappingWords.{MappingWords}
use Rattle.control_triples.specs.declared.form.PlaceWords.{PlaceWords}
use Rattle.control_triples.specs.declared.form.FormIndex.{FormIndex}
use Rattle.control_triples.specs.Controls.{FormTexts, Says, MapsTo}
use Rattle.control_triples.specs.Variables.{named_all, AreVariables, HasVariable}
use Rattle.control_triples.specs.Vocabulary.{search_form, form_template, representation, explicit_representation, form_mapping, mapped_property, rdf_subject, rdf_predicate, rdf_object}

abbrev pub texts_of : FormParts → FormTexts
texts_of parts = record { template = parts.template.now; subject = parts.subject.now; predicate = parts.predicate.now; object = parts.object.now }

-- the object, if the predicate is hydra:search
abbrev pub searched_of : Triple → Option Term
searched_of t = if term_eq t.predicate search_form then Some t.object else None

abbrev pub IsSearched : List Quad → List ℕ → Term → Type 0
IsSearched quads topic node = (subject : Term) × Says quads topic subject search_form node

pub record AreNodeWords (words : NodeWords) : Type 0 where
  pub template : words.template.now ≡ form_template
  pub representation_is : words.representation.now ≡ representation
  pub explicit : words.explicit.now ≡ explicit_representation

pub record AreMappingWords (words : MappingWords) : Type 0 where
  pub mapping : words.mapping.now ≡ form_mapping
  pub property : words.property.now ≡ mapped_property

pub record ArePlaceWords (words : PlaceWords) : Type 0 where
  pub subject : words.subject.now ≡ rdf_subject
  pub predicate : words.predicate.now ≡ rdf_predicate
  pub object : words.object.now ≡ rdf_object

pub record IsIndex (index : FormIndex) : Type 0 where
  pub node : AreNodeWords index.node
  pub mappings : AreMappingWords index.mappings
  pub places : ArePlaceWords index.places
  pub variables : AreVariables index.controls.now.quads index.controls.now.topic (named_all index.variables.now)

-- the mapping has the property and a variable with this text
abbrev pub Names : List Quad → List ℕ → Term → Term → List ℕ → Type 0
Names quads topic mapping property text = Says quads topic mapping mapped_property property × HasVariable quads topic mapping text

abbrev pub NamesOther : List Quad → List ℕ → Term → Term → List ℕ → Type 0
NamesOther quads topic mapping property text = (other : List ℕ) × Names quads topic mapping property other × (other ≢ text)

abbrev pub MapsToOther : List Quad → List ℕ → Term → Term → List ℕ → Type 0
MapsToOther quads topic node property text = (other : List ℕ) × MapsTo quads topic node property other × (other ≢ text)
