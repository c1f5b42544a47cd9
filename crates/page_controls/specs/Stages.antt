-- What the parts of a page's reading find, one after another.
use Rattle.std.specs.Prelude.{ℕ, ◌≡◌, ◌<◌, ◌⊎◌, List}
use Rattle.rdf_terms.specs.declared.term.Term.{Term}
use Rattle.rdf_terms.specs.declared.term.Term.TheVariants.{Iri}
use Rattle.rdf_terms.specs.declared.term.Quad.{Quad}
use Rattle.tpf_base.specs.Addresses.{Address, address_text, authority_of}
use Rattle.page_controls.specs.declared.told.Told.{Told}
use Rattle.fragment_page.specs.declared.page.PageFault.{PageFault}
use Rattle.fragment_page.specs.declared.page.PageFault.TheVariants.{Text, NoTopic, NoCount, CountText, NoForm, BadTemplate, TwoNext, ForeignLink, BlankData, OutOfMemory}
use Rattle.control_triples.specs.Controls.{IsTopic, HasNoTopic, IsCount, HasNoCount, HasBadCount, HasNoForm, IsNext, HasTwoNext, IsVersion}
use Rattle.page_controls.specs.Controls.{HasBadTemplate, IsHome}
use Rattle.page_controls.specs.Faults.{FindsForm, HasForeignLink, place_of}
use Rattle.control_triples.specs.Contents.{HasBlankData}
use Rattle.page_controls.specs.Counts.{TakesForm}

pub record TakesControls (quads : List Quad) (topic authority : List ℕ) (told : Told) : Type 0 where
  pub count : IsCount quads topic told.count
  pub form : TakesForm quads topic told.form
  pub next : IsNext quads topic authority told.next
  pub home : IsHome told.form.template authority
  pub version : IsVersion quads topic told.version

-- what each fault says of the quads under a topic
abbrev pub IsAmiss : List Quad → List ℕ → List ℕ → PageFault → Type 0
IsAmiss quads topic authority Text = ⊥
IsAmiss quads topic authority NoTopic = ⊥
IsAmiss quads topic authority NoCount = HasNoCount quads topic
IsAmiss quads topic authority CountText = HasBadCount quads topic
IsAmiss quads topic authority NoForm = HasNoForm quads topic
IsAmiss quads topic authority BadTemplate = FindsForm HasBadTemplate quads topic
IsAmiss quads topic authority TwoNext = HasTwoNext quads topic
IsAmiss quads topic authority ForeignLink = HasForeignLink authority quads topic
IsAmiss quads topic authority BlankData = HasBlankData quads
IsAmiss quads topic authority OutOfMemory = ⊥

-- the first fault of the quads under a topic
pub record FirstAmiss (quads : List Quad) (topic authority : List ℕ) (fault : PageFault) : Type 0 where
  pub amiss : IsAmiss quads topic authority fault
  pub first : (other : PageFault) → place_of other < place_of fault → IsAmiss quads topic authority other → ⊥

-- the term is the topic of a page under its address
abbrev pub IsTopicTerm : List Quad → Address → Term → Type 0
IsTopicTerm quads address term = (topic : List ℕ) × (term ≡ Iri topic) × IsTopic quads (address_text address) topic

-- what the quads of a body tell under its address
pub record TakesPage (quads : List Quad) (address : Address) (told : Told) : Type 0 where
  pub topic : List ℕ
  pub is_topic : IsTopic quads (address_text address) topic
  pub controls : TakesControls quads topic (authority_of address) told

abbrev pub WhyNoPage : List Quad → Address → PageFault → Type 0
WhyNoPage quads address fault = ((fault ≡ NoTopic) × HasNoTopic quads (address_text address)) ⊎ ((topic : List ℕ) × IsTopic quads (address_text address) topic × FirstAmiss quads topic (authority_of address) fault)
