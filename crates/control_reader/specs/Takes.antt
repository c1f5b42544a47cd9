-- The page that a body gives, and the first reason why it gives none.
use Rattle.std.specs.Prelude.{ℕ, ◌≡◌, ◌<◌, List}
use Rattle.rdf_terms.specs.declared.term.Quad.{Quad}
use Rattle.rdf_terms.specs.declared.limits.TheConstants.{LONGEST_READ}
use Rattle.nquads_text.specs.declared.fault.Why.{Why}
use Rattle.nquads_text.specs.Reads.{Reads, FirstFault}
use Rattle.tpf_base.specs.Addresses.{Address, address_text, authority_of}
use Rattle.fragment_page.specs.declared.page.Page.{Page}
use Rattle.fragment_page.specs.declared.page.PageFault.{PageFault}
use Rattle.fragment_page.specs.declared.page.PageFault.TheVariants.{Text, NoTopic, NoCount, CountText, NoForm, BadTemplate, TwoNext, ForeignLink, BlankData, OutOfMemory}
use Rattle.control_triples.specs.Controls.{IsTopic, HasNoTopic, IsCount, HasNoCount, HasBadCount, FormTexts, IsLeastForm, HasNoForm, IsNext, HasTwoNext, IsVersion}
use Rattle.page_controls.specs.Controls.{IsFormOf, HasBadTemplate, IsHome}
use Rattle.control_triples.specs.Contents.{page_triples, HasBlankData}
use Rattle.page_controls.specs.Faults.{FindsForm, HasForeignLink, place_of}

-- the quads of a body whose terms have canonical texts of at most LONGEST_READ bytes
abbrev pub IsBody : List ℕ → List Quad → Type 0
IsBody bytes quads = Reads bytes LONGEST_READ quads

-- its topic, where it stands under this address
pub record HasControls (bytes : List ℕ) (address : Address) (quads : List Quad) (topic : List ℕ) : Type 0 where
  pub body : IsBody bytes quads
  pub is_topic : IsTopic quads (address_text address) topic

-- the body is this page of the address
pub record Takes (bytes : List ℕ) (address : Address) (page : Page) : Type 0 where
  pub quads : List Quad
  pub topic : List ℕ
  pub texts : FormTexts
  pub controls : HasControls bytes address quads topic
  pub count : IsCount quads topic page.count
  pub least : IsLeastForm quads topic texts
  pub form : IsFormOf texts page.form
  pub next : IsNext quads topic (authority_of address) page.next
  pub home : IsHome page.form.template (authority_of address)
  pub version : IsVersion quads topic page.version
  pub triples : page.triples ≡ page_triples quads
  pub no_blank : HasBlankData quads → ⊥

-- ---- what is wrong with a body

-- its quads and its topic are so
abbrev pub Finds : List ℕ → Address → (List Quad → List ℕ → Type 0) → Type 0
Finds bytes address P = (quads : List Quad) × (topic : List ℕ) × HasControls bytes address quads topic × P quads topic

-- what each fault says; want of memory says nothing of the body
abbrev pub IsWrong : List ℕ → Address → PageFault → Type 0
IsWrong bytes address Text = (line : ℕ) × (why : Why) × FirstFault bytes LONGEST_READ line why
IsWrong bytes address NoTopic = (quads : List Quad) × IsBody bytes quads × HasNoTopic quads (address_text address)
IsWrong bytes address NoCount = Finds bytes address HasNoCount
IsWrong bytes address CountText = Finds bytes address HasBadCount
IsWrong bytes address NoForm = Finds bytes address HasNoForm
IsWrong bytes address BadTemplate = Finds bytes address (FindsForm HasBadTemplate)
IsWrong bytes address TwoNext = Finds bytes address HasTwoNext
IsWrong bytes address ForeignLink = Finds bytes address (HasForeignLink (authority_of address))
IsWrong bytes address BlankData = Finds bytes address (λ quads topic. HasBlankData quads)
IsWrong bytes address OutOfMemory = ⊥

-- the first fault that a body has
pub record Faults (bytes : List ℕ) (address : Address) (fault : PageFault) : Type 0 where
  pub wrong : IsWrong bytes address fault
  pub first : (other : PageFault) → place_of other < place_of fault → IsWrong bytes address other → ⊥

-- the body is no text
abbrev pub WhyNoBody : List ℕ → PageFault → Type 0
WhyNoBody bytes fault = (fault ≡ Text) × ((line : ℕ) × (why : Why) × FirstFault bytes LONGEST_READ line why)
