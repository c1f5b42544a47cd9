-- Why each answer is a fault.
use Rattle.std.specs.Prelude.{ℕ, ◌≡◌, ◌≢◌, ◌⊎◌, ◌↔◌, List}
use Rattle.std.specs.List.{Contains}
use Rattle.std.specs.Borrow.{Bor}
use Rattle.rdf_terms.specs.declared.term.Triple.{Triple}
use Rattle.control_triples.specs.Parts.{objects_in}
use Rattle.rdf_terms.specs.declared.term.Quad.{Quad}
use Rattle.fragment_page.specs.declared.page.PageFault.{PageFault}
use Rattle.fragment_page.specs.declared.page.PageFault.TheVariants.{NoCount, CountText, NoForm, BadTemplate, TwoNext, ForeignLink}
use Rattle.control_triples.specs.Controls.{IsCountObject, IsNextObject, HasNoCount, HasBadCount, HasNoForm, FormTexts, IsLeastForm, HasTwoNext, HasForeignNext, IsLink}
use Rattle.page_controls.specs.Controls.{IsFormOf, HasBadTemplate}
use Rattle.rdf_terms.specs.declared.term.Term.{Term}
use Rattle.tpf_base.specs.Addresses.{Address, authority_of}
use Rattle.page_controls.specs.Faults.{FindsForm}
use Rattle.template_fill.specs.declared.form.Form.{Form}

abbrev pub WhyNoCount : List Quad → List ℕ → PageFault → Type 0
WhyNoCount quads topic fault = ((fault ≡ NoCount) × HasNoCount quads topic) ⊎ ((fault ≡ CountText) × HasBadCount quads topic)

abbrev pub WhyNoNext : List Quad → List ℕ → List ℕ → PageFault → Type 0
WhyNoNext quads topic authority fault = ((fault ≡ TwoNext) × HasTwoNext quads topic) ⊎ ((fault ≡ ForeignLink) × (HasTwoNext quads topic → ⊥) × HasForeignNext quads topic authority)

-- the form with the texts of the least
pub record TakesForm (quads : List Quad) (topic : List ℕ) (form : Form) : Type 0 where
  pub texts : FormTexts
  pub least : IsLeastForm quads topic texts
  pub is_form : IsFormOf texts form

abbrev pub WhyNoForm : List Quad → List ℕ → PageFault → Type 0
WhyNoForm quads topic fault = ((fault ≡ NoForm) × HasNoForm quads topic) ⊎ ((fault ≡ BadTemplate) × FindsForm HasBadTemplate quads topic)

-- the term is an IRI that is this address, of the authority
abbrev pub TakesLink : List ℕ → Term → Address → Type 0
TakesLink authority term link = IsLink term link × (authority_of link ≡ authority)

-- it is none of the authority
abbrev pub IsNoLink : List ℕ → Term → Type 0
IsNoLink authority term = (link : Address) → IsLink term link → authority_of link ≢ authority

-- these are the objects that give the number of triples
abbrev pub AreCounts : List Quad → List ℕ → List (Bor Triple) → Type 0
AreCounts quads topic triples = (object : Term) → Contains (objects_in triples) object ↔ IsCountObject quads topic object

-- these are the objects of hydra:next
abbrev pub AreNexts : List Quad → List ℕ → List (Bor Triple) → Type 0
AreNexts quads topic triples = (object : Term) → Contains (objects_in triples) object ↔ IsNextObject quads topic object
