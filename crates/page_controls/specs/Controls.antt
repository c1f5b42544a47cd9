-- The form that the texts of a page's form give, and the authority of its template.
use Rattle.std.specs.Prelude.{ℕ, ◌≡◌, ◌≢◌, Bool, true, false, ◌&&◌, List, [], Some}
use Rattle.tpf_base.specs.Addresses.{Address, IsAddress, authority_of}
use Rattle.template_fill.specs.Templates.{Template, read_template, has_name, expansion}
use Rattle.template_fill.specs.declared.form.Form.{Form}
use Rattle.control_triples.specs.Controls.{FormTexts}

-- the template names the three variables
abbrev pub names_all : Template → FormTexts → Bool
names_all template texts = has_name template texts.subject && (has_name template texts.predicate && has_name template texts.object)

-- the form that the texts give
pub record IsFormOf (texts : FormTexts) (form : Form) : Type 0 where
  pub template : read_template texts.template ≡ Some form.template
  pub names : names_all form.template texts ≡ true
  pub subject : form.subject ≡ texts.subject
  pub predicate : form.predicate ≡ texts.predicate
  pub object : form.object ≡ texts.object

-- the text is no template, or one that does not name all three
abbrev pub HasBadTemplate : FormTexts → Type 0
HasBadTemplate texts = (template : Template) → read_template texts.template ≡ Some template → names_all template texts ≡ false

-- the template without values is an address of the authority, or of another one
abbrev pub IsHome : Template → List ℕ → Type 0
IsHome template authority = (address : Address) × IsAddress (expansion template []) address × (authority_of address ≡ authority)

abbrev pub IsForeign : Template → List ℕ → Type 0
IsForeign template authority = (address : Address) × IsAddress (expansion template []) address × (authority_of address ≢ authority)
