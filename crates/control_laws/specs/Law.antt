-- The law of controls: what a page's body was made of is what is taken from it (Triple Pattern Fragments, "Data", "Metadata" and "Controls").
use Rattle.std.specs.Prelude.{ℕ, ◌≡◌, ◌+◌, ◌<◌, ◌≤◌, List, codes, length, Option, Some, None}
use Rattle.std.specs.List.{AllByRecursion}
use Rattle.rdf_terms.specs.declared.term.Triple.{Triple}
use Rattle.rdf_terms.specs.Selections.{Selection, selected, selected_page, selected_last}
use Rattle.rdf_terms.specs.declared.limits.TheConstants.{LONGEST_READ}
use Rattle.tpf_base.specs.declared.limits.TheConstants.{HIGHEST_NUMBER}
use Rattle.tpf_base.specs.Addresses.{Address, IsAddress, authority_of}
use Rattle.template_fill.specs.declared.form.Form.{Form}
use Rattle.template_fill.specs.Pages.{page_address, server_template}
use Rattle.template_fill.specs.Metadata.{Config}
use Rattle.template_fill.specs.Configurations.{IsConfig, IsHistory}
use Rattle.template_fill.specs.Bodies.{version_of, page_quads, page_body}
use Rattle.fragment_page.specs.declared.page.Page.{Page}
use Rattle.control_reader.specs.Takes.{Takes}
pub use Rattle.own_controls.specs.Safe.{IsShort, IsShortGraph, HasShortTerms}

-- within the limits of reading: a count of at most HIGHEST_NUMBER, and terms of at most LONGEST_READ bytes
pub record IsWithinLimits (history : List (List Triple)) (version : ℕ) (config : Config) (s : Selection) (k : ℕ) : Type 0 where
  pub count : length (selected (version_of history version) s) ≤ HIGHEST_NUMBER
  pub terms : AllByRecursion (HasShortTerms LONGEST_READ) (page_quads history version config s k)

-- the address of the next page, exactly where k is below the last
abbrev pub IsNextOf : Config → Selection → ℕ → ℕ → Option Address → Type 0
IsNextOf config s k last None = last ≤ k
IsNextOf config s k last (Some next) = (k < last) × IsAddress (page_address config.base s (k + 1)) next

-- the server's form
pub record IsServerForm (base : Address) (form : Form) : Type 0 where
  pub template : form.template ≡ server_template base
  pub subject : form.subject ≡ codes "subject"
  pub predicate : form.predicate ≡ codes "predicate"
  pub object : form.object ≡ codes "object"

-- page k of the selection: its triples, how many are selected, the next page, the server's form, and the version
pub record IsPageOf (triples : List Triple) (version : ℕ) (config : Config) (s : Selection) (k : ℕ) (page : Page) : Type 0 where
  pub triples_are : page.triples ≡ selected_page triples s k config.page_size
  pub count : page.count ≡ length (selected triples s)
  pub next : IsNextOf config s k (selected_last triples s config.page_size) page.next
  pub form : IsServerForm config.base page.form
  pub version_is : page.version ≡ Some version

-- the version is at most HIGHEST_NUMBER, as each version of a history is
abbrev pub IsVersionNumber : ℕ → Type 0
IsVersionNumber version = version ≤ HIGHEST_NUMBER

-- within these limits, and under each address of the server's authority, the body of a page is read as that page
abbrev pub ControlsReadBack : Type 0
ControlsReadBack =
    (history : List (List Triple)) (version : ℕ) (config : Config) (s : Selection) (k : ℕ) (address : Address) (page : Page)
    → IsHistory history
    → IsVersionNumber version
    → IsConfig config
    → IsWithinLimits history version config s k
    → authority_of address ≡ authority_of config.base
    → IsPageOf (version_of history version) version config s k page
    → Takes (page_body history version config s k) address page

-- what is read from a body that a server's definition gives
pub record IsReadFrom (history : List (List Triple)) (version : ℕ) (config : Config) (s : Selection) (k : ℕ) (address : Address) (page : Page) : Type 0 where
  pub within : IsWithinLimits history version config s k
  pub authority : authority_of address ≡ authority_of config.base
  pub is_page : IsPageOf (version_of history version) version config s k page

-- nothing else is read from it, and nothing at all past the limits or under another authority
abbrev pub NothingElseIsRead : Type 0
NothingElseIsRead =
    (history : List (List Triple)) (version : ℕ) (config : Config) (s : Selection) (k : ℕ) (address : Address) (page : Page)
    → IsHistory history
    → IsVersionNumber version
    → IsConfig config
    → Takes (page_body history version config s k) address page
    → IsReadFrom history version config s k address page

-- and there is such a page
abbrev pub PagesAreThere : Type 0
PagesAreThere =
    (history : List (List Triple)) (version : ℕ) (config : Config) (s : Selection) (k : ℕ)
    → IsHistory history
    → IsConfig config
    → (page : Page) × IsPageOf (version_of history version) version config s k page
