-- A server of fragments is a world: the data of a version, what it gives for a selection in pages, and the addresses of these.
use Rattle.std.specs.Prelude.{ℕ, zero, suc, ◌≡◌, ◌*◌, ◌<◌, ◌≤◌, ◌^◌, Bool, true, false, List, [], ◌∷◌, length, take, drop}
use Rattle.tpf_base.specs.Addresses.{Address}
use Rattle.rdf_terms.specs.declared.term.Triple.{Triple}
use Rattle.rdf_terms.specs.declared.slots.Slots.{Slots}
use Rattle.rdf_terms.specs.declared.limits.TheConstants.{MOST_ROWS}
use Rattle.rdf_terms.specs.Selections.{Selection, IsValidSelection, matches_one, selected, selected_last}
use Rattle.template_fill.specs.declared.form.Form.{Form}
use Rattle.template_fill.specs.Answers.{read_as}
use Rattle.template_fill.specs.Authorities.{address_of_page}
use Rattle.template_fill.specs.Metadata.{Config}
use Rattle.template_fill.specs.Configurations.{IsConfig, IsHistory}
use Rattle.template_fill.specs.Bodies.{version_of, page_body}
use Rattle.fragment_page.specs.declared.page.Page.{Page}
use Rattle.control_reader.specs.Takes.{Takes}
use Rattle.control_laws.specs.Law.{IsServerForm, IsVersionNumber}
use Rattle.request_plan.specs.Rounds.{round_of_one}
use Rattle.request_plan.specs.Blocks.{is_askable}
use Rattle.request_plan.specs.Worlds.{World, IsWorld, HasForm, IsPageAt}

-- which triples of a fragment are given: where rows are read, all without a row, and with rows those that match one of them; where they are passed over, all
abbrev pub kept_by : Bool → List Slots → Triple → Bool
kept_by false rows t = true
kept_by true [] t = true
kept_by true (row ∷ rows) t = matches_one (row ∷ rows) t

-- what the address of a page asks for: that of the first page has the rows; where they are passed over, further pages stand where those of the fragment do
abbrev pub asked_at : Bool → ℕ → Selection → Selection
asked_at rows zero s = read_as rows s
asked_at rows (suc zero) s = s
asked_at rows (suc (suc k)) s = read_as rows s

-- what a server of these triples has for requests that carry at most so many rows
abbrev pub server_world : ℕ → List Triple → Config → World
server_world block triples config = record {
  triples = triples;
  keeps = kept_by config.rows;
  block = block;
  count = λ s. length (selected triples (read_as config.rows s));
  last = λ s. selected_last triples (read_as config.rows s) config.page_size;
  items = λ s k. take config.page_size (drop (k * config.page_size) (selected triples (read_as config.rows s)));
  round = λ s k. round_of_one (address_of_page config.base (asked_at config.rows k s) k);
}

-- each version of a history is a world, where its triples can be counted
abbrev pub ServersAreWorlds : Type 0
ServersAreWorlds =
    (block : ℕ) (history : List (List Triple)) (version : ℕ) (config : Config)
    → 1 ≤ block → block ≤ MOST_ROWS → IsHistory history → IsConfig config → length (version_of history version) < 2 ^ 64
    → IsWorld (server_world block (version_of history version) config)

-- it is one server, and the form that its pages tell gives the addresses of the first pages
abbrev pub ServersHaveForms : Type 0
ServersHaveForms = (block : ℕ) (triples : List Triple) (config : Config) (form : Form) → IsConfig config → IsServerForm config.base form → HasForm (server_world block triples config) form

-- the page is read from the body of each page that has this address
abbrev pub IsReadAt : List (List Triple) → ℕ → Config → Address → Page → Type 0
IsReadAt history version config address page =
    (s : Selection) (k : ℕ) → IsValidSelection s → is_askable s ≡ true → address ≡ address_of_page config.base (asked_at config.rows (suc k) s) (suc k)
    → k < selected_last (version_of history version) (read_as config.rows s) config.page_size
    → Takes (page_body history version config (read_as config.rows s) (suc k)) address page

-- a page that is read from a server's body is true
abbrev pub ServersPagesAreTrue : Type 0
ServersPagesAreTrue =
    (block : ℕ) (history : List (List Triple)) (version : ℕ) (config : Config) (address : Address) (page : Page)
    → IsHistory history → IsVersionNumber version → IsConfig config → IsReadAt history version config address page → IsPageAt (server_world block (version_of history version) config) address page
