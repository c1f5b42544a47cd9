-- A page of a fragment as a view of a table.
use Rattle.std.specs.Prelude.{ℕ, ◌≡◌, ◌-◌, ◌≤◌, List, take, drop, length}
use Rattle.rdf_terms.specs.declared.slots.Slots.{Slots}
use Rattle.rdf_terms.specs.declared.term.Triple.{Triple}
use Rattle.rdf_terms.specs.Fragments.{fragment, last_page, page_of}
use Rattle.triple_table.specs.Stored.{Stored, IsRange, triples_in, listed}
use Rattle.fragment_pages.specs.declared.view.PageView.{PageView}

-- the triples that a view shows
abbrev pub shown : Stored → PageView → List Triple
shown s view = take (view.to - view.from) (drop view.from (listed s view.range))

-- the view shows page k of the fragment
pub record IsPage (s : Stored) (slots : Slots) (k size : ℕ) (view : PageView) : Type 0 where
  pub range : IsRange s view.range
  pub lists : listed s view.range ≡ fragment (triples_in s) slots
  pub order : view.from ≤ view.to
  pub within : view.to ≤ length (listed s view.range)
  pub triples : shown s view ≡ page_of (triples_in s) slots k size
  pub count : view.count ≡ length (fragment (triples_in s) slots)
  pub last : view.last ≡ last_page (triples_in s) slots size

-- k is the number of a page
pub record IsPageNumber (s : Stored) (slots : Slots) (k size : ℕ) : Type 0 where
  pub first : 1 ≤ k
  pub last : k ≤ last_page (triples_in s) slots size
