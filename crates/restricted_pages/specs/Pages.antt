-- A page of what rows leave of a fragment, by the ids of a table.
use Rattle.std.specs.Prelude.{ℕ, ◌≡◌, ◌≤◌, List, map, length, All, Option, MatchOption}
use Rattle.rdf_terms.specs.declared.slots.Slots.{Slots}
use Rattle.rdf_terms.specs.declared.term.Triple.{Triple}
use Rattle.rdf_terms.specs.Selections.{Selection, selected, selected_last, selected_page}
use Rattle.triple_table.specs.declared.ids.IdTriple.{IdTriple}
use Rattle.triple_table.specs.Stored.{Stored, IsIdTriple, held_terms, triples_in, triple_at}
use Rattle.restricted_pages.specs.declared.page.RestrictedPage.{RestrictedPage}

-- the selection of slots and rows
abbrev pub chosen : Slots → List Slots → Selection
chosen slots rows = record { slots = slots; rows = rows }

-- the triples of some ids
abbrev pub triples_at : Stored → List IdTriple → List Triple
triples_at s ids = map (triple_at (held_terms s)) ids

-- k is the number of a page
pub record IsSelectedNumber (s : Stored) (slots : Slots) (rows : List Slots) (k size : ℕ) : Type 0 where
  pub first : 1 ≤ k
  pub last : k ≤ selected_last (triples_in s) (chosen slots rows) size

-- it is page k of the selection
pub record IsSelectedPage (s : Stored) (slots : Slots) (rows : List Slots) (k size : ℕ)
    (page : RestrictedPage) : Type 0 where
  pub ids : All (IsIdTriple (held_terms s)) page.triples.items
  pub triples : triples_at s page.triples.items ≡ selected_page (triples_in s) (chosen slots rows) k size
  pub count : page.count ≡ length (selected (triples_in s) (chosen slots rows))

-- page k of the selection where there is one, and none where there is not
abbrev pub IsSelectedAnswer : Stored → Slots → List Slots → ℕ → ℕ → Option RestrictedPage → Type 0
IsSelectedAnswer s slots rows k size answer =
    MatchOption answer (IsSelectedNumber s slots rows k size → ⊥)
    (λ page. IsSelectedNumber s slots rows k size × IsSelectedPage s slots rows k size page)
