-- What is selected of a data set: a fragment, or of it the triples that match one of some rows (bindings-restricted Triple Pattern Fragments, brTPF).
use Rattle.std.specs.Prelude.{◌↔◌, ◌⊎◌, ℕ, ◌≡◌, ◌≤◌, ◌-◌, ◌*◌, Bool, List, [], ◌∷◌, take, drop, length}
use Rattle.std.specs.List.{filter, list_any, AllByRecursion, Contains, Any}
use Rattle.std.specs.List.Sorted.{IsStrictlySortedBy}
use Rattle.rdf_terms.specs.declared.term.Triple.{Triple}
use Rattle.rdf_terms.specs.declared.slots.Slots.{Slots}
use Rattle.rdf_terms.specs.declared.limits.TheConstants.{MOST_ROWS}
use Rattle.rdf_terms.specs.Slots.{Matches, matches, order_of}
use Rattle.rdf_terms.specs.Kept.{AreValid, AreKept}
use Rattle.rdf_terms.specs.Fragments.{fragment, last_page_of}

-- the slots of a fragment, and the rows that restrict it: none where nothing does
pub record Selection : Type 0 where
  pub slots : Slots
  pub rows : List Slots

abbrev pub all_of : Slots → Selection
all_of slots = record { slots = slots; rows = [] }

-- the triple matches at least one of the rows
abbrev pub matches_one : List Slots → Triple → Bool
matches_one rows t = list_any (λ row. matches row t) rows

-- of these triples, in their order, those that match at least one of the rows; all of them where there is no row
abbrev pub restricted : List Slots → List Triple → List Triple
restricted [] items = items
restricted (row ∷ rows) items = filter (matches_one (row ∷ rows)) items

-- the triples of the fragment, in its order, that match at least one of the rows
abbrev pub selected : List Triple → Selection → List Triple
selected triples s = restricted s.rows (fragment triples s.slots)

-- ---- the same as a relation

-- nothing restricts the triple, or it matches one of the rows
abbrev pub MatchesOne : List Slots → Triple → Type 0
MatchesOne rows t = (rows ≡ []) ⊎ Any (λ row. Matches row t) rows

-- a list that holds exactly the triples that match the slots and one of the rows, each once, in the order of the slots
pub record IsSelected (triples : List Triple) (s : Selection) (items : List Triple) : Type 0 where
  pub ascending : IsStrictlySortedBy (order_of s.slots) items
  pub members : (t : Triple) → Contains items t ↔ (Contains triples t × Matches s.slots t × MatchesOne s.rows t)

-- ---- pages of `size` items, of which the first has the number 1

abbrev pub selected_last : List Triple → Selection → ℕ → ℕ
selected_last triples s size = last_page_of (length (selected triples s)) size

abbrev pub selected_page : List Triple → Selection → ℕ → ℕ → List Triple
selected_page triples s k size = take size (drop ((k - 1) * size) (selected triples s))

-- ---- which selections can be asked for

-- no fixed place of the slots or of a row is a blank node, each is a valid term, and there are not too many rows
pub record IsKeptSelection (s : Selection) : Type 0 where
  pub slots : AreKept s.slots
  pub rows : AllByRecursion AreKept s.rows
  pub few : length s.rows ≤ MOST_ROWS

pub record IsValidSelection (s : Selection) : Type 0 where
  pub slots : AreValid s.slots
  pub rows : AllByRecursion AreValid s.rows
  pub few : length s.rows ≤ MOST_ROWS

-- ---- the laws

-- with no rows, what is selected and its pages are the fragment and its pages
pub record NoRowsSelectAll : Type 0 where
  pub items : (triples : List Triple) (slots : Slots) → selected triples (all_of slots) ≡ fragment triples slots
  pub pages : (triples : List Triple) (slots : Slots) (k size : ℕ) → selected_page triples (all_of slots) k size ≡ take size (drop ((k - 1) * size) (fragment triples slots))
  pub last : (triples : List Triple) (slots : Slots) (size : ℕ) → selected_last triples (all_of slots) size ≡ last_page_of (length (fragment triples slots)) size

-- what is selected is the one list that `IsSelected` allows
pub record SelectionIsOne : Type 0 where
  pub is : (triples : List Triple) (s : Selection) → IsSelected triples s (selected triples s)
  pub only : (triples : List Triple) (s : Selection) (items : List Triple) → IsSelected triples s items → items ≡ selected triples s
