-- What every configuration and every history of a server keeps.
use Rattle.std.specs.Prelude.{ℕ, ◌≡◌, ◌≤◌, ◌+◌, ◌++◌, Bool, true, false, not, ◌==◌, ◌&&◌, bytes_eq, List, [], ◌∷◌, Option, Some, None, length}
use Rattle.std.specs.List.{AllByRecursion, list_all}
use Rattle.rdf_terms.specs.declared.term.Triple.{Triple}
use Rattle.rdf_terms.specs.Triples.{IsDataSet}
use Rattle.rdf_terms.specs.Valid.{IsValidTriple}
use Rattle.tpf_base.specs.declared.limits.TheConstants.{HIGHEST_NUMBER}
use Rattle.tpf_base.specs.Addresses.{Address, IsAddress, address_text, is_path_byte}
use Rattle.template_fill.specs.declared.limits.TheConstants.{LARGEST_PAGE}
use Rattle.template_fill.specs.Metadata.{Config}
use Rattle.template_fill.specs.Bodies.{version_of}

-- a path of an address that is written: / and characters of a path
abbrev pub is_written_path : List ℕ → Bool
is_written_path [] = false
is_written_path (b ∷ rest) = (b == 47) && list_all is_path_byte rest

-- a written path that is not the path of the base
abbrev pub is_reload_path : Address → List ℕ → Bool
is_reload_path base path = is_written_path path && not (bytes_eq path base.path)

-- there is no path of a reload, or there is such a one
abbrev pub HasReloadPath : Address → Option (List ℕ) → Type 0
HasReloadPath base None = Unit {0}
HasReloadPath base (Some path) = is_reload_path base path ≡ true

-- the base is an address without a query part, a page has 1 to LARGEST_PAGE (1000) triples, and a reload is asked for on
-- another path
pub record IsConfig (config : Config) : Type 0 where
  pub base : IsAddress (address_text config.base) config.base
  pub no_query : config.base.query ≡ None
  pub low : 1 ≤ config.page_size
  pub high : config.page_size ≤ LARGEST_PAGE
  pub reload : HasReloadPath config.base config.reload

-- with the path of a reload
abbrev pub with_reload : Config → List ℕ → Config
with_reload config path = record config { reload = Some path }

-- with fragments that are restricted by rows
abbrev pub reading_rows : Config → Config
reading_rows config = record config { rows = true }

-- a data set, each of whose terms keeps its rules
pub record IsValidDataSet (triples : List Triple) : Type 0 where
  pub data_set : IsDataSet triples
  pub terms : AllByRecursion IsValidTriple triples

-- such data sets, one or more; the version of each is at most HIGHEST_NUMBER, so 19 digits can name it
pub record IsHistory (history : List (List Triple)) : Type 0 where
  pub data_sets : AllByRecursion IsValidDataSet history
  pub low : 1 ≤ length history
  pub high : length history ≤ HIGHEST_NUMBER

-- this history of a server, whose last data set is served
pub record IsHistoryTo (history : List (List Triple)) (version : ℕ) (triples : List Triple) : Type 0 where
  pub count : length history ≡ version
  pub before : List (List Triple)
  pub last : history ≡ before ++ triples ∷ []

-- ---- the laws

-- each version of a history is such a data set; before the first version stands the first, and past the last nothing
abbrev pub VersionsAreValid : Type 0
VersionsAreValid = (history : List (List Triple)) (version : ℕ) → IsHistory history → IsValidDataSet (version_of history version)

-- one such data set is a history
abbrev pub OneDataSetIsHistory : Type 0
OneDataSetIsHistory = (triples : List Triple) → IsValidDataSet triples → IsHistory (triples ∷ [])

-- the last data set of a history is the one of its version
abbrev pub LastVersionIsServed : Type 0
LastVersionIsServed = (history : List (List Triple)) (version : ℕ) (triples : List Triple) → IsHistoryTo history version triples → version_of history version ≡ triples

-- one data set is a history to version 1, and with one more data set the version is one more
pub record HistoriesGrow (history : List (List Triple)) (version : ℕ) (triples next : List Triple) : Type 0 where
  pub first : IsHistoryTo (triples ∷ []) 1 triples
  pub more : IsHistoryTo history version triples → IsHistoryTo (history ++ next ∷ []) (version + 1) next

abbrev pub VersionsFollow : Type 0
VersionsFollow = (history : List (List Triple)) (version : ℕ) (triples next : List Triple) → HistoriesGrow history version triples next

-- in a longer history each version that was there is the same
abbrev pub VersionsStay : Type 0
VersionsStay = (history more : List (List Triple)) (version : ℕ) → version ≤ length history → 1 ≤ length history → version_of (history ++ more) version ≡ version_of history version
