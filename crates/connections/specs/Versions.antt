-- Numbered versions of data.
use Rattle.std.specs.Prelude.{ℕ, ◌≡◌, List, ◌∷◌, [], ◌++◌, length, Option, Some, None}

-- what is served now, how, and the number of its version
pub record Serving (Data Settings : Type 0) : Type 0 where
  pub data_set : Data
  pub config : Settings
  pub version : ℕ

module _ {Data Settings : Type 0} where
  -- a history of data sets, of which the last is served: the v-th is version v
  pub record IsHistory (history : List Data) (server : Serving Data Settings) : Type 0 where
    pub count : length history ≡ server.version
    pub before : List Data
    pub last : history ≡ before ++ server.data_set ∷ []

-- where a reload gets its data
pub record SupplyState (Data : Type 0) : Type 0 where
  -- the data sets that are left, the next one first, where it tells them
  pub left : Option (List Data)
  -- how often it failed
  pub faults : ℕ
  -- how often the next table was asked for
  pub calls : ℕ

-- with one more at the front, where they are told
abbrev pub with_first : {Data : Type 0} → Data → Option (List Data) → Option (List Data)
with_first first None = None
with_first first (Some rest) = Some (first ∷ rest)
