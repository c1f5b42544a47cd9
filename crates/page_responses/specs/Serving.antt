-- What a server serves.
use Rattle.std.specs.Prelude.{ℕ, List}
use Rattle.rdf_terms.specs.declared.term.Triple.{Triple}
use Rattle.triple_table.specs.Stored.{Stored, triples_in}
use Rattle.template_fill.specs.Metadata.{Config}
use Rattle.template_fill.specs.Configurations.{IsHistoryTo}

-- a version of the data: its table, and its number
pub record Version : Type 0 where
  pub table : Stored
  pub number : ℕ

-- a table, where its fragments stand, and the number of its version
pub record Serving : Type 0 where
  pub table : Stored
  pub config : Config
  pub version : ℕ

-- a version under a configuration
abbrev pub served : Version → Config → Serving
served version config = record { table = version.table; config = config; version = version.number }

-- the version that is served
abbrev pub current : Serving → Version
current server = record { table = server.table; number = server.version }

-- the data set that is served
abbrev pub data_of : Serving → List Triple
data_of server = triples_in server.table

-- a history whose last version is the one that is served
abbrev pub IsHistoryOf : List (List Triple) → Serving → Type 0
IsHistoryOf history server = IsHistoryTo history server.version (data_of server)
