-- Why a file is not read or not served, and what answers an outcome.
use Rattle.std.specs.Prelude.{ℕ, ◌≡◌, List, Result, Ok, Err}
use Rattle.tpf_base.specs.Causes.{Rose}
use Rattle.tpf_base.specs.Outside.{ShelfState}
use Rattle.tpf_base.specs.declared.shelf.FileFault.{FileFault}
use Rattle.tpf_base.specs.declared.shelf.FileFault.TheVariants as unreadable
use Rattle.rdf_terms.specs.declared.limits.TheConstants.{MOST_TRIPLES}
use Rattle.rdf_terms.specs.declared.term.Quad.{Quad}
use Rattle.triple_table.specs.declared.choice.Choice.{Choice}
use Rattle.triple_table.specs.Chosen.{chosen}
use Rattle.triple_table.specs.Stored.{Stored, PassesMost, triples_in}
use Rattle.triple_table.specs.Served.{IsLeastClash}
use Rattle.query_tokens.specs.declared.piece.TheConstants.{LONGEST_QUERY}
use Rattle.pattern_parser.specs.declared.fault.QueryWhy.TheVariants as queries
use Rattle.group_faults.specs.declared.fault.GroupWhy.TheVariants.{Basic}
use Rattle.group_parser.specs.declared.reading.Asked.{Asked}
use Rattle.data_files.specs.declared.data.TheConstants.{MOST_BYTES}
use Rattle.data_files.specs.declared.fault.DataFault.{DataFault}
use Rattle.data_files.specs.declared.fault.DataFault.TheVariants as faults
use Rattle.data_files.specs.declared.fault.QueryFileFault.{QueryFileFault}
use Rattle.data_files.specs.declared.fault.QueryFileFault.TheVariants as query_faults
use Rattle.data_files.specs.declared.query.Grammar.{Grammar}
use Rattle.data_files.specs.Data.{IfTold, IsTooLong, HasDataFault, HasClash, HasTooMany, Outcome, IsOutcome, served, too_long, bad, clash, too_many}
use Rattle.data_files.specs.Queries.{HasQueryFault, QueryOutcome, IsQueryOutcome, outcome_of, refused}

-- a file that was not read
abbrev pub unread : FileFault → DataFault
unread unreadable.Failed = faults.File
unread unreadable.TooLong = faults.TooLong
unread unreadable.OutOfMemory = faults.OutOfMemory

abbrev pub unread_query : FileFault → QueryFileFault
unread_query unreadable.Failed = query_faults.File
unread_query unreadable.TooLong = query_faults.Bad LONGEST_QUERY (Basic queries.TooLong)
unread_query unreadable.OutOfMemory = query_faults.OutOfMemory

-- what a fault of the data of a file rests on, by the shelf before and after it was read
abbrev pub DataCause : ShelfState → ShelfState → List ℕ → Choice → List ℕ → DataFault → Type 0
DataCause old new name choice authority faults.TooLong = IfTold old.told (λ files. IsTooLong files name MOST_BYTES)
DataCause old new name choice authority (faults.Bad line why) = IfTold old.told (λ files. HasDataFault files name line why)
DataCause old new name choice authority (faults.GenidClash label) =
    IfTold old.told (λ files. HasClash files name choice authority label)
DataCause old new name choice authority faults.TooMany = IfTold old.told (λ files. HasTooMany files name choice authority)
DataCause old new name choice authority faults.File = Rose old.faults new.faults
DataCause old new name choice authority faults.OutOfMemory = Unit {0}

-- the same of quads that were read
abbrev pub ServeCause : List Quad → Choice → List ℕ → DataFault → Type 0
ServeCause quads choice authority faults.TooLong = ⊥
ServeCause quads choice authority (faults.Bad line why) = ⊥
ServeCause quads choice authority (faults.GenidClash label) = IsLeastClash authority (chosen choice quads) label
ServeCause quads choice authority faults.TooMany = PassesMost MOST_TRIPLES authority (chosen choice quads)
ServeCause quads choice authority faults.File = ⊥
ServeCause quads choice authority faults.OutOfMemory = Unit {0}

-- what a fault of the query of a file rests on
abbrev pub QueryCause : Grammar → ShelfState → ShelfState → List ℕ → QueryFileFault → Type 0
QueryCause grammar old new name (query_faults.Bad at why) = IfTold old.told (λ files. HasQueryFault grammar files name at why)
QueryCause grammar old new name query_faults.File = Rose old.faults new.faults
QueryCause grammar old new name query_faults.OutOfMemory = Unit {0}

-- an outcome is answered by itself, or by want of memory
abbrev pub Gives : Outcome → Result Stored DataFault → Type 0
Gives outcome (Ok table) = outcome ≡ served (triples_in table)
Gives outcome (Err faults.TooLong) = outcome ≡ too_long
Gives outcome (Err (faults.Bad line why)) = outcome ≡ bad line why
Gives outcome (Err (faults.GenidClash label)) = outcome ≡ clash label
Gives outcome (Err faults.TooMany) = outcome ≡ too_many
Gives outcome (Err faults.File) = ⊥
Gives outcome (Err faults.OutOfMemory) = Unit {0}

abbrev pub GivesQuery : QueryOutcome → Result Asked QueryFileFault → Type 0
GivesQuery outcome (Ok asked) = outcome ≡ outcome_of asked
GivesQuery outcome (Err (query_faults.Bad at why)) = outcome ≡ refused at why
GivesQuery outcome (Err query_faults.File) = ⊥
GivesQuery outcome (Err query_faults.OutOfMemory) = Unit {0}

-- where the shelf did not fail, each outcome of the file of data is answered so
abbrev pub DataDecides : ShelfState → ShelfState → List ℕ → Choice → List ℕ → (Outcome → Type 0) → Type 0
DataDecides old new name choice authority Answered = ¬ (Rose old.faults new.faults)
    → IfTold old.told (λ files. (outcome : Outcome) → IsOutcome files name choice authority outcome → Answered outcome)

-- the same of the file of a query
abbrev pub QueryDecides : Grammar → ShelfState → ShelfState → List ℕ → (QueryOutcome → Type 0) → Type 0
QueryDecides grammar old new name Answered = ¬ (Rose old.faults new.faults)
    → IfTold old.told (λ files. (outcome : QueryOutcome) → IsQueryOutcome grammar files name outcome → Answered outcome)
