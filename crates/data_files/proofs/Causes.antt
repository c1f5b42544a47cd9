-- What quads that were read rest on, and what answers the one outcome.
use Rattle.std.proofs.Common.{ℕ, ◌≡◌, ◌≢◌, ◌<◌, ◌^◌, true, List, Some, Result, Ok, Err, IfErr, IfOk, refl}
use Rattle.tpf_base.specs.Causes.{Rose}
use Rattle.tpf_base.specs.FileFaults.{HasFileCause}
use Rattle.tpf_base.specs.Outside.{ShelfState, HoldsName, AsksOnce}
use Rattle.tpf_base.specs.declared.shelf.FileFault.{FileFault}
use Rattle.tpf_base.specs.declared.shelf.FileFault.TheVariants as unreadable
use Rattle.triple_table.specs.declared.choice.Choice.{Choice}
use Rattle.triple_table.specs.Stored.{Stored, triples_in}
use Rattle.group_parser.specs.declared.reading.Asked.{Asked}
use Rattle.group_parser.specs.declared.reading.Asked.TheVariants.{Plain, Groups}
use Rattle.data_files.specs.declared.fault.DataFault.{DataFault}
use Rattle.data_files.specs.declared.fault.DataFault.TheVariants as faults
use Rattle.data_files.specs.declared.fault.QueryFileFault.{QueryFileFault}
use Rattle.data_files.specs.declared.fault.QueryFileFault.TheVariants as query_faults
use Rattle.data_files.specs.declared.query.Grammar.{Grammar}
use Rattle.data_files.specs.Data.{Files, IsOfFile, Outcome, served, too_long, bad, clash, too_many, IsOutcome}
use Rattle.data_files.specs.Queries.{IsOfAskedFile, QueryOutcome, reads, reads_groups, refused, IsQueryOutcome}
use Rattle.data_files.specs.Kept.{ReadsNamed}
use Rattle.data_files.specs.Causes.{DataCause, QueryCause, DataDecides, QueryDecides, Gives, GivesQuery, unread, unread_query}
use Rattle.data_files.proofs.Outcomes.{one_outcome, one_query}

module _ (old new : ShelfState) (name : List ℕ) where
  fault_gives : (choice : Choice) (authority : List ℕ) (files : Files) (fault : DataFault) → old.told ≡ Some files → ¬ (Rose old.faults new.faults)
      → DataCause old new name choice authority fault → (outcome : Outcome) → IsOutcome files name choice authority outcome → Gives outcome (Err fault)
  fault_gives choice authority files faults.TooLong is quiet c outcome o = one_outcome files name choice authority outcome too_long o (c files is)
  fault_gives choice authority files (faults.Bad line why) is quiet c outcome o = one_outcome files name choice authority outcome (bad line why) o (c files is)
  fault_gives choice authority files (faults.GenidClash label) is quiet c outcome o = one_outcome files name choice authority outcome (clash label) o (c files is)
  fault_gives choice authority files faults.TooMany is quiet c outcome o = one_outcome files name choice authority outcome too_many o (c files is)
  fault_gives choice authority files faults.File is quiet c outcome o = absurd (quiet c)
  fault_gives choice authority files faults.OutOfMemory is quiet c outcome o = tt

  pub gives : (choice : Choice) (authority : List ℕ) (result : Result Stored DataFault)
      → IfOk result (λ table. IsOfFile old.told name choice authority (triples_in table)) → IfErr result (DataCause old new name choice authority)
      → DataDecides old new name choice authority (λ outcome. Gives outcome result)
  gives choice authority (Ok table) ok err quiet = λ files is outcome o. one_outcome files name choice authority outcome (served (triples_in table)) o (ok.tells files is)
  gives choice authority (Err fault) ok err quiet = λ files is outcome o. fault_gives choice authority files fault is quiet err outcome o

  query_fault_gives : (grammar : Grammar) (files : Files) (fault : QueryFileFault) → old.told ≡ Some files → ¬ (Rose old.faults new.faults) → QueryCause grammar old new name fault
      → (outcome : QueryOutcome) → IsQueryOutcome grammar files name outcome → GivesQuery outcome (Err fault)
  query_fault_gives grammar files (query_faults.Bad at why) is quiet c outcome o = one_query grammar files name outcome (refused at why) o (c files is)
  query_fault_gives grammar files query_faults.File is quiet c outcome o = absurd (quiet c)
  query_fault_gives grammar files query_faults.OutOfMemory is quiet c outcome o = tt

  pub gives_query : (grammar : Grammar) (result : Result Asked QueryFileFault) → IfOk result (IsOfAskedFile grammar old.told name) → IfErr result (QueryCause grammar old new name)
      → QueryDecides grammar old new name (λ outcome. GivesQuery outcome result)
  gives_query grammar (Ok (Plain q)) ok err quiet = λ files is outcome o. one_query grammar files name outcome (reads q) o (ok.tells files is)
  gives_query grammar (Ok (Groups g)) ok err quiet = λ files is outcome o. one_query grammar files name outcome (reads_groups g) o (ok.tells files is)
  gives_query grammar (Err fault) ok err quiet = λ files is outcome o. query_fault_gives grammar files fault is quiet err outcome o

-- ---- a shelf that did not fail

module _ {S T : Type 0} where
  -- a read with another fault than `Failed` is not answered by `File`
  pub no_file : (fault : FileFault) (is : DataFault) → is ≡ unread fault → (◌≡◌ {A = Result S FileFault} (Err fault) (Err unreadable.Failed) → ⊥) → ◌≡◌ {A = Result T DataFault} (Err is) (Err faults.File) → ⊥
  no_file unreadable.Failed is same h = λ e. h refl
  no_file unreadable.TooLong is same h = λ e. cc
  no_file unreadable.OutOfMemory is same h = λ e. cc

  pub no_query_file : (fault : FileFault) (is : QueryFileFault) → is ≡ unread_query fault → (◌≡◌ {A = Result S FileFault} (Err fault) (Err unreadable.Failed) → ⊥) → ◌≡◌ {A = Result T QueryFileFault} (Err is) (Err query_faults.File) → ⊥
  no_query_file unreadable.Failed is same h = λ e. h refl
  no_query_file unreadable.TooLong is same h = λ e. cc
  no_query_file unreadable.OutOfMemory is same h = λ e. cc

  -- a read that is answered by another fault than `File` did not fail
  pub file_failed : (fault : FileFault) (is : DataFault) → is ≡ unread fault → (◌≡◌ {A = Result T DataFault} (Err is) (Err faults.File) → ⊥) → ◌≡◌ {A = Result S FileFault} (Err fault) (Err unreadable.Failed) → ⊥
  file_failed unreadable.Failed is same h = λ e. h (cc)
  file_failed unreadable.TooLong is same h = λ e. cc
  file_failed unreadable.OutOfMemory is same h = λ e. cc

  pub query_file_failed : (fault : FileFault) (is : QueryFileFault) → is ≡ unread_query fault → (◌≡◌ {A = Result T QueryFileFault} (Err is) (Err query_faults.File) → ⊥) → ◌≡◌ {A = Result S FileFault} (Err fault) (Err unreadable.Failed) → ⊥
  query_file_failed unreadable.Failed is same h = λ e. h (cc)
  query_file_failed unreadable.TooLong is same h = λ e. cc
  query_file_failed unreadable.OutOfMemory is same h = λ e. cc

-- a file that was not read was asked for once, and its read failed exactly where the answer fails
pub not_read : {S : Type 0} (name : List ℕ) (old new : ShelfState) (read : Result S FileFault) (Fails : Type 0) → (¬ Fails → read ≢ Err unreadable.Failed) → (read ≢ Err unreadable.Failed → ¬ Fails)
    → AsksOnce name old new → HasFileCause old.faults new.faults read → (old.faultless ≡ true → HoldsName old.told name → old.given < 2 ^ 32 → read ≢ Err unreadable.Failed) → ReadsNamed name old new Fails
not_read name old new read Fails fine failed asks cause holds = record {
  asks = asks;
  later = cause.later;
  calm = λ calm. cause.unfailed (fine calm);
  spared = λ faultless there room. failed (holds faultless there room);
}
