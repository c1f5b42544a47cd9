-- Which files a command asks for, and that faultless ones do not fail.
use Rattle.std.specs.Prelude.{ℕ, ◌≡◌, ◌≢◌, ◌⊎◌, ◌+◌, ◌^◌, ◌<◌, ◌≤◌, ◌++◌, true, List, [], ◌∷◌, Result, Ok, Err, IfErr}
use Rattle.tpf_base.specs.Outside.{ShelfState, HoldsName, LeavesOpened}
use Rattle.tpf_base.specs.Wrote.{SinkState}
use Rattle.tpf_client.specs.declared.options.Report.{Report}
use Rattle.data_files.specs.declared.fault.DataFault.TheVariants as data_faults
use Rattle.data_files.specs.declared.fault.QueryFileFault.TheVariants as query_faults
use Rattle.tpf_client.specs.declared.fault.ClientFault.TheVariants as client_faults
use Rattle.data_files.specs.Kept.{KeepsShelf, KeepsSink}
use Rattle.answer_faults.specs.declared.fault.AnswerFault.{AnswerFault}
use Rattle.answer_faults.specs.declared.fault.AnswerFault.TheVariants as faults

-- At most so many more files were found, and what is left of those found before is as it was.
pub record OpensAtMost (n : ℕ) (old new : ShelfState) : Type 0 where
  pub later : old.given ≤ new.given
  pub few : new.given ≤ old.given + n
  pub rest : (k : ℕ) → k < old.given → new.rest k ≡ old.rest k

-- the query of a file: one file where the data are refused, else that of the data and that of the query
abbrev pub OpensLocally : ShelfState → ShelfState → Result Report AnswerFault → Type 0
OpensLocally old new (Ok report) = OpensAtMost 2 old new
OpensLocally old new (Err (faults.Data fault)) = LeavesOpened old new
OpensLocally old new (Err (faults.Query fault)) = OpensAtMost 2 old new
OpensLocally old new (Err (faults.Client fault)) = OpensAtMost 2 old new

-- which files were asked for: none or that of the data where these are refused, else that of the data and that of the query
abbrev pub AsksLocally : List ℕ → List ℕ → ShelfState → ShelfState → Result Report AnswerFault → Type 0
AsksLocally name query_name old new (Ok report) = new.found ≡ old.found ++ name ∷ query_name ∷ []
AsksLocally name query_name old new (Err (faults.Data fault)) = (new.found ≡ old.found) ⊎ (new.found ≡ old.found ++ name ∷ [])
AsksLocally name query_name old new (Err (faults.Query fault)) = new.found ≡ old.found ++ name ∷ query_name ∷ []
AsksLocally name query_name old new (Err (faults.Client fault)) = new.found ≡ old.found ++ name ∷ query_name ∷ []

-- a file could not be read
abbrev pub IsFileFault : AnswerFault → Type 0
IsFileFault (faults.Data fault) = fault ≡ data_faults.File
IsFileFault (faults.Query fault) = fault ≡ query_faults.File
IsFileFault (faults.Client fault) = ⊥

-- that is the answer
abbrev pub FailsByFile : {A : Type 0} → Result A AnswerFault → Type 0
FailsByFile (Ok answer) = ⊥
FailsByFile (Err fault) = IsFileFault fault

-- it is not that the output failed
abbrev pub IsNoSinkFault : AnswerFault → Type 0
IsNoSinkFault (faults.Data fault) = Unit {0}
IsNoSinkFault (faults.Query fault) = Unit {0}
IsNoSinkFault (faults.Client fault) = fault ≢ client_faults.Sink

-- What the query of a file leaves of the shelf. Its count of faults stands unless a file could not be read, which never comes over a faultless shelf that holds both names and has two numbers left.
pub record ReadsLocally (name query_name : List ℕ) (old new : ShelfState) (result : Result Report AnswerFault) : Type 0 where
  pub keeps : KeepsShelf old new
  pub asks : AsksLocally name query_name old new result
  pub opened : OpensLocally old new result
  pub calm : ¬ (FailsByFile result) → new.faults ≡ old.faults
  pub spared : old.faultless ≡ true → HoldsName old.told name → HoldsName old.told query_name → old.given + 1 < 2 ^ 32 → ¬ (FailsByFile result)

-- What a query leaves of the output, which does not fail if it is faultless.
pub record KeepsOutput (old new : SinkState) (result : Result Report AnswerFault) : Type 0 where
  pub keeps : KeepsSink old new
  pub spared : old.faultless ≡ true → IfErr result IsNoSinkFault
