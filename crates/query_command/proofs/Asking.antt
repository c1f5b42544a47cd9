-- The end of the command says the rest: what the file holds is answered by itself, and where nothing stands in the way it succeeds.
use Rattle.std.proofs.Common.{ℕ, ◌≡◌, ◌⊎◌, inl, inr, List, Some, Result, Ok, Err, refl, subst}
use Rattle.std.specs.List.{AllByRecursion}
use Rattle.tpf_base.specs.Addresses.{Address}
use Rattle.tpf_base.specs.Causes.{Rose}
use Rattle.tpf_base.specs.Links.{WireState}
use Rattle.tpf_base.specs.Outside.{ShelfState}
use Rattle.tpf_base.specs.Wrote.{SinkState}
use Rattle.bgp_core.specs.Queries.{QueryData, IsValidPattern}
use Rattle.group_faults.specs.declared.fault.GroupWhy.{GroupWhy}
use Rattle.tpf_client.specs.declared.options.Options.{Options}
use Rattle.tpf_client.specs.declared.options.Report.{Report}
use Rattle.tpf_client.specs.declared.fault.ClientFault.{ClientFault}
use Rattle.data_files.specs.declared.fault.QueryFileFault.{QueryFileFault}
use Rattle.data_files.specs.declared.fault.QueryFileFault.TheVariants as query_faults
use Rattle.data_files.specs.declared.query.Grammar.TheVariants as grammars
use Rattle.data_files.specs.Data.{Files}
use Rattle.data_files.specs.Queries.{HoldsQuery, HasQueryFault, reads, refused}
use Rattle.data_files.specs.Kept.{ReadsNamed}
use Rattle.data_files.specs.Causes.{QueryCause}
use Rattle.data_files.proofs.Outcomes.{one_query}
use Rattle.answer_faults.specs.declared.fault.AnswerFault.{AnswerFault}
use Rattle.answer_faults.specs.declared.fault.AnswerFault.TheVariants as faults
use Rattle.query_command.specs.Files.{FailsByFile, KeepsOutput}
use Rattle.query_command.specs.Limits.{QueriesAreAskable}
use Rattle.query_command.proofs.Reading as reading
use Rattle.query_command.specs.Servers.{AsksTogether, EndsTogether, DecidesPatterns, FitsServers, SucceedsTogether, ServersAsked}

-- ---- what the file holds

module _ (files : Files) (name : List ℕ) where
  same_query : (q r : QueryData) → HoldsQuery files name q → HoldsQuery files name r → q ≡ r
  same_query q r h k = reading.same_query q r (one_query grammars.Patterns files name (reads q) (reads r) h k)

  apart : (q : QueryData) (at : ℕ) (why : GroupWhy) → reads q ≡ refused at why → ⊥
  apart q at why e = cc

  no_fault : (q : QueryData) (at : ℕ) (why : GroupWhy) → HoldsQuery files name q → HasQueryFault grammars.Patterns files name at why → ⊥
  no_fault q at why h f = apart q at why (one_query grammars.Patterns files name (reads q) (refused at why) h f)

  same_refusal : (m n : ℕ) (v w : GroupWhy) → refused m v ≡ refused n w → query_faults.Bad m v ≡ query_faults.Bad n w
  same_refusal m n v w e = cc

  one_fault : (m n : ℕ) (v w : GroupWhy) → HasQueryFault grammars.Patterns files name m v → HasQueryFault grammars.Patterns files name n w → query_faults.Bad m v ≡ query_faults.Bad n w
  one_fault m n v w f g = same_refusal m n v w (one_query grammars.Patterns files name (refused m v) (refused n w) f g)

module _ (shelf shelf' : ShelfState) (name : List ℕ) (files : Files) (is : shelf.told ≡ Some files) (quiet : ¬ (Rose shelf.faults shelf'.faults)) where
  -- a query that is read has no fault
  read_memory : (q : QueryData) → HoldsQuery files name q → (fault : QueryFileFault) → QueryCause grammars.Patterns shelf shelf' name fault → fault ≡ query_faults.OutOfMemory
  read_memory q holds (query_faults.Bad at why) h = absurd (no_fault files name q at why holds (h files is))
  read_memory q holds query_faults.File h = absurd (quiet h)
  read_memory q holds query_faults.OutOfMemory h = refl

  -- a text has one first fault
  refused_for : (at : ℕ) (why : GroupWhy) → HasQueryFault grammars.Patterns files name at why → (fault : QueryFileFault) → QueryCause grammars.Patterns shelf shelf' name fault → (fault ≡ query_faults.Bad at why) ⊎ (fault ≡ query_faults.OutOfMemory)
  refused_for at why bad (query_faults.Bad n w) h = inl (one_fault files name n at w why (h files is) bad)
  refused_for at why bad query_faults.File h = absurd (quiet h)
  refused_for at why bad query_faults.OutOfMemory h = inr refl

module _ (shelf shelf' : ShelfState) (name : List ℕ) (allows : List ℕ → ℕ → List ℕ → List ℕ → Type 0) (starts : List Address) (options : Options) (wire wire' : WireState) (out out' : SinkState) where
  decides : (result : Result Report AnswerFault) → EndsTogether shelf shelf' name allows starts options wire wire' out out' result → DecidesPatterns shelf shelf' name result
  decides (Ok report) e = record {
    asked = λ quiet files is q holds. tt;
    refused = λ quiet files is at why bad. no_fault files name e.q at why (e.is_read.tells files is) bad;
  }
  decides (Err (faults.Data fault)) e = absurd e
  decides (Err (faults.Query fault)) e = record {
    asked = λ quiet files is q holds. read_memory shelf shelf' name files is quiet q holds fault e.0;
    refused = λ quiet files is at why bad. refused_for shelf shelf' name files is quiet at why bad fault e.0;
  }
  decides (Err (faults.Client fault)) e = record {
    asked = λ quiet files is q holds. tt;
    refused = λ quiet files is at why bad. no_fault files name e.q at why (e.is_read.tells files is) bad;
  }

  asked : (result : Result Report AnswerFault) → EndsTogether shelf shelf' name allows starts options wire wire' out out' result → SucceedsTogether shelf shelf' name allows starts options wire wire' out out' result → ReadsNamed name shelf shelf' (FailsByFile result) → KeepsOutput out out' result
      → ServersAsked shelf shelf' allows wire wire' out out' name starts options result
  asked result e complete named output = record { ends = e; exact = decides result e; complete = complete; reads = named; output = output }

  -- the query was not read
  pub none_asked : (fault : QueryFileFault) → EndsTogether shelf shelf' name allows starts options wire wire' out out' (Err (faults.Query fault)) → ReadsNamed name shelf shelf' (FailsByFile {A = Report} (Err (faults.Query fault))) → KeepsOutput out out' (Err (faults.Query fault))
      → ServersAsked shelf shelf' allows wire wire' out out' name starts options (Err (faults.Query fault))
  none_asked fault e = asked (Err (faults.Query fault)) e (λ short quiet fine files is q holds publishers versions fits. read_memory shelf shelf' name files is quiet q holds fault e.0)

  pub servers_asked : (report : Report) → AsksTogether shelf.told name allows starts options (Ok report) wire wire' out out' → ReadsNamed name shelf shelf' (FailsByFile (Ok report)) → KeepsOutput out out' (Ok report)
      → ServersAsked shelf shelf' allows wire wire' out out' name starts options (Ok report)
  servers_asked report e = asked (Ok report) e (λ short quiet fine files is q holds publishers versions fits. tt)

  -- the client gave up: its clause says that it would not have, where nothing stands in the way
  failed : QueriesAreAskable → (fault : ClientFault) → (e : AsksTogether shelf.told name allows starts options (Err fault) wire wire' out out') → AllByRecursion IsValidPattern e.q.patterns → SucceedsTogether shelf shelf' name allows starts options wire wire' out out' (Err (faults.Client fault))
  failed askable fault e valid short quiet fine = λ files is q holds publishers versions fits.
      let own : FitsServers allows e.q starts options publishers versions wire wire' = subst (λ (x : QueryData). FitsServers allows x starts options publishers versions wire wire') (same_query files name q e.q holds (e.is_read.tells files is)) fits in
      e.call.still_limits publishers versions own.honest own.answers own.lively own.rise own.rises
      (record { starts_are = short; servers = own.servers; patterns = askable files name e.q (e.is_read.tells files is) valid; small = own.small; within = own.within }) fine

  pub servers_failed : QueriesAreAskable → (fault : ClientFault) → (e : AsksTogether shelf.told name allows starts options (Err fault) wire wire' out out') → AllByRecursion IsValidPattern e.q.patterns
      → ReadsNamed name shelf shelf' (FailsByFile {A = Report} (Err (faults.Client fault))) → KeepsOutput out out' (Err (faults.Client fault))
      → ServersAsked shelf shelf' allows wire wire' out out' name starts options (Err (faults.Client fault))
  servers_failed askable fault e valid = asked (Err (faults.Client fault)) e (failed askable fault e valid)
