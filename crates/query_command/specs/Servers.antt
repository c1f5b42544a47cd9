-- What a query of a file over a wire to several servers came to.
use Rattle.std.specs.Prelude.{ℕ, ◌≡◌, ◌⊎◌, ◌+◌, ◌≤◌, true, List, length, None, Option, Result, Ok, Err, IfOk, IfErr, OnErr}
use Rattle.std.specs.List.{AllByRecursion}
use Rattle.tpf_base.specs.Addresses.{Address}
use Rattle.tpf_base.specs.Causes.{Rose}
use Rattle.tpf_base.specs.Links.{WireState}
use Rattle.tpf_base.specs.Outside.{ShelfState}
use Rattle.tpf_base.specs.Wrote.{SinkState}
use Rattle.bgp_core.specs.Queries.{QueryData}
use Rattle.tpf_client.specs.declared.options.Options.{Options}
use Rattle.tpf_client.specs.declared.options.Report.{Report}
use Rattle.tpf_client.specs.declared.fault.ClientFault.{ClientFault}
use Rattle.tpf_client.specs.Calls.{WritesResult, WritesPrefix, most_over}
use Rattle.tpf_client.specs.Ended.{WritesOverEnds}
use Rattle.tpf_client.specs.Still.{AnswerStill, SucceedsStillOver}
use Rattle.tpf_client.specs.Ends.{AreHonestServers, servers_ends}
use Rattle.tpf_client.specs.Honest.{WritesSolutions, WritesSolutionsFront}
use Rattle.tpf_client.specs.Offers.{Publisher, servers_offer, joint_addresses}
use Rattle.tpf_client.specs.Plans.{AtChosen, RisesFew, PlanFits, MayStill}
use Rattle.tpf_client.specs.Sinks.{LeavesSink}
use Rattle.group_faults.specs.declared.fault.GroupWhy.{GroupWhy}
use Rattle.data_files.specs.declared.fault.QueryFileFault.TheVariants as query_faults
use Rattle.data_files.specs.declared.query.Grammar.TheVariants as grammars
use Rattle.data_files.specs.Data.{Files, IfTold}
use Rattle.data_files.specs.Queries.{IsOfQueryFile, HasQueryFault}
use Rattle.data_files.specs.Kept.{ReadsNamed}
use Rattle.data_files.specs.Causes.{QueryCause}
use Rattle.answer_faults.specs.declared.fault.AnswerFault.{AnswerFault}
use Rattle.answer_faults.specs.declared.fault.AnswerFault.TheVariants as faults
use Rattle.query_command.specs.Answers.{IsWanting, OfQuery}
use Rattle.query_command.specs.Files.{FailsByFile, KeepsOutput}
use Rattle.federated_query.specs.Limits.{IsShortStart, ServersFit, ServeOver, IsSmallAt, SucceedsWithin}
use Rattle.federated_query.specs.Servers.{joint_sources, OverServers}

-- What a query over several servers promised of its wire and its output: the text of some rows was written, or a front of one; over a wire that is honest for several servers, of the solutions over the union of what they hold; what was done on the wire and why, by their plan, and what was written, of one list of events (`ended`); all that is said of a call that failed is said of one version of each server, those of the start pages where they were read; where the plan fits and the faults are few a fault is want of memory, or the data of a server changed, and it fits where the servers are within the limits; it is want of memory where each server answers over one version, whose plan fits, or which is within the limits; no version is told; and the output did not fail unless that is the fault.
pub record Federates (allows : List ℕ → ℕ → List ℕ → List ℕ → Type 0) (q : QueryData) (starts : List Address) (options : Options) (result : Result Report ClientFault) (old new : WireState) (out out' : SinkState) : Type 0 where
  pub whole : IfOk result (λ report. WritesResult q report.rows out.taken out'.taken)
  pub front : OnErr result (WritesPrefix q out.taken out'.taken)
  pub headline : OverServers allows starts old (λ publishers. IfOk result (λ report. WritesSolutions (servers_offer publishers q starts) q report.version report.rows out.taken out'.taken))
  pub prefix : OverServers allows starts old (λ publishers. OnErr result (WritesSolutionsFront (servers_offer publishers q starts) q out.taken out'.taken))
  pub ended : WritesOverEnds allows (servers_ends q starts) joint_sources q starts options (most_over options q (length starts)) result old new out out'
  pub complete : OverServers allows starts old (λ publishers. old.nature.lively ≡ true → (rise : ℕ) → RisesFew options rise old new → PlanFits (servers_offer publishers q starts) options rise → (Rose out.faults out'.faults → ⊥) → IfErr result (MayStill (servers_offer publishers q starts)))
  pub limits : OverServers allows starts old (λ publishers. old.nature.lively ≡ true → (rise : ℕ) → RisesFew options rise old new → ServersFit publishers q starts options rise → (Rose out.faults out'.faults → ⊥) → IfErr result (MayStill (servers_offer publishers q starts)))
  pub still : SucceedsStillOver allows options q starts old new (Rose out.faults out'.faults) result
  pub still_limits : SucceedsWithin allows options q starts old new (Rose out.faults out'.faults) result
  pub version : IfOk result (λ report. report.version ≡ None)
  pub sink : LeavesSink out out' result

-- The query of the file was read and asked of the servers, and the call ended so.
pub record AsksTogether (told : Option Files) (name : List ℕ) (allows : List ℕ → ℕ → List ℕ → List ℕ → Type 0) (starts : List Address) (options : Options) (result : Result Report ClientFault) (old new : WireState) (out out' : SinkState) : Type 0 where
  pub q : QueryData
  pub is_read : IsOfQueryFile told name q
  pub call : Federates allows q starts options result old new out out'

-- how the command ended; where the query is refused the wire and the output are as before
abbrev pub EndsTogether : ShelfState → ShelfState → List ℕ → (List ℕ → ℕ → List ℕ → List ℕ → Type 0) → List Address → Options → WireState → WireState → SinkState → SinkState → Result Report AnswerFault → Type 0
EndsTogether shelf shelf' name allows starts options wire wire' out out' (Ok report) = AsksTogether shelf.told name allows starts options (Ok report) wire wire' out out'
EndsTogether shelf shelf' name allows starts options wire wire' out out' (Err (faults.Data fault)) = ⊥
EndsTogether shelf shelf' name allows starts options wire wire' out out' (Err (faults.Query fault)) = QueryCause grammars.Patterns shelf shelf' name fault × (wire' ≡ wire) × (out' ≡ out)
EndsTogether shelf shelf' name allows starts options wire wire' out out' (Err (faults.Client fault)) = AsksTogether shelf.told name allows starts options (Err fault) wire wire' out out'

-- ---- what the file holds is answered by itself

-- the query was read, or memory is wanting
abbrev pub IsNoRefusal : AnswerFault → Type 0
IsNoRefusal (faults.Data fault) = ⊥
IsNoRefusal (faults.Query fault) = fault ≡ query_faults.OutOfMemory
IsNoRefusal (faults.Client fault) = Unit {0}

-- it was refused for this fault, or memory is wanting
abbrev pub IsRefusedFor : ℕ → GroupWhy → Result Report AnswerFault → Type 0
IsRefusedFor at why (Ok report) = ⊥
IsRefusedFor at why (Err (faults.Data fault)) = ⊥
IsRefusedFor at why (Err (faults.Query fault)) = (fault ≡ query_faults.Bad at why) ⊎ (fault ≡ query_faults.OutOfMemory)
IsRefusedFor at why (Err (faults.Client fault)) = ⊥

-- Where the shelf did not fail, a query without groups is not refused, and a text that is none is refused for its first fault.
pub record DecidesPatterns (shelf shelf' : ShelfState) (name : List ℕ) (result : Result Report AnswerFault) : Type 0 where
  pub asked : ¬ (Rose shelf.faults shelf'.faults) → OfQuery shelf.told name (λ q. IfErr result IsNoRefusal)
  pub refused : ¬ (Rose shelf.faults shelf'.faults) → IfTold shelf.told (λ files. (at : ℕ) (why : GroupWhy) → HasQueryFault grammars.Patterns files name at why → IsRefusedFor at why result)

-- ---- completeness

-- Nothing stands in the way of a query over several servers: the other ends answer, at each start, as a server of these data does, over one version of its own, which is within the limits of what is served and serves its start; fewer than MOST_IDLE (1000) waits follow one another; the faults rise at most as often as a request may be asked again; each body of the plan over these versions is within the limit; and the addresses and the rise are within the budget.
pub record FitsServers (allows : List ℕ → ℕ → List ℕ → List ℕ → Type 0) (q : QueryData) (starts : List Address) (options : Options) (publishers : List Publisher) (versions : List ℕ) (old new : WireState) : Type 0 where
  pub honest : AreHonestServers allows starts publishers old
  pub answers : AnswerStill allows starts publishers versions
  pub servers : ServeOver starts publishers versions
  pub lively : old.nature.lively ≡ true
  pub rise : ℕ
  pub rises : RisesFew options rise old new
  pub small : AllByRecursion (AtChosen (servers_offer publishers q starts) versions (IsSmallAt options.max_body)) (joint_addresses publishers q starts versions)
  pub within : length (joint_addresses publishers q starts versions) + rise ≤ options.budget

-- where the texts of the starts are short, nothing stands in the way, and shelf and output did not fail, memory is wanting or the call succeeded
abbrev pub SucceedsTogether : ShelfState → ShelfState → List ℕ → (List ℕ → ℕ → List ℕ → List ℕ → Type 0) → List Address → Options → WireState → WireState → SinkState → SinkState → Result Report AnswerFault → Type 0
SucceedsTogether shelf shelf' name allows starts options wire wire' out out' result =
    AllByRecursion IsShortStart starts → ¬ (Rose shelf.faults shelf'.faults) → ¬ (Rose out.faults out'.faults)
    → OfQuery shelf.told name (λ q. (publishers : List Publisher) (versions : List ℕ) → FitsServers allows q starts options publishers versions wire wire' → IfErr result IsWanting)

-- ---- the command

-- What a query of a file over a wire to several servers came to, and what it left of shelf, wire and output.
pub record ServersAsked (shelf shelf' : ShelfState) (allows : List ℕ → ℕ → List ℕ → List ℕ → Type 0) (wire wire' : WireState) (out out' : SinkState) (name : List ℕ) (starts : List Address) (options : Options) (result : Result Report AnswerFault) : Type 0 where
  pub ends : EndsTogether shelf shelf' name allows starts options wire wire' out out' result
  pub exact : DecidesPatterns shelf shelf' name result
  pub complete : SucceedsTogether shelf shelf' name allows starts options wire wire' out out' result
  pub reads : ReadsNamed name shelf shelf' (FailsByFile result)
  pub output : KeepsOutput out out' result
