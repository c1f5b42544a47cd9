-- What a query of a file over a wire came to.
use Rattle.std.specs.Prelude.{ℕ, ◌≡◌, ◌+◌, ◌≤◌, true, [], ◌∷◌, List, length, Option, Result, Ok, Err, IfOk, IfErr}
use Rattle.std.specs.List.{AllByRecursion}
use Rattle.tpf_base.specs.Addresses.{Address, address_text, authority_of}
use Rattle.tpf_base.specs.Marks.{Served}
use Rattle.tpf_base.specs.Causes.{Rose}
use Rattle.tpf_base.specs.Links.{All, WireState}
use Rattle.tpf_base.specs.Outside.{ShelfState}
use Rattle.tpf_base.specs.Wrote.{SinkState}
use Rattle.rdf_terms.specs.declared.term.Triple.{Triple}
use Rattle.template_fill.specs.declared.limits.TheConstants.{LONGEST_START}
use Rattle.template_fill.specs.Metadata.{Config}
use Rattle.template_fill.specs.Bodies.{version_of}
use Rattle.template_fill.specs.Answered.{is_answered}
use Rattle.plan_laws.specs.Fitting.{AreServable}
use Rattle.bgp_core.specs.Queries.{QueryData}
use Rattle.tpf_client.specs.declared.options.Options.{Options}
use Rattle.tpf_client.specs.declared.options.Report.{Report}
use Rattle.tpf_client.specs.declared.fault.ClientFault.{ClientFault}
use Rattle.tpf_client.specs.declared.fault.ClientFault.TheVariants as client_faults
use Rattle.tpf_client.specs.Offers.{Publisher, publisher, addresses_in_blocks, offer_in_blocks}
use Rattle.tpf_client.specs.Ends.{ends_in_blocks}
use Rattle.tpf_client.specs.Acts.{ActsOnWire}
use Rattle.tpf_client.specs.Sources.{world_sources}
use Rattle.tpf_client.specs.Calls.{AreThese, WritesResult, WritesPrefix, WritesAll, most_asked}
use Rattle.tpf_client.specs.Ended.{FailsShown}
use Rattle.tpf_client.specs.Still.{AnswersOver, SucceedsStill}
use Rattle.tpf_client.specs.Honest.{IsHonestWire, WritesSolutions, WritesSolutionsFront}
use Rattle.tpf_client.specs.Plans.{OverHonest, RisesFew, PlanFits, MayStill, answer_at}
use Rattle.data_files.specs.declared.fault.QueryFileFault.TheVariants as query_faults
use Rattle.data_files.specs.declared.fault.DataFault.TheVariants as data_faults
use Rattle.data_files.specs.Data.{Files, IfTold}
use Rattle.data_files.specs.Queries.{HoldsQuery, IsOfQueryFile, QueryOutcome, reads}
use Rattle.data_files.specs.Kept.{ReadsNamed}
use Rattle.data_files.specs.Causes.{QueryCause, QueryDecides, GivesQuery}
use Rattle.answer_faults.specs.declared.fault.AnswerFault.{AnswerFault}
use Rattle.answer_faults.specs.declared.fault.AnswerFault.TheVariants as faults
use Rattle.query_command.specs.Blocks.{grammar_of}
use Rattle.query_command.specs.Files.{FailsByFile, KeepsOutput}

-- The result of a query was written over a wire: the text of some rows; over a wire that is honest for a history, of the solutions over one version, the reported one. What the call did on the wire (`acts`), and what it wrote, are said of the same events, and all that is said of a plan is said of the reported version.
pub record WritesOver (allows : List ℕ → ℕ → List ℕ → List ℕ → Type 0) (q : QueryData) (start : Address) (options : Options) (report : Report) (old new : WireState) (taken taken' : Option (List ℕ)) : Type 0 where
  pub whole : WritesResult q report.rows taken taken'
  pub acts : ActsOnWire allows (ends_in_blocks options.block q start) options (start ∷ []) (most_asked options q) (Ok report) (λ told. told) old new
  pub writes : WritesAll (AreThese acts.happened.events acts.happened.pool) (world_sources options.block) q (start ∷ []) report taken taken'
  pub headline : (history : List (List Triple)) (config : Config) → IsHonestWire allows start history config old → WritesSolutions (offer_in_blocks options.block (publisher history config) q start) q report.version report.rows taken taken'

-- A front of such a text was written, and the call over the wire ended with this fault, with all rows that were given where neither the sink nor memory failed (`fails`). What the call did on the wire (`acts`), why it ended, and what it wrote are said of the same events; and over an honest wire of one version, that of the start page. Where the plan fits and the faults are few it is want of memory, or the data changed; and want of memory, where the data did not change in the call.
pub record FailsOver (allows : List ℕ → ℕ → List ℕ → List ℕ → Type 0) (q : QueryData) (start : Address) (options : Options) (fault : ClientFault) (old new : WireState) (out out' : ℕ) (taken taken' : Option (List ℕ)) : Type 0 where
  pub front : WritesPrefix q taken taken'
  pub acts : ActsOnWire {A = Report} allows (ends_in_blocks options.block q start) options (start ∷ []) (most_asked options q) (Err fault) (λ told. told) old new
  pub fails : FailsShown (AreThese acts.happened.events acts.happened.pool) acts.happened.pool.started allows (ends_in_blocks options.block q start) options (world_sources options.block) q (start ∷ []) fault old new out out' taken taken'
  pub headline : (history : List (List Triple)) (config : Config) → IsHonestWire allows start history config old → WritesSolutionsFront (offer_in_blocks options.block (publisher history config) q start) q taken taken'
  pub sink : fault ≡ client_faults.Sink → Rose out out'
  pub complete : OverHonest allows start old (λ history config. old.nature.lively ≡ true → (rise : ℕ) → RisesFew options rise old new → PlanFits (offer_in_blocks options.block (publisher history config) q start) options rise → (Rose out out' → ⊥) → MayStill (offer_in_blocks options.block (publisher history config) q start) fault)
  pub still : SucceedsStill {A = Report} allows options q start old new (Rose out out') (Err fault)

-- the query of the file was asked, and the text of its result written
pub record Answers (told : Option Files) (name : List ℕ) (allows : List ℕ → ℕ → List ℕ → List ℕ → Type 0) (start : Address) (options : Options) (report : Report) (old new : WireState) (taken taken' : Option (List ℕ)) : Type 0 where
  pub q : QueryData
  pub is_read : IsOfQueryFile told name q
  pub writes : WritesOver allows q start options report old new taken taken'

-- the query of the file was asked, and a front of such a text written
pub record AnswersSome (told : Option Files) (name : List ℕ) (allows : List ℕ → ℕ → List ℕ → List ℕ → Type 0) (start : Address) (options : Options) (fault : ClientFault) (old new : WireState) (out out' : ℕ) (taken taken' : Option (List ℕ)) : Type 0 where
  pub q : QueryData
  pub is_read : IsOfQueryFile told name q
  pub writes : FailsOver allows q start options fault old new out out' taken taken'

-- why there is no whole answer over a wire; where the query is refused the wire and the output are as before
abbrev pub AskCause : ShelfState → ShelfState → List ℕ → (List ℕ → ℕ → List ℕ → List ℕ → Type 0) → Address → Options → WireState → WireState → SinkState → SinkState → AnswerFault → Type 0
AskCause shelf shelf' name allows start options wire wire' out out' (faults.Data fault) = ⊥
AskCause shelf shelf' name allows start options wire wire' out out' (faults.Query fault) = QueryCause (grammar_of options) shelf shelf' name fault × (wire' ≡ wire) × (out' ≡ out)
AskCause shelf shelf' name allows start options wire wire' out out' (faults.Client fault) =
    AnswersSome shelf.told name allows start options fault wire wire' out.faults out'.faults out.taken out'.taken

-- the query is read
abbrev pub IsReading : QueryOutcome → Type 0
IsReading outcome = (q : QueryData) × (outcome ≡ reads q)

-- what the file of the query holds is answered by itself, or by want of memory
abbrev pub GivesAnswer : {X : Type 0} → QueryOutcome → Result X AnswerFault → Type 0
GivesAnswer outcome (Ok answer) = IsReading outcome
GivesAnswer outcome (Err (faults.Data fault)) = Unit {0}
GivesAnswer outcome (Err (faults.Query fault)) = GivesQuery outcome (Err fault)
GivesAnswer outcome (Err (faults.Client fault)) = IsReading outcome

-- ---- completeness

-- memory is wanting
abbrev pub IsWanting : AnswerFault → Type 0
IsWanting (faults.Data fault) = fault ≡ data_faults.OutOfMemory
IsWanting (faults.Query fault) = fault ≡ query_faults.OutOfMemory
IsWanting (faults.Client fault) = fault ≡ client_faults.OutOfMemory

-- of a call over a wire alone
abbrev pub IsClientWanting : AnswerFault → Type 0
IsClientWanting (faults.Data fault) = Unit {0}
IsClientWanting (faults.Query fault) = Unit {0}
IsClientWanting (faults.Client fault) = fault ≡ client_faults.OutOfMemory

-- Nothing stands in the way of a call over a wire that has these addresses to ask for over one version: at the start the other end answers, over this version of its data, as a server of these within the limits of the program does; the wire tells all, and fewer than MOST_IDLE (1000) waits follow one another; the server has the authority of the start, and this version answers it with the status 200; the faults rise at most as often as a request may be asked again; each body of the addresses is within the limit; and the addresses and the rise are within the budget.
pub record FitsCall (allows : List ℕ → ℕ → List ℕ → List ℕ → Type 0) (start : Address) (options : Options) (p : Publisher) (version : ℕ) (addresses : List Address) (old new : WireState) : Type 0 where
  pub answers : AnswersOver allows start p version
  pub tells : old.nature.tells ≡ All
  pub lively : old.nature.lively ≡ true
  pub servable : AreServable (version_of p.history version)
  pub authority : authority_of start ≡ authority_of p.config.base
  pub answered : is_answered p.history (Served version) p.config start ≡ true
  pub rise : ℕ
  pub rises : RisesFew options rise old new
  pub small : AllByRecursion (λ address. length (answer_at p version address).body ≤ options.max_body) addresses
  pub within : length addresses + rise ≤ options.budget

-- of a query, by its plan over the version
abbrev pub FitsOver : (List ℕ → ℕ → List ℕ → List ℕ → Type 0) → QueryData → Address → Options → Publisher → ℕ → WireState → WireState → Type 0
FitsOver allows q start options p version old new = FitsCall allows start options p version (addresses_in_blocks options.block p q start version) old new

-- of the query of a file, where the shelf tells it
abbrev pub OfQuery : Option Files → List ℕ → (QueryData → Type 0) → Type 0
OfQuery told name holds = IfTold told (λ files. (q : QueryData) → HoldsQuery files name q → holds q)

-- where the text of the start has at most LONGEST_START bytes, nothing stands in the way, and shelf and output did not fail, memory is wanting or the call succeeded
abbrev pub SucceedsOver : ShelfState → ShelfState → List ℕ → (List ℕ → ℕ → List ℕ → List ℕ → Type 0) → Address → Options → WireState → WireState → SinkState → SinkState → Result Report AnswerFault → Type 0
SucceedsOver shelf shelf' name allows start options wire wire' out out' result =
    length (address_text start) ≤ LONGEST_START → ¬ (Rose shelf.faults shelf'.faults) → ¬ (Rose out.faults out'.faults)
    → OfQuery shelf.told name (λ q. (p : Publisher) (version : ℕ) → FitsOver allows q start options p version wire wire' → IfErr result IsWanting)

-- ---- the command

-- What a query of a file over a wire came to, and what it left of shelf, wire and output.
pub record AsksServer (shelf shelf' : ShelfState) (allows : List ℕ → ℕ → List ℕ → List ℕ → Type 0) (wire wire' : WireState) (out out' : SinkState) (name : List ℕ) (start : Address) (options : Options) (result : Result Report AnswerFault) : Type 0 where
  pub answers : IfOk result (λ report. Answers shelf.told name allows start options report wire wire' out.taken out'.taken)
  pub cause : IfErr result (AskCause shelf shelf' name allows start options wire wire' out out')
  pub exact : QueryDecides (grammar_of options) shelf shelf' name (λ outcome. GivesAnswer outcome result)
  pub complete : SucceedsOver shelf shelf' name allows start options wire wire' out out' result
  pub reads : ReadsNamed name shelf shelf' (FailsByFile result)
  pub output : KeepsOutput out out' result
