-- What becomes of a query with groups of a file: over a wire that is handed in, and over one that is made in the process.
use Rattle.std.specs.Prelude.{ℕ, ◌≡◌, ◌≢◌, ◌<◌, ◌≤◌, ◌^◌, true, List, [], ◌∷◌, length, codes, Option, None, Result, Ok, Err, IfOk, IfErr}
use Rattle.std.specs.Io.KnownBytes.{Appends}
use Rattle.std.specs.List.Sorted.{IsPermutation}
use Rattle.rdf_terms.specs.declared.term.Triple.{Triple}
use Rattle.tpf_base.specs.Addresses.{Address, address_text}
use Rattle.tpf_base.specs.Causes.{Rose, counted_by}
use Rattle.tpf_base.specs.Links.{WireState}
use Rattle.tpf_base.specs.Outside.{ShelfState}
use Rattle.tpf_base.specs.Wrote.{SinkState, AppendsPrefix}
use Rattle.template_fill.specs.declared.limits.TheConstants.{LONGEST_START}
use Rattle.template_fill.specs.Metadata.{Config}
use Rattle.triple_table.specs.declared.choice.Choice.{Choice}
use Rattle.triple_table.specs.declared.choice.Choice.TheVariants.{DefaultGraph}
use Rattle.triple_table.specs.Chosen.{chosen}
use Rattle.triple_table.specs.Served.{IsServed}
use Rattle.bgp_core.specs.Solutions.{Places}
use Rattle.result_json.specs.Results.{result_text}
use Rattle.group_query.specs.Trees.{GroupData, shown_query}
use Rattle.group_rows.specs.Evaluation.{answers}
use Rattle.group_patterns.specs.Texts.{WritesGroup, WritesGroupPrefix, WritesGathered, WritesGatheredFront, WritesGroupAnswers, WritesGroupAnswersFront}
use Rattle.group_patterns.specs.Plans.{group_plan, group_offer}
use Rattle.group_patterns.specs.Acts.{ActsOnGroups}
use Rattle.group_patterns.specs.Still.{GroupSucceedsStill}
use Rattle.loop_wire.specs.Looped.{Looped}
use Rattle.fragment_server.specs.declared.server.FragmentServer.{FragmentServer}
use Rattle.generated_data.specs.Generated.{generated}
use Rattle.tpf_client.specs.declared.options.Options.{Options}
use Rattle.tpf_client.specs.declared.options.Report.{Report}
use Rattle.tpf_client.specs.declared.fault.ClientFault.{ClientFault}
use Rattle.tpf_client.specs.declared.fault.ClientFault.TheVariants as client_faults
use Rattle.tpf_client.specs.Offers.{Offer, Publisher, publisher}
use Rattle.tpf_client.specs.Plans.{OverHonest, AsksPlan, RisesFew, PlanFits, MayStill}
use Rattle.tpf_client.specs.Requested.{RequestsPlan, AnswersPlan}
use Rattle.data_files.specs.declared.query.Grammar.TheVariants as grammars
use Rattle.data_files.specs.Data.{Files, IsOfFile}
use Rattle.data_files.specs.Queries.{IsOfGroupFile, reads_groups}
use Rattle.data_files.specs.Kept.{ReadsNamed}
use Rattle.data_files.specs.Causes.{DataDecides, QueryDecides}
use Rattle.data_servers.specs.Servers.{serving}
use Rattle.answer_faults.specs.declared.fault.AnswerFault.{AnswerFault}
use Rattle.answer_faults.specs.declared.fault.AnswerFault.TheVariants as faults
use Rattle.answer_faults.specs.declared.fault.Counts.{Counts}
use Rattle.query_command.specs.Files.{FailsByFile, ReadsLocally, KeepsOutput}
use Rattle.query_command.specs.Blocks.{grammar_of}
use Rattle.query_command.specs.Answers.{IsWanting, FitsCall, AsksServer}
use Rattle.query_command.specs.Loops.{LocalView, LoopsFile, IsServing, allows_of, wire_of, local_base}
use Rattle.query_command.specs.Generated.{LoopsGenerated, usual_options}
use Rattle.query_command.specs.Plans.{CountsRequests, MayEndBy, IsWithin, HonestFile, HonestGenerated}
use Rattle.query_command.specs.Commands.{AsksFile, AsksGenerated}

-- ---- over any wire

-- The result of a query with groups was written over a wire: the text of some rows; over a wire that is honest at the start for a history, of the answers over one version, the one that is reported, or any where the query has no block. What was done on the wire, block after block (`acts`), and what was written, the rows that are gathered from those of these blocks (`gathered`), are said of the same calls.
pub record WritesGroupOver (allows : List ℕ → ℕ → List ℕ → List ℕ → Type 0) (g : GroupData) (start : Address) (options : Options) (report : Report) (old new : WireState) (out out' : ℕ) (taken taken' : Option (List ℕ)) : Type 0 where
  pub whole : WritesGroup g report.rows taken taken'
  pub acts : ActsOnGroups allows options start g (Ok report) old new out out'
  pub gathered : WritesGathered g acts.blocks.done report taken taken'
  pub headline : OverHonest allows start old (λ history config. WritesGroupAnswers history g report.version report.rows taken taken')

-- A front of such a text was written, nothing before all blocks gave their rows, and the call over the wire ended with this fault. What was done on the wire and why it ended, over any wire, an honest one and a lively one (`acts`), and what was written (`gathered`) are said of the same calls; over a lively one, where the plan of all blocks fits and the faults are few, it is want of memory, or the data changed; and want of memory, where the data did not change in the call.
pub record FailsGroupOver (allows : List ℕ → ℕ → List ℕ → List ℕ → Type 0) (g : GroupData) (start : Address) (options : Options) (fault : ClientFault) (old new : WireState) (out out' : ℕ) (taken taken' : Option (List ℕ)) : Type 0 where
  pub front : WritesGroupPrefix g taken taken'
  pub acts : ActsOnGroups allows options start g (Err fault) old new out out'
  pub gathered : WritesGatheredFront g acts.stops.done acts.stops.rest taken taken'
  pub headline : OverHonest allows start old (λ history config. WritesGroupAnswersFront history g taken taken')
  pub sink : fault ≡ client_faults.Sink → Rose out out'
  pub complete : OverHonest allows start old (λ history config. old.nature.lively ≡ true → (rise : ℕ) → RisesFew options rise old new → PlanFits (group_offer (publisher history config) g start) options rise → (Rose out out' → ⊥) → MayStill (group_offer (publisher history config) g start) fault)
  pub still : GroupSucceedsStill allows options g start old new (Rose out out') (Err fault)

-- why there is no whole answer over a wire: the query was read, so the call over the wire ended
abbrev pub GroupCause : (List ℕ → ℕ → List ℕ → List ℕ → Type 0) → GroupData → Address → Options → WireState → WireState → SinkState → SinkState → AnswerFault → Type 0
GroupCause allows g start options wire wire' out out' (faults.Data fault) = ⊥
GroupCause allows g start options wire wire' out out' (faults.Query fault) = ⊥
GroupCause allows g start options wire wire' out out' (faults.Client fault) = FailsGroupOver allows g start options fault wire wire' out.faults out'.faults out.taken out'.taken

-- Nothing stands in the way of a query with groups over a wire, by the plan of all its blocks over one version.
abbrev pub FitsGroupOver : (List ℕ → ℕ → List ℕ → List ℕ → Type 0) → GroupData → Address → Options → Publisher → ℕ → WireState → WireState → Type 0
FitsGroupOver allows g start options p version old new = FitsCall allows start options p version (group_plan p g start version) old new

-- What a query with groups of a file over a wire came to, and what it left of shelf, wire and output. Where the text of the start has at most LONGEST_START bytes, nothing stands in the way and the output did not fail, it succeeds, or memory is wanting.
pub record AsksServerGroups (shelf shelf' : ShelfState) (allows : List ℕ → ℕ → List ℕ → List ℕ → Type 0) (wire wire' : WireState) (out out' : SinkState) (name : List ℕ) (start : Address) (options : Options) (result : Result Report AnswerFault) (g : GroupData) : Type 0 where
  pub is_read : IsOfGroupFile (grammar_of options) shelf.told name g
  pub exact : QueryDecides (grammar_of options) shelf shelf' name (λ outcome. outcome ≡ reads_groups g)
  pub answers : IfOk result (λ report. WritesGroupOver allows g start options report wire wire' out.faults out'.faults out.taken out'.taken)
  pub cause : IfErr result (GroupCause allows g start options wire wire' out out')
  pub complete : length (address_text start) ≤ LONGEST_START → ¬ (Rose out.faults out'.faults) → (p : Publisher) (version : ℕ) → FitsGroupOver allows g start options p version wire wire' → IfErr result IsWanting
  pub reads : ReadsNamed name shelf shelf' (FailsByFile result)
  pub output : KeepsOutput out out' result

-- ---- over a wire in the process

-- the text of some order of the answers over the triples was written whole, of so many rows
pub record WritesGroupAnswer (triples : List Triple) (g : GroupData) (n : ℕ) (taken taken' : Option (List ℕ)) : Type 0 where
  pub rows : List Places
  pub rows_are : IsPermutation (answers triples g) rows
  pub text : Appends taken taken' (result_text (shown_query g) rows)
  pub count : n ≡ counted_by (length rows) 0

-- a front of such a text was written
pub record WritesGroupAnswerFront (triples : List Triple) (g : GroupData) (taken taken' : Option (List ℕ)) : Type 0 where
  pub rows : List Places
  pub rows_are : IsPermutation (answers triples g) rows
  pub text : AppendsPrefix taken taken' (result_text (shown_query g) rows)

-- The data of the file were read, and the answer over them was written.
pub record AnswersGroupFile (told : Option Files) (name : List ℕ) (choice : Choice) (g : GroupData) (n : ℕ) (taken taken' : Option (List ℕ)) : Type 0 where
  pub triples : List Triple
  pub is_served : IsOfFile told name choice (codes "localhost") triples
  pub writes : WritesGroupAnswer triples g n taken taken'

-- The data of the file were read, and a front of the answer over them was written.
pub record AnswersGroupFileFront (told : Option Files) (name : List ℕ) (choice : Choice) (g : GroupData) (taken taken' : Option (List ℕ)) : Type 0 where
  pub triples : List Triple
  pub is_served : IsOfFile told name choice (codes "localhost") triples
  pub writes : WritesGroupAnswerFront triples g taken taken'

-- over a wire that was made, the result of a query with groups was written, or a front of it
abbrev pub WritesGroupLooped : GroupData → Options → Report → SinkState → SinkState → Looped FragmentServer → Looped FragmentServer → Type 0
WritesGroupLooped g options report out out' old new = WritesGroupOver (allows_of old) g local_base options report (wire_of old) (wire_of new) out.faults out'.faults out.taken out'.taken

abbrev pub FailsGroupLooped : GroupData → Options → ClientFault → SinkState → SinkState → Looped FragmentServer → Looped FragmentServer → Type 0
FailsGroupLooped g options fault out out' old new = FailsGroupOver (allows_of old) g local_base options fault (wire_of old) (wire_of new) out.faults out'.faults out.taken out'.taken

-- the addresses that a query with groups asks the server of these data for: those of each block, in the order in which the blocks are written
abbrev pub group_plan_of : List Triple → Config → GroupData → List Address
group_plan_of triples config g = group_plan (publisher (triples ∷ []) config) g local_base 1

-- what the server of these data offers to it
abbrev pub group_offer_of : List Triple → Config → GroupData → Offer
group_offer_of triples config g = group_offer (publisher (triples ∷ []) config) g local_base

-- which faults may come, by the plan of all blocks
abbrev pub MayEndGroup : ℕ → Options → List Triple → Config → GroupData → ClientFault → Type 0
MayEndGroup n options triples config g fault = MayEndBy n options (group_offer_of triples config g) (group_plan_of triples config g) fault

-- none of the causes is there
abbrev pub GroupIsWithin : ℕ → Options → List Triple → Config → GroupData → Type 0
GroupIsWithin n options triples config g = IsWithin n options (publisher (triples ∷ []) config) (group_plan_of triples config g)

-- then memory is wanting
abbrev pub WantsMemoryOver : ℕ → Options → GroupData → ClientFault → Looped FragmentServer → Looped FragmentServer → Type 0
WantsMemoryOver n options g fault old new = GroupIsWithin n options (serving old.server).data_set (serving old.server).config g → fault ≡ client_faults.OutOfMemory

-- a call over the wire ended with one of these, by the plan over the data of its server
abbrev pub EndsGroupOver : ℕ → Options → GroupData → ClientFault → Looped FragmentServer → Looped FragmentServer → Type 0
EndsGroupOver n options g fault old new = MayEndGroup n options (serving old.server).data_set (serving old.server).config g fault

-- or it succeeded by as many requests as that plan has addresses and the dials that fail among them need
abbrev pub CountsGroupOver : ℕ → Options → GroupData → Report → Looped FragmentServer → Looped FragmentServer → Type 0
CountsGroupOver n options g report old new = CountsRequests n options.retries (length (group_plan_of (serving old.server).data_set (serving old.server).config g)) report.requests

-- Only for addresses of that plan requests were sent, and each was requested no more often than the plan has it, each time as often as it may be tried.
pub record AsksGroupPlan (options : Options) (g : GroupData) (old new : Looped FragmentServer) : Type 0 where
  pub asked : AsksPlan (group_offer_of (serving old.server).data_set (serving old.server).config g) (wire_of old) (wire_of new)
  pub requested : RequestsPlan (group_offer_of (serving old.server).data_set (serving old.server).config g) options (wire_of old) (wire_of new)

-- each was answered as often as the plan has it
abbrev pub AnswersGroupPlan : Options → GroupData → Report → Looped FragmentServer → Looped FragmentServer → Type 0
AnswersGroupPlan options g report old new = AnswersPlan (group_offer_of (serving old.server).data_set (serving old.server).config g) options report (wire_of old) (wire_of new)

-- ---- the query of a file of data

-- the query was asked over that wire, and the text of its answers over the data of the file written
abbrev pub LocalGroupAnswers : Option Files → LocalView → Option (Looped FragmentServer) → GroupData → Report → SinkState → SinkState → Type 0
LocalGroupAnswers told local inside g report out out' =
    AnswersGroupFile told local.name local.choice g report.rows out.taken out'.taken × LoopsFile told local inside (WritesGroupLooped g local.options report out out')

-- why there is no whole answer: both files were read, so the call over the wire ended
abbrev pub LocalGroupCause : Option Files → LocalView → Option (Looped FragmentServer) → GroupData → SinkState → SinkState → AnswerFault → Type 0
LocalGroupCause told local inside g out out' (faults.Data fault) = ⊥
LocalGroupCause told local inside g out out' (faults.Query fault) = ⊥
LocalGroupCause told local inside g out out' (faults.Client fault) =
    AnswersGroupFileFront told local.name local.choice g out.taken out'.taken × LoopsFile told local inside (FailsGroupLooped g local.options fault out out')

-- it took so many requests, or ended for one of the causes that may come
abbrev pub EndsGroupFile : Option Files → LocalView → Option (Looped FragmentServer) → GroupData → Result Report AnswerFault → Type 0
EndsGroupFile told local inside g (Ok report) = LoopsFile told local inside (CountsGroupOver local.fail_every local.options g report)
EndsGroupFile told local inside g (Err (faults.Data fault)) = ⊥
EndsGroupFile told local inside g (Err (faults.Query fault)) = ⊥
EndsGroupFile told local inside g (Err (faults.Client fault)) = LoopsFile told local inside (EndsGroupOver local.fail_every local.options g fault)

-- where none of the causes is there memory is wanting
abbrev pub WantsMemoryFile : Option Files → LocalView → Option (Looped FragmentServer) → GroupData → AnswerFault → Type 0
WantsMemoryFile told local inside g (faults.Data fault) = ⊥
WantsMemoryFile told local inside g (faults.Query fault) = ⊥
WantsMemoryFile told local inside g (faults.Client fault) = LoopsFile told local inside (WantsMemoryOver local.fail_every local.options g fault)

-- The query with groups of a file, asked of a file of data.
pub record AsksFileGroups (shelf shelf' : ShelfState) (out out' : SinkState) (inside : Option (Looped FragmentServer)) (local : LocalView) (result : Result Report AnswerFault) (g : GroupData) : Type 0 where
  pub is_read : IsOfGroupFile (grammar_of local.options) shelf.told local.query g
  pub data_exact : DataDecides shelf shelf' local.name local.choice (codes "localhost") IsServing
  pub query_exact : QueryDecides (grammar_of local.options) shelf shelf' local.query (λ outcome. outcome ≡ reads_groups g)
  pub answers : IfOk result (λ report. LocalGroupAnswers shelf.told local inside g report out out')
  pub cause : IfErr result (LocalGroupCause shelf.told local inside g out out')
  pub asked : LoopsFile shelf.told local inside (AsksGroupPlan local.options g)
  pub replied : IfOk result (λ report. LoopsFile shelf.told local inside (AnswersGroupPlan local.options g report))
  pub ends : local.options.budget < 2 ^ 63 → EndsGroupFile shelf.told local inside g result
  pub complete : local.options.budget < 2 ^ 63 → ¬ (Rose out.faults out'.faults) → IfErr result (WantsMemoryFile shelf.told local inside g)
  pub honest : HonestFile shelf.told local inside result
  pub reads : ReadsLocally local.name local.query shelf shelf' result
  pub output : KeepsOutput out out' result

-- ---- the query of generated data

-- the triples of the data of so many persons, each counted once, and the answers of a query over them
pub record CountsGroup (persons : ℕ) (g : GroupData) (counts : Counts) : Type 0 where
  pub triples : List Triple
  pub is_served : IsServed (codes "localhost") (chosen DefaultGraph (generated persons)) triples
  pub triples_are : counts.triples ≡ length triples
  pub rows_are : counts.rows ≡ counted_by (length (answers triples g)) 0

-- a query was asked over a wire to the end, with so many rows; what was written is not told
abbrev pub AsksGroupOver : GroupData → ℕ → Looped FragmentServer → Looped FragmentServer → Type 0
AsksGroupOver g rows old new = (report : Report) × (report.rows ≡ rows) × WritesGroupOver (allows_of old) g local_base usual_options report (wire_of old) (wire_of new) 0 0 None None

abbrev pub FailsGroupOn : GroupData → ClientFault → Looped FragmentServer → Looped FragmentServer → Type 0
FailsGroupOn g fault old new = FailsGroupOver (allows_of old) g local_base usual_options fault (wire_of old) (wire_of new) 0 0 None None

-- each address of the plan was answered, in a call that gave so many rows
abbrev pub AnswersGroupRows : GroupData → ℕ → Looped FragmentServer → Looped FragmentServer → Type 0
AnswersGroupRows g rows old new = (report : Report) × (report.rows ≡ rows) × AnswersGroupPlan usual_options g report old new

-- the query was asked of the data over that wire, and these are the numbers
abbrev pub GeneratedGroupAnswers : ℕ → Option (Looped FragmentServer) → GroupData → Counts → Type 0
GeneratedGroupAnswers persons inside g counts = CountsGroup persons g counts × LoopsGenerated persons inside (AsksGroupOver g counts.rows)

-- why there are none: the query was read and the data have no fault, so the call over the wire ended, and not by the output
abbrev pub GeneratedGroupCause : ℕ → Option (Looped FragmentServer) → GroupData → AnswerFault → Type 0
GeneratedGroupCause persons inside g (faults.Data fault) = ⊥
GeneratedGroupCause persons inside g (faults.Query fault) = ⊥
GeneratedGroupCause persons inside g (faults.Client fault) = (fault ≢ client_faults.Sink) × LoopsGenerated persons inside (FailsGroupOn g fault)

-- it ended for one of the causes that may come
abbrev pub EndsGroupGenerated : ℕ → Option (Looped FragmentServer) → GroupData → AnswerFault → Type 0
EndsGroupGenerated persons inside g (faults.Data fault) = ⊥
EndsGroupGenerated persons inside g (faults.Query fault) = ⊥
EndsGroupGenerated persons inside g (faults.Client fault) = LoopsGenerated persons inside (EndsGroupOver 0 usual_options g fault)

-- where none of the causes is there memory is wanting
abbrev pub WantsMemoryGenerated : ℕ → Option (Looped FragmentServer) → GroupData → AnswerFault → Type 0
WantsMemoryGenerated persons inside g (faults.Data fault) = ⊥
WantsMemoryGenerated persons inside g (faults.Query fault) = ⊥
WantsMemoryGenerated persons inside g (faults.Client fault) = LoopsGenerated persons inside (WantsMemoryOver 0 usual_options g fault)

-- The query with groups of a file, asked of the generated data of so many persons.
pub record AsksGeneratedGroups (shelf shelf' : ShelfState) (inside : Option (Looped FragmentServer)) (persons : ℕ) (name : List ℕ) (result : Result Counts AnswerFault) (g : GroupData) : Type 0 where
  pub is_read : IsOfGroupFile grammars.Groups shelf.told name g
  pub exact : QueryDecides grammars.Groups shelf shelf' name (λ outcome. outcome ≡ reads_groups g)
  pub answers : IfOk result (GeneratedGroupAnswers persons inside g)
  pub cause : IfErr result (GeneratedGroupCause persons inside g)
  pub asked : LoopsGenerated persons inside (AsksGroupPlan usual_options g)
  pub replied : IfOk result (λ counts. LoopsGenerated persons inside (AnswersGroupRows g counts.rows))
  pub ends : IfErr result (EndsGroupGenerated persons inside g)
  pub complete : IfErr result (WantsMemoryGenerated persons inside g)
  pub honest : HonestGenerated persons inside result
  pub reads : ReadsNamed name shelf shelf' (FailsByFile result)

-- ---- the commands

-- What a command came to: this, of a query without groups or of a file that is refused; or that of the query with groups that its file holds.
pub data PlainOrGroups (Alone : Type 0) (Grouped : GroupData → Type 0) : Type 0 where
  Plain : Alone → PlainOrGroups Alone Grouped
  Groups : (g : GroupData) → Grouped g → PlainOrGroups Alone Grouped

-- the query of a file, asked of a file of data
abbrev pub FileAsked : ShelfState → ShelfState → SinkState → SinkState → Option (Looped FragmentServer) → LocalView → Result Report AnswerFault → Type 0
FileAsked shelf shelf' out out' inside local result = PlainOrGroups (AsksFile shelf shelf' out out' inside local result) (AsksFileGroups shelf shelf' out out' inside local result)

-- the same over a wire
abbrev pub ServerAsked : ShelfState → ShelfState → (List ℕ → ℕ → List ℕ → List ℕ → Type 0) → WireState → WireState → SinkState → SinkState → List ℕ → Address → Options → Result Report AnswerFault → Type 0
ServerAsked shelf shelf' allows wire wire' out out' name start options result =
    PlainOrGroups (AsksServer shelf shelf' allows wire wire' out out' name start options result) (AsksServerGroups shelf shelf' allows wire wire' out out' name start options result)

-- the same of the generated data of so many persons; where memory is wanting before they are served, nothing is said of the query
abbrev pub GeneratedAsked : ShelfState → ShelfState → Option (Looped FragmentServer) → ℕ → List ℕ → Result Counts AnswerFault → Type 0
GeneratedAsked shelf shelf' inside persons name result = PlainOrGroups (AsksGenerated shelf shelf' inside persons name result) (AsksGeneratedGroups shelf shelf' inside persons name result)
