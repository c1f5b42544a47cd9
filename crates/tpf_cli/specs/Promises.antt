-- Which status may come of a run, and when a run succeeds.
use Rattle.std.specs.Prelude.{ℕ, ◌≡◌, ◌==◌, ◌⊎◌, Bool, true, false, List, length, codes, Option, Some, None, [], ◌∷◌}
use Rattle.std.specs.List.{list_any}
use Rattle.std.specs.Io.KnownBytes.{Appends}
use Rattle.rdf_terms.specs.declared.term.Triple.{Triple}
use Rattle.tpf_base.specs.Addresses.{Address, authority_of}
use Rattle.tpf_base.specs.Causes.{Rose}
use Rattle.tpf_base.specs.Outside.{ShelfState}
use Rattle.tpf_base.specs.Wrote.{SinkState, AppendsPrefix}
use Rattle.template_fill.specs.Metadata.{Config}
use Rattle.bgp_core.specs.Queries.{QueryData}
use Rattle.triple_table.specs.declared.choice.Choice.TheVariants.{DefaultGraph}
use Rattle.triple_table.specs.Chosen.{chosen}
use Rattle.triple_table.specs.Served.{IsServed}
use Rattle.generated_data.specs.Generated.{generated}
use Rattle.group_query.specs.Trees.{GroupData}
use Rattle.group_faults.specs.declared.fault.GroupWhy.{GroupWhy}
use Rattle.tpf_client.specs.declared.options.Options.{Options}
use Rattle.tpf_client.specs.Offers.{Publisher, Offer}
use Rattle.tpf_client.specs.Plans.{HasLongPage}
use Rattle.data_files.specs.declared.query.Grammar.{Grammar}
use Rattle.data_files.specs.declared.query.Grammar.TheVariants as grammars
use Rattle.data_files.specs.Data.{Files, IfTold, Serves}
use Rattle.data_files.specs.Queries.{HoldsGroup, HasQueryFault}
use Rattle.data_files.specs.Kept.{KeepsShelf, KeepsSink}
use Rattle.query_command.specs.Blocks.{grammar_of}
use Rattle.query_command.specs.Answers.{FitsOver, OfQuery}
use Rattle.query_command.specs.Generated.{usual_options, usual_config}
use Rattle.query_command.specs.Loops.{LocalView, local_config}
use Rattle.query_command.specs.Groups.{group_plan_of, group_offer_of, GroupIsWithin, FitsGroupOver}
use Rattle.query_command.specs.Plans.{plan_of, offer_of, CountsRequests, FailsOften, PassesBudget, OfFiles, OfGenerated, PlanIsWithin}
use Rattle.query_command.specs.Servers.{FitsServers}
use Rattle.command_words.specs.Commands.{Command, local, query, federate, serve, make}
use Rattle.command_endings.specs.Endings.{EndOfRun, Says}
use Rattle.command_endings.specs.Lines.{counts_text}
use Rattle.tpf_cli.specs.Runs.{Around, DoesOf, options_of, view_of}

-- ---- the statuses that may come, over any shelf, wire and output, told or not

-- of a query in one process: where no dial fails, 5 never comes
abbrev pub local_statuses : Bool → List ℕ
local_statuses true = 0 ∷ 3 ∷ 4 ∷ 6 ∷ 7 ∷ 8 ∷ 9 ∷ 10 ∷ []
local_statuses false = 0 ∷ 3 ∷ 4 ∷ 5 ∷ 6 ∷ 7 ∷ 8 ∷ 9 ∷ 10 ∷ []

-- of a query over the handed-in wire: 3 and 12 never come
abbrev pub server_statuses : List ℕ
server_statuses = 0 ∷ 4 ∷ 5 ∷ 6 ∷ 7 ∷ 8 ∷ 9 ∷ 10 ∷ 11 ∷ []

abbrev pub statuses_of : Option Command → List ℕ
statuses_of None = 2 ∷ 8 ∷ []
statuses_of (Some (local name query_name choice page client seed fail_every)) = local_statuses (fail_every == 0)
statuses_of (Some (query url query_name client)) = server_statuses
statuses_of (Some (federate several)) = server_statuses
statuses_of (Some (serve name base choice page stop_after reload rows)) = 0 ∷ 3 ∷ 8 ∷ 9 ∷ 10 ∷ 12 ∷ []
statuses_of (Some (make count None)) = 0 ∷ 8 ∷ 9 ∷ []
statuses_of (Some (make count (Some asked_name))) = 0 ∷ 4 ∷ 6 ∷ 7 ∷ 8 ∷ 9 ∷ 10 ∷ []

-- the status is one of them
abbrev pub IsAmong : List ℕ → ℕ → Type 0
IsAmong statuses status = list_any (λ n. n == status) statuses ≡ true

-- ---- the table of a query in one process, where each n-th dial fails

-- 5 comes only where so many dials fail, 6 only where a body of the plan is longer than the limit, 7 only where the plan and the requests that fail pass the budget, and so do the tries of the plan; 11 and 12 never come
pub record KeepsPlan (n : ℕ) (options : Options) (offer : Offer) (plan : List Address) (status : ℕ) : Type 0 where
  pub exchange : status ≡ 5 → FailsOften n options.retries (length plan)
  pub reply : status ≡ 6 → (received : List ℕ) × HasLongPage offer options.max_body plan received
  pub budget : status ≡ 7 → PassesBudget n options.retries options.budget (length plan)
  pub changed : status ≡ 11 → ⊥
  pub wire : status ≡ 12 → ⊥

-- of a query without groups
abbrev pub KeepsTable : ℕ → Options → List Triple → Config → QueryData → ℕ → Type 0
KeepsTable n options triples config q status = KeepsPlan n options (offer_of options triples config q) (plan_of options triples config q) status

-- of what the words command
abbrev pub KeepsTableOf : Around → Option Command → ℕ → Type 0
KeepsTableOf a None status = Unit {0}
KeepsTableOf a (Some (local name query_name choice page client seed fail_every)) status =
    OfFiles a.shelf.told (view_of name query_name choice page client seed fail_every) (λ triples q. KeepsTable fail_every (options_of client) triples (local_config (options_of client) page) q status)
KeepsTableOf a (Some (query url query_name client)) status = status ≡ 12 → ⊥
KeepsTableOf a (Some (federate several)) status = status ≡ 12 → ⊥
KeepsTableOf a (Some (serve name base choice page stop_after reload rows)) status = Unit {0}
KeepsTableOf a (Some (make count None)) status = Unit {0}
KeepsTableOf a (Some (make count (Some asked_name))) status = OfGenerated a.shelf.told count asked_name (λ triples q. KeepsTable 0 usual_options triples usual_config q status)

-- ---- the table of a query with groups in one process

-- the same, by the plan of all blocks
abbrev pub KeepsGroupTable : ℕ → Options → List Triple → Config → GroupData → ℕ → Type 0
KeepsGroupTable n options triples config g status = KeepsPlan n options (group_offer_of triples config g) (group_plan_of triples config g) status

-- of the data that are served of a file and the query with groups of another, where the shelf tells them
abbrev pub OfGroupFiles : Option Files → LocalView → (List Triple → GroupData → Type 0) → Type 0
OfGroupFiles told view holds = IfTold told (λ files. (triples : List Triple) (g : GroupData) → Serves files view.name view.choice (codes "localhost") triples → HoldsGroup (grammar_of view.options) files view.query g → holds triples g)

-- of the generated data that are served, and the query with groups of a file, where the shelf tells it
abbrev pub OfGroupGenerated : Option Files → ℕ → List ℕ → (List Triple → GroupData → Type 0) → Type 0
OfGroupGenerated told persons query_name holds = IfTold told (λ files. (triples : List Triple) (g : GroupData) → IsServed (codes "localhost") (chosen DefaultGraph (generated persons)) triples → HoldsGroup grammars.Groups files query_name g → holds triples g)

-- of what the words command
abbrev pub KeepsGroupTableOf : Around → Option Command → ℕ → Type 0
KeepsGroupTableOf a None status = Unit {0}
KeepsGroupTableOf a (Some (local name query_name choice page client seed fail_every)) status =
    OfGroupFiles a.shelf.told (view_of name query_name choice page client seed fail_every) (λ triples g. KeepsGroupTable fail_every (options_of client) triples (local_config (options_of client) page) g status)
KeepsGroupTableOf a (Some (query url query_name client)) status = Unit {0}
KeepsGroupTableOf a (Some (federate several)) status = Unit {0}
KeepsGroupTableOf a (Some (serve name base choice page stop_after reload rows)) status = Unit {0}
KeepsGroupTableOf a (Some (make count None)) status = Unit {0}
KeepsGroupTableOf a (Some (make count (Some asked_name))) status = OfGroupGenerated a.shelf.told count asked_name (λ triples g. KeepsGroupTable 0 usual_options triples usual_config g status)

-- ---- refused queries

-- Status 4 comes only where the files have such a fault; and where they have one and no file failed to be read, the query is refused (4), unless the data were before it (3), or memory ran out (8).
pub record RefusesBy (shelf shelf' : ShelfState) (HasFault : Files → ℕ → GroupWhy → Type 0) (status : ℕ) : Type 0 where
  pub four : status ≡ 4 → IfTold shelf.told (λ files. (at : ℕ) × (why : GroupWhy) × HasFault files at why)
  pub refused : ¬ (Rose shelf.faults shelf'.faults) → IfTold shelf.told (λ files. (at : ℕ) (why : GroupWhy) → HasFault files at why → (status ≡ 3) ⊎ ((status ≡ 4) ⊎ (status ≡ 8)))

-- that of the text of the file of a query, by a grammar with groups or without
abbrev pub RefusesQuery : Grammar → ShelfState → ShelfState → List ℕ → ℕ → Type 0
RefusesQuery grammar shelf shelf' name status = RefusesBy shelf shelf' (λ files at why. HasQueryFault grammar files name at why) status

-- of what the words command; what is asked of several servers, or in blocks of rows, is a query without groups
abbrev pub RefusesOf : Around → Option Command → ℕ → Type 0
RefusesOf a None status = Unit {0}
RefusesOf a (Some (local name query_name choice page client seed fail_every)) status = RefusesQuery (grammar_of (options_of client)) a.shelf a.shelf' query_name status
RefusesOf a (Some (query url query_name client)) status = RefusesQuery (grammar_of (options_of client)) a.shelf a.shelf' query_name status
RefusesOf a (Some (federate several)) status = RefusesQuery grammars.Patterns a.shelf a.shelf' several.query status
RefusesOf a (Some (serve name base choice page stop_after reload rows)) status = Unit {0}
RefusesOf a (Some (make count None)) status = Unit {0}
RefusesOf a (Some (make count (Some asked_name))) status = RefusesQuery grammars.Groups a.shelf a.shelf' asked_name status

-- ---- the number of requests that is told

-- so many requests are told as a plan of so many addresses takes, where each n-th dial fails: as many where none does. The standard error took the line, or a part of its front where it failed.
pub record TellsRequests (n retries addresses : ℕ) (err err' : SinkState) : Type 0 where
  pub requests : ℕ
  pub rows : ℕ
  pub counts : CountsRequests n retries addresses requests
  pub told : Appends err.taken err'.taken (counts_text requests rows) ⊎ (Rose err.faults err'.faults × AppendsPrefix err.taken err'.taken (counts_text requests rows))

-- This holds of the query of a file that ended with status 0, by what is asked of the file.
abbrev pub OfAnswered : Option Command → ℕ → (LocalView → Type 0) → Type 0
OfAnswered None status holds = Unit {0}
OfAnswered (Some (local name query_name choice page client seed fail_every)) status holds = status ≡ 0 → holds (view_of name query_name choice page client seed fail_every)
OfAnswered (Some (query url query_name client)) status holds = Unit {0}
OfAnswered (Some (federate several)) status holds = Unit {0}
OfAnswered (Some (serve name base choice page stop_after reload rows)) status holds = Unit {0}
OfAnswered (Some (make count asked)) status holds = Unit {0}

-- what is told of a query without groups, by its plan
abbrev pub TellsOfPlan : Around → LocalView → SinkState → SinkState → Type 0
TellsOfPlan a view err err' =
    OfFiles a.shelf.told view (λ triples q. TellsRequests view.fail_every view.options.retries (length (plan_of view.options triples (local_config view.options view.page_size) q)) err err')

abbrev pub TellsRequestsOf : Around → Option Command → ℕ → SinkState → SinkState → Type 0
TellsRequestsOf a command status err err' = OfAnswered command status (λ view. TellsOfPlan a view err err')

-- the same of a query with groups, by the plan of all its blocks
abbrev pub TellsOfGroupPlan : Around → LocalView → SinkState → SinkState → Type 0
TellsOfGroupPlan a view err err' =
    OfGroupFiles a.shelf.told view (λ triples g. TellsRequests view.fail_every view.options.retries (length (group_plan_of triples (local_config view.options view.page_size) g)) err err')

abbrev pub TellsGroupRequestsOf : Around → Option Command → ℕ → SinkState → SinkState → Type 0
TellsGroupRequestsOf a command status err err' = OfAnswered command status (λ view. TellsOfGroupPlan a view err err')

-- ---- completeness

-- done, or out of memory
abbrev pub IsDone : ℕ → Type 0
IsDone status = (status ≡ 0) ⊎ (status ≡ 8)

-- Where the files are read, no count rose of shelf and output, and of the door of the handed-in wire where that is served, a command is done or memory is wanting: of a query in one process, where none of the causes of the table is there, with nothing assumed of a wire; of a query over the handed-in wire, where that is as a server that answers over one version of its data makes it, or several, within the limits of what is served, and the bodies of the plan and the number of its addresses are within the options; of a service, and of data that are written.
abbrev pub SucceedsOf : Around → Option Command → ℕ → Type 0
SucceedsOf a None status = Unit {0}
SucceedsOf a (Some (local name query_name choice page client seed fail_every)) status =
    ¬ (Rose a.shelf.faults a.shelf'.faults) → ¬ (Rose a.out.faults a.out'.faults)
    → OfFiles a.shelf.told (view_of name query_name choice page client seed fail_every) (λ triples q. PlanIsWithin fail_every (options_of client) triples (local_config (options_of client) page) q → IsDone status)
SucceedsOf a (Some (query url query_name client)) status =
    ¬ (Rose a.shelf.faults a.shelf'.faults) → ¬ (Rose a.out.faults a.out'.faults)
    → OfQuery a.shelf.told query_name (λ q. (p : Publisher) (version : ℕ) → FitsOver a.allows q url (options_of client) p version a.wire a.wire' → IsDone status)
SucceedsOf a (Some (federate several)) status =
    ¬ (Rose a.shelf.faults a.shelf'.faults) → ¬ (Rose a.out.faults a.out'.faults)
    → OfQuery a.shelf.told several.query (λ q. (publishers : List Publisher) (versions : List ℕ) → FitsServers a.allows q several.urls (options_of several.client) publishers versions a.wire a.wire' → IsDone status)
SucceedsOf a (Some (serve name base choice page stop_after reload rows)) status =
    ¬ (Rose a.shelf.faults a.shelf'.faults) → ¬ (Rose a.out.faults a.out'.faults) → ¬ (Rose a.wire.door.faults a.wire'.door.faults)
    → IfTold a.shelf.told (λ files. (triples : List Triple) → Serves files name choice (authority_of base) triples → IsDone status)
SucceedsOf a (Some (make count None)) status = ¬ (Rose a.out.faults a.out'.faults) → IsDone status
SucceedsOf a (Some (make count (Some asked_name))) status =
    ¬ (Rose a.shelf.faults a.shelf'.faults) → ¬ (Rose a.out.faults a.out'.faults) → OfGenerated a.shelf.told count asked_name (λ triples q. PlanIsWithin 0 usual_options triples usual_config q → IsDone status)

-- of the query with groups of a file, where the shelf tells it
abbrev pub OfGroupQuery : Grammar → Option Files → List ℕ → (GroupData → Type 0) → Type 0
OfGroupQuery grammar told query_name holds = IfTold told (λ files. (g : GroupData) → HoldsGroup grammar files query_name g → holds g)

-- The same of a query with groups: in one process where none of the causes of its table is there; over the handed-in wire where that is as a server that answers over one version of its data makes it, and the plan of all blocks over this version fits.
abbrev pub SucceedsGroupsOf : Around → Option Command → ℕ → Type 0
SucceedsGroupsOf a None status = Unit {0}
SucceedsGroupsOf a (Some (local name query_name choice page client seed fail_every)) status =
    ¬ (Rose a.shelf.faults a.shelf'.faults) → ¬ (Rose a.out.faults a.out'.faults)
    → OfGroupFiles a.shelf.told (view_of name query_name choice page client seed fail_every) (λ triples g. GroupIsWithin fail_every (options_of client) triples (local_config (options_of client) page) g → IsDone status)
SucceedsGroupsOf a (Some (query url query_name client)) status =
    ¬ (Rose a.shelf.faults a.shelf'.faults) → ¬ (Rose a.out.faults a.out'.faults)
    → OfGroupQuery (grammar_of (options_of client)) a.shelf.told query_name (λ g. (p : Publisher) (version : ℕ) → FitsGroupOver a.allows g url (options_of client) p version a.wire a.wire' → IsDone status)
SucceedsGroupsOf a (Some (federate several)) status = Unit {0}
SucceedsGroupsOf a (Some (serve name base choice page stop_after reload rows)) status = Unit {0}
SucceedsGroupsOf a (Some (make count None)) status = Unit {0}
SucceedsGroupsOf a (Some (make count (Some asked_name))) status =
    ¬ (Rose a.shelf.faults a.shelf'.faults) → ¬ (Rose a.out.faults a.out'.faults) → OfGroupGenerated a.shelf.told count asked_name (λ triples g. GroupIsWithin 0 usual_options triples usual_config g → IsDone status)

-- ---- the run

-- What a run keeps to that ended with this status: it did what its words command and said so, with one of the statuses of the command, by the tables of statuses; it told the requests of its plan; it refused a query exactly where its text has a fault; and it succeeded where nothing stood in the way. `table`, `requests` and `complete` speak of a query without groups, `groups`, `group_requests` and `groups_complete` of one with. The shelf tells what it told, and no count of shelf, output and standard error fell.
pub record Keeps (a : Around) (command : Option Command) (status : ℕ) (err err' : SinkState) : Type 0 where
  pub ending : (end : EndOfRun) × DoesOf a command end × Says status end err err'
  pub among : IsAmong (statuses_of command) status
  pub table : KeepsTableOf a command status
  pub groups : KeepsGroupTableOf a command status
  pub refusal : RefusesOf a command status
  pub requests : TellsRequestsOf a command status err err'
  pub group_requests : TellsGroupRequestsOf a command status err err'
  pub complete : SucceedsOf a command status
  pub groups_complete : SucceedsGroupsOf a command status
  pub shelf : KeepsShelf a.shelf a.shelf'
  pub output : KeepsSink a.out a.out'
  pub error : KeepsSink err err'
