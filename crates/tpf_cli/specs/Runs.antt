-- What a run did, by its command and how it ended.
use Rattle.std.specs.Prelude.{ℕ, ◌≡◌, ◌⊎◌, Bool, List, Option, Some, None, Result, Ok, Err}
use Rattle.std.specs.Io.KnownBytes.{Appends}
use Rattle.rdf_terms.specs.Canon.{canon}
use Rattle.generated_data.specs.Generated.{generated}
use Rattle.tpf_base.specs.Addresses.{Address}
use Rattle.tpf_base.specs.Causes.{Rose}
use Rattle.tpf_base.specs.Links.{WireState}
use Rattle.tpf_base.specs.Outside.{ShelfState}
use Rattle.tpf_base.specs.Wrote.{SinkState, AppendsPrefix}
use Rattle.tpf_base.specs.declared.fault.Fault.{Fault}
use Rattle.tpf_base.specs.declared.fault.Fault.TheVariants as sinks
use Rattle.template_fill.specs.Metadata.{Config}
use Rattle.triple_table.specs.declared.choice.Choice.{Choice}
use Rattle.loop_wire.specs.Looped.{Looped}
use Rattle.fragment_server.specs.declared.server.FragmentServer.{FragmentServer}
use Rattle.group_query.specs.Trees.{GroupData}
use Rattle.tpf_client.specs.declared.options.Options.{Options}
use Rattle.tpf_client.specs.declared.fault.ClientFault.TheVariants as clients
use Rattle.data_files.specs.declared.query.Grammar.TheVariants as grammars
use Rattle.data_files.specs.Causes.{QueryDecides, GivesQuery}
use Rattle.data_files.specs.Queries.{QueryOutcome, reads_groups}
use Rattle.data_files.specs.Kept.{KeepsSink}
use Rattle.answer_faults.specs.declared.fault.AnswerFault.{AnswerFault}
use Rattle.answer_faults.specs.declared.fault.AnswerFault.TheVariants as answer_faults
use Rattle.query_command.specs.Answers.{IsReading}
use Rattle.query_command.specs.Loops.{LocalView}
use Rattle.query_command.specs.Groups.{FileAsked, ServerAsked, GeneratedAsked}
use Rattle.answer_faults.specs.declared.fault.Counts.{Counts}
use Rattle.serve_command.specs.Services.{ServesFile}
use Rattle.command_words.specs.declared.command.ClientWords.{ClientWords}
use Rattle.command_words.specs.declared.command.LocalWords.{LocalWords}
use Rattle.command_words.specs.declared.command.ServeWords.{ServeWords}
use Rattle.query_command.specs.Servers.{ServersAsked}
use Rattle.command_words.specs.Commands.{Command, local, query, federate, serve, make}
use Rattle.tpf_cli.specs.declared.top.Inside.{Inside}
use Rattle.tpf_cli.specs.declared.top.Inside.TheVariants.{Unused, Loop}
use Rattle.command_endings.specs.Endings.{EndOfRun, usage, no_words, answered, served, made, counted}
use Rattle.command_endings.specs.Lines.{sizes_text}

-- What stands around a run, before it and after it: the shelf, the wire that is handed in with what it allows, the output, and the wire that was made inside.
pub record Around : Type 1 where
  pub shelf : ShelfState
  pub shelf' : ShelfState
  pub allows : List ℕ → ℕ → List ℕ → List ℕ → Type 0
  pub wire : WireState
  pub wire' : WireState
  pub out : SinkState
  pub out' : SinkState
  pub inside' : Inside

abbrev pub around : ShelfState → ShelfState → (List ℕ → ℕ → List ℕ → List ℕ → Type 0) → WireState → WireState → SinkState → SinkState → Inside → Around
around shelf shelf' allows wire wire' out out' inside' =
    record { shelf = shelf; shelf' = shelf'; allows = allows; wire = wire; wire' = wire'; out = out; out' = out'; inside' = inside' }

-- the wire that a run made inside
abbrev pub wire_inside : Inside → Option (Looped FragmentServer)
wire_inside Unused = None
wire_inside (Loop wire) = Some wire

-- the bounds of a client by its words
abbrev pub options_of : ClientWords → Options
options_of client = record { window = client.window; block = client.block; links = client.links; retries = client.retries; budget = client.budget; max_body = client.max_body }

-- ---- commands

-- nothing was looked for, written, sent or made
abbrev pub IsIdle : Around → Type 0
IsIdle a = (a.out' ≡ a.out) × (a.wire' ≡ a.wire) × (a.inside' ≡ Unused) × (a.shelf' ≡ a.shelf)

-- the data of so many persons were written, as canonical text, or a front of it
abbrev pub Writes : SinkState → SinkState → ℕ → Result (Unit {0}) Fault → Type 0
Writes out out' count (Ok nothing) = Appends out.taken out'.taken (canon (generated count))
Writes out out' count (Err sinks.Failed) = AppendsPrefix out.taken out'.taken (canon (generated count)) × Rose out.faults out'.faults
Writes out out' count (Err sinks.OutOfMemory) = AppendsPrefix out.taken out'.taken (canon (generated count))

-- the answer to a line that was not written whole
abbrev pub unwritten : Fault → AnswerFault
unwritten sinks.Failed = answer_faults.Client clients.Sink
unwritten sinks.OutOfMemory = answer_faults.Client clients.OutOfMemory

-- a front of a line was written: the output failed, or memory ran out
pub record CutsLine (out out' : SinkState) (line : List ℕ) (fault : AnswerFault) : Type 0 where
  pub cause : Fault
  pub is : fault ≡ unwritten cause
  pub failed : cause ≡ sinks.Failed → Rose out.faults out'.faults
  pub front : AppendsPrefix out.taken out'.taken line

-- what became of numbers: the line of them was written, or a front of it; without numbers nothing was written
abbrev pub WritesNumbers : SinkState → SinkState → Result Counts AnswerFault → Result (Unit {0}) AnswerFault → Type 0
WritesNumbers out out' (Ok counts) (Ok nothing) = Appends out.taken out'.taken (sizes_text counts)
WritesNumbers out out' (Ok counts) (Err fault) = CutsLine out out' (sizes_text counts) fault
WritesNumbers out out' (Err cause) (Ok nothing) = ⊥
WritesNumbers out out' (Err cause) (Err fault) = (cause ≡ fault) × (out' ≡ out)

-- a query is read, without groups or with them
abbrev pub IsRead : QueryOutcome → Type 0
IsRead outcome = IsReading outcome ⊎ ((g : GroupData) × (outcome ≡ reads_groups g))

-- what the file of the query holds is answered by itself, or by want of memory
abbrev pub GivesEnd : {X : Type 0} → QueryOutcome → Result X AnswerFault → Type 0
GivesEnd outcome (Ok answer) = IsRead outcome
GivesEnd outcome (Err (answer_faults.Data fault)) = Unit {0}
GivesEnd outcome (Err (answer_faults.Query fault)) = GivesQuery outcome (Err fault)
GivesEnd outcome (Err (answer_faults.Client fault)) = IsRead outcome

-- A query was asked of the data of so many persons in the process, and the line of its numbers written, and nothing else.
pub record CountsFile (shelf shelf' : ShelfState) (out out' : SinkState) (inside : Option (Looped FragmentServer)) (persons : ℕ) (name : List ℕ) (result : Result (Unit {0}) AnswerFault) : Type 0 where
  pub came : Result Counts AnswerFault
  pub asks : GeneratedAsked shelf shelf' inside persons name came
  pub line : WritesNumbers out out' came result
  pub exact : QueryDecides grammars.Groups shelf shelf' name (λ outcome. GivesEnd outcome result)
  pub output : KeepsSink out out'

-- what `make` did that ended so
abbrev pub Makes : ShelfState → ShelfState → SinkState → SinkState → Inside → ℕ → Option (List ℕ) → EndOfRun → Type 0
Makes shelf shelf' out out' inside' count None (made written) =
    (inside' ≡ Unused) × (shelf' ≡ shelf) × KeepsSink out out' × Writes out out' count written
Makes shelf shelf' out out' inside' count None usage = ⊥
Makes shelf shelf' out out' inside' count None no_words = ⊥
Makes shelf shelf' out out' inside' count None (answered data_name asked answer) = ⊥
Makes shelf shelf' out out' inside' count None (served file service) = ⊥
Makes shelf shelf' out out' inside' count None (counted asked result) = ⊥
Makes shelf shelf' out out' inside' count (Some asked_name) (counted asked result) =
    (asked ≡ asked_name) × CountsFile shelf shelf' out out' (wire_inside inside') count asked_name result
Makes shelf shelf' out out' inside' count (Some asked_name) usage = ⊥
Makes shelf shelf' out out' inside' count (Some asked_name) no_words = ⊥
Makes shelf shelf' out out' inside' count (Some asked_name) (answered data_name asked answer) = ⊥
Makes shelf shelf' out out' inside' count (Some asked_name) (served file service) = ⊥
Makes shelf shelf' out out' inside' count (Some asked_name) (made written) = ⊥

-- ---- runs

abbrev pub view_of : List ℕ → List ℕ → Choice → ℕ → ClientWords → ℕ → ℕ → LocalView
view_of name query_name choice page client seed fail_every = record { name = name; query = query_name; choice = choice; page_size = page; options = options_of client; seed = seed; fail_every = fail_every }

abbrev pub config_by : Address → ℕ → Option (List ℕ) → Bool → Config
config_by base page reload rows = record { base = base; page_size = page; reload = reload; rows = rows }

-- what `local` asks, by its words
abbrev pub asked_of : LocalWords → LocalView
asked_of words = view_of words.name.now words.query.now words.choice words.page words.client words.seed words.fail_every

-- where the pages of `serve` stand, by its words
abbrev pub config_in : ServeWords → Config
config_in words = config_by words.base words.page words.reload words.rows

-- what a command did that ended so
abbrev pub Does : Around → Command → EndOfRun → Type 0
Does a (local name query_name choice page client seed fail_every) (answered data_name asked answer) =
    (data_name ≡ name) × (asked ≡ query_name) × (a.wire' ≡ a.wire)
    × FileAsked a.shelf a.shelf' a.out a.out' (wire_inside a.inside') (view_of name query_name choice page client seed fail_every) answer
Does a (local name query_name choice page client seed fail_every) usage = ⊥
Does a (local name query_name choice page client seed fail_every) no_words = ⊥
Does a (local name query_name choice page client seed fail_every) (served file service) = ⊥
Does a (local name query_name choice page client seed fail_every) (made written) = ⊥
Does a (local name query_name choice page client seed fail_every) (counted asked result) = ⊥
Does a (query url query_name client) (answered data_name asked answer) =
    (asked ≡ query_name) × (a.inside' ≡ Unused)
    × ServerAsked a.shelf a.shelf' a.allows a.wire a.wire' a.out a.out' query_name url (options_of client) answer
Does a (query url query_name client) usage = ⊥
Does a (query url query_name client) no_words = ⊥
Does a (query url query_name client) (served file service) = ⊥
Does a (query url query_name client) (made written) = ⊥
Does a (query url query_name client) (counted asked result) = ⊥
Does a (federate several) (answered data_name asked answer) =
    (asked ≡ several.query) × (a.inside' ≡ Unused)
    × ServersAsked a.shelf a.shelf' a.allows a.wire a.wire' a.out a.out' several.query several.urls (options_of several.client) answer
Does a (federate several) usage = ⊥
Does a (federate several) no_words = ⊥
Does a (federate several) (served file service) = ⊥
Does a (federate several) (made written) = ⊥
Does a (federate several) (counted asked result) = ⊥
Does a (serve name base choice page stop_after reload rows) (served file service) =
    (file ≡ name) × (a.inside' ≡ Unused)
    × ServesFile a.shelf a.shelf' a.wire a.wire' a.out a.out' name choice (config_by base page reload rows) stop_after service
Does a (serve name base choice page stop_after reload rows) usage = ⊥
Does a (serve name base choice page stop_after reload rows) no_words = ⊥
Does a (serve name base choice page stop_after reload rows) (answered data_name asked answer) = ⊥
Does a (serve name base choice page stop_after reload rows) (made written) = ⊥
Does a (serve name base choice page stop_after reload rows) (counted asked result) = ⊥
Does a (make count asked_name) end = (a.wire' ≡ a.wire) × Makes a.shelf a.shelf' a.out a.out' a.inside' count asked_name end

-- the same of a run, where its words are a command or none
abbrev pub DoesOf : Around → Option Command → EndOfRun → Type 0
DoesOf a (Some command) end = (Does a command end) ⊎ ((end ≡ no_words) × IsIdle a)
DoesOf a None end = ((end ≡ usage) ⊎ (end ≡ no_words)) × IsIdle a

-- the shelf is not used by these words
abbrev pub IsWithoutShelf : Option Command → Type 0
IsWithoutShelf None = Unit {0}
IsWithoutShelf (Some (local name query_name choice page client seed fail_every)) = ⊥
IsWithoutShelf (Some (query url query_name client)) = ⊥
IsWithoutShelf (Some (federate several)) = ⊥
IsWithoutShelf (Some (serve name base choice page stop_after reload rows)) = ⊥
IsWithoutShelf (Some (make count None)) = Unit {0}
IsWithoutShelf (Some (make count (Some asked_name))) = ⊥

-- the output is not used by these words
abbrev pub IsWithoutOutput : Option Command → Type 0
IsWithoutOutput None = Unit {0}
IsWithoutOutput (Some command) = ⊥

-- the handed-in wire is not used by these words
abbrev pub IsWithoutWire : Option Command → Type 0
IsWithoutWire None = Unit {0}
IsWithoutWire (Some (local name query_name choice page client seed fail_every)) = Unit {0}
IsWithoutWire (Some (query url query_name client)) = ⊥
IsWithoutWire (Some (federate several)) = ⊥
IsWithoutWire (Some (serve name base choice page stop_after reload rows)) = ⊥
IsWithoutWire (Some (make count asked)) = Unit {0}
