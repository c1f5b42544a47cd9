-- The wire in one process to the server of a file.
use Rattle.std.specs.Prelude.{ℕ, ◌≡◌, ◌<◌, ◌^◌, Bool, List, [], ◌∷◌, length, codes, Option, None, Some, Result, Ok, Err}
use Rattle.std.specs.Io.KnownBytes.{Appends}
use Rattle.std.specs.List.Sorted.{IsPermutation}
use Rattle.rand_pcg.specs.Pcg.{multiplier_64}
use Rattle.rand_pcg.specs.Lcg.{started, increment_of}
use Rattle.rdf_terms.specs.declared.term.Triple.{Triple}
use Rattle.tpf_base.specs.Addresses.{Address}
use Rattle.tpf_base.specs.Causes.{counted_by}
use Rattle.tpf_base.specs.Links.{WireState}
use Rattle.tpf_base.specs.Outside.{ShelfState}
use Rattle.tpf_base.specs.Wrote.{SinkState, AppendsPrefix}
use Rattle.bgp_core.specs.Queries.{QueryData}
use Rattle.bgp_core.specs.Solutions.{Places}
use Rattle.result_json.specs.Results.{result_text}
use Rattle.tpf_base.specs.declared.failing.Failing.TheVariants.{Dials}
use Rattle.template_fill.specs.Metadata.{Config}
use Rattle.template_fill.specs.Bodies.{version_of}
use Rattle.template_fill.specs.Configurations.{IsConfig, IsHistory}
use Rattle.connections.specs.Versions as numbered
use Rattle.triple_table.specs.declared.choice.Choice.{Choice}
use Rattle.loop_wire.specs.Looped.{Looped, new_wire, state_of}
use Rattle.fragment_server.specs.declared.server.FragmentServer.{FragmentServer}
use Rattle.fragment_server.specs.Failing.{failing_response}
use Rattle.tpf_client.specs.declared.options.Options.{Options}
use Rattle.tpf_client.specs.declared.options.Report.{Report}
use Rattle.tpf_client.specs.declared.fault.ClientFault.{ClientFault}
use Rattle.tpf_client.specs.Calls.{solutions_of}
use Rattle.tpf_client.specs.Honest.{IsHonestWire}
use Rattle.data_files.specs.Data.{Files, IsOfFile, Outcome, served}
use Rattle.data_files.specs.Queries.{IsOfQueryFile}
use Rattle.data_files.specs.Causes.{DataCause, QueryCause, Gives}
use Rattle.data_servers.specs.Servers.{Starts, serving}
use Rattle.answer_faults.specs.declared.fault.AnswerFault.{AnswerFault}
use Rattle.answer_faults.specs.declared.fault.AnswerFault.TheVariants as faults
use Rattle.query_command.specs.declared.local_query.LocalQuery as declared_local
use Rattle.query_command.specs.Blocks.{in_blocks, grammar_of}
use Rattle.query_command.specs.Answers.{WritesOver, FailsOver, Answers, AnswersSome}

-- what is asked of a file in the same process, without where its names lie in memory
pub record LocalView : Type 0 where
  pub name : List ℕ
  pub query : List ℕ
  pub choice : Choice
  pub page_size : ℕ
  pub options : Options
  pub seed : ℕ
  pub fail_every : ℕ

abbrev pub local_view : declared_local.LocalQuery → LocalView
local_view local = record { name = local.name.now; query = local.query.now; choice = local.choice.now; page_size = local.page_size; options = local.options; seed = local.seed; fail_every = local.fail_every }

-- http://localhost/data
abbrev pub local_base : Address
local_base = record { host = codes "localhost"; port = 80; path = codes "/data"; query = None }

abbrev pub config_of : ℕ → Bool → Config
config_of page_size rows = record { base = local_base; page_size = page_size; reload = None; rows = rows }

-- of a server that reads the rows that its client sends
abbrev pub local_config : Options → ℕ → Config
local_config options page_size = config_of page_size (in_blocks options)

-- what is owed to what was sent to a server: its response, a reload request being answered as one that failed
abbrev pub owes : FragmentServer → List ℕ → List ℕ
owes server = failing_response (serving server)

abbrev pub allows_of : Looped FragmentServer → List ℕ → ℕ → List ℕ → List ℕ → Type 0
allows_of wire host port sent owed = owed ≡ owes wire.server sent

abbrev pub wire_of : Looped FragmentServer → WireState
wire_of wire = state_of (owes wire.server) wire

-- a wire to this server that has given no link: of this seed, on which each so many-th dial fails
abbrev pub begun : FragmentServer → ℕ → ℕ → Looped FragmentServer
begun server seed fail_every = new_wire server (started 64 multiplier_64 seed (increment_of 64 54)) (Dials fail_every)

-- ---- honesty

-- The law: a wire in one process answers at every address as its server does, over each history of as many data sets as the number of the version that is served, of which the last is the one that is served. So it is however often it was called.
abbrev pub WiresAreHonest : Type 0
WiresAreHonest = (wire : Looped FragmentServer) (address : Address) (history : List (List Triple)) → numbered.IsHistory history (serving wire.server) → IsHistory history → IsConfig (serving wire.server).config
    → ((version : ℕ) → length (version_of history version) < 2 ^ 64) → IsHonestWire (allows_of wire) address history (serving wire.server).config (wire_of wire)

-- a wire to a server of version 1 was left so that it answers at every address as the server does with which it was made, over the one data set of that
abbrev pub LeavesHonest : Looped FragmentServer → Looped FragmentServer → Type 0
LeavesHonest old new = (address : Address) → IsHonestWire (allows_of new) address ((serving old.server).data_set ∷ []) (serving old.server).config (wire_of new)

-- ---- the answer

-- the text of some order of the query's solutions over the triples was written whole, of so many rows
pub record WritesAnswer (triples : List Triple) (q : QueryData) (n : ℕ) (taken taken' : Option (List ℕ)) : Type 0 where
  pub rows : List Places
  pub rows_are : IsPermutation (solutions_of triples q) rows
  pub text : Appends taken taken' (result_text q rows)
  pub count : n ≡ counted_by (length rows) 0

-- a front of such a text was written
pub record WritesAnswerFront (triples : List Triple) (q : QueryData) (taken taken' : Option (List ℕ)) : Type 0 where
  pub rows : List Places
  pub rows_are : IsPermutation (solutions_of triples q) rows
  pub text : AppendsPrefix taken taken' (result_text q rows)

-- both files were read, and the answer was written: the triples are those served of the file of data, the query is that of the other file
pub record AnswersFiles (told : Option Files) (name query_name : List ℕ) (choice : Choice) (n : ℕ) (taken taken' : Option (List ℕ)) : Type 0 where
  pub triples : List Triple
  pub is_served : IsOfFile told name choice (codes "localhost") triples
  pub q : QueryData
  pub is_read : IsOfQueryFile told query_name q
  pub writes : WritesAnswer triples q n taken taken'

-- both files were read, and a front of the answer was written
pub record AnswersFilesFront (told : Option Files) (name query_name : List ℕ) (choice : Choice) (taken taken' : Option (List ℕ)) : Type 0 where
  pub triples : List Triple
  pub is_served : IsOfFile told name choice (codes "localhost") triples
  pub q : QueryData
  pub is_read : IsOfQueryFile told query_name q
  pub writes : WritesAnswerFront triples q taken taken'

-- ---- the wire inside

-- A wire was made for a server, and this is said of it as it was made and as it was left.
pub record LoopsServer (server : FragmentServer) (seed fail_every : ℕ) (inside : Option (Looped FragmentServer)) (Says : Looped FragmentServer → Looped FragmentServer → Type 0) : Type 0 where
  pub after : Looped FragmentServer
  pub is_inside : inside ≡ Some after
  pub says : Says (begun server seed fail_every) after

-- the same of the server of the file
pub record LoopsFile (told : Option Files) (local : LocalView) (inside : Option (Looped FragmentServer)) (Says : Looped FragmentServer → Looped FragmentServer → Type 0) : Type 0 where
  pub server : FragmentServer
  pub starts : Starts told local.name local.choice (local_config local.options local.page_size) (serving server)
  pub loops : LoopsServer server local.seed local.fail_every inside Says

-- over a wire that was made, the result of a query was written, or a front of it
abbrev pub WritesLooped : QueryData → Options → Report → SinkState → SinkState → Looped FragmentServer → Looped FragmentServer → Type 0
WritesLooped q options report out out' old new = WritesOver (allows_of old) q local_base options report (wire_of old) (wire_of new) out.taken out'.taken

abbrev pub FailsLooped : QueryData → Options → ClientFault → SinkState → SinkState → Looped FragmentServer → Looped FragmentServer → Type 0
FailsLooped q options fault out out' old new =
    FailsOver (allows_of old) q local_base options fault (wire_of old) (wire_of new) out.faults out'.faults out.taken out'.taken

-- the query was asked over that wire, and the text of its result written
abbrev pub LocalAnswers : Option Files → LocalView → Option (Looped FragmentServer) → Report → SinkState → SinkState → Type 0
LocalAnswers told local inside report out out' =
    AnswersFiles told local.name local.query local.choice report.rows out.taken out'.taken
    × LoopsFile told local inside (λ old new. Answers told local.query (allows_of old) local_base local.options report (wire_of old) (wire_of new) out.taken out'.taken)

-- the data are served
abbrev pub IsDataRead : Option Files → List ℕ → Choice → Type 0
IsDataRead told name choice = (triples : List Triple) × IsOfFile told name choice (codes "localhost") triples

-- why there is no whole answer; where a file is refused the output is as before, and no wire was made
abbrev pub LocalCause : ShelfState → ShelfState → LocalView → Option (Looped FragmentServer) → SinkState → SinkState → AnswerFault → Type 0
LocalCause shelf shelf' local inside out out' (faults.Data fault) =
    DataCause shelf shelf' local.name local.choice (codes "localhost") fault × (out' ≡ out) × (inside ≡ None)
LocalCause shelf shelf' local inside out out' (faults.Query fault) =
    QueryCause (grammar_of local.options) shelf shelf' local.query fault × IsDataRead shelf.told local.name local.choice × (out' ≡ out) × (inside ≡ None)
LocalCause shelf shelf' local inside out out' (faults.Client fault) =
    AnswersFilesFront shelf.told local.name local.query local.choice out.taken out'.taken
    × LoopsFile shelf.told local inside (λ old new. AnswersSome shelf.told local.query (allows_of old) local_base local.options fault (wire_of old) (wire_of new) out.faults out'.faults out.taken out'.taken)

-- the data are served
abbrev pub IsServing : Outcome → Type 0
IsServing outcome = (triples : List Triple) × (outcome ≡ served triples)

-- what the file of data holds is answered by itself, or by want of memory
abbrev pub GivesData : Outcome → Result Report AnswerFault → Type 0
GivesData outcome (Ok report) = IsServing outcome
GivesData outcome (Err (faults.Data fault)) = Gives outcome (Err fault)
GivesData outcome (Err (faults.Query fault)) = IsServing outcome
GivesData outcome (Err (faults.Client fault)) = IsServing outcome
