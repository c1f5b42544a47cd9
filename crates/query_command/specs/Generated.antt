-- The query of generated data.
use Rattle.std.specs.Prelude.{ℕ, ◌≡◌, ◌≢◌, List, length, codes, Option, None}
use Rattle.rdf_terms.specs.declared.term.Triple.{Triple}
use Rattle.tpf_base.specs.Causes.{counted_by}
use Rattle.tpf_base.specs.Outside.{ShelfState}
use Rattle.tpf_base.specs.declared.usual.TheConstants.{USUAL_WINDOW, USUAL_LINKS, USUAL_RETRIES, USUAL_BUDGET, USUAL_BODY, USUAL_PAGE}
use Rattle.template_fill.specs.Metadata.{Config}
use Rattle.bgp_core.specs.Queries.{QueryData}
use Rattle.triple_table.specs.declared.choice.Choice.TheVariants.{DefaultGraph}
use Rattle.triple_table.specs.Chosen.{chosen}
use Rattle.triple_table.specs.Served.{IsServed}
use Rattle.loop_wire.specs.Looped.{Looped}
use Rattle.fragment_server.specs.declared.server.FragmentServer.{FragmentServer}
use Rattle.generated_data.specs.Generated.{generated}
use Rattle.data_servers.specs.Starts.{StartsGenerated}
use Rattle.tpf_client.specs.declared.options.Options.{Options}
use Rattle.tpf_client.specs.declared.options.Report.{Report}
use Rattle.tpf_client.specs.declared.fault.ClientFault.{ClientFault}
use Rattle.tpf_client.specs.declared.fault.ClientFault.TheVariants as client_faults
use Rattle.tpf_client.specs.Calls.{solutions_of}
use Rattle.data_files.specs.declared.fault.DataFault.TheVariants as data_faults
use Rattle.data_files.specs.declared.query.Grammar.TheVariants as grammars
use Rattle.data_files.specs.Data.{Files}
use Rattle.data_files.specs.Queries.{IsOfQueryFile}
use Rattle.data_files.specs.Causes.{QueryCause}
use Rattle.data_servers.specs.Servers.{serving}
use Rattle.answer_faults.specs.declared.fault.AnswerFault.{AnswerFault}
use Rattle.answer_faults.specs.declared.fault.AnswerFault.TheVariants as faults
use Rattle.answer_faults.specs.declared.fault.Counts.{Counts}
use Rattle.query_command.specs.Answers.{WritesOver, FailsOver, Answers, AnswersSome}
use Rattle.query_command.specs.Loops.{LoopsServer, local_base, local_config, allows_of, wire_of}

-- what bounds a call where no option is given
abbrev pub usual_options : Options
usual_options = record { window = USUAL_WINDOW; block = 1; links = USUAL_LINKS; retries = USUAL_RETRIES; budget = USUAL_BUDGET; max_body = USUAL_BODY }

-- the configuration of the server that is asked then
abbrev pub usual_config : Config
usual_config = local_config usual_options USUAL_PAGE

-- ---- the numbers

-- the triples of the data of so many persons, each counted once, and the solutions of a query over them
pub record CountsQuery (persons : ℕ) (q : QueryData) (counts : Counts) : Type 0 where
  pub triples : List Triple
  pub is_served : IsServed (codes "localhost") (chosen DefaultGraph (generated persons)) triples
  pub triples_are : counts.triples ≡ length triples
  pub rows_are : counts.rows ≡ counted_by (length (solutions_of triples q)) 0

-- the same of the query of a file
pub record CountsFile (told : Option Files) (persons : ℕ) (query_name : List ℕ) (counts : Counts) : Type 0 where
  pub q : QueryData
  pub is_read : IsOfQueryFile told query_name q
  pub counts_are : CountsQuery persons q counts

-- ---- the wire inside

-- A wire was made for a server of the data of so many persons, on pages of USUAL_PAGE (100) triples, of the seed 0, on which no dial fails; and this is said of it as it was made and as it was left.
pub record LoopsGenerated (persons : ℕ) (inside : Option (Looped FragmentServer)) (Says : Looped FragmentServer → Looped FragmentServer → Type 0) : Type 0 where
  pub server : FragmentServer
  pub starts : StartsGenerated persons usual_config (serving server)
  pub loops : LoopsServer server 0 0 inside Says

-- a query was asked over a wire to the end, with so many rows; what was written is not told
abbrev pub AsksOver : QueryData → ℕ → Looped FragmentServer → Looped FragmentServer → Type 0
AsksOver q rows old new = (report : Report) × (report.rows ≡ rows) × WritesOver (allows_of old) q local_base usual_options report (wire_of old) (wire_of new) None None

abbrev pub FailsOn : QueryData → ClientFault → Looped FragmentServer → Looped FragmentServer → Type 0
FailsOn q fault old new = FailsOver (allows_of old) q local_base usual_options fault (wire_of old) (wire_of new) 0 0 None None

-- the same of the query of a file
abbrev pub AsksFileOver : Option Files → List ℕ → ℕ → Looped FragmentServer → Looped FragmentServer → Type 0
AsksFileOver told query_name rows old new = (report : Report) × (report.rows ≡ rows) × Answers told query_name (allows_of old) local_base usual_options report (wire_of old) (wire_of new) None None

abbrev pub FailsFileOver : Option Files → List ℕ → ClientFault → Looped FragmentServer → Looped FragmentServer → Type 0
FailsFileOver told query_name fault old new = AnswersSome told query_name (allows_of old) local_base usual_options fault (wire_of old) (wire_of new) 0 0 None None

-- ---- the answer

-- the query of the file was asked of the data over that wire, and these are the numbers
abbrev pub GeneratedAnswers : Option Files → ℕ → List ℕ → Option (Looped FragmentServer) → Counts → Type 0
GeneratedAnswers told persons query_name inside counts = CountsFile told persons query_name counts × LoopsGenerated persons inside (AsksFileOver told query_name counts.rows)

-- why there are none: the data have no fault, and the result is written nowhere that fails
abbrev pub GeneratedCause : ShelfState → ShelfState → ℕ → List ℕ → Option (Looped FragmentServer) → AnswerFault → Type 0
GeneratedCause shelf shelf' persons query_name inside (faults.Data fault) = (fault ≡ data_faults.OutOfMemory) × (inside ≡ None)
GeneratedCause shelf shelf' persons query_name inside (faults.Query fault) = QueryCause grammars.Groups shelf shelf' query_name fault × (inside ≡ None)
GeneratedCause shelf shelf' persons query_name inside (faults.Client fault) =
    (fault ≢ client_faults.Sink) × LoopsGenerated persons inside (FailsFileOver shelf.told query_name fault)
