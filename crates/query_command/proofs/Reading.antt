-- What the files hold decides how a query of them ends, where the shelf does not fail.
use Rattle.std.proofs.Common.{ℕ, ◌≡◌, List, Option, Result, Ok, Err, IfOk, IfErr, codes}
use Rattle.tpf_base.specs.Addresses.{Address}
use Rattle.tpf_base.specs.Outside.{ShelfState}
use Rattle.tpf_base.specs.Wrote.{SinkState}
use Rattle.tpf_base.specs.Links.{WireState}
use Rattle.tpf_client.specs.declared.options.Options.{Options}
use Rattle.tpf_client.specs.declared.options.Report.{Report}
use Rattle.bgp_core.specs.Queries.{QueryData}
use Rattle.loop_wire.specs.Looped.{Looped}
use Rattle.fragment_server.specs.declared.server.FragmentServer.{FragmentServer}
use Rattle.data_files.specs.Data.{served}
use Rattle.data_files.specs.Queries.{reads}
use Rattle.data_files.specs.Causes.{DataDecides, QueryDecides}
use Rattle.data_files.proofs.Outcomes.{one_outcome, one_query}
use Rattle.data_files.proofs.Causes.{gives, gives_query}
use Rattle.answer_faults.specs.declared.fault.AnswerFault.{AnswerFault}
use Rattle.answer_faults.specs.declared.fault.AnswerFault.TheVariants as faults
use Rattle.query_command.specs.Blocks.{grammar_of}
use Rattle.query_command.specs.Answers.{Answers, AskCause, GivesAnswer}
use Rattle.query_command.specs.Loops.{LocalView, LocalAnswers, LocalCause, GivesData}

pub same_query : (one other : QueryData) → reads one ≡ reads other → one ≡ other
same_query one other e = cc

module _ (shelf shelf' : ShelfState) (name : List ℕ) (allows : List ℕ → ℕ → List ℕ → List ℕ → Type 0) (start : Address) (options : Options) (wire wire' : WireState) (out out' : SinkState) where
  pub gives_answer : (result : Result Report AnswerFault) → IfOk result (λ report. Answers shelf.told name allows start options report wire wire' out.taken out'.taken)
      → IfErr result (AskCause shelf shelf' name allows start options wire wire' out out') → QueryDecides (grammar_of options) shelf shelf' name (λ outcome. GivesAnswer outcome result)
  gives_answer (Ok report) a e quiet = λ files is outcome o. (a.q, one_query (grammar_of options) files name outcome (reads a.q) o (a.is_read.tells files is))
  gives_answer (Err (faults.Data fault)) a e quiet = absurd e
  gives_answer (Err (faults.Query fault)) a e quiet = gives_query shelf shelf' name (grammar_of options) (Err fault) tt e.0 quiet
  gives_answer (Err (faults.Client fault)) a e quiet = λ files is outcome o. (e.q, one_query (grammar_of options) files name outcome (reads e.q) o (e.is_read.tells files is))

module _ (shelf shelf' : ShelfState) (view : LocalView) (inside : Option (Looped FragmentServer)) (out out' : SinkState) where
  pub gives_data : (result : Result Report AnswerFault) → IfOk result (λ report. LocalAnswers shelf.told view inside report out out') → IfErr result (LocalCause shelf shelf' view inside out out')
      → DataDecides shelf shelf' view.name view.choice (codes "localhost") (λ outcome. GivesData outcome result)
  gives_data (Ok report) a e quiet = λ files is outcome o. (a.0.triples, one_outcome files view.name view.choice (codes "localhost") outcome (served a.0.triples) o (a.0.is_served.tells files is))
  gives_data (Err (faults.Data fault)) a e quiet = gives shelf shelf' view.name view.choice (codes "localhost") (Err fault) tt e.0 quiet
  gives_data (Err (faults.Query fault)) a e quiet = λ files is outcome o. (e.1.0, one_outcome files view.name view.choice (codes "localhost") outcome (served e.1.0) o (e.1.1.tells files is))
  gives_data (Err (faults.Client fault)) a e quiet = λ files is outcome o. (e.0.triples, one_outcome files view.name view.choice (codes "localhost") outcome (served e.0.triples) o (e.0.is_served.tells files is))

  pub gives_query_of : (result : Result Report AnswerFault) → IfOk result (λ report. LocalAnswers shelf.told view inside report out out') → IfErr result (LocalCause shelf shelf' view inside out out')
      → QueryDecides (grammar_of view.options) shelf shelf' view.query (λ outcome. GivesAnswer outcome result)
  gives_query_of (Ok report) a e quiet = λ files is outcome o. (a.0.q, one_query (grammar_of view.options) files view.query outcome (reads a.0.q) o (a.0.is_read.tells files is))
  gives_query_of (Err (faults.Data fault)) a e quiet = λ files is outcome o. tt
  gives_query_of (Err (faults.Query fault)) a e quiet = gives_query shelf shelf' view.query (grammar_of view.options) (Err fault) tt e.0 quiet
  gives_query_of (Err (faults.Client fault)) a e quiet = λ files is outcome o. (e.0.q, one_query (grammar_of view.options) files view.query outcome (reads e.0.q) o (e.0.is_read.tells files is))
