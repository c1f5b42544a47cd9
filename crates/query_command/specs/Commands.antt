-- What the queries through a server in the same process came to, and what they left.
use Rattle.std.specs.Prelude.{ℕ, ◌<◌, ◌^◌, List, codes, Option, Result, IfOk, IfErr}
use Rattle.tpf_base.specs.Causes.{Rose}
use Rattle.tpf_base.specs.Outside.{ShelfState}
use Rattle.tpf_base.specs.Wrote.{SinkState}
use Rattle.loop_wire.specs.Looped.{Looped}
use Rattle.fragment_server.specs.declared.server.FragmentServer.{FragmentServer}
use Rattle.tpf_client.specs.declared.options.Report.{Report}
use Rattle.data_files.specs.declared.query.Grammar.TheVariants as grammars
use Rattle.data_files.specs.Kept.{ReadsNamed}
use Rattle.data_files.specs.Causes.{DataDecides, QueryDecides}
use Rattle.answer_faults.specs.declared.fault.AnswerFault.{AnswerFault}
use Rattle.answer_faults.specs.declared.fault.Counts.{Counts}
use Rattle.query_command.specs.Files.{FailsByFile, ReadsLocally, KeepsOutput}
use Rattle.query_command.specs.Blocks.{grammar_of}
use Rattle.query_command.specs.Answers.{GivesAnswer, IsWanting}
use Rattle.query_command.specs.Loops.{LocalView, LocalAnswers, LocalCause, GivesData}
use Rattle.query_command.specs.Generated.{GeneratedAnswers, GeneratedCause, usual_options, usual_config}
use Rattle.query_command.specs.Plans.{SendsInside, RequestsInside, RepliesGenerated, EndsCounted, OfGenerated, PlanIsWithin, SendsLocally, RequestsLocally, RepliesLocally, EndsByPlan, SucceedsByPlan, EndsFile, EndsGenerated, HonestFile, HonestGenerated}

-- The query of a file, asked of a file of data.
pub record AsksFile (shelf shelf' : ShelfState) (out out' : SinkState) (inside : Option (Looped FragmentServer)) (local : LocalView) (result : Result Report AnswerFault) : Type 0 where
  pub answers : IfOk result (λ report. LocalAnswers shelf.told local inside report out out')
  pub cause : IfErr result (LocalCause shelf shelf' local inside out out')
  pub data_exact : DataDecides shelf shelf' local.name local.choice (codes "localhost") (λ outcome. GivesData outcome result)
  pub query_exact : QueryDecides (grammar_of local.options) shelf shelf' local.query (λ outcome. GivesAnswer outcome result)
  pub sent : SendsLocally shelf.told local inside
  pub requested : RequestsLocally shelf.told local inside
  pub replied : RepliesLocally shelf.told local inside result
  pub ends : EndsByPlan shelf.told local result
  pub planned : local.options.budget < 2 ^ 63 → EndsFile shelf.told local inside result
  pub honest : HonestFile shelf.told local inside result
  pub complete : ¬ (Rose shelf.faults shelf'.faults) → ¬ (Rose out.faults out'.faults) → SucceedsByPlan shelf.told local result
  pub reads : ReadsLocally local.name local.query shelf shelf' result
  pub output : KeepsOutput out out' result

-- The query of a file, asked of the generated data of so many persons.
pub record AsksGenerated (shelf shelf' : ShelfState) (inside : Option (Looped FragmentServer)) (persons : ℕ) (name : List ℕ) (result : Result Counts AnswerFault) : Type 0 where
  pub answers : IfOk result (GeneratedAnswers shelf.told persons name inside)
  pub cause : IfErr result (GeneratedCause shelf shelf' persons name inside)
  pub exact : QueryDecides grammars.Groups shelf shelf' name (λ outcome. GivesAnswer outcome result)
  pub sent : OfGenerated shelf.told persons name (λ triples q. SendsInside usual_options inside triples usual_config q)
  pub requested : OfGenerated shelf.told persons name (λ triples q. RequestsInside usual_options inside triples usual_config q)
  pub replied : RepliesGenerated shelf.told persons name inside result
  pub ends : OfGenerated shelf.told persons name (λ triples q. EndsCounted usual_options triples usual_config q result)
  pub planned : EndsGenerated shelf.told persons name inside result
  pub honest : HonestGenerated persons inside result
  pub complete : ¬ (Rose shelf.faults shelf'.faults)
      → OfGenerated shelf.told persons name (λ triples q. PlanIsWithin 0 usual_options triples usual_config q → IfErr result IsWanting)
  pub reads : ReadsNamed name shelf shelf' (FailsByFile result)
