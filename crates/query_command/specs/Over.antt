-- What a call for a query with groups came to over a wire that was made for it. It serves the commands alone.
use Rattle.std.specs.Prelude.{ℕ, ◌≡◌, ◌≢◌, ◌<◌, ◌^◌, true, Option, Result, IfOk, IfErr, OnErr, IsErrOf}
use Rattle.std.specs.List.{AllByRecursion}
use Rattle.tpf_base.specs.Wrote.{SinkState}
use Rattle.bgp_core.specs.Queries.{IsValidPattern}
use Rattle.group_query.specs.declared.step.Step.{Step}
use Rattle.group_query.specs.declared.step.Step.TheVariants as steps
use Rattle.group_query.specs.Trees.{GroupData, group_tree, blocks_of}
use Rattle.plan_laws.specs.Fitting.{AreServable, IsAskable}
use Rattle.loop_wire.specs.Looped.{Looped}
use Rattle.fragment_server.specs.declared.server.FragmentServer.{FragmentServer}
use Rattle.tpf_client.specs.declared.options.Options.{Options}
use Rattle.tpf_client.specs.declared.options.Report.{Report}
use Rattle.tpf_client.specs.declared.fault.ClientFault.{ClientFault}
use Rattle.tpf_client.specs.declared.fault.ClientFault.TheVariants as client_faults
use Rattle.tpf_client.specs.Bounds.{SuitsCalls}
use Rattle.data_files.specs.Kept.{KeepsSink}
use Rattle.data_servers.specs.Servers.{serving}
use Rattle.answer_faults.specs.declared.fault.Counts.{Counts}
use Rattle.query_command.specs.declared.local_query.OverWire.{OverWire}
use Rattle.query_command.specs.Loops.{LoopsServer, LeavesHonest, local_base}
use Rattle.query_command.specs.Generated.{LoopsGenerated, usual_options}
use Rattle.query_command.specs.Groups.{WritesGroupAnswer, WritesGroupAnswerFront, WritesGroupLooped, FailsGroupLooped, EndsGroupOver, CountsGroupOver, AsksGroupPlan, AnswersGroupPlan, AnswersGroupRows, CountsGroup, AsksGroupOver, FailsGroupOn}

-- the fixed parts of a block are valid terms
abbrev pub IsValidStep : Step → Type 0
IsValidStep (steps.Block ps) = AllByRecursion IsValidPattern ps
IsValidStep steps.Empty = Unit {0}
IsValidStep steps.Join = Unit {0}
IsValidStep steps.Optional = Unit {0}
IsValidStep steps.Union = Unit {0}

-- those of all blocks are
abbrev pub AreValidBlocks : GroupData → Type 0
AreValidBlocks g = AllByRecursion (AllByRecursion IsValidPattern) (blocks_of (group_tree g))

-- the patterns of all blocks are within the limits under which plans are read
abbrev pub AreAskableBlocks : GroupData → Type 0
AreAskableBlocks g = AllByRecursion (AllByRecursion IsAskable) (blocks_of (group_tree g))

-- What is asked over a wire that is made for a server may be asked of it: from its base, on which version 1 stands, within the bounds that calls need.
pub record MayAsk (over : OverWire) (server : FragmentServer) : Type 0 where
  pub start : over.start.now ≡ local_base
  pub first : (serving server).version ≡ 1
  pub base : (serving server).config.base ≡ local_base
  pub bounds : SuitsCalls over.options

-- It is asked as where no option is given: over a wire of the seed 0, on which no dial fails.
pub record IsUsual (over : OverWire) : Type 0 where
  pub options : over.options ≡ usual_options
  pub seed : over.seed ≡ 0
  pub fail_every : over.fail_every ≡ 0

-- The query was asked over a wire that was made for the server, and the text of its answers over the server's data written, or a front of it; the wire is left.
pub record AsksGroups (server : FragmentServer) (seed fail_every : ℕ) (options : Options) (g : GroupData) (result : Result Report ClientFault) (inside : Option (Looped FragmentServer)) (out out' : SinkState) : Type 0 where
  pub valid : AreValidBlocks g
  pub answers : IfOk result (λ report. LoopsServer server seed fail_every inside (WritesGroupLooped g options report out out'))
  pub cause : IfErr result (λ fault. LoopsServer server seed fail_every inside (FailsGroupLooped g options fault out out'))
  pub answer : IfOk result (λ report. WritesGroupAnswer (serving server).data_set g report.rows out.taken out'.taken)
  pub front : OnErr result (WritesGroupAnswerFront (serving server).data_set g out.taken out'.taken)
  pub asked : LoopsServer server seed fail_every inside (AsksGroupPlan options g)
  pub replied : IfOk result (λ report. LoopsServer server seed fail_every inside (AnswersGroupPlan options g report))
  pub counted : options.budget < 2 ^ 63 → IfOk result (λ report. LoopsServer server seed fail_every inside (CountsGroupOver fail_every options g report))
  pub ends : AreServable (serving server).data_set → AreAskableBlocks g → options.budget < 2 ^ 63 → IfErr result (λ fault. LoopsServer server seed fail_every inside (EndsGroupOver fail_every options g fault))
  pub honest : LoopsServer server seed fail_every inside LeavesHonest
  pub output : KeepsSink out out'
  pub spared : out.faultless ≡ true → IsErrOf result client_faults.Sink → ⊥

-- The same of a server of generated data, where the result is counted.
pub record AsksGeneratedOver (server : FragmentServer) (persons : ℕ) (g : GroupData) (result : Result Counts ClientFault) (inside : Option (Looped FragmentServer)) : Type 0 where
  pub valid : AreValidBlocks g
  pub counts : IfOk result (CountsGroup persons g)
  pub answers : IfOk result (λ counts. LoopsGenerated persons inside (AsksGroupOver g counts.rows))
  pub cause : IfErr result (λ fault. (fault ≢ client_faults.Sink) × LoopsGenerated persons inside (FailsGroupOn g fault))
  pub asked : LoopsGenerated persons inside (AsksGroupPlan usual_options g)
  pub replied : IfOk result (λ counts. LoopsGenerated persons inside (AnswersGroupRows g counts.rows))
  pub ends : AreServable (serving server).data_set → AreAskableBlocks g → IfErr result (λ fault. LoopsGenerated persons inside (EndsGroupOver 0 usual_options g fault))
  pub honest : LoopsServer server 0 0 inside LeavesHonest
