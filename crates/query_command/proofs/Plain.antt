-- What a call for a query without groups says is said of the files of a command.
use Rattle.std.proofs.Common.{ℕ, ◌≡◌, ◌<◌, ◌^◌, [], ◌∷◌, true, List, Option, Result, Ok, Err, IfOk, IfErr, OnErr, IsErrOf, ap}
use Rattle.std.specs.List.{AllByRecursion}
use Rattle.tpf_base.specs.Addresses.{Address}
use Rattle.tpf_base.specs.Causes.{Rose}
use Rattle.tpf_base.specs.Links.{WireState}
use Rattle.tpf_base.specs.Outside.{ShelfState}
use Rattle.tpf_base.specs.Wrote.{SinkState}
use Rattle.bgp_core.specs.Queries.{IsValidPattern, QueryData}
use Rattle.request_plan.specs.Blocks.{IsBlockSize}
use Rattle.template_fill.specs.Answered.{AnsweredGivePages}
use Rattle.loop_wire.specs.Looped.{Looped}
use Rattle.fragment_server.specs.declared.server.FragmentServer.{FragmentServer}
use Rattle.plan_laws.specs.Fitting.{AreServable, IsAskable, PlansAreRead, StartsAreRead}
use Rattle.tpf_client.specs.declared.options.Options.{Options}
use Rattle.tpf_client.specs.declared.options.Report.{Report}
use Rattle.tpf_client.specs.declared.fault.ClientFault.{ClientFault}
use Rattle.tpf_client.specs.declared.fault.ClientFault.TheVariants as clients
use Rattle.tpf_client.specs.Calls.{most_asked, WritesResult, WritesPrefix}
use Rattle.tpf_client.specs.Ended.{WritesOverEnds}
use Rattle.tpf_client.specs.Ends.{ends_in_blocks}
use Rattle.tpf_client.specs.Honest.{WritesSolutions, WritesSolutionsFront}
use Rattle.tpf_client.specs.Offers.{publisher, offer_in_blocks}
use Rattle.tpf_client.specs.Plans.{OverHonest, RisesFew, PlanFits, MayStill}
use Rattle.tpf_client.specs.Requested.{AnswersPlan}
use Rattle.tpf_client.specs.Sinks.{LeavesSink}
use Rattle.tpf_client.specs.Sources.{world_sources}
use Rattle.tpf_client.specs.Still.{SucceedsStill}
use Rattle.data_files.specs.Data.{Files}
use Rattle.data_files.specs.Queries.{IsOfQueryFile}
use Rattle.data_files.specs.Kept.{KeepsSink, ReadsNamed}
use Rattle.data_servers.specs.Servers.{Starts, serving}
use Rattle.answer_faults.specs.declared.fault.AnswerFault.TheVariants as faults
use Rattle.query_command.specs.Answers.{AsksServer}
use Rattle.query_command.specs.Commands.{AsksFile}
use Rattle.query_command.specs.Files.{FailsByFile, ReadsLocally}
use Rattle.query_command.specs.Limits.{FilesAreServable, QueriesAreAskable}
use Rattle.query_command.specs.Loops.{LocalView, LoopsServer, LeavesHonest, WritesLooped, FailsLooped, WritesAnswer, WritesAnswerFront, local_config, wire_of}
use Rattle.query_command.specs.Plans.{offer_of, SendsPlan, BoundsRequests, EndsAsPlanned}
use Rattle.query_command.proofs.Complete.{asks_server, asks_failed, asks_file}
use Rattle.query_command.proofs.Locals.{local_answers, local_fault, local_honest, local_planned, local_ends, local_sent, local_requested, local_replied}

-- ---- over a handed-in wire

-- what the call promises
pub record CalledPlain (allows : List ℕ → ℕ → List ℕ → List ℕ → Type 0) (q : QueryData) (options : Options) (result : Result Report ClientFault) (old new : WireState) (out out' : SinkState) (start : Address) : Type 0 where
  pub whole : IfOk result (λ report. WritesResult q report.rows out.taken out'.taken)
  pub front : OnErr result (WritesPrefix q out.taken out'.taken)
  pub ended : WritesOverEnds allows (ends_in_blocks options.block q start) (world_sources options.block) q (start ∷ []) options (most_asked options q) result old new out out'
  pub headline : OverHonest allows start old (λ history config. IfOk result (λ report. WritesSolutions (offer_in_blocks options.block (publisher history config) q start) q report.version report.rows out.taken out'.taken))
  pub prefix : OverHonest allows start old (λ history config. OnErr result (WritesSolutionsFront (offer_in_blocks options.block (publisher history config) q start) q out.taken out'.taken))
  pub complete : OverHonest allows start old (λ history config. old.nature.lively ≡ true → (rise : ℕ) → RisesFew options rise old new → PlanFits (offer_in_blocks options.block (publisher history config) q start) options rise → (Rose out.faults out'.faults → ⊥) → IfErr result (MayStill (offer_in_blocks options.block (publisher history config) q start)))
  pub still : SucceedsStill allows options q start old new (Rose out.faults out'.faults) result
  pub sink : LeavesSink out out' result

module _ (shelf shelf' : ShelfState) (name : List ℕ) (allows : List ℕ → ℕ → List ℕ → List ℕ → Type 0) (start : Address) (options : Options) (wire wire' : WireState) (out out' : SinkState) (q : QueryData) (is_read : IsOfQueryFile shelf.told name q) where
  pub plain_ok : (report : Report) → CalledPlain allows q options (Ok report) wire wire' out out' start → ReadsNamed name shelf shelf' (FailsByFile {A = Report} (Ok report)) → AsksServer shelf shelf' allows wire wire' out out' name start options (Ok report)
  plain_ok report k named =
      let s = k.sink in
      asks_server shelf shelf' name allows start options wire wire' out out' (Ok report)
      (record { q = q; is_read = is_read; writes = record { whole = k.whole; acts = k.ended.acts; writes = k.ended.ok; headline = k.headline } })
      tt
      (λ short fine files is asked holds p version fits. tt)
      named
      (record { keeps = record { later = s.later; faultless = s.faultless; spared = λ fine. (s.spared fine).0 }; spared = λ fine. tt })

  pub plain_err : PlansAreRead → StartsAreRead → AnsweredGivePages → QueriesAreAskable → IsBlockSize options.block → AllByRecursion IsValidPattern q.patterns → (fault : ClientFault) → CalledPlain allows q options (Err fault) wire wire' out out' start
      → ReadsNamed name shelf shelf' (FailsByFile {A = Report} (Err (faults.Client fault))) → AsksServer shelf shelf' allows wire wire' out out' name start options (Err (faults.Client fault))
  plain_err plans starts gives askable sized valid fault k named =
      let s = k.sink in
      asks_failed shelf shelf' name allows start options wire wire' out out' plans starts gives askable sized fault
      (record {
        q = q;
        is_read = is_read;
        writes = record {
          front = k.front;
          acts = k.ended.acts;
          fails = k.ended.err;
          headline = k.prefix;
          sink = λ same. s.sink (ap Err same);
          complete = k.complete;
          still = k.still;
        };
      })
      valid
      named
      (record { keeps = record { later = s.later; faultless = s.faultless; spared = λ fine. (s.spared fine).0 }; spared = λ fine is. (s.spared fine).1 (ap Err is) })

-- ---- in the same process

-- what the call promises of the server and of the wire that it leaves
pub record CalledLocal (server : FragmentServer) (view : LocalView) (q : QueryData) (inside : Option (Looped FragmentServer)) (out out' : SinkState) (result : Result Report ClientFault) : Type 0 where
  pub answers : IfOk result (λ report. LoopsServer server view.seed view.fail_every inside (WritesLooped q view.options report out out'))
  pub cause : IfErr result (λ fault. LoopsServer server view.seed view.fail_every inside (FailsLooped q view.options fault out out'))
  pub answer : IfOk result (λ report. WritesAnswer (serving server).data_set q report.rows out.taken out'.taken)
  pub front : OnErr result (WritesAnswerFront (serving server).data_set q out.taken out'.taken)
  pub sent : LoopsServer server view.seed view.fail_every inside (λ old new. SendsPlan view.options (serving server).data_set (serving server).config q (wire_of new))
  pub requested : LoopsServer server view.seed view.fail_every inside (λ old new. BoundsRequests view.options (serving server).data_set (serving server).config q (wire_of new))
  pub replied : IfOk result (λ report. LoopsServer server view.seed view.fail_every inside (λ old new. AnswersPlan (offer_of view.options (serving server).data_set (serving server).config q) view.options report (wire_of old) (wire_of new)))
  pub ends : AreServable (serving server).data_set → AllByRecursion IsAskable q.patterns → view.options.budget < 2 ^ 63 → EndsAsPlanned view.fail_every view.options (serving server).data_set (serving server).config q result
  pub honest : LoopsServer server view.seed view.fail_every inside LeavesHonest
  pub output : KeepsSink out out'
  pub spared : out.faultless ≡ true → IsErrOf result clients.Sink → ⊥

module _ (shelf shelf' : ShelfState) (told : Option Files) (same : told ≡ shelf.told) (view : LocalView) (server : FragmentServer) (starts : Starts shelf.told view.name view.choice (local_config view.options view.page_size) (serving server)) (inside : Option (Looped FragmentServer)) (out out' : SinkState)
    (q : QueryData) (is_read : IsOfQueryFile told view.query q) (files_law : FilesAreServable) (query_law : QueriesAreAskable) (valid : AllByRecursion IsValidPattern q.patterns) where
  pub local_ok : (report : Report) → CalledLocal server view q inside out out' (Ok report) → ReadsLocally view.name view.query shelf shelf' (Ok report) → AsksFile shelf shelf' out out' inside view (Ok report)
  local_ok report k named =
      asks_file shelf shelf' out out' inside view (Ok report)
      (local_answers shelf.told told same view server starts inside out out' q is_read report k.answers k.answer)
      tt
      (local_sent shelf.told told same view server starts inside out out' q is_read k.sent)
      (local_requested shelf.told told same view server starts inside out out' q is_read k.requested)
      (local_replied shelf.told told same view server starts inside out out' q is_read report k.replied)
      (local_ends shelf.told told same view server starts inside out out' q is_read files_law query_law valid (Ok report) k.ends)
      (local_planned shelf.told told same view server starts inside out out' q is_read files_law query_law valid (Ok report) k.honest k.ends)
      (local_honest shelf.told view server starts inside k.honest)
      named
      (record { keeps = k.output; spared = λ fine. tt })

  pub local_err : (fault : ClientFault) → CalledLocal server view q inside out out' (Err fault) → ReadsLocally view.name view.query shelf shelf' (Err (faults.Client fault)) → AsksFile shelf shelf' out out' inside view (Err (faults.Client fault))
  local_err fault k named =
      asks_file shelf shelf' out out' inside view (Err (faults.Client fault))
      tt
      (local_fault shelf.told told same view server starts inside out out' q is_read fault k.cause k.front)
      (local_sent shelf.told told same view server starts inside out out' q is_read k.sent)
      (local_requested shelf.told told same view server starts inside out out' q is_read k.requested)
      tt
      (local_ends shelf.told told same view server starts inside out out' q is_read files_law query_law valid (Err fault) k.ends)
      (local_planned shelf.told told same view server starts inside out out' q is_read files_law query_law valid (Err fault) k.honest k.ends)
      (local_honest shelf.told view server starts inside k.honest)
      named
      (record { keeps = k.output; spared = λ fine same. k.spared fine (ap Err same) })
