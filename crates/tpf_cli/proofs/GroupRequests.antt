-- The requests that are told of a query with groups.
use Rattle.std.proofs.Common.{ℕ, ◌≡◌, ◌<◌, ◌^◌, inl, inr, List, length, codes, Option, Some, Result, Ok, Err, arith}
use Rattle.rdf_terms.specs.declared.term.Triple.{Triple}
use Rattle.tpf_base.specs.Wrote.{SinkState}
use Rattle.template_fill.specs.Metadata.{Config}
use Rattle.group_query.specs.Trees.{GroupData}
use Rattle.tpf_client.specs.declared.options.Report.{Report}
use Rattle.data_files.specs.Data.{served}
use Rattle.data_files.specs.Queries.{reads_groups}
use Rattle.data_files.proofs.Outcomes.{one_outcome, one_query}
use Rattle.data_servers.specs.Servers.{serving}
use Rattle.query_command.specs.Blocks.{grammar_of}
use Rattle.answer_faults.specs.declared.fault.AnswerFault.{AnswerFault}
use Rattle.query_command.specs.Groups.{FileAsked, Plain, Groups, group_plan_of}
use Rattle.query_command.specs.Loops.{LocalView, local_config}
use Rattle.query_command.specs.Plans.{CountsRequests}
use Rattle.command_words.specs.Commands.{Command}
use Rattle.command_endings.specs.Endings.{EndOfRun, answered, Says}
use Rattle.tpf_cli.specs.Ranges.{IsInRange}
use Rattle.tpf_cli.specs.Runs.{Around, DoesOf, wire_inside}
use Rattle.tpf_cli.specs.Promises.{TellsOfGroupPlan, TellsGroupRequestsOf}
use Rattle.tpf_cli.proofs.Answered.{answered_requests}
use Rattle.tpf_cli.proofs.Grouped.{no_groups}
use Rattle.command_endings.proofs.Statuses.{known_fault}
use Rattle.query_command.proofs.Locals.{same_data}
use Rattle.tpf_cli.proofs.Refused.{carried, same_group}

module _ (a : Around) where
  told_requests : (view : LocalView) (answer : Result Report AnswerFault) → view.options.budget < 2 ^ 63 → FileAsked a.shelf a.shelf' a.out a.out' (wire_inside a.inside') view answer → (data_name asked : List ℕ) (result : ℕ) (err err' : SinkState) → Says result (answered data_name asked answer) err err'
      → result ≡ 0 → TellsOfGroupPlan a view err err'
  told_requests view (Ok report) small (Plain h) data_name asked result err err' (inl s) zero_status = λ files is triples g serves holds. absurd (no_groups (grammar_of view.options) a.shelf.told view.query h.answers.0.q h.answers.0.is_read files is g holds)
  told_requests view (Ok report) small (Groups own h) data_name asked result err err' (inl s) zero_status = λ files is triples g serves holds.
      let l = h.ends small in
      let there = one_outcome files view.name view.choice (codes "localhost") (served (serving l.server).data_set) (served triples) (l.starts.data_set.tells files is) serves in
      let same = one_query (grammar_of view.options) files view.query (reads_groups own) (reads_groups g) (h.is_read.tells files is) holds in
      record {
        requests = report.requests;
        rows = report.rows;
        counts =
            carried (λ (ts : List Triple) (c : Config) (x : GroupData). CountsRequests view.fail_every view.options.retries (length (group_plan_of ts c x)) report.requests) (serving l.server).data_set triples (same_data (serving l.server).data_set triples there) (serving l.server).config
            (local_config view.options view.page_size) l.starts.config_is own g (same_group own g same) l.loops.says;
        told = s.1;
      }
  told_requests view (Ok report) small h data_name asked result err err' (inr s) zero_status = let eight = s.0 in absurd (omega (arith, eight, zero_status))
  told_requests view (Err fault) small h data_name asked result err err' (inl s) zero_status = let known = known_fault fault in let is = s.0 in absurd (omega (arith, known.0, is, zero_status))
  told_requests view (Err fault) small h data_name asked result err err' (inr s) zero_status = let eight = s.0 in absurd (omega (arith, eight, zero_status))

  pub run_group_requests : (command : Option Command) → ((c : Command) → command ≡ Some c → IsInRange c) → (end : EndOfRun) (result : ℕ) (err err' : SinkState) → DoesOf a command end → Says result end err err' → TellsGroupRequestsOf a command result err err'
  run_group_requests command ranged end result err err' h s = answered_requests a (TellsOfGroupPlan a) told_requests command ranged end result err err' h s
