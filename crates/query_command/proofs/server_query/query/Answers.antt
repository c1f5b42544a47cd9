-- What a call over the wire wrote is said of the file of its query.
use Rattle.std.proofs.Common.{Result, Ok, Err, refl, ap, subst}
use Rattle.list_laws.proofs.Results.{ok_not_err, err_same}
use Rattle.data_files.specs.declared.query.Grammar.{Grammar}
use Rattle.data_files.specs.Causes.{QueryCause}
use Rattle.data_files.specs.Queries.{IsOfGroupFile}
use Rattle.data_files.specs.KeptLaws.{reads_as, sink_none}
use Rattle.tpf_client.specs.declared.options.Report.{Report}
use Rattle.tpf_client.specs.declared.fault.ClientFault.{ClientFault}
use Rattle.answer_faults.specs.declared.fault.AnswerFault.{AnswerFault}
use Rattle.answer_faults.specs.declared.fault.AnswerFault.TheVariants as faults
use Rattle.query_command.specs.Groups as sums
use Rattle.query_command.proofs.Answered.{by_called}
use Rattle.query_command.proofs.Complete.{asks_server}
use Rattle.query_command.proofs.Locals.{valid_read}
use Rattle.query_command.proofs.GroupLooping.{Called}
use Rattle.query_command.proofs.Plain.{CalledPlain, plain_ok, plain_err}
use Rattle.query_command.proofs.GroupFiles.{plain_file, group_file, server_ok, server_err}
use Rattle.query_command.proofs.server_query.query.Goals as goal

pub returns-in-Err-clause-asks : goal.returns-in-Err-clause-asks
returns-in-Err-clause-asks g c =
    sums.Plain (asks_server _ _ c.args.name.now _ c.args.start.now c.args.options.now _ _ _ _ (Err (faults.Query c.in-Err.fault)) tt
    (subst (λ (grammar : Grammar). QueryCause grammar (g.F.Shelf.state c.args.shelf.now) (g.F.Shelf.state c.read_query.new.shelf) c.args.name.now c.in-Err.fault) c.grammar_of.ensures c.in-Err.ensures.err, refl, refl)
    (λ short fine files is q holds p version fits. tt)
    (reads_as _ _ _ _ _ err_same (ap Err) c.in-Err.ensures.reads)
    (record { keeps = sink_none _; spared = λ fine. tt }))

pub returns-in-Plain-clause-asks : goal.returns-in-Plain-clause-asks
returns-in-Plain-clause-asks g c =
    let q = c.in-Plain.query in
    let read = plain_file _ _ _ c.in-Ok.query q c.in-Plain.is c.in-Ok.ensures.ok in
    let e = c.query.ensures in
    by_called (λ (came : Result Report ClientFault). CalledPlain (g.W.Wire.allows c.args.wire.now) q c.args.options.now came (g.W.Wire.state c.args.wire.now) (g.W.Wire.state c.query.new.wire) (g.K.Sink.state c.args.out.now) (g.K.Sink.state c.query.new.out) c.args.start.now)
    (λ (result : Result Report AnswerFault). sums.ServerAsked (g.F.Shelf.state c.args.shelf.now) (g.F.Shelf.state c.read_query.new.shelf) (g.W.Wire.allows c.args.wire.now) (g.W.Wire.state c.args.wire.now) (g.W.Wire.state c.query.new.wire) (g.K.Sink.state c.args.out.now) (g.K.Sink.state c.query.new.out) c.args.name.now c.args.start.now c.args.options.now result)
    c.query.result _ c.answered.ensures.ok c.answered.ensures.err
    (record { whole = e.whole; front = e.front; ended = e.ended; headline = e.headline; prefix = e.prefix; complete = e.complete; still = e.still; sink = e.sink })
    (λ report k. sums.Plain (plain_ok _ _ c.args.name.now _ c.args.start.now c.args.options.now _ _ _ _ q read report k
    (reads_as _ _ _ _ _ ok_not_err (λ e. absurd e) c.in-Ok.ensures.reads)))
    (λ fault k. sums.Plain (plain_err _ _ c.args.name.now _ c.args.start.now c.args.options.now _ _ _ _ q read
    c.plans_are_read.ensures.plan c.plans_are_read.ensures.start c.pages_are_answered.ensures.answered c.commands_keep_limits.ensures.queries (c.is_sized.ensures.low, c.is_sized.ensures.high)
    (valid_read q _ c.patterns-patterns.ensures.value c.patterns-patterns.ensures.valid) fault k
    (reads_as _ _ _ _ _ ok_not_err (λ e. absurd e) c.in-Ok.ensures.reads)))

pub returns-in-Groups-clause-asks : goal.returns-in-Groups-clause-asks
returns-in-Groups-clause-asks g c =
    let e = c.answer.ensures in
    let q = c.in-Groups.query in
    let read = subst (λ (grammar : Grammar). IsOfGroupFile grammar (g.F.Shelf.state c.args.shelf.now).told c.args.name.now q) c.grammar_of.ensures (group_file _ _ _ refl c.args.name.now c.in-Ok.query q c.in-Groups.is c.in-Ok.ensures.ok) in
    by_called (λ (came : Result Report ClientFault). Called (g.W.Wire.allows c.args.wire.now) q c.args.options.now came (g.W.Wire.state c.args.wire.now) (g.W.Wire.state c.answer.new.wire) (g.K.Sink.state c.args.out.now) (g.K.Sink.state c.answer.new.out) c.args.start.now)
    (λ (result : Result Report AnswerFault). sums.ServerAsked (g.F.Shelf.state c.args.shelf.now) (g.F.Shelf.state c.read_query.new.shelf) (g.W.Wire.allows c.args.wire.now) (g.W.Wire.state c.args.wire.now) (g.W.Wire.state c.answer.new.wire) (g.K.Sink.state c.args.out.now) (g.K.Sink.state c.answer.new.out) c.args.name.now c.args.start.now c.args.options.now result)
    c.answer.result _ c.answered-in-Groups.ensures.ok c.answered-in-Groups.ensures.err
    (record { whole = e.whole; front = e.front; ended = e.ended; headline = e.headline; prefix = e.prefix; complete = e.complete; still = e.still; sink = e.sink })
    (λ report k. sums.Groups q (server_ok _ _ c.args.name.now _ c.args.start.now c.args.options.now _ _ _ _ q read report k
    (reads_as _ _ _ _ _ ok_not_err (λ e. absurd e) c.in-Ok.ensures.reads)))
    (λ fault k. sums.Groups q (server_err _ _ c.args.name.now _ c.args.start.now c.args.options.now _ _ _ _ q read
    c.plans_are_read.ensures.plan c.plans_are_read.ensures.start c.pages_are_answered.ensures.answered c.commands_keep_limits.ensures.groups c.blocks_are_valid.ensures fault k
    (reads_as _ _ _ _ _ ok_not_err (λ e. absurd e) c.in-Ok.ensures.reads)))
