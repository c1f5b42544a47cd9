-- What the call for a query with groups says is said of the wire as it was made.
use Rattle.query_command.proofs.Looping.{valid_served, config_served}
use Rattle.query_command.proofs.GroupLooping.{asks_groups}
use Rattle.query_command.proofs.group_wire.ask_groups.Goals as goal

pub returns : goal.returns
returns g c =
    let e = c.answer-ended.ensures in
    rw c.replace.ensures.after (asks_groups c.args.server c.args.asked.now.seed c.args.asked.now.fail_every c.new-wire.result c.answer-ended.new.wire c.new-wire.ensures c.args.query.now c.args.asked.now.options c.args.asked.now.start.now c.requires.start c.answer-ended.result ((g.K.Sink.state c.args.out.now)) ((g.K.Sink.state c.answer-ended.new.out))
    (record { whole = e.whole; front = e.front; ended = e.ended; headline = e.headline; prefix = e.prefix; complete = e.complete; still = e.still; sink = e.sink })
    e.allowed c.blocks_are_valid.ensures c.requires.first c.requires.base
    (valid_served c.args.server c.server.result.now c.server.ensures c.is_valid.ensures.data_set) (config_served c.args.server c.server.result.now c.server.ensures c.is_valid.ensures.config) c.is_few.ensures
    c.plans_are_read.ensures.plan c.plans_are_read.ensures.base c.fails_as_due.ensures)
