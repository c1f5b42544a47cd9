-- The wire that was made is honest for its server.
use Rattle.query_command.specs.Loops.{local_base}
use Rattle.data_servers.specs.Servers.{serving}
use Rattle.query_command.proofs.Looping.{loops_ok, loops_err, solves, solves_front, valid_served, config_served, keeps}
use Rattle.query_command.proofs.Honest.{honest_wire, loops_honest}
use Rattle.query_command.proofs.Fitting.{plan_is_read}
use Rattle.query_command.proofs.Planned.{sends_from, requests_from, ends_from, answers_from}
use Rattle.query_command.proofs.local_query.ask_server.Goals as goal

pub returns-clause-answers : goal.returns-clause-answers
returns-clause-answers g c =
    rw c.replace.ensures.after (loops_ok c.args.server c.args.asked.now.seed c.args.asked.now.fail_every c.new-wire.result c.query-answer.new.wire c.new-wire.ensures c.args.query.now c.args.asked.now.start.now local_base c.requires.start c.args.asked.now.options ((g.K.Sink.state c.args.out.now).faults) ((g.K.Sink.state c.query-answer.new.out).faults) ((g.K.Sink.state c.args.out.now).taken) ((g.K.Sink.state c.query-answer.new.out).taken) c.query-answer.result
    c.query-answer.ensures.whole c.query-answer.ensures.ended.acts c.query-answer.ensures.ended.ok c.query-answer.ensures.headline)

pub returns-clause-cause : goal.returns-clause-cause
returns-clause-cause g c =
    rw c.replace.ensures.after (loops_err c.args.server c.args.asked.now.seed c.args.asked.now.fail_every c.new-wire.result c.query-answer.new.wire c.new-wire.ensures c.args.query.now c.args.asked.now.start.now local_base c.requires.start c.args.asked.now.options ((g.K.Sink.state c.args.out.now).faults) ((g.K.Sink.state c.query-answer.new.out).faults) ((g.K.Sink.state c.args.out.now).taken) ((g.K.Sink.state c.query-answer.new.out).taken) c.query-answer.result
    c.query-answer.ensures.front c.query-answer.ensures.ended.acts c.query-answer.ensures.ended.err c.query-answer.ensures.prefix c.query-answer.ensures.sink.sink c.query-answer.ensures.complete c.query-answer.ensures.still)

pub returns-clause-answer : goal.returns-clause-answer
returns-clause-answer g c =
    solves c.args.server c.args.asked.now.seed c.args.asked.now.fail_every c.new-wire.result c.query-answer.new.wire c.new-wire.ensures c.args.query.now c.args.asked.now.start.now local_base c.requires.start c.args.asked.now.options ((g.K.Sink.state c.args.out.now).faults) ((g.K.Sink.state c.query-answer.new.out).faults) ((g.K.Sink.state c.args.out.now).taken) ((g.K.Sink.state c.query-answer.new.out).taken) c.query-answer.result c.requires.first (valid_served c.args.server c.server.result.now c.server.ensures c.is_valid.ensures.data_set) (config_served c.args.server c.server.result.now c.server.ensures c.is_valid.ensures.config) c.is_few.ensures c.query-answer.ensures.headline

pub returns-clause-front : goal.returns-clause-front
returns-clause-front g c =
    solves_front c.args.server c.args.asked.now.seed c.args.asked.now.fail_every c.new-wire.result c.query-answer.new.wire c.new-wire.ensures c.args.query.now c.args.asked.now.start.now local_base c.requires.start c.args.asked.now.options ((g.K.Sink.state c.args.out.now).faults) ((g.K.Sink.state c.query-answer.new.out).faults) ((g.K.Sink.state c.args.out.now).taken) ((g.K.Sink.state c.query-answer.new.out).taken) c.query-answer.result c.requires.first (valid_served c.args.server c.server.result.now c.server.ensures c.is_valid.ensures.data_set) (config_served c.args.server c.server.result.now c.server.ensures c.is_valid.ensures.config) c.is_few.ensures c.query-answer.ensures.prefix

pub returns-clause-sent : goal.returns-clause-sent
returns-clause-sent g c =
    rw c.replace.ensures.after (sends_from c.args.server c.args.asked.now.seed c.args.asked.now.fail_every c.query-answer.new.wire c.args.query.now c.args.asked.now.options c.query-answer.result
    (keeps c.args.server c.args.asked.now.seed c.args.asked.now.fail_every c.new-wire.result c.query-answer.new.wire c.new-wire.ensures c.args.query.now c.args.asked.now.start.now local_base c.requires.start c.args.asked.now.options ((g.K.Sink.state c.args.out.now).faults) ((g.K.Sink.state c.query-answer.new.out).faults) ((g.K.Sink.state c.args.out.now).taken) ((g.K.Sink.state c.query-answer.new.out).taken) c.query-answer.result c.query-answer.ensures.ended.acts)
    (honest_wire c.args.server c.args.asked.now.seed c.args.asked.now.fail_every c.requires.first (valid_served c.args.server c.server.result.now c.server.ensures c.is_valid.ensures.data_set) (config_served c.args.server c.server.result.now c.server.ensures c.is_valid.ensures.config) c.is_few.ensures local_base))

pub returns-clause-requested : goal.returns-clause-requested
returns-clause-requested g c =
    rw c.replace.ensures.after (requests_from c.args.server c.args.asked.now.seed c.args.asked.now.fail_every c.query-answer.new.wire c.args.query.now c.args.asked.now.options c.query-answer.result
    (keeps c.args.server c.args.asked.now.seed c.args.asked.now.fail_every c.new-wire.result c.query-answer.new.wire c.new-wire.ensures c.args.query.now c.args.asked.now.start.now local_base c.requires.start c.args.asked.now.options ((g.K.Sink.state c.args.out.now).faults) ((g.K.Sink.state c.query-answer.new.out).faults) ((g.K.Sink.state c.args.out.now).taken) ((g.K.Sink.state c.query-answer.new.out).taken) c.query-answer.result c.query-answer.ensures.ended.acts)
    (honest_wire c.args.server c.args.asked.now.seed c.args.asked.now.fail_every c.requires.first (valid_served c.args.server c.server.result.now c.server.ensures c.is_valid.ensures.data_set) (config_served c.args.server c.server.result.now c.server.ensures c.is_valid.ensures.config) c.is_few.ensures local_base))

pub returns-clause-ends : goal.returns-clause-ends
returns-clause-ends g c = λ servable askable small.
    let valid = valid_served c.args.server c.server.result.now c.server.ensures c.is_valid.ensures.data_set in
    let config = config_served c.args.server c.server.result.now c.server.ensures c.is_valid.ensures.config in
    ends_from c.args.server c.args.asked.now.seed c.args.asked.now.fail_every c.query-answer.new.wire c.args.query.now c.args.asked.now.options ((g.K.Sink.state c.args.out.now).faults) ((g.K.Sink.state c.query-answer.new.out).faults) ((g.K.Sink.state c.args.out.now).taken) ((g.K.Sink.state c.query-answer.new.out).taken) c.query-answer.result
    (honest_wire c.args.server c.args.asked.now.seed c.args.asked.now.fail_every c.requires.first valid config c.is_few.ensures local_base)
    (plan_is_read c.plans_are_read.ensures.plan c.plans_are_read.ensures.base c.args.asked.now.options.block (c.is_sized.ensures.low, c.is_sized.ensures.high) (serving c.args.server).data_set (serving c.args.server).config c.args.query.now c.requires.base valid config servable askable)
    c.fails_as_due.ensures small (rw c.replace.ensures.after at (returns-clause-answers g c)) (rw c.replace.ensures.after at (returns-clause-cause g c))

pub returns-clause-honest : goal.returns-clause-honest
returns-clause-honest g c =
    rw c.replace.ensures.after (loops_honest c.args.server c.args.asked.now.seed c.args.asked.now.fail_every c.new-wire.result c.query-answer.new.wire c.new-wire.ensures c.query-answer.ensures.allowed
    (honest_wire c.args.server c.args.asked.now.seed c.args.asked.now.fail_every c.requires.first (valid_served c.args.server c.server.result.now c.server.ensures c.is_valid.ensures.data_set) (config_served c.args.server c.server.result.now c.server.ensures c.is_valid.ensures.config) c.is_few.ensures))

pub returns-clause-replied : goal.returns-clause-replied
returns-clause-replied g c =
    rw c.replace.ensures.after (answers_from c.args.server c.args.asked.now.seed c.args.asked.now.fail_every c.query-answer.new.wire c.args.query.now c.args.asked.now.options ((g.K.Sink.state c.args.out.now).taken) ((g.K.Sink.state c.query-answer.new.out).taken) c.query-answer.result
    (honest_wire c.args.server c.args.asked.now.seed c.args.asked.now.fail_every c.requires.first (valid_served c.args.server c.server.result.now c.server.ensures c.is_valid.ensures.data_set) (config_served c.args.server c.server.result.now c.server.ensures c.is_valid.ensures.config) c.is_few.ensures local_base)
    (rw c.replace.ensures.after at (returns-clause-answers g c)))

pub returns-clause-output : goal.returns-clause-output
returns-clause-output g c = record { later = c.query-answer.ensures.sink.later; faultless = c.query-answer.ensures.sink.faultless; spared = λ fine. (c.query-answer.ensures.sink.spared fine).0 }

pub returns-clause-spared : goal.returns-clause-spared
returns-clause-spared g c = λ fine. (c.query-answer.ensures.sink.spared fine).1
