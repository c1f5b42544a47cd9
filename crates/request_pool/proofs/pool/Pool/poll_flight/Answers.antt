-- What the poll's answer comes to.
use Rattle.request_pool.proofs.Outcomes.{on_pending, on_came, on_end}
use Rattle.tpf_base.proofs.SendingLemmas.{allowed_then}
use Rattle.request_pool.proofs.pool.Pool.poll_flight.Goals as goal

pub poll-requires-clause-underway : goal.poll-requires-clause-underway
poll-requires-clause-underway g c = c.requires.underway

pub poll-requires-clause-link : goal.poll-requires-clause-link
poll-requires-clause-link g c = c.requires.linked

pub go_on-requires-clause-room : goal.go_on-requires-clause-room
go_on-requires-clause-room g c = c.requires.room

pub returns-in-None-clause-to : goal.returns-in-None-clause-to
returns-in-None-clause-to g c = on_pending c.go_on.result c.args.flight c.poll.new.self c.args.self.now c.go_on.new.self (g.W.Wire.state c.args.wire.now) (g.W.Wire.state c.poll.new.wire) (g.W.Wire.state c.go_on.new.wire)
    c.poll.ensures.touches c.in-None.ensures.answers c.go_on.ensures.ok c.go_on.ensures.err

pub returns-in-None-clause-allowed : goal.returns-in-None-clause-allowed
returns-in-None-clause-allowed g c = allowed_then c.poll.ensures.allowed c.go_on.ensures.allowed

pub returns-in-Some-Ok-clause-to : goal.returns-in-Some-Ok-clause-to
returns-in-Some-Ok-clause-to g c = on_came c.come.result c.in-Some-Ok.reply c.args.flight c.poll.new.self c.args.self.now c.come.new.self (g.W.Wire.state c.args.wire.now) (g.W.Wire.state c.poll.new.wire) (g.W.Wire.state c.come.new.wire)
    c.poll.ensures.touches (rw c.in-Some-Ok.field-0-is at c.in-Some-Ok.ensures.answers) c.come.ensures.ok c.come.ensures.err

pub returns-in-Some-Ok-clause-allowed : goal.returns-in-Some-Ok-clause-allowed
returns-in-Some-Ok-clause-allowed g c = allowed_then c.poll.ensures.allowed c.come.ensures.allowed

pub returns-in-Some-Err-clause-to : goal.returns-in-Some-Err-clause-to
returns-in-Some-Err-clause-to g c = on_end c.in-Some-Err.fault c.end.result c.args.flight c.poll.new.self c.args.self.now c.end.new.self (g.W.Wire.state c.args.wire.now) (g.W.Wire.state c.poll.new.wire)
    c.poll.ensures.touches (rw c.in-Some-Err.field-0-is at c.in-Some-Err.ensures.answers) c.end.ensures

pub returns-in-Some-Err-clause-allowed : goal.returns-in-Some-Err-clause-allowed
returns-in-Some-Err-clause-allowed g c = c.poll.ensures.allowed
