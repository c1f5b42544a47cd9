-- Each step that waits is one more; the one at which a reply came or which broke is the last.
use Rattle.tpf_base.proofs.SendingLemmas.{allowed_same}
use Rattle.tpf_client.proofs.Waiting.{so-none, so-waits, so-comes, so-stops, allowed-then, none-held}
use Rattle.tpf_client.proofs.Starting.{step-came, step-waited, step-idle}
use Rattle.tpf_client.proofs.start.next_reply.Goals as goal

pub step-requires-clause-suits : goal.step-requires-clause-suits
step-requires-clause-suits g c = c.loop.invariant.so.suits

pub step-requires-clause-no_fault : goal.step-requires-clause-no_fault
step-requires-clause-no_fault g c = c.loop.invariant.so.no_fault

pub loop-init : goal.loop-init
loop-init g c = record {
  so = so-none (g.W.Wire.allows c.args.wire.now) c.args.asks.now (g.W.Wire.state c.args.wire.now) c.requires.no_fault c.requires.suits;
  allowed = allowed_same (g.W.Wire.allows c.args.wire.now);
}

pub loop-preserved : goal.loop-preserved
loop-preserved g c =
    let a = g.W.Wire.allows c.args.wire.now in
    let b = g.W.Wire.allows c.loop.wire in
    let v = g.W.Wire.state c.loop.wire in
    let w = g.W.Wire.state c.step.new.wire in
    record {
      so = so-waits a b c.loop.invariant.allowed c.args.asks.now c.loop.asks c.step.new.self (g.W.Wire.state c.args.wire.now) v w c.loop.invariant.so (step-waited b c.loop.asks c.step.new.self v w c.in-Ok-Waited.field-0 c.in-Ok-Waited.field-0-is c.in-Ok-Waited.ensures.steps);
      allowed = allowed-then a b (g.W.Wire.allows c.step.new.wire) c.loop.invariant.allowed c.in-Ok-Waited.ensures.allowed;
    }

pub returns-in-Ok-Came-clause-awaits : goal.returns-in-Ok-Came-clause-awaits
returns-in-Ok-Came-clause-awaits g c =
    let a = g.W.Wire.allows c.args.wire.now in
    let b = g.W.Wire.allows c.loop.wire in
    let v = g.W.Wire.state c.loop.wire in
    let w = g.W.Wire.state c.step.new.wire in
    so-comes a b c.loop.invariant.allowed c.args.asks.now c.loop.asks c.step.new.self (g.W.Wire.state c.args.wire.now) v w c.in-Ok-Came.arrived c.loop.invariant.so (step-came b c.loop.asks c.step.new.self v w c.in-Ok-Came.field-0 c.in-Ok-Came.arrived c.in-Ok-Came.field-0-is c.in-Ok-Came.ensures.steps)

pub returns-in-Ok-Came-clause-allowed : goal.returns-in-Ok-Came-clause-allowed
returns-in-Ok-Came-clause-allowed g c = allowed-then (g.W.Wire.allows c.args.wire.now) (g.W.Wire.allows c.loop.wire) (g.W.Wire.allows c.step.new.wire) c.loop.invariant.allowed c.in-Ok-Came.ensures.allowed

pub returns-in-Err-clause-awaits : goal.returns-in-Err-clause-awaits
returns-in-Err-clause-awaits g c =
    let a = g.W.Wire.allows c.args.wire.now in
    let b = g.W.Wire.allows c.loop.wire in
    let s = c.in-Err.ensures.steps in
    so-stops a b c.loop.invariant.allowed c.args.asks.now c.loop.asks c.step.new.self (g.W.Wire.state c.args.wire.now) (g.W.Wire.state c.loop.wire) (g.W.Wire.state c.step.new.wire) c.in-Err.fault s.0 s.2 c.loop.invariant.so s.1

pub returns-in-Err-clause-allowed : goal.returns-in-Err-clause-allowed
returns-in-Err-clause-allowed g c = allowed-then (g.W.Wire.allows c.args.wire.now) (g.W.Wire.allows c.loop.wire) (g.W.Wire.allows c.step.new.wire) c.loop.invariant.allowed c.in-Err.ensures.allowed

pub unreachable-requires : goal.unreachable-requires
unreachable-requires g c =
    let e = step-idle (g.W.Wire.allows c.loop.wire) c.loop.asks c.step.new.self (g.W.Wire.state c.loop.wire) (g.W.Wire.state c.step.new.wire) c.in-Ok-Idle.field-0 c.in-Ok-Idle.field-0-is c.in-Ok-Idle.ensures.steps in
    c.requires.some (none-held _ _ c.loop.invariant.so.others e)
