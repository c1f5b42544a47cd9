-- One step more.
use Rattle.std.proofs.Common.{◌<◌, ◌≤◌, length, drop, ap, arith}
use Rattle.std.proofs.lemmas.List.{drop_all}
use Rattle.tpf_base.proofs.SendingLemmas.{allowed_same}
use Rattle.tpf_client.proofs.Waiting.{allowed-then}
use Rattle.group_patterns.specs.Asking.{blocks_in}
use Rattle.group_patterns.proofs.Progressing.{fits-here, first-none, first-more, first-all, step-ends}
use Rattle.group_patterns.proofs.asking.Asking.ask_all.Goals as goal

pub loop-step-init : goal.loop-step-init
loop-step-init g c = record {
  first = first-none (g.W.Wire.allows c.args.wire.now) c.args.calls.now.options.now c.args.calls.now.start.now c.args.calls.now.names.now c.args.steps.now c.args.self.now (g.W.Wire.state c.args.wire.now) c.requires.fresh;
  allowed = allowed_same (g.W.Wire.allows c.args.wire.now);
}

pub ask_step-requires-clause-fit : goal.ask_step-requires-clause-fit
ask_step-requires-clause-fit g c =
    let below : c.loop-step.step-index < length c.args.steps.now = omega arith in
    let f = c.loop-step.invariant.first in
    fits-here (length c.args.calls.now.names.now) c.args.steps.now c.loop-step.step-index c.step-item.result (blocks_in c.args.steps.now) f.asked below c.step-item.is f.blocks_are c.requires.fit

pub loop-step-preserved : goal.loop-step-preserved
loop-step-preserved g c =
    let below : c.loop-step.step-index < length c.args.steps.now = omega arith in
    let i = c.loop-step.invariant in
    record {
      first = first-more (g.W.Wire.allows c.args.wire.now) (g.W.Wire.allows c.loop-step.wire) i.allowed c.args.calls.now.options.now c.args.calls.now.start.now c.args.calls.now.names.now (blocks_in c.args.steps.now) c.args.steps.now c.loop-step.step-index c.step-item.result c.loop-step.self c.ask_step.new.self
          (g.W.Wire.state c.args.wire.now) (g.W.Wire.state c.loop-step.wire) (g.W.Wire.state c.ask_step.new.wire) below c.step-item.is i.first c.in-Ok.ensures.ok;
      allowed = allowed-then (g.W.Wire.allows c.args.wire.now) (g.W.Wire.allows c.loop-step.wire) (g.W.Wire.allows c.ask_step.new.wire) i.allowed c.in-Ok.ensures.allowed;
    }

pub returns-in-Err-clause-err : goal.returns-in-Err-clause-err
returns-in-Err-clause-err g c =
    let below : c.loop-step.step-index < length c.args.steps.now = omega arith in
    let i = c.loop-step.invariant in
    step-ends (g.W.Wire.allows c.args.wire.now) (g.W.Wire.allows c.loop-step.wire) i.allowed c.args.calls.now.options.now c.args.calls.now.start.now c.args.calls.now.names.now (blocks_in c.args.steps.now) c.args.steps.now c.loop-step.step-index c.step-item.result c.loop-step.self c.in-Err.fault
    (g.W.Wire.state c.args.wire.now) (g.W.Wire.state c.loop-step.wire) (g.W.Wire.state c.ask_step.new.wire) below c.step-item.is i.first c.in-Err.ensures.err

pub returns-in-Err-clause-allowed : goal.returns-in-Err-clause-allowed
returns-in-Err-clause-allowed g c = allowed-then (g.W.Wire.allows c.args.wire.now) (g.W.Wire.allows c.loop-step.wire) (g.W.Wire.allows c.ask_step.new.wire) c.loop-step.invariant.allowed c.in-Err.ensures.allowed

pub returns-clause-ok : goal.returns-clause-ok
returns-clause-ok g c =
    let past : length c.args.steps.now ≤ c.loop-step.step-index = omega (arith, c.loop-step-test.false) in
    first-all (g.W.Wire.allows c.args.wire.now) c.args.calls.now.options.now c.args.calls.now.start.now c.args.calls.now.names.now (blocks_in c.args.steps.now) (blocks_in (drop c.loop-step.step-index c.args.steps.now)) c.loop-step.self (g.W.Wire.state c.args.wire.now) (g.W.Wire.state c.loop-step.wire)
    (ap blocks_in (drop_all c.loop-step.step-index c.args.steps.now past)) c.loop-step.invariant.first

pub returns-clause-allowed : goal.returns-clause-allowed
returns-clause-allowed g c = c.loop-step.invariant.allowed
