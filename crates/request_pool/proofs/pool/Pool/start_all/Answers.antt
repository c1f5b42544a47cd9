-- The pool goes on.
use Rattle.std.proofs.Common.{sym, ◌∙◌}
use Rattle.tpf_base.proofs.SendingLemmas.{allowed_then}
use Rattle.request_pool.specs.Runs.{Start, OfStart}
use Rattle.request_pool.proofs.Running.{runs_more, ends_after}
use Rattle.request_pool.proofs.Steps.{runs_suit, start_suits, starts_due}
use Rattle.request_pool.proofs.pool.Pool.start_all.Goals as goal

pub start-started-requires-clause-suits : goal.start-started-requires-clause-suits
start-started-requires-clause-suits g c = runs_suit c.args.self.now c.loop-self.self (g.W.Wire.state c.args.wire.now) (g.W.Wire.state c.loop-self.wire) c.requires.suits (g.met.W.Wire.given_alone c.args.wire.now) c.loop-self.invariant.running

pub returns-then-ends-clause-runs : goal.returns-then-ends-clause-runs
returns-then-ends-clause-runs g c = ends_after c.start-started.result c.args.self.now c.loop-self.self c.start-started.new.self (g.W.Wire.state c.args.wire.now) (g.W.Wire.state c.loop-self.wire) (g.W.Wire.state c.start-started.new.wire)
    c.loop-self.invariant.running (sym c.ends.ensures ∙ c.if-ends.true) (OfStart c.start-started.ensures.starts)

pub returns-then-ends-clause-suits : goal.returns-then-ends-clause-suits
returns-then-ends-clause-suits g c = start_suits c.start-started.result c.args.self.now c.loop-self.self c.start-started.new.self (g.W.Wire.state c.args.wire.now) (g.W.Wire.state c.loop-self.wire) (g.W.Wire.state c.start-started.new.wire)
    c.requires.suits (g.met.W.Wire.given_alone c.args.wire.now) c.loop-self.invariant.running c.start-started.ensures.starts

pub loop-self-preserved : goal.loop-self-preserved
loop-self-preserved g c = record {
  running = runs_more c.args.self.now c.loop-self.self c.start-started.new.self (g.W.Wire.state c.args.wire.now) (g.W.Wire.state c.loop-self.wire) (g.W.Wire.state c.start-started.new.wire) c.loop-self.invariant.running
      (Start c.start-started.result (sym c.ends.ensures ∙ c.if-ends.false) c.start-started.ensures.starts);
  due = starts_due c.start-started.result c.loop-self.self c.start-started.new.self (g.W.Wire.state c.loop-self.wire) (g.W.Wire.state c.start-started.new.wire) c.start-started.ensures.starts ∙ c.loop-self.invariant.due;
  allowed = allowed_then c.loop-self.invariant.allowed c.start-started.ensures.allowed;
}

pub returns-clause-suits : goal.returns-clause-suits
returns-clause-suits g c = runs_suit c.args.self.now c.loop-self.self (g.W.Wire.state c.args.wire.now) (g.W.Wire.state c.loop-self.wire) c.requires.suits (g.met.W.Wire.given_alone c.args.wire.now) c.loop-self.invariant.running
