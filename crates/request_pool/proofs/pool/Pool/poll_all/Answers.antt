-- The pool goes on.
use Rattle.std.proofs.Common.{sym, ◌∙◌}
use Rattle.tpf_base.proofs.SendingLemmas.{allowed_then}
use Rattle.request_pool.specs.Runs.{Next}
use Rattle.request_pool.proofs.Running.{runs_more}
use Rattle.request_pool.proofs.Steps.{runs_suit, poll_suits}
use Rattle.request_pool.proofs.pool.Pool.poll_all.Goals as goal

pub poll_next-polled-requires-clause-suits : goal.poll_next-polled-requires-clause-suits
poll_next-polled-requires-clause-suits g c = runs_suit c.args.self.now c.loop-self.self (g.W.Wire.state c.args.wire.now) (g.W.Wire.state c.loop-self.wire) c.requires.suits (g.met.W.Wire.given_alone c.args.wire.now) c.loop-self.invariant.running

pub returns-then-ends-clause-suits : goal.returns-then-ends-clause-suits
returns-then-ends-clause-suits g c = poll_suits c.poll_next-polled.result c.args.self.now c.loop-self.self c.poll_next-polled.new.self (g.W.Wire.state c.args.wire.now) (g.W.Wire.state c.loop-self.wire) (g.W.Wire.state c.poll_next-polled.new.wire)
    c.requires.suits (g.met.W.Wire.given_alone c.args.wire.now) c.loop-self.invariant.running c.poll_next-polled.ensures.polls

pub loop-self-preserved : goal.loop-self-preserved
loop-self-preserved g c = record {
  running = runs_more c.args.self.now c.loop-self.self c.poll_next-polled.new.self (g.W.Wire.state c.args.wire.now) (g.W.Wire.state c.loop-self.wire) (g.W.Wire.state c.poll_next-polled.new.wire) c.loop-self.invariant.running
      (Next c.poll_next-polled.result (sym c.ends.ensures ∙ c.if-ends.false) c.poll_next-polled.ensures.polls);
  allowed = allowed_then c.loop-self.invariant.allowed c.poll_next-polled.ensures.allowed;
}

pub returns-clause-suits : goal.returns-clause-suits
returns-clause-suits g c = runs_suit c.args.self.now c.loop-self.self (g.W.Wire.state c.args.wire.now) (g.W.Wire.state c.loop-self.wire) c.requires.suits (g.met.W.Wire.given_alone c.args.wire.now) c.loop-self.invariant.running
