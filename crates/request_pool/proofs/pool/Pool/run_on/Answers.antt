-- First those that the step before left, and then a run.
use Rattle.std.proofs.Common.{sym, ◌∙◌}
use Rattle.request_pool.proofs.Steps.{then_runs, pending_of, waits_earlier}
use Rattle.request_pool.proofs.pool.Pool.run_on.Goals as goal

pub run-requires-clause-none_due : goal.run-requires-clause-none_due
run-requires-clause-none_due g c =
    c.poll_all-left.ensures.none_due (pending_of c.poll_all-left.result c.args.self.now c.poll_all-left.new.self (g.W.Wire.state c.args.wire.now) (g.W.Wire.state c.poll_all-left.new.wire) (sym c.ends.ensures ∙ c.if-ends.false) c.poll_all-left.ensures.runs)

pub returns-clause-runs : goal.returns-clause-runs
returns-clause-runs g c =
    then_runs c.poll_all-left.result c.run.result c.args.self.now c.poll_all-left.new.self c.run.new.self
    (g.W.Wire.state c.args.wire.now) (g.W.Wire.state c.poll_all-left.new.wire) (g.W.Wire.state c.run.new.wire) (sym c.ends.ensures ∙ c.if-ends.false) c.poll_all-left.ensures.runs c.run.ensures.runs

pub returns-clause-may_wait : goal.returns-clause-may_wait
returns-clause-may_wait g c = λ e.
    waits_earlier c.poll_all-left.result c.args.self.now c.poll_all-left.new.self c.run.new.self
    (g.W.Wire.state c.args.wire.now) (g.W.Wire.state c.poll_all-left.new.wire) (g.W.Wire.state c.run.new.wire)
    c.requires.suits (g.met.W.Wire.given_alone c.args.wire.now) (sym c.ends.ensures ∙ c.if-ends.false) c.poll_all-left.ensures.runs (c.run.ensures.may_wait e)
