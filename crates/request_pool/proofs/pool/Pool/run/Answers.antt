-- Starts, a round of polls, and starts again.
use Rattle.std.proofs.Common.{sym, ◌∙◌}
use Rattle.request_pool.proofs.Steps.{then_round, then_runs, pending_of, run_waits, suits_round}
use Rattle.tpf_base.proofs.SendingLemmas.{allowed_then}
use Rattle.request_pool.proofs.pool.Pool.run.Goals as goal

pub start_all-started-requires : goal.start_all-started-requires
start_all-started-requires g c = record { suits = c.requires.suits }

pub returns-then-ends-clause-runs : goal.returns-then-ends-clause-runs
returns-then-ends-clause-runs g c = c.start_all-started.ensures.runs

pub returns-then-ends-clause-suits : goal.returns-then-ends-clause-suits
returns-then-ends-clause-suits g c = c.start_all-started.ensures.suits

pub returns-then-ends-clause-allowed : goal.returns-then-ends-clause-allowed
returns-then-ends-clause-allowed g c = c.start_all-started.ensures.allowed

pub begin_round-requires : goal.begin_round-requires
begin_round-requires g c = record { none_due = c.start_all-started.ensures.due ∙ c.requires.none_due }

pub poll_all-polled-requires : goal.poll_all-polled-requires
poll_all-polled-requires g c = record { suits = suits_round c.start_all-started.new.self c.begin_round.new.self (g.W.Wire.state c.start_all-started.new.wire) c.begin_round.ensures c.start_all-started.ensures.suits }

pub returns-then-ends-2-clause-runs : goal.returns-then-ends-2-clause-runs
returns-then-ends-2-clause-runs g c = then_round c.start_all-started.result c.poll_all-polled.result c.args.self.now c.start_all-started.new.self c.begin_round.new.self c.poll_all-polled.new.self
    (g.W.Wire.state c.args.wire.now) (g.W.Wire.state c.start_all-started.new.wire) (g.W.Wire.state c.poll_all-polled.new.wire)
    (sym c.ends.ensures ∙ c.if-ends.false) c.start_all-started.ensures.runs (c.start_all-started.ensures.due ∙ c.requires.none_due) c.begin_round.ensures c.poll_all-polled.ensures.runs

pub returns-then-ends-2-clause-suits : goal.returns-then-ends-2-clause-suits
returns-then-ends-2-clause-suits g c = c.poll_all-polled.ensures.suits

pub returns-then-ends-2-clause-allowed : goal.returns-then-ends-2-clause-allowed
returns-then-ends-2-clause-allowed g c = allowed_then c.start_all-started.ensures.allowed c.poll_all-polled.ensures.allowed

pub start_all-again-requires : goal.start_all-again-requires
start_all-again-requires g c = record { suits = c.poll_all-polled.ensures.suits }

pub returns-clause-runs : goal.returns-clause-runs
returns-clause-runs g c =
    then_runs c.poll_all-polled.result c.start_all-again.result c.args.self.now c.poll_all-polled.new.self c.start_all-again.new.self
    (g.W.Wire.state c.args.wire.now) (g.W.Wire.state c.poll_all-polled.new.wire) (g.W.Wire.state c.start_all-again.new.wire) (sym c.ends-2.ensures ∙ c.if-ends-2.false)
    (then_round c.start_all-started.result c.poll_all-polled.result c.args.self.now c.start_all-started.new.self c.begin_round.new.self c.poll_all-polled.new.self
    (g.W.Wire.state c.args.wire.now) (g.W.Wire.state c.start_all-started.new.wire) (g.W.Wire.state c.poll_all-polled.new.wire)
    (sym c.ends.ensures ∙ c.if-ends.false) c.start_all-started.ensures.runs (c.start_all-started.ensures.due ∙ c.requires.none_due) c.begin_round.ensures c.poll_all-polled.ensures.runs)
    c.start_all-again.ensures.runs

pub returns-clause-may_wait : goal.returns-clause-may_wait
returns-clause-may_wait g c = λ e.
    run_waits c.start_all-started.result c.poll_all-polled.result c.start_all-again.result c.args.self.now c.start_all-started.new.self c.begin_round.new.self c.poll_all-polled.new.self c.start_all-again.new.self
    (g.W.Wire.state c.args.wire.now) (g.W.Wire.state c.start_all-started.new.wire) (g.W.Wire.state c.poll_all-polled.new.wire) (g.W.Wire.state c.start_all-again.new.wire)
    c.requires.suits (g.met.W.Wire.given_alone c.args.wire.now) (sym c.ends.ensures ∙ c.if-ends.false) c.start_all-started.ensures.runs c.begin_round.ensures
    (sym c.ends-2.ensures ∙ c.if-ends-2.false) c.poll_all-polled.ensures.runs
    (c.poll_all-polled.ensures.none_due (pending_of c.poll_all-polled.result c.begin_round.new.self c.poll_all-polled.new.self (g.W.Wire.state c.start_all-started.new.wire) (g.W.Wire.state c.poll_all-polled.new.wire) (sym c.ends-2.ensures ∙ c.if-ends-2.false) c.poll_all-polled.ensures.runs))
    e c.start_all-again.ensures.runs c.start_all-again.ensures.due c.bounds.ensures.few (c.start_all-again.ensures.full e)

pub returns-clause-suits : goal.returns-clause-suits
returns-clause-suits g c = c.start_all-again.ensures.suits

pub returns-clause-allowed : goal.returns-clause-allowed
returns-clause-allowed g c = allowed_then (allowed_then c.start_all-started.ensures.allowed c.poll_all-polled.ensures.allowed) c.start_all-again.ensures.allowed
