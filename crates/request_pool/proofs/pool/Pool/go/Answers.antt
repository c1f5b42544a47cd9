-- What ends the step.
use Rattle.std.proofs.Common.{refl, ap, Ok, inl, inr}
use Rattle.request_pool.specs.declared.fault.Polled.{Polled}
use Rattle.request_pool.specs.Steps.{AtOnce}
use Rattle.request_pool.proofs.Suits.{suits_as}
use Rattle.request_pool.proofs.Bounds.{not_over}
use Rattle.request_pool.proofs.Steps.{suits_lined, over_lined, held_after, came_steps, fault_steps, over_steps, wait_steps, some_polled, pending_runs, no_failed}
use Rattle.tpf_base.proofs.SendingLemmas.{allowed_then}
use Rattle.request_pool.proofs.pool.Pool.go.Goals as goal

pub returns-then-not-lines_up-clause-steps : goal.returns-then-not-lines_up-clause-steps
returns-then-not-lines_up-clause-steps g c = AtOnce refl (c.if-not-lines_up.ensures.err refl) refl

pub returns-then-not-lines_up-clause-suits : goal.returns-then-not-lines_up-clause-suits
returns-then-not-lines_up-clause-suits g c = suits_as c.args.self.now c.lines_up.new.self (g.W.Wire.state c.args.wire.now) (g.W.Wire.state c.args.wire.now) (c.if-not-lines_up.ensures.err refl) refl c.requires.suits

pub returns-then-not-lines_up-clause-over : goal.returns-then-not-lines_up-clause-over
returns-then-not-lines_up-clause-over g c = λ o. inr refl

pub returns-then-not-lines_up-clause-allowed : goal.returns-then-not-lines_up-clause-allowed
returns-then-not-lines_up-clause-allowed g c = λ host port sent owed. (λ x. x, λ x. x)

pub returns-then-is_over_budget-clause-steps : goal.returns-then-is_over_budget-clause-steps
returns-then-is_over_budget-clause-steps g c = over_steps c.args.self.now c.lines_up.new.self (g.W.Wire.state c.args.wire.now) (c.if-not-lines_up.ensures.ok refl) (c.is_over_budget.ensures.0 c.if-is_over_budget.true)

pub returns-then-is_over_budget-clause-suits : goal.returns-then-is_over_budget-clause-suits
returns-then-is_over_budget-clause-suits g c = suits_lined c.args.self.now c.lines_up.new.self (g.W.Wire.state c.args.wire.now) (c.if-not-lines_up.ensures.ok refl) c.requires.suits

pub returns-then-is_over_budget-clause-over : goal.returns-then-is_over_budget-clause-over
returns-then-is_over_budget-clause-over g c = λ o. inl refl

pub returns-then-is_over_budget-clause-allowed : goal.returns-then-is_over_budget-clause-allowed
returns-then-is_over_budget-clause-allowed g c = λ host port sent owed. (λ x. x, λ x. x)

pub run_on-requires : goal.run_on-requires
run_on-requires g c = record { suits = suits_lined c.args.self.now c.lines_up.new.self (g.W.Wire.state c.args.wire.now) (c.if-not-lines_up.ensures.ok refl) c.requires.suits }

pub wait-requires-clause-suits : goal.wait-requires-clause-suits
wait-requires-clause-suits g c = c.run_on.ensures.suits

pub wait-requires-clause-none_due : goal.wait-requires-clause-none_due
wait-requires-clause-none_due g c = (c.in-Ok-Pending.ensures.may_wait (ap (λ (x : Polled). Ok x) c.in-Ok-Pending.field-0-is)).none_due

pub wait-requires-clause-some : goal.wait-requires-clause-some
wait-requires-clause-some g c =
    some_polled (g.W.Wire.state c.args.wire.now) c.run_on.new.self (g.W.Wire.state c.run_on.new.wire) (c.in-Ok-Pending.ensures.may_wait (ap (λ (x : Polled). Ok x) c.in-Ok-Pending.field-0-is)) c.bounds.ensures.some
    (held_after c.args.self.now c.lines_up.new.self c.run_on.new.self (g.W.Wire.state c.args.wire.now) (g.W.Wire.state c.run_on.new.wire) (c.if-not-lines_up.ensures.ok refl)
    (pending_runs (Ok c.in-Ok-Pending.field-0) c.lines_up.new.self c.run_on.new.self (g.W.Wire.state c.args.wire.now) (g.W.Wire.state c.run_on.new.wire) (ap (λ (x : Polled). Ok x) c.in-Ok-Pending.field-0-is) c.in-Ok-Pending.ensures.runs)
    c.requires.some)

pub unreachable-requires : goal.unreachable-requires
unreachable-requires g c = no_failed c.lines_up.new.self c.run_on.new.self (g.W.Wire.state c.args.wire.now) (g.W.Wire.state c.run_on.new.wire) (rw c.in-Ok-Failed.field-0-is at c.in-Ok-Failed.ensures.runs)

pub returns-in-Ok-Came-clause-steps : goal.returns-in-Ok-Came-clause-steps
returns-in-Ok-Came-clause-steps g c = came_steps c.in-Ok-Came.ticket c.in-Ok-Came.address c.in-Ok-Came.reply c.args.self.now c.lines_up.new.self c.run_on.new.self (g.W.Wire.state c.args.wire.now) (g.W.Wire.state c.run_on.new.wire) (c.if-not-lines_up.ensures.ok refl)
    (rw c.in-Ok-Came.field-0-is at c.in-Ok-Came.ensures.runs)

pub returns-in-Ok-Came-clause-suits : goal.returns-in-Ok-Came-clause-suits
returns-in-Ok-Came-clause-suits g c = c.run_on.ensures.suits

pub returns-in-Ok-Came-clause-over : goal.returns-in-Ok-Came-clause-over
returns-in-Ok-Came-clause-over g c = λ o. absurd (not_over c.is_over_budget.result c.lines_up.new.self c.is_over_budget.ensures.1 c.if-is_over_budget.false (over_lined c.args.self.now c.lines_up.new.self (c.if-not-lines_up.ensures.ok refl) o))

pub returns-in-Ok-Came-clause-allowed : goal.returns-in-Ok-Came-clause-allowed
returns-in-Ok-Came-clause-allowed g c = c.run_on.ensures.allowed

pub returns-in-Ok-Pending-clause-steps : goal.returns-in-Ok-Pending-clause-steps
returns-in-Ok-Pending-clause-steps g c = wait_steps c.wait.result c.args.self.now c.lines_up.new.self c.run_on.new.self c.wait.new.self (g.W.Wire.state c.args.wire.now) (g.W.Wire.state c.run_on.new.wire) (g.W.Wire.state c.wait.new.wire) (c.if-not-lines_up.ensures.ok refl)
    (rw c.in-Ok-Pending.field-0-is at c.in-Ok-Pending.ensures.runs) (c.in-Ok-Pending.ensures.may_wait (ap (λ (x : Polled). Ok x) c.in-Ok-Pending.field-0-is)) c.wait.ensures.waits c.wait.ensures.waited

pub returns-in-Ok-Pending-clause-suits : goal.returns-in-Ok-Pending-clause-suits
returns-in-Ok-Pending-clause-suits g c = c.wait.ensures.suits

pub returns-in-Ok-Pending-clause-over : goal.returns-in-Ok-Pending-clause-over
returns-in-Ok-Pending-clause-over g c = λ o. absurd (not_over c.is_over_budget.result c.lines_up.new.self c.is_over_budget.ensures.1 c.if-is_over_budget.false (over_lined c.args.self.now c.lines_up.new.self (c.if-not-lines_up.ensures.ok refl) o))

pub returns-in-Ok-Pending-clause-allowed : goal.returns-in-Ok-Pending-clause-allowed
returns-in-Ok-Pending-clause-allowed g c = allowed_then c.run_on.ensures.allowed c.wait.ensures.allowed

pub returns-in-Err-clause-steps : goal.returns-in-Err-clause-steps
returns-in-Err-clause-steps g c = fault_steps c.in-Err.fault c.args.self.now c.lines_up.new.self c.run_on.new.self (g.W.Wire.state c.args.wire.now) (g.W.Wire.state c.run_on.new.wire) (c.if-not-lines_up.ensures.ok refl) c.in-Err.ensures.runs

pub returns-in-Err-clause-suits : goal.returns-in-Err-clause-suits
returns-in-Err-clause-suits g c = c.run_on.ensures.suits

pub returns-in-Err-clause-over : goal.returns-in-Err-clause-over
returns-in-Err-clause-over g c = λ o. absurd (not_over c.is_over_budget.result c.lines_up.new.self c.is_over_budget.ensures.1 c.if-is_over_budget.false (over_lined c.args.self.now c.lines_up.new.self (c.if-not-lines_up.ensures.ok refl) o))

pub returns-in-Err-clause-allowed : goal.returns-in-Err-clause-allowed
returns-in-Err-clause-allowed g c = c.run_on.ensures.allowed
