-- A step, or the fault again.
use Rattle.std.proofs.Common.{refl, Ok, Err, Some}
use Rattle.request_pool.specs.Faults.{kept_of, as_fault}
use Rattle.request_pool.proofs.Bounds.{step_fault, again_fault, no_both, suits_fault, end_steps, end_bounds, went_bounds, no_idle}
use Rattle.request_pool.proofs.Holding.{step_holds}
use Rattle.request_pool.proofs.Waiting.{step_waits}
use Rattle.request_pool.proofs.pool.Pool.step.Goals as goal

pub same-self : goal.same-self
same-self g c = refl

pub same-self-in-None : goal.same-self-in-None
same-self-in-None g c = refl

pub turn-requires : goal.turn-requires
turn-requires g c = record { suits = c.requires.suits }

pub returns-in-Some-clause-suits : goal.returns-in-Some-clause-suits
returns-in-Some-clause-suits g c = c.requires.suits

pub returns-in-Some-clause-allowed : goal.returns-in-Some-clause-allowed
returns-in-Some-clause-allowed g c = λ host port sent owed. (λ x. x, λ x. x)

pub returns-in-Some-clause-waits : goal.returns-in-Some-clause-waits
returns-in-Some-clause-waits g c = λ e. absurd (no_both c.args.self.now.fault (as_fault c.in-Some.kept) e c.in-Some.ensures)

pub returns-in-Some-clause-err : goal.returns-in-Some-clause-err
returns-in-Some-clause-err g c = λ e. absurd (no_both c.args.self.now.fault (as_fault c.in-Some.kept) e c.in-Some.ensures)

pub returns-in-Some-clause-bounds : goal.returns-in-Some-clause-bounds
returns-in-Some-clause-bounds g c = refl

pub returns-in-Some-clause-idle : goal.returns-in-Some-clause-idle
returns-in-Some-clause-idle g c = λ e h. absurd (no_both c.args.self.now.fault (as_fault c.in-Some.kept) e c.in-Some.ensures)

pub returns-in-Some-clause-over : goal.returns-in-Some-clause-over
returns-in-Some-clause-over g c = λ e o. absurd (no_both c.args.self.now.fault (as_fault c.in-Some.kept) e c.in-Some.ensures)

pub returns-in-Some-clause-again : goal.returns-in-Some-clause-again
returns-in-Some-clause-again g c = λ fault e. (again_fault c.args.self.now.fault c.fault.result (as_fault c.in-Some.kept) fault c.fault.ensures c.in-Some.ensures e, refl, refl)

pub returns-in-Ok-clause-suits : goal.returns-in-Ok-clause-suits
returns-in-Ok-clause-suits g c = c.turn.ensures.suits

pub returns-in-Ok-clause-allowed : goal.returns-in-Ok-clause-allowed
returns-in-Ok-clause-allowed g c = c.turn.ensures.allowed

pub returns-in-Ok-clause-ok : goal.returns-in-Ok-clause-ok
returns-in-Ok-clause-ok g c = λ e. c.in-Ok.ensures.steps

pub returns-in-Ok-clause-holds : goal.returns-in-Ok-clause-holds
returns-in-Ok-clause-holds g c = λ e. step_holds c.in-Ok.stepped c.args.self.now c.turn.new.self (g.W.Wire.state c.args.wire.now) (g.W.Wire.state c.turn.new.wire) c.in-Ok.ensures.steps

pub returns-in-Ok-clause-waits : goal.returns-in-Ok-clause-waits
returns-in-Ok-clause-waits g c = λ e. step_waits (Ok c.in-Ok.stepped) c.args.self.now c.turn.new.self (g.W.Wire.state c.args.wire.now) (g.W.Wire.state c.turn.new.wire) c.in-Ok.ensures.steps

pub returns-in-Ok-clause-bounds : goal.returns-in-Ok-clause-bounds
returns-in-Ok-clause-bounds g c = went_bounds (Ok c.in-Ok.stepped) c.args.self.now c.turn.new.self (g.W.Wire.state c.args.wire.now) (g.W.Wire.state c.turn.new.wire) c.in-Ok.ensures.steps

pub returns-in-Ok-clause-no_fault : goal.returns-in-Ok-clause-no_fault
returns-in-Ok-clause-no_fault g c = λ e. step_fault (Ok c.in-Ok.stepped) c.args.self.now c.turn.new.self (g.W.Wire.state c.args.wire.now) (g.W.Wire.state c.turn.new.wire) e c.in-Ok.ensures.steps

pub returns-in-Ok-clause-idle : goal.returns-in-Ok-clause-idle
returns-in-Ok-clause-idle g c = λ e h. c.in-Ok.ensures.idle h

pub returns-in-Ok-clause-over : goal.returns-in-Ok-clause-over
returns-in-Ok-clause-over g c = λ e o. c.in-Ok.ensures.over o

pub returns-in-Ok-clause-again : goal.returns-in-Ok-clause-again
returns-in-Ok-clause-again g c = λ fault e. absurd (no_both c.args.self.now.fault fault c.in-None.ensures e)

pub returns-in-Err-clause-suits : goal.returns-in-Err-clause-suits
returns-in-Err-clause-suits g c = suits_fault c.turn.new.self c.end_with.new.self (Some (kept_of c.in-Err.fault)) (g.W.Wire.state c.turn.new.wire) c.end_with.ensures c.in-Err.ensures.suits

pub returns-in-Err-clause-allowed : goal.returns-in-Err-clause-allowed
returns-in-Err-clause-allowed g c = c.turn.ensures.allowed

pub returns-in-Err-clause-waits : goal.returns-in-Err-clause-waits
returns-in-Err-clause-waits g c = λ e. step_waits (Err c.in-Err.fault) c.args.self.now c.turn.new.self (g.W.Wire.state c.args.wire.now) (g.W.Wire.state c.turn.new.wire) c.in-Err.ensures.steps

pub returns-in-Err-clause-err : goal.returns-in-Err-clause-err
returns-in-Err-clause-err g c = λ e. end_steps c.in-Err.fault c.args.self.now c.turn.new.self c.end_with.new.self (g.W.Wire.state c.args.wire.now) (g.W.Wire.state c.turn.new.wire) e c.in-Err.ensures.steps c.end_with.ensures

pub returns-in-Err-clause-bounds : goal.returns-in-Err-clause-bounds
returns-in-Err-clause-bounds g c = end_bounds (Err c.in-Err.fault) c.args.self.now c.turn.new.self c.end_with.new.self (Some (kept_of c.in-Err.fault)) (g.W.Wire.state c.args.wire.now) (g.W.Wire.state c.turn.new.wire) c.in-Err.ensures.steps c.end_with.ensures

pub returns-in-Err-clause-idle : goal.returns-in-Err-clause-idle
returns-in-Err-clause-idle g c = λ e h. absurd (no_idle c.in-Err.fault (c.in-Err.ensures.idle h))

pub returns-in-Err-clause-over : goal.returns-in-Err-clause-over
returns-in-Err-clause-over g c = λ e o. c.in-Err.ensures.over o

pub returns-in-Err-clause-again : goal.returns-in-Err-clause-again
returns-in-Err-clause-again g c = λ fault e. absurd (no_both c.args.self.now.fault fault c.in-None.ensures e)
