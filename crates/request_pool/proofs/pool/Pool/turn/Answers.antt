-- Nothing is held, or a step with the buffer.
use Rattle.std.proofs.Common.{refl, sym, ◌∙◌, ap, subst, inr}
use Rattle.request_pool.specs.Pools.{IsOverBudget, held}
use Rattle.request_pool.specs.Steps.{AtOnce}
use Rattle.request_pool.proofs.Suits.{suits_as}
use Rattle.request_pool.proofs.Steps.{none_held, none_counted, over_held, steps_as}
use Rattle.request_pool.proofs.pool.Pool.turn.Goals as goal

pub returns-then-held-eq0-clause-steps : goal.returns-then-held-eq0-clause-steps
returns-then-held-eq0-clause-steps g c = (none_held (held c.args.self.now) c.held.result c.held.ensures c.if-held-eq0.true, refl, refl)

pub returns-then-held-eq0-clause-over : goal.returns-then-held-eq0-clause-over
returns-then-held-eq0-clause-over g c = λ o. absurd (over_held c.args.self.now o (none_held (held c.args.self.now) c.held.result c.held.ensures c.if-held-eq0.true))

pub turn_with-requires-clause-suits : goal.turn_with-requires-clause-suits
turn_with-requires-clause-suits g c = suits_as c.args.self.now c.take_buffer.new.self (g.W.Wire.state c.args.wire.now) (g.W.Wire.state c.args.wire.now) c.take_buffer.ensures refl c.requires.suits

pub turn_with-requires-clause-some : goal.turn_with-requires-clause-some
turn_with-requires-clause-some g c = λ e. c.if-held-eq0.false (none_counted (held c.args.self.now) c.held.result c.held.ensures (ap held (sym c.take_buffer.ensures) ∙ e))

pub returns-in-Some-clause-steps : goal.returns-in-Some-clause-steps
returns-in-Some-clause-steps g c = steps_as c.turn_with.result c.args.self.now c.take_buffer.new.self c.turn_with.new.self c.turn_with.new.self (g.W.Wire.state c.args.wire.now) (g.W.Wire.state c.turn_with.new.wire) c.take_buffer.ensures refl c.turn_with.ensures.steps

pub returns-in-Some-clause-idle : goal.returns-in-Some-clause-idle
returns-in-Some-clause-idle g c = λ e. absurd (c.if-held-eq0.false (none_counted (held c.args.self.now) c.held.result c.held.ensures e))

pub returns-in-Some-clause-over : goal.returns-in-Some-clause-over
returns-in-Some-clause-over g c = λ o. c.turn_with.ensures.over (subst IsOverBudget (sym c.take_buffer.ensures) o)

pub returns-in-None-clause-steps : goal.returns-in-None-clause-steps
returns-in-None-clause-steps g c = AtOnce refl c.take_buffer.ensures refl

pub returns-in-None-clause-suits : goal.returns-in-None-clause-suits
returns-in-None-clause-suits g c = suits_as c.args.self.now c.take_buffer.new.self (g.W.Wire.state c.args.wire.now) (g.W.Wire.state c.args.wire.now) c.take_buffer.ensures refl c.requires.suits

pub returns-in-None-clause-idle : goal.returns-in-None-clause-idle
returns-in-None-clause-idle g c = λ e. absurd (c.if-held-eq0.false (none_counted (held c.args.self.now) c.held.result c.held.ensures e))

pub returns-in-None-clause-over : goal.returns-in-None-clause-over
returns-in-None-clause-over g c = λ o. inr refl
