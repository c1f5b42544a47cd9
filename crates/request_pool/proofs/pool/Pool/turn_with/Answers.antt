-- The buffer is no part of what is seen.
use Rattle.std.proofs.Common.{refl}
use Rattle.request_pool.proofs.Suits.{suits_as}
use Rattle.request_pool.proofs.Steps.{steps_as}
use Rattle.request_pool.proofs.pool.Pool.turn_with.Goals as goal

pub returns-clause-steps : goal.returns-clause-steps
returns-clause-steps g c = steps_as c.go-stepped.result c.args.self.now c.args.self.now c.go-stepped.new.self c.keep_buffer.new.self (g.W.Wire.state c.args.wire.now) (g.W.Wire.state c.go-stepped.new.wire) refl c.keep_buffer.ensures c.go-stepped.ensures.steps

pub returns-clause-suits : goal.returns-clause-suits
returns-clause-suits g c = suits_as c.go-stepped.new.self c.keep_buffer.new.self (g.W.Wire.state c.go-stepped.new.wire) (g.W.Wire.state c.go-stepped.new.wire) c.keep_buffer.ensures refl c.go-stepped.ensures.suits
