-- Each step leaves a pool that suits its wire.
use Rattle.std.proofs.Common.{◌-◌}
use Rattle.request_pool.specs.Owned.{SuitsWire}
use Rattle.client_cases.proofs.stepping.add_steps.Given as goal

abbrev pub invariant-loop-done : goal.invariant-loop-done
invariant-loop-done g l = SuitsWire l.pool (g.W.Wire.state l.wire)

abbrev pub decreases-loop-done : goal.decreases-loop-done
decreases-loop-done g l = l.most - l.done
