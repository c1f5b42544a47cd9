-- The pool goes on, and each start leaves fewer.
use Rattle.std.proofs.Common.{◌≡◌, ◌-◌}
use Rattle.tpf_base.specs.Links.{SameAllowed}
use Rattle.request_pool.specs.Runs.{Running}
use Rattle.request_pool.proofs.pool.Pool.start_all.Given as goal

abbrev pub invariant-loop-self : goal.invariant-loop-self
invariant-loop-self g l = record {
  running : Running l.initial.self l.self (g.W.Wire.state l.initial.wire) (g.W.Wire.state l.wire);
  due : l.self.due ≡ l.initial.self.due;
  allowed : SameAllowed (g.W.Wire.allows l.initial.wire) (g.W.Wire.allows l.wire);
}

abbrev pub decreases-loop-self : goal.decreases-loop-self
decreases-loop-self g l = l.self.budget - l.self.started
