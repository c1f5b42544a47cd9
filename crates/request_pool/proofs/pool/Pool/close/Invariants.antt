-- All that is held no longer is closed.
use Rattle.std.proofs.Common.{◌≡◌}
use Rattle.tpf_base.specs.Links.{SameAllowed}
use Rattle.request_pool.specs.Owned.{held_on}
use Rattle.request_pool.specs.Closing.{count_held}
use Rattle.request_pool.proofs.Closing.{Closing}
use Rattle.request_pool.proofs.pool.Pool.close.Given as goal

abbrev pub invariant-loop-link : goal.invariant-loop-link
invariant-loop-link g l = record {
  closing : Closing (held_on l.initial.self) (held_on l.self) (g.W.Wire.state l.initial.wire) (g.W.Wire.state l.wire);
  kept : l.self ≡ record l.initial.self { polled = l.self.polled; due = l.self.due; spare = l.self.spare };
  allowed : SameAllowed (g.W.Wire.allows l.initial.wire) (g.W.Wire.allows l.wire);
}

abbrev pub decreases-loop-link : goal.decreases-loop-link
decreases-loop-link g l = count_held l.self
