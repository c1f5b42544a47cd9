-- The bytes were sent so far; where none were, the wire is as it was.
use Rattle.std.proofs.Common.{◌≡◌, ◌-◌, length}
use Rattle.tpf_base.specs.Links.{SameAllowed}
use Rattle.tpf_base.specs.Sending.{SendsFrom}
use Rattle.tpf_base.proofs.send.send_rest.Given as goal

abbrev pub invariant-loop-sent : goal.invariant-loop-sent
invariant-loop-sent g l = record {
  sends : SendsFrom l.link l.bytes l.initial.sent l.sent (g.W.Wire.state l.initial.wire) (g.W.Wire.state l.wire);
  still : l.sent ≡ l.initial.sent → g.W.Wire.state l.wire ≡ g.W.Wire.state l.initial.wire;
  allowed : SameAllowed (g.W.Wire.allows l.initial.wire) (g.W.Wire.allows l.wire);
}

abbrev pub decreases-loop-sent : goal.decreases-loop-sent
decreases-loop-sent g l = length l.bytes - l.sent
