-- Each byte that came is read; where none came, the wire is as it was.
use Rattle.std.proofs.Common.{◌≡◌, ◌+◌, ◌-◌, ◌<◌, ◌≤◌, [], length, true}
use Rattle.tpf_base.specs.HttpReply.{is_open}
use Rattle.tpf_base.specs.Links.{SameAllowed}
use Rattle.exchange.specs.Incoming.{most_kept}
use Rattle.exchange.specs.Receiving.{ReceivesFrom}
use Rattle.exchange.proofs.receiving.receive.Given as goal

abbrev pub invariant-loop-n : goal.invariant-loop-n
invariant-loop-n g l = record {
  comes : ReceivesFrom l.link l.initial.incoming l.incoming [] (g.W.Wire.state l.initial.wire) (g.W.Wire.state l.wire);
  goes_on : is_open l.incoming.place ≡ true;
  up : length l.initial.incoming.received ≤ length l.incoming.received;
  moved : length l.initial.incoming.received < length l.incoming.received → (g.W.Wire.state l.wire).idle ≡ 0;
  still : length l.incoming.received ≡ length l.initial.incoming.received → g.W.Wire.state l.wire ≡ g.W.Wire.state l.initial.wire;
  allowed : SameAllowed (g.W.Wire.allows l.initial.wire) (g.W.Wire.allows l.wire);
}

abbrev pub decreases-loop-n : goal.decreases-loop-n
decreases-loop-n g l = (most_kept l.incoming.limit + 1) - length l.incoming.received
