use Rattle.std.specs.VecDeque.{deque_len}
use Rattle.wire_real.specs.Accounts.{SameAccounts}
use Rattle.wire_real.specs.Sockets.{accounts}
use Rattle.wire_real.proofs.watch.Watch.next_ready.Given as goal

abbrev pub invariant-loop-link : goal.invariant-loop-link
invariant-loop-link l = SameAccounts (accounts l.initial.sockets) (accounts l.sockets)

abbrev pub decreases-loop-link : goal.decreases-loop-link
decreases-loop-link l = deque_len l.self.told
