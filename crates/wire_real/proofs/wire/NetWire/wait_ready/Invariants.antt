use Rattle.std.proofs.Common.{◌≡◌}
use Rattle.wire_real.specs.Accounts.{SameAccounts}
use Rattle.wire_real.specs.Sockets.{accounts, door_at}
use Rattle.wire_real.proofs.wire.NetWire.wait_ready.Given as goal

abbrev pub invariant-asks : goal.invariant-asks
invariant-asks g l = SameAccounts (accounts l.initial.self.sockets) (accounts l.self.sockets) × (l.self.counts ≡ l.initial.self.counts) × (door_at l.self.door ≡ door_at l.initial.self.door)
