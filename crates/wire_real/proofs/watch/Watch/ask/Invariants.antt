use Rattle.std.proofs.Common.{◌≡◌}
use Rattle.wire_real.specs.Accounts.{SameAccounts}
use Rattle.wire_real.specs.Sockets.{accounts, door_at}
use Rattle.wire_real.proofs.watch.Watch.ask.Given as goal

abbrev pub invariant-loop-event : goal.invariant-loop-event
invariant-loop-event g l = SameAccounts (accounts l.initial.sockets) (accounts l.sockets) × (door_at l.door ≡ door_at l.initial.door)
