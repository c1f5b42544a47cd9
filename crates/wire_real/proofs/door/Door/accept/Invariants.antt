use Rattle.std.proofs.Common.{◌≡◌, Some}
use Rattle.wire_real.specs.Sockets.{door_at}
use Rattle.wire_real.proofs.door.Door.accept.Given as goal

abbrev pub invariant-loop : goal.invariant-loop
invariant-loop l = door_at (Some l.self) ≡ door_at (Some l.initial.self)
