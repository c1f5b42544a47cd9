use Rattle.std.proofs.Common.{◌≡◌, drop}
use Rattle.loop_wire.specs.Standing.{first_at}
use Rattle.loop_wire.proofs.behind.first_at.Given as goal

abbrev pub invariant-loop-server : goal.invariant-loop-server
invariant-loop-server g l = first_at g.C.StandsAt.stands l.servers l.host l.port ≡ first_at g.C.StandsAt.stands (drop l.server-index l.servers) l.host l.port
