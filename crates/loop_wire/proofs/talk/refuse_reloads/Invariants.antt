use Rattle.loop_wire.specs.Response.{Stays}
use Rattle.loop_wire.proofs.talk.refuse_reloads.Given as goal

abbrev pub invariant-loop : goal.invariant-loop
invariant-loop g l = record {
  suits : g.C.Converses.Suits l.server l.connection;
  stays : Stays g.C.Converses.kind (g.C.Server.Serves.serving l.server) l.fn.connection l.connection;
}
