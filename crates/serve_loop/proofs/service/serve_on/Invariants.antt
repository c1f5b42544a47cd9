-- The turns so far ended so many connections, which are not enough.
use Rattle.std.proofs.Common.{◌≡◌, ◌-◌, ◌≤◌}
use Rattle.std.specs.Prelude.{◌↔◌, IfSome}
use Rattle.serve_loop.specs.Held.{held, held_count}
use Rattle.serve_loop.specs.Relates.{Relates, SuitsWire}
use Rattle.serve_loop.specs.declared.live.TheConstants.{MOST_LIVE}
use Rattle.serve_loop.specs.Calls.{ServesAlone}
use Rattle.serve_loop.specs.Steps.{ServesTo}
use Rattle.serve_loop.specs.Traffic.{moment}
use Rattle.serve_loop.proofs.ServiceLemmas.{SoFar}
use Rattle.serve_loop.proofs.AskedLemmas.{AskedSoFar}
use Rattle.serve_loop.proofs.service.serve_on.Given as goal

abbrev pub invariant-loop : goal.invariant-loop
invariant-loop g l = record {
  alone : ServesAlone (g.W.Wire.state l.fn.wire) (g.W.Wire.state l.wire);
  calm : (g.W.Wire.state l.wire).door.faults ≡ (g.W.Wire.state l.fn.wire).door.faults;
  few : held_count l.connections ≤ MOST_LIVE;
  suits : SuitsWire g.C.Converses.Suits l.server (λ key. held l.connections key) (g.W.Wire.state l.wire);
  serves : (first : _) (since : _) (t : _) → Relates g.C.Converses.kind (g.S.Supply.may l.fn.supply) first since t (held l.fn.connections) (held_count l.fn.connections)
      (moment (g.C.Server.Serves.serving l.fn.server) (g.S.Supply.state l.fn.supply) (g.W.Wire.state l.fn.wire))
      → ServesTo g.C.Converses.kind (g.S.Supply.may l.fn.supply) first since t l.served (held l.connections) (held_count l.connections)
      (moment (g.C.Server.Serves.serving l.fn.server) (g.S.Supply.state l.fn.supply) (g.W.Wire.state l.fn.wire))
      (moment (g.C.Server.Serves.serving l.server) (g.S.Supply.state l.supply) (g.W.Wire.state l.wire));
  so_far : SoFar g.C.Converses.kind (g.C.Server.Serves.serving l.fn.server).config l.stop_after l.served.connections (held_count l.connections) l.round (g.W.Wire.state l.fn.wire) (g.W.Wire.state l.wire);
  asked : AskedSoFar g.C.Converses.kind (g.S.Supply.may l.fn.supply) (held_count l.connections) l.round
      (moment (g.C.Server.Serves.serving l.fn.server) (g.S.Supply.state l.fn.supply) (g.W.Wire.state l.fn.wire))
      (moment (g.C.Server.Serves.serving l.server) (g.S.Supply.state l.supply) (g.W.Wire.state l.wire));
  fewer : IfSome l.stop_after (λ most. l.served.connections ≤ most - 1);
  follows : g.C.Server.Serves.Follows l.fn.server l.server;
  keeps : g.S.Supply.Keeps l.fn.supply l.supply;
  same : (data_set : _) → g.S.Supply.may l.supply data_set ↔ g.S.Supply.may l.fn.supply data_set;
}
