-- So many links were given, each to a new connection.
use Rattle.std.proofs.Common.{◌≡◌, ◌+◌, ◌≤◌, true}
use Rattle.slab.specs.Slab.{get, slab_len}
use Rattle.tpf_base.specs.Links.{listens}
use Rattle.serve_loop.specs.declared.live.TheConstants.{MOST_LIVE}
use Rattle.serve_loop.specs.Traffic.{kept}
use Rattle.serve_loop.specs.Relates.{SuitsWire}
use Rattle.serve_loop.proofs.GreetLemmas.{GreetedSoFar}
use Rattle.serve_loop.proofs.turn.greet_all.Given as goal

abbrev pub invariant-loop-greeted : goal.invariant-loop-greeted
invariant-loop-greeted g l = record {
  listens : listens (g.W.Wire.state l.wire) ≡ true;
  few : slab_len l.live ≤ MOST_LIVE;
  suits : SuitsWire g.C.Converses.Suits l.server (λ key. get l.live key) (g.W.Wire.state l.wire);
  len : slab_len l.live ≡ slab_len l.fn.live + l.greeted;
  so_far : GreetedSoFar g.C.Converses.kind (kept l.fn.live) (kept l.live) (g.W.Wire.state l.fn.wire) (g.W.Wire.state l.wire);
}
