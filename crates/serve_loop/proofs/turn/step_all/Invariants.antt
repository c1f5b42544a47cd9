-- The keys below were stepped, and what they did is a part of the turn; the connections of the others are as they were.
use Rattle.std.proofs.Common.{ℕ, ◌≡◌, ◌+◌, ◌≤◌, length}
use Rattle.std.specs.Prelude.{◌↔◌}
use Rattle.slab.specs.Slab.{get, slab_len}
use Rattle.tpf_base.specs.Links.{WireState}
use Rattle.serve_loop.specs.Parts.{parted}
use Rattle.serve_loop.specs.Relates.{Relates, SuitsWire}
use Rattle.serve_loop.specs.Asks.{AnswersBelow}
use Rattle.serve_loop.specs.Calls.{StepsBelow}
use Rattle.serve_loop.specs.Steps.{TurnsTo}
use Rattle.serve_loop.specs.Traffic.{moment}
use Rattle.serve_loop.proofs.LastLemmas.{GoOnBelow}
use Rattle.serve_loop.proofs.turn.step_all.Given as goal

abbrev pub invariant-loop-key : goal.invariant-loop-key
invariant-loop-key g l = record {
  room : length l.buffer ≡ length l.fn.buffer;
  suits : SuitsWire g.C.Converses.Suits l.server (λ key. get l.live key) (g.W.Wire.state l.wire);
  len : slab_len l.live + l.turned.ended ≡ slab_len l.fn.live;
  few : l.turned.starved ≤ l.turned.ended;
  untouched : (key : ℕ) → l.key ≤ key → get l.live key ≡ get l.fn.live key;
  turns : (first : _) (since : _) (t : _) → Relates g.C.Converses.kind (g.S.Supply.may l.fn.supply) first since t (get l.fn.live) (slab_len l.fn.live)
      (moment (g.C.Server.Serves.serving l.fn.server) (g.S.Supply.state l.fn.supply) (g.W.Wire.state l.fn.wire))
      → TurnsTo g.C.Converses.kind (g.S.Supply.may l.fn.supply) first since t l.turned (get l.live) (slab_len l.live)
      (moment (g.C.Server.Serves.serving l.fn.server) (g.S.Supply.state l.fn.supply) (g.W.Wire.state l.fn.wire))
      (moment (g.C.Server.Serves.serving l.server) (g.S.Supply.state l.supply) (g.W.Wire.state l.wire));
  asks : (w : WireState) → AnswersBelow g.C.Converses.kind (g.S.Supply.may l.fn.supply) (parted l.part (get l.fn.live)) l.key
      (moment (g.C.Server.Serves.serving l.fn.server) (g.S.Supply.state l.fn.supply) w)
      (moment (g.C.Server.Serves.serving l.server) (g.S.Supply.state l.supply) w);
  lasts : GoOnBelow g.C.Converses.kind l.key (parted l.part (get l.fn.live)) (get l.live);
  below : StepsBelow g.C.Converses.kind l.turned l.key (parted l.part (get l.fn.live)) (g.W.Wire.state l.fn.wire) (g.W.Wire.state l.wire);
  follows : g.C.Server.Serves.Follows l.fn.server l.server;
  keeps : g.S.Supply.Keeps l.fn.supply l.supply;
  same : (data_set : _) → g.S.Supply.may l.supply data_set ↔ g.S.Supply.may l.fn.supply data_set;
}
