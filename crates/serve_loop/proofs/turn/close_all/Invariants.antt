-- The links of the keys below were closed; the connections of the others are as they were.
use Rattle.std.proofs.Common.{ℕ, ◌≡◌, ◌<◌, ◌≤◌, None}
use Rattle.slab.specs.Slab.{get}
use Rattle.serve_loop.specs.Calls.{LeavesBelow}
use Rattle.serve_loop.proofs.turn.close_all.Given as goal

abbrev pub invariant-loop-key : goal.invariant-loop-key
invariant-loop-key g l = record {
  gone : (key : ℕ) → key < l.key → get l.live key ≡ None;
  untouched : (key : ℕ) → l.key ≤ key → get l.live key ≡ get l.fn.live key;
  leaves : LeavesBelow l.key (get l.fn.live) (g.W.Wire.state l.fn.wire) (g.W.Wire.state l.wire);
}
