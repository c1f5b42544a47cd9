-- None of the keys below has an older link.
use Rattle.std.proofs.Common.{ℕ, ◌≡◌, ◌<◌, ◌≤◌, Some}
use Rattle.slab.specs.Slab.{get}
use Rattle.serve_loop.proofs.numbers.oldest_from.Given as goal

abbrev pub invariant-loop-key : goal.invariant-loop-key
invariant-loop-key g l = record {
  next : l.next ≤ l.oldest;
  oldest : (key : ℕ) (x : _) → key < l.key → get l.live key ≡ Some x → l.next ≤ x.link → l.oldest ≤ x.link;
}
