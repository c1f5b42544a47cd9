-- No key below has a newer link.
use Rattle.std.proofs.Common.{ℕ, ◌≡◌, ◌<◌, ◌≤◌, Some}
use Rattle.slab.specs.Slab.{get}
use Rattle.serve_loop.proofs.numbers.beyond.Given as goal

abbrev pub invariant-loop-key : goal.invariant-loop-key
invariant-loop-key g l = record {
  all : (key : ℕ) (x : _) → key < l.key → get l.live key ≡ Some x → x.link ≤ l.beyond;
  less : (key : ℕ) (x : _) → key < l.key → get l.live key ≡ Some x → x.link < 18446744073709551615 → x.link < l.beyond;
  within : (n : ℕ) → ((key : ℕ) (x : _) → get l.live key ≡ Some x → x.link < n) → l.beyond ≤ n;
}
