use Rattle.std.proofs.Common.{ℕ, ◌≡◌, ◌<◌, true, length, get_or}
use Rattle.triple_table.specs.declared.ids.IdPattern.{IdPattern}
use Rattle.restricted_pages.specs.Patterns.{are_apart}
use Rattle.restricted_pages.proofs.patterns.are_disjoint.Given as goal

abbrev pub invariant-loop-i : goal.invariant-loop-i
invariant-loop-i l = (i j : ℕ) (d : IdPattern) → i < l.i → i < j → j < length l.patterns → are_apart (get_or l.patterns i d) (get_or l.patterns j d) ≡ true

abbrev pub invariant-loop-j : goal.invariant-loop-j
invariant-loop-j l = (j : ℕ) (d : IdPattern) → l.i < j → j < l.j → are_apart (get_or l.patterns l.i d) (get_or l.patterns j d) ≡ true
