use Rattle.std.proofs.Common.{ℕ, ◌≡◌, ◌<◌, ◌≤◌, get_or, false}
use Rattle.loop_wire.specs.Held.{no_link}
use Rattle.loop_wire.specs.Looped.{held_of}
use Rattle.loop_wire.proofs.links.first_ripe.Given as goal

abbrev pub invariant-loop-k : goal.invariant-loop-k
invariant-loop-k g l = (j : ℕ) → j < l.k → l.from ≤ j → (get_or (held_of l.links) j no_link).ripe ≡ false
