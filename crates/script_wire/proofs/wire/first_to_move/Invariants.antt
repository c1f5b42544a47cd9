use Rattle.std.proofs.Common.{ℕ, ◌≡◌, ◌<◌, false}
use Rattle.script_wire.specs.Scripts.{may_move}
use Rattle.script_wire.proofs.wire.first_to_move.Given as goal

abbrev pub invariant-loop-k : goal.invariant-loop-k
invariant-loop-k l = (j : ℕ) → j < l.k → may_move l.scripts l.links j ≡ false
