use Rattle.std.proofs.Common.{◌≡◌, ◌≤◌, drop}
use Rattle.group_faults.specs.declared.limits.TheConstants.{MOST_OPEN}
use Rattle.group_faults.specs.Faults.{deep_from}
use Rattle.group_faults.proofs.limits.first_deep.Given as goal

abbrev pub invariant-loop-word : goal.invariant-loop-word
invariant-loop-word l = (l.depth ≤ MOST_OPEN) × (deep_from l.depth (drop l.word-index l.words) ≡ deep_from 0 l.words)
