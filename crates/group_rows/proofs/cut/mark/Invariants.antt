use Rattle.std.proofs.Common.{◌≡◌, drop}
use Rattle.group_rows.specs.Evaluation.{marked}
use Rattle.group_rows.proofs.cut.mark.Given as goal

abbrev pub invariant-loop-number : goal.invariant-loop-number
invariant-loop-number l = marked (drop l.number-index l.numbers) l.flags ≡ marked l.numbers l.initial.flags
