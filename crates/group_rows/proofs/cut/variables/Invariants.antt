use Rattle.std.proofs.Common.{◌≡◌, take}
use Rattle.group_rows.specs.Evaluation.{variables}
use Rattle.group_rows.proofs.cut.variables.Given as goal

abbrev pub invariant-loop-name : goal.invariant-loop-name
invariant-loop-name l = l.flags.items ≡ variables (take l.name-index l.names)
