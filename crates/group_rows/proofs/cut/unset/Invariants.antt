use Rattle.std.proofs.Common.{◌≡◌, replicate, false}
use Rattle.group_rows.proofs.cut.unset.Given as goal

abbrev pub invariant-loop : goal.invariant-loop
invariant-loop l = l.flags.items ≡ replicate l.counter false
