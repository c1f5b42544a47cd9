use Rattle.std.proofs.Common.{◌≡◌, length}
use Rattle.case_rows.proofs.files.told_of_rows.Given as goal

abbrev pub invariant-loop-row : goal.invariant-loop-row
invariant-loop-row g l = length l.told.items ≡ l.row-index
