use Rattle.std.proofs.Common.{◌≡◌, length}
use Rattle.query_cases.proofs.rows.row_of.Given as goal

abbrev pub invariant-loop-word : goal.invariant-loop-word
invariant-loop-word l = l.names ≡ length l.row
