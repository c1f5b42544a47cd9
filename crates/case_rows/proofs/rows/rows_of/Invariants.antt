use Rattle.std.proofs.Common.{◌≡◌, length, take, filter}
use Rattle.case_rows.specs.Rows.{begins_row}
use Rattle.case_rows.proofs.rows.rows_of.Given as goal

abbrev pub invariant-loop-line : goal.invariant-loop-line
invariant-loop-line l = length l.rows.items ≡ length (filter (λ line. begins_row line.now) (take l.line-index l.lines))
