use Rattle.row_algebra.specs.Algebra.{HaveWidth}
use Rattle.query_cases.proofs.rows.block_of.Given as goal

abbrev pub invariant-loop-line : goal.invariant-loop-line
invariant-loop-line l = HaveWidth l.names l.rows.items
