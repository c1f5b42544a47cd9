use Rattle.std.specs.List.{AllByRecursion}
use Rattle.row_algebra.specs.Algebra.{HaveWidth}
use Rattle.query_cases.proofs.rows.blocks_of.Given as goal

abbrev pub invariant-loop-text : goal.invariant-loop-text
invariant-loop-text l = AllByRecursion (HaveWidth l.names) l.blocks.items
