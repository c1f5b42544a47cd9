use Rattle.std.proofs.Common.{◌≡◌, take, map}
use Rattle.triple_table.specs.Rows.{row_of}
use Rattle.triple_table.proofs.build.ordered_rows.Given as goal

abbrev pub invariant-loop-triple : goal.invariant-loop-triple
invariant-loop-triple l = l.rows.items ≡ map (row_of l.order) (take l.triple-index l.ids)
