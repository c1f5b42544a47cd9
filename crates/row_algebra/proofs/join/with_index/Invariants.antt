use Rattle.std.proofs.Common.{◌≡◌, take}
use Rattle.row_algebra.specs.Finding.{combined}
use Rattle.row_algebra.proofs.join.with_index.Given as goal

abbrev pub invariant-loop-row : goal.invariant-loop-row
invariant-loop-row l = l.rows.items ≡ combined l.keeps (take l.row-index l.left) l.right
