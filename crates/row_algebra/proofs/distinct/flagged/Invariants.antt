use Rattle.std.proofs.Common.{◌≡◌, ◌++◌}
use Rattle.std.specs.Vec.Iter.{into_iter_items}
use Rattle.row_algebra.specs.Finding.{flagged}
use Rattle.row_algebra.proofs.distinct.flagged.Given as goal

abbrev pub invariant-loop-row : goal.invariant-loop-row
invariant-loop-row l = l.kept.items ++ flagged l.left (into_iter_items l.row-iterator) ≡ flagged l.fn.flags l.fn.rows.items
