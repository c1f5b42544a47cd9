use Rattle.std.proofs.Common.{◌≡◌, ◌++◌}
use Rattle.std.specs.Vec.Iter.{into_iter_items}
use Rattle.request_plan.specs.Plans.{askable_rows}
use Rattle.request_plan.proofs.found.askable_rows.Given as goal

abbrev pub invariant-loop-row : goal.invariant-loop-row
invariant-loop-row l = l.kept.items ++ askable_rows l.patterns (into_iter_items l.row-iterator) ≡ askable_rows l.patterns l.fn.rows.items
