use Rattle.std.proofs.Common.{◌≡◌, [], drop, length}
use Rattle.std.specs.List.{AllByRecursion}
use Rattle.group_rows.specs.Stacks.{run}
use Rattle.row_algebra.specs.Algebra.{HaveWidth}
use Rattle.group_rows.proofs.stack.run.Given as goal

abbrev pub invariant-loop-step : goal.invariant-loop-step
invariant-loop-step l = (run l.names (drop l.step-index l.steps) l.blocks.items l.stack.items ≡ run l.names l.steps l.initial.blocks.items [])
    × AllByRecursion (HaveWidth (length l.names)) l.blocks.items × AllByRecursion (HaveWidth (length l.names)) l.stack.items
