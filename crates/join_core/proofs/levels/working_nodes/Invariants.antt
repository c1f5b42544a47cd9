use Rattle.std.proofs.Common.{◌≡◌, min, take}
use Rattle.std.specs.List.{count_by}
use Rattle.join_core.specs.Events.{works}
use Rattle.join_core.specs.Joins.{nodes}
use Rattle.join_core.specs.Levels.{plain}
use Rattle.join_core.proofs.levels.working_nodes.Given as goal

abbrev pub invariant-loop-level : goal.invariant-loop-level
invariant-loop-level l = l.count ≡ min (count_by works (nodes (take l.level-index (plain l.levels)))) 18446744073709551615
