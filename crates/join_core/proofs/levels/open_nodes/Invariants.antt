use Rattle.std.proofs.Common.{◌≡◌, min, length, take}
use Rattle.join_core.specs.Joins.{nodes}
use Rattle.join_core.specs.Levels.{plain}
use Rattle.join_core.proofs.levels.open_nodes.Given as goal

abbrev pub invariant-loop-level : goal.invariant-loop-level
invariant-loop-level l = l.count ≡ min (length (nodes (take l.level-index (plain l.levels)))) 18446744073709551615
