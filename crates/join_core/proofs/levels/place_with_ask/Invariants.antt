use Rattle.std.proofs.Common.{take}
use Rattle.join_core.specs.Events.{has_ask}
use Rattle.join_core.specs.Joins.{NoneIn}
use Rattle.join_core.specs.Levels.{plain}
use Rattle.join_core.proofs.levels.place_with_ask.Given as goal

abbrev pub invariant-loop-depth : goal.invariant-loop-depth
invariant-loop-depth l = NoneIn has_ask (take l.depth (plain l.levels))
