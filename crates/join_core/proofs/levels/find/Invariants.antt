use Rattle.std.proofs.Common.{take}
use Rattle.std.specs.Prelude.{is_some}
use Rattle.join_core.specs.Events.{waits_for}
use Rattle.join_core.specs.Joins.{NoneIn}
use Rattle.join_core.specs.Levels.{plain}
use Rattle.join_core.proofs.levels.find.Given as goal

abbrev pub invariant-loop-depth : goal.invariant-loop-depth
invariant-loop-depth l = NoneIn (λ n. is_some (waits_for l.ticket n)) (take l.depth (plain l.levels))
