use Rattle.std.proofs.Common.{◌-◌, length, drop}
use Rattle.join_core.specs.Events.{is_idle}
use Rattle.join_core.specs.Joins.{NoneIn}
use Rattle.join_core.specs.Levels.{plain}
use Rattle.join_core.proofs.levels.deepest_idle.Given as goal

abbrev pub invariant-loop-back : goal.invariant-loop-back
invariant-loop-back l = NoneIn is_idle (drop (length (plain l.levels) - l.back) (plain l.levels))
