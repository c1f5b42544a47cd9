use Rattle.std.proofs.Common.{take}
use Rattle.std.specs.List.{AllByRecursion}
use Rattle.query_command.specs.Over.{IsValidStep}
use Rattle.query_command.proofs.laws.steps_are_valid.Given as goal

abbrev pub invariant-loop-step : goal.invariant-loop-step
invariant-loop-step l = AllByRecursion IsValidStep (take l.step-index l.steps)
