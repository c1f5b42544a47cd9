use Rattle.std.proofs.Common.{take}
use Rattle.std.specs.List.{AllByRecursion}
use Rattle.bgp_core.specs.Queries.{IsValidPattern}
use Rattle.query_command.proofs.laws.patterns_are_valid.Given as goal

abbrev pub invariant-loop-pattern : goal.invariant-loop-pattern
invariant-loop-pattern l = AllByRecursion IsValidPattern (take l.pattern-index l.patterns)
