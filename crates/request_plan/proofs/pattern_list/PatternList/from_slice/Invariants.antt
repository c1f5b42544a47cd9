use Rattle.std.proofs.Common.{◌≡◌, take, map}
use Rattle.std.specs.Rc.{rc_value}
use Rattle.request_plan.proofs.pattern_list.PatternList.from_slice.Given as goal

abbrev pub invariant-loop-pattern : goal.invariant-loop-pattern
invariant-loop-pattern l = map rc_value l.list.items ≡ take l.pattern-index l.patterns
