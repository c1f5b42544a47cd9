use Rattle.std.proofs.Common.{◌≡◌, take, map}
use Rattle.std.specs.Rc.{rc_value}
use Rattle.request_plan.proofs.pattern_list.share_all.Given as goal

abbrev pub invariant-loop-pattern : goal.invariant-loop-pattern
invariant-loop-pattern l = map rc_value l.copy.items ≡ map rc_value (take l.pattern-index l.patterns)
