use Rattle.std.proofs.Common.{◌≡◌, take}
use Rattle.request_plan.proofs.round.copy_others.Given as goal

abbrev pub invariant-loop-other : goal.invariant-loop-other
invariant-loop-other l = l.copy.items ≡ take l.other-index l.others
