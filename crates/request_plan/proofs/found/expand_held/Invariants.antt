use Rattle.std.proofs.Common.{◌≡◌, take}
use Rattle.request_plan.specs.Plans.{found}
use Rattle.request_plan.proofs.found.expand_held.Given as goal

abbrev pub invariant-loop-triple : goal.invariant-loop-triple
invariant-loop-triple l = l.found.items ≡ found l.chosen l.block (take l.triple-index l.held)
