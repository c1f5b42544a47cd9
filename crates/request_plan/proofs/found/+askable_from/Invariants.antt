use Rattle.std.proofs.Common.{◌-◌, length}
use Rattle.request_plan.proofs.found.+askable_from.Given as goal

abbrev pub decreases-askable_from : goal.decreases-askable_from
decreases-askable_from l = length l.patterns.now - l.index
