use Rattle.std.proofs.Common.{◌-◌, length}
use Rattle.request_plan.proofs.block.+fitting_from.Given as goal

abbrev pub decreases-fitting_from : goal.decreases-fitting_from
decreases-fitting_from l = length l.patterns.now - l.index
