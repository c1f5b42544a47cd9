use Rattle.std.proofs.Common.{length}
use Rattle.bgp_core.proofs.row.+find.Given as goal

abbrev pub decreases-find : goal.decreases-find
decreases-find l = length l.bound.now
