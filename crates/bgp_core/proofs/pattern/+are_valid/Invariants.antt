use Rattle.std.proofs.Common.{length}
use Rattle.bgp_core.proofs.pattern.+are_valid.Given as goal

abbrev pub decreases-are_valid : goal.decreases-are_valid
decreases-are_valid l = length l.patterns.now
