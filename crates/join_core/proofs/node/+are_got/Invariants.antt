use Rattle.std.proofs.Common.{length}
use Rattle.join_core.proofs.node.+are_got.Given as goal

abbrev pub decreases-are_got : goal.decreases-are_got
decreases-are_got l = length l.firsts.now
