use Rattle.std.proofs.Common.{length}
use Rattle.join_core.proofs.node.+first_waiting.Given as goal

abbrev pub decreases-first_waiting : goal.decreases-first_waiting
decreases-first_waiting l = length l.firsts.now
