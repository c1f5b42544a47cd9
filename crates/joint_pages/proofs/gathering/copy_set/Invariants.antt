use Rattle.std.proofs.Common.{◌≡◌, ◌++◌}
use Rattle.joint_pages.proofs.gathering.copy_set.Given as goal

abbrev pub invariant-loop-triple : goal.invariant-loop-triple
invariant-loop-triple l = l.copy ++ l.triple-iterator ≡ l.fn.set
