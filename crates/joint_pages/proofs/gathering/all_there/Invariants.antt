use Rattle.std.proofs.Common.{◌≡◌, drop}
use Rattle.joint_pages.specs.Parts.{are_there}
use Rattle.joint_pages.proofs.gathering.all_there.Given as goal

abbrev pub invariant-loop-part : goal.invariant-loop-part
invariant-loop-part l = are_there (drop l.part-index l.parts) ≡ are_there l.parts
