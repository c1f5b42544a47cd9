use Rattle.std.proofs.Common.{◌≡◌}
use Rattle.std.specs.Vec.Iter.{into_iter_items}
use Rattle.joint_pages.specs.Parts.{pages_in}
use Rattle.joint_pages.proofs.only.only_page.Given as goal

abbrev pub invariant-loop-part : goal.invariant-loop-part
invariant-loop-part l = pages_in (into_iter_items l.part-iterator) ≡ pages_in l.fn.parts.items
