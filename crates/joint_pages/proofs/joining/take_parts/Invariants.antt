use Rattle.std.proofs.Common.{◌≡◌, ◌+◌, ◌*◌, ◌≤◌, length}
use Rattle.std.specs.Vec.Iter.{into_iter_items}
use Rattle.joint_pages.specs.Parts.{pages_in}
use Rattle.joint_pages.specs.Joining.{with_pages, joining_behind}
use Rattle.joint_pages.proofs.joining.take_parts.Given as goal

abbrev pub invariant-loop-part : goal.invariant-loop-part
invariant-loop-part l = record {
  pages : with_pages l.joining (pages_in (into_iter_items l.part-iterator)) ≡ with_pages (joining_behind l.fn.taken) (pages_in l.fn.parts.items);
  count : l.joining.count + length (into_iter_items l.part-iterator) * 18446744073709551616 ≤ 340282366920938463463374607431768211456;
}
