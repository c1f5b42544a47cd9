use Rattle.std.proofs.Common.{◌≡◌, suc, List, length, ap, sym, ◌∙◌, arith}
use Rattle.std.specs.Vec.Iter.{into_iter_items}
use Rattle.joint_pages.specs.Parts.{PartData, page_of, pages_in}
use Rattle.joint_pages.specs.Joining.{with_pages}
use Rattle.joint_pages.proofs.Takings.{part-step}
use Rattle.joint_pages.proofs.joining.take_parts.Goals as goal

pub loop-part-preserved : goal.loop-part-preserved
loop-part-preserved c =
    let rest = into_iter_items c.next.new.self in
    let left = c.in-Some.ensures.steps.0 in
    let now = c.in_ok-take_part.ensures in
    let long : length (into_iter_items c.loop-part.part-iterator) ≡ suc (length rest) = ap (λ (l : List PartData). length l) left in
    let room = c.loop-part.invariant.count in
    let more = now.count in
    record {
      pages = part-step c.loop-part.joining c.take_part.new.self (page_of c.in-Some.part.page) (pages_in rest) now.taken ∙ ap (λ (l : List PartData). with_pages c.loop-part.joining (pages_in l)) (sym left) ∙ c.loop-part.invariant.pages;
      count = omega (arith, long, room, more);
    }

pub take_part-requires : goal.take_part-requires
take_part-requires c =
    let left = c.in-Some.ensures.steps.0 in
    let long : length (into_iter_items c.loop-part.part-iterator) ≡ suc (length (into_iter_items c.next.new.self)) = ap (λ (l : List PartData). length l) left in
    let room = c.loop-part.invariant.count in
    omega (arith, long, room)
