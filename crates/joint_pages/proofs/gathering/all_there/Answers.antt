use Rattle.std.proofs.Common.{◌<◌, length, sym, ◌∙◌, arith}
use Rattle.std.proofs.lemmas.Bool.{not-true, not-false}
use Rattle.joint_pages.proofs.Places.{there-step, there-stop, there-end}
use Rattle.joint_pages.proofs.gathering.all_there.Goals as goal

pub loop-part-preserved : goal.loop-part-preserved
loop-part-preserved c =
    let below : c.loop-part.part-index < length c.args.parts.now = omega arith in
    there-step c.args.parts.now c.loop-part.part-index c.part-item.result below c.part-item.is (not-false _ (sym c.is_awaited.ensures ∙ c.if-is_awaited.false)) ∙ c.loop-part.invariant

pub returns-then-is_awaited : goal.returns-then-is_awaited
returns-then-is_awaited c =
    let below : c.loop-part.part-index < length c.args.parts.now = omega arith in
    sym (there-stop c.args.parts.now c.loop-part.part-index c.part-item.result below c.part-item.is (not-true _ (sym c.is_awaited.ensures ∙ c.if-is_awaited.true))) ∙ c.loop-part.invariant

pub returns : goal.returns
returns c = sym (there-end c.args.parts.now c.loop-part.part-index (omega arith)) ∙ c.loop-part.invariant
