use Rattle.std.proofs.Common.{◌<◌, length, arith}
use Rattle.joint_pages.proofs.Places.{stranger-more}
use Rattle.joint_pages.proofs.gathering.place_in.Goals as goal

pub loop-place-preserved : goal.loop-place-preserved
loop-place-preserved c =
    let below : c.loop-place.place < length c.args.parts.now = omega arith in
    stranger-more c.args.parts.now c.loop-place.place c.index-parts-place.result c.args.ticket below c.index-parts-place.is c.loop-place.invariant (c.awaits.ensures.no c.if-awaits.false)

pub returns-then-awaits-clause-some : goal.returns-then-awaits-clause-some
returns-then-awaits-clause-some c = record { within = omega arith; part = c.index-parts-place.result; there = c.index-parts-place.is; awaits = c.awaits.ensures.yes c.if-awaits.true }
