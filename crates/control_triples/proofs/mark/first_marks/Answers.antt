use Rattle.std.proofs.Common.{arith}
use Rattle.control_triples.proofs.Firsts.{marks_step, seen_step, marked_all}
use Rattle.control_triples.proofs.mark.first_marks.Goals as goal

pub loop-quad-preserved : goal.loop-quad-preserved
loop-quad-preserved c =
    let all = c.args.quads.now in
    let i = c.loop-quad.quad-index in
    let q = c.quad-item.result in (
      marks_step all i q c.loop-quad-test.true c.quad-item.is c.loop-quad.marks.items _ _ (c.loop-quad.invariant.1 q.triple) c.in_ok-add_mark.ensures.marks _ c.loop-quad.invariant.0,
      λ t. seen_step all i q c.loop-quad-test.true c.quad-item.is t _ _ (c.loop-quad.invariant.1 t) (c.in_ok-add_mark.ensures.seen t),
    )

pub returns : goal.returns
returns c =
    let past = c.loop-quad-test.false in
    marked_all c.args.quads.now c.loop-quad.quad-index c.loop-quad.marks.items (omega (arith, past)) c.loop-quad.invariant.0
