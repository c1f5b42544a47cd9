use Rattle.std.proofs.Common.{◌<◌, length, arith}
use Rattle.plain_answers.proofs.Firsts.{seen_step, distinct_after_step}
use Rattle.plain_answers.proofs.solve.distinct.Goals as goal

pub loop-triple-preserved : goal.loop-triple-preserved
loop-triple-preserved c =
    let below : c.loop-triple.triple-index < length c.args.triples.now = omega arith in (
      distinct_after_step c.args.triples.now _ _ c.loop-triple.triple-index c.triple-item.result _ below c.triple-item.is (c.loop-triple.invariant.1 c.triple-item.result) c.in_ok-add_new.ensures.once _ c.loop-triple.invariant.0,
      λ q. seen_step c.args.triples.now c.loop-triple.triple-index c.triple-item.result q _ _ below c.triple-item.is (c.loop-triple.invariant.1 q) (c.in_ok-add_new.ensures.seen q),
    )
