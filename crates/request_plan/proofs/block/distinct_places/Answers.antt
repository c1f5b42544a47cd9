use Rattle.request_plan.proofs.Distinct.{places-behind}
use Rattle.request_plan.proofs.block.distinct_places.Goals as goal

pub loop-row-preserved : goal.loop-row-preserved
loop-row-preserved c =
    places-behind c.args.pattern.now c.args.block.now c.block.inside.first c.block.inside.others.items c.deref-row-items.result.now c.loop-row.row-index _ c.loop-row.distinct.items c.add_places-in-loop-row.new.distinct.items c.block.view_is c.deref-row-items.ensures.value c.loop-row-test.true c.row-item.is c.loop-row.invariant c.in_ok-add_places-2.ensures
