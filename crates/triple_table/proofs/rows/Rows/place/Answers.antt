use Rattle.std.proofs.Common.{◌+◌, ◌-◌, ◌/◌, refl}
use Rattle.triple_table.proofs.RowOrder.{row_up, row_down}
use Rattle.triple_table.proofs.rows.Rows.place.Goals as goal

pub loop-low-preserved-then-goes_before : goal.loop-low-preserved-then-goes_before
loop-low-preserved-then-goes_before g c =
    row_up c.args.self.now c.requires c.args.bound c.args.with_equal c.loop-low.low c.loop-low.high c.args.steps.now c.loop-low.steps _ (c.loop-low.low + (c.loop-low.high - c.loop-low.low) / 2) c.goes_before.result c.compare.result
    c.compare.ensures.cost refl c.loop-low-test.true c.loop-low.invariant c.compare.ensures.value c.goes_before.ensures c.if-goes_before.true

pub loop-low-preserved : goal.loop-low-preserved
loop-low-preserved g c =
    row_down c.args.self.now c.requires c.args.bound c.args.with_equal c.loop-low.low c.loop-low.high c.args.steps.now c.loop-low.steps _ (c.loop-low.low + (c.loop-low.high - c.loop-low.low) / 2) c.goes_before.result c.compare.result
    c.compare.ensures.cost refl c.loop-low-test.true c.loop-low.invariant c.compare.ensures.value c.goes_before.ensures c.if-goes_before.false
