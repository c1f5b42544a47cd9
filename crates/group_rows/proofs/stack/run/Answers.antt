use Rattle.std.proofs.Common.{◌<◌, length, arith}
use Rattle.group_rows.proofs.Steps.{run_step}
use Rattle.group_rows.proofs.Widths.{blocks_keep, stack_keeps}
use Rattle.group_rows.proofs.stack.run.Goals as goal

pub loop-step-preserved : goal.loop-step-preserved
loop-step-preserved c =
    let names = c.args.names.now in
    let steps = c.args.steps.now in
    let step = c.step-item.result in
    let blocks = c.loop-step.blocks.items in
    let stack = c.loop-step.stack.items in
    let below : c.loop-step.step-index < length c.args.steps.now = omega arith in (
      run_step names steps c.loop-step.step-index step blocks stack _ _ _ below c.step-item.is c.in_ok-take_step.ensures.blocks c.in_ok-take_step.ensures.stack c.loop-step.invariant.0,
      blocks_keep (length names) step blocks _ c.loop-step.invariant.1 c.in_ok-take_step.ensures.blocks,
      stack_keeps names step blocks stack _ c.loop-step.invariant.1 c.loop-step.invariant.2 c.in_ok-take_step.ensures.stack,
    )
