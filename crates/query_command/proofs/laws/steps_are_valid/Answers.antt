use Rattle.std.proofs.Common.{◌<◌, length, arith}
use Rattle.query_command.specs.Over.{IsValidStep}
use Rattle.query_command.proofs.ValidBlocks.{all_more}
use Rattle.query_command.proofs.laws.steps_are_valid.Goals as goal

pub loop-step-preserved : goal.loop-step-preserved
loop-step-preserved c =
    let below : c.loop-step.step-index < length c.args.steps.now = omega arith in
    all_more IsValidStep c.args.steps.now c.loop-step.step-index c.step-item.result below c.step-item.is c.loop-step.invariant c.step_is_valid.ensures
