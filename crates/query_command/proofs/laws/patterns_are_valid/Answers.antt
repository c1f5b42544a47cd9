use Rattle.std.proofs.Common.{◌<◌, length, arith}
use Rattle.bgp_core.specs.Queries.{IsValidPattern}
use Rattle.query_command.proofs.ValidBlocks.{all_more}
use Rattle.query_command.proofs.laws.patterns_are_valid.Goals as goal

pub loop-pattern-preserved : goal.loop-pattern-preserved
loop-pattern-preserved c =
    let below : c.loop-pattern.pattern-index < length c.args.patterns.now = omega arith in
    all_more IsValidPattern c.args.patterns.now c.loop-pattern.pattern-index c.pattern-item.result below c.pattern-item.is c.loop-pattern.invariant c.is_valid.ensures
