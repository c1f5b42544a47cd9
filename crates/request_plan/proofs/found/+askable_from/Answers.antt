use Rattle.std.proofs.Common.{◌<◌, length, ◌∙◌, arith}
use Rattle.request_plan.proofs.Valid.{askable-yes, askable-no}
use Rattle.request_plan.proofs.found.+askable_from.Goals as goal

pub returns-then-instance_askable : goal.returns-then-instance_askable
returns-then-instance_askable t c =
    let below : c.args.index < length c.args.patterns.now = omega arith in
    askable-yes c.args.row.now c.args.patterns.now c.args.index c.deref.result.now c.instance_askable.result c.askable_from.result below (λ p e. c.deref.ensures ∙ c.at.ensures p e) c.instance_askable.ensures c.if-instance_askable.true c.askable_from.ensures

pub returns-else-instance_askable : goal.returns-else-instance_askable
returns-else-instance_askable t c =
    let below : c.args.index < length c.args.patterns.now = omega arith in
    askable-no c.args.row.now c.args.patterns.now c.args.index c.deref.result.now c.instance_askable.result below (λ p e. c.deref.ensures ∙ c.at.ensures p e) c.instance_askable.ensures c.if-instance_askable.false
