use Rattle.std.proofs.Common.{map, take_all, ap, ◌∙◌, arith}
use Rattle.std.specs.Rc.{rc_value}
use Rattle.request_plan.proofs.Lists.{mapped-more, mapped-length}
use Rattle.request_plan.proofs.pattern_list.share_all.Goals as goal

pub loop-pattern-preserved : goal.loop-pattern-preserved
loop-pattern-preserved c =
    mapped-more rc_value c.args.patterns.now c.loop-pattern.pattern-index c.pattern-item.result _ _ c.loop-pattern-test.true c.pattern-item.is c.loop-pattern.invariant c.in_ok-share.ensures

pub returns-clause-patterns : goal.returns-clause-patterns
returns-clause-patterns c =
    let end = c.loop-pattern-test.false in
    c.loop-pattern.invariant ∙ ap (λ l. map rc_value l) (take_all c.loop-pattern.pattern-index c.args.patterns.now (omega (arith, end)))

pub returns-clause-count : goal.returns-clause-count
returns-clause-count c =
    let end = c.loop-pattern-test.false in
    mapped-length rc_value c.loop-pattern.copy.items c.args.patterns.now (c.loop-pattern.invariant ∙ ap (λ l. map rc_value l) (take_all c.loop-pattern.pattern-index c.args.patterns.now (omega (arith, end))))
