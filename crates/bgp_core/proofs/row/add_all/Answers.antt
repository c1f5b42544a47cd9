-- Each turn adds one bound name, shared.
use Rattle.std.proofs.Common.{List, ◌++◌, append-nil, map, sym, ap, ◌∙◌}
use Rattle.std.proofs.lemmas.List.{take_all}
use Rattle.std.proofs.lemmas.Result.{IfOk-from_err}
use Rattle.bgp_core.specs.declared.row.Bound.{Bound}
use Rattle.bgp_core.specs.Rows.{bound_pair}
use Rattle.bgp_core.proofs.Steps.{shared_more}
use Rattle.bgp_core.proofs.row.add_all.Goals as goal

pub loop-one-init : goal.loop-one-init
loop-one-init c = sym (append-nil _)

pub bounds-from-one-index : goal.bounds-from-one-index
bounds-from-one-index c = c.loop-one-test.true

pub returns-in_err-share : goal.returns-in_err-share
returns-in_err-share c = IfOk-from_err _ _ c.from_residual.ensures.0

pub returns-in_err-push : goal.returns-in_err-push
returns-in_err-push c = IfOk-from_err _ _ c.from_residual-in_err-push.ensures.0

pub loop-one-preserved : goal.loop-one-preserved
loop-one-preserved c =
    shared_more c.args.from.now c.loop-one.one-index c.one-item.result c.loop-one-test.true c.one-item.is bound_pair (map bound_pair c.args.to.now.items) c.loop-one.to.items c.push.new.self.items c.in_ok-share.field-0 c.in_ok-share.ensures c.loop-one.invariant c.in_ok-push.ensures.items

pub returns : goal.returns
returns c = c.loop-one.invariant ∙ ap (λ (bs : List Bound). map bound_pair c.args.to.now.items ++ map bound_pair bs) (take_all _ _ c.loop-one-test.false)
