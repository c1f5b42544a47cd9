-- Each turn adds what the row leaves of one bound name.
use Rattle.std.proofs.Common.{List, ◌++◌, append-nil, map, sym, ap, ◌∙◌}
use Rattle.std.proofs.lemmas.List.{take_all}
use Rattle.std.proofs.lemmas.Result.{IfOk-from_err}
use Rattle.bgp_core.specs.declared.row.Bound.{Bound}
use Rattle.bgp_core.specs.Pairs.{unbound_in, unless_bound}
use Rattle.bgp_core.specs.Rows.{bound_pair}
use Rattle.bgp_core.specs.Solutions.{term_at}
use Rattle.bgp_core.proofs.Steps.{adds_more}
use Rattle.bgp_core.proofs.row.add_unbound.Goals as goal

pub loop-one-init : goal.loop-one-init
loop-one-init c = sym (append-nil _)

pub returns-in_err-add_unless_bound : goal.returns-in_err-add_unless_bound
returns-in_err-add_unless_bound c = IfOk-from_err _ _ c.from_residual.ensures.0

pub loop-one-preserved : goal.loop-one-preserved
loop-one-preserved c =
    adds_more c.args.from.now c.loop-one.one-index c.one-item.result c.loop-one-test.true c.one-item.is bound_pair (λ b. unless_bound (term_at c.args.row.now b.0) b)
    (map bound_pair c.args.to.now.items) (map bound_pair c.loop-one.to.items) (map bound_pair c.add_unless_bound.new.to.items) c.loop-one.invariant c.in_ok-add_unless_bound.ensures

pub returns : goal.returns
returns c = c.loop-one.invariant ∙ ap (λ (bs : List Bound). map bound_pair c.args.to.now.items ++ unbound_in c.args.row.now (map bound_pair bs)) (take_all _ _ c.loop-one-test.false)
