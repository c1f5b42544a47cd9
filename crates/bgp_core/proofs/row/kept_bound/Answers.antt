-- Each turn adds one bound name where it is kept.
use Rattle.std.proofs.Common.{List, true, slice_index_or, map, ap, ◌∙◌}
use Rattle.std.proofs.lemmas.List.{take_all}
use Rattle.std.proofs.lemmas.Result.{IfOk-from_err}
use Rattle.bgp_core.specs.declared.row.Bound.{Bound}
use Rattle.bgp_core.specs.Pairs.{kept_pairs, pair_if}
use Rattle.bgp_core.specs.Rows.{bound_pair}
use Rattle.bgp_core.proofs.Steps.{gives_more}
use Rattle.bgp_core.proofs.row.kept_bound.Goals as goal

pub returns-in_err-kept : goal.returns-in_err-kept
returns-in_err-kept c = IfOk-from_err _ _ c.from_residual.ensures.0

pub loop-one-init : goal.loop-one-init
loop-one-init c = ap (map bound_pair) c.in_ok-kept.ensures.items

pub returns-in_err-add_if_kept : goal.returns-in_err-add_if_kept
returns-in_err-add_if_kept c = IfOk-from_err _ _ c.from_residual-in_err-add_if_kept.ensures.0

pub loop-one-preserved : goal.loop-one-preserved
loop-one-preserved c =
    gives_more c.args.bound.now c.loop-one.one-index c.one-item.result c.loop-one-test.true c.one-item.is bound_pair (λ b. pair_if (slice_index_or c.args.keep.now b.0 true) b)
    (map bound_pair c.loop-one.kept.items) (map bound_pair c.add_if_kept.new.to.items) c.loop-one.invariant c.in_ok-add_if_kept.ensures

pub returns : goal.returns
returns c = c.loop-one.invariant ∙ ap (λ (bs : List Bound). kept_pairs c.args.keep.now (map bound_pair bs)) (take_all _ _ c.loop-one-test.false)
