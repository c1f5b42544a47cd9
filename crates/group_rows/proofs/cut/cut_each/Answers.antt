-- Each row that is cut joins those before it; behind the last one all have joined.
use Rattle.std.proofs.Common.{◌≤◌, ◌++◌, ◌∷◌, [], map, length, ap, sym, ◌∙◌, arith}
use Rattle.std.proofs.lemmas.List.{take_all, map_more}
use Rattle.std.proofs.lemmas.Result.{IfOk-from_err}
use Rattle.bgp_core.specs.Merging.{kept}
use Rattle.group_rows.proofs.cut.cut_each.Goals as goal

pub returns-in_err-cut : goal.returns-in_err-cut
returns-in_err-cut c = IfOk-from_err _ _ c.from_residual.ensures.0

pub loop-row-init : goal.loop-row-init
loop-row-init c = c.in_ok-cut.ensures.items

pub bounds-rows-row-index : goal.bounds-rows-row-index
bounds-rows-row-index c = c.loop-row-test.true

pub returns-in_err-kept : goal.returns-in_err-kept
returns-in_err-kept c = IfOk-from_err _ _ c.from_residual-in_err-kept.ensures.0

pub returns-in_err-push : goal.returns-in_err-push
returns-in_err-push c = IfOk-from_err _ _ c.from_residual-in_err-push.ensures.0

pub loop-row-preserved : goal.loop-row-preserved
loop-row-preserved c =
    c.in_ok-push.ensures.items ∙
    (λ k. c.loop-row.invariant k ++ (c.in_ok-kept.ensures ∙ ap (kept c.args.flags.now) c.row-item.is) k ∷ []) ∙
    sym (map_more (kept c.args.flags.now) c.args.rows.now c.loop-row.row-index c.row-item.result c.loop-row-test.true)

pub returns : goal.returns
returns c =
    let past : length c.args.rows.now ≤ c.loop-row.row-index = omega (arith, c.loop-row-test.false) in
    c.loop-row.invariant ∙ ap (map (kept c.args.flags.now)) (take_all c.loop-row.row-index c.args.rows.now past)
