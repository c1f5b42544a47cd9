-- Each name's flag joins those before it; behind the last one all have joined.
use Rattle.std.proofs.Common.{◌≤◌, ◌++◌, ◌∷◌, [], not, length, ap, sym, ◌∙◌, arith}
use Rattle.std.proofs.lemmas.List.{take_all, map_more}
use Rattle.std.proofs.lemmas.Result.{IfOk-from_err}
use Rattle.group_rows.specs.Evaluation.{is_blank_text, variables}
use Rattle.group_rows.proofs.cut.variables.Goals as goal

pub returns-in_err-flags : goal.returns-in_err-flags
returns-in_err-flags c = IfOk-from_err _ _ c.from_residual.ensures.0

pub loop-name-init : goal.loop-name-init
loop-name-init c = c.in_ok-flags.ensures.items

pub returns-in_err-push : goal.returns-in_err-push
returns-in_err-push c = IfOk-from_err _ _ c.from_residual-in_err-push.ensures.0

pub loop-name-preserved : goal.loop-name-preserved
loop-name-preserved c =
    c.in_ok-push.ensures.items ∙
    (λ k. c.loop-name.invariant k ++ not ((c.is_blank_text.ensures ∙ ap is_blank_text (c.as_str.ensures.value ∙ c.name-item.is)) k) ∷ []) ∙
    sym (map_more (λ t. not (is_blank_text t)) c.args.names.now c.loop-name.name-index c.name-item.result c.loop-name-test.true)

pub returns : goal.returns
returns c =
    let past : length c.args.names.now ≤ c.loop-name.name-index = omega (arith, c.loop-name-test.false) in
    c.loop-name.invariant ∙ ap variables (take_all c.loop-name.name-index c.args.names.now past)
