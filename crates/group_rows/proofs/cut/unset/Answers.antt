-- Each turn adds one flag that is not set; at the end there are as many as were asked for.
use Rattle.std.proofs.Common.{◌≡◌, ◌++◌, ◌∷◌, [], Bool, List, false, replicate, ap, ◌∙◌, arith}
use Rattle.std.proofs.lemmas.List.{replicate_more}
use Rattle.std.proofs.lemmas.Result.{IfOk-from_err}
use Rattle.group_rows.proofs.cut.unset.Goals as goal

pub returns-in_err-flags : goal.returns-in_err-flags
returns-in_err-flags c = IfOk-from_err _ _ c.from_residual.ensures.0

pub loop-init : goal.loop-init
loop-init c = c.in_ok-flags.ensures.items

pub returns-in_err-push : goal.returns-in_err-push
returns-in_err-push c = IfOk-from_err _ _ c.from_residual-in_err-push.ensures.0

pub loop-preserved : goal.loop-preserved
loop-preserved c = c.in_ok-push.ensures.items ∙ ap (λ (l : List Bool). l ++ false ∷ []) c.loop.invariant ∙ replicate_more c.loop.counter false

pub returns : goal.returns
returns c =
    let all : c.loop.counter ≡ c.args.count = omega arith in
    c.loop.invariant ∙ ap (λ n. replicate n false) all
