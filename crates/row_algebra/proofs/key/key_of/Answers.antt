-- Each name's term joins the key; behind the last one all have theirs.
use Rattle.std.proofs.Common.{◌≤◌, ◌++◌, ◌∷◌, [], ℕ, List, length, map, ap, sym, ◌∙◌, arith}
use Rattle.std.specs.Prelude.{option_copied}
use Rattle.std.proofs.lemmas.List.{take_all, map_push, map_more}
use Rattle.std.proofs.lemmas.Result.{IfOk-from_err}
use Rattle.bgp_core.specs.Solutions.{term_at}
use Rattle.row_algebra.specs.Finding.{key_of}
use Rattle.row_algebra.proofs.key.key_of.Goals as goal

pub returns-in_err-key : goal.returns-in_err-key
returns-in_err-key c = IfOk-from_err _ _ c.from_residual.ensures.0

pub loop-name-init : goal.loop-name-init
loop-name-init c = ap (map option_copied) c.in_ok-key.ensures.items

pub returns-in_err-push : goal.returns-in_err-push
returns-in_err-push c = IfOk-from_err _ _ c.from_residual-in_err-push.ensures.0

pub loop-name-preserved : goal.loop-name-preserved
loop-name-preserved c =
    ap (map option_copied) c.in_ok-push.ensures.items ∙
    map_push option_copied c.loop-name.key.items c.term_of.result ∙
    (λ k. c.loop-name.invariant k ++ c.term_of.ensures k ∷ []) ∙
    sym (map_more (term_at c.args.row.now) c.args.names.now c.loop-name.name-index 0 c.loop-name-test.true)

pub returns : goal.returns
returns c =
    let past : length c.args.names.now ≤ c.loop-name.name-index = omega (arith, c.loop-name-test.false) in
    c.loop-name.invariant ∙ ap (λ (l : List ℕ). key_of l c.args.row.now) (take_all c.loop-name.name-index c.args.names.now past)
