-- Each turn adds one name where it is below the count.
use Rattle.std.proofs.Common.{ℕ, Vec, Global, List, ◌++◌, append-nil, nat_lt, map, sym, ap, ◌∙◌}
use Rattle.std.proofs.lemmas.List.{take_all}
use Rattle.std.proofs.lemmas.Result.{IfOk-from_err}
use Rattle.bgp_core.specs.declared.row.Bound.{Bound}
use Rattle.bgp_core.specs.Pairs.{name_if, names_below}
use Rattle.bgp_core.specs.Rows.{bound_pair}
use Rattle.bgp_core.proofs.Steps.{gives_more, is_named, not_named}
use Rattle.bgp_core.proofs.row.names_below.Goals as goal
use Rattle.bgp_core.proofs.row.names_below.Goals.{then-one-count+in_ok-push, else-one-count}

pub returns-in_err-names : goal.returns-in_err-names
returns-in_err-names c = IfOk-from_err _ _ c.from_residual.ensures.0

pub loop-one-init : goal.loop-one-init
loop-one-init c = c.in_ok-names.ensures.items

pub returns-in_err-push : goal.returns-in_err-push
returns-in_err-push c = IfOk-from_err _ _ c.from_residual-in_err-push.ensures.0

pub loop-one-preserved : goal.loop-one-preserved
loop-one-preserved c =
    let old = c.loop-one.names.items in let n = c.one-item.result.name in
    gives_more c.args.bound.now c.loop-one.one-index c.one-item.result c.loop-one-test.true c.one-item.is bound_pair (λ b. name_if (nat_lt b.0 c.args.count) b.0) old c.if-one-count.names.items c.loop-one.invariant
    (elim c.if-one-count.branch [
      | then-one-count+in_ok-push w ↦
          ap (λ (v : Vec ℕ Global). v.items) w.names-is ∙ w.in_ok-push.ensures.items ∙ ap (λ (ns : List ℕ). old ++ ns) (sym (is_named n c.args.count w.if-one-count.true))
      | else-one-count w ↦
          ap (λ (v : Vec ℕ Global). v.items) w.names-is ∙ sym (ap (λ (ns : List ℕ). old ++ ns) (not_named n c.args.count w.if-one-count.false) ∙ append-nil old)
    ])

pub returns : goal.returns
returns c = c.loop-one.invariant ∙ ap (λ (bs : List Bound). names_below c.args.count (map bound_pair bs)) (take_all _ _ c.loop-one-test.false)
