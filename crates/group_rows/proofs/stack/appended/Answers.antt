-- The rows that were added and those that are left are all; behind the last one none is left.
use Rattle.std.proofs.Common.{◌≡◌, ◌++◌, ◌∷◌, [], List, ap, sym, ◌∙◌, append-nil, append_assoc}
use Rattle.std.proofs.lemmas.List.{nil_from_length}
use Rattle.std.proofs.lemmas.Result.{IfOk-from_err}
use Rattle.std.specs.Vec.Iter.{into_iter_items}
use Rattle.bgp_core.specs.Solutions.{Places}
use Rattle.group_rows.proofs.stack.appended.Goals as goal

pub loop-row-preserved : goal.loop-row-preserved
loop-row-preserved c =
    let rows = c.loop-row.rows.items in
    let left = into_iter_items c.next.new.self in
    ap (λ (l : List Places). l ++ left) c.in_ok-push.ensures.items ∙ append_assoc rows (c.in-Some.row ∷ []) left ∙
    ap (λ (l : List Places). rows ++ l) (sym c.in-Some.ensures.steps.0) ∙ c.loop-row.invariant

pub returns-in_err-push : goal.returns-in_err-push
returns-in_err-push c = IfOk-from_err _ _ c.from_residual.ensures.0

pub returns : goal.returns
returns c =
    let none : into_iter_items c.loop-row.row-iterator ≡ [] = nil_from_length (into_iter_items c.loop-row.row-iterator) (sym c.loop-row.row-iterator.rest.ok.0 ∙ c.in-None.ensures.steps.0) in
    sym (append-nil c.loop-row.rows.items) ∙ ap (λ (l : List Places). c.loop-row.rows.items ++ l) (sym none) ∙ c.loop-row.invariant
