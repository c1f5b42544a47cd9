-- Each turn adds the row of one triple, and what is sorted is all of them.
use Rattle.std.proofs.Common.{List, map, rules, ap, subst, sym, ◌∙◌}
use Rattle.std.specs.List.Sorted.{IsPermutation, IsSortedByKey}
use Rattle.std.specs.Ordering.{nat_cmp}
use Rattle.std.proofs.lemmas.List.{take_all}
use Rattle.std.proofs.lemmas.List.Sorted.{answers_always}
use Rattle.std.proofs.lemmas.Result.{IfOk-from_err}
use Rattle.triple_table.specs.declared.ids.IdTriple.{IdTriple}
use Rattle.triple_table.specs.declared.ids.Row.{Row}
use Rattle.triple_table.specs.Rows.{key, row_of}
use Rattle.triple_table.proofs.Steps.{images_more}
use Rattle.triple_table.proofs.build.ordered_rows.Goals as goal

pub returns-in_err-rows-clause-permutation : goal.returns-in_err-rows-clause-permutation
returns-in_err-rows-clause-permutation c = IfOk-from_err _ _ c.from_residual.ensures.0

pub returns-in_err-rows-clause-sorted : goal.returns-in_err-rows-clause-sorted
returns-in_err-rows-clause-sorted c = IfOk-from_err _ _ c.from_residual.ensures.0

pub loop-triple-init : goal.loop-triple-init
loop-triple-init c = c.in_ok-rows.ensures.items

pub returns-in_err-push-clause-permutation : goal.returns-in_err-push-clause-permutation
returns-in_err-push-clause-permutation c = IfOk-from_err _ _ c.from_residual-in_err-push.ensures.0

pub returns-in_err-push-clause-sorted : goal.returns-in_err-push-clause-sorted
returns-in_err-push-clause-sorted c = IfOk-from_err _ _ c.from_residual-in_err-push.ensures.0

pub loop-triple-preserved : goal.loop-triple-preserved
loop-triple-preserved c = images_more (row_of c.args.order) c.args.ids.now c.loop-triple.triple-index _ c.loop-triple.rows.items c.push.new.self.items c.row.result c.loop-triple-test.true c.row.ensures c.loop-triple.invariant c.in_ok-push.ensures.items

pub returns-clause-permutation : goal.returns-clause-permutation
returns-clause-permutation c =
    let all = map (row_of c.args.order) c.args.ids.now in
    subst (λ (rows : List Row). IsPermutation all rows) (sym c.from_vec.ensures)
    (subst (λ (rows : List Row). IsPermutation rows c.sort_unstable_by_key.new.self.items) (c.loop-triple.invariant ∙ ap (λ (ids : List IdTriple). map (row_of c.args.order) ids) (take_all _ _ c.loop-triple-test.false)) c.sort_unstable_by_key.ensures.permutation)

pub returns-clause-sorted : goal.returns-clause-sorted
returns-clause-sorted c =
    subst (λ (rows : List Row). IsSortedByKey key nat_cmp rows) (sym c.from_vec.ensures) (c.sort_unstable_by_key.ensures.sorted key (answers_always _ _ _ (λ f a r g h. search rules)))
