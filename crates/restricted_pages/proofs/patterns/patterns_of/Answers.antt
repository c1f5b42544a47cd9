-- No row leaves nothing, each turn adds one row, and in the end they are all.
use Rattle.std.proofs.Common.{List, ◌++◌, ◌∷◌, [], take, sym, ap, subst, ◌∙◌}
use Rattle.std.proofs.lemmas.List.{take_all, take_more}
use Rattle.std.proofs.lemmas.Result.{IfOk-from_err}
use Rattle.rdf_terms.specs.declared.slots.Slots.{Slots}
use Rattle.restricted_pages.specs.Patterns.{ArePatternsOf}
use Rattle.restricted_pages.proofs.Joins.{no_row}
use Rattle.restricted_pages.proofs.patterns.patterns_of.Goals as goal

pub loop-row-init : goal.loop-row-init
loop-row-init g c = no_row c.args.table.now c.args.slots.now _ c.new-patterns.ensures.items

pub returns-in_err-add : goal.returns-in_err-add
returns-in_err-add g c = IfOk-from_err _ _ c.from_residual.ensures.0

pub loop-row-preserved : goal.loop-row-preserved
loop-row-preserved g c =
    let row = c.row-item.result in
    let more = c.in_ok-add.ensures c.args.table.now c.args.slots.now row (take c.loop-row.row-index c.args.rows.now) c.pattern_of-found.ensures c.loop-row.invariant in
    subst (λ (rows : List Slots). ArePatternsOf c.args.table.now c.args.slots.now rows c.add.new.patterns.items)
    (sym (take_more c.args.rows.now c.loop-row.row-index row c.loop-row-test.true ∙ ap (λ (x : Slots). take c.loop-row.row-index c.args.rows.now ++ x ∷ []) (sym c.row-item.is))) more

pub returns : goal.returns
returns g c = subst (λ (rows : List Slots). ArePatternsOf c.args.table.now c.args.slots.now rows c.loop-row.patterns.items) (take_all _ _ c.loop-row-test.false) c.loop-row.invariant
