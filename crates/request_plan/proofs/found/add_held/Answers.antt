-- The first row is taken and then the others, and each adds what the triple makes of it.
use Rattle.std.proofs.Common.{List, [], ◌∷◌, ◌++◌, length, ap, sym, ◌∙◌, append-nil}
use Rattle.std.specs.List.{flat_map}
use Rattle.std.proofs.lemmas.List.{take_all}
use Rattle.std.proofs.lemmas.Result.{IfOk-from_err}
use Rattle.bgp_core.specs.Queries.{HasPlacesFor}
use Rattle.bgp_core.specs.Solutions.{Places, extension, rows_from}
use Rattle.request_plan.proofs.Expanding.{first-has, other-has, block-made, flat-more}
use Rattle.request_plan.proofs.found.add_held.Goals as goal

pub add_match-requires : goal.add_match-requires
add_match-requires c = first-has (λ row. HasPlacesFor (length row) c.args.chosen.now) c.args.block.now c.first.result.now c.requires c.first.ensures

pub returns-in_err-add_match : goal.returns-in_err-add_match
returns-in_err-add_match c = IfOk-from_err _ _ c.from_residual.ensures.0

pub loop-row-init : goal.loop-row-init
loop-row-init c = sym (append-nil c.add_match.new.into.items)

pub add_match-requires-in-loop-row : goal.add_match-requires-in-loop-row
add_match-requires-in-loop-row c =
    other-has (λ row. HasPlacesFor (length row) c.args.chosen.now) c.args.block.now c.others-row-items.result.now c.loop-row.row-index c.row-item.result c.requires c.others-row-items.ensures c.loop-row-test.true c.row-item.is

pub returns-in_err-add_match-2 : goal.returns-in_err-add_match-2
returns-in_err-add_match-2 c = IfOk-from_err _ _ c.from_residual-in_err-add_match-2.ensures.0

pub loop-row-preserved : goal.loop-row-preserved
loop-row-preserved c =
    flat-more (λ (row : Places). rows_from (extension c.args.chosen.now row c.args.triple.now) (λ r. r ∷ [])) c.add_match.new.into.items _ _ c.others-row-items.result.now c.loop-row.row-index c.row-item.result c.loop-row-test.true c.row-item.is
    c.loop-row.invariant c.in_ok-add_match-2.ensures

pub returns : goal.returns
returns c =
    let made = λ (row : Places). rows_from (extension c.args.chosen.now row c.args.triple.now) (λ r. r ∷ []) in
    let all = take_all c.loop-row.row-index c.others-row-items.result.now c.loop-row-test.false ∙ c.others-row-items.ensures in
    block-made made c.args.block.now c.first.result.now c.args.into.now.items c.add_match.new.into.items c.loop-row.into.items c.first.ensures c.in_ok-add_match.ensures
    (c.loop-row.invariant ∙ ap (λ (l : List Places). c.add_match.new.into.items ++ flat_map made l) all)
