use Rattle.std.proofs.Common.{◌≡◌, [], ◌∷◌, map, sym, ◌∙◌}
use Rattle.std.proofs.lemmas.Result.{IfOk-weaker}
use Rattle.request_plan.specs.Blocks.{forms_cut, blocks}
use Rattle.request_plan.proofs.Alike.{most-of}
use Rattle.request_plan.proofs.Cuts.{of-one}
use Rattle.request_plan.proofs.block.cut_rows.Goals as goal

pub returns-then-most-eq1 : goal.returns-then-most-eq1
returns-then-most-eq1 c =
    let cut = forms_cut c.args.cut.now.forms c.args.cut.now.block in
    let one : cut.most ≡ 1 = most-of c.args.cut.now.forms c.args.cut.now.block ∙ sym c.get-most.ensures.value ∙ c.if-most-eq1.true in
    IfOk-weaker c.single_rows.result (λ v. v.items ≡ map (λ row. row ∷ []) c.args.rows.items) (λ v. v.items ≡ blocks cut c.args.rest.now c.args.rows.items) (λ v e. e ∙ sym (of-one cut c.args.rest.now c.args.rows.items one)) c.single_rows.ensures
