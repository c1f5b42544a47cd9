use Rattle.std.proofs.lemmas.Result.{on_ok_weaker}
use Rattle.page_responses.proofs.PartLaws.{form_cuts}
use Rattle.page_responses.proofs.parts.cut_form.Goals as goal

pub returns-clause-ok : goal.returns-clause-ok
returns-clause-ok c =
    on_ok_weaker c.push_form.result
    (form_cuts c.args.cut.now c.pass-from.new.self c.args.form.now c.args.out.now.items c.push_form.new.out.items c.pass-from.result.0 c.pass-from.result.1 c.pass-from.ensures.behind c.pass-from.ensures.from c.pass-from.ensures.long)
    c.push_form.ensures.ok
