use Rattle.std.proofs.lemmas.Result.{err_from_is_err_and}
use Rattle.page_controls.proofs.form.read_form.Goals as goal

pub returns-in_err-template : goal.returns-in_err-template
returns-in_err-template c =
    let p = err_from_is_err_and c.from_residual.result c.from_residual.ensures.1 in
    rw (p.1, p.2) c.in_err-template.ensures
