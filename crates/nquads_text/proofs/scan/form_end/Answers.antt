use Rattle.std.proofs.Common.{sym, ◌∙◌}
use Rattle.nquads_text.proofs.Plain.{form_from}
use Rattle.nquads_text.proofs.scan.form_end.Goals as goal

pub returns-clause-place : goal.returns-clause-place
returns-clause-place c = c.form_end_from.ensures.place ∙ sym (form_from c.args.bytes.now _ c.form_run_end.ensures)
