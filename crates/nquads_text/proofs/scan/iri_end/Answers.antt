use Rattle.std.proofs.Common.{sym, ◌∙◌}
use Rattle.nquads_text.proofs.Plain.{iri_from}
use Rattle.nquads_text.proofs.scan.iri_end.Goals as goal

pub returns-clause-place : goal.returns-clause-place
returns-clause-place c = c.iri_end_from.ensures.place ∙ sym (iri_from c.args.bytes.now _ c.iri_run_end.ensures)
