-- The slots, the rows and the number are those of the parameters.
use Rattle.std.proofs.Common.{sym, ◌∙◌, ap}
use Rattle.tpf_server.proofs.AskedLaws.{some_fit, no_slots_answer, no_rows_answer, numbered_answer}
use Rattle.std.proofs.lemmas.Result.{IfOk-from_err}
use Rattle.tpf_server.specs.Parameters.{rows_in}
use Rattle.tpf_server.proofs.asked.asked_by_number.Goals as goal

pub returns-in_err-slots-clause-asked : goal.returns-in_err-slots-clause-asked
returns-in_err-slots-clause-asked c = IfOk-from_err _ _ c.from_residual.ensures.0

pub returns-in_err-slots-clause-answer : goal.returns-in_err-slots-clause-answer
returns-in_err-slots-clause-answer c = IfOk-from_err _ _ c.from_residual.ensures.0

pub returns-in_default-clause-answer : goal.returns-in_default-clause-answer
returns-in_default-clause-answer c = no_slots_answer c.args.server.now c.args.found (sym c.in_default.is ∙ c.in_ok-slots.ensures)

pub returns-in-Ok-clause-asked : goal.returns-in-Ok-clause-asked
returns-in-Ok-clause-asked c = (some_fit c.args.found c.in-Some.slots (sym c.in-Some.is ∙ c.in_ok-slots.ensures), c.requires.some)

pub returns-in-Ok-clause-answer : goal.returns-in-Ok-clause-answer
returns-in-Ok-clause-answer c =
    numbered_answer c.args.server.now c.args.found c.in-Some.slots c.in-Read.rows c.args.page c.in-Ok.snapshot c.in-Ok.ensures (sym c.in-Some.is ∙ c.in_ok-slots.ensures) (ap rows_in (sym c.into_rows-rows.ensures ∙ c.in-Read.is)) c.requires.number

pub returns-in-Refused-clause-answer : goal.returns-in-Refused-clause-answer
returns-in-Refused-clause-answer c = no_rows_answer c.args.server.now c.args.found (ap rows_in (sym c.into_rows-rows.ensures ∙ c.in-Refused.is))
