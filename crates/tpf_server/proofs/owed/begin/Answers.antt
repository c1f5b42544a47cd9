-- The head is that of the answer, and its body is left.
use Rattle.std.proofs.lemmas.Result.{IfOk-from_err}
use Rattle.list_laws.proofs.Begins.{itself_begins}
use Rattle.tpf_server.proofs.DebtLaws.{begun, begun_within}
use Rattle.tpf_server.proofs.owed.begin.Goals as goal

pub open_answer-requires : goal.open_answer-requires
open_answer-requires c = c.requires

pub returns-in_err-answer-clause-ok : goal.returns-in_err-answer-clause-ok
returns-in_err-answer-clause-ok c = IfOk-from_err _ _ c.from_residual.ensures.0

pub returns-in_err-answer-clause-range : goal.returns-in_err-answer-clause-range
returns-in_err-answer-clause-range c = IfOk-from_err _ _ c.from_residual.ensures.0

pub returns-in_err-answer-clause-front : goal.returns-in_err-answer-clause-front
returns-in_err-answer-clause-front c = itself_begins c.args.out.now.items

pub returns-in-Ok-clause-ok : goal.returns-in-Ok-clause-ok
returns-in-Ok-clause-ok c = begun c.args.config.now c.args.queued.now c.in_ok-answer.answer c.body_or_nothing.result c.args.out.now.items c.write_answer_head-written.new.out.items c.in_ok-answer.ensures c.in-Ok.ensures.ok c.in-Ok.ensures.few c.body_or_nothing.ensures

pub returns-in-Ok-clause-range : goal.returns-in-Ok-clause-range
returns-in-Ok-clause-range c = begun_within c.args.config.now c.args.queued.now c.in_ok-answer.answer c.body_or_nothing.result c.in_ok-answer.ensures c.body_or_nothing.ensures

pub returns-in-Ok-clause-front : goal.returns-in-Ok-clause-front
returns-in-Ok-clause-front c = c.in-Ok.ensures.front

pub returns-in-Err-clause-front : goal.returns-in-Err-clause-front
returns-in-Err-clause-front c = c.in-Err.ensures.front
