-- It does what the answer to the reload does, and starves where that fails.
use Rattle.std.proofs.Common.{sym}
use Rattle.tpf_server.proofs.KeptLaws.{on_ok_failed}
use Rattle.tpf_server.proofs.connection.Connection.reloaded.Goals as goal

pub returns-then-is_err-clause-ok : goal.returns-then-is_err-clause-ok
returns-then-is_err-clause-ok c = on_ok_failed c.answer_reload-answered.result _ (sym c.if-is_err.ensures.value)

pub returns-else-is_err-clause-ok : goal.returns-else-is_err-clause-ok
returns-else-is_err-clause-ok c = c.answer_reload-answered.ensures.ok
