-- It does what reading does, and starves where that fails.
use Rattle.std.proofs.Common.{sym}
use Rattle.tpf_server.proofs.KeptLaws.{on_ok_failed}
use Rattle.tpf_server.proofs.connection.Connection.feed.Goals as goal

pub returns-then-is_err-clause-ok : goal.returns-then-is_err-clause-ok
returns-then-is_err-clause-ok c = on_ok_failed c.read-read.result _ (sym c.if-is_err.ensures.value)

pub returns-then-is_err-clause-closed : goal.returns-then-is_err-clause-closed
returns-then-is_err-clause-closed c = λ h. on_ok_failed c.read-read.result _ (sym c.if-is_err.ensures.value)

pub returns-then-is_err-clause-closed_ok : goal.returns-then-is_err-clause-closed_ok
returns-then-is_err-clause-closed_ok c = c.read-read.ensures.closed_ok

pub returns-then-is_err-clause-starved : goal.returns-then-is_err-clause-starved
returns-then-is_err-clause-starved c = c.read-read.ensures.starved

pub returns-else-is_err-clause-ok : goal.returns-else-is_err-clause-ok
returns-else-is_err-clause-ok c = c.read-read.ensures.ok

pub returns-else-is_err-clause-closed : goal.returns-else-is_err-clause-closed
returns-else-is_err-clause-closed c = c.read-read.ensures.closed

pub returns-else-is_err-clause-closed_ok : goal.returns-else-is_err-clause-closed_ok
returns-else-is_err-clause-closed_ok c = c.read-read.ensures.closed_ok

pub returns-else-is_err-clause-starved : goal.returns-else-is_err-clause-starved
returns-else-is_err-clause-starved c = c.read-read.ensures.starved
