use Rattle.tpf_client.proofs.Sinks.{writes-keeps}
use Rattle.tpf_client.proofs.rows.ResultTextTakesRows.hand_on.Goals as goal

pub returns-clause-sink : goal.returns-clause-sink
returns-clause-sink g c = writes-keeps _ _ _ _ c.give.ensures.writes
