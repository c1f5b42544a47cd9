use Rattle.tpf_client.proofs.Sinks.{stays-none, keeps-ok, keeps-memory}
use Rattle.tpf_client.proofs.rows.ResultTextTakesRows.take.Goals as goal

pub returns-then-is_err-clause-sink : goal.returns-then-is_err-clause-sink
returns-then-is_err-clause-sink g c = keeps-memory _ _ (stays-none (g.K.Sink.state c.args.behind.now))

pub returns-clause-sink : goal.returns-clause-sink
returns-clause-sink g c = keeps-ok _ _ _ (stays-none (g.K.Sink.state c.args.behind.now))
