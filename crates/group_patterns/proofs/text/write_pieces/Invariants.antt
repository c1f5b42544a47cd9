-- The rows so far were written, or are pending.
use Rattle.std.proofs.Common.{drop}
use Rattle.tpf_client.proofs.Sinks.{StaysSink}
use Rattle.group_patterns.specs.Writing.{WritesSoFar}
use Rattle.group_patterns.proofs.text.write_pieces.Given as goal

abbrev pub invariant-loop-row : goal.invariant-loop-row
invariant-loop-row g l = record {
  written : WritesSoFar l.fn.writer.query l.rows (drop l.row-index l.rows) l.writer (g.K.Sink.state l.fn.out).taken (g.K.Sink.state l.out).taken;
  sink : StaysSink (g.K.Sink.state l.fn.out) (g.K.Sink.state l.out);
}
