-- One row more at each turn.
use Rattle.std.proofs.Common.{length, ◌≤◌, ◌<◌, arith}
use Rattle.std.proofs.lemmas.Result.{on_ok_weaker}
use Rattle.tpf_client.proofs.Sinks.{stays-none, stays-then, stays-ok, keeps-behind, writes-keeps}
use Rattle.group_patterns.proofs.Ending.{on-err-from}
use Rattle.group_patterns.proofs.Writing.{none-written, row-written, row-part, all-written, end-part}
use Rattle.group_patterns.proofs.text.write_pieces.Goals as goal

pub loop-row-init : goal.loop-row-init
loop-row-init g c = record {
  written = none-written c.args.writer.now.query c.args.rows.now c.args.writer.now (g.K.Sink.state c.args.out.now).taken c.requires.fresh;
  sink = stays-none (g.K.Sink.state c.args.out.now);
}

pub loop-row-preserved : goal.loop-row-preserved
loop-row-preserved g c =
    let below : c.loop-row.row-index < length c.args.rows.now = omega arith in
    record {
      written = row-written c.args.writer.now.query c.args.rows.now c.loop-row.row-index c.row-item.result c.loop-row.writer c.add_row.new.writer _ _ _ below c.row-item.is c.loop-row.invariant.written c.in-Ok.ensures.ok;
      sink = stays-then _ _ _ c.loop-row.invariant.sink (stays-ok _ _ _ c.in-Ok.ensures.sink);
    }

pub returns-in-Err-clause-err : goal.returns-in-Err-clause-err
returns-in-Err-clause-err g c =
    let below : c.loop-row.row-index < length c.args.rows.now = omega arith in
    row-part c.pieces_make_the_text.ensures c.args.writer.now.query c.args.rows.now c.loop-row.row-index c.row-item.result c.loop-row.writer _ _ _ below c.row-item.is c.loop-row.invariant.written c.in-Err.ensures.err

pub returns-in-Err-clause-sink : goal.returns-in-Err-clause-sink
returns-in-Err-clause-sink g c = keeps-behind _ _ _ _ c.loop-row.invariant.sink c.in-Err.ensures.sink

pub returns-clause-ok : goal.returns-clause-ok
returns-clause-ok g c =
    let past : length c.args.rows.now ≤ c.loop-row.row-index = omega (arith, c.loop-row-test.false) in
    on_ok_weaker c.finish.result (λ b. all-written c.pieces_make_the_text.ensures c.args.writer.now.query c.args.rows.now c.loop-row.row-index c.loop-row.writer _ _ _ past c.loop-row.invariant.written b) c.finish.ensures.ok

pub returns-clause-err : goal.returns-clause-err
returns-clause-err g c =
    let past : length c.args.rows.now ≤ c.loop-row.row-index = omega (arith, c.loop-row-test.false) in
    on-err-from c.finish.result _ _ c.finish.ensures.err (λ b. end-part c.pieces_make_the_text.ensures c.args.writer.now.query c.args.rows.now c.loop-row.row-index c.loop-row.writer _ _ _ past c.loop-row.invariant.written b)

pub returns-clause-sink : goal.returns-clause-sink
returns-clause-sink g c = keeps-behind _ _ _ _ c.loop-row.invariant.sink (writes-keeps _ _ _ _ c.finish.ensures)
