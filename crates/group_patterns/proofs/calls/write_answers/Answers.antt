-- The text is written behind the last block.
use Rattle.group_patterns.proofs.Ending.{all-shown, part-shown}
use Rattle.group_patterns.proofs.calls.write_answers.Goals as goal

pub returns-in-Ok-write_rows-clause-ok : goal.returns-in-Ok-write_rows-clause-ok
returns-in-Ok-write_rows-clause-ok g c =
    all-shown (g.W.Wire.allows c.args.wire.now) c.args.options.now c.args.start.now c.args.query.now (g.W.Wire.state c.args.wire.now) (g.W.Wire.state c.gather.new.wire) _ _ c.in-Ok.report c.in-Ok.rows.items c.as_slice.result.now c.shown.result.now c.as_slice.ensures.value c.shown.ensures c.in-Ok.ensures.ok c.in-Ok-write_rows.ensures.ok

pub returns-clause-err : goal.returns-clause-err
returns-clause-err g c =
    part-shown (g.W.Wire.allows c.args.wire.now) c.args.options.now c.args.start.now c.args.query.now (g.W.Wire.state c.args.wire.now) (g.W.Wire.state c.gather.new.wire) _ _ c.in-Ok.report c.in-Ok.rows.items c.as_slice.result.now c.shown.result.now c.in-Err-write_rows.fault c.as_slice.ensures.value c.shown.ensures c.in-Err-write_rows.ensures.local c.in-Ok.ensures.ok c.in-Err-write_rows.ensures.err
