-- The rows of the blocks are put together.
use Rattle.group_patterns.proofs.Progressing.{all-width, all-gathered, none-gathered}
use Rattle.tpf_client.proofs.Shutting.{if-ok-from, if-err-from}
use Rattle.group_patterns.proofs.calls.gather.Goals as goal

pub put_together-requires-clause-width : goal.put_together-requires-clause-width
put_together-requires-clause-width g c = all-width (g.W.Wire.allows c.args.wire.now) c.args.options.now c.args.start.now c.args.query.now c.in-Ok.asking (g.W.Wire.state c.args.wire.now) (g.W.Wire.state c.ask_blocks.new.wire) c.in-Ok.ensures.ok

pub returns-in-Ok-clause-ok : goal.returns-in-Ok-clause-ok
returns-in-Ok-clause-ok g c =
    if-ok-from c.put_together.result _ _ c.put_together.ensures.ok
    (λ r t. all-gathered (g.W.Wire.allows c.args.wire.now) c.args.options.now c.args.start.now c.args.query.now c.in-Ok.asking (g.W.Wire.state c.args.wire.now) (g.W.Wire.state c.ask_blocks.new.wire) c.in-Ok.ensures.ok r.0.items r.1 t)

pub returns-in-Ok-clause-err : goal.returns-in-Ok-clause-err
returns-in-Ok-clause-err g c =
    if-err-from c.put_together.result _ _ c.put_together.ensures.err
    (λ fault e. none-gathered (g.W.Wire.allows c.args.wire.now) c.args.options.now c.args.start.now c.args.query.now c.in-Ok.asking (g.W.Wire.state c.args.wire.now) (g.W.Wire.state c.ask_blocks.new.wire) c.in-Ok.ensures.ok fault e)
