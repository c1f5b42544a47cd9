-- The query of the block is asked.
use Rattle.group_patterns.proofs.Progressing.{call-gave, call-ended}
use Rattle.group_patterns.proofs.block.collect_block.Goals as goal

pub returns-in-Ok-clause-ok : goal.returns-in-Ok-clause-ok
returns-in-Ok-clause-ok g c =
    call-gave (g.W.Wire.allows c.args.wire.now) c.args.options.now c.args.start.now c.args.names.now c.args.patterns.now (g.W.Wire.state c.args.wire.now) (g.W.Wire.state c.collect.new.wire) c.requires.left (g.met.W.Wire.given_alone c.collect.new.wire) (λ r. r.1) (λ r. r.0.items)
    c.in-Ok.query c.in-Ok.ensures c.collect.result c.collect.ensures.ended c.collect.ensures.headline c.collect.ensures.paced

pub returns-in-Ok-clause-err : goal.returns-in-Ok-clause-err
returns-in-Ok-clause-err g c =
    call-ended (g.W.Wire.allows c.args.wire.now) c.args.options.now c.args.start.now c.args.names.now c.args.patterns.now (g.W.Wire.state c.args.wire.now) (g.W.Wire.state c.collect.new.wire) c.requires.left (g.met.W.Wire.given_alone c.collect.new.wire) (λ r. r.1) (λ r. r.0.items)
    c.in-Ok.query c.in-Ok.ensures c.collect.result c.collect.ensures.ended c.collect.ensures.still c.collect.ensures.sink
