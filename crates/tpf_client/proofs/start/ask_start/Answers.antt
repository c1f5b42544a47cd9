use Rattle.std.proofs.Common.{◌∙◌, [], ◌∷◌}
use Rattle.tpf_client.specs.Starts.{start_ask}
use Rattle.tpf_client.proofs.Starting.{start-nothing, start-held, starts-put}
use Rattle.tpf_client.proofs.start.ask_start.Goals as goal

pub put_start-requires : goal.put_start-requires
put_start-requires g c = record { none = c.requires.rest.none }

pub await_start-requires-clause-suits : goal.await_start-requires-clause-suits
await_start-requires-clause-suits g c = c.in-Ok.ensures.ok.suits (g.W.Wire.state c.args.wire.now) c.requires.rest.suits

pub await_start-requires-clause-no_fault : goal.await_start-requires-clause-no_fault
await_start-requires-clause-no_fault g c = c.in-Ok.ensures.ok.no_fault ∙ c.requires.rest.no_fault

pub await_start-requires-clause-one : goal.await_start-requires-clause-one
await_start-requires-clause-one g c = start-held c.args.start.now c.args.asks.now c.put_start.new.asks c.requires.rest.none c.in-Ok.ensures.ok

pub returns-in-Ok-clause-starts : goal.returns-in-Ok-clause-starts
returns-in-Ok-clause-starts g c =
    starts-put (g.W.Wire.allows c.args.wire.now) c.args.start.now c.args.budget c.args.asks.now c.put_start.new.asks c.await_start.new.asks (g.W.Wire.state c.args.wire.now) (g.W.Wire.state c.await_start.new.wire) c.await_start.result c.in-Ok.ensures.ok c.requires.rest.suits c.is_lawful.ensures c.await_start.ensures.starts

pub returns-in-Err-clause-starts : goal.returns-in-Err-clause-starts
returns-in-Err-clause-starts g c = start-nothing (g.W.Wire.allows c.args.wire.now) c.args.start.now (start_ask c.args.start.now ∷ []) c.args.budget c.args.asks.now c.put_start.new.asks (g.W.Wire.state c.args.wire.now) c.in-Err.ensures.err c.requires.rest.suits
