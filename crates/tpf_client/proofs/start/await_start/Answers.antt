-- The one reply that comes is to the start.
use Rattle.tpf_client.proofs.Starting.{start-read, start-shown, some-held}
use Rattle.tpf_client.proofs.Sinks.{read-no-sink}
use Rattle.tpf_client.proofs.Going.{shown-no-sink}
use Rattle.tpf_client.proofs.start.await_start.Goals as goal

pub next_reply-requires-clause-some : goal.next_reply-requires-clause-some
next_reply-requires-clause-some g c = some-held c.args.start.now c.args.asks.now c.requires.one

pub returns-in-Ok-clause-starts : goal.returns-in-Ok-clause-starts
returns-in-Ok-clause-starts g c =
    start-read (g.W.Wire.allows c.args.wire.now) c.args.start.now c.args.budget c.args.asks.now c.next_reply.new.asks (g.W.Wire.state c.args.wire.now) (g.W.Wire.state c.next_reply.new.wire) c.read.result c.in-Ok.arrived c.in-Ok.ensures.awaits c.read.ensures c.requires.one

pub returns-in-Err-clause-starts : goal.returns-in-Err-clause-starts
returns-in-Err-clause-starts g c =
    start-shown (g.W.Wire.allows c.args.wire.now) c.args.start.now c.args.budget c.args.asks.now c.next_reply.new.asks (g.W.Wire.state c.args.wire.now) (g.W.Wire.state c.next_reply.new.wire) c.in-Err.fault c.shown.result c.shown.ensures c.in-Err.ensures.awaits

pub returns-in-Ok-clause-no_sink : goal.returns-in-Ok-clause-no_sink
returns-in-Ok-clause-no_sink g c = read-no-sink c.in-Ok.arrived c.read.result c.read.ensures

pub returns-in-Err-clause-no_sink : goal.returns-in-Err-clause-no_sink
returns-in-Err-clause-no_sink g c = shown-no-sink c.args.budget c.in-Err.fault c.shown.result c.shown.ensures
