-- The forms of the start pages have the authorities of the starts, and nothing is held behind these.
use Rattle.std.proofs.lemmas.Result.{IfOk-weaker, IfErr-weaker}
use Rattle.tpf_client.specs.declared.fault.ClientFault.TheVariants as faults
use Rattle.tpf_client.proofs.Shutting.{either-way}
use Rattle.tpf_client.proofs.Written.{stands-behind, all-written, some-shown, none-shown, less-suits}
use Rattle.tpf_client.proofs.Going.{err-as}
use Rattle.tpf_client.proofs.Sinks.{stays-none, leaves-other}
use Rattle.tpf_client.proofs.Waiting.{allowed-then}
use Rattle.tpf_client.proofs.results.write_result.Goals as goal

pub write_rows-requires-clause-stands : goal.write_rows-requires-clause-stands
write_rows-requires-clause-stands g c = let s = c.in-Ok.ensures.starts in stands-behind (g.W.Wire.allows c.args.wire.now) c.args.call.starts.now s.0 c.in-Ok.pages c.args.asks.now c.ask_starts.new.asks (g.W.Wire.state c.args.wire.now) (g.W.Wire.state c.ask_starts.new.wire) s.1 s.2 c.requires.starts

pub returns-in-Ok-clause-ok : goal.returns-in-Ok-clause-ok
returns-in-Ok-clause-ok g c =
    let s = c.in-Ok.ensures.starts in
    IfOk-weaker c.write_rows.result _ _ (λ report w. all-written (g.W.Wire.allows c.args.wire.now) (g.W.Wire.allows c.ask_starts.new.wire) c.in-Ok.ensures.allowed _ c.args.call.options.now c.args.call.query.now c.args.call.starts.now s.0 c.in-Ok.pages c.args.asks.now c.ask_starts.new.asks c.write_rows.new.asks
    (g.W.Wire.state c.args.wire.now) (g.W.Wire.state c.ask_starts.new.wire) (g.W.Wire.state c.write_rows.new.wire) s.1 s.2 report _ _ w) c.write_rows.ensures.ok

pub returns-in-Ok-clause-err : goal.returns-in-Ok-clause-err
returns-in-Ok-clause-err g c =
    let s = c.in-Ok.ensures.starts in
    IfErr-weaker c.write_rows.result _ _ (λ fault w. some-shown (g.W.Wire.allows c.args.wire.now) (g.W.Wire.allows c.ask_starts.new.wire) c.in-Ok.ensures.allowed _ c.args.call.options.now c.args.call.query.now c.args.call.starts.now s.0 c.in-Ok.pages c.args.asks.now c.ask_starts.new.asks c.write_rows.new.asks
    (g.W.Wire.state c.args.wire.now) (g.W.Wire.state c.ask_starts.new.wire) (g.W.Wire.state c.write_rows.new.wire) s.1 s.2 c.args.call.options.now.budget fault (g.K.Sink.state c.args.out.now) (g.K.Sink.state c.write_rows.new.out) w) c.write_rows.ensures.err

pub returns-in-Ok-clause-suits : goal.returns-in-Ok-clause-suits
returns-in-Ok-clause-suits g c =
    either-way c.write_rows.result _ _ _ c.write_rows.ensures.ok c.write_rows.ensures.err (λ report w. w.joins.on_wire)
    (λ fault w. less-suits (g.W.Wire.allows c.ask_starts.new.wire) _ _ c.args.call.query.now c.args.call.starts.now _ _ c.args.call.options.now.budget fault c.ask_starts.new.asks c.write_rows.new.asks (g.W.Wire.state c.ask_starts.new.wire) (g.W.Wire.state c.write_rows.new.wire) _ _ w.0)

pub returns-in-Ok-clause-allowed : goal.returns-in-Ok-clause-allowed
returns-in-Ok-clause-allowed g c = allowed-then (g.W.Wire.allows c.args.wire.now) (g.W.Wire.allows c.ask_starts.new.wire) (g.W.Wire.allows c.write_rows.new.wire) c.in-Ok.ensures.allowed c.write_rows.ensures.allowed

pub returns-in-Err-clause-err : goal.returns-in-Err-clause-err
returns-in-Err-clause-err g c = none-shown (g.W.Wire.allows c.args.wire.now) _ c.args.call.options.now c.args.call.query.now c.args.call.starts.now c.args.call.options.now.budget c.in-Err.fault c.args.asks.now c.ask_starts.new.asks (g.W.Wire.state c.args.wire.now) (g.W.Wire.state c.ask_starts.new.wire) (g.K.Sink.state c.args.out.now) c.in-Err.ensures.starts

pub returns-in-Err-clause-suits : goal.returns-in-Err-clause-suits
returns-in-Err-clause-suits g c = c.in-Err.ensures.starts.suits

pub returns-in-Err-clause-sink : goal.returns-in-Err-clause-sink
returns-in-Err-clause-sink g c = leaves-other _ _ c.in-Err.fault (λ e. c.in-Err.ensures.no_sink (err-as _ _ c.in-Err.fault faults.Sink e)) (stays-none (g.K.Sink.state c.args.out.now))
