-- The forms of the start pages have the authorities of the starts, and nothing is held behind these.
use Rattle.std.proofs.lemmas.Result.{IfOk-weaker, IfErr-weaker}
use Rattle.tpf_client.proofs.Shutting.{either-way}
use Rattle.tpf_client.proofs.Written.{stands-behind, all-gathered, some-written, none-written, less-suits}
use Rattle.tpf_client.proofs.Waiting.{allowed-then}
use Rattle.tpf_client.proofs.results.gather.Goals as goal

pub gather_rows-requires-clause-stands : goal.gather_rows-requires-clause-stands
gather_rows-requires-clause-stands g c = let s = c.in-Ok.ensures.starts in stands-behind (g.W.Wire.allows c.args.wire.now) c.args.call.starts.now s.0 c.in-Ok.pages c.args.asks.now c.ask_starts.new.asks (g.W.Wire.state c.args.wire.now) (g.W.Wire.state c.ask_starts.new.wire) s.1 s.2 c.requires.starts

pub returns-in-Ok-clause-ok : goal.returns-in-Ok-clause-ok
returns-in-Ok-clause-ok g c =
    let s = c.in-Ok.ensures.starts in
    IfOk-weaker c.gather_rows.result _ _ (λ r w. all-gathered (g.W.Wire.allows c.args.wire.now) (g.W.Wire.allows c.ask_starts.new.wire) c.in-Ok.ensures.allowed _ c.args.call.options.now c.args.call.query.now c.args.call.starts.now s.0 c.in-Ok.pages c.args.asks.now c.ask_starts.new.asks c.gather_rows.new.asks
    (g.W.Wire.state c.args.wire.now) (g.W.Wire.state c.ask_starts.new.wire) (g.W.Wire.state c.gather_rows.new.wire) s.1 s.2 r.1 r.0.items w) c.gather_rows.ensures.ok

pub returns-in-Ok-clause-err : goal.returns-in-Ok-clause-err
returns-in-Ok-clause-err g c =
    let s = c.in-Ok.ensures.starts in
    IfErr-weaker c.gather_rows.result _ _ (λ fault w. some-written (g.W.Wire.allows c.args.wire.now) (g.W.Wire.allows c.ask_starts.new.wire) c.in-Ok.ensures.allowed _ c.args.call.options.now c.args.call.query.now c.args.call.starts.now s.0 c.in-Ok.pages c.args.asks.now c.ask_starts.new.asks c.gather_rows.new.asks
    (g.W.Wire.state c.args.wire.now) (g.W.Wire.state c.ask_starts.new.wire) (g.W.Wire.state c.gather_rows.new.wire) s.1 s.2 c.args.call.options.now.budget fault _ _ w) c.gather_rows.ensures.err

pub returns-in-Ok-clause-suits : goal.returns-in-Ok-clause-suits
returns-in-Ok-clause-suits g c =
    either-way c.gather_rows.result _ _ _ c.gather_rows.ensures.ok c.gather_rows.ensures.err (λ r w. w.joins.on_wire)
    (λ fault w. less-suits (g.W.Wire.allows c.ask_starts.new.wire) _ _ c.args.call.query.now c.args.call.starts.now _ _ c.args.call.options.now.budget fault c.ask_starts.new.asks c.gather_rows.new.asks (g.W.Wire.state c.ask_starts.new.wire) (g.W.Wire.state c.gather_rows.new.wire) _ _ w)

pub returns-in-Ok-clause-allowed : goal.returns-in-Ok-clause-allowed
returns-in-Ok-clause-allowed g c = allowed-then (g.W.Wire.allows c.args.wire.now) (g.W.Wire.allows c.ask_starts.new.wire) (g.W.Wire.allows c.gather_rows.new.wire) c.in-Ok.ensures.allowed c.gather_rows.ensures.allowed

pub returns-in-Err-clause-err : goal.returns-in-Err-clause-err
returns-in-Err-clause-err g c = none-written (g.W.Wire.allows c.args.wire.now) _ c.args.call.options.now c.args.call.query.now c.args.call.starts.now c.args.call.options.now.budget c.in-Err.fault c.args.asks.now c.ask_starts.new.asks (g.W.Wire.state c.args.wire.now) (g.W.Wire.state c.ask_starts.new.wire) _ c.in-Err.ensures.starts

pub returns-in-Err-clause-suits : goal.returns-in-Err-clause-suits
returns-in-Err-clause-suits g c = c.in-Err.ensures.starts.suits
