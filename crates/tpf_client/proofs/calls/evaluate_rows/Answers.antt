-- The pool begins with nothing, and its links are closed at last.
use Rattle.tpf_client.specs.Sources.{sources_of}
use Rattle.tpf_client.proofs.Shutting.{rest-empty}
use Rattle.tpf_client.proofs.Ended.{gives-ended}
use Rattle.tpf_client.proofs.calls.evaluate_rows.Goals as goal

pub gather-ended-requires-clause-rest : goal.gather-ended-requires-clause-rest
gather-ended-requires-clause-rest g c = rest-empty c.args.options.now c.new-asks.result (g.W.Wire.state c.args.wire.now) c.new-asks.ensures.empty

pub close-requires : goal.close-requires
close-requires g c = record { suits = c.gather-ended.ensures.suits }

-- ---- the call, after which its links are closed

pub returns-clause-ended : goal.returns-clause-ended
returns-clause-ended g c =
    gives-ended c.calls_rest_on_laws.ensures.solutions c.calls_rest_on_laws.ensures.traffic (g.W.Wire.allows c.args.wire.now) c.args.options.now c.args.starts.now (sources_of g.E.Evaluates.Source g.E.Evaluates.fits g.E.Evaluates.is_true g.E.Evaluates.rows g.E.Evaluates.plan g.E.Evaluates.reported c.args.options.now.block) c.args.query.now c.new-asks.result c.gather-ended.new.asks
    (g.W.Wire.state c.args.wire.now) (g.W.Wire.state c.gather-ended.new.wire) (g.W.Wire.state c.close.new.wire) c.calls_rest_on_laws.ensures.lawful c.new-asks.ensures.empty c.close.ensures.closes
    c.gather-ended.result (λ r. r.1) (λ r. r.0.items) c.gather-ended.ensures.ok c.gather-ended.ensures.err

pub returns-clause-sink : goal.returns-clause-sink
returns-clause-sink g c = c.gather-ended.ensures.sink
