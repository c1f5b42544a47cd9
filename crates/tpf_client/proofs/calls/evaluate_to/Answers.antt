-- The pool begins with nothing, and its links are closed at last.
use Rattle.std.proofs.lemmas.Result.{IfOk-weaker}
use Rattle.tpf_client.specs.Sources.{sources_of}
use Rattle.tpf_client.proofs.Shutting.{on-err-of, rest-empty}
use Rattle.tpf_client.proofs.Written.{result-written, prefix-written}
use Rattle.tpf_client.proofs.Ended.{writes-ended}
use Rattle.tpf_client.proofs.calls.evaluate_to.Goals as goal

pub write_result-ended-requires-clause-rest : goal.write_result-ended-requires-clause-rest
write_result-ended-requires-clause-rest g c = rest-empty c.args.options.now c.new-asks.result (g.W.Wire.state c.args.wire.now) c.new-asks.ensures.empty

pub close-requires : goal.close-requires
close-requires g c = record { suits = c.write_result-ended.ensures.suits }

-- ---- the call, after which its links are closed

pub returns-clause-ended : goal.returns-clause-ended
returns-clause-ended g c =
    writes-ended c.calls_rest_on_laws.ensures.solutions c.calls_rest_on_laws.ensures.traffic (g.W.Wire.allows c.args.wire.now) c.args.options.now c.args.starts.now (sources_of g.E.Evaluates.Source g.E.Evaluates.fits g.E.Evaluates.is_true g.E.Evaluates.rows g.E.Evaluates.plan g.E.Evaluates.reported c.args.options.now.block) c.args.query.now c.new-asks.result c.write_result-ended.new.asks
    (g.W.Wire.state c.args.wire.now) (g.W.Wire.state c.write_result-ended.new.wire) (g.W.Wire.state c.close.new.wire) c.calls_rest_on_laws.ensures.lawful c.new-asks.ensures.empty c.close.ensures.closes
    (g.K.Sink.state c.args.out.now) (g.K.Sink.state c.write_result-ended.new.out) c.write_result-ended.result c.write_result-ended.ensures.ok c.write_result-ended.ensures.err

pub returns-clause-whole : goal.returns-clause-whole
returns-clause-whole g c = IfOk-weaker c.write_result-ended.result _ _ (λ report w. result-written _ _ c.args.query.now c.args.starts.now report _ _ w) c.write_result-ended.ensures.ok

pub returns-clause-front : goal.returns-clause-front
returns-clause-front g c = on-err-of c.write_result-ended.result _ _ (λ fault w. prefix-written _ _ c.args.query.now c.args.starts.now c.calls_rest_on_laws.ensures.solutions.pieces c.calls_rest_on_laws.ensures.solutions.goes_on c.args.options.now.budget fault _ _ w.some) c.write_result-ended.ensures.err
