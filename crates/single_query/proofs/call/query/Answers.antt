-- The one call over one start; over an honest wire it is covered by what the server offers.
use Rattle.std.proofs.Common.{List, [], ◌∷◌, subst}
use Rattle.std.proofs.lemmas.Result.{IfErr-weaker}
use Rattle.tpf_base.specs.Addresses.{Address}
use Rattle.tpf_client.specs.Calls.{most_asked}
use Rattle.tpf_client.specs.Sources.{world_sources}
use Rattle.tpf_client.specs.Offers.{publisher, offer_in_blocks}
use Rattle.tpf_client.specs.Ends.{ends_in_blocks}
use Rattle.tpf_client.specs.Ended.{WritesEnded, WritesOverEnds}
use Rattle.tpf_client.proofs.Offered.{text-offered, front-offered}
use Rattle.tpf_client.proofs.Completing.{completes}
use Rattle.tpf_client.proofs.Single.{covers, wants-so, writes-single}
use Rattle.single_query.proofs.call.query.Given as given
use Rattle.single_query.proofs.call.query.Goals as goal

-- ---- by the one start

ended : (g : given.Over) (c : goal.After-evaluate_to g)
    → WritesOverEnds (g.W.Wire.allows c.args.wire.now) (ends_in_blocks c.args.options.now.block c.args.query.now c.args.start.now) (world_sources c.args.options.now.block) c.args.query.now (c.args.start.now ∷ []) c.args.options.now (most_asked c.args.options.now c.args.query.now) c.evaluate_to.result (g.W.Wire.state c.args.wire.now) (g.W.Wire.state c.evaluate_to.new.wire) (g.K.Sink.state c.args.out.now) (g.K.Sink.state c.evaluate_to.new.out)
ended g c =
    writes-single c.calls_rest_on_laws.ensures.solutions c.calls_rest_on_laws.ensures.traffic (g.W.Wire.allows c.args.wire.now) c.args.options.now (g.W.Wire.state c.args.wire.now) (g.W.Wire.state c.evaluate_to.new.wire) c.calls_rest_on_laws.ensures.lawful c.is_bounded.ensures c.args.start.now c.args.query.now c.args.options.now.block (c.is_sized.ensures.low, c.is_sized.ensures.high) c.requires.bounds.1 c.evaluate_to.result (g.K.Sink.state c.args.out.now) (g.K.Sink.state c.evaluate_to.new.out)
    (subst (λ (l : List Address). WritesEnded (g.W.Wire.allows c.args.wire.now) (world_sources c.args.options.now.block) c.args.query.now l c.args.options.now c.evaluate_to.result (g.W.Wire.state c.args.wire.now) (g.W.Wire.state c.evaluate_to.new.wire) (g.K.Sink.state c.args.out.now) (g.K.Sink.state c.evaluate_to.new.out)) c.from_ref.ensures.value c.evaluate_to.ensures.ended)

-- ---- the result

pub returns-clause-ended : goal.returns-clause-ended
returns-clause-ended g c = ended g c

pub returns-clause-headline : goal.returns-clause-headline
returns-clause-headline g c = λ history config honest.
    text-offered (g.W.Wire.allows c.args.wire.now) c.args.options.now (g.W.Wire.state c.args.wire.now) (g.W.Wire.state c.evaluate_to.new.wire) (c.args.start.now ∷ []) (world_sources c.args.options.now.block) c.args.query.now (offer_in_blocks c.args.options.now.block (publisher history config) c.args.query.now c.args.start.now)
    (covers c.calls_rest_on_laws.ensures.solutions c.calls_rest_on_laws.ensures.traffic (g.W.Wire.allows c.args.wire.now) c.args.options.now (g.W.Wire.state c.args.wire.now) (g.W.Wire.state c.evaluate_to.new.wire) c.calls_rest_on_laws.ensures.lawful c.is_bounded.ensures c.args.start.now c.args.query.now c.args.options.now.block (c.is_sized.ensures.low, c.is_sized.ensures.high) (publisher history config) honest)
    (ends_in_blocks c.args.options.now.block c.args.query.now c.args.start.now) (most_asked c.args.options.now c.args.query.now) c.evaluate_to.result (g.K.Sink.state c.args.out.now) (g.K.Sink.state c.evaluate_to.new.out) (ended g c)

pub returns-clause-prefix : goal.returns-clause-prefix
returns-clause-prefix g c = λ history config honest.
    front-offered (g.W.Wire.allows c.args.wire.now) c.args.options.now (g.W.Wire.state c.args.wire.now) (g.W.Wire.state c.evaluate_to.new.wire) (c.args.start.now ∷ []) (world_sources c.args.options.now.block) c.args.query.now (offer_in_blocks c.args.options.now.block (publisher history config) c.args.query.now c.args.start.now)
    (covers c.calls_rest_on_laws.ensures.solutions c.calls_rest_on_laws.ensures.traffic (g.W.Wire.allows c.args.wire.now) c.args.options.now (g.W.Wire.state c.args.wire.now) (g.W.Wire.state c.evaluate_to.new.wire) c.calls_rest_on_laws.ensures.lawful c.is_bounded.ensures c.args.start.now c.args.query.now c.args.options.now.block (c.is_sized.ensures.low, c.is_sized.ensures.high) (publisher history config) honest)
    (ends_in_blocks c.args.options.now.block c.args.query.now c.args.start.now) (most_asked c.args.options.now c.args.query.now) c.calls_rest_on_laws.ensures.solutions.pieces c.calls_rest_on_laws.ensures.solutions.goes_on c.evaluate_to.result (g.K.Sink.state c.args.out.now) (g.K.Sink.state c.evaluate_to.new.out) (ended g c)

-- ---- the wire

pub returns-clause-complete : goal.returns-clause-complete
returns-clause-complete g c = λ history config honest alive rise few fits none.
    completes (offer_in_blocks c.args.options.now.block (publisher history config) c.args.query.now c.args.start.now) c.args.options.now (g.W.Wire.state c.args.wire.now) (g.W.Wire.state c.evaluate_to.new.wire) rise few fits c.evaluate_to.result ((ended g c).acts.plan.honest_cause (publisher history config) honest)
    ((ended g c).acts.plan.lively_cause (publisher history config) honest alive) (λ e. none (c.evaluate_to.ensures.sink.sink e))

pub returns-clause-still : goal.returns-clause-still
returns-clause-still g c = λ p version over tells alive rise few fits none.
    wants-so c.calls_rest_on_laws.ensures.solutions c.calls_rest_on_laws.ensures.traffic (g.W.Wire.allows c.args.wire.now) c.args.options.now (g.W.Wire.state c.args.wire.now) (g.W.Wire.state c.evaluate_to.new.wire) c.calls_rest_on_laws.ensures.lawful c.is_bounded.ensures c.args.start.now c.args.query.now c.args.options.now.block (c.is_sized.ensures.low, c.is_sized.ensures.high) p version over tells (ended g c).acts.happened c.evaluate_to.result _ _ alive rise few fits (IfErr-weaker c.evaluate_to.result _ _ (λ fault w. w.fails.some) (ended g c).err) (λ e. none (c.evaluate_to.ensures.sink.sink e))
