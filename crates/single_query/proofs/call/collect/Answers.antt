-- The one call over one start; over an honest wire it is covered by what the server offers.
use Rattle.std.proofs.Common.{List, [], ◌∷◌, subst}
use Rattle.std.proofs.lemmas.Result.{IfErr-weaker}
use Rattle.tpf_base.specs.Addresses.{Address}
use Rattle.tpf_client.specs.Calls.{most_asked}
use Rattle.tpf_client.specs.Sources.{world_sources}
use Rattle.tpf_client.specs.Offers.{publisher, offer_in_blocks}
use Rattle.tpf_client.specs.Ends.{ends_in_blocks}
use Rattle.tpf_client.specs.Ended.{GivesEnded, GivesOverEnds}
use Rattle.tpf_client.proofs.Offered.{rows-offered}
use Rattle.tpf_client.proofs.Completing.{completes}
use Rattle.tpf_client.proofs.Single.{covers, wants-so, paces-still, gives-single}
use Rattle.single_query.proofs.call.collect.Given as given
use Rattle.single_query.proofs.call.collect.Goals as goal

-- ---- by the one start

ended : (g : given.Over) (c : goal.After-evaluate_rows g)
    → GivesOverEnds (g.W.Wire.allows c.args.wire.now) (ends_in_blocks c.args.options.now.block c.args.query.now c.args.start.now) (world_sources c.args.options.now.block) c.args.query.now (c.args.start.now ∷ []) c.args.options.now (most_asked c.args.options.now c.args.query.now) c.evaluate_rows.result (λ r. r.1) (λ r. r.0.items) (g.W.Wire.state c.args.wire.now) (g.W.Wire.state c.evaluate_rows.new.wire)
ended g c =
    gives-single c.calls_rest_on_laws.ensures.solutions c.calls_rest_on_laws.ensures.traffic (g.W.Wire.allows c.args.wire.now) c.args.options.now (g.W.Wire.state c.args.wire.now) (g.W.Wire.state c.evaluate_rows.new.wire) c.calls_rest_on_laws.ensures.lawful c.is_bounded.ensures c.args.start.now c.args.query.now c.args.options.now.block (c.is_sized.ensures.low, c.is_sized.ensures.high) c.requires.bounds.1 c.evaluate_rows.result (λ r. r.1) (λ r. r.0.items)
    (subst (λ (l : List Address). GivesEnded (g.W.Wire.allows c.args.wire.now) (world_sources c.args.options.now.block) c.args.query.now l c.args.options.now c.evaluate_rows.result (λ r. r.1) (λ r. r.0.items) (g.W.Wire.state c.args.wire.now) (g.W.Wire.state c.evaluate_rows.new.wire)) c.from_ref.ensures.value c.evaluate_rows.ensures.ended)

-- ---- the result

pub returns-clause-ended : goal.returns-clause-ended
returns-clause-ended g c = ended g c

pub returns-clause-headline : goal.returns-clause-headline
returns-clause-headline g c = λ history config honest.
    rows-offered (g.W.Wire.allows c.args.wire.now) c.args.options.now (g.W.Wire.state c.args.wire.now) (g.W.Wire.state c.evaluate_rows.new.wire) (c.args.start.now ∷ []) (world_sources c.args.options.now.block) c.args.query.now (offer_in_blocks c.args.options.now.block (publisher history config) c.args.query.now c.args.start.now)
    (covers c.calls_rest_on_laws.ensures.solutions c.calls_rest_on_laws.ensures.traffic (g.W.Wire.allows c.args.wire.now) c.args.options.now (g.W.Wire.state c.args.wire.now) (g.W.Wire.state c.evaluate_rows.new.wire) c.calls_rest_on_laws.ensures.lawful c.is_bounded.ensures c.args.start.now c.args.query.now c.args.options.now.block (c.is_sized.ensures.low, c.is_sized.ensures.high) (publisher history config) honest)
    (ends_in_blocks c.args.options.now.block c.args.query.now c.args.start.now) (most_asked c.args.options.now c.args.query.now) c.evaluate_rows.result (λ r. r.1) (λ r. r.0.items) (ended g c)

-- ---- the wire

pub returns-clause-sink : goal.returns-clause-sink
returns-clause-sink g c = c.evaluate_rows.ensures.sink

pub returns-clause-complete : goal.returns-clause-complete
returns-clause-complete g c = λ history config honest alive rise few fits.
    completes (offer_in_blocks c.args.options.now.block (publisher history config) c.args.query.now c.args.start.now) c.args.options.now (g.W.Wire.state c.args.wire.now) (g.W.Wire.state c.evaluate_rows.new.wire) rise few fits c.evaluate_rows.result ((ended g c).acts.plan.honest_cause (publisher history config) honest)
    ((ended g c).acts.plan.lively_cause (publisher history config) honest alive) c.evaluate_rows.ensures.sink

pub returns-clause-still : goal.returns-clause-still
returns-clause-still g c = λ p version over tells alive rise few fits none.
    wants-so c.calls_rest_on_laws.ensures.solutions c.calls_rest_on_laws.ensures.traffic (g.W.Wire.allows c.args.wire.now) c.args.options.now (g.W.Wire.state c.args.wire.now) (g.W.Wire.state c.evaluate_rows.new.wire) c.calls_rest_on_laws.ensures.lawful c.is_bounded.ensures c.args.start.now c.args.query.now c.args.options.now.block (c.is_sized.ensures.low, c.is_sized.ensures.high) p version over tells (ended g c).acts.happened c.evaluate_rows.result _ _ alive rise few fits (IfErr-weaker c.evaluate_rows.result _ _ (λ fault w. w.some) (ended g c).err) c.evaluate_rows.ensures.sink

pub returns-clause-paced : goal.returns-clause-paced
returns-clause-paced g c = λ p version over tells alive.
    paces-still c.calls_rest_on_laws.ensures.solutions c.calls_rest_on_laws.ensures.traffic (g.W.Wire.allows c.args.wire.now) c.args.options.now (g.W.Wire.state c.args.wire.now) (g.W.Wire.state c.evaluate_rows.new.wire) c.calls_rest_on_laws.ensures.lawful c.is_bounded.ensures c.args.start.now c.args.query.now c.args.options.now.block (c.is_sized.ensures.low, c.is_sized.ensures.high) p version over tells (ended g c).acts.happened c.evaluate_rows.result (λ r. r.1) (λ r. r.0.items) alive (ended g c).ok
