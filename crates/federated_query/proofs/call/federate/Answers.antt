-- What the servers offer together covers the call.
use Rattle.std.proofs.Common.{ℕ, ◌≡◌, true, List, length}
use Rattle.std.proofs.Math.Nat.{le_refl}
use Rattle.std.specs.Prelude.{IfErr}
use Rattle.std.proofs.lemmas.Result.{IfOk-weaker, IfErr-weaker}
use Rattle.tpf_base.specs.Causes.{Rose}
use Rattle.tpf_client.specs.Calls.{most_over}
use Rattle.tpf_client.specs.Ends.{AreHonestServers, servers_ends}
use Rattle.tpf_client.specs.Ended.{WritesOverEnds}
use Rattle.tpf_client.specs.Offers.{Publisher, servers_offer}
use Rattle.tpf_client.specs.Plans.{RisesFew, PlanFits, MayStill}
use Rattle.tpf_client.proofs.Clauses.{writes-over}
use Rattle.tpf_client.proofs.Completing.{completes}
use Rattle.tpf_client.proofs.Covered.{Covered}
use Rattle.tpf_client.proofs.Offered.{text-offered, front-offered}
use Rattle.federated_query.specs.Servers.{joint_sources}
use Rattle.federated_query.proofs.Covering.{servers-covered}
use Rattle.federated_query.proofs.Fitting.{plan-fits, choice-fits}
use Rattle.federated_query.proofs.Still.{still-wants}
use Rattle.federated_query.proofs.call.federate.Given as given
use Rattle.federated_query.proofs.call.federate.Goals as goal

covers : (g : given.Over) (c : goal.After-evaluate_to g) (publishers : List Publisher) → AreHonestServers (g.W.Wire.allows c.args.wire.now) c.args.starts.now publishers (g.W.Wire.state c.args.wire.now)
    → Covered joint_sources (servers_offer publishers c.args.query.now c.args.starts.now) (g.W.Wire.allows c.args.wire.now) c.args.options.now (g.W.Wire.state c.args.wire.now) (g.W.Wire.state c.evaluate_to.new.wire) c.args.starts.now c.args.query.now
covers g c publishers honest =
    servers-covered c.calls_rest_on_laws.ensures.solutions c.versions_are_valid.ensures.versions (g.W.Wire.allows c.args.wire.now) c.args.options.now (g.W.Wire.state c.args.wire.now) (g.W.Wire.state c.evaluate_to.new.wire) c.calls_rest_on_laws.ensures.lawful c.is_bounded.ensures publishers c.args.starts.now c.requires.starts c.requires.apart honest c.args.query.now

ended : (g : given.Over) (c : goal.After-evaluate_to g)
    → WritesOverEnds (g.W.Wire.allows c.args.wire.now) (servers_ends c.args.query.now c.args.starts.now) joint_sources c.args.query.now c.args.starts.now c.args.options.now (most_over c.args.options.now c.args.query.now (length c.args.starts.now)) c.evaluate_to.result (g.W.Wire.state c.args.wire.now) (g.W.Wire.state c.evaluate_to.new.wire) (g.K.Sink.state c.args.out.now) (g.K.Sink.state c.evaluate_to.new.out)
ended g c =
    writes-over c.calls_rest_on_laws.ensures.solutions c.calls_rest_on_laws.ensures.traffic (g.W.Wire.allows c.args.wire.now) c.args.options.now (g.W.Wire.state c.args.wire.now) (g.W.Wire.state c.evaluate_to.new.wire) c.calls_rest_on_laws.ensures.lawful c.args.starts.now joint_sources c.args.query.now c.is_bounded.ensures c.requires.bounds.1 (servers_ends c.args.query.now c.args.starts.now) (covers g c)
    (most_over c.args.options.now c.args.query.now (length c.args.starts.now)) (le_refl (most_over c.args.options.now c.args.query.now (length c.args.starts.now))) c.evaluate_to.result (g.K.Sink.state c.args.out.now) (g.K.Sink.state c.evaluate_to.new.out) c.evaluate_to.ensures.ended

pub returns-clause-ended : goal.returns-clause-ended
returns-clause-ended g c = ended g c

pub returns-clause-headline : goal.returns-clause-headline
returns-clause-headline g c = λ publishers honest.
    text-offered (g.W.Wire.allows c.args.wire.now) c.args.options.now (g.W.Wire.state c.args.wire.now) (g.W.Wire.state c.evaluate_to.new.wire) c.args.starts.now joint_sources c.args.query.now (servers_offer publishers c.args.query.now c.args.starts.now) (covers g c publishers honest)
    (servers_ends c.args.query.now c.args.starts.now) (most_over c.args.options.now c.args.query.now (length c.args.starts.now)) c.evaluate_to.result (g.K.Sink.state c.args.out.now) (g.K.Sink.state c.evaluate_to.new.out) (ended g c)

pub returns-clause-prefix : goal.returns-clause-prefix
returns-clause-prefix g c = λ publishers honest.
    front-offered (g.W.Wire.allows c.args.wire.now) c.args.options.now (g.W.Wire.state c.args.wire.now) (g.W.Wire.state c.evaluate_to.new.wire) c.args.starts.now joint_sources c.args.query.now (servers_offer publishers c.args.query.now c.args.starts.now) (covers g c publishers honest)
    (servers_ends c.args.query.now c.args.starts.now) (most_over c.args.options.now c.args.query.now (length c.args.starts.now)) c.calls_rest_on_laws.ensures.solutions.pieces c.calls_rest_on_laws.ensures.solutions.goes_on c.evaluate_to.result (g.K.Sink.state c.args.out.now) (g.K.Sink.state c.evaluate_to.new.out) (ended g c)

-- where the plan fits
complete : (g : given.Over) (c : goal.After-evaluate_to g) (publishers : List Publisher) → AreHonestServers (g.W.Wire.allows c.args.wire.now) c.args.starts.now publishers (g.W.Wire.state c.args.wire.now)
    → (g.W.Wire.state c.args.wire.now).nature.lively ≡ true → (rise : ℕ) → RisesFew c.args.options.now rise (g.W.Wire.state c.args.wire.now) (g.W.Wire.state c.evaluate_to.new.wire)
    → PlanFits (servers_offer publishers c.args.query.now c.args.starts.now) c.args.options.now rise → (Rose (g.K.Sink.state c.args.out.now).faults (g.K.Sink.state c.evaluate_to.new.out).faults → ⊥)
    → IfErr c.evaluate_to.result (MayStill (servers_offer publishers c.args.query.now c.args.starts.now))
complete g c publishers honest alive rise few fits none =
    completes (servers_offer publishers c.args.query.now c.args.starts.now) c.args.options.now (g.W.Wire.state c.args.wire.now) (g.W.Wire.state c.evaluate_to.new.wire) rise few fits c.evaluate_to.result ((ended g c).acts.plan.honest_cause publishers honest)
    ((ended g c).acts.plan.lively_cause publishers honest alive) (λ e. none (c.evaluate_to.ensures.sink.sink e))

pub returns-clause-complete : goal.returns-clause-complete
returns-clause-complete g c = complete g c

pub returns-clause-limits : goal.returns-clause-limits
returns-clause-limits g c = λ publishers honest alive rise few within none.
    complete g c publishers honest alive rise few
    (plan-fits c.joint_plans_are_read.ensures c.plans_are_read.ensures.start c.pages_are_answered.ensures.answered (g.W.Wire.allows c.args.wire.now) (g.W.Wire.state c.args.wire.now) publishers c.args.query.now c.args.starts.now c.args.options.now rise c.requires.starts c.requires.apart honest within) none

pub returns-clause-version : goal.returns-clause-version
returns-clause-version g c = IfOk-weaker c.evaluate_to.result _ _ (λ report w. w.returns.is_version) (ended g c).ok

pub returns-clause-still : goal.returns-clause-still
returns-clause-still g c = λ publishers versions honest still alive rise few fits none.
    still-wants c.calls_rest_on_laws.ensures.solutions c.calls_rest_on_laws.ensures.traffic c.versions_are_valid.ensures.versions (g.W.Wire.allows c.args.wire.now) c.args.options.now (g.W.Wire.state c.args.wire.now) (g.W.Wire.state c.evaluate_to.new.wire) c.calls_rest_on_laws.ensures.lawful c.is_bounded.ensures publishers c.args.starts.now c.requires.starts c.requires.apart honest c.args.query.now versions still
    (ended g c).acts.happened c.evaluate_to.result _ _ alive rise few fits (IfErr-weaker c.evaluate_to.result _ _ (λ fault w. w.fails.some) (ended g c).err) (λ e. none (c.evaluate_to.ensures.sink.sink e))

pub returns-clause-still_limits : goal.returns-clause-still_limits
returns-clause-still_limits g c = λ publishers versions honest still alive rise few within none.
    returns-clause-still g c publishers versions honest still alive rise few
    (choice-fits c.joint_plans_are_read.ensures c.plans_are_read.ensures.start c.pages_are_answered.ensures.answered (g.W.Wire.allows c.args.wire.now) (g.W.Wire.state c.args.wire.now) publishers c.args.query.now c.args.starts.now c.args.options.now rise c.requires.starts c.requires.apart honest versions within) none
