-- What the call for a block did, said of a wire on which the same replies are allowed, and by its report alone.
use Rattle.std.proofs.Common.{ℕ, ◌≡◌, ◌≤◌, List, Some, [], ◌∷◌}
use Rattle.std.specs.Prelude.{Result, Ok, Err, IfOk, IfErr}
use Rattle.rdf_terms.specs.declared.term.Triple.{Triple}
use Rattle.tpf_base.specs.Addresses.{Address}
use Rattle.tpf_base.specs.Links.{WireState, SameAllowed}
use Rattle.template_fill.specs.Metadata.{Config}
use Rattle.bgp_core.specs.Queries.{QueryData}
use Rattle.request_pool.specs.Pools.{Pooled, empty_pool}
use Rattle.tpf_client.specs.declared.options.Options.{Options}
use Rattle.tpf_client.specs.declared.options.Report.{Report}
use Rattle.tpf_client.specs.declared.fault.ClientFault.{ClientFault}
use Rattle.tpf_client.specs.Traffic.{PoolEvent}
use Rattle.tpf_client.specs.Calls.{RunsPool, Happened, most_asked, IsCause}
use Rattle.tpf_client.specs.Honest.{IsHonestWire}
use Rattle.tpf_client.specs.Offers.{Publisher, Offer, offer_in_blocks}
use Rattle.tpf_client.specs.Ends.{ends_in_blocks}
use Rattle.tpf_client.specs.Requests.{AnswersAll, DialsAtMost, GivesAtMost, RequestsAreTries}
use Rattle.tpf_client.specs.Requested.{AnswersPlan}
use Rattle.tpf_client.specs.Plans.{PacesRequests, IsHonestCause, IsLivelyCause}
use Rattle.tpf_client.specs.Failing.{IsFailedOften, ForBudget, Spends, SpendsRequests, SpendsTries, SpendsPlan}
use Rattle.tpf_client.specs.Acts.{WithCause, IsHonestCauseOf, IsLivelyCauseOf, ActsByPlan, ActsOnWire, IsSpentOf}
use Rattle.tpf_client.specs.Still.{AnswersOver}
use Rattle.tpf_client.proofs.Traveling.{travels-allowed}
use Rattle.group_patterns.specs.Blocks.{BlockRows, GivesRows, EndsBlock}

-- ---- a result by its report

abbrev pub reported : {A : Type 0} → (A → Report) → Result A ClientFault → Result Report ClientFault
reported told (Ok x) = Ok (told x)
reported told (Err fault) = Err fault

pub if-told : {A : Type 0} (told : A → Report) (r : Result A ClientFault) (P Q : Report → Type 0) → ((report : Report) → P report → Q report) → IfOk r (λ x. P (told x)) → IfOk (reported told r) Q
if-told told (Ok x) P Q f p = f (told x) p
if-told told (Err fault) P Q f p = tt

abbrev ended : {A : Type 0} (told : A → Report) (r : Result A ClientFault) (P : ClientFault → Type 0) → IfErr r P → IfErr (reported told r) P
ended told (Ok x) P p = tt
ended told (Err fault) P p = p

pub with-cause : {A : Type 0} (told : A → Report) (r : Result A ClientFault) (cause : ClientFault → Type 0) (known : IfErr r cause) (holds : (fault : ClientFault) → cause fault → Type 0) → WithCause r cause known holds → WithCause (reported told r) cause (ended told r cause known) holds
with-cause told (Ok x) cause known holds h = tt
with-cause told (Err fault) cause known holds h = h

module _ (old new : List ℕ → ℕ → List ℕ → List ℕ → Type 0) (same : SameAllowed old new) where
  pub honest-so : (start : Address) (history : List (List Triple)) (config : Config) (w : WireState) → IsHonestWire old start history config w → IsHonestWire new start history config w
  honest-so start history config w h = record {
    tells = h.tells;
    is_honest = λ sent owed is. h.is_honest sent owed ((same start.host start.port sent owed).0 is);
    is_history = h.is_history;
    is_config = h.is_config;
    few = h.few;
  }

  publisher-so : (start : Address) (p : Publisher) (w : WireState) → IsHonestWire old start p.history p.config w → IsHonestWire new start p.history p.config w
  publisher-so start p w h = honest-so start p.history p.config w h

  answers-so : (start : Address) (p : Publisher) (version : ℕ) → AnswersOver old start p version → AnswersOver new start p version
  answers-so start p version a = record {
    is_history = a.is_history;
    is_config = a.is_config;
    is_version = a.is_version;
    few = a.few;
    is_honest = λ sent owed is. a.is_honest sent owed ((same start.host start.port sent owed).0 is);
  }

  module _ (options : Options) (since now : WireState) where
    pub runs-so : (events : List PoolEvent) (pool : Pooled) → RunsPool new options since now events pool → RunsPool old options since now events pool
    runs-so events pool r = record {
      between = r.between;
      travels = travels-allowed old new events (empty_pool options.links options.retries options.budget options.max_body) pool since r.between same r.travels;
      on_wire = r.on_wire;
      closes = r.closes;
    }

    abbrev happened-so : (starts : List Address) → Happened new options starts since now → Happened old options starts since now
    happened-so starts h = record { events = h.events; pool = h.pool; runs = runs-so h.events h.pool h.runs; asks = h.asks }

    -- ---- all of it

    module _ (start : Address) (q : QueryData) {A : Type 0} (told : A → Report) (r : Result A ClientFault) (a : ActsOnWire new (ends_in_blocks options.block q start) options (start ∷ []) (most_asked options q) r told since now) where
      module _ (p : Publisher) (honest : IsHonestWire old start p.history p.config since) where
        abbrev by : IsHonestWire new start p.history p.config since
        by = honest-so start p.history p.config since honest

      abbrev offer-of : Publisher → Offer
      offer-of p = offer_in_blocks options.block p q start

      abbrev plan-so : ActsByPlan old (ends_in_blocks options.block q start) (λ started. started ≡ a.happened.pool.started) options (reported told r) (λ report. report) since now
      plan-so = record {
        requests = λ p honest. if-told told r (λ report. RequestsAreTries (offer-of p) options report) (λ report. RequestsAreTries (offer-of p) options report) (λ report s. s) (a.plan.requests p (by p honest));
        planned = λ p honest. a.plan.planned p (by p honest);
        asked = λ p honest. a.plan.asked p (by p honest);
        requested = λ p honest. a.plan.requested p (by p honest);
        replied = λ p honest. if-told told r (λ report. AnswersPlan (offer-of p) options report since now) (λ report. AnswersPlan (offer-of p) options report since now) (λ report s. s) (a.plan.replied p (by p honest));
        honest_cause = λ p honest. ended told r (IsHonestCause (offer-of p) options) (a.plan.honest_cause p (by p honest));
        counted = λ p honest alive. a.plan.counted p (by p honest) alive;
        paced = λ p honest alive. if-told told r (λ report. PacesRequests (offer-of p) report since now) (λ report. PacesRequests (offer-of p) report since now) (λ report s. s) (a.plan.paced p (by p honest) alive);
        lively_cause = λ p honest alive. ended told r (IsLivelyCause (offer-of p) options since now) (a.plan.lively_cause p (by p honest) alive);
        one_plan = λ p honest. a.plan.one_plan p (by p honest);
        one_count = λ p honest alive. a.plan.one_count p (by p honest) alive;
        one_cause = λ p honest. with-cause told r (IsHonestCause (offer-of p) options) (a.plan.honest_cause p (by p honest)) (IsHonestCauseOf (offer-of p) options (a.plan.asked p (by p honest)).choice) (a.plan.one_cause p (by p honest));
        one_lively_cause = λ p honest alive. with-cause told r (IsLivelyCause (offer-of p) options since now) (a.plan.lively_cause p (by p honest) alive) (IsLivelyCauseOf (offer-of p) options since now (a.plan.asked p (by p honest)).choice) (a.plan.one_lively_cause p (by p honest) alive);
        is_told = λ p honest. if-told told r (λ report. report.version ≡ Some (a.plan.asked p (by p honest)).choice) (λ report. report.version ≡ Some (a.plan.asked p (by p honest)).choice) (λ report s. s) (a.plan.is_told p (by p honest));
        spent_plan = λ p honest. ended told r (ForBudget (SpendsPlan (offer-of p) options)) (a.plan.spent_plan p (by p honest));
        one_spent = λ p honest. with-cause told r (ForBudget (SpendsPlan (offer-of p) options)) (a.plan.spent_plan p (by p honest)) (IsSpentOf (offer-of p) options (a.plan.asked p (by p honest)).choice) (a.plan.one_spent p (by p honest));
        unprovoked = λ p honest. a.plan.unprovoked p (by p honest);
      }

      abbrev pub acts-so : ActsOnWire old (ends_in_blocks options.block q start) options (start ∷ []) (most_asked options q) (reported told r) (λ report. report) since now
      acts-so = record {
        happened = happened-so (start ∷ []) a.happened;
        closed = a.closed;
        peers = a.peers;
        others = a.others;
        moves = a.moves;
        dials = a.dials;
        given = a.given;
        started = a.started;
        waiting = a.waiting;
        sent = a.sent;
        cause = ended told r (IsCause options a.happened.events a.happened.pool since now) a.cause;
        answered = if-told told r (λ report. AnswersAll options report.requests a.happened.events a.happened.pool) (λ report. AnswersAll options report.requests a.happened.events a.happened.pool) (λ report s. s) a.answered;
        within = if-told told r (λ report. report.requests ≤ options.budget) (λ report. report.requests ≤ options.budget) (λ report s. s) a.within;
        dialled = if-told told r (λ report. DialsAtMost report.requests since now) (λ report. DialsAtMost report.requests since now) (λ report s. s) a.dialled;
        linked = if-told told r (λ report. GivesAtMost report.requests since now) (λ report. GivesAtMost report.requests since now) (λ report s. s) a.linked;
        paid = if-told told r (λ report. Spends options.max_body report.requests since now) (λ report. Spends options.max_body report.requests since now) (λ report s. s) a.paid;
        plan = plan-so;
        failed_often = λ alive. ended told r (IsFailedOften options since now) (a.failed_often alive);
        spent_requests = ended told r (ForBudget (SpendsRequests options since now)) a.spent_requests;
        spent_tries = ended told r (ForBudget (SpendsTries options a.happened.events a.happened.pool)) a.spent_tries;
      }

  -- ---- a block

  pub gives-so : (options : Options) (start : Address) (q : QueryData) (b : BlockRows) (since now : WireState) → GivesRows new options start q b since now → GivesRows old options start q b since now
  gives-so options start q b since now g = record {
    some = g.some;
    acts = acts-so options since now start q (λ report. report) (Ok b.report) g.acts;
    returns = g.returns;
    solutions = λ history config honest. g.solutions history config (honest-so start history config since honest);
    paced = λ p version over. g.paced p version (answers-so start p version over);
    width = g.width;
    alone = g.alone;
  }

  pub ends-so : (options : Options) (start : Address) (q : QueryData) (fault : ClientFault) (since now : WireState) → EndsBlock new options start q fault since now → EndsBlock old options start q fault since now
  ends-so options start q fault since now e = record {
    some = e.some;
    acts = acts-so options since now start q (λ report. report) (Err fault) e.acts;
    fails = record { some = e.fails.some; over = λ p honest. e.fails.over p (publisher-so start p since honest) };
    still = λ p version over. e.still p version (answers-so start p version over);
    no_sink = e.no_sink;
    alone = e.alone;
  }
