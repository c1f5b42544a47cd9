-- How many requests a call makes that is covered by an offer, over a lively wire, and why it fails there.
use Rattle.std.proofs.Common.{ℕ, suc, ◌≡◌, ◌≢◌, ◌≤◌, ◌<◌, ◌+◌, ◌^◌, List, [], ◌∷◌, length, true, refl, ◌∙◌, inl, inr, arith}
use Rattle.std.proofs.lemmas.Bool.{cases_lt}
use Rattle.tpf_base.specs.Addresses.{Address}
use Rattle.tpf_base.specs.Causes.{Rose, RoseBy}
use Rattle.tpf_base.specs.Links.{WireState}
use Rattle.bgp_core.specs.Queries.{QueryData}
use Rattle.request_pool.specs.declared.asks.Waiting.{Waiting}
use Rattle.request_pool.specs.declared.fault.PoolFault.TheVariants as pool
use Rattle.request_pool.specs.Pools.{IsOverBudget}
use Rattle.pool_laws.specs.Rising.{FailuresRose}
use Rattle.tpf_client.specs.declared.options.Options.{Options}
use Rattle.tpf_client.specs.declared.options.Report.{Report}
use Rattle.tpf_client.specs.declared.fault.ClientFault.{ClientFault}
use Rattle.tpf_client.specs.declared.fault.ClientFault.TheVariants as faults
use Rattle.tpf_client.specs.Traffic.{Broke, IsLawful, without_fault, StepBreaks}
use Rattle.tpf_client.specs.Turns.{asked_in}
use Rattle.tpf_client.specs.Sources.{Sources}
use Rattle.tpf_client.specs.Offers.{Offer}
use Rattle.tpf_client.specs.Honest.{Laws}
use Rattle.tpf_client.specs.Requests.{TrafficLaws}
use Rattle.tpf_client.specs.Plans.{CountsRises, PacesRequests, OverrunsPlan, IsLivelyCause}
use Rattle.tpf_client.specs.Acts.{IsLivelyCauseOf}
use Rattle.tpf_client.proofs.Endings.{ending, same-bounds}
use Rattle.tpf_client.proofs.Known.{Exit, exit-of}
use Rattle.tpf_client.proofs.Covered.{Covered, served-at}
use Rattle.tpf_client.proofs.Rises.{IsServedAt, rises-so, ends-by-rises}
use Rattle.tpf_client.proofs.Planned.{PlannedRun, ExplainedRun, WholeRun, least-started, few-asked, all-counted}

some-waiting : (xs : List Waiting) → xs ≢ [] → 1 ≤ length xs
some-waiting [] some = absurd (some refl)
some-waiting (x ∷ xs) some = let e : length (x ∷ xs) ≡ suc (length xs) = refl in omega (arith, e)

as-often : (n before now : ℕ) → 0 < n → RoseBy n before now → Rose before now
as-often n before now low h = omega (arith, low, h)

-- without a rise there are none of so many
pub no-rises : (n before now : ℕ) → RoseBy n before now → (Rose before now → ⊥) → n ≡ 0
no-rises n before now h none = elim (cases_lt 0 n) [ inl low ↦ absurd (none (as-often n before now low h)) | inr high ↦ omega (arith, high) ]

-- the same count of the same number
abbrev pub counts-as : (offer : Offer) (since now : WireState) (n m : ℕ) → n ≡ m → CountsRises (λ started. started ≡ n) offer since now → CountsRises (λ started. started ≡ m) offer since now
counts-as offer since now n m e c = record { choice = c.choice; is_choice = c.is_choice; rises = c.rises; rose = c.rose; started = c.started; is_started = c.is_started ∙ e; few = c.few; dials = c.dials; given = c.given }

module _ (laws : Laws) (traffic : TrafficLaws) (allows : List ℕ → ℕ → List ℕ → List ℕ → Type 0) (options : Options) (since now : WireState) (lawful : IsLawful allows since) (limit : options.max_body < 2 ^ 64) (starts : List Address)
    (sources : Sources) (offer : Offer) (q : QueryData) (covered : Covered sources offer allows options since now starts q) where
  exit : (x : PlannedRun allows offer options since now starts) → Exit starts options since now (length (asked_in x.run.events)) x.run.pool.started
  exit x = exit-of laws traffic starts options allows since lawful now x.run.events x.run.pool x.run.asks x.run.runs (same-bounds laws traffic allows options since now lawful starts x.run.events x.run.pool x.run.asks x.run.runs)

  served : IsServedAt allows starts
  served = served-at sources offer allows options since now starts q covered

  module _ (lively : since.nature.lively ≡ true) where
    pub rises-of : (x : PlannedRun allows offer options since now starts) → FailuresRose since.faults (length (asked_in x.run.events)) x.run.pool x.run.runs.between
    rises-of x = (rises-so laws traffic allows options since lawful starts covered.tells served limit lively x.run.events x.run.pool x.run.runs.between x.run.asks x.run.runs.travels).rose

    same-rise : (n before mid last : ℕ) → last ≡ mid → RoseBy n before mid → RoseBy n before last
    same-rise n before mid last e h = omega (arith, e, h)

    more-than : (a b c d : ℕ) → a ≤ b + c → c ≤ d → a ≤ b + d
    more-than a b c d l m = omega (arith, l, m)

    few-started : (started waiting asked failures most : ℕ) → started + waiting ≤ asked + failures → asked ≤ most → started ≤ most + failures
    few-started started waiting asked failures most l m = omega (arith, l, m)

    pub counts-so : (x : PlannedRun allows offer options since now starts) → CountsRises (λ started. started ≡ x.run.pool.started) offer since now
    counts-so x =
        let i = rises-of x in
        let out = exit x in
        let most = length (offer.addresses x.choice) in
        let few : x.run.pool.started ≤ most + i.failures = few-started x.run.pool.started (length x.run.pool.waiting) (length (asked_in x.run.events)) i.failures most i.few (few-asked offer (asked_in x.run.events) x.choice x.of_plan) in
        record {
          choice = x.choice;
          is_choice = x.of_plan.is_choice;
          rises = i.failures;
          rose = same-rise i.failures since.faults x.run.runs.between.faults now.faults x.run.runs.closes.faults i.all;
          started = x.run.pool.started;
          is_started = refl;
          few = few;
          dials = more-than now.dials since.dials x.run.pool.started (most + i.failures) out.dials few;
          given = more-than now.given since.given x.run.pool.started (most + i.failures) out.given few;
        }

    pub counts-choice : (x : PlannedRun allows offer options since now starts) → (counts-so x).choice ≡ x.choice
    unfolding counts-so
    counts-choice x = refl

    exactly : (n m r : ℕ) → m ≤ n → n ≤ m + r → r ≡ 0 → n ≡ m
    exactly n m r l h z = omega (arith, l, h, z)

    pub paces-so : (report : Report) → WholeRun allows offer options since now starts report → PacesRequests offer report since now
    paces-so report x =
        let c = rises-of x.planned in
        let most = length (offer.addresses x.planned.choice) in
        let total = all-counted offer (asked_in x.planned.run.events) x.planned.choice x.planned.of_plan x.none_left in
        let least = least-started traffic allows options since now lawful starts x.planned.run x.no_fault x.none_held in
        let same = x.requests in
        let enough = c.few in
        let each : most ≤ report.requests = omega (arith, total, least, same) in
        let few : report.requests ≤ most + c.failures = omega (arith, total, same, enough) in
        let rose = same-rise c.failures since.faults x.planned.run.runs.between.faults now.faults x.planned.run.runs.closes.faults c.all in
        record {
          choice = x.planned.choice;
          is_choice = x.planned.of_plan.is_choice;
          is_reported = x.is_reported;
          each = each;
          rises = c.failures;
          rose = rose;
          few = few;
          exact = λ none. exactly report.requests most c.failures each few (no-rises c.failures since.faults now.faults rose none);
        }

    -- ---- causes

    abbrev Run : ClientFault → Type 0
    Run fault = ExplainedRun allows offer options since now starts fault

    over-so : (budget started waiting asked failures most bound : ℕ) → budget ≤ started → budget ≡ bound → 1 ≤ waiting → started + waiting ≤ asked + failures → asked ≤ most → bound < most + failures
    over-so budget started waiting asked failures most bound s e w l m = omega (arith, s, e, w, l, m)

    overruns : (n : ℕ) → Run (faults.Budget n) → OverrunsPlan offer options since now
    overruns n x =
        let run = x.planned.run in
        let i = rises-of x.planned in
        let most = length (offer.addresses x.planned.choice) in
        let e = ending laws traffic allows options since now lawful starts run.events (Broke pool.Budget) run.pool x.explains.1 run.runs run.asks in
        let h : StepBreaks pool.Budget e.mid run.pool e.between run.runs.between = e.last.happens in
        let c : IsOverBudget (without_fault run.pool) = traffic.causes pool.Budget e.mid (without_fault run.pool) e.between run.runs.between e.given e.suits e.knows.answers h.steps in
        let budget = same-bounds laws traffic allows options since now lawful starts run.events run.pool run.asks run.runs in
        record {
          choice = x.planned.choice;
          is_choice = x.planned.of_plan.is_choice;
          rises = i.failures;
          rose = same-rise i.failures since.faults run.runs.between.faults now.faults run.runs.closes.faults i.all;
          over = over-so run.pool.budget run.pool.started (length run.pool.waiting) (length (asked_in run.events)) i.failures most options.budget c.spent budget (some-waiting run.pool.waiting c.waits) i.few
              (few-asked offer (asked_in run.events) x.planned.choice x.planned.of_plan);
        }

    pub lively-cause : (fault : ClientFault) → Run fault → IsLivelyCause offer options since now fault
    lively-cause faults.Exchange x = ends-by-rises laws traffic allows options since lawful starts covered.tells served limit lively now pool.Exchange x.planned.run.events x.planned.run.pool x.explains x.planned.run.runs x.planned.run.asks
    lively-cause faults.Stalled x = ends-by-rises laws traffic allows options since lawful starts covered.tells served limit lively now pool.Stalled x.planned.run.events x.planned.run.pool x.explains x.planned.run.runs x.planned.run.asks
    lively-cause (faults.Cut received) x = ends-by-rises laws traffic allows options since lawful starts covered.tells served limit lively now (pool.Cut received) x.planned.run.events x.planned.run.pool x.explains x.planned.run.runs x.planned.run.asks
    lively-cause (faults.Reply fault received) x = tt
    lively-cause (faults.Page fault body) x = tt
    lively-cause (faults.Changed first other) x = tt
    lively-cause (faults.Budget n) x = overruns n x
    lively-cause faults.Sink x = tt
    lively-cause faults.OutOfMemory x = tt

    -- it is said of the choice of the run
    pub lively-cause-of : (fault : ClientFault) (x : Run fault) → IsLivelyCauseOf offer options since now x.planned.choice fault (lively-cause fault x)
    unfolding lively-cause overruns
    lively-cause-of faults.Exchange x = tt
    lively-cause-of faults.Stalled x = tt
    lively-cause-of (faults.Cut received) x = tt
    lively-cause-of (faults.Reply fault received) x = tt
    lively-cause-of (faults.Page fault body) x = tt
    lively-cause-of (faults.Changed first other) x = tt
    lively-cause-of (faults.Budget n) x = refl
    lively-cause-of faults.Sink x = tt
    lively-cause-of faults.OutOfMemory x = tt
