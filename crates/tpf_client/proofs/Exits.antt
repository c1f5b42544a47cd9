-- What stands at each exit of a call: its links, what was sent on them, and how many requests it made.
use Rattle.std.proofs.Common.{ℕ, ◌≡◌, ◌≤◌, ◌<◌, ◌+◌, ◌*◌, ◌^◌, List, map, length, Option, refl, sym, subst, ◌∙◌, arith}
use Rattle.std.proofs.Math.Nat.{le_trans, mul-le-mul_left}
use Rattle.std.specs.Prelude.{Result, Ok, Err, IfOk, IfErr}
use Rattle.tpf_base.specs.Addresses.{Address}
use Rattle.tpf_base.specs.Causes.{RoseBy}
use Rattle.tpf_base.specs.Links.{WireState}
use Rattle.bgp_core.specs.Queries.{QueryData}
use Rattle.bgp_core.specs.Solutions.{Places}
use Rattle.request_pool.specs.Pools.{Pooled}
use Rattle.tpf_client.specs.declared.options.Options.{Options}
use Rattle.tpf_client.specs.declared.options.Report.{Report}
use Rattle.tpf_client.specs.declared.fault.ClientFault.{ClientFault}
use Rattle.tpf_client.specs.Traffic.{PoolEvent, IsLawful}
use Rattle.tpf_client.specs.Turns.{asked_in, address_of}
use Rattle.tpf_client.specs.Calls.{Returns, WritesSome, Happened, AreThese}
use Rattle.tpf_client.specs.Sources.{Sources}
use Rattle.tpf_client.specs.Offers.{Offer}
use Rattle.tpf_client.specs.Honest.{Laws}
use Rattle.tpf_client.specs.Requests.{TrafficLaws, AreClosed, AreDialledFor, OthersStay, MovesOn, DialsAtMost, GivesAtMost, tries_of, AnswersAll, RequestsAreTries, DialsAreTries}
use Rattle.tpf_client.specs.Plans.{SendsOnly, AsksPlan, StaysUnprovoked}
use Rattle.tpf_client.specs.Acts.{WithCause}
use Rattle.tpf_client.proofs.Answering.{all-answered}
use Rattle.tpf_client.proofs.Endings.{travels-onward, same-bounds}
use Rattle.tpf_client.proofs.Known.{Exit, exit-of, begun}
use Rattle.tpf_client.proofs.Covered.{Covered, served-at}
use Rattle.tpf_client.proofs.Sparing.{spares-so}
use Rattle.tpf_client.proofs.Planned.{RunOf, least-started, finished, PlannedRun, ExplainedRun, WholeRun, returns-whole, whole-run, some-explained, explained-run, few-asked, all-counted}
use Rattle.tpf_client.proofs.Sent.{sends-asked}
use Rattle.tpf_client.proofs.Shutting.{if-err-from, either-way}

-- what holds at each exit, whatever the call answers
pub record AnyExit (options : Options) (starts : List Address) (events : List PoolEvent) (pool : Pooled) (since now : WireState) : Type 0 where
  pub closed : AreClosed since now
  pub peers : AreDialledFor starts since now
  pub others : OthersStay since now
  pub moves : MovesOn since now
  pub dials : DialsAtMost options.budget since now
  pub given : GivesAtMost options.budget since now
  pub started : pool.started ≤ options.budget
  pub sent : SendsOnly (map address_of (asked_in events)) since now

-- and where it answers rows
pub record RowsExit (options : Options) (report : Report) (events : List PoolEvent) (pool : Pooled) (since now : WireState) : Type 0 where
  pub within : report.requests ≤ options.budget
  pub dials : DialsAtMost report.requests since now
  pub given : GivesAtMost report.requests since now
  pub answers : AnswersAll options report.requests events pool

more-than : (a b c d : ℕ) → a ≤ b + c → c ≤ d → a ≤ b + d
more-than a b c d l m = omega (arith, l, m)

as-many : (a b c : ℕ) → a ≤ b → c ≡ b → a ≤ c
as-many a b c l e = omega (arith, l, e)

still-rose : (a b c : ℕ) → RoseBy 0 a b → c ≡ b → RoseBy 0 a c
still-rose a b c l e = omega (arith, l, e)

module _ (laws : Laws) (traffic : TrafficLaws) (allows : List ℕ → ℕ → List ℕ → List ℕ → Type 0) (options : Options) (since now : WireState) (lawful : IsLawful allows since) (starts : List Address) where
  exit : (run : RunOf allows options starts since now) → Exit starts options since now (length (asked_in run.events)) run.pool.started
  exit run = exit-of laws traffic starts options allows since lawful now run.events run.pool run.asks run.runs (same-bounds laws traffic allows options since now lawful starts run.events run.pool run.asks run.runs)

  -- no count falls while the links are closed either
  moves-on : RunOf allows options starts since now → MovesOn since now
  moves-on run =
      let o = travels-onward allows run.events (begun options) run.pool since run.runs.between run.runs.travels in
      let closes = run.runs.closes in
      record {
        nature = closes.nature ∙ o.nature;
        given = as-many since.given run.runs.between.given now.given o.given closes.given;
        faults = as-many since.faults run.runs.between.faults now.faults o.faults closes.faults;
        dials = still-rose since.dials run.runs.between.dials now.dials o.dials closes.dials;
      }

  pub any-exit : (run : RunOf allows options starts since now) → AnyExit options starts run.events run.pool since now
  any-exit run =
      let x = exit run in
      record {
        closed = x.closed;
        peers = x.peers;
        others = x.others;
        moves = moves-on run;
        dials = more-than now.dials since.dials run.pool.started options.budget x.dials x.within;
        given = more-than now.given since.given run.pool.started options.budget x.given x.within;
        started = x.within;
        sent = sends-asked laws traffic allows options since now lawful starts run;
      }

  -- an exit with rows
  pub rows-exit : (run : RunOf allows options starts since now) (sources : Sources) (q : QueryData) (report : Report) (rows : List Places) → Returns (AreThese run.events run.pool) sources q starts report rows → RowsExit options report run.events run.pool since now
  rows-exit run sources q report rows r =
      let f = finished allows options since now starts run sources q report rows r in
      let x : Exit starts options since now (length (asked_in run.events)) report.requests = subst (λ (n : ℕ). Exit starts options since now (length (asked_in run.events)) n) (sym f.requests) (exit run) in
      let least : length (asked_in run.events) ≤ report.requests = subst (λ (n : ℕ). length (asked_in run.events) ≤ n) (sym f.requests) (least-started traffic allows options since now lawful starts run f.no_fault f.none_held) in
      record {
        within = x.within;
        dials = x.dials;
        given = x.given;
        answers = record {
          answered = all-answered allows run.events (begun options) run.pool since run.runs.between run.runs.travels f.no_fault refl f.none_held;
          started = sym f.requests;
          few = x.few;
          each = least;
        };
      }

  -- ---- over an offer

  module _ (sources : Sources) (offer : Offer) (q : QueryData) (covered : Covered sources offer allows options since now starts q) where
    few-tries : (asked started most : ℕ) → started ≤ (options.retries + 1) * asked → asked ≤ most → started ≤ (options.retries + 1) * most
    few-tries asked started most a b = le_trans a (mul-le-mul_left (options.retries + 1) b)

    -- the requests of a run are tries of the addresses of its choice
    started-tries : (x : PlannedRun allows offer options since now starts) → x.run.pool.started ≤ tries_of options (offer.addresses x.choice)
    started-tries x = few-tries (length (asked_in x.run.events)) x.run.pool.started (length (offer.addresses x.choice)) (exit x.run).few (few-asked offer (asked_in x.run.events) x.choice x.of_plan)

    pub dials-so : PlannedRun allows offer options since now starts → DialsAreTries offer options since now
    dials-so x = record {
      choice = x.choice;
      is_choice = x.of_plan.is_choice;
      few = more-than now.dials since.dials x.run.pool.started (tries_of options (offer.addresses x.choice)) (exit x.run).dials (started-tries x);
    }

    pub dials-choice : (x : PlannedRun allows offer options since now starts) → (dials-so x).choice ≡ x.choice
    unfolding dials-so
    dials-choice x = refl

    unfoldable pub asks-plan : PlannedRun allows offer options since now starts → AsksPlan offer since now
    asks-plan x = record {
      choice = x.choice;
      is_choice = x.of_plan.is_choice;
      asked = map address_of (asked_in x.run.events);
      rest = x.of_plan.rest;
      plan_is = x.of_plan.plan_is;
      sent = sends-asked laws traffic allows options since now lawful starts x.run;
    }

    pub requests-so : (report : Report) → WholeRun allows offer options since now starts report → RequestsAreTries offer options report
    requests-so report x =
        let run = x.planned.run in
        let addresses = offer.addresses x.planned.choice in
        let total = all-counted offer (asked_in run.events) x.planned.choice x.planned.of_plan x.none_left in
        let least = least-started traffic allows options since now lawful starts run x.no_fault x.none_held in
        let same = x.requests in
        record {
          choice = x.planned.choice;
          is_choice = x.planned.of_plan.is_choice;
          is_reported = x.is_reported;
          each = omega (arith, total, least, same);
          few = subst (λ (n : ℕ). n ≤ tries_of options addresses) (sym same) (started-tries x.planned);
        }

    pub unprovoked-so : options.max_body < 2 ^ 64 → 1 ≤ options.links → PlannedRun allows offer options since now starts → StaysUnprovoked options since now
    unprovoked-so limit some x = λ steady none few.
        spares-so laws traffic allows options since lawful starts covered.tells (served-at sources offer allows options since now starts q covered) limit (omega (arith, some)) steady few now x.run.events x.run.pool none x.run.asks x.run.runs

-- ---- a call

module _ (allows : List ℕ → ℕ → List ℕ → List ℕ → Type 0) (options : Options) (since now : WireState) (starts : List Address) (sources : Sources) (q : QueryData) (h : Happened allows options starts since now) where
  abbrev Call : List PoolEvent → Pooled → Type 0
  Call events pool = AreThese h.events h.pool events pool

  module _ (offer : Offer) (covered : Covered sources offer allows options since now starts q) where
    pub at-whole : (report : Report) (rows : List Places) → Returns Call sources q starts report rows → WholeRun allows offer options since now starts report
    at-whole report rows r = returns-whole allows sources offer options since now starts q covered h report rows r

    pub at-explained : (fault : ClientFault) (t u : Option (List ℕ)) → WritesSome Call sources q starts options.budget fault t u → ExplainedRun allows offer options since now starts fault
    at-explained fault t u w = some-explained allows sources offer options since now starts q covered h fault t u w

    pub at-planned : {A : Type 0} (result : Result A ClientFault) (P : A → Type 0) (t u : Option (List ℕ)) → IfOk result P → IfErr result (λ fault. WritesSome Call sources q starts options.budget fault t u)
        → ((x : A) → P x → (report : Report) × (rows : List Places) × Returns Call sources q starts report rows) → PlannedRun allows offer options since now starts
    at-planned result P t u ok err f =
        either-way result P (λ fault. WritesSome Call sources q starts options.budget fault t u) (PlannedRun allows offer options since now starts) ok err
        (λ x p. let r = f x p in (at-whole r.0 r.1 r.2).planned) (λ fault w. (at-explained fault t u w).planned)

    -- it is what happened
    pub planned-run : {A : Type 0} (result : Result A ClientFault) (P : A → Type 0) (t u : Option (List ℕ)) (ok : IfOk result P) (err : IfErr result (λ fault. WritesSome Call sources q starts options.budget fault t u))
        (f : (x : A) → P x → (report : Report) × (rows : List Places) × Returns Call sources q starts report rows) → (at-planned result P t u ok err f).run ≡ h
    unfolding at-planned either-way at-whole at-explained
    planned-run (Ok x) P t u ok err f = whole-run allows sources offer options since now starts q covered h (f x ok).0 (f x ok).1 (f x ok).2
    planned-run (Err fault) P t u ok err f = explained-run allows sources offer options since now starts q covered h fault t u err

    -- at Ok its choice is the one that is reported
    pub told-planned : {A : Type 0} (result : Result A ClientFault) (P : A → Type 0) (told : A → Report) (t u : Option (List ℕ)) (ok : IfOk result P) (err : IfErr result (λ fault. WritesSome Call sources q starts options.budget fault t u))
        (f : (x : A) → P x → (rows : List Places) × Returns Call sources q starts (told x) rows) → IfOk result (λ x. offer.IsReported (at-planned result P t u ok err (λ x p. (told x, (f x p).0, (f x p).1))).choice (told x).version)
    unfolding at-planned either-way
    told-planned (Ok x) P told t u ok err f = (at-whole (told x) (f x ok).0 (f x ok).1).is_reported
    told-planned (Err fault) P told t u ok err f = tt

    -- at a fault the run is the one that explains it
    pub explained-planned : {A : Type 0} (result : Result A ClientFault) (P : A → Type 0) (t u : Option (List ℕ)) (ok : IfOk result P) (err : IfErr result (λ fault. WritesSome Call sources q starts options.budget fault t u))
        (f : (x : A) → P x → (report : Report) × (rows : List Places) × Returns Call sources q starts report rows)
        (cause : ClientFault → Type 0) (because : (fault : ClientFault) → ExplainedRun allows offer options since now starts fault → cause fault) (holds : offer.Choice → (fault : ClientFault) → cause fault → Type 0)
        → ((fault : ClientFault) (x : ExplainedRun allows offer options since now starts fault) → holds x.planned.choice fault (because fault x))
        → WithCause result cause (if-err-from result (λ fault. ExplainedRun allows offer options since now starts fault) cause
        (if-err-from result (λ fault. WritesSome Call sources q starts options.budget fault t u) (λ fault. ExplainedRun allows offer options since now starts fault) err (λ fault w. at-explained fault t u w)) because)
        (holds (at-planned result P t u ok err f).choice)
    unfolding at-planned either-way if-err-from
    explained-planned (Ok x) P t u ok err f cause because holds all = tt
    explained-planned (Err fault) P t u ok err f cause because holds all = all fault (at-explained fault t u err)
