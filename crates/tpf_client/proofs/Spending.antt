-- What was spent where a call ended for its budget, and where it gave its rows.
use Rattle.std.proofs.Common.{ℕ, ◌≡◌, ◌≢◌, ◌≤◌, ◌<◌, ◌+◌, ◌-◌, ◌*◌, List, [], ◌∷◌, map, length, count_by, Option, Some, None, refl, sym, ap, subst, ◌∙◌, arith}
use Rattle.std.proofs.Math.Nat.{mul-le-mul_left}
use Rattle.std.specs.Prelude.{Result, Ok, Err}
use Rattle.std.proofs.lemmas.List.{length-map}
use Rattle.tpf_base.specs.Addresses.{Address}
use Rattle.tpf_base.specs.Causes.{RoseBy}
use Rattle.tpf_base.specs.Links.{WireState}
use Rattle.request_plan.specs.Evaluations.{HasHome}
use Rattle.bgp_core.specs.Queries.{QueryData}
use Rattle.bgp_core.specs.Solutions.{Places}
use Rattle.request_pool.specs.declared.fault.PoolFault.{PoolFault}
use Rattle.request_pool.specs.declared.fault.PoolFault.TheVariants as pool
use Rattle.request_pool.specs.declared.fault.Stepped.{Stepped}
use Rattle.request_pool.specs.Faults.{kept_of}
use Rattle.request_pool.specs.Pools.{Pooled, Ask, IsOverBudget, held}
use Rattle.pool_laws.specs.Spending.{SpentSince, AnsweredMost}
use Rattle.pool_laws.specs.Requested.{AnsweredSince, TellsRequests, count_answered, any}
use Rattle.pool_laws.proofs.Counts.{all_count}
use Rattle.tpf_client.specs.declared.options.Options.{Options}
use Rattle.tpf_client.specs.declared.options.Report.{Report}
use Rattle.tpf_client.specs.declared.fault.ClientFault.{ClientFault}
use Rattle.tpf_client.specs.declared.fault.ClientFault.TheVariants as faults
use Rattle.tpf_client.specs.Traffic.{PoolEvent, Broke, EndsWith, IsLawful, without_fault, StepBreaks}
use Rattle.tpf_client.specs.Causes.{Explains}
use Rattle.tpf_client.specs.Turns.{AsksAt, asked_in, address_of}
use Rattle.tpf_client.specs.Calls.{Returns, WritesSome, RunsPool, Happened, AreThese}
use Rattle.tpf_client.specs.Sources.{Sources}
use Rattle.tpf_client.specs.Offers.{Offer}
use Rattle.tpf_client.specs.Honest.{Laws}
use Rattle.tpf_client.specs.Requests.{TrafficLaws, tries_of}
use Rattle.tpf_client.specs.Acts.{IsSpentOf}
use Rattle.tpf_client.specs.Failing.{ForBudget, Spends, SpendsRequests, SpendsTries, SpendsPlan}
use Rattle.tpf_client.proofs.Caused.{CausedBy, some-caused}
use Rattle.tpf_client.proofs.Homes.{asks-front}
use Rattle.tpf_client.proofs.Keeping.{IsKeptBy, not-some, by-events, with-asks}
use Rattle.tpf_client.proofs.Known.{begun, begun-between, knows-so, exit-of}
use Rattle.tpf_client.proofs.Most.{most_waits}
use Rattle.tpf_client.proofs.Endings.{ending, same-pool, same-bounds}
use Rattle.tpf_client.proofs.Planned.{RunOf, ExplainedRun, finished, few-asked}
use Rattle.tpf_client.proofs.Requested.{shut, all-answers, WereAnswered, answered-kept, answered-so}

not-error : (answer : Stepped) → ◌≡◌ {A = Result Stepped PoolFault} (Ok answer) (Err pool.OutOfMemory) → ⊥
not-error answer e = cc

no-error : (answer : Stepped) → ◌≢◌ {A = Result Stepped PoolFault} (Ok answer) (Err pool.OutOfMemory)
no-error answer = λ e. not-error answer e

not-memory : ◌≡◌ {A = Result Stepped PoolFault} (Err pool.Budget) (Err pool.OutOfMemory) → ⊥
not-memory e = cc

other-fault : ◌≢◌ {A = Result Stepped PoolFault} (Err pool.Budget) (Err pool.OutOfMemory)
other-fault = λ e. not-memory e

less-than : (a b c : ℕ) → a < b → b ≤ c → a < c
less-than a b c l m = omega (arith, l, m)

rose-same : (n before x y : ℕ) → y ≡ x → RoseBy n before x → RoseBy n before y
rose-same n before x y e h = omega (arith, e, h)

module _ (laws : Laws) (traffic : TrafficLaws) (allows : List ℕ → ℕ → List ℕ → List ℕ → Type 0) (options : Options) (since now : WireState) (lawful : IsLawful allows since) (starts : List Address) where
  abbrev IsAt : Ask → Type 0
  IsAt ask = HasHome starts ask.address

  abbrev WasSpent : ℕ → Pooled → WireState → Type 0
  WasSpent n p v = p.fault ≡ None → SpentSince since n p v

  spent-kept : IsKeptBy allows (begun options) IsAt WasSpent
  spent-kept = record {
    puts = λ n ask p v own web i none. traffic.puts_spend since n ask.ticket ask.address p v (i none);
    steps = λ n answer p q v w at i t none. traffic.steps_spend since n (Ok answer) p q v w at.given at.suits (no-error answer) (i at.no_fault) t;
    breaks = λ n fault p q v w at i t kept none. absurd (not-some q.fault (kept_of fault) kept none);
  }

  -- ---- the last step

  -- what is so of the pool that ended for the budget
  record Spent (p : Pooled) : Type 0 where
    asked : List Ask
    on : AnsweredMost (length (map address_of asked) - length (held p)) (map address_of asked) since (shut (without_fault p)) now
    rises : ℕ
    rose : RoseBy rises since.faults now.faults
    few : p.started + length (held p) ≤ (now.given - since.given) + rises + length asked
    over : IsOverBudget (without_fault p)

  spent-so : (events : List PoolEvent) (p : Pooled) → EndsWith (Broke pool.Budget) events → RunsPool allows options since now events p → AsksAt starts events → Spent p
  spent-so events p e r a =
      let x = ending laws traffic allows options since now lawful starts events (Broke pool.Budget) p e r a in
      let h : StepBreaks pool.Budget x.mid p x.between r.between = x.last.happens in
      let front = asks-front IsAt x.before (Broke pool.Budget ∷ []) (subst (λ (l : List PoolEvent). AsksAt starts l) x.is_last a) in
      let first = begun-between laws traffic starts options allows since lawful IsAt in
      let answered : AnsweredSince (map address_of (asked_in x.before)) since x.mid x.between =
      with-asks allows (begun options) IsAt (WereAnswered laws traffic allows options since now lawful starts) (answered-kept laws traffic allows options since now lawful starts) x.before (begun options) x.mid since x.between first front
      (λ none. traffic.empty_answered options.links options.retries options.budget options.max_body since) x.first h.had_none in
      let spent : SpentSince since (length (asked_in x.before)) x.mid x.between =
      by-events allows (begun options) IsAt WasSpent spent-kept x.before (begun options) x.mid since x.between first front
      (λ none. traffic.empty_spend options.links options.retries options.budget options.max_body since) x.first h.had_none in
      let still = traffic.budget_answered (map address_of (asked_in x.before)) since x.mid (without_fault p) x.between r.between x.given x.suits answered h.steps in
      let last = traffic.steps_spend since (length (asked_in x.before)) (Err pool.Budget) x.mid (without_fault p) x.between r.between x.given x.suits other-fault spent h.steps in
      record {
        asked = asked_in x.before;
        on = traffic.closing_most (map address_of (asked_in x.before)) since (without_fault p) (shut (without_fault p)) r.between now still refl r.closes;
        rises = last.rises;
        rose = rose-same last.rises since.faults r.between.faults now.faults r.closes.faults last.rose;
        few = fewer p.started (length p.spare) (length (held p)) r.between.given now.given last.rises (length (asked_in x.before)) last.few r.closes.given;
        over = traffic.causes pool.Budget x.mid (without_fault p) x.between r.between x.given x.suits x.knows.answers h.steps;
      }
    where
      fewer : (s x h g n r k : ℕ) → s + (x + h) ≤ (g - since.given) + r + k → n ≡ g → s + h ≤ (n - since.given) + r + k
      fewer s x h g n r k l e = omega (arith, l, e)

  -- ---- the budget

  limit-of : (events : List PoolEvent) (p : Pooled) → RunsPool allows options since now events p → AsksAt starts events → p.limit ≡ options.max_body
  limit-of events p r a = ap (λ (x : Pooled). x.limit) (same-pool laws traffic allows options since now lawful starts events p a r)

  requests-of : (events : List PoolEvent) (p : Pooled) → EndsWith (Broke pool.Budget) events → RunsPool allows options since now events p → AsksAt starts events → SpendsRequests options since now
  requests-of events p e r a =
      let s = spent-so events p e r a in
      let budget = same-bounds laws traffic allows options since now lawful starts events p a r in
      let over : p.budget ≤ p.started = s.over.spent in
      let most = s.on.most in
      let sent = all-answers any s.on.requested.requests since now in
      let size = length-map s.asked address_of in
      let enough : options.budget ≤ (now.given - since.given) + count_answered any s.on.requested.requests since now + s.rises =
      together options.budget p.budget p.started (length (held p)) (now.given - since.given) s.rises (length s.asked) (length (map address_of s.asked)) (count_answered any s.on.requested.requests since now) budget over s.few size most in
      record {
        on = s.on.requested.requests;
        told = λ k low high. subst (λ (n : ℕ). TellsRequests n (now.links k) (s.on.requested.requests k)) (limit-of events p r a) (s.on.requested.given k low high);
        rises = s.rises;
        rose = s.rose;
        answered = enough;
        sent = omega (arith, enough, sent);
      }
    where
      together : (n b s h g r k l x : ℕ) → b ≡ n → b ≤ s → s + h ≤ g + r + k → l ≡ k → l - h ≤ x → n ≤ g + x + r
      together n b s h g r k l x e o f i m = omega (arith, e, o, f, i, m)

  few-tries : (events : List PoolEvent) (p : Pooled) → EndsWith (Broke pool.Budget) events → RunsPool allows options since now events p → AsksAt starts events → options.budget < (options.retries + 1) * length (asked_in events)
  few-tries events p e r a =
      let s = spent-so events p e r a in
      let budget = same-bounds laws traffic allows options since now lawful starts events p a r in
      let over : p.budget ≤ p.started = s.over.spent in
      let k = knows-so laws traffic starts options allows since lawful events p r.between a r.travels in
      let most : p.started < (options.retries + 1) * length (asked_in events) = most_waits (options.retries + 1) ((options.retries + 1) * length (asked_in events)) p s.over.waits k.most in
      omega (arith, budget, over, most)

  tries-of : (events : List PoolEvent) (p : Pooled) → EndsWith (Broke pool.Budget) events → RunsPool allows options since now events p → AsksAt starts events → SpendsTries options events p
  tries-of events p e r a =
      let s = spent-so events p e r a in
      let budget = same-bounds laws traffic allows options since now lawful starts events p a r in
      let over : p.budget ≤ p.started = s.over.spent in
      let within = (exit-of laws traffic starts options allows since lawful now events p a r budget).within in
      record { spent = omega (arith, budget, over, within); tries = few-tries events p e r a }

  -- ---- rows

  paid-by : (s h g r k c x : ℕ) → s + h ≤ g + r + k → c ≡ k → c ≤ x → s ≤ g + x + r
  paid-by s h g r k c x l e m = omega (arith, l, e, m)

  given-less : (n m s : ℕ) → m ≡ n → m - s ≡ n - s
  given-less n m s e = ap (λ (x : ℕ). x - s) e

  -- where all that was asked was answered
  run-paid : (run : RunOf allows options starts since now) → run.pool.fault ≡ None → held run.pool ≡ [] → Spends options.max_body run.pool.started since now
  run-paid run none empty =
      let asked = asked_in run.events in
      let answered = answered-so laws traffic allows options since now lawful starts run none empty in
      let spent : SpentSince since (length asked) run.pool run.runs.between =
      by-events allows (begun options) IsAt WasSpent spent-kept run.events (begun options) run.pool since run.runs.between (begun-between laws traffic starts options allows since lawful IsAt) run.asks
      (λ e. traffic.empty_spend options.links options.retries options.budget options.max_body since) run.runs.travels none in
      let on = answered.requested.requests in
      let most = traffic.all_answered (map address_of asked) since (shut run.pool) now answered refl any in
      let size = all_count (map address_of asked) ∙ length-map asked address_of in
      let given = given-less run.runs.between.given now.given since.given run.runs.closes.given in
      let few : run.pool.started + (length run.pool.spare + length (held run.pool)) ≤ (now.given - since.given) + spent.rises + length asked = same-given (run.pool.started + (length run.pool.spare + length (held run.pool))) (run.runs.between.given - since.given) (now.given - since.given) spent.rises (length asked) spent.few given in
      let enough : run.pool.started ≤ (now.given - since.given) + count_answered any on since now + spent.rises =
      paid-by run.pool.started (length run.pool.spare + length (held run.pool)) (now.given - since.given) spent.rises (length asked) (count_by any (map address_of asked)) (count_answered any on since now) few size most in
      let sent = all-answers any on since now in
      record {
        on = on;
        told = λ k low high. subst (λ (n : ℕ). TellsRequests n (now.links k) (on k)) (limit-of run.events run.pool run.runs run.asks) (answered.requested.given k low high);
        rises = spent.rises;
        rose = rose-same spent.rises since.faults run.runs.between.faults now.faults run.runs.closes.faults spent.rose;
        answered = enough;
        sent = omega (arith, enough, sent);
      }
    where
      same-given : (s g n r k : ℕ) → s ≤ g + r + k → n ≡ g → s ≤ n + r + k
      same-given s g n r k l e = omega (arith, l, e)

  pub rows-paid : (h : Happened allows options starts since now) (sources : Sources) (q : QueryData) (report : Report) (rows : List Places) → Returns (AreThese h.events h.pool) sources q starts report rows → Spends options.max_body report.requests since now
  rows-paid h sources q report rows r =
      let f = finished allows options since now starts h sources q report rows r in
      subst (λ (n : ℕ). Spends options.max_body n since now) (sym f.requests) (run-paid h f.no_fault f.none_held)

  -- ---- of a call

  -- what is to be shown of the fault of a budget alone
  for-budget : (P : Type 0) (fault : ClientFault) → ((n : ℕ) → fault ≡ faults.Budget n → P) → ForBudget P fault
  for-budget P faults.Exchange f = tt
  for-budget P faults.Stalled f = tt
  for-budget P (faults.Cut received) f = tt
  for-budget P (faults.Reply fault received) f = tt
  for-budget P (faults.Page fault body) f = tt
  for-budget P (faults.Changed first other) f = tt
  for-budget P (faults.Budget n) f = f n refl
  for-budget P faults.Sink f = tt
  for-budget P faults.OutOfMemory f = tt

  module _ (h : Happened allows options starts since now) (sources : Sources) (q : QueryData) (fault : ClientFault) (t u : Option (List ℕ)) (w : WritesSome (AreThese h.events h.pool) sources q starts options.budget fault t u) where
    caused : CausedBy options.budget fault h.events
    caused = some-caused starts h.events h.pool sources q options.budget fault t u w

    of-budget : (n : ℕ) → fault ≡ faults.Budget n → Explains caused.versions options.budget (faults.Budget n) h.events
    of-budget n is = subst (λ (f : ClientFault). Explains caused.versions options.budget f h.events) is caused.explains

    pub fault-requests : ForBudget (SpendsRequests options since now) fault
    fault-requests = for-budget (SpendsRequests options since now) fault (λ n is. requests-of h.events h.pool (of-budget n is).1 h.runs h.asks)

    pub fault-tries : ForBudget (SpendsTries options h.events h.pool) fault
    fault-tries = for-budget (SpendsTries options h.events h.pool) fault (λ n is. tries-of h.events h.pool (of-budget n is).1 h.runs h.asks)

  -- ---- over an offer

  module _ (offer : Offer) where
    abbrev Run : ClientFault → Type 0
    Run fault = ExplainedRun allows offer options since now starts fault

    plan-tries : (fault : ClientFault) (x : Run fault) (n : ℕ) → fault ≡ faults.Budget n → options.budget < tries_of options (offer.addresses x.planned.choice)
    plan-tries fault x n is =
        let run = x.planned.run in
        let choice = x.planned.choice in
        let spent : Explains (λ address. Some (x.versions address)) options.budget (faults.Budget n) run.events = subst (λ (f : ClientFault). Explains (λ address. Some (x.versions address)) options.budget f run.events) is x.explains in
        let low : options.budget < (options.retries + 1) * length (asked_in run.events) = few-tries run.events run.pool spent.1 run.runs run.asks in
        let times = mul-le-mul_left (options.retries + 1) (few-asked offer (asked_in run.events) choice x.planned.of_plan) in
        less-than options.budget ((options.retries + 1) * length (asked_in run.events)) (tries_of options (offer.addresses choice)) low times

    plan-of : (n : ℕ) → Run (faults.Budget n) → SpendsPlan offer options
    plan-of n x = record { choice = x.planned.choice; is_choice = x.planned.of_plan.is_choice; tries = plan-tries (faults.Budget n) x n refl }

    -- it is less than the tries of the choice of the run
    pub spent-over : (fault : ClientFault) (x : Run fault) → ForBudget (options.budget < tries_of options (offer.addresses x.planned.choice)) fault
    spent-over fault x = for-budget (options.budget < tries_of options (offer.addresses x.planned.choice)) fault (λ n is. plan-tries fault x n is)

    pub plan-spent : (fault : ClientFault) → Run fault → ForBudget (SpendsPlan offer options) fault
    plan-spent faults.Exchange x = tt
    plan-spent faults.Stalled x = tt
    plan-spent (faults.Cut received) x = tt
    plan-spent (faults.Reply fault received) x = tt
    plan-spent (faults.Page fault body) x = tt
    plan-spent (faults.Changed first other) x = tt
    plan-spent (faults.Budget n) x = plan-of n x
    plan-spent faults.Sink x = tt
    plan-spent faults.OutOfMemory x = tt

    -- it is said of the choice of the run
    pub plan-spent-of : (fault : ClientFault) (x : Run fault) → IsSpentOf offer options x.planned.choice fault (plan-spent fault x)
    unfolding plan-spent plan-of
    plan-spent-of faults.Exchange x = tt
    plan-spent-of faults.Stalled x = tt
    plan-spent-of (faults.Cut received) x = tt
    plan-spent-of (faults.Reply fault received) x = tt
    plan-spent-of (faults.Page fault body) x = tt
    plan-spent-of (faults.Changed first other) x = tt
    plan-spent-of (faults.Budget n) x = refl
    plan-spent-of faults.Sink x = tt
    plan-spent-of faults.OutOfMemory x = tt
