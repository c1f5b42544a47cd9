-- The run of a call, and what it asked for: a part of what one choice of its offer has to ask for.
use Rattle.std.proofs.Common.{ℕ, ◌≡◌, ◌≤◌, ◌++◌, List, [], ◌∷◌, map, length, Option, Some, None, refl, sym, ap, subst, ◌∙◌, arith, append-nil, append_assoc}
use Rattle.std.specs.List.{Contains}
use Rattle.std.specs.List.Sorted.{IsPermutation}
use Rattle.std.proofs.lemmas.List.{length-append, length-map, map-append}
use Rattle.std.proofs.lemmas.List.Elements.{Contains-append_left}
use Rattle.std.proofs.lemmas.List.Sorted.{IsPermutation-refl, IsPermutation-sym, IsPermutation-append_right, Contains-permutation, length_permutation}
use Rattle.list_laws.proofs.Members.{Contains-map}
use Rattle.tpf_base.specs.Addresses.{Address}
use Rattle.tpf_base.specs.Links.{WireState}
use Rattle.fragment_page.specs.declared.page.Page.{Page}
use Rattle.bgp_core.specs.Queries.{QueryData}
use Rattle.bgp_core.specs.Solutions.{Places}
use Rattle.request_pool.specs.Pools.{Pooled, Ask, held}
use Rattle.request_pool.specs.Owned.{SuitsWire}
use Rattle.request_plan.specs.Evaluations.{HasHome}
use Rattle.tpf_client.specs.declared.options.Options.{Options}
use Rattle.tpf_client.specs.declared.options.Report.{Report}
use Rattle.tpf_client.specs.declared.fault.ClientFault.{ClientFault}
use Rattle.tpf_client.specs.Traffic.{PoolEvent, IsLawful}
use Rattle.tpf_client.specs.Causes.{Explains, Versions}
use Rattle.tpf_client.specs.Told.{told_at}
use Rattle.tpf_client.specs.Sources.{Sources}
use Rattle.tpf_client.specs.Turns.{asked_in, address_of}
use Rattle.tpf_client.specs.Starts.{start_ask, ReadsStarts, AsksStarts, versions_of}
use Rattle.tpf_client.specs.Calls.{Returns, WritesSome, EndsBefore, EndsBehind, EndsAtEnd, Before, Behind, AtEnd, RunsPool, Happened, AreThese}
use Rattle.tpf_client.specs.Offers.{Offer}
use Rattle.tpf_client.specs.Requests.{TrafficLaws}
use Rattle.tpf_client.proofs.Accounting.{asked-append}
use Rattle.tpf_client.proofs.Homes.{asked-starts}
use Rattle.tpf_client.proofs.Going.{explains-later, explains-as}
use Rattle.tpf_client.proofs.Fewest.{fewest}
use Rattle.tpf_client.proofs.Covered.{BeginsWith, ChoiceBehind, Covered}
use Rattle.tpf_client.proofs.Known.{begun}

-- what holds of all holds of each
-- what happened in a call
abbrev pub RunOf : (List ℕ → ℕ → List ℕ → List ℕ → Type 0) → Options → List Address → WireState → WireState → Type 0
RunOf allows options starts since now = Happened allows options starts since now

-- what a call that gave its rows left
pub record Finished (report : Report) (pool : Pooled) : Type 0 where
  pub none_held : held pool ≡ []
  pub no_fault : pool.fault ≡ None
  pub requests : report.requests ≡ pool.started

module _ (allows : List ℕ → ℕ → List ℕ → List ℕ → Type 0) (options : Options) (since now : WireState) (starts : List Address) (h : Happened allows options starts since now) where
  -- what is said of these events is said of what happened
  abbrev pub Theirs : List PoolEvent → Pooled → Type 0
  Theirs events pool = AreThese h.events h.pool events pool

  pub these-run : (events : List PoolEvent) (pool : Pooled) → Theirs events pool → RunsPool allows options since now events pool
  these-run events pool is = subst (λ (l : List PoolEvent). RunsPool allows options since now l pool) (sym is.events_are) (subst (λ (p : Pooled). RunsPool allows options since now h.events p) (sym is.pool_is) h.runs)

  pub finished : (sources : Sources) (q : QueryData) (report : Report) (rows : List Places) → Returns Theirs sources q starts report rows → Finished report h.pool
  finished sources q report rows r = record {
    none_held = subst (λ (p : Pooled). held p ≡ []) r.runs.pool_is r.none_held;
    no_fault = subst (λ (p : Pooled). p.fault ≡ None) r.runs.pool_is r.no_fault;
    requests = r.requests ∙ ap (λ (p : Pooled). p.started) r.runs.pool_is;
  }

-- where all was answered, as many requests were started as asks were put, or more
module _ (traffic : TrafficLaws) (allows : List ℕ → ℕ → List ℕ → List ℕ → Type 0) (options : Options) (since now : WireState) (lawful : IsLawful allows since) (starts : List Address) where
  begun-suits : SuitsWire (begun options) since
  begun-suits = record { polled = tt; due = tt; owned = λ k. omega arith }

  pub least-started : (run : RunOf allows options starts since now) → run.pool.fault ≡ None → held run.pool ≡ [] → length (asked_in run.events) ≤ run.pool.started
  least-started run none empty =
      fewest traffic.puts_few traffic.steps_few traffic.tries allows run.events (begun options) run.pool since run.runs.between lawful.given begun-suits (traffic.empty_few options.links options.retries options.budget options.max_body) refl run.runs.travels none empty

-- the addresses of the starts
starts-addresses : (starts : List Address) → map address_of (map start_ask starts) ≡ starts
starts-addresses [] = refl
starts-addresses (start ∷ starts) = ap (λ (l : List Address). start ∷ l) (starts-addresses starts)

-- ---- over an offer

module _ (offer : Offer) where
  -- the asks are for a part of what this choice has to ask for
  pub record OfPlan (asked : List Ask) (choice : offer.Choice) : Type 0 where
    pub is_choice : offer.IsChoice choice
    pub rest : List Address
    pub plan_is : IsPermutation (offer.addresses choice) (map address_of asked ++ rest)

  -- what was asked is one of these addresses
  pub in-plan : (asked : List Ask) (choice : offer.Choice) → OfPlan asked choice → (ask : Ask) → Contains asked ask → Contains (offer.addresses choice) ask.address
  in-plan asked choice o ask c =
      Contains-permutation (map address_of asked ++ o.rest) (offer.addresses choice) ask.address (IsPermutation-sym (offer.addresses choice) (map address_of asked ++ o.rest) o.plan_is)
      (Contains-append_left (map address_of asked) o.rest ask.address (Contains-map address_of asked ask c))

  -- there are no more asks than addresses, and as many where none is left
  pub few-asked : (asked : List Ask) (choice : offer.Choice) → OfPlan asked choice → length asked ≤ length (offer.addresses choice)
  few-asked asked choice o =
      let a : length (map address_of asked ++ o.rest) ≡ length (offer.addresses choice) = length_permutation (offer.addresses choice) (map address_of asked ++ o.rest) o.plan_is in
      let b = length-append (map address_of asked) o.rest in
      let c = length-map asked address_of in
      omega (arith, a, b, c)

  pub all-counted : (asked : List Ask) (choice : offer.Choice) → (o : OfPlan asked choice) → o.rest ≡ [] → length asked ≡ length (offer.addresses choice)
  all-counted asked choice o none =
      let a : length (map address_of asked ++ o.rest) ≡ length (offer.addresses choice) = length_permutation (offer.addresses choice) (map address_of asked ++ o.rest) o.plan_is in
      let b = length-append (map address_of asked) o.rest in
      let c = length-map asked address_of in
      let d : length o.rest ≡ length {A = Address} [] = ap (λ (l : List Address). length l) none in
      let e : length {A = Address} [] ≡ 0 = refl in
      omega (arith, a, b, c, d, e)

  module _ (q : QueryData) (starts : List Address) where
    -- the first of the starts, or nothing
    alone-plan : (choice : offer.Choice) (s : BeginsWith offer starts choice) (events : List PoolEvent) → AsksStarts starts events → OfPlan (asked_in events) choice
    alone-plan choice s events a =
        let same : map address_of (asked_in events) ++ (a.later ++ s.rest) ≡ offer.addresses choice =
        ap (λ (l : List Ask). map address_of l ++ (a.later ++ s.rest)) a.asked
        ∙ (ap (λ (l : List Address). l ++ (a.later ++ s.rest)) (starts-addresses a.first)
        ∙ (sym (append_assoc a.first a.later s.rest) ∙ (ap (λ (l : List Address). l ++ s.rest) (sym a.starts_are) ∙ s.addresses))) in
        record {
          is_choice = s.is_choice;
          rest = a.later ++ s.rest;
          plan_is = subst (λ (l : List Address). IsPermutation (offer.addresses choice) l) (sym same) (IsPermutation-refl (offer.addresses choice));
        }

    module _ (sources : Sources) where
      -- the starts, and these behind them
      behind-plan : (first later : List PoolEvent) (told : List Page) (reads : ReadsStarts starts told first) (c : ChoiceBehind sources offer q starts first later told reads) (rest : List Address) → IsPermutation (sources.plan c.source q) (map address_of (asked_in later) ++ rest)
          → OfPlan (asked_in (first ++ later)) c.choice
      behind-plan first later told reads c rest p =
          let asks : asked_in (first ++ later) ≡ map start_ask starts ++ asked_in later = asked-append first later ∙ ap (λ (l : List Ask). l ++ asked_in later) (asked-starts starts told first reads) in
          let whole : map address_of (asked_in (first ++ later)) ++ rest ≡ starts ++ (map address_of (asked_in later) ++ rest) =
          ap (λ (l : List Ask). map address_of l ++ rest) asks
          ∙ (ap (λ (l : List Address). l ++ rest) (map-append address_of (map start_ask starts) (asked_in later) ∙ ap (λ (l : List Address). l ++ map address_of (asked_in later)) (starts-addresses starts)) ∙ append_assoc starts (map address_of (asked_in later)) rest) in
          record {
            is_choice = c.is_choice;
            rest = rest;
            plan_is = subst (λ (l : List Address). IsPermutation l (map address_of (asked_in (first ++ later)) ++ rest)) c.addresses
                (subst (λ (l : List Address). IsPermutation (starts ++ sources.plan c.source q) l) (sym whole) (IsPermutation-append_right starts (sources.plan c.source q) (map address_of (asked_in later) ++ rest) p));
          }

      whole-plan : (first later : List PoolEvent) (told : List Page) (reads : ReadsStarts starts told first) (c : ChoiceBehind sources offer q starts first later told reads) → IsPermutation (sources.plan c.source q) (map address_of (asked_in later)) → OfPlan (asked_in (first ++ later)) c.choice
      whole-plan first later told reads c p =
          behind-plan first later told reads c [] (subst (λ (l : List Address). IsPermutation (sources.plan c.source q) l) (sym (append-nil (map address_of (asked_in later)))) p)

-- ---- runs

module _ (allows : List ℕ → ℕ → List ℕ → List ℕ → Type 0) (offer : Offer) (options : Options) (since now : WireState) (starts : List Address) where
  -- a run that asked for a part of what a choice has to ask for
  pub record PlannedRun : Type 0 where
    pub run : RunOf allows options starts since now
    pub choice : offer.Choice
    pub of_plan : OfPlan offer (asked_in run.events) choice

  -- a run that ended with a fault, by the versions that the choice has at the addresses of the call
  pub record ExplainedRun (fault : ClientFault) : Type 0 where
    pub planned : PlannedRun
    pub versions : Address → ℕ
    pub has : (address : Address) → HasHome starts address → offer.HasVersion planned.choice address (versions address)
    pub explains : Explains (λ address. Some (versions address)) options.budget fault planned.run.events

  -- a run that asked for all that the choice has to ask for that is reported, and was answered
  pub record WholeRun (report : Report) : Type 0 where
    pub planned : PlannedRun
    pub none_left : planned.of_plan.rest ≡ []
    pub none_held : held planned.run.pool ≡ []
    pub no_fault : planned.run.pool.fault ≡ None
    pub is_reported : offer.IsReported planned.choice report.version
    pub requests : report.requests ≡ planned.run.pool.started

-- the asks of the same events
abbrev of-plan-at : (offer : Offer) (l m : List PoolEvent) (choice : offer.Choice) → l ≡ m → OfPlan offer (asked_in l) choice → OfPlan offer (asked_in m) choice
of-plan-at offer l m choice e o = record { is_choice = o.is_choice; rest = o.rest; plan_is = subst (λ (x : List PoolEvent). IsPermutation (offer.addresses choice) (map address_of (asked_in x) ++ o.rest)) e o.plan_is }

module _ (allows : List ℕ → ℕ → List ℕ → List ℕ → Type 0) (sources : Sources) (offer : Offer) (options : Options) (since now : WireState) (starts : List Address) (q : QueryData) (covered : Covered sources offer allows options since now starts q) (h : Happened allows options starts since now) where
  abbrev Here : List PoolEvent → Pooled → Type 0
  Here events pool = AreThese h.events h.pool events pool

  pub returns-whole : (report : Report) (rows : List Places) → Returns Here sources q starts report rows → WholeRun allows offer options since now starts report
  unfolding whole-plan behind-plan
  returns-whole report rows r =
      let c = covered.behind r.first r.later r.pool (these-run allows options since now starts h (r.first ++ r.later) r.pool r.runs) r.asks r.told r.reads in
      let g = r.gives c.source c.is_source in
      let f = finished allows options since now starts h sources q report rows r in
      record {
        planned = record { run = h; choice = c.choice; of_plan = of-plan-at offer (r.first ++ r.later) h.events c.choice r.runs.events_are (whole-plan offer q starts sources r.first r.later r.told r.reads c g.plan_is) };
        none_left = refl;
        none_held = f.none_held;
        no_fault = f.no_fault;
        is_reported = subst (λ (v : Option ℕ). offer.IsReported c.choice v) (sym r.is_version) c.is_reported;
        requests = f.requests;
      }

  pub whole-run : (report : Report) (rows : List Places) (r : Returns Here sources q starts report rows) → (returns-whole report rows r).planned.run ≡ h
  unfolding returns-whole
  whole-run report rows r = refl

  told-by : (told versions : Versions) (fault : ClientFault) (first later : List PoolEvent) → first ++ later ≡ h.events → ((address : Address) → told address ≡ versions address) → Explains told options.budget fault later → Explains versions options.budget fault h.events
  told-by told versions fault first later e same x =
      subst (λ (l : List PoolEvent). Explains versions options.budget fault l) e (explains-later versions options.budget fault first later (explains-as told versions options.budget fault later same x))

  -- before the start pages were read, by each choice
  pub before-explained : (fault : ClientFault) (t u : Option (List ℕ)) → EndsBefore Here starts options.budget fault t u → (choice : offer.Choice) → offer.IsChoice choice → ExplainedRun allows offer options since now starts fault
  before-explained fault t u b choice is =
      let s = covered.begins choice is in
      record {
        planned = record {
          run = h;
          choice = choice;
          of_plan = of-plan-at offer b.events h.events choice b.runs.events_are (alone-plan offer q starts choice s b.events b.asked);
        };
        versions = s.versions;
        has = s.has;
        explains = subst (λ (l : List PoolEvent). Explains (λ address. Some (s.versions address)) options.budget fault l) b.runs.events_are (b.explains (λ address. Some (s.versions address)));
      }

  pub before-choice : (fault : ClientFault) (t u : Option (List ℕ)) (b : EndsBefore Here starts options.budget fault t u) (choice : offer.Choice) (is : offer.IsChoice choice) → (before-explained fault t u b choice is).planned.choice ≡ choice
  unfolding before-explained
  before-choice fault t u b choice is = refl

  pub before-run : (fault : ClientFault) (t u : Option (List ℕ)) (b : EndsBefore Here starts options.budget fault t u) (choice : offer.Choice) (is : offer.IsChoice choice) → (before-explained fault t u b choice is).planned.run ≡ h
  unfolding before-explained
  before-run fault t u b choice is = refl

  pub some-explained : (fault : ClientFault) (t u : Option (List ℕ)) → WritesSome Here sources q starts options.budget fault t u → ExplainedRun allows offer options since now starts fault
  some-explained fault t u (Before b) = before-explained fault t u b covered.first covered.is_first
  some-explained fault t u (Behind b) =
      let c = covered.behind b.first b.later b.pool (these-run allows options since now starts h (b.first ++ b.later) b.pool b.runs) b.asks b.told b.reads in
      let g = b.gives c.source c.is_source in
      record {
        planned = record {
          run = h;
          choice = c.choice;
          of_plan = of-plan-at offer (b.first ++ b.later) h.events c.choice b.runs.events_are (behind-plan offer q starts sources b.first b.later b.told b.reads c g.rest g.plan_is);
        };
        versions = c.versions;
        has = c.has;
        explains = told-by (told_at starts (versions_of b.told)) (λ address. Some (c.versions address)) fault b.first b.later b.runs.events_are c.tells b.explains;
      }
  some-explained fault t u (AtEnd b) =
      let c = covered.behind b.first b.later b.pool (these-run allows options since now starts h (b.first ++ b.later) b.pool b.runs) b.asks b.told b.reads in
      let g = b.gives c.source c.is_source in
      record {
        planned = record {
          run = h;
          choice = c.choice;
          of_plan = of-plan-at offer (b.first ++ b.later) h.events c.choice b.runs.events_are (whole-plan offer q starts sources b.first b.later b.told b.reads c g.plan_is);
        };
        versions = c.versions;
        has = c.has;
        explains = told-by (told_at starts (versions_of b.told)) (λ address. Some (c.versions address)) fault b.first b.later b.runs.events_are c.tells b.explains;
      }

  pub explained-run : (fault : ClientFault) (t u : Option (List ℕ)) (w : WritesSome Here sources q starts options.budget fault t u) → (some-explained fault t u w).planned.run ≡ h
  unfolding some-explained
  explained-run fault t u (Before b) = before-run fault t u b covered.first covered.is_first
  explained-run fault t u (Behind b) = refl
  explained-run fault t u (AtEnd b) = refl

  -- the choice is the one that the start pages told
  pub behind-choice : (fault : ClientFault) (t u : Option (List ℕ)) (b : EndsBehind Here sources q starts options.budget fault t u)
      → (some-explained fault t u (Behind b)).planned.choice ≡ (covered.behind b.first b.later b.pool (these-run allows options since now starts h (b.first ++ b.later) b.pool b.runs) b.asks b.told b.reads).choice
  unfolding some-explained
  behind-choice fault t u b = refl

  pub end-choice : (fault : ClientFault) (t u : Option (List ℕ)) (b : EndsAtEnd Here sources q starts options.budget fault t u)
      → (some-explained fault t u (AtEnd b)).planned.choice ≡ (covered.behind b.first b.later b.pool (these-run allows options since now starts h (b.first ++ b.later) b.pool b.runs) b.asks b.told b.reads).choice
  unfolding some-explained
  end-choice fault t u b = refl
