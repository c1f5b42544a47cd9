-- How often each address was requested in a call, and answered.
use Rattle.std.proofs.Common.{ℕ, zero, suc, ◌≡◌, ◌≤◌, ◌<◌, ◌+◌, ◌-◌, ◌*◌, ◌^◌, ◌++◌, Bool, true, false, cond, not, List, [], ◌∷◌, map, length, count_by, None, refl, sym, ap, subst, ◌∙◌, arith}
use Rattle.std.proofs.Math.Nat.{mul-le-mul_left}
use Rattle.std.specs.Prelude.{Ok, Err}
use Rattle.std.proofs.lemmas.List.{map-append}
use Rattle.std.proofs.lemmas.List.Sorted.{sum_by-IsPermutation}
use Rattle.tpf_base.specs.Addresses.{Address}
use Rattle.tpf_base.specs.Links.{WireState}
use Rattle.request_plan.specs.Evaluations.{HasHome}
use Rattle.bgp_core.specs.Queries.{QueryData}
use Rattle.request_pool.specs.Faults.{kept_of}
use Rattle.request_pool.specs.Pools.{Pooled, Ask, held}
use Rattle.pool_laws.specs.Requested.{LinkRequests, TellsRequests, RequestedSince, AnsweredSince, SentByRises, whole_requests, whole_answers, over_links, count_sent, count_answered, any}
use Rattle.pool_laws.specs.Rising.{FailuresRose}
use Rattle.pool_laws.proofs.RequestExact.{answered_sent}
use Rattle.pool_laws.proofs.Counts.{count-cons, count-append, all_count}
use Rattle.tpf_client.specs.declared.options.Options.{Options}
use Rattle.tpf_client.specs.declared.options.Report.{Report}
use Rattle.tpf_client.specs.Traffic.{IsLawful, without_fault}
use Rattle.tpf_client.specs.Turns.{asked_in, address_of}
use Rattle.tpf_client.specs.Sources.{Sources}
use Rattle.tpf_client.specs.Offers.{Offer}
use Rattle.tpf_client.specs.Honest.{Laws}
use Rattle.tpf_client.specs.Requests.{TrafficLaws}
use Rattle.tpf_client.specs.Requested.{CallRequests, RequestsPlan, AnswersPlan}
use Rattle.tpf_client.proofs.Keeping.{IsKeptWith, not-some, with-asks}
use Rattle.tpf_client.proofs.Known.{begun, begun-between}
use Rattle.tpf_client.proofs.Endings.{same-pool}
use Rattle.tpf_client.proofs.Covered.{Covered}
use Rattle.tpf_client.proofs.Planned.{RunOf, OfPlan, PlannedRun, WholeRun, few-asked}
use Rattle.tpf_client.proofs.LivelyCauses.{rises-of, no-rises}

-- ---- counts over lists and links

one-of : (v : Bool) → 1 ≡ cond v 1 0 + cond (not v) 1 0
one-of true = refl
one-of false = refl

-- each passes the test or does not
count-split : (test : Address → Bool) (xs : List Address) → count_by any xs ≡ count_by test xs + count_by (λ a. not (test a)) xs
count-split test [] = refl
count-split test (x ∷ xs) =
    let a = count-cons any x xs in
    let b = count-cons test x xs in
    let c = count-cons (λ y. not (test y)) x xs in
    let d = one-of (test x) in
    let e = count-split test xs in
    omega (arith, a, b, c, d, e)

over-split : (f g h : ℕ → ℕ) → ((k : ℕ) → f k ≡ g k + h k) → (first n : ℕ) → over_links f first n ≡ over_links g first n + over_links h first n
over-split f g h s first zero = refl
over-split f g h s first (suc n) = let a = over-split f g h s first n in let b = s (first + n) in omega (arith, a, b)

over-le : (f g : ℕ → ℕ) → ((k : ℕ) → f k ≤ g k) → (first n : ℕ) → over_links f first n ≤ over_links g first n
over-le f g s first zero = omega arith
over-le f g s first (suc n) = let a = over-le f g s first n in let b = s (first + n) in omega (arith, a, b)

pub all-answers : (test : Address → Bool) (on : ℕ → LinkRequests) (since now : WireState) → count_answered test on since now ≤ count_sent test on since now
all-answers test on since now = over-le (λ k. count_by test (whole_answers (on k))) (λ k. count_by test (whole_requests (on k))) (λ k. answered_sent test (on k)) since.given (now.given - since.given)

all-split : (test : Address → Bool) (on : ℕ → LinkRequests) (since now : WireState) → count_sent any on since now ≡ count_sent test on since now + count_sent (λ a. not (test a)) on since now
all-split test on since now =
    over-split (λ k. count_by any (whole_requests (on k))) (λ k. count_by test (whole_requests (on k))) (λ k. count_by (λ a. not (test a)) (whole_requests (on k))) (λ k. count-split test (whole_requests (on k))) since.given (now.given - since.given)

-- as many as there have to be, and no more in all
exactly-so : (all sent others asked rest : ℕ) → all ≡ sent + others → all ≤ asked + rest → asked ≤ sent → rest ≤ others → sent ≡ asked
exactly-so all sent others asked rest a l s o = omega (arith, a, l, s, o)

few-of : (k m n most sent : ℕ) → sent ≤ (k + 1) * n → k ≡ m → n ≤ most → sent ≤ (m + 1) * most
few-of k m n most sent h e l =
    let a : sent ≤ (m + 1) * n = subst (λ (x : ℕ). sent ≤ (x + 1) * n) e h in
    let b = mul-le-mul_left (m + 1) l in
    omega (arith, a, b)

module _ (offer : Offer) where
  asked-count : (test : Address → Bool) (asked : List Ask) (choice : offer.Choice) (o : OfPlan offer asked choice) → count_by test (offer.addresses choice) ≡ count_by test (map address_of asked) + count_by test o.rest
  asked-count test asked choice o =
      sym (sum_by-IsPermutation (λ (y : Address). cond (test y) 1 0) (offer.addresses choice) (map address_of asked ++ o.rest) o.plan_is) ∙ count-append test (map address_of asked) o.rest

  few-count : (test : Address → Bool) (asked : List Ask) (choice : offer.Choice) → OfPlan offer asked choice → count_by test (map address_of asked) ≤ count_by test (offer.addresses choice)
  few-count test asked choice o = let a = asked-count test asked choice o in omega (arith, a)

  whole-count : (test : Address → Bool) (asked : List Ask) (choice : offer.Choice) (o : OfPlan offer asked choice) → o.rest ≡ [] → count_by test (offer.addresses choice) ≡ count_by test (map address_of asked)
  whole-count test asked choice o none =
      let a = asked-count test asked choice o in
      let b : count_by test o.rest ≡ count_by test [] = ap (λ (l : List Address). count_by test l) none in
      omega (arith, a, b)

-- a pool whose links were closed
abbrev pub shut : Pooled → Pooled
shut p = record p { waiting = []; polled = []; due = []; spare = [] }

-- ---- what was requested, and what was answered

module _ (laws : Laws) (traffic : TrafficLaws) (allows : List ℕ → ℕ → List ℕ → List ℕ → Type 0) (options : Options) (since now : WireState) (lawful : IsLawful allows since) (starts : List Address) where
  abbrev IsAt : Ask → Type 0
  IsAt ask = HasHome starts ask.address

  abbrev WereRequested : List Ask → Pooled → WireState → Type 0
  WereRequested asks p v = RequestedSince (map address_of asks) since p v

  abbrev pub WereAnswered : List Ask → Pooled → WireState → Type 0
  WereAnswered asks p v = p.fault ≡ None → AnsweredSince (map address_of asks) since p v

  requested-kept : IsKeptWith allows (begun options) IsAt WereRequested
  requested-kept = record {
    puts = λ asks ask p v own web i.
        subst (λ (l : List Address). RequestedSince l since (record p { waiting = p.waiting ++ (record { ticket = ask.ticket; address = ask.address; failed = 0 }) ∷ [] }) v) (sym (map-append address_of asks (ask ∷ [])))
        (traffic.puts_requested (map address_of asks) since ask.ticket ask.address p v web i);
    steps = λ asks answer p q v w at i t. traffic.steps_requested (map address_of asks) since (Ok answer) p q v w at.given at.suits i t;
    breaks = λ asks fault p q v w at i t kept. traffic.faults_requested (map address_of asks) since q w (traffic.steps_requested (map address_of asks) since (Err fault) p (without_fault q) v w at.given at.suits i t);
  }

  pub answered-kept : IsKeptWith allows (begun options) IsAt WereAnswered
  answered-kept = record {
    puts = λ asks ask p v own web i none.
        subst (λ (l : List Address). AnsweredSince l since (record p { waiting = p.waiting ++ (record { ticket = ask.ticket; address = ask.address; failed = 0 }) ∷ [] }) v) (sym (map-append address_of asks (ask ∷ [])))
        (traffic.puts_answered (map address_of asks) since ask.ticket ask.address p v web (i none));
    steps = λ asks answer p q v w at i t none. traffic.steps_answered (map address_of asks) since answer p q v w at.given at.suits (i at.no_fault) t;
    breaks = λ asks fault p q v w at i t kept none. absurd (not-some q.fault (kept_of fault) kept none);
  }

  requested-so : (run : RunOf allows options starts since now) → RequestedSince (map address_of (asked_in run.events)) since (shut run.pool) now
  requested-so run =
      let i = with-asks allows (begun options) IsAt WereRequested requested-kept run.events (begun options) run.pool since run.runs.between (begun-between laws traffic starts options allows since lawful IsAt) run.asks
      (traffic.empty_requested options.links options.retries options.budget options.max_body since) run.runs.travels in
      traffic.closing_requested (map address_of (asked_in run.events)) since run.pool (shut run.pool) run.runs.between now i refl run.runs.closes

  pub answered-so : (run : RunOf allows options starts since now) → run.pool.fault ≡ None → held run.pool ≡ [] → AnsweredSince (map address_of (asked_in run.events)) since (shut run.pool) now
  answered-so run none empty =
      let i = with-asks allows (begun options) IsAt WereAnswered answered-kept run.events (begun options) run.pool since run.runs.between (begun-between laws traffic starts options allows since lawful IsAt) run.asks
      (λ e. traffic.empty_answered options.links options.retries options.budget options.max_body since) run.runs.travels in
      traffic.closing_answered (map address_of (asked_in run.events)) since run.pool (shut run.pool) run.runs.between now (i none) empty refl run.runs.closes

  module _ (limit : options.max_body < 2 ^ 64) (sources : Sources) (offer : Offer) (q : QueryData) (covered : Covered sources offer allows options since now starts q) where
    abbrev addresses : PlannedRun allows offer options since now starts → List Address
    addresses x = offer.addresses x.choice

    call-requests : (x : PlannedRun allows offer options since now starts) → RequestedSince (map address_of (asked_in x.run.events)) since (shut x.run.pool) now → CallRequests options (addresses x) since now
    call-requests x h =
        let bounds = same-pool laws traffic allows options since now lawful starts x.run.events x.run.pool x.run.asks x.run.runs in
        let same : x.run.pool.limit ≡ options.max_body = ap (λ (p : Pooled). p.limit) bounds in
        record {
          on = h.requests;
          told = λ k low high. subst (λ (n : ℕ). TellsRequests n (now.links k) (h.requests k)) same (h.given k low high);
          few = λ test.
              few-of x.run.pool.retries options.retries (count_by test (map address_of (asked_in x.run.events))) (count_by test (addresses x)) (count_sent test h.requests since now)
              (traffic.few_requested (map address_of (asked_in x.run.events)) since (shut x.run.pool) now h test) (ap (λ (p : Pooled). p.retries) bounds) (few-count offer test (asked_in x.run.events) x.choice x.of_plan);
        }

    -- where failures are rises
    by-rises : (x : PlannedRun allows offer options since now starts) (h : RequestedSince (map address_of (asked_in x.run.events)) since (shut x.run.pool) now) → since.nature.lively ≡ true
        → SentByRises since.faults (length (addresses x)) (count_sent any h.requests since now) now.faults
    by-rises x h alive =
        let i = rises-of laws traffic allows options since now lawful limit starts sources offer q covered alive x in
        let closes = x.run.runs.closes.faults in
        let later = i.later in
        let few = i.few in
        let all = i.all in
        let shut-rose : FailuresRose since.faults (length (asked_in x.run.events)) (shut x.run.pool) now = record {
          later = omega (arith, later, closes);
          waiting = tt;
          flying = tt;
          failures = i.failures;
          all = omega (arith, all, closes);
          few = omega (arith, few);
        } in
        let s = traffic.rises_requested (map address_of (asked_in x.run.events)) since since.faults (length (asked_in x.run.events)) (shut x.run.pool) now h shut-rose in
        let most = few-asked offer (asked_in x.run.events) x.choice x.of_plan in
        let sum = s.few in
        record { failures = s.failures; all = s.all; few = omega (arith, sum, most) }

    pub requests-plan : PlannedRun allows offer options since now starts → RequestsPlan offer options since now
    unfolding call-requests
    requests-plan x =
        let h = requested-so x.run in
        record { choice = x.choice; is_choice = x.of_plan.is_choice; requests = call-requests x h; rises = λ alive. by-rises x h alive }

    pub requests-choice : (x : PlannedRun allows offer options since now starts) → (requests-plan x).choice ≡ x.choice
    unfolding requests-plan
    requests-choice x = refl

    at-most : (all most n : ℕ) → all ≤ most + n → n ≡ 0 → all ≤ most
    at-most all most n h z = omega (arith, h, z)

    pub answers-plan : (report : Report) → WholeRun allows offer options since now starts report → AnswersPlan offer options report since now
    unfolding call-requests
    answers-plan report w =
        let x = w.planned in
        let asked = map address_of (asked_in x.run.events) in
        let a = answered-so x.run w.no_fault w.none_held in
        let h = a.requested in
        let enough : (test : Address → Bool) → count_by test (addresses x) ≤ count_answered test h.requests since now =
        λ test. subst (λ (n : ℕ). n ≤ count_answered test h.requests since now) (sym (whole-count offer test (asked_in x.run.events) x.choice x.of_plan w.none_left)) (traffic.all_answered asked since (shut x.run.pool) now a refl test) in
        let sent : (test : Address → Bool) → count_by test (addresses x) ≤ count_sent test h.requests since now =
        λ test. let b = enough test in let c = all-answers test h.requests since now in omega (arith, b, c) in
        record {
          choice = x.choice;
          is_choice = x.of_plan.is_choice;
          is_reported = w.is_reported;
          requests = call-requests x h;
          answered = enough;
          exact = λ alive none test.
              let s = by-rises x h alive in
              let total : count_sent any h.requests since now ≤ length (addresses x) = at-most (count_sent any h.requests since now) (length (addresses x)) s.failures s.few (no-rises s.failures since.faults now.faults s.all none) in
              let whole = count-split test (addresses x) in
              let lengths = all_count (addresses x) in
              exactly-so (count_sent any h.requests since now) (count_sent test h.requests since now) (count_sent (λ b. not (test b)) h.requests since now) (count_by test (addresses x)) (count_by (λ b. not (test b)) (addresses x))
              (all-split test h.requests since now) (omega (arith, total, whole, lengths)) (sent test) (sent (λ b. not (test b)));
        }
