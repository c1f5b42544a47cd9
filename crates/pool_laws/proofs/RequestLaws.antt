-- The laws of what was requested and answered on the links that were given since a moment.
use Rattle.std.proofs.Common.{ℕ, ◌≡◌, ◌+◌, ◌-◌, ◌*◌, ◌≤◌, ◌⊎◌, inl, inr, ◌++◌, Bool, true, false, cond, List, [], ◌∷◌, length, map, count_by, Result, Ok, Err, refl, sym, ◌∙◌, ap, subst, arith}
use Rattle.std.proofs.lemmas.Bool.{cases_lt}
use Rattle.std.specs.List.Sorted.{IsPermutation}
use Rattle.std.proofs.lemmas.List.{map-append, length-map}
use Rattle.tpf_base.specs.Addresses.{Address}
use Rattle.tpf_base.specs.Links.{WireState, OpensGiven}
use Rattle.http_wire.specs.declared.message.Reply.{Reply}
use Rattle.request_pool.specs.declared.asks.Waiting.{Waiting}
use Rattle.request_pool.specs.declared.fault.Polled.{Polled}
use Rattle.request_pool.specs.declared.fault.Polled.TheVariants as polls
use Rattle.request_pool.specs.declared.fault.PoolFault.{PoolFault}
use Rattle.request_pool.specs.declared.fault.PoolFault.TheVariants as faults
use Rattle.request_pool.specs.declared.fault.Stepped.{Stepped}
use Rattle.request_pool.specs.declared.fault.Stepped.TheVariants.{Came, Waited, Idle}
use Rattle.request_pool.specs.Pools.{Pooled, Ask, ask_waiting, ask_flying, held, in_flight}
use Rattle.request_pool.specs.Owned.{SuitsWire, held_on}
use Rattle.request_pool.specs.Closing.{ClosesSome}
use Rattle.request_pool.specs.Runs.{Overruns, Flies, Starves, Last, OfStart, OfPoll}
use Rattle.request_pool.specs.Steps.{WaitsTo, Passes, Stalls, Misses, Lacks, EndsInRun, EndsInFault, AtOnce, InRun, InWait, StepsTo}
use Rattle.request_pool.proofs.Holding.{lined_held, running_holds, step_holds}
use Rattle.request_pool.proofs.Risen.{fares_first, running_fares}
use Rattle.request_pool.proofs.Steps.{suits_lined}
use Rattle.list_laws.proofs.Each.{all_append}
use Rattle.pool_laws.specs.Following.{IsWebAddress}
use Rattle.pool_laws.specs.Requested.{NoneWhole, over_links, count_sent, count_answered, any, whole_requests, whole_answers, left_waiting, left_flying, unsent, RequestedSince, AnsweredSince, RequestsAreFew, RequestsAreStarted, RequestsAreRises, AsksAreAnswered, EmptyPoolsRequested, EmptyPoolsAnswered, PutsRequested, PutsAnswered, FaultsRequested, StepsRequested, StepsAnswered, ClosingRequested, ClosingAnswered}
use Rattle.pool_laws.specs.Spending.{AnsweredMost, BudgetsAnswered, ClosingAnsweredMost}
use Rattle.pool_laws.proofs.KeptBySteps.{by_line, by_running, by_step}
use Rattle.pool_laws.proofs.Trying.{few_in, few_own, put_few}
use Rattle.pool_laws.proofs.Counts.{count-append, count-one, all_count, left-append, unsent-append, waiting-append, regroup, group_again, one_more}
use Rattle.pool_laws.proofs.Requesting.{StillTold, still_same, tells_told}
use Rattle.pool_laws.proofs.Requests.{Known}
use Rattle.pool_laws.proofs.RequestSteps.{requests_are_kept, held_addresses, permuted_count, last_came}

-- ---- into a step, and out of it

starts_in : (s x y z c : ℕ) → z ≡ x + y → s + z ≤ c → s + (x + y) ≤ c
starts_in s x y z c e h = omega (arith, e, h)

starts_out : (s x y z c : ℕ) → z ≡ x + y → s + (x + y) ≤ c → s + z ≤ c
starts_out s x y z c e h = omega (arith, e, h)

known_in : (asked : List Address) (since : WireState) (least : (Address → Bool) → ℕ) (p : Pooled) (a : WireState) (h : RequestedSince asked since p a) → ((test : Address → Bool) → least test ≤ count_answered test h.requests since a)
    → Known p.limit since p.retries (λ test. (p.retries + 1) * count_by test asked) least p a
known_in asked since least p a h few = record {
  is_limit = refl;
  few = few_in p h.few_failed;
  waiting = h.waiting;
  all = h.requests;
  later = h.later;
  given = h.given;
  polled = h.polled;
  due = h.due;
  spare = h.spare;
  tries = λ test. regroup (count_sent test h.requests since a) (left_waiting test p.retries p.waiting) (left_flying test p.retries p.polled) (left_flying test p.retries p.due) (left_flying test p.retries (in_flight p)) ((p.retries + 1) * count_by test asked)
      (left-append test p.retries p.polled p.due) (h.tries test);
  starts = starts_in (count_sent any h.requests since a) (unsent p.polled) (unsent p.due) (unsent (in_flight p)) p.started (unsent-append p.polled p.due) h.starts;
  answers = few;
}

-- its own bounds are those of the pool
same_bounds : (limit : ℕ) (since : WireState) (r : ℕ) (cap least : (Address → Bool) → ℕ) (q : Pooled) (b : WireState) → Known limit since r cap least q b → Known q.limit since q.retries cap least q b
same_bounds limit since r cap least q b k = subst (λ (n : ℕ). Known q.limit since n cap least q b) (sym k.few.is) (subst (λ (n : ℕ). Known n since r cap least q b) (sym k.is_limit) k)

abbrev known_out : (asked : List Address) (since : WireState) (cap least : (Address → Bool) → ℕ) (q : Pooled) (b : WireState) → ((test : Address → Bool) → cap test ≡ (q.retries + 1) * count_by test asked) → Known q.limit since q.retries cap least q b
    → RequestedSince asked since q b
known_out asked since cap least q b same k = record {
  requests = k.all;
  later = k.later;
  given = k.given;
  polled = k.polled;
  due = k.due;
  spare = k.spare;
  few_failed = few_own q k.few;
  waiting = k.waiting;
  tries = λ test. subst (λ (c : ℕ). count_sent test k.all since b + (left_waiting test q.retries q.waiting + left_flying test q.retries (in_flight q)) ≤ c) (same test)
      (group_again (count_sent test k.all since b) (left_waiting test q.retries q.waiting) (left_flying test q.retries q.polled) (left_flying test q.retries q.due) (left_flying test q.retries (in_flight q)) (cap test) (left-append test q.retries q.polled q.due) (k.tries test));
  starts = starts_out (count_sent any k.all since b) (unsent q.polled) (unsent q.due) (unsent (in_flight q)) q.started (unsent-append q.polled q.due) k.starts;
}

same_cap : (asked : List Address) (since : WireState) (limit r : ℕ) (cap least : (Address → Bool) → ℕ) (q : Pooled) (b : WireState) → Known limit since r cap least q b → ((test : Address → Bool) → cap test ≡ (r + 1) * count_by test asked) → (test : Address → Bool)
    → cap test ≡ (q.retries + 1) * count_by test asked
same_cap asked since limit r cap least q b k is test = is test ∙ ap (λ (n : ℕ). (n + 1) * count_by test asked) (sym k.few.is)

-- what is so after a step: at least so many answers
record Stepping (asked : List Address) (since : WireState) (least : (Address → Bool) → ℕ) (q : Pooled) (b : WireState) : Type 0 where
  requested : RequestedSince asked since q b
  answers : (test : Address → Bool) → least test ≤ count_answered test requested.requests since b

stepping : (asked : List Address) (since : WireState) (least : (Address → Bool) → ℕ) (p q : Pooled) (b : WireState) → Known p.limit since p.retries (λ test. (p.retries + 1) * count_by test asked) least q b → Stepping asked since least q b
stepping asked since least p q b k =
    let cap : (Address → Bool) → ℕ = λ test. (p.retries + 1) * count_by test asked in
    let now = same_bounds p.limit since p.retries (λ test. (p.retries + 1) * count_by test asked) least q b k in
    record {
      requested = known_out asked since (λ test. (p.retries + 1) * count_by test asked) least q b (same_cap asked since p.limit p.retries (λ test. (p.retries + 1) * count_by test asked) least q b k (λ test. refl)) now;
      answers = now.answers;
    }

module _ (asked : List Address) (since : WireState) (least : (Address → Bool) → ℕ) (p q : Pooled) (a b : WireState) (given : OpensGiven a) (suits : SuitsWire p a) (h : RequestedSince asked since p a) (few : (test : Address → Bool) → least test ≤ count_answered test h.requests since a) where
  by_any : (result : Result Stepped PoolFault) → StepsTo result p q a b → Stepping asked since least q b
  by_any result to =
      stepping asked since least p q b
      (by_step (Known p.limit since p.retries (λ test. (p.retries + 1) * count_by test asked) least) (requests_are_kept p.limit since p.retries (λ test. (p.retries + 1) * count_by test asked) least) result p q a b given suits (known_in asked since least p a h few) to)

  -- a reply came
  record CameBy : Type 0 where
    address : Address
    stepped : Stepping asked since (λ test. least test + cond (test address) 1 0) q b
    held : (test : Address → Bool) → count_by test (held_addresses p) ≡ cond (test address) 1 0 + count_by test (held_addresses q)

  by_came : (ticket : ℕ) (address : Address) (answer : Reply) → EndsInRun (Ok (polls.Came ticket address answer)) p q a b → CameBy
  by_came ticket address answer e =
      let gathered : Pooled = e.line in
      let kept = requests_are_kept p.limit since p.retries (λ test. (p.retries + 1) * count_by test asked) least in
      let own = suits_lined p e.line a e.lines suits in
      let f = running_fares false a gathered e.mid a e.between (fares_first gathered a own given) e.running in
      let mid = by_running (Known p.limit since p.retries (λ test. (p.retries + 1) * count_by test asked) least) kept gathered e.mid a e.between given own (by_line (Known p.limit since p.retries (λ test. (p.retries + 1) * count_by test asked) least) kept p gathered a e.lines (known_in asked since least p a h few)) e.running in
      let c = last_came p.limit since p.retries (λ test. (p.retries + 1) * count_by test asked) least ticket address answer e.mid q e.between b f.given f.suits mid e.last in
      record {
        address = c.address;
        stepped = stepping asked since (λ test. least test + cond (test c.address) 1 0) p q b c.known;
        held = λ test. sym (ap (λ (l : List Ask). count_by test (map (λ (ask : Ask). ask.address) l)) (lined_held p e.line e.lines)) ∙ sym (permuted_count test (held gathered) (held e.mid) (running_holds gathered e.mid a e.between e.running)) ∙ c.held test;
      }

-- ---- what follows

at_most : (s w z c : ℕ) → s + (w + z) ≤ c → s ≤ c
at_most s w z c h = omega (arith, h)

started_most : (s u n : ℕ) → s + u ≤ n → s ≤ n
started_most s u n h = omega (arith, h)

pub requests_few : RequestsAreFew
requests_few asked since pool wire h test =
    at_most (count_sent test h.requests since wire) (left_waiting test pool.retries pool.waiting) (left_flying test pool.retries (in_flight pool)) ((pool.retries + 1) * count_by test asked) (h.tries test)

pub requests_started : RequestsAreStarted
requests_started asked since pool wire h = started_most (count_sent any h.requests since wire) (unsent (in_flight pool)) pool.started h.starts

pub requests_rise : RequestsAreRises
requests_rise asked since before n pool wire h rose = record { failures = rose.failures; all = rose.all; few = omega (arith, requests_started asked since pool wire h, rose.few) }

pub asks_answered : AsksAreAnswered
asks_answered asked since pool wire h none test =
    none_held (count_by test asked) (count_answered test h.requested.requests since wire) (count_by test (held_addresses pool)) (ap (λ (l : List Ask). count_by test (map (λ (ask : Ask). ask.address) l)) none) (h.all test)
  where
    none_held : (n m k : ℕ) → k ≡ 0 → n ≤ m + k → n ≤ m
    none_held n m k e i = omega (arith, e, i)

-- ---- an empty pool

pub none_given : (count : ℕ → ℕ) (n : ℕ) → over_links count n (n - n) ≡ 0
none_given count n = let e : n - n ≡ 0 = omega arith in ap (λ (m : ℕ). over_links count n m) e

none_counted : (s c : ℕ) → s ≡ 0 → s + (0 + 0) ≤ c
none_counted s c e = omega (arith, e)

pub empty_requested : EmptyPoolsRequested
empty_requested links retries budget limit wire = record {
  requests = λ k. record { answered = []; last = NoneWhole };
  later = omega arith;
  given = λ k low below. absurd (omega (arith, low, below));
  polled = tt;
  due = tt;
  spare = tt;
  few_failed = record { waiting = tt; flying = tt };
  waiting = tt;
  tries = λ test. none_counted (over_links (λ k. 0) wire.given (wire.given - wire.given)) ((retries + 1) * 0) (none_given (λ k. 0) wire.given);
  starts = (let e : over_links (λ k. 0) wire.given (wire.given - wire.given) ≡ 0 = none_given (λ k. 0) wire.given in omega (arith, e));
}

pub empty_answered : EmptyPoolsAnswered
empty_answered links retries budget limit wire = record { requested = empty_requested links retries budget limit wire; all = λ test. omega arith }

-- ---- a put

put_tries : (v : Bool) (s w w' f r c c' : ℕ) → w' ≡ w + (cond v (r + 1 - 0) 0 + 0) → c' ≡ c + cond v (r + 1) 0 → s + (w + f) ≤ c → s + (w' + f) ≤ c'
put_tries true s w w' f r c c' e g h = omega (arith, e, g, h)
put_tries false s w w' f r c c' e g h = omega (arith, e, g, h)

abbrev put_now : (asked : List Address) (since : WireState) (ticket : ℕ) (address : Address) (pool : Pooled) (wire : WireState) → IsWebAddress address → RequestedSince asked since pool wire
    → RequestedSince (asked ++ address ∷ []) since (record pool { waiting = pool.waiting ++ (record { ticket = ticket; address = address; failed = 0 }) ∷ [] }) wire
put_now asked since ticket address pool wire is h = record {
  requests = h.requests;
  later = h.later;
  given = h.given;
  polled = h.polled;
  due = h.due;
  spare = h.spare;
  few_failed = put_few ticket address pool h.few_failed;
  waiting = all_append (λ (w : Waiting). IsWebAddress w.address) pool.waiting ((record { ticket = ticket; address = address; failed = 0 }) ∷ []) h.waiting (is, tt);
  tries = λ test. put_tries (test address) (count_sent test h.requests since wire) (left_waiting test pool.retries pool.waiting) (left_waiting test pool.retries (pool.waiting ++ (record { ticket = ticket; address = address; failed = 0 }) ∷ []))
      (left_flying test pool.retries (in_flight pool)) pool.retries ((pool.retries + 1) * count_by test asked) ((pool.retries + 1) * count_by test (asked ++ address ∷ []))
      (waiting-append test pool.retries pool.waiting ((record { ticket = ticket; address = address; failed = 0 }) ∷ [])) (one_more test (pool.retries + 1) asked address) (h.tries test);
  starts = h.starts;
}

pub put_requested : PutsRequested
put_requested asked since ticket address pool wire is h = put_now asked since ticket address pool wire is h

addresses_split : (test : Address → Bool) (xs ys : List Ask) → count_by test (map (λ (ask : Ask). ask.address) (xs ++ ys)) ≡ count_by test (map (λ (ask : Ask). ask.address) xs) + count_by test (map (λ (ask : Ask). ask.address) ys)
addresses_split test xs ys =
    ap (λ (l : List Address). count_by test l) (map-append (λ (ask : Ask). ask.address) xs ys) ∙ count-append test (map (λ (ask : Ask). ask.address) xs) (map (λ (ask : Ask). ask.address) ys)

one_alone : (n m : ℕ) → n ≡ 0 + m → n ≡ m
one_alone n m e = omega (arith, e)

waiting_more : (test : Address → Bool) (ws : List Waiting) (w : Waiting) → count_by test (map (λ (ask : Ask). ask.address) (map ask_waiting (ws ++ w ∷ []))) ≡ count_by test (map (λ (ask : Ask). ask.address) (map ask_waiting ws)) + cond (test w.address) 1 0
waiting_more test ws w =
    ap (λ (l : List Ask). count_by test (map (λ (ask : Ask). ask.address) l)) (map-append ask_waiting ws (w ∷ [])) ∙ addresses_split test (map ask_waiting ws) (ask_waiting w ∷ [])
    ∙ ap (λ (n : ℕ). count_by test (map (λ (ask : Ask). ask.address) (map ask_waiting ws)) + n) (one_alone (count_by test (map (λ (ask : Ask). ask.address) (ask_waiting w ∷ []))) (cond (test w.address) 1 0) (count-one test [] w.address))

held_more : (test : Address → Bool) (ticket : ℕ) (address : Address) (pool : Pooled)
    → count_by test (held_addresses (record pool { waiting = pool.waiting ++ (record { ticket = ticket; address = address; failed = 0 }) ∷ [] })) ≡ count_by test (held_addresses pool) + cond (test address) 1 0
held_more test ticket address pool =
    let w : Waiting = record { ticket = ticket; address = address; failed = 0 } in
    let new = addresses_split test (map ask_waiting (pool.waiting ++ (record { ticket = ticket; address = address; failed = 0 }) ∷ [])) (map ask_flying (in_flight pool)) in
    let old = addresses_split test (map ask_waiting pool.waiting) (map ask_flying (in_flight pool)) in
    omega (arith, new, old, waiting_more test pool.waiting w)

pub put_answered : PutsAnswered
put_answered asked since ticket address pool wire is h = record {
  requested = put_now asked since ticket address pool wire is h.requested;
  all = λ test. omega (arith, h.all test, count-one test asked address, held_more test ticket address pool);
}

pub fault_requested : FaultsRequested
fault_requested asked since pool wire h = record {
  requests = h.requests;
  later = h.later;
  given = h.given;
  polled = h.polled;
  due = h.due;
  spare = h.spare;
  few_failed = record { waiting = h.few_failed.waiting; flying = h.few_failed.flying };
  waiting = h.waiting;
  tries = h.tries;
  starts = h.starts;
}

-- ---- a step

pub steps_requested : StepsRequested
steps_requested asked since result old new wire wire' given suits h to = (by_any asked since (λ test. 0) old new wire wire' given suits h (λ test. omega arith) result to).requested

still_held : (n k l m x y : ℕ) → n ≤ k + x → x ≡ y → k ≤ l → l ≡ m → n ≤ m + y
still_held n k l m x y h e i f = omega (arith, h, e, i, f)

came_held : (n k v l x y : ℕ) → n ≤ k + x → x ≡ v + y → k + v ≤ l → n ≤ l + y
came_held n k v l x y h e i = omega (arith, h, e, i)

pub steps_answered : StepsAnswered
steps_answered asked since Idle old new wire wire' given suits h to = subst (λ (q : Pooled). AnsweredSince asked since q wire') (sym to.1) (subst (λ (b : WireState). AnsweredSince asked since old b) (sym to.2) h)
steps_answered asked since Waited old new wire wire' given suits h to =
    let s = by_any asked since (λ test. count_answered test h.requested.requests since wire) old new wire wire' given suits h.requested (λ test. omega arith) (Ok Waited) to in
    record {
      requested = s.requested;
      all = λ test. still_held (count_by test asked) (count_answered test h.requested.requests since wire) (count_answered test s.requested.requests since wire') (count_answered test s.requested.requests since wire') (count_by test (held_addresses old)) (count_by test (held_addresses new))
          (h.all test) (sym (permuted_count test (held old) (held new) (step_holds Waited old new wire wire' to))) (s.answers test) refl;
    }
steps_answered asked since (Came ticket address answer) old new wire wire' given suits h to =
    let c = by_came asked since (λ test. count_answered test h.requested.requests since wire) old new wire wire' given suits h.requested (λ test. omega arith) ticket address answer to in
    record {
      requested = c.stepped.requested;
      all = λ test. came_held (count_by test asked) (count_answered test h.requested.requests since wire) (cond (test c.address) 1 0) (count_answered test c.stepped.requested.requests since wire') (count_by test (held_addresses old)) (count_by test (held_addresses new))
          (h.all test) (c.held test) (c.stepped.answers test);
    }

-- ---- the close

still_closed : (p : Pooled) (a b : WireState) → ClosesSome (held_on p) (λ k. 0) a b → (k : ℕ) → StillTold (a.links k) (b.links k)
still_closed p a b c k = elim (cases_lt 0 (held_on p k)) [
  | inl some ↦ (let x = c.closed k some in record { same = record { peer = x.peer; sent = x.sent; received = x.received }; ended = x.ended })
  | inr none ↦ still_same (a.links k) (b.links k) (c.others k (omega (arith, none)))
]

closed_least : (s s' w z c : ℕ) → s' ≡ s → s + (w + z) ≤ c → s' + (0 + 0) ≤ c
closed_least s s' w z c e h = omega (arith, e, h)

closed_starts : (s s' u c : ℕ) → s' ≡ s → s + u ≤ c → s' + 0 ≤ c
closed_starts s s' u c e h = omega (arith, e, h)

counted_as : (count : ℕ → ℕ) (since a b : WireState) → b.given ≡ a.given → over_links count since.given (b.given - since.given) ≡ over_links count since.given (a.given - since.given)
counted_as count since a b e = ap (λ (m : ℕ). over_links count since.given (m - since.given)) e

abbrev closed_now : (asked : List Address) (since : WireState) (old : Pooled) (wire wire' : WireState) → RequestedSince asked since old wire → ClosesSome (held_on old) (λ k. 0) wire wire'
    → RequestedSince asked since (record old { waiting = []; polled = []; due = []; spare = [] }) wire'
closed_now asked since old wire wire' h c = record {
  requests = h.requests;
  later = omega (arith, h.later, c.given);
  given = λ k low below. tells_told old.limit (wire.links k) (wire'.links k) (h.requests k) (still_closed old wire wire' c k) (h.given k low (omega (arith, below, c.given)));
  polled = tt;
  due = tt;
  spare = tt;
  few_failed = record { waiting = tt; flying = tt };
  waiting = tt;
  tries = λ test. closed_least (count_sent test h.requests since wire) (count_sent test h.requests since wire') (left_waiting test old.retries old.waiting) (left_flying test old.retries (in_flight old)) ((old.retries + 1) * count_by test asked)
      (counted_as (λ k. count_by test (whole_requests (h.requests k))) since wire wire' c.given) (h.tries test);
  starts = closed_starts (count_sent any h.requests since wire) (count_sent any h.requests since wire') (unsent (in_flight old)) old.started (counted_as (λ k. count_by any (whole_requests (h.requests k))) since wire wire' c.given) h.starts;
}

pub closing_requested : ClosingRequested
closing_requested asked since old new wire wire' h e c =
    subst (λ (q : Pooled). RequestedSince asked since q wire') (sym e) (closed_now asked since old wire wire' h (subst (λ (q : Pooled). ClosesSome (held_on old) (held_on q) wire wire') e c))

pub closing_answered : ClosingAnswered
closing_answered asked since old new wire wire' h none e c =
    let c' = subst (λ (q : Pooled). ClosesSome (held_on old) (held_on q) wire wire') e c in
    subst (λ (q : Pooled). AnsweredSince asked since q wire') (sym e) (record {
      requested = closed_now asked since old wire wire' h.requested c';
      all = λ test. closed_answers (count_by test asked) (count_answered test h.requested.requests since wire) (count_answered test h.requested.requests since wire') (counted_as (λ k. count_by test (whole_answers (h.requested.requests k))) since wire wire' c'.given)
          (asks_answered asked since old wire h none test);
    })
  where
    closed_answers : (n m m' : ℕ) → m' ≡ m → n ≤ m → n ≤ m' + 0
    closed_answers n m m' e i = omega (arith, e, i)

-- ---- where the budget is spent

budget_last : (p q : Pooled) (a b : WireState) → Last (Err faults.Budget) p q a b → held q ≡ held p
budget_last p q a b (OfStart (Overruns e budget f g)) = ap held f
budget_last p q a b (OfStart (Flies mid f budget begins to)) = absurd to
budget_last p q a b (OfStart (Starves e mid f begins is shuts)) = absurd (let x : ◌≡◌ {A = Result Polled PoolFault} (Err faults.Budget) (Err faults.OutOfMemory) = e in cc)
budget_last p q a b (OfPoll n) = absurd n.to

not_stalled : (A : Type 0) → (faults.Budget ≡ faults.OutOfMemory) ⊎ ((faults.Budget ≡ faults.Stalled) × A) → ⊥
not_stalled A (inl e) = cc
not_stalled A (inr e) = let x : faults.Budget ≡ faults.Stalled = e.0 in cc

not_failed : (A : Type 0) → (faults.Budget ≡ faults.OutOfMemory) ⊎ ((faults.Budget ≡ faults.Exchange) × A) → ⊥
not_failed A (inl e) = cc
not_failed A (inr e) = let x : faults.Budget ≡ faults.Exchange = e.0 in cc

budget_waits : (p q : Pooled) (a b : WireState) → WaitsTo (Err faults.Budget) p q a b → ⊥
budget_waits p q a b (Passes ready e w i f) = let x : ◌≡◌ {A = Result Stepped PoolFault} (Err faults.Budget) (Ok Waited) = e in cc
budget_waits p q a b (Stalls ready mid w i u) = not_stalled _ u.to.1
budget_waits p q a b (Misses mid w u) = not_failed _ u.to.1
budget_waits p q a b (Lacks w e f) = let x : ◌≡◌ {A = Result Stepped PoolFault} (Err faults.Budget) (Err faults.OutOfMemory) = e in cc

budget_holds : (p q : Pooled) (a b : WireState) → EndsInFault faults.Budget p q a b → IsPermutation (held p) (held q)
budget_holds p q a b (AtOnce e f i) = absurd (let x : faults.Budget ≡ faults.OutOfMemory = e in cc)
budget_holds p q a b (InRun e) =
    subst (λ (l : List Ask). IsPermutation (held p) l) (sym (budget_last e.mid q e.between b e.last))
    (subst (λ (l : List Ask). IsPermutation l (held e.mid)) (lined_held p e.line e.lines) (running_holds e.line e.mid a e.between e.running))
budget_holds p q a b (InWait e) = absurd (budget_waits e.mid q e.between b e.waits)

pub budget_answered : BudgetsAnswered
budget_answered asked since old new wire wire' given suits h to =
    let s = by_any asked since (λ test. count_answered test h.requested.requests since wire) old new wire wire' given suits h.requested (λ test. omega arith) (Err faults.Budget) to in
    record {
      requested = s.requested;
      all = λ test. still_held (count_by test asked) (count_answered test h.requested.requests since wire) (count_answered test s.requested.requests since wire') (count_answered test s.requested.requests since wire') (count_by test (held_addresses old)) (count_by test (held_addresses new))
          (h.all test) (sym (permuted_count test (held old) (held new) (budget_holds old new wire wire' to))) (s.answers test) refl;
    }

pub closing_most : ClosingAnsweredMost
closing_most asked since old new wire wire' h e c =
    let c' = subst (λ (q : Pooled). ClosesSome (held_on old) (held_on q) wire wire') e c in
    subst (λ (q : Pooled). AnsweredMost (length asked - length (held old)) asked since q wire') (sym e) (record {
      requested = closed_now asked since old wire wire' h.requested c';
      most = most_closed (count_by any asked) (length asked) (count_answered any h.requested.requests since wire) (count_answered any h.requested.requests since wire') (count_by any (held_addresses old)) (length (held_addresses old)) (length (held old)) (h.all any)
          (all_count asked) (all_count (held_addresses old)) (length-map (held old) (λ (ask : Ask). ask.address)) (counted_as (λ k. count_by any (whole_answers (h.requested.requests k))) since wire wire' c'.given);
    })
  where
    most_closed : (c n m m' d l k : ℕ) → c ≤ m + d → c ≡ n → d ≡ l → l ≡ k → m' ≡ m → n - k ≤ m'
    most_closed c n m m' d l k h e f g i = omega (arith, h, e, f, g, i)
