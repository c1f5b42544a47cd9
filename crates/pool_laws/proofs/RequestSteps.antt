-- What was requested and answered on each link that was given since a moment is known after each step.
use Rattle.std.proofs.Common.{ℕ, ◌≡◌, ◌+◌, ◌-◌, ◌<◌, ◌≤◌, inl, inr, ◌++◌, Bool, true, false, cond, if◌then◌else◌, List, [], ◌∷◌, map, count_by, Option, Some, None, Result, Ok, Err, refl, sym, ◌∙◌, ap, subst, arith}
use Rattle.std.specs.List.{AllByRecursion}
use Rattle.std.specs.List.Sorted.{IsPermutation}
use Rattle.std.proofs.lemmas.List.Sorted.{IsPermutation-refl, IsPermutation-map, IsPermutation-trans, sum_by-IsPermutation}
use Rattle.tpf_base.specs.Addresses.{Address}
use Rattle.tpf_base.specs.Links.{WireState, OpensGiven}
use Rattle.http_wire.specs.declared.message.Reply.{Reply}
use Rattle.http_ends.specs.Requests.{request_for}
use Rattle.exchange.specs.Exchanges.{Exchanging, starting, left_link}
use Rattle.exchange.specs.declared.exchange.Standing.TheVariants.{Left, Over}
use Rattle.exchange.specs.declared.exchange.Standing.{Standing}
use Rattle.exchange.specs.declared.fault.ExchangeFault.{ExchangeFault}
use Rattle.request_pool.specs.declared.asks.Waiting.{Waiting}
use Rattle.request_pool.specs.declared.asks.Flight.{Flight}
use Rattle.request_pool.specs.declared.asks.Spare.{Spare}
use Rattle.request_pool.specs.declared.fault.Polled.{Polled}
use Rattle.request_pool.specs.declared.fault.Polled.TheVariants as polls
use Rattle.request_pool.specs.declared.fault.PoolFault.{PoolFault}
use Rattle.request_pool.specs.declared.fault.PoolFault.TheVariants as faults
use Rattle.request_pool.specs.declared.fault.Stepped.{Stepped}
use Rattle.request_pool.specs.Pools.{Pooled, Ask, ask_waiting, ask_flying, held, in_flight}
use Rattle.request_pool.specs.Owned.{SuitsWire}
use Rattle.request_pool.specs.Polls.{Settles, TakesLink, Polls, FailsTo, FlightTo, again}
use Rattle.request_pool.specs.Runs.{Begins, Starts, Overruns, Flies, Starves, PollsNext, Last, OfStart, OfPoll}
use Rattle.request_pool.specs.Steps.{GivesUp}
use Rattle.request_pool.proofs.Suits.{Owns, owns_begun, owns_next, left_is}
use Rattle.pool_laws.specs.Following.{IsWebAddress}
use Rattle.pool_laws.specs.Requested.{Exchanged, addresses_exchanged, replies_of, LastRequest, NoneWhole, Unanswered, LinkRequests, count_sent, any, times_sent, left_waiting, left_flying, unsent, IsOn, OwnRequests, RequestsOn}
use Rattle.pool_laws.specs.Sending.{requests_for}
use Rattle.pool_laws.proofs.Following.{request_is}
use Rattle.pool_laws.proofs.HeldLinks.{left_or_over, waits_only}
use Rattle.pool_laws.proofs.KeptBySteps.{IsKept}
use Rattle.pool_laws.proofs.Trying.{few_is_kept}
use Rattle.request_pool.proofs.Holding.{held_with, held_out, begun_holds, no_came, settles_held}
use Rattle.list_laws.proofs.Each.{all_append, all_front, all_back}
use Rattle.pool_laws.proofs.Counts.{count-cons, left-append, unsent-append, sent_on, started_on}
use Rattle.pool_laws.proofs.Requesting.{still_before, last_by, sent_once, first_unsent, none_sent, no_link, pending_puts, fault_puts, over_puts, left_puts, is_limited, address_after}
use Rattle.pool_laws.proofs.Requests.{left, idle, Known, Apart, Moved, moved, known_as, over, waits_again, goes_on, all_told, shut_known, shut_or, settles_known, answered, fewer}

-- ---- counts

taken_tries : (v : Bool) (r failed n s w rest x c : ℕ) → n ≡ 0 → w ≡ cond v (r + 1 - failed) 0 + rest → s + (w + x) ≤ c → s + (cond v (r + 1 - (failed + n)) 0 + (rest + x)) ≤ c
taken_tries true r failed n s w rest x c e f h = omega (arith, e, f, h)
taken_tries false r failed n s w rest x c e f h = omega (arith, f, h)

taken_rest : (s u w rest x c : ℕ) → w ≡ u + rest → s + (w + x) ≤ c → s + (rest + x) ≤ c
taken_rest s u w rest x c e h = omega (arith, e, h)

next_tries : (s w x z u y c : ℕ) → z ≡ u + y → s + (w + (x + z)) ≤ c → s + (u + (w + (x + y))) ≤ c
next_tries s w x z u y c e h = omega (arith, e, h)

next_starts : (s x z u y c : ℕ) → z ≡ u + y → s + (x + z) ≤ c → s + (u + (x + y)) ≤ c
next_starts s x z u y c e h = omega (arith, e, h)

oldest_tries : (s w x y z u v c : ℕ) → z ≡ x + y → z ≡ u + v → s + (w + (x + y)) ≤ c → s + (u + (w + (v + 0))) ≤ c
oldest_tries s w x y z u v c e f h = omega (arith, e, f, h)

oldest_starts : (s x y z u v c : ℕ) → z ≡ x + y → z ≡ u + v → s + (x + y) ≤ c → s + (u + (v + 0)) ≤ c
oldest_starts s x y z u v c e f h = omega (arith, e, f, h)

round_tries : (s w x y z c : ℕ) → z ≡ x + y → s + (w + (x + y)) ≤ c → s + (w + (0 + z)) ≤ c
round_tries s w x y z c e h = omega (arith, e, h)

round_starts : (s x y z c : ℕ) → z ≡ x + y → s + (x + y) ≤ c → s + (0 + z) ≤ c
round_starts s x y z c e h = omega (arith, e, h)

gathered_tries : (s w x y z c : ℕ) → z ≡ x + y → s + (w + (x + y)) ≤ c → s + (w + (z + 0)) ≤ c
gathered_tries s w x y z c e h = omega (arith, e, h)

gathered_starts : (s x y z c : ℕ) → z ≡ x + y → s + (x + y) ≤ c → s + (z + 0) ≤ c
gathered_starts s x y z c e h = omega (arith, e, h)

-- ---- the last request before a first poll

none_whole : (answered : List Exchanged) (address : Address) → ◌≡◌ {A = LinkRequests} (record { answered = answered; last = last_by address [] }) (record { answered = answered; last = NoneWhole })
none_whole answered address = ap (λ (v : Bool). record { answered = answered; last = if v then Unanswered address else NoneWhole }) (first_unsent address)

no_left : (s : Standing) → s ≡ Left → s ≡ Over → ⊥
no_left s e f = let g : Left ≡ Over = sym e ∙ f in cc

-- ---- the asks that are held

abbrev pub held_addresses : Pooled → List Address
held_addresses p = map (λ (ask : Ask). ask.address) (held p)

pub permuted_count : (test : Address → Bool) (xs ys : List Ask) → IsPermutation xs ys → count_by test (map (λ (ask : Ask). ask.address) ys) ≡ count_by test (map (λ (ask : Ask). ask.address) xs)
permuted_count test xs ys h = sum_by-IsPermutation (λ (x : Address). cond (test x) 1 0) (map (λ (ask : Ask). ask.address) xs) (map (λ (ask : Ask). ask.address) ys) (IsPermutation-map (λ (ask : Ask). ask.address) xs ys h)

-- one of them first
held_count : (test : Address → Bool) (ask : Ask) (xs : List Ask) (p : Pooled) → IsPermutation xs (ask ∷ held p) → count_by test (map (λ (x : Ask). x.address) xs) ≡ cond (test ask.address) 1 0 + count_by test (held_addresses p)
held_count test ask xs p h = sym (permuted_count test xs (ask ∷ held p) h) ∙ count-cons test ask.address (held_addresses p)

module _ (limit : ℕ) (since : WireState) (r : ℕ) (cap least : (Address → Bool) → ℕ) where
  abbrev K : Pooled → WireState → Type 0
  K p a = Known limit since r cap least p a

  abbrev Out : Flight → Pooled → WireState → Type 0
  Out f p a = Apart limit since r cap least f p a

  on_now : (o : Option ℕ) (all : ℕ → LinkRequests) (answered : List Exchanged) (last : LastRequest) → ((k : ℕ) → o ≡ Some k → since.given ≤ k) → ((k : ℕ) → o ≡ Some k → all k ≡ record { answered = answered; last = last }) → (o ≡ None → ⊥)
      → IsOn since all answered last o
  on_now None all answered last low at some = absurd (some refl)
  on_now (Some k) all answered last low at some = (low k refl, at k refl)

  -- ---- a poll

  pending_known : (f : Flight) (p : Pooled) (a b : WireState) → OpensGiven a → Owns f p a → Out f p a → (h : Polls None f a b) → K (record p { polled = p.polled ++ (record f { exchange = h.now }) ∷ [] }) b
  pending_known f p a b g o s h =
      let x = pending_puts limit since f a b s.all s.own h in
      let m = moved limit since r cap least None f p a b g o h s x in
      goes_on limit since r cap least f (record f { exchange = h.now }) x.gain p b x.x x.own refl refl m (record {
        answered = s.own.answered;
        are_answered = s.own.are_answered;
        is_address = address_after limit since f a b s.all s.own None h;
        is_limit = is_limited limit since f a b s.all s.own None h;
        stands = h.answers.stands (requests_for (addresses_exchanged s.own.answered)) (replies_of s.own.answered) s.own.stands;
        front = record { rest = h.answers.front.rest; is_whole = sym (request_is h.now.address) ∙ h.answers.front.is_whole };
        on = on_now h.now.link m.all s.own.answered (last_by h.now.address h.now.sent) m.low m.at (no_link h.now.link h.answers.k h.answers.link);
      })

  -- the ask is held no longer
  any_known : (answer : Option (Result Reply ExchangeFault)) (f : Flight) (p : Pooled) (a b : WireState) → OpensGiven a → Owns f p a → Out f p a → (h : Polls answer f a b) → K p b
  any_known None f p a b g o s h = let x = pending_puts limit since f a b s.all s.own h in over limit since r cap least f h.now.address h.now.link x.x x.own x.gain p b (moved limit since r cap least None f p a b g o h s x)
  any_known (Some (Ok answer)) f p a b g o s h =
      let x = over_puts limit since f a b s.all s.own answer h in over limit since r cap least f h.now.address h.now.link x.x x.own x.gain p b (moved limit since r cap least (Some (Ok answer)) f p a b g o h s x)
  any_known (Some (Err why)) f p a b g o s h =
      let x = fault_puts limit since f a b s.all s.own why h in over limit since r cap least f h.now.address h.now.link x.x x.own x.gain p b (moved limit since r cap least (Some (Err why)) f p a b g o h s x)

  -- its reply came, and the link is left
  left_own : (answer : Reply) (f : Flight) (p : Pooled) (a b : WireState) (g : OpensGiven a) (o : Owns f p a) (s : Out f p a) (h : Polls (Some (Ok answer)) f a b) (left : h.now.standing ≡ Left)
      → (m : Moved limit since r cap least f h.now.address h.now.link (left_puts limit since f a b s.all s.own answer h left).x (left_puts limit since f a b s.all s.own answer h left).own (left_puts limit since f a b s.all s.own answer h left).gain p b)
      → (k : ℕ) → left_link h.now ≡ Some k → OwnRequests limit since m.all b (starting h.now.address limit (Some k))
  left_own answer f p a b g o s h left m k e =
      let x = left_puts limit since f a b s.all s.own answer h left in
      let at = (left_is h.now.standing h.now.link k e).1 in
      let t = x.tells k at in
      record {
        answered = x.x.answered;
        are_answered = t.answered;
        is_address = address_after limit since f a b s.all s.own (Some (Ok answer)) h;
        is_limit = refl;
        stands = (t.sent_is, t.received_is);
        front = record { rest = request_for h.now.address; is_whole = refl };
        on = (m.low k at, m.at k at ∙ sym (none_whole x.x.answered h.now.address));
      }

  same_gain : (now : Address) (was : Address) (test : Address → Bool) → now ≡ was → least test + cond (test was) 1 0 ≤ least test + cond (test now) 1 0
  same_gain now was test e = let same : ◌≡◌ {A = ℕ} (cond (test now) 1 0) (cond (test was) 1 0) = ap {B = ℕ} (λ (x : Address). cond (test x) 1 0) e in omega (arith, same)

  -- its reply came, and was counted
  pub came_answered : (answer : Reply) (f : Flight) (p q : Pooled) (a mid b : WireState) → OpensGiven a → Owns f p a → Out f p a → (h : Polls (Some (Ok answer)) f a mid) → Settles (left_link h.now) h.now.address p q mid b
      → Known limit since r cap (λ test. least test + cond (test f.exchange.address) 1 0) q b
  came_answered answer f p q a mid b g o s h t =
      fewer limit since r cap (λ test. least test + cond (test f.exchange.address) 1 0) (λ test. least test + cond (test h.now.address) 1 0) q b (λ test. same_gain h.now.address f.exchange.address test h.touches.address)
      (elim (left_or_over h.now.standing _ h.answers.left) [
        | inl left ↦ (
            let x = left_puts limit since f a mid s.all s.own answer h left in
            let m = moved limit since r cap least (Some (Ok answer)) f p a mid g o h s x in
            settles_known limit since r cap (λ test. least test + x.gain test) (left_link h.now) h.now.address p q mid b (answered limit since r cap least f h.now.address h.now.link x.x x.own x.gain p mid m) (left_own answer f p a mid g o s h left m) t)
        | inr done ↦ (
            let x = over_puts limit since f a mid s.all s.own answer h in
            let m = moved limit since r cap least (Some (Ok answer)) f p a mid g o h s x in
            settles_known limit since r cap (λ test. least test + x.gain test) (left_link h.now) h.now.address p q mid b (answered limit since r cap least f h.now.address h.now.link x.x x.own x.gain p mid m)
            (λ k e. absurd (no_left h.now.standing (left_is h.now.standing h.now.link k e).0 done)) t)
      ])

  came_known : (answer : Reply) (f : Flight) (p q : Pooled) (a mid b : WireState) → OpensGiven a → Owns f p a → Out f p a → (h : Polls (Some (Ok answer)) f a mid) → Settles (left_link h.now) h.now.address p q mid b → K q b
  came_known answer f p q a mid b g o s h t = fewer limit since r cap least (λ test. least test + cond (test f.exchange.address) 1 0) q b (λ test. omega arith) (came_answered answer f p q a mid b g o s h t)

  below_all : (f k l : ℕ) → k ≡ l → f < k → f + 1 ≤ l
  below_all f k l e h = omega (arith, e, h)

  flight_known : (result : Result Polled PoolFault) (f : Flight) (p q : Pooled) (a b : WireState) → OpensGiven a → Owns f p a → Out f p a → FlightTo result f p q a b → K q b
  flight_known (Ok polls.Pending) f p q a b g o s t = known_as limit since r cap least _ q b t.1 (pending_known f p a b g o s t.0)
  flight_known (Ok (polls.Came ticket address answer)) f p q a b g o s t = came_known answer f p q a t.0 b g o s t.1 t.3
  flight_known (Ok polls.Failed) f p q a b g o s t =
      let x = fault_puts limit since f a b s.all s.own t.0 t.1 in
      known_as limit since r cap least _ q b t.4
      (waits_again limit since r cap least f (again (record f { exchange = t.1.now })) t.1.now.address t.1.now.link x.x x.own x.gain p b refl refl (below_all f.failed p.retries r s.few.is t.3) (moved limit since r cap least (Some (Err t.0)) f p a b g o t.1 s x))
  flight_known (Err faults.Exchange) f p q a b g o s t = known_as limit since r cap least p q b t.2 (any_known _ f p a b g o s t.0)
  flight_known (Err (faults.Cut received)) f p q a b g o s t = known_as limit since r cap least p q b t.2 (any_known _ f p a b g o s t.0)
  flight_known (Err (faults.Reply fault received)) f p q a b g o s t = known_as limit since r cap least p q b t.1 (any_known _ f p a b g o s t.0)
  flight_known (Err faults.OutOfMemory) f p q a b g o s t = known_as limit since r cap least p q b t.3 (shut_or limit since r cap least t.2.now.link p t.1 b t.4.1 (any_known t.0 f p a t.1 g o s t.2))
  flight_known (Err faults.Stalled) f p q a b g o s t = absurd t
  flight_known (Err faults.Budget) f p q a b g o s t = absurd t

  -- ---- a start

  record Taken (all : ℕ → LinkRequests) (start : ℕ) (a : WireState) (first : Waiting) (spare : List Spare) (link : Option ℕ) : Type 0 where
    own : OwnRequests limit since all a (starting first.address start link)
    left : AllByRecursion (λ s. RequestsOn limit since all a s) spare

  for_other : (all : ℕ → LinkRequests) (start : ℕ) (a : WireState) (s : Spare) (address : Address) (k : ℕ) → IsWebAddress address → start ≡ limit → s.link ≡ k → RequestsOn limit since all a s → OwnRequests limit since all a (starting address start (Some k))
  for_other all start a s address k is same at h =
      subst (λ (i : ℕ). OwnRequests limit since all a (starting address start (Some i))) at (record {
        answered = h.1.answered;
        are_answered = h.1.are_answered;
        is_address = is;
        is_limit = same;
        stands = h.1.stands;
        front = record { rest = request_for address; is_whole = refl };
        on = (h.1.on.0, h.1.on.1 ∙ none_whole h.1.answered h.0 ∙ sym (none_whole h.1.answered address));
      })

  taken : (all : ℕ → LinkRequests) (start : ℕ) (a : WireState) (first : Waiting) (old spare : List Spare) (link : Option ℕ) → IsWebAddress first.address → start ≡ limit
      → AllByRecursion (λ s. RequestsOn limit since all a s) old → TakesLink first old spare link → Taken all start a first spare link
  taken all start a first old spare None is same h t = record {
    own = record { answered = []; are_answered = tt; is_address = is; is_limit = same; stands = (refl, refl, refl, refl); front = record { rest = request_for first.address; is_whole = refl }; on = refl };
    left = subst (λ (l : List Spare). AllByRecursion (λ s. RequestsOn limit since all a s) l) (sym t.0) h;
  }
  taken all start a first old spare (Some k) is same h t =
      let o = t.1.3 in
      let every = subst (λ (l : List Spare). AllByRecursion (λ s. RequestsOn limit since all a s) l) o.is_old h in
      let behind = all_back (λ (s : Spare). RequestsOn limit since all a s) o.before (t.1.0 ∷ o.after) every in
      record {
        own = for_other all start a t.1.0 first.address k is same t.1.1 behind.0;
        left = subst (λ (l : List Spare). AllByRecursion (λ s. RequestsOn limit since all a s) l) (sym o.is_new)
            (all_append (λ (s : Spare). RequestsOn limit since all a s) o.before o.after (all_front _ o.before (t.1.0 ∷ o.after) every) behind.1);
      }

  -- with the exchange, and without it where memory runs out
  record Begun (p q : Pooled) (f : Flight) (a : WireState) : Type 0 where
    out : Out f q a
    rest : K (record q { started = p.started }) a

  begun : (p q : Pooled) (f : Flight) (a : WireState) → K p a → Begins p q f → Begun p q f a
  begun p q f a h b =
      let w = subst (λ (l : List Waiting). AllByRecursion (λ x. x.failed ≤ r) l) b.is_first h.few.waiting in
      let v = subst (λ (l : List Waiting). AllByRecursion (λ x. IsWebAddress x.address) l) b.is_first h.waiting in
      let t = taken h.all p.limit a b.first p.spare b.spare b.link v.0 h.is_limit h.spare b.takes in
      let e : Exchanging = starting b.first.address p.limit b.link in
      let none : times_sent e ≡ 0 = none_sent e refl in
      subst (λ (x : Pooled). Begun p x f a) (sym b.is_new)
      (subst (λ (x : Flight). Begun p (record p { waiting = b.rest; spare = b.spare; started = p.started + 1 }) x a) (sym b.flight) (record {
        out = record {
          is_limit = h.is_limit;
          few = record { is = h.few.is; waiting = w.1; polled = h.few.polled; due = h.few.due };
          waiting = v.1;
          failed = w.0;
          all = h.all;
          later = h.later;
          given = h.given;
          own = t.own;
          polled = h.polled;
          due = h.due;
          spare = t.left;
          tries = λ test. taken_tries (test b.first.address) r b.first.failed (times_sent e) (count_sent test h.all since a) (left_waiting test r p.waiting) (left_waiting test r b.rest) (left_flying test r p.polled + left_flying test r p.due) (cap test) none
              (ap (left_waiting test r) b.is_first) (h.tries test);
          starts = one_started (count_sent any h.all since a) (times_sent e) (idle limit since r cap least p) p.started h.starts;
          answers = h.answers;
        };
        rest = record {
          is_limit = h.is_limit;
          few = record { is = h.few.is; waiting = w.1; polled = h.few.polled; due = h.few.due };
          waiting = v.1;
          all = h.all;
          later = h.later;
          given = h.given;
          polled = h.polled;
          due = h.due;
          spare = t.left;
          tries = λ test. taken_rest (count_sent test h.all since a) (cond (test b.first.address) (r + 1 - b.first.failed) 0) (left_waiting test r p.waiting) (left_waiting test r b.rest) (left_flying test r p.polled + left_flying test r p.due) (cap test)
              (ap (left_waiting test r) b.is_first) (h.tries test);
          starts = h.starts;
          answers = h.answers;
        };
      }))
    where
      one_started : (s n x c : ℕ) → s + x ≤ c → s + ((1 - n) + x) ≤ c + 1
      one_started s n x c h = omega (arith, h)

  starts_known : (result : Result Polled PoolFault) (p q : Pooled) (a b : WireState) → OpensGiven a → SuitsWire p a → K p a → Starts result p q a b → K q b
  starts_known result p q a b g s h (Overruns e budget f i) = known_as limit since r cap least p q b f (subst (λ (x : WireState). K p x) (sym i) h)
  starts_known result p q a b g s h (Flies mid f budget begins to) = flight_known result f mid q a b g (owns_begun p mid f a s begins) (begun p mid f a h begins).out to
  starts_known result p q a b g s h (Starves e mid f begins is shuts) =
      known_as limit since r cap least _ q b is (shut_known limit since r cap least f.exchange.link (record mid { started = p.started }) a b shuts (begun p mid f a h begins).rest)

  -- ---- the next poll

  next_out : (p : Pooled) (f : Flight) (rest : List Flight) (a : WireState) → K p a → p.due ≡ f ∷ rest → Out f (record p { due = rest }) a
  next_out p f rest a h e =
      let d = subst (λ (l : List Flight). AllByRecursion (λ x. OwnRequests limit since h.all a x.exchange) l) e h.due in
      let n = subst (λ (l : List Flight). AllByRecursion (λ x. x.failed ≤ r) l) e h.few.due in
      record {
        is_limit = h.is_limit;
        few = record { is = h.few.is; waiting = h.few.waiting; polled = h.few.polled; due = n.1 };
        waiting = h.waiting;
        failed = n.0;
        all = h.all;
        later = h.later;
        given = h.given;
        own = d.0;
        polled = h.polled;
        due = d.1;
        spare = h.spare;
        tries = λ test. next_tries (count_sent test h.all since a) (left_waiting test r p.waiting) (left_flying test r p.polled) (left_flying test r p.due) (cond (test f.exchange.address) (r + 1 - (f.failed + times_sent f.exchange)) 0) (left_flying test r rest) (cap test)
            (ap (left_flying test r) e) (h.tries test);
        starts = next_starts (count_sent any h.all since a) (unsent p.polled) (unsent p.due) (1 - times_sent f.exchange) (unsent rest) p.started (ap unsent e) h.starts;
        answers = h.answers;
      }

  next_known : (result : Result Polled PoolFault) (p q : Pooled) (a b : WireState) → OpensGiven a → SuitsWire p a → K p a → PollsNext result p q a b → K q b
  next_known result p q a b g s h n = flight_known result n.f (record p { due = n.rest }) q a b g (owns_next p n.f n.rest a s n.is_next) (next_out p n.f n.rest a h n.is_next) n.to

  -- ---- an exchange that is given up

  oldest_out : (p : Pooled) (f : Flight) (rest : List Flight) (a : WireState) → K p a → in_flight p ≡ f ∷ rest → Out f (record p { polled = rest; due = [] }) a
  oldest_out p f rest a h e =
      let d = subst (λ (l : List Flight). AllByRecursion (λ x. OwnRequests limit since h.all a x.exchange) l) e (all_append (λ (x : Flight). OwnRequests limit since h.all a x.exchange) p.polled p.due h.polled h.due) in
      let n = subst (λ (l : List Flight). AllByRecursion (λ x. x.failed ≤ r) l) e (all_append (λ (x : Flight). x.failed ≤ r) p.polled p.due h.few.polled h.few.due) in
      record {
        is_limit = h.is_limit;
        few = record { is = h.few.is; waiting = h.few.waiting; polled = n.1; due = tt };
        waiting = h.waiting;
        failed = n.0;
        all = h.all;
        later = h.later;
        given = h.given;
        own = d.0;
        polled = d.1;
        due = tt;
        spare = h.spare;
        tries = λ test. oldest_tries (count_sent test h.all since a) (left_waiting test r p.waiting) (left_flying test r p.polled) (left_flying test r p.due) (left_flying test r (in_flight p)) (cond (test f.exchange.address) (r + 1 - (f.failed + times_sent f.exchange)) 0) (left_flying test r rest) (cap test)
            (left-append test r p.polled p.due) (ap (left_flying test r) e) (h.tries test);
        starts = oldest_starts (count_sent any h.all since a) (unsent p.polled) (unsent p.due) (unsent (in_flight p)) (1 - times_sent f.exchange) (unsent rest) p.started (unsent-append p.polled p.due) (ap unsent e) h.starts;
        answers = h.answers;
      }

  -- nothing more was sent
  stays : (f : Flight) (p : Pooled) (a : WireState) → Out f p a → Moved limit since r cap least f f.exchange.address None (record { answered = []; last = NoneWhole }) (times_sent f.exchange) (λ test. 0) p a
  stays f p a s = record {
    is_limit = s.is_limit;
    is_address = s.own.is_address;
    few = s.few;
    waiting = s.waiting;
    failed = s.failed;
    once = sent_once f.exchange;
    all = s.all;
    later = s.later;
    given = s.given;
    low = λ k e. absurd (no_link None k e refl);
    at = λ k e. absurd (no_link None k e refl);
    polled = s.polled;
    due = s.due;
    spare = s.spare;
    tries = λ test y i. sent_on (test f.exchange.address) (count_sent test s.all since a) (count_sent test s.all since a) (times_sent f.exchange) (times_sent f.exchange) f.failed r y (left limit since r cap least test p) (cap test)
        s.failed (sent_once f.exchange) (sent_once f.exchange) refl (s.tries test) i;
    starts = λ y i. started_on (count_sent any s.all since a) (count_sent any s.all since a) (times_sent f.exchange) (times_sent f.exchange) y (idle limit since r cap least p) p.started (sent_once f.exchange) refl s.starts i;
    answers = λ test. omega (arith, s.answers test);
  }

  fails_known : {T : Type 0} (fault : PoolFault) (result : Result T PoolFault) (f : Flight) (p q : Pooled) (a : WireState) → FailsTo fault result f p q → Out f p a → K q a
  fails_known fault (Ok done) f p q a t s =
      known_as limit since r cap least _ q a t.1
      (waits_again limit since r cap least f (again f) f.exchange.address None (record { answered = []; last = NoneWhole }) (times_sent f.exchange) (λ test. 0) p a refl refl (below_all f.failed p.retries r s.few.is t.0) (stays f p a s))
  fails_known fault (Err shown) f p q a t s = known_as limit since r cap least p q a t.0 (over limit since r cap least f f.exchange.address None (record { answered = []; last = NoneWhole }) (times_sent f.exchange) (λ test. 0) p a (stays f p a s))

  gives_up_known : (fault : PoolFault) (result : Result Stepped PoolFault) (p q : Pooled) (a b : WireState) → K p a → GivesUp fault result p q a b → K q b
  gives_up_known fault result p q a b h u = shut_known limit since r cap least u.f.exchange.link q a b u.shuts (fails_known fault result u.f (record p { polled = u.rest; due = [] }) q a u.to (oldest_out p u.f u.rest a h u.is_oldest))

  -- ---- rounds

  round_known : (p : Pooled) (a : WireState) → K p a → K (record p { polled = []; due = p.polled ++ p.due }) a
  round_known p a h = record {
    is_limit = h.is_limit;
    few = (few_is_kept r).rounds p a h.few;
    waiting = h.waiting;
    all = h.all;
    later = h.later;
    given = h.given;
    polled = tt;
    due = all_append (λ (x : Flight). OwnRequests limit since h.all a x.exchange) p.polled p.due h.polled h.due;
    spare = h.spare;
    tries = λ test. round_tries (count_sent test h.all since a) (left_waiting test r p.waiting) (left_flying test r p.polled) (left_flying test r p.due) (left_flying test r (p.polled ++ p.due)) (cap test) (left-append test r p.polled p.due) (h.tries test);
    starts = round_starts (count_sent any h.all since a) (unsent p.polled) (unsent p.due) (unsent (p.polled ++ p.due)) p.started (unsent-append p.polled p.due) h.starts;
    answers = h.answers;
  }

  gathered_known : (p : Pooled) (a : WireState) → K p a → K (record p { polled = in_flight p; due = [] }) a
  gathered_known p a h = record {
    is_limit = h.is_limit;
    few = (few_is_kept r).gathers p a h.few;
    waiting = h.waiting;
    all = h.all;
    later = h.later;
    given = h.given;
    polled = all_append (λ (x : Flight). OwnRequests limit since h.all a x.exchange) p.polled p.due h.polled h.due;
    due = tt;
    spare = h.spare;
    tries = λ test. gathered_tries (count_sent test h.all since a) (left_waiting test r p.waiting) (left_flying test r p.polled) (left_flying test r p.due) (left_flying test r (p.polled ++ p.due)) (cap test) (left-append test r p.polled p.due) (h.tries test);
    starts = gathered_starts (count_sent any h.all since a) (unsent p.polled) (unsent p.due) (unsent (p.polled ++ p.due)) p.started (unsent-append p.polled p.due) h.starts;
    answers = h.answers;
  }

  pub requests_are_kept : IsKept (Known limit since r cap least)
  requests_are_kept = record {
    starts = starts_known;
    polls = next_known;
    rounds = round_known;
    gathers = gathered_known;
    waits = λ answer p a b s h w. all_told limit since r cap least p a b w.only.given (λ k. still_before (a.links k) (b.links k) (waits_only answer a b w k)) h;
    gives_up = λ fault result p q a b s h u. gives_up_known fault result p q a b h u;
  }

  -- ---- the reply that ends a step

  -- an ask is held no longer, and its request was answered
  pub record CameLast (p q : Pooled) (b : WireState) : Type 0 where
    pub address : Address
    pub known : Known limit since r cap (λ test. least test + cond (test address) 1 0) q b
    pub held : (test : Address → Bool) → count_by test (held_addresses p) ≡ cond (test address) 1 0 + count_by test (held_addresses q)

  came_flight : (ticket : ℕ) (address : Address) (answer : Reply) (f : Flight) (p m q : Pooled) (a b : WireState) → OpensGiven a → Owns f m a → Out f m a → IsPermutation (held p) (held_with f m) → FlightTo (Ok (polls.Came ticket address answer)) f m q a b → CameLast p q b
  came_flight ticket address answer f p m q a b g o s h t = record {
    address = f.exchange.address;
    known = came_answered answer f m q a t.0 b g o s t.1 t.3;
    held = λ test. held_count test (ask_flying f) (held p) m (IsPermutation-trans (held p) (held_with f m) (ask_flying f ∷ held m) h (held_out f m))
        ∙ ap (λ (l : List Ask). cond (test f.exchange.address) 1 0 + count_by test (map (λ (ask : Ask). ask.address) l)) (sym (settles_held (left_link t.1.now) t.1.now.address m q t.0 b t.3));
  }

  pub last_came : (ticket : ℕ) (address : Address) (answer : Reply) (p q : Pooled) (a b : WireState) → OpensGiven a → SuitsWire p a → K p a → Last (Ok (polls.Came ticket address answer)) p q a b → CameLast p q b
  last_came ticket address answer p q a b g s h (OfStart (Overruns e budget f i)) = absurd (no_came ticket address answer faults.Budget e)
  last_came ticket address answer p q a b g s h (OfStart (Flies mid f budget begins to)) =
      came_flight ticket address answer f p mid q a b g (owns_begun p mid f a s begins) (begun p mid f a h begins).out (begun_holds p mid f begins) to
  last_came ticket address answer p q a b g s h (OfStart (Starves e mid f begins is shuts)) = absurd (no_came ticket address answer faults.OutOfMemory e)
  last_came ticket address answer p q a b g s h (OfPoll n) =
      came_flight ticket address answer n.f p (record p { due = n.rest }) q a b g (owns_next p n.f n.rest a s n.is_next) (next_out p n.f n.rest a h n.is_next)
      (subst (λ (l : List Ask). IsPermutation (held p) l) (ap (λ (fs : List Flight). map ask_waiting p.waiting ++ map ask_flying (p.polled ++ fs)) n.is_next) (IsPermutation-refl (held p))) n.to
