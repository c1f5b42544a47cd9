-- At most so many exchanges are started as asks may be tried: each ask that is held has as many tries left as it may have but for those that it had.
use Rattle.std.proofs.Common.{ℕ, ◌≡◌, ◌≢◌, ◌+◌, ◌<◌, ◌≤◌, ◌++◌, List, [], ◌∷◌, Option, Result, Ok, Err, refl, sym, ◌∙◌, ap, subst, arith}
use Rattle.std.specs.List.{AllByRecursion}
use Rattle.list_laws.proofs.Each.{all_append}
use Rattle.tpf_base.specs.Addresses.{Address}
use Rattle.tpf_base.specs.Links.{WireState}
use Rattle.exchange.specs.Exchanges.{left_link}
use Rattle.request_pool.specs.declared.asks.Waiting.{Waiting}
use Rattle.request_pool.specs.declared.asks.Flight.{Flight}
use Rattle.request_pool.specs.declared.fault.Polled.{Polled}
use Rattle.request_pool.specs.declared.fault.Polled.TheVariants as polls
use Rattle.request_pool.specs.declared.fault.PoolFault.{PoolFault}
use Rattle.request_pool.specs.declared.fault.PoolFault.TheVariants as faults
use Rattle.request_pool.specs.declared.fault.Stepped.{Stepped}
use Rattle.request_pool.specs.Pools.{Pooled}
use Rattle.request_pool.specs.Polls.{Settles, NoLink, Kept, Shut, FailsTo, FlightTo, again}
use Rattle.request_pool.specs.Runs.{Begins, Starts, Overruns, Flies, Starves, PollsNext}
use Rattle.request_pool.specs.Steps.{GivesUp}
use Rattle.pool_laws.specs.Counting.{tries_waiting, tries_flying}
use Rattle.pool_laws.proofs.KeptBySteps.{IsKept}
use Rattle.pool_laws.proofs.Trying.{tries_append}

-- the tries that these may have
abbrev pub room_waiting : ℕ → List Waiting → ℕ
room_waiting k [] = 0
room_waiting k (w ∷ ws) = k + room_waiting k ws

abbrev pub room_flying : ℕ → List Flight → ℕ
room_flying k [] = 0
room_flying k (f ∷ fs) = k + room_flying k fs

room-append : (k : ℕ) (xs ys : List Flight) → room_flying k (xs ++ ys) ≡ room_flying k xs + room_flying k ys
room-append k [] ys = omega arith
room-append k (x ∷ xs) ys = omega (arith, room-append k xs ys)

waiting-append : (xs ys : List Waiting) → tries_waiting (xs ++ ys) ≡ tries_waiting xs + tries_waiting ys
waiting-append [] ys = omega arith
waiting-append (x ∷ xs) ys = omega (arith, waiting-append xs ys)

room-waiting-append : (k : ℕ) (xs ys : List Waiting) → room_waiting k (xs ++ ys) ≡ room_waiting k xs + room_waiting k ys
room-waiting-append k [] ys = omega arith
room-waiting-append k (x ∷ xs) ys = omega (arith, room-waiting-append k xs ys)

waiting-room : (k : ℕ) (ws : List Waiting) → AllByRecursion (λ w. w.failed < k) ws → tries_waiting ws ≤ room_waiting k ws
waiting-room k [] h = omega arith
waiting-room k (w ∷ ws) h = omega (arith, h.0, waiting-room k ws h.1)

waiting-left : (k : ℕ) (ws : List Waiting) → ws ≢ [] → AllByRecursion (λ w. w.failed < k) ws → tries_waiting ws + 1 ≤ room_waiting k ws
waiting-left k [] some h = absurd (some refl)
waiting-left k (w ∷ ws) some h = omega (arith, h.0, waiting-room k ws h.1)

flying-room : (k : ℕ) (fs : List Flight) → AllByRecursion (λ f. f.failed < k) fs → tries_flying fs ≤ room_flying k fs
flying-room k [] h = omega arith
flying-room k (f ∷ fs) h = omega (arith, h.0, flying-room k fs h.1)

-- no ask failed as often as it may be tried, k times; with those tries that are left so many exchanges were started at most
pub record Most (k most : ℕ) (p : Pooled) : Type 0 where
  pub is : p.retries + 1 ≡ k
  pub waiting : AllByRecursion (λ w. w.failed < k) p.waiting
  pub polled : AllByRecursion (λ f. f.failed < k) p.polled
  pub due : AllByRecursion (λ f. f.failed < k) p.due
  pub few : p.started + (room_waiting k p.waiting + (room_flying k p.polled + room_flying k p.due)) ≤ most + (tries_waiting p.waiting + (tries_flying p.polled + tries_flying p.due))

-- the same with one exchange taken out
record Out (k most : ℕ) (f : Flight) (p : Pooled) : Type 0 where
  is : p.retries + 1 ≡ k
  failed : f.failed < k
  waiting : AllByRecursion (λ w. w.failed < k) p.waiting
  polled : AllByRecursion (λ x. x.failed < k) p.polled
  due : AllByRecursion (λ x. x.failed < k) p.due
  few : p.started + (k + (room_waiting k p.waiting + (room_flying k p.polled + room_flying k p.due))) ≤ most + (f.failed + 1 + (tries_waiting p.waiting + (tries_flying p.polled + tries_flying p.due)))

module _ (k most : ℕ) where
  most_as : (p q : Pooled) → q ≡ p → Most k most p → Most k most q
  most_as p q e h = subst (Most k most) (sym e) h

  -- the ask of the exchange is lost
  lost : (f : Flight) (p q : Pooled) → q ≡ p → Out k most f p → Most k most q
  lost f p q e h = most_as p q e (record { is = h.is; waiting = h.waiting; polled = h.polled; due = h.due; few = omega (arith, h.few, h.failed) })

  -- it waits again
  waits_again : (f g : Flight) (p q : Pooled) → g.failed ≡ f.failed → f.failed < p.retries → q ≡ record p { waiting = again g ∷ p.waiting } → Out k most f p → Most k most q
  waits_again f g p q s l e h = most_as (record p { waiting = again g ∷ p.waiting }) q e (record { is = h.is; waiting = (omega (arith, h.is, l, s), h.waiting); polled = h.polled; due = h.due; few = omega (arith, h.few, s) })

  settle_most : (o : Option ℕ) (address : Address) (p q : Pooled) (a b : WireState) → Settles o address p q a b → Most k most p → Most k most q
  settle_most o address p q a b (NoLink e f g) h = most_as p q f h
  settle_most o address p q a b (Kept i e room f g) h = most_as _ q f (record { is = h.is; waiting = h.waiting; polled = h.polled; due = h.due; few = h.few })
  settle_most o address p q a b (Shut i e full f c) h = most_as p q f h

  flight_most : (result : Result Polled PoolFault) (f : Flight) (p q : Pooled) (a b : WireState) → Out k most f p → FlightTo result f p q a b → Most k most q
  flight_most (Ok polls.Pending) f p q a b h t =
      let g : Flight = record f { exchange = t.0.now } in
      most_as _ q t.1 (record {
        is = h.is;
        waiting = h.waiting;
        polled = all_append (λ (x : Flight). x.failed < k) p.polled (g ∷ []) h.polled (h.failed, tt);
        due = h.due;
        few = omega (arith, h.few, room-append k p.polled (g ∷ []), tries_append p.polled (g ∷ []));
      })
  flight_most (Ok (polls.Came ticket address answer)) f p q a b h t = settle_most (left_link t.1.now) t.1.now.address p q t.0 b t.3 (lost f p p refl h)
  flight_most (Ok polls.Failed) f p q a b h t = waits_again f (record f { exchange = t.1.now }) p q refl t.3 t.4 h
  flight_most (Err faults.Exchange) f p q a b h t = lost f p q t.2 h
  flight_most (Err (faults.Cut received)) f p q a b h t = lost f p q t.2 h
  flight_most (Err (faults.Reply fault received)) f p q a b h t = lost f p q t.1 h
  flight_most (Err faults.OutOfMemory) f p q a b h t = lost f p q t.3 h
  flight_most (Err faults.Stalled) f p q a b h t = absurd t
  flight_most (Err faults.Budget) f p q a b h t = absurd t

  begun : (p q : Pooled) (f : Flight) → Most k most p → Begins p q f → Out k most f q
  begun p q f h b =
      let w = subst (λ (l : List Waiting). AllByRecursion (λ x. x.failed < k) l) b.is_first h.waiting in
      let n : p.started + (k + room_waiting k b.rest + (room_flying k p.polled + room_flying k p.due)) ≤ most + (b.first.failed + tries_waiting b.rest + (tries_flying p.polled + tries_flying p.due)) =
      subst (λ (l : List Waiting). p.started + (room_waiting k l + (room_flying k p.polled + room_flying k p.due)) ≤ most + (tries_waiting l + (tries_flying p.polled + tries_flying p.due))) b.is_first h.few in
      subst (λ (x : Pooled). Out k most f x) (sym b.is_new) (subst (λ (x : Flight). Out k most x (record p { waiting = b.rest; spare = b.spare; started = p.started + 1 })) (sym b.flight)
      (record { is = h.is; failed = w.0; waiting = w.1; polled = h.polled; due = h.due; few = omega (arith, n) }))

  starts_most : (result : Result Polled PoolFault) (p q : Pooled) (a b : WireState) → Most k most p → Starts result p q a b → Most k most q
  starts_most result p q a b h (Overruns e budget f g) = most_as p q f h
  starts_most result p q a b h (Flies mid f budget begins to) = flight_most result f mid q a b (begun p mid f h begins) to
  starts_most result p q a b h (Starves e mid f begins is shuts) =
      let o = begun p mid f h begins in
      let s = ap (λ (x : Pooled). x.started) begins.is_new in
      most_as (record mid { started = p.started }) q is (record { is = o.is; waiting = o.waiting; polled = o.polled; due = o.due; few = omega (arith, o.few, o.failed, s) })

  next_most : (result : Result Polled PoolFault) (p q : Pooled) (a b : WireState) → Most k most p → PollsNext result p q a b → Most k most q
  next_most result p q a b h n =
      let d = subst (λ (l : List Flight). AllByRecursion (λ x. x.failed < k) l) n.is_next h.due in
      let c : p.started + (room_waiting k p.waiting + (room_flying k p.polled + (k + room_flying k n.rest))) ≤ most + (tries_waiting p.waiting + (tries_flying p.polled + (n.f.failed + 1 + tries_flying n.rest))) =
      subst (λ (l : List Flight). p.started + (room_waiting k p.waiting + (room_flying k p.polled + room_flying k l)) ≤ most + (tries_waiting p.waiting + (tries_flying p.polled + tries_flying l))) n.is_next h.few in
      flight_most result n.f (record p { due = n.rest }) q a b (record { is = h.is; failed = d.0; waiting = h.waiting; polled = h.polled; due = d.1; few = omega (arith, c) }) n.to

  fails_most : {T : Type 0} (fault : PoolFault) (result : Result T PoolFault) (f : Flight) (p q : Pooled) → FailsTo fault result f p q → Out k most f p → Most k most q
  fails_most fault (Ok done) f p q t h = waits_again f f p q refl t.0 t.1 h
  fails_most fault (Err shown) f p q t h = lost f p q t.0 h

  gives_up_most : (fault : PoolFault) (result : Result Stepped PoolFault) (p q : Pooled) (a b : WireState) → Most k most p → GivesUp fault result p q a b → Most k most q
  gives_up_most fault result p q a b h u =
      let all = subst (λ (l : List Flight). AllByRecursion (λ x. x.failed < k) l) u.is_oldest (all_append (λ (x : Flight). x.failed < k) p.polled p.due h.polled h.due) in
      let r : room_flying k p.polled + room_flying k p.due ≡ k + room_flying k u.rest = sym (room-append k p.polled p.due) ∙ ap (room_flying k) u.is_oldest in
      let t : tries_flying p.polled + tries_flying p.due ≡ u.f.failed + 1 + tries_flying u.rest = sym (tries_append p.polled p.due) ∙ ap tries_flying u.is_oldest in
      fails_most fault result u.f (record p { polled = u.rest; due = [] }) q u.to (record { is = h.is; failed = all.0; waiting = h.waiting; polled = all.1; due = tt; few = omega (arith, h.few, r, t) })

  pub most_is_kept : IsKept (λ p a. Most k most p)
  most_is_kept = record {
    starts = λ result p q a b g s h t. starts_most result p q a b h t;
    polls = λ result p q a b g s h n. next_most result p q a b h n;
    rounds = λ p a h. record {
      is = h.is;
      waiting = h.waiting;
      polled = tt;
      due = all_append (λ (x : Flight). x.failed < k) p.polled p.due h.polled h.due;
      few = omega (arith, h.few, room-append k p.polled p.due, tries_append p.polled p.due);
    };
    gathers = λ p a h. record {
      is = h.is;
      waiting = h.waiting;
      polled = all_append (λ (x : Flight). x.failed < k) p.polled p.due h.polled h.due;
      due = tt;
      few = omega (arith, h.few, room-append k p.polled p.due, tries_append p.polled p.due);
    };
    waits = λ answer p a b s h w. h;
    gives_up = λ fault result p q a b s h u. gives_up_most fault result p q a b h u;
  }

  pub most_started : (p : Pooled) → Most k most p → p.started ≤ most
  most_started p h = omega (arith, h.few, waiting-room k p.waiting h.waiting, flying-room k p.polled h.polled, flying-room k p.due h.due)

  -- where an ask waits, one more may be
  pub most_waits : (p : Pooled) → p.waiting ≢ [] → Most k most p → p.started < most
  most_waits p some h = omega (arith, h.few, waiting-left k p.waiting some h.waiting, flying-room k p.polled h.polled, flying-room k p.due h.due)

  -- an ask more, and its tries
  pub most_put : (ticket : ℕ) (address : Address) (p : Pooled) → 1 ≤ k → Most k most p → Most k (most + k) (record p { waiting = p.waiting ++ (record { ticket = ticket; address = address; failed = 0 }) ∷ [] })
  most_put ticket address p low h =
      let w : Waiting = record { ticket = ticket; address = address; failed = 0 } in
      record {
        is = h.is;
        waiting = all_append (λ (x : Waiting). x.failed < k) p.waiting (w ∷ []) h.waiting (omega (arith, low), tt);
        polled = h.polled;
        due = h.due;
        few = omega (arith, h.few, room-waiting-append k p.waiting (w ∷ []), waiting-append p.waiting (w ∷ []));
      }
