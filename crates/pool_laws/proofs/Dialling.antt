-- No link is dialled, and none is given, but for an exchange that is started; and no more are started than the budget allows.
use Rattle.std.proofs.Common.{ℕ, ◌≡◌, ◌≢◌, ◌+◌, ◌≤◌, ◌⊎◌, inl, inr, List, [], ◌∷◌, ◌++◌, Option, Some, None, Result, Ok, Err, refl, sym, ◌∙◌, ap, subst, arith}
use Rattle.std.specs.List.{AllByRecursion}
use Rattle.tpf_base.specs.Addresses.{Address}
use Rattle.tpf_base.specs.Links.{WireState}
use Rattle.tpf_base.specs.Calls.{Closes}
use Rattle.tpf_base.specs.declared.fault.Fault.{Fault}
use Rattle.tpf_base.specs.declared.wire.Ready.{Ready}
use Rattle.exchange.specs.Exchanges.{Exchanging, left_link}
use Rattle.exchange.specs.Polls.{Touches, LinkAfter}
use Rattle.request_pool.specs.declared.asks.Flight.{Flight}
use Rattle.request_pool.specs.declared.fault.Polled.{Polled}
use Rattle.request_pool.specs.declared.fault.Polled.TheVariants as polls
use Rattle.request_pool.specs.declared.fault.PoolFault.{PoolFault}
use Rattle.request_pool.specs.declared.fault.PoolFault.TheVariants as faults
use Rattle.request_pool.specs.declared.fault.Stepped.{Stepped}
use Rattle.request_pool.specs.Pools.{Pooled, in_flight}
use Rattle.request_pool.specs.Polls.{Shuts, Settles, NoLink, Kept, Shut, FailsTo, FlightTo}
use Rattle.request_pool.specs.Runs.{Starts, Overruns, Flies, Starves, PollsNext}
use Rattle.request_pool.specs.Steps.{IsWait, GivesUp}
use Rattle.request_pool.proofs.Bounds.{flight_bounds}
use Rattle.list_laws.proofs.Each.{all_append}
use Rattle.pool_laws.specs.Counting.{FewDials, EmptyPoolsDial, PutsDial, FaultsDial, StepsDial, ClosingDials}
use Rattle.pool_laws.proofs.KeptBySteps.{IsKept, by_step}
use Rattle.pool_laws.proofs.Trying.{flight_tries}

-- a poll of an exchange without a link dials once
abbrev pub dial_for : Option ℕ → ℕ
dial_for None = 1
dial_for (Some k) = 0

-- a count of a wire that rises with dials alone
pub record IsCount (count : WireState → ℕ) : Type 0 where
  pub polls : (address : Address) (o p : Option ℕ) (a b : WireState) → LinkAfter address o p a b → count b ≤ count a + dial_for o
  pub closes : (k : ℕ) (a b : WireState) → Closes k a b → count b ≡ count a
  pub waits : (answer : Result Ready Fault) (a b : WireState) → IsWait answer a b → count b ≡ count a

link_dials : (address : Address) (o p : Option ℕ) (a b : WireState) → LinkAfter address o p a b → b.dials ≤ a.dials + dial_for o
link_dials address (Some j) (Some i) a b l = omega (arith, l.2)
link_dials address (Some j) None a b l = absurd l
link_dials address None None a b l = omega (arith, l.1)
link_dials address None (Some i) a b l = omega (arith, l.2)

link_given : (address : Address) (o p : Option ℕ) (a b : WireState) → LinkAfter address o p a b → b.given ≤ a.given + dial_for o
link_given address (Some j) (Some i) a b l = omega (arith, l.1)
link_given address (Some j) None a b l = absurd l
link_given address None None a b l = omega (arith, l.0)
link_given address None (Some i) a b l = omega (arith, l.1)

dials_count : IsCount (λ w. w.dials)
dials_count = record { polls = link_dials; closes = λ k a b c. c.only.dials; waits = λ answer a b w. w.only.dials }

given_count : IsCount (λ w. w.given)
given_count = record { polls = link_given; closes = λ k a b c. c.only.given; waits = λ answer a b w. w.only.given }

some_link : (o : Option ℕ) (k : ℕ) → o ≡ Some k → o ≢ None
some_link o k e = λ n. absurd (let q : Some k ≡ None = sym e ∙ n in cc)

pub at_most_one : (o : Option ℕ) → dial_for o ≤ 1
at_most_one None = omega arith
at_most_one (Some k) = omega arith

none_for : (o : Option ℕ) → o ≢ None → dial_for o ≡ 0
none_for None n = absurd (n refl)
none_for (Some k) n = refl

same_list : (p q : List Flight) → q ≡ p → AllByRecursion (λ f. f.exchange.link ≢ None) p → AllByRecursion (λ f. f.exchange.link ≢ None) q
same_list p q e h = subst (λ (l : List Flight). AllByRecursion (λ f. f.exchange.link ≢ None) l) (sym e) h

-- each exchange in flight has a link, and the count rose, from so many, at most once for each exchange that was started
record Counted (count : WireState → ℕ) (before : ℕ) (p : Pooled) (a : WireState) : Type 0 where
  polled : AllByRecursion (λ f. f.exchange.link ≢ None) p.polled
  due : AllByRecursion (λ f. f.exchange.link ≢ None) p.due
  few : count a ≤ before + p.started

module _ (count : WireState → ℕ) (is : IsCount count) (before : ℕ) where
  abbrev C : Pooled → WireState → Type 0
  C p a = Counted count before p a

  counted_as : (p q : Pooled) (a : WireState) → q ≡ p → C p a → C q a
  counted_as p q a e h = subst (λ (x : Pooled). C x a) (sym e) h

  -- the links in flight are as they were, and the count will be at most this
  record Flying (p : Pooled) (most : ℕ) : Type 0 where
    polled : AllByRecursion (λ f. f.exchange.link ≢ None) p.polled
    due : AllByRecursion (λ f. f.exchange.link ≢ None) p.due
    room : most ≤ before + p.started

  flies_on : (p : Pooled) (most : ℕ) (b : WireState) → count b ≤ most → Flying p most → C p b
  flies_on p most b few h = record { polled = h.polled; due = h.due; few = omega (arith, few, h.room) }

  poll_counts : (e f : Exchanging) (a b : WireState) → Touches e f a b → count b ≤ count a + dial_for e.link
  poll_counts e f a b t = is.polls e.address e.link f.link a b t.link

  shut_counts : (o : Option ℕ) (a b : WireState) → Shuts o a b → count b ≡ count a
  shut_counts None a b s = ap count s
  shut_counts (Some i) a b c = is.closes i a b c

  shut_or : (o : Option ℕ) (a b : WireState) → (b ≡ a) ⊎ Shuts o a b → count b ≡ count a
  shut_or o a b (inl e) = ap count e
  shut_or o a b (inr s) = shut_counts o a b s

  settle_counts : (o : Option ℕ) (address : Address) (p q : Pooled) (a b : WireState) → Settles o address p q a b → C p a → C q b
  settle_counts o address p q a b (NoLink e f g) h = counted_as p q b f (subst (λ (w : WireState). C p w) (sym g) h)
  settle_counts o address p q a b (Kept i e room f g) h = counted_as _ q b f (record { polled = h.polled; due = h.due; few = omega (arith, h.few, ap count g) })
  settle_counts o address p q a b (Shut i e full f c) h = counted_as p q b f (record { polled = h.polled; due = h.due; few = omega (arith, h.few, is.closes i a b c) })

  flight_counts : (result : Result Polled PoolFault) (f : Flight) (p q : Pooled) (a b : WireState) → Flying p (count a + dial_for f.exchange.link) → FlightTo result f p q a b → C q b
  flight_counts (Ok polls.Pending) f p q a b h t =
      counted_as _ q b t.1 (record {
        polled = all_append (λ (x : Flight). x.exchange.link ≢ None) p.polled ((record f { exchange = t.0.now }) ∷ []) h.polled (some_link t.0.now.link t.0.answers.k t.0.answers.link, tt);
        due = h.due;
        few = omega (arith, h.room, poll_counts f.exchange t.0.now a b t.0.touches);
      })
  flight_counts (Ok (polls.Came ticket address answer)) f p q a b h t = settle_counts (left_link t.1.now) t.1.now.address p q t.0 b t.3 (flies_on p (count a + dial_for f.exchange.link) t.0 (poll_counts f.exchange t.1.now a t.0 t.1.touches) h)
  flight_counts (Ok polls.Failed) f p q a b h t = counted_as _ q b t.4 (record { polled = h.polled; due = h.due; few = omega (arith, h.room, poll_counts f.exchange t.1.now a b t.1.touches) })
  flight_counts (Err faults.Exchange) f p q a b h t = counted_as p q b t.2 (flies_on p (count a + dial_for f.exchange.link) b (poll_counts f.exchange t.0.now a b t.0.touches) h)
  flight_counts (Err (faults.Cut received)) f p q a b h t = counted_as p q b t.2 (flies_on p (count a + dial_for f.exchange.link) b (poll_counts f.exchange t.0.now a b t.0.touches) h)
  flight_counts (Err (faults.Reply fault received)) f p q a b h t = counted_as p q b t.1 (flies_on p (count a + dial_for f.exchange.link) b (poll_counts f.exchange t.0.now a b t.0.touches) h)
  flight_counts (Err faults.OutOfMemory) f p q a b h t =
      counted_as p q b t.3 (flies_on p (count a + dial_for f.exchange.link) b (omega (arith, poll_counts f.exchange t.2.now a t.1 t.2.touches, shut_or t.2.now.link t.1 b t.4.1)) h)
  flight_counts (Err faults.Stalled) f p q a b h t = absurd t
  flight_counts (Err faults.Budget) f p q a b h t = absurd t

  starts_count : (result : Result Polled PoolFault) (p q : Pooled) (a b : WireState) → C p a → Starts result p q a b → C q b
  starts_count result p q a b h (Overruns e budget f g) = counted_as p q b f (subst (λ (w : WireState). C p w) (sym g) h)
  starts_count result p q a b h (Flies mid f budget begins to) =
      flight_counts result f mid q a b (record {
        polled = same_list p.polled mid.polled (ap (λ (x : Pooled). x.polled) begins.is_new) h.polled;
        due = same_list p.due mid.due (ap (λ (x : Pooled). x.due) begins.is_new) h.due;
        room = omega (arith, h.few, at_most_one f.exchange.link, ap (λ (x : Pooled). x.started) begins.is_new);
      }) to
  starts_count result p q a b h (Starves e mid f begins shown shuts) =
      counted_as _ q b shown (record {
        polled = same_list p.polled mid.polled (ap (λ (x : Pooled). x.polled) begins.is_new) h.polled;
        due = same_list p.due mid.due (ap (λ (x : Pooled). x.due) begins.is_new) h.due;
        few = omega (arith, h.few, shut_counts f.exchange.link a b shuts);
      })

  next_counts : (result : Result Polled PoolFault) (p q : Pooled) (a b : WireState) → C p a → PollsNext result p q a b → C q b
  next_counts result p q a b h n =
      let d = subst (λ (l : List Flight). AllByRecursion (λ f. f.exchange.link ≢ None) l) n.is_next h.due in
      flight_counts result n.f (record p { due = n.rest }) q a b (record { polled = h.polled; due = d.1; room = omega (arith, h.few, none_for n.f.exchange.link d.0) }) n.to

  fails_count : {T : Type 0} (fault : PoolFault) (result : Result T PoolFault) (f : Flight) (p q : Pooled) (a : WireState) → FailsTo fault result f p q → C p a → C q a
  fails_count fault (Ok done) f p q a t h = counted_as _ q a t.1 (record { polled = h.polled; due = h.due; few = h.few })
  fails_count fault (Err shown) f p q a t h = counted_as p q a t.0 h

  gives_up_counts : (fault : PoolFault) (result : Result Stepped PoolFault) (p q : Pooled) (a b : WireState) → C p a → GivesUp fault result p q a b → C q b
  gives_up_counts fault result p q a b h u =
      let all = subst (λ (l : List Flight). AllByRecursion (λ f. f.exchange.link ≢ None) l) u.is_oldest (all_append (λ (f : Flight). f.exchange.link ≢ None) p.polled p.due h.polled h.due) in
      fails_count fault result u.f (record p { polled = u.rest; due = [] }) q b u.to (record { polled = all.1; due = tt; few = omega (arith, h.few, shut_counts u.f.exchange.link a b u.shuts) })

  count_is_kept : IsKept (Counted count before)
  count_is_kept = record {
    starts = λ result p q a b g s h t. starts_count result p q a b h t;
    polls = λ result p q a b g s h n. next_counts result p q a b h n;
    rounds = λ p a h. record { polled = tt; due = all_append (λ (f : Flight). f.exchange.link ≢ None) p.polled p.due h.polled h.due; few = h.few };
    gathers = λ p a h. record { polled = all_append (λ (f : Flight). f.exchange.link ≢ None) p.polled p.due h.polled h.due; due = tt; few = h.few };
    waits = λ answer p a b s h w. record { polled = h.polled; due = h.due; few = omega (arith, h.few, is.waits answer a b w) };
    gives_up = λ fault result p q a b s h u. gives_up_counts fault result p q a b h u;
  }

-- ---- the budget

within_as : (p q : Pooled) → q.started ≡ p.started → q.budget ≡ p.budget → p.started ≤ p.budget → q.started ≤ q.budget
within_as p q e f h = omega (arith, e, f, h)

same_within : (p q : Pooled) → q ≡ p → p.started ≤ p.budget → q.started ≤ q.budget
same_within p q e h = within_as p q (ap (λ (x : Pooled). x.started) e) (ap (λ (x : Pooled). x.budget) e) h

flight_within : (result : Result Polled PoolFault) (f : Flight) (p q : Pooled) (a b : WireState) → p.started ≤ p.budget → FlightTo result f p q a b → q.started ≤ q.budget
flight_within result f p q a b h t = within_as p q (flight_tries result f p q a b t).started (ap (λ (x : Pooled). x.budget) (flight_bounds result f p q a b t)) h

starts_within : (result : Result Polled PoolFault) (p q : Pooled) (a b : WireState) → p.started ≤ p.budget → Starts result p q a b → q.started ≤ q.budget
starts_within result p q a b h (Overruns e budget f g) = same_within p q f h
starts_within result p q a b h (Flies mid f budget begins to) =
    flight_within result f mid q a b (omega (arith, budget, ap (λ (x : Pooled). x.started) begins.is_new, ap (λ (x : Pooled). x.budget) begins.is_new)) to
starts_within result p q a b h (Starves e mid f begins is shuts) = omega (arith, h, ap (λ (x : Pooled). x.started) is, ap (λ (x : Pooled). x.budget) is, ap (λ (x : Pooled). x.budget) begins.is_new)

fails_within : {T : Type 0} (fault : PoolFault) (result : Result T PoolFault) (f : Flight) (p q : Pooled) → FailsTo fault result f p q → p.started ≤ p.budget → q.started ≤ q.budget
fails_within fault (Ok done) f p q t h = within_as p q (ap (λ (x : Pooled). x.started) t.1) (ap (λ (x : Pooled). x.budget) t.1) h
fails_within fault (Err shown) f p q t h = same_within p q t.0 h

-- ---- the links that were given

-- Each exchange in flight has a link; since a moment with so many links at most as many were given as exchanges were started; and no more were started than the budget allows.
pub record Linked (before : ℕ) (p : Pooled) (v : WireState) : Type 0 where
  pub polled : AllByRecursion (λ f. f.exchange.link ≢ None) p.polled
  pub due : AllByRecursion (λ f. f.exchange.link ≢ None) p.due
  pub few : v.given ≤ before + p.started
  pub within : p.started ≤ p.budget

counts_of : (before : ℕ) (p : Pooled) (v : WireState) → Linked before p v → Counted (λ w. w.given) before p v
counts_of before p v h = record { polled = h.polled; due = h.due; few = h.few }

linked_of : (before : ℕ) (p : Pooled) (v : WireState) → Counted (λ w. w.given) before p v → p.started ≤ p.budget → Linked before p v
linked_of before p v h within = record { polled = h.polled; due = h.due; few = h.few; within = within }

pub linked_is_kept : (before : ℕ) → IsKept (Linked before)
linked_is_kept before =
    let kept = count_is_kept (λ w. w.given) given_count before in
    record {
      starts = λ result p q a b g s h t. linked_of before q b (kept.starts result p q a b g s (counts_of before p a h) t) (starts_within result p q a b h.within t);
      polls = λ result p q a b g s h n. linked_of before q b (kept.polls result p q a b g s (counts_of before p a h) n) (flight_within result n.f (record p { due = n.rest }) q a b h.within n.to);
      rounds = λ p a h. linked_of before (record p { polled = []; due = p.polled ++ p.due }) a (kept.rounds p a (counts_of before p a h)) h.within;
      gathers = λ p a h. linked_of before (record p { polled = in_flight p; due = [] }) a (kept.gathers p a (counts_of before p a h)) h.within;
      waits = λ answer p a b s h w. linked_of before p b (kept.waits answer p a b s (counts_of before p a h) w) h.within;
      gives_up = λ fault result p q a b s h u. linked_of before q b (kept.gives_up fault result p q a b s (counts_of before p a h) u) (fails_within fault result u.f (record p { polled = u.rest; due = [] }) q u.to h.within);
    }

-- ---- the laws

pub empty_dials : EmptyPoolsDial
empty_dials links retries budget limit wire = record { polled = tt; due = tt; dials = omega arith }

pub put_dials : PutsDial
put_dials before ticket address pool wire h = record { polled = h.polled; due = h.due; dials = h.dials }

pub fault_dials : FaultsDial
fault_dials before pool wire h = record { polled = h.polled; due = h.due; dials = h.dials }

pub step_dials : StepsDial
step_dials before result old new wire wire' given suits h to =
    let c = by_step (Counted (λ w. w.dials) before) (count_is_kept (λ w. w.dials) dials_count before) result old new wire wire' given suits (record { polled = h.polled; due = h.due; few = h.dials }) to in
    record { polled = c.polled; due = c.due; dials = c.few }

pub closing_dials : ClosingDials
closing_dials before old new wire wire' h e c =
    subst (λ (x : Pooled). FewDials before x wire') (sym e) (record { polled = tt; due = tt; dials = omega (arith, h.dials, c.dials) })
