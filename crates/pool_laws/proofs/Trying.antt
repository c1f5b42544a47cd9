-- An exchange is started for each try of an ask.
use Rattle.std.proofs.Common.{ℕ, ◌≡◌, ◌+◌, ◌<◌, ◌≤◌, ◌++◌, List, [], ◌∷◌, Option, Bool, true, false, Result, Ok, Err, refl, sym, ◌∙◌, ap, subst, arith, if◌then◌else◌, append-nil}
use Rattle.std.specs.List.{AllByRecursion}
use Rattle.tpf_base.specs.Addresses.{Address}
use Rattle.tpf_base.specs.Links.{WireState, OpensGiven}
use Rattle.http_wire.specs.declared.message.Reply.{Reply}
use Rattle.exchange.specs.Exchanges.{left_link}
use Rattle.request_pool.specs.declared.asks.Waiting.{Waiting}
use Rattle.request_pool.specs.declared.asks.Flight.{Flight}
use Rattle.request_pool.specs.declared.fault.Polled.{Polled}
use Rattle.request_pool.specs.declared.fault.Polled.TheVariants as polls
use Rattle.request_pool.specs.declared.fault.PoolFault.{PoolFault}
use Rattle.request_pool.specs.declared.fault.PoolFault.TheVariants as faults
use Rattle.request_pool.specs.declared.fault.Stepped.{Stepped}
use Rattle.request_pool.specs.declared.fault.Stepped.TheVariants.{Came, Waited, Idle}
use Rattle.request_pool.specs.Pools.{Pooled, in_flight}
use Rattle.request_pool.specs.Owned.{SuitsWire}
use Rattle.request_pool.specs.Polls.{Settles, NoLink, Kept, Shut, FailsTo, FlightTo}
use Rattle.request_pool.specs.Runs.{Begins, Starts, Overruns, Flies, Starves, PollsNext, Turn, Start, Next, Round, Moment, Runs, Running, Last, OfStart, OfPoll, is_end}
use Rattle.request_pool.specs.Steps.{GivesUp, WaitsTo, Passes, Stalls, Misses, Lacks, Lines, EndsInRun, EndsInFault, AtOnce, InRun, InWait}
use Rattle.request_pool.proofs.Steps.{in_line, suits_lined}
use Rattle.list_laws.proofs.Each.{all_append, all_front, all_back}
use Rattle.request_pool.proofs.Holding.{end_of}
use Rattle.pool_laws.specs.Counting.{tries_waiting, tries_flying, tries, FewFailed, StartsAreTries, StepsCountTries, EmptyPoolsFewFailed, PutsFewFailed, StepsFewFailed}
use Rattle.pool_laws.proofs.KeptBySteps.{IsKept, by_running, by_step}

pub tries_append : (xs ys : List Flight) → tries_flying (xs ++ ys) ≡ tries_flying xs + tries_flying ys
tries_append [] ys = omega arith
tries_append (x ∷ xs) ys = omega (arith, tries_append xs ys)

-- ---- no ask failed too often

pub record Few (r : ℕ) (p : Pooled) : Type 0 where
  pub is : p.retries ≡ r
  pub waiting : AllByRecursion (λ w. w.failed ≤ r) p.waiting
  pub polled : AllByRecursion (λ f. f.failed ≤ r) p.polled
  pub due : AllByRecursion (λ f. f.failed ≤ r) p.due

module _ (r : ℕ) where
  few_as : (p q : Pooled) → q ≡ p → Few r p → Few r q
  few_as p q e h = subst (Few r) (sym e) h

  settle_few : (o : Option ℕ) (address : Address) (p q : Pooled) (a b : WireState) → Settles o address p q a b → Few r p → Few r q
  settle_few o address p q a b (NoLink e f g) h = few_as p q f h
  settle_few o address p q a b (Kept i e room f g) h = few_as _ q f (record { is = h.is; waiting = h.waiting; polled = h.polled; due = h.due })
  settle_few o address p q a b (Shut i e full f c) h = few_as p q f h

  once_more : (n m : ℕ) → m ≡ r → n < m → n + 1 ≤ r
  once_more n m e h = omega (arith, e, h)

  pub flight_few : (result : Result Polled PoolFault) (f : Flight) (p q : Pooled) (a b : WireState) → f.failed ≤ r → Few r p → FlightTo result f p q a b → Few r q
  flight_few (Ok polls.Pending) f p q a b n h t =
      few_as _ q t.1 (record { is = h.is; waiting = h.waiting; polled = all_append (λ (x : Flight). x.failed ≤ r) p.polled ((record f { exchange = t.0.now }) ∷ []) h.polled (n, tt); due = h.due })
  flight_few (Ok (polls.Came ticket address answer)) f p q a b n h t = settle_few (left_link t.1.now) t.1.now.address p q t.0 b t.3 h
  flight_few (Ok polls.Failed) f p q a b n h t = few_as _ q t.4 (record { is = h.is; waiting = (once_more f.failed p.retries h.is t.3, h.waiting); polled = h.polled; due = h.due })
  flight_few (Err faults.Exchange) f p q a b n h t = few_as p q t.2 h
  flight_few (Err (faults.Cut received)) f p q a b n h t = few_as p q t.2 h
  flight_few (Err (faults.Reply fault received)) f p q a b n h t = few_as p q t.1 h
  flight_few (Err faults.OutOfMemory) f p q a b n h t = few_as p q t.3 h
  flight_few (Err faults.Stalled) f p q a b n h t = absurd t
  flight_few (Err faults.Budget) f p q a b n h t = absurd t

  pub record Begun (q : Pooled) (f : Flight) : Type 0 where
    pub failed : f.failed ≤ r
    pub rest : Few r q

  pub begun : (p q : Pooled) (f : Flight) → Few r p → Begins p q f → Begun q f
  begun p q f h b =
      let w = subst (λ (l : List Waiting). AllByRecursion (λ x. x.failed ≤ r) l) b.is_first h.waiting in
      subst (λ (x : Pooled). Begun x f) (sym b.is_new) (subst (λ (x : Flight). Begun (record p { waiting = b.rest; spare = b.spare; started = p.started + 1 }) x) (sym b.flight)
      (record { failed = w.0; rest = record { is = h.is; waiting = w.1; polled = h.polled; due = h.due } }))

  starts_few : (result : Result Polled PoolFault) (p q : Pooled) (a b : WireState) → Few r p → Starts result p q a b → Few r q
  starts_few result p q a b h (Overruns e budget f g) = few_as p q f h
  starts_few result p q a b h (Flies mid f budget begins to) = let s = begun p mid f h begins in flight_few result f mid q a b s.failed s.rest to
  starts_few result p q a b h (Starves e mid f begins is shuts) = let s = (begun p mid f h begins).rest in few_as _ q is (record { is = s.is; waiting = s.waiting; polled = s.polled; due = s.due })

  next_few : (result : Result Polled PoolFault) (p q : Pooled) (a b : WireState) → Few r p → PollsNext result p q a b → Few r q
  next_few result p q a b h n =
      let d = subst (λ (l : List Flight). AllByRecursion (λ x. x.failed ≤ r) l) n.is_next h.due in
      flight_few result n.f (record p { due = n.rest }) q a b d.0 (record { is = h.is; waiting = h.waiting; polled = h.polled; due = d.1 }) n.to

  fails_few : {T : Type 0} (fault : PoolFault) (result : Result T PoolFault) (f : Flight) (p q : Pooled) → FailsTo fault result f p q → Few r p → Few r q
  fails_few fault (Ok done) f p q t h = few_as _ q t.1 (record { is = h.is; waiting = (once_more f.failed p.retries h.is t.0, h.waiting); polled = h.polled; due = h.due })
  fails_few fault (Err shown) f p q t h = few_as p q t.0 h

  gives_up_few : (fault : PoolFault) (result : Result Stepped PoolFault) (p q : Pooled) (a b : WireState) → Few r p → GivesUp fault result p q a b → Few r q
  gives_up_few fault result p q a b h u =
      let all = subst (λ (l : List Flight). AllByRecursion (λ x. x.failed ≤ r) l) u.is_oldest (all_append (λ (x : Flight). x.failed ≤ r) p.polled p.due h.polled h.due) in
      fails_few fault result u.f (record p { polled = u.rest; due = [] }) q u.to (record { is = h.is; waiting = h.waiting; polled = all.1; due = tt })

  pub few_is_kept : IsKept (λ p a. Few r p)
  few_is_kept = record {
    starts = λ result p q a b g s h t. starts_few result p q a b h t;
    polls = λ result p q a b g s h n. next_few result p q a b h n;
    rounds = λ p a h. record { is = h.is; waiting = h.waiting; polled = tt; due = all_append (λ (x : Flight). x.failed ≤ r) p.polled p.due h.polled h.due };
    gathers = λ p a h. record { is = h.is; waiting = h.waiting; polled = all_append (λ (x : Flight). x.failed ≤ r) p.polled p.due h.polled h.due; due = tt };
    waits = λ answer p a b s h w. h;
    gives_up = λ fault result p q a b s h u. gives_up_few fault result p q a b h u;
  }

pub few_in : (p : Pooled) → FewFailed p → Few p.retries p
few_in p h = record {
  is = refl;
  waiting = h.waiting;
  polled = all_front (λ (f : Flight). f.failed ≤ p.retries) p.polled p.due h.flying;
  due = all_back (λ (f : Flight). f.failed ≤ p.retries) p.polled p.due h.flying;
}

pub few_own : (p : Pooled) → Few p.retries p → FewFailed p
few_own p h = record { waiting = h.waiting; flying = all_append (λ (f : Flight). f.failed ≤ p.retries) p.polled p.due h.polled h.due }

few_out : (r : ℕ) (p : Pooled) → Few r p → FewFailed p
few_out r p h = few_own p (subst (λ (n : ℕ). Few n p) (sym h.is) h)

pub empty_few : EmptyPoolsFewFailed
empty_few links retries budget limit = record { waiting = tt; flying = tt }

pub put_few : PutsFewFailed
put_few ticket address pool h = record {
  waiting = all_append (λ (w : Waiting). w.failed ≤ pool.retries) pool.waiting ((record { ticket = ticket; address = address; failed = 0 }) ∷ []) h.waiting (omega arith, tt);
  flying = h.flying;
}

pub step_few : StepsFewFailed
step_few result old new wire wire' given suits h to = few_out old.retries new (by_step (λ p a. Few old.retries p) (few_is_kept old.retries) result old new wire wire' given suits (few_in old h) to)

-- ---- a start for each try

-- what a poll of an exchange that was taken out leaves: it is one of those that are held again, unless its ask is held no longer
pub record FlightTries (result : Result Polled PoolFault) (f : Flight) (p q : Pooled) : Type 0 where
  pub started : q.started ≡ p.started
  pub count : tries q ≡ tries p + (if is_end result then 0 else f.failed + 1)

same_tries : (result : Result Polled PoolFault) (f : Flight) (p q : Pooled) → is_end result ≡ true → q ≡ p → FlightTries result f p q
same_tries result f p q end e = subst (λ (x : Pooled). FlightTries result f p x) (sym e) (record { started = refl; count = added (is_end result) (tries p) end })
  where
    added : (v : Bool) (n : ℕ) → v ≡ true → n ≡ n + (if v then 0 else f.failed + 1)
    added true n e = omega arith
    added false n e = cc

settle_tries : (o : Option ℕ) (address : Address) (p q : Pooled) (a b : WireState) → Settles o address p q a b → (q.started ≡ p.started) × (tries q ≡ tries p)
settle_tries o address p q a b (NoLink e f g) = (ap (λ (x : Pooled). x.started) f, ap tries f)
settle_tries o address p q a b (Kept i e room f g) = (ap (λ (x : Pooled). x.started) f, ap tries f)
settle_tries o address p q a b (Shut i e full f c) = (ap (λ (x : Pooled). x.started) f, ap tries f)

pub flight_tries : (result : Result Polled PoolFault) (f : Flight) (p q : Pooled) (a b : WireState) → FlightTo result f p q a b → FlightTries result f p q
flight_tries (Ok polls.Pending) f p q a b t =
    let g : Flight = record f { exchange = t.0.now } in
    record { started = ap (λ (x : Pooled). x.started) t.1; count = ap tries t.1 ∙ omega (arith, tries_append (p.polled ++ g ∷ []) p.due, tries_append p.polled (g ∷ []), tries_append p.polled p.due) }
flight_tries (Ok (polls.Came ticket address answer)) f p q a b t =
    let s = settle_tries (left_link t.1.now) t.1.now.address p q t.0 b t.3 in
    record { started = s.0; count = omega (arith, s.1) }
flight_tries (Ok polls.Failed) f p q a b t = record { started = ap (λ (x : Pooled). x.started) t.4; count = ap tries t.4 ∙ omega arith }
flight_tries (Err faults.Exchange) f p q a b t = same_tries _ f p q refl t.2
flight_tries (Err (faults.Cut received)) f p q a b t = same_tries _ f p q refl t.2
flight_tries (Err (faults.Reply fault received)) f p q a b t = same_tries _ f p q refl t.1
flight_tries (Err faults.OutOfMemory) f p q a b t = same_tries _ f p q refl t.3
flight_tries (Err faults.Stalled) f p q a b t = absurd t
flight_tries (Err faults.Budget) f p q a b t = absurd t

-- the tries that are over with an end
record TriesTo (result : Result Polled PoolFault) (p q : Pooled) : Type 0 where
  over : ℕ
  balance : StartsAreTries over p q
  none : is_end result ≡ false → over ≡ 0
  some : (ticket : ℕ) (address : Address) (answer : Reply) → result ≡ Ok (polls.Came ticket address answer) → 1 ≤ over
  few : (r : ℕ) → Few r p → over ≤ r + 1

start_balance : (v : Bool) (n w ps ms qs tp tm tq : ℕ) → n ≡ w → tp ≡ w + tm → ms ≡ ps + 1 → qs ≡ ms → tq ≡ tm + (if v then 0 else n + 1) → qs + tp ≡ ps + tq + (if v then n + 1 else 0)
start_balance true n w ps ms qs tp tm tq a b c d e = omega (arith, a, b, c, d, e)
start_balance false n w ps ms qs tp tm tq a b c d e = omega (arith, a, b, c, d, e)

next_balance : (v : Bool) (n ps qs tp tm tq : ℕ) → tp ≡ n + 1 + tm → qs ≡ ps → tq ≡ tm + (if v then 0 else n + 1) → qs + tp ≡ ps + tq + (if v then n + 1 else 0)
next_balance true n ps qs tp tm tq a b c = omega (arith, a, b, c)
next_balance false n ps qs tp tm tq a b c = omega (arith, a, b, c)

none_over : (v : Bool) (n : ℕ) → v ≡ false → ◌≡◌ {A = ℕ} (if v then n + 1 else 0) 0
none_over false n e = refl
none_over true n e = cc

some_over : (v : Bool) (n : ℕ) → v ≡ true → 1 ≤ (if v then n + 1 else 0)
some_over true n e = omega arith
some_over false n e = cc

few_over : (v : Bool) (n r : ℕ) → n ≤ r → (if v then n + 1 else 0) ≤ r + 1
few_over true n r h = omega (arith, h)
few_over false n r h = omega arith

no_came : (ticket : ℕ) (address : Address) (answer : Reply) (result : Result Polled PoolFault) (fault : PoolFault) → result ≡ Err fault → result ≡ Ok (polls.Came ticket address answer) → ⊥
no_came ticket address answer result fault e f = let g : ◌≡◌ {A = Result Polled PoolFault} (Err fault) (Ok (polls.Came ticket address answer)) = sym e ∙ f in cc

taken_tries : (p q : Pooled) (f : Flight) → Begins p q f → tries p ≡ f.failed + tries q
taken_tries p q f b =
    ap (λ (l : List Waiting). tries_waiting l + tries_flying (in_flight p)) b.is_first
    ∙ omega (arith, ap (λ (x : Flight). x.failed) b.flight, ap tries b.is_new)

starts_tries : (result : Result Polled PoolFault) (p q : Pooled) (a b : WireState) → Starts result p q a b → TriesTo result p q
starts_tries result p q a b (Overruns e budget f g) = record {
  over = 0;
  balance = omega (arith, ap (λ (x : Pooled). x.started) f, ap tries f);
  none = λ n. refl;
  some = λ ticket address answer c. absurd (no_came ticket address answer result faults.Budget e c);
  few = λ r h. omega arith;
}
starts_tries result p q a b (Flies mid f budget begins to) =
    let t = flight_tries result f mid q a b to in
    record {
      over = if is_end result then f.failed + 1 else 0;
      balance = start_balance (is_end result) f.failed f.failed p.started mid.started q.started (tries p) (tries mid) (tries q) refl (taken_tries p mid f begins) (ap (λ (x : Pooled). x.started) begins.is_new) t.started t.count;
      none = none_over (is_end result) f.failed;
      some = λ ticket address answer c. some_over (is_end result) f.failed (ap is_end c);
      few = λ r h. few_over (is_end result) f.failed r (begun r p mid f h begins).failed;
    }
starts_tries result p q a b (Starves e mid f begins is shuts) = record {
  over = f.failed;
  balance = omega (arith, ap (λ (x : Pooled). x.started) is, ap tries is, taken_tries p mid f begins);
  none = λ n. absurd (end_of result faults.OutOfMemory e n);
  some = λ ticket address answer c. absurd (no_came ticket address answer result faults.OutOfMemory e c);
  few = λ r h. omega (arith, (begun r p mid f h begins).failed);
}

next_tries : (result : Result Polled PoolFault) (p q : Pooled) (a b : WireState) → PollsNext result p q a b → TriesTo result p q
next_tries result p q a b n =
    let r : Pooled = record p { due = n.rest } in
    let t = flight_tries result n.f r q a b n.to in
    let all : tries p ≡ n.f.failed + 1 + tries r =
    omega (arith, tries_append p.polled p.due, tries_append p.polled n.rest, ap tries_flying n.is_next) in
    record {
      over = if is_end result then n.f.failed + 1 else 0;
      balance = next_balance (is_end result) n.f.failed p.started q.started (tries p) (tries r) (tries q) all t.started t.count;
      none = none_over (is_end result) n.f.failed;
      some = λ ticket address answer c. some_over (is_end result) n.f.failed (ap is_end c);
      few = λ k h. few_over (is_end result) n.f.failed k (subst (λ (l : List Flight). AllByRecursion (λ x. x.failed ≤ k) l) n.is_next h.due).0;
    }

-- ---- a run

balance_then : (n : ℕ) (p q r : Pooled) → StartsAreTries 0 p q → StartsAreTries n q r → StartsAreTries n p r
balance_then n p q r h i = omega (arith, h, i)

none_spent : (n : ℕ) (p q : Pooled) → n ≡ 0 → StartsAreTries n p q → StartsAreTries 0 p q
none_spent n p q e h = subst (λ (k : ℕ). StartsAreTries k p q) e h

turn_balance : (p q : Pooled) (a b : WireState) → Turn p q a b → StartsAreTries 0 p q
turn_balance p q a b (Start result e s) = let t = starts_tries result p q a b s in none_spent t.over p q (t.none e) t.balance
turn_balance p q a b (Next result e s) = let t = next_tries result p q a b s in none_spent t.over p q (t.none e) t.balance
turn_balance p q a b (Round e f) = omega (arith, ap (λ (x : Pooled). x.started) e, ap tries e)

runs_balance : (ms : List Moment) (p q : Pooled) (a b : WireState) → Runs ms p q a b → StartsAreTries 0 p q
runs_balance [] p q a b r = omega (arith, ap (λ (x : Pooled). x.started) r.0, ap tries r.0)
runs_balance (m ∷ ms) p q a b r = balance_then 0 p m.pool q (turn_balance p m.pool a m.wire r.0) (runs_balance ms m.pool q m.wire b r.1)

last_tries : (result : Result Polled PoolFault) (p q : Pooled) (a b : WireState) → Last result p q a b → TriesTo result p q
last_tries result p q a b (OfStart s) = starts_tries result p q a b s
last_tries result p q a b (OfPoll s) = next_tries result p q a b s

-- ---- a step

gathered_tries : (p : Pooled) → tries (record p { polled = in_flight p; due = [] }) ≡ tries p
gathered_tries p = ap (λ (l : List Flight). tries_waiting p.waiting + tries_flying l) (append-nil (in_flight p))

gathered_few : (r : ℕ) (p : Pooled) → Few r p → Few r (record p { polled = in_flight p; due = [] })
gathered_few r p h = record { is = h.is; waiting = h.waiting; polled = all_append (λ (f : Flight). f.failed ≤ r) p.polled p.due h.polled h.due; due = tt }

from_gathered : (n : ℕ) (p q : Pooled) → StartsAreTries n (record p { polled = in_flight p; due = [] }) q → StartsAreTries n p q
from_gathered n p q h = omega (arith, h, gathered_tries p)

from_line : (n : ℕ) (p line q : Pooled) → Lines p line → StartsAreTries n line q → StartsAreTries n p q
from_line n p line q l = in_line (λ (x : Pooled). StartsAreTries n x q → StartsAreTries n p q) p line l (from_gathered n p q) (λ h. h)

-- the tries that a step ends
record StepTries (low high : ℕ) (p q : Pooled) : Type 0 where
  over : ℕ
  some : low ≤ over
  few : over ≤ high
  balance : StartsAreTries over p q

run_few : (p line q : Pooled) (a b : WireState) → OpensGiven a → SuitsWire p a → FewFailed p → Lines p line → Running line q a b → Few p.retries q
run_few p line q a b g s h l r =
    by_running (λ x w. Few p.retries x) (few_is_kept p.retries) line q a b g (suits_lined p line a l s) (in_line (Few p.retries) p line l (gathered_few p.retries p (few_in p h)) (few_in p h)) r

came_tries : (ticket : ℕ) (address : Address) (answer : Reply) (p q : Pooled) (a b : WireState) → OpensGiven a → SuitsWire p a → FewFailed p → EndsInRun (Ok (polls.Came ticket address answer)) p q a b → StepTries 1 (p.retries + 1) p q
came_tries ticket address answer p q a b g s h e =
    let t = last_tries (Ok (polls.Came ticket address answer)) e.mid q e.between b e.last in
    record {
      over = t.over;
      some = t.some ticket address answer refl;
      few = t.few p.retries (run_few p e.line e.mid a e.between g s h e.lines e.running);
      balance = from_line t.over p e.line q e.lines (balance_then t.over e.line e.mid q (runs_balance e.running.moments _ e.mid a e.between e.running.runs) t.balance);
    }

fault_tries : (fault : PoolFault) (p q : Pooled) (a b : WireState) → OpensGiven a → SuitsWire p a → FewFailed p → EndsInRun (Err fault) p q a b → StepTries 0 (p.retries + 1) p q
fault_tries fault p q a b g s h e =
    let t = last_tries (Err fault) e.mid q e.between b e.last in
    record {
      over = t.over;
      some = omega arith;
      few = t.few p.retries (run_few p e.line e.mid a e.between g s h e.lines e.running);
      balance = from_line t.over p e.line q e.lines (balance_then t.over e.line e.mid q (runs_balance e.running.moments _ e.mid a e.between e.running.runs) t.balance);
    }

given_up_tries : (p : Pooled) (f : Flight) (rest : List Flight) → in_flight p ≡ f ∷ rest → tries p ≡ f.failed + 1 + tries (record p { polled = rest; due = [] })
given_up_tries p f rest e = ap (λ (l : List Flight). tries_waiting p.waiting + tries_flying l) e ∙ omega (arith, ap tries_flying (append-nil rest))

-- how an exchange is given up by a step that goes on, and by one that ends
passes_up : (fault : PoolFault) (s : Stepped) (p q : Pooled) (a b : WireState) → GivesUp fault (Ok s) p q a b → StartsAreTries 0 p q
passes_up fault s p q a b u = omega (arith, ap (λ (x : Pooled). x.started) u.to.1, ap tries u.to.1, given_up_tries p u.f u.rest u.is_oldest)

oldest_few : (r : ℕ) (p : Pooled) (f : Flight) (rest : List Flight) → in_flight p ≡ f ∷ rest → Few r p → f.failed ≤ r
oldest_few r p f rest e h = (subst (λ (l : List Flight). AllByRecursion (λ x. x.failed ≤ r) l) e (all_append (λ (x : Flight). x.failed ≤ r) p.polled p.due h.polled h.due)).0

breaks_up : (fault shown : PoolFault) (r : ℕ) (p q : Pooled) (a b : WireState) → Few r p → GivesUp fault (Err shown) p q a b → StepTries 0 (r + 1) p q
breaks_up fault shown r p q a b h u = record {
  over = u.f.failed + 1;
  some = omega arith;
  few = omega (arith, oldest_few r p u.f u.rest u.is_oldest h);
  balance = omega (arith, ap (λ (x : Pooled). x.started) u.to.0, ap tries u.to.0, given_up_tries p u.f u.rest u.is_oldest);
}

same_balance : (p q : Pooled) → q ≡ p → StartsAreTries 0 p q
same_balance p q e = omega (arith, ap (λ (x : Pooled). x.started) e, ap tries e)

waited_balance : (result : Result Stepped PoolFault) (s : Stepped) (p q : Pooled) (a b : WireState) → result ≡ Ok s → WaitsTo result p q a b → StartsAreTries 0 p q
waited_balance result s p q a b e (Passes ready f w i h) = same_balance p q h
waited_balance result s p q a b e (Stalls ready mid w i u) = passes_up faults.Stalled s p q mid b (subst (λ (x : Result Stepped PoolFault). GivesUp faults.Stalled x p q mid b) e u)
waited_balance result s p q a b e (Misses mid w u) = passes_up faults.Exchange s p q mid b (subst (λ (x : Result Stepped PoolFault). GivesUp faults.Exchange x p q mid b) e u)
waited_balance result s p q a b e (Lacks w f h) = same_balance p q h

none_over_tries : (r : ℕ) (p q : Pooled) → q ≡ p → StepTries 0 (r + 1) p q
none_over_tries r p q e = record { over = 0; some = omega arith; few = omega arith; balance = same_balance p q e }

wait_breaks : (result : Result Stepped PoolFault) (fault : PoolFault) (r : ℕ) (p q : Pooled) (a b : WireState) → result ≡ Err fault → Few r p → WaitsTo result p q a b → StepTries 0 (r + 1) p q
wait_breaks result fault r p q a b e h (Passes ready f w i same) = none_over_tries r p q same
wait_breaks result fault r p q a b e h (Stalls ready mid w i u) = breaks_up faults.Stalled fault r p q mid b h (subst (λ (x : Result Stepped PoolFault). GivesUp faults.Stalled x p q mid b) e u)
wait_breaks result fault r p q a b e h (Misses mid w u) = breaks_up faults.Exchange fault r p q mid b h (subst (λ (x : Result Stepped PoolFault). GivesUp faults.Exchange x p q mid b) e u)
wait_breaks result fault r p q a b e h (Lacks w f same) = none_over_tries r p q same

break_tries : (fault : PoolFault) (p q : Pooled) (a b : WireState) → OpensGiven a → SuitsWire p a → FewFailed p → EndsInFault fault p q a b → StepTries 0 (p.retries + 1) p q
break_tries fault p q a b g s h (AtOnce e f i) = none_over_tries p.retries p q f
break_tries fault p q a b g s h (InRun e) = fault_tries fault p q a b g s h e
break_tries fault p q a b g s h (InWait e) =
    let t = wait_breaks (Err fault) fault p.retries e.mid q e.between b refl (run_few p e.line e.mid a e.between g s h e.lines e.running) e.waits in
    record {
      over = t.over;
      some = t.some;
      few = t.few;
      balance = from_line t.over p e.line q e.lines (balance_then t.over e.line e.mid q (runs_balance e.running.moments _ e.mid a e.between e.running.runs) t.balance);
    }

pub step_tries : StepsCountTries
step_tries (Ok Idle) old new wire wire' given suits h to = to.1
step_tries (Ok (Came ticket address reply)) old new wire wire' given suits h to = let t = came_tries ticket address reply old new wire wire' given suits h to in (t.over, t.some, t.few, t.balance)
step_tries (Ok Waited) old new wire wire' given suits h to =
    from_line 0 old to.line new to.lines (balance_then 0 to.line to.mid new (runs_balance to.running.moments _ to.mid wire to.between to.running.runs)
    (waited_balance (Ok Waited) Waited to.mid new to.between wire' refl to.waits))
step_tries (Err fault) old new wire wire' given suits h to = let t = break_tries fault old new wire wire' given suits h to in (t.over, t.few, t.balance)
