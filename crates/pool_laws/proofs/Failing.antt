-- Each failure of an ask is a rise of the wire's faults or the end of a link.
use Rattle.std.proofs.Common.{ℕ, zero, suc, ◌≡◌, ◌≢◌, ◌+◌, ◌-◌, ◌<◌, ◌≤◌, ◌==◌, ◌⊎◌, inl, inr, ◌++◌, List, [], ◌∷◌, Option, Some, None, Bool, true, false, Result, Ok, Err, refl, sym, ◌∙◌, ap, subst, arith, if◌then◌else◌}
use Rattle.std.specs.Prelude.{IfErr, Option, Some, None}
use Rattle.std.specs.List.{AllByRecursion}
use Rattle.std.proofs.lemmas.Bool.{cases_lt, cases_eq}
use Rattle.std.proofs.lemmas.Bool.Decides.{eqb_tells}
use Rattle.tpf_base.specs.Addresses.{Address}
use Rattle.tpf_base.specs.Causes.{Rose}
use Rattle.tpf_base.specs.Links.{Link, WireState, OpensGiven}
use Rattle.tpf_base.specs.declared.wire.TheConstants.{MOST_IDLE}
use Rattle.tpf_base.specs.declared.fault.Fault.{Fault}
use Rattle.tpf_base.specs.declared.fault.Fault.TheVariants as wires
use Rattle.tpf_base.specs.declared.wire.Ready.{Ready}
use Rattle.http_wire.specs.declared.message.Reply.{Reply}
use Rattle.tpf_base.specs.Sending.{Holds}
use Rattle.exchange.specs.Exchanges.{Exchanging, left_link}
use Rattle.exchange.specs.Polls.{Touches}
use Rattle.exchange.specs.declared.fault.ExchangeFault.{ExchangeFault}
use Rattle.exchange.specs.declared.fault.ExchangeFault.TheVariants as exchanges
use Rattle.request_pool.specs.declared.asks.Waiting.{Waiting}
use Rattle.request_pool.specs.declared.asks.Flight.{Flight}
use Rattle.request_pool.specs.declared.fault.Polled.{Polled}
use Rattle.request_pool.specs.declared.fault.Polled.TheVariants as polls
use Rattle.request_pool.specs.declared.fault.PoolFault.{PoolFault}
use Rattle.request_pool.specs.declared.fault.PoolFault.TheVariants as faults
use Rattle.request_pool.specs.declared.fault.Stepped.{Stepped}
use Rattle.request_pool.specs.declared.fault.Stepped.TheVariants.{Came, Waited, Idle}
use Rattle.request_pool.specs.Pools.{Pooled, in_flight}
use Rattle.request_pool.specs.Owned.{SuitsWire, on_link, flights_on, held_on}
use Rattle.request_pool.specs.Polls.{Shuts, Settles, NoLink, Kept, Shut, Polls, IsFailure, FailsTo, FlightTo, again}
use Rattle.request_pool.specs.Runs.{Begins, Starts, Overruns, Flies, Starves, PollsNext, Last, OfStart, OfPoll}
use Rattle.request_pool.specs.Steps.{IsWait, GivesUp, WaitsTo, Passes, Stalls, Misses, Lacks, EndsInWait, EndsInRun, EndsInFault, AtOnce, InRun, InWait, StepsTo}
use Rattle.request_pool.proofs.Owned.{linked_open}
use Rattle.request_pool.proofs.Risen.{fares_first, running_fares, on_its}
use Rattle.request_pool.proofs.Steps.{in_line, suits_lined}
use Rattle.request_pool.proofs.Suits.{Owns, owns_begun, owns_next}
use Rattle.request_pool.proofs.Bounds.{runs_bounds, lines_bounds}
use Rattle.list_laws.proofs.Each.{all_append, all_front, all_back}
use Rattle.pool_laws.specs.Owning.{IsAsBefore, Same, Woken}
use Rattle.pool_laws.specs.Requested.{over_links}
use Rattle.pool_laws.specs.Failing.{is_ended, times_ended, ended_links, FailsBy, ended_free, FailuresEnd, EndsByFailures, EmptyPoolsFail, PutsFail, FaultsFail, StepsFail}
use Rattle.pool_laws.proofs.Following.{own_link}
use Rattle.pool_laws.proofs.Owning.{after_link}
use Rattle.pool_laws.proofs.HeldLinks.{LinksKept, owning_is_kept, any_asks, flight_owns, split_flights}
use Rattle.pool_laws.proofs.HeldLinks as held_links
use Rattle.pool_laws.proofs.KeptBySteps.{IsKeptByTurns, running_keeps, last_keeps}
use Rattle.pool_laws.proofs.Faults.{flight_faults, once_more, rose_later, same_fault, shut_faults}
use Rattle.pool_laws.proofs.Causes.{shut_idle}
use Rattle.pool_laws.proofs.Fresh.{polled_given}

-- ---- counts over links

over_more : (f g : ℕ → ℕ) (first n m : ℕ) → n ≤ m → ((i : ℕ) → first ≤ i → i < first + n → f i ≤ g i) → over_links f first n ≤ over_links g first m
over_more f g first n zero l h = let z : n ≡ 0 = omega (arith, l) in let none : over_links f first n ≡ over_links f first 0 = ap (λ (k : ℕ). over_links f first k) z in omega (arith, none)
over_more f g first n (suc m) l h = elim (cases_lt m n) [
  | inl all ↦ (
      let e : n ≡ suc m = omega (arith, l, all) in
      let whole : over_links f first n ≡ over_links f first (suc m) = ap (λ (k : ℕ). over_links f first k) e in
      let front : over_links f first m ≤ over_links g first m = over_more f g first m m (omega arith) (λ i low high. h i low (omega (arith, high, all))) in
      let last : f (first + m) ≤ g (first + m) = h (first + m) (omega arith) (omega (arith, all)) in
      omega (arith, whole, front, last))
  | inr few ↦ (let front : over_links f first n ≤ over_links g first m = over_more f g first n m few h in omega (arith, front))
]

-- and one of them more
over_one : (f g : ℕ → ℕ) (first n m j : ℕ) → n ≤ m → first ≤ j → j < first + m → ((i : ℕ) → first ≤ i → i < first + n → f i ≤ g i) → (j < first + n → f j ≡ 0) → 1 ≤ g j
    → over_links f first n + 1 ≤ over_links g first m
over_one f g first n zero j l low high h none one = absurd (omega (arith, low, high))
over_one f g first n (suc m) j l low high h none one = elim (cases_eq j (first + m)) [
  | inl at ↦ elim (cases_lt m n) [
    | inl all ↦ (
        let e : n ≡ suc m = omega (arith, l, all) in
        let whole : over_links f first n ≡ over_links f first (suc m) = ap (λ (k : ℕ). over_links f first k) e in
        let front : over_links f first m ≤ over_links g first m = over_more f g first m m (omega arith) (λ i lo hi. h i lo (omega (arith, hi, all))) in
        let zero_last : f (first + m) ≡ 0 = ap f (sym at) ∙ none (omega (arith, at, all)) in
        let one_last : g (first + m) ≡ g j = ap g (sym at) in
        omega (arith, whole, front, zero_last, one_last, one))
    | inr few ↦ (
        let front : over_links f first n ≤ over_links g first m = over_more f g first n m few h in
        let one_last : g (first + m) ≡ g j = ap g (sym at) in
        omega (arith, front, one_last, one))
  ]
  | inr off ↦ (
      let below : j < first + m = omega (arith, high, off) in
      elim (cases_lt m n) [
        | inl all ↦ (
            let e : n ≡ suc m = omega (arith, l, all) in
            let whole : over_links f first n ≡ over_links f first (suc m) = ap (λ (k : ℕ). over_links f first k) e in
            let front : over_links f first m + 1 ≤ over_links g first m = over_one f g first m m j (omega arith) low below (λ i lo hi. h i lo (omega (arith, hi, all))) (λ hi. none (omega (arith, hi, all))) one in
            let last : f (first + m) ≤ g (first + m) = h (first + m) (omega arith) (omega (arith, all)) in
            omega (arith, whole, front, last))
        | inr few ↦ (let front : over_links f first n + 1 ≤ over_links g first m = over_one f g first n m j few low below h none one in omega (arith, front))
      ])
]

choose_first : (v : Bool) (x y : ℕ) → v ≡ true → (if v then x else y) ≡ x
choose_first true x y e = refl
choose_first false x y e = cc

choose_second : (v : Bool) (x y : ℕ) → v ≡ false → (if v then x else y) ≡ y
choose_second true x y e = cc
choose_second false x y e = refl

-- one link among those that are free
abbrev free_at : (ℕ → ℕ) → WireState → ℕ → ℕ
free_at times a k = if times k == 0 then times_ended (a.links k) else 0

at_free : (n x : ℕ) → n ≡ 0 → (if n == 0 then x else 0) ≡ x
at_free n x e = elim (eqb_tells n 0) [ inl h ↦ choose_first (n == 0) x 0 h.0 | inr h ↦ absurd (h.1 e) ]

at_held : (n x : ℕ) → n ≢ 0 → ◌≡◌ {A = ℕ} (if n == 0 then x else 0) 0
at_held n x e = elim (eqb_tells n 0) [ inl h ↦ absurd (e h.1) | inr h ↦ choose_second (n == 0) x 0 h.0 ]

chosen_most : (v : Bool) (x : ℕ) → (if v then x else 0) ≤ x
chosen_most true x = omega arith
chosen_most false x = omega arith

-- a link that was free is so, and ended where it had
free_same : (was is : ℕ → ℕ) (a b : WireState) (k : ℕ) → (was k ≡ 0 → is k ≡ 0) → (was k ≡ 0 → (b.links k).ended ≡ (a.links k).ended) → free_at was a k ≤ free_at is b k
free_same was is a b k none same = elim (cases_lt 0 (was k)) [
  | inl some ↦ omega (arith, at_held (was k) (times_ended (a.links k)) (λ z. absurd (omega (arith, some, z))))
  | inr off ↦ (
      let z : was k ≡ 0 = omega (arith, off) in
      let e : times_ended (b.links k) ≡ times_ended (a.links k) = ap (λ (o : Option Bool). if is_ended o then 1 else 0) (same z) in
      omega (arith, at_free (was k) (times_ended (a.links k)) z, at_free (is k) (times_ended (b.links k)) (none z), e))
]

one_true : (v : Bool) → v ≡ true → 1 ≤ (if v then 1 else 0)
one_true true e = omega arith
one_true false e = cc

ended_once : (o : Option Bool) → Holds o true → 1 ≤ (if is_ended o then 1 else 0)
ended_once None h = omega arith
ended_once (Some v) h = one_true v (h v refl)

-- ---- failures

fails_later : (n before now later x y : ℕ) → now ≤ later → x ≤ y → FailsBy n before now x → FailsBy n before later y
fails_later n before now later x y l m h = record { rises = h.rises; rose = rose_later h.rises before now later l h.rose; enough = omega (arith, h.enough, m) }

fails_rose : (n before now later x : ℕ) → Rose now later → FailsBy n before now x → FailsBy (n + 1) before later x
fails_rose n before now later x r h = record { rises = h.rises + 1; rose = once_more h.rises before now later h.rose r; enough = omega (arith, h.enough) }

fails_ended : (n before now later x : ℕ) → now ≤ later → FailsBy n before now x → FailsBy (n + 1) before later (x + 1)
fails_ended n before now later x l h = let m = fails_later n before now later x x l (omega arith) h in record { rises = m.rises; rose = m.rose; enough = omega (arith, m.enough) }

fails_fewer : (n m before now x : ℕ) → m ≤ n → FailsBy n before now x → FailsBy m before now x
fails_fewer n m before now x l h = record { rises = h.rises; rose = h.rose; enough = omega (arith, l, h.enough) }

fails_none : (before now x : ℕ) → before ≤ now → FailsBy 0 before now x
fails_none before now x l = record { rises = 0; rose = omega (arith, l); enough = omega arith }

waiting_later : (before now later x y : ℕ) → now ≤ later → x ≤ y → (ws : List Waiting) → AllByRecursion (λ w. FailsBy w.failed before now x) ws → AllByRecursion (λ w. FailsBy w.failed before later y) ws
waiting_later before now later x y l m [] h = tt
waiting_later before now later x y l m (w ∷ ws) h = (fails_later w.failed before now later x y l m h.0, waiting_later before now later x y l m ws h.1)

flying_later : (before now later x y : ℕ) → now ≤ later → x ≤ y → (fs : List Flight) → AllByRecursion (λ f. FailsBy f.failed before now x) fs → AllByRecursion (λ f. FailsBy f.failed before later y) fs
flying_later before now later x y l m [] h = tt
flying_later before now later x y l m (f ∷ fs) h = (fails_later f.failed before now later x y l m h.0, flying_later before now later x y l m fs h.1)

module _ (since : WireState) where
  -- ---- links

  -- none is held that was given before, and at least so many of the others ended that are not held
  record Free (n : ℕ) (times : ℕ → ℕ) (a : WireState) : Type 0 where
    given : since.given ≤ a.given
    none : (k : ℕ) → k < since.given → times k ≡ 0
    most : n ≤ ended_free times since a

  free_then : (n : ℕ) (was is : ℕ → ℕ) (a b : WireState) → a.given ≤ b.given → ((k : ℕ) → k < a.given → was k ≡ 0 → is k ≡ 0) → ((k : ℕ) → k < a.given → was k ≡ 0 → (b.links k).ended ≡ (a.links k).ended) → Free n was a → Free n is b
  free_then n was is a b more none same h = record {
    given = omega (arith, h.given, more);
    none = λ k low. none k (omega (arith, low, h.given)) (h.none k low);
    most = (
        let up : ended_free was since a ≤ ended_free is since b =
        over_more (free_at was a) (free_at is b) since.given (a.given - since.given) (b.given - since.given) (omega (arith, more)) (λ k low high. (
        let below : k < a.given = omega (arith, high, h.given) in
        free_same was is a b k (none k below) (same k below))) in
        omega (arith, h.most, up));
  }

  module _ (n : ℕ) where
    poll_free : (e f : Exchanging) (rest : ℕ → ℕ) (a b : WireState) → Touches e f a b → Free n (λ k. on_link e.link k + rest k) a → Free n (λ k. on_link f.link k + rest k) b
    poll_free e f rest a b t h =
        let after = after_link e.address e.link f.link a b t.link t.others in
        free_then n (λ k. on_link e.link k + rest k) (λ k. on_link f.link k + rest k) a b after.given
        (λ k below z. omega (arith, after.same_old k below, z))
        (λ k below z. ap (λ (l : Link). l.ended) (after.same k (omega (arith, after.same_old k below, z)))) h

    less_free : (o : Option ℕ) (rest : ℕ → ℕ) (a : WireState) → Free n (λ k. on_link o k + rest k) a → Free n rest a
    less_free o rest a h = free_then n (λ k. on_link o k + rest k) rest a a (omega arith) (λ k below z. omega (arith, z)) (λ k below z. refl) h

    shut_free : (o : Option ℕ) (rest : ℕ → ℕ) (a b : WireState) → Shuts o a b → Free n (λ k. on_link o k + rest k) a → Free n rest b
    shut_free None rest a b s h = subst (λ (x : WireState). Free n rest x) (sym s) (less_free None rest a h)
    shut_free (Some i) rest a b c h =
        free_then n (λ k. on_link (Some i) k + rest k) rest a b (omega (arith, c.only.given)) (λ k below z. omega (arith, z))
        (λ k below z. elim (cases_eq k i) [
          | inl e ↦ subst (λ (x : ℕ). (b.links x).ended ≡ (a.links x).ended) (sym e) c.ended
          | inr off ↦ ap (λ (l : Link). l.ended) (c.only.others k off)
        ]) h

    woken_ended : (l m : Link) → IsAsBefore l m → m.ended ≡ l.ended
    woken_ended l m (Same e) = ap (λ (x : Link). x.ended) e
    woken_ended l m (Woken o e) = ap (λ (x : Link). x.ended) e

    free_kept : LinksKept (λ address. Unit {0}) (Free n)
    free_kept = record {
      same = λ was is a same h. free_then n was is a a (omega arith) (λ k below z. same k ∙ z) (λ k below z. refl) h;
      poll = λ e f rest a b u t h. poll_free e f rest a b t h;
      drop = λ o rest a closed h. less_free o rest a h;
      shut = shut_free;
      woken = λ times a b given nature same h. free_then n times times a b (omega (arith, given)) (λ k below z. z) (λ k below z. woken_ended (a.links k) (b.links k) (same k)) h;
    }

    -- the link of a poll ended, and is held no longer
    cut_free : (e f : Exchanging) (rest : ℕ → ℕ) (a b : WireState) (k : ℕ) → Touches e f a b → f.link ≡ Some k → rest k ≡ 0 → k < b.given → Holds (b.links k).ended true → Free n (λ i. on_link e.link i + rest i) a → Free (n + 1) rest b
    cut_free e f rest a b k t is none below ended h =
        let after = after_link e.address e.link f.link a b t.link t.others in
        let one : on_link f.link k ≡ 1 = on_its f.link k is in
        record {
          given = omega (arith, h.given, after.given);
          none = λ i low. omega (arith, h.none i low);
          most = (
              let low : since.given ≤ k = elim (cases_lt k since.given) [
                | inl early ↦ absurd (omega (arith, h.none k early, after.same_old k (omega (arith, early, h.given)), one))
                | inr late ↦ late
              ] in
              let up : ended_free (λ i. on_link e.link i + rest i) since a + 1 ≤ ended_free rest since b =
              over_one (free_at (λ i. on_link e.link i + rest i) a) (free_at rest b) since.given (a.given - since.given) (b.given - since.given) k (omega (arith, after.given)) low (omega (arith, below, h.given, after.given))
              (λ i lo hi. (
              let old : i < a.given = omega (arith, hi, h.given) in
              free_same (λ j. on_link e.link j + rest j) rest a b i (λ z. omega (arith, z)) (λ z. ap (λ (l : Link). l.ended) (after.same i (omega (arith, after.same_old i old, z))))))
              (λ hi. at_held (on_link e.link k + rest k) (times_ended (a.links k)) (λ z. absurd (omega (arith, z, one, after.same_old k (omega (arith, hi, h.given))))))
              (omega (arith, at_free (rest k) (times_ended (b.links k)) none, ended_once (b.links k).ended ended)) in
              omega (arith, h.most, up));
        }

  all_free : (times : ℕ → ℕ) (a : WireState) → ended_free times since a ≤ ended_links since a
  all_free times a = over_more (free_at times a) (λ k. times_ended (a.links k)) since.given (a.given - since.given) (a.given - since.given) (omega arith) (λ k low high. chosen_most (times k == 0) (times_ended (a.links k)))

  -- ---- the asks

  -- the faults rose and links ended, so many, as often together as each ask failed
  record Lists (now ended : ℕ) (p : Pooled) : Type 0 where
    waiting : AllByRecursion (λ w. FailsBy w.failed since.faults now ended) p.waiting
    polled : AllByRecursion (λ f. FailsBy f.failed since.faults now ended) p.polled
    due : AllByRecursion (λ f. FailsBy f.failed since.faults now ended) p.due

  lists_as : (now ended : ℕ) (p q : Pooled) → q ≡ p → Lists now ended p → Lists now ended q
  lists_as now ended p q e h = subst (Lists now ended) (sym e) h

  lists_later : (now later x y : ℕ) (p : Pooled) → now ≤ later → x ≤ y → Lists now x p → Lists later y p
  lists_later now later x y p l m h = record {
    waiting = waiting_later since.faults now later x y l m p.waiting h.waiting;
    polled = flying_later since.faults now later x y l m p.polled h.polled;
    due = flying_later since.faults now later x y l m p.due h.due;
  }

  settle_lists : (o : Option ℕ) (address : Address) (now ended : ℕ) (p q : Pooled) (a b : WireState) → Settles o address p q a b → Lists now ended p → Lists now ended q
  settle_lists o address now ended p q a b (NoLink e f g) h = lists_as now ended p q f h
  settle_lists o address now ended p q a b (Kept i e room f g) h = lists_as now ended _ q f (record { waiting = h.waiting; polled = h.polled; due = h.due })
  settle_lists o address now ended p q a b (Shut i e full f c) h = lists_as now ended p q f h

  -- what is known of a pool between two turns
  record Failing (p : Pooled) (a : WireState) : Type 0 where
    ended : ℕ
    later : since.faults ≤ a.faults
    free : Free ended (held_on p) a
    lists : Lists a.faults ended p

  -- an exchange that was taken out, and the others
  record Out (ended : ℕ) (f : Flight) (p : Pooled) (a : WireState) : Type 0 where
    owns : Owns f p a
    later : since.faults ≤ a.faults
    free : Free ended (λ k. on_link f.exchange.link k + held_on p k) a
    own : FailsBy f.failed since.faults a.faults ended
    lists : Lists a.faults ended p

  -- ---- a poll that fails

  record Failed (failed : ℕ) (p : Pooled) (b : WireState) : Type 0 where
    ended : ℕ
    free : Free ended (held_on p) b
    own : FailsBy (failed + 1) since.faults b.faults ended
    lists : Lists b.faults ended p

  poll_failed : (why : ExchangeFault) (ended : ℕ) (f : Flight) (p : Pooled) (a b : WireState) → OpensGiven a → (h : Polls (Some (Err why)) f a b) → IsFailure why → Out ended f p a → Failed f.failed p b
  poll_failed exchanges.Failed ended f p a b g h is s = record {
    ended = ended;
    free = less_free ended h.now.link (held_on p) b (poll_free ended f.exchange h.now (held_on p) a b h.touches s.free);
    own = fails_rose f.failed since.faults a.faults b.faults ended h.answers.rose s.own;
    lists = lists_later a.faults b.faults ended ended p h.touches.later (omega arith) s.lists;
  }
  poll_failed (exchanges.Cut received) ended f p a b g h is s =
      let e = h.answers.ends in
      record {
        ended = ended + 1;
        free = cut_free ended f.exchange h.now (held_on p) a b e.k h.touches e.link (own_link (Some (Err (exchanges.Cut received))) f p a b g s.owns h e.k e.link)
            (polled_given f.exchange.address f.exchange.link h.now.link a b h.touches.link g (linked_open f.exchange.link (held_on p) a s.owns.owned) e.k e.link) h.answers.ended s.free;
        own = fails_ended f.failed since.faults a.faults b.faults ended h.touches.later s.own;
        lists = lists_later a.faults b.faults ended (ended + 1) p h.touches.later (omega arith) s.lists;
      }
  poll_failed (exchanges.Bad fault received) ended f p a b g h is s = absurd is
  poll_failed exchanges.OutOfMemory ended f p a b g h is s = absurd is

  same_failing : (ended : ℕ) (f : Flight) (p q : Pooled) (a b : WireState) (result : Result Polled PoolFault) → Out ended f p a → FlightTo result f p q a b → Lists b.faults ended q → Failing q b
  same_failing ended f p q a b result s t lists = record {
    ended = ended;
    later = omega (arith, s.later, flight_faults result f p q a b t);
    free = (flight_owns (λ address. Unit {0}) (Free ended) (free_kept ended) result f p q a b tt (any_asks p) s.free t).known;
    lists = lists;
  }

  flight_failing : (result : Result Polled PoolFault) (ended : ℕ) (f : Flight) (p q : Pooled) (a b : WireState) → OpensGiven a → Out ended f p a → FlightTo result f p q a b → Failing q b
  flight_failing (Ok polls.Pending) ended f p q a b g s t =
      let l = lists_later a.faults b.faults ended ended p t.0.touches.later (omega arith) s.lists in
      same_failing ended f p q a b (Ok polls.Pending) s t
      (lists_as b.faults ended _ q t.1 (record {
        waiting = l.waiting;
        polled = all_append (λ (x : Flight). FailsBy x.failed since.faults b.faults ended) p.polled ((record f { exchange = t.0.now }) ∷ []) l.polled (fails_later f.failed since.faults a.faults b.faults ended ended t.0.touches.later (omega arith) s.own, tt);
        due = l.due;
      }))
  flight_failing (Ok (polls.Came ticket address answer)) ended f p q a b g s t =
      same_failing ended f p q a b (Ok (polls.Came ticket address answer)) s t
      (settle_lists (left_link t.1.now) t.1.now.address b.faults ended p q t.0 b t.3 (lists_later a.faults b.faults ended ended p (flight_faults (Ok (polls.Came ticket address answer)) f p q a b t) (omega arith) s.lists))
  flight_failing (Ok polls.Failed) ended f p q a b g s t =
      let x = poll_failed t.0 ended f p a b g t.1 t.2 s in
      let r : Pooled = record p { waiting = again (record f { exchange = t.1.now }) ∷ p.waiting } in
      subst (λ (y : Pooled). Failing y b) (sym t.4) (record {
        ended = x.ended;
        later = omega (arith, s.later, t.1.touches.later);
        free = x.free;
        lists = record { waiting = (x.own, x.lists.waiting); polled = x.lists.polled; due = x.lists.due };
      })
  flight_failing (Err faults.Exchange) ended f p q a b g s t = same_failing ended f p q a b (Err faults.Exchange) s t (lists_as b.faults ended p q t.2 (lists_later a.faults b.faults ended ended p t.0.touches.later (omega arith) s.lists))
  flight_failing (Err (faults.Cut received)) ended f p q a b g s t = same_failing ended f p q a b (Err (faults.Cut received)) s t (lists_as b.faults ended p q t.2 (lists_later a.faults b.faults ended ended p t.0.touches.later (omega arith) s.lists))
  flight_failing (Err (faults.Reply fault received)) ended f p q a b g s t = same_failing ended f p q a b (Err (faults.Reply fault received)) s t (lists_as b.faults ended p q t.1 (lists_later a.faults b.faults ended ended p t.0.touches.later (omega arith) s.lists))
  flight_failing (Err faults.OutOfMemory) ended f p q a b g s t =
      same_failing ended f p q a b (Err faults.OutOfMemory) s t (lists_as b.faults ended p q t.3 (lists_later a.faults b.faults ended ended p (flight_faults (Err faults.OutOfMemory) f p q a b t) (omega arith) s.lists))
  flight_failing (Err faults.Stalled) ended f p q a b g s t = absurd t
  flight_failing (Err faults.Budget) ended f p q a b g s t = absurd t

  -- once too often
  too_often : (retries failed : ℕ) (p : Pooled) (b : WireState) → retries ≤ failed → Failed failed p b → FailsBy (retries + 1) since.faults b.faults (ended_links since b)
  too_often retries failed p b l x =
      let all = all_free (held_on p) b in
      fails_fewer (failed + 1) (retries + 1) since.faults b.faults (ended_links since b) (omega (arith, l)) (fails_later (failed + 1) since.faults b.faults b.faults x.ended (ended_links since b) (omega arith) (omega (arith, x.free.most, all)) x.own)

  flight_ends : (fault : PoolFault) (ended : ℕ) (f : Flight) (p q : Pooled) (a b : WireState) → OpensGiven a → Out ended f p a → FlightTo (Err fault) f p q a b → EndsByFailures fault (p.retries + 1) since b
  flight_ends faults.Exchange ended f p q a b g s t = too_often p.retries f.failed p b t.1 (poll_failed exchanges.Failed ended f p a b g t.0 tt s)
  flight_ends (faults.Cut received) ended f p q a b g s t = too_often p.retries f.failed p b t.1 (poll_failed (exchanges.Cut received) ended f p a b g t.0 tt s)
  flight_ends (faults.Reply fault received) ended f p q a b g s t = tt
  flight_ends faults.Budget ended f p q a b g s t = tt
  flight_ends faults.OutOfMemory ended f p q a b g s t = tt
  flight_ends faults.Stalled ended f p q a b g s t = absurd t

  -- ---- a start, and the next poll

  begun_lists : (now ended : ℕ) (p q : Pooled) (f : Flight) → Lists now ended p → Begins p q f → Lists now ended q × FailsBy f.failed since.faults now ended
  begun_lists now ended p q f h b =
      let w = subst (λ (l : List Waiting). AllByRecursion (λ x. FailsBy x.failed since.faults now ended) l) b.is_first h.waiting in (
        lists_as now ended _ q b.is_new (record { waiting = w.1; polled = h.polled; due = h.due }),
        subst (λ (n : ℕ). FailsBy n since.faults now ended) (sym (ap (λ (x : Flight). x.failed) b.flight)) w.0,
      )

  begun_out : (p q : Pooled) (f : Flight) (a : WireState) → SuitsWire p a → (h : Failing p a) → Begins p q f → Out h.ended f q a
  begun_out p q f a s h b =
      let l = begun_lists a.faults h.ended p q f h.lists b in
      record {
        owns = owns_begun p q f a s b;
        later = h.later;
        free = (held_links.begun (λ address. Unit {0}) (Free h.ended) (free_kept h.ended) p q f a (record { asks = any_asks p; known = h.free }) b).known;
        own = l.1;
        lists = l.0;
      }

  next_out : (p : Pooled) (f : Flight) (rest : List Flight) (a : WireState) → SuitsWire p a → (h : Failing p a) → p.due ≡ f ∷ rest → Out h.ended f (record p { due = rest }) a
  next_out p f rest a s h e =
      let d = subst (λ (l : List Flight). AllByRecursion (λ x. FailsBy x.failed since.faults a.faults h.ended) l) e h.lists.due in
      record {
        owns = owns_next p f rest a s e;
        later = h.later;
        free = (free_kept h.ended).same (held_on p) (λ k. on_link f.exchange.link k + held_on (record p { due = rest }) k) a (λ k. omega (arith, ap (λ (x : List Flight). flights_on x k) e)) h.free;
        own = d.0;
        lists = record { waiting = h.lists.waiting; polled = h.lists.polled; due = d.1 };
      }

  failing_as : (p q : Pooled) (a b : WireState) → q ≡ p → b ≡ a → Failing p a → Failing q b
  failing_as p q a b e f h = subst (λ (x : Pooled). Failing x b) (sym e) (subst (λ (x : WireState). Failing p x) (sym f) h)

  starts_failing : (result : Result Polled PoolFault) (p q : Pooled) (a b : WireState) → OpensGiven a → SuitsWire p a → Failing p a → Starts result p q a b → Failing q b
  starts_failing result p q a b g s h (Overruns e budget f i) = failing_as p q a b f i h
  starts_failing result p q a b g s h (Flies mid f budget begins to) = flight_failing result h.ended f mid q a b g (begun_out p mid f a s h begins) to
  starts_failing result p q a b g s h (Starves e mid f begins is shuts) =
      let o = begun_out p mid f a s h begins in
      let l = lists_later a.faults b.faults h.ended h.ended mid (shut_faults f.exchange.link a b shuts) (omega arith) o.lists in
      subst (λ (x : Pooled). Failing x b) (sym is) (record {
        ended = h.ended;
        later = omega (arith, h.later, shut_faults f.exchange.link a b shuts);
        free = shut_free h.ended f.exchange.link (held_on mid) a b shuts o.free;
        lists = record { waiting = l.waiting; polled = l.polled; due = l.due };
      })

  next_failing : (result : Result Polled PoolFault) (p q : Pooled) (a b : WireState) → OpensGiven a → SuitsWire p a → Failing p a → PollsNext result p q a b → Failing q b
  next_failing result p q a b g s h n = flight_failing result h.ended n.f (record p { due = n.rest }) q a b g (next_out p n.f n.rest a s h n.is_next) n.to

  round_failing : (p : Pooled) (a : WireState) → Failing p a → Failing (record p { polled = []; due = p.polled ++ p.due }) a
  round_failing p a h = record {
    ended = h.ended;
    later = h.later;
    free = ((owning_is_kept (λ address. Unit {0}) (Free h.ended) (free_kept h.ended)).rounds p a (record { asks = any_asks p; known = h.free })).known;
    lists = record { waiting = h.lists.waiting; polled = tt; due = all_append (λ (f : Flight). FailsBy f.failed since.faults a.faults h.ended) p.polled p.due h.lists.polled h.lists.due };
  }

  gathered_failing : (p : Pooled) (a : WireState) → Failing p a → Failing (record p { polled = in_flight p; due = [] }) a
  gathered_failing p a h = record {
    ended = h.ended;
    later = h.later;
    free = ((owning_is_kept (λ address. Unit {0}) (Free h.ended) (free_kept h.ended)).gathers p a (record { asks = any_asks p; known = h.free })).known;
    lists = record { waiting = h.lists.waiting; polled = all_append (λ (f : Flight). FailsBy f.failed since.faults a.faults h.ended) p.polled p.due h.lists.polled h.lists.due; due = tt };
  }

  failing_is_kept : IsKeptByTurns Failing
  failing_is_kept = record { starts = starts_failing; polls = next_failing; rounds = round_failing }

  -- ---- the end of a run

  module _ (retries : ℕ) where
    other_ends : (fault other : PoolFault) (b : WireState) → fault ≡ other → EndsByFailures other (retries + 1) since b → EndsByFailures fault (retries + 1) since b
    other_ends fault other b e h = subst (λ (x : PoolFault). EndsByFailures x (retries + 1) since b) (sym e) h

    many_ends : (fault : PoolFault) (n : ℕ) (b : WireState) → n ≡ retries → EndsByFailures fault (n + 1) since b → EndsByFailures fault (retries + 1) since b
    many_ends fault n b e h = subst (λ (m : ℕ). EndsByFailures fault (m + 1) since b) e h

    last_ends : (fault : PoolFault) (p q : Pooled) (a b : WireState) → OpensGiven a → SuitsWire p a → p.retries ≡ retries → Failing p a → Last (Err fault) p q a b → EndsByFailures fault (retries + 1) since b
    last_ends fault p q a b g s same h (OfStart (Overruns e budget f i)) = other_ends fault faults.Budget b (same_fault fault faults.Budget e) tt
    last_ends fault p q a b g s same h (OfStart (Flies mid f budget begins to)) =
        many_ends fault mid.retries b (ap (λ (x : Pooled). x.retries) begins.is_new ∙ same) (flight_ends fault h.ended f mid q a b g (begun_out p mid f a s h begins) to)
    last_ends fault p q a b g s same h (OfStart (Starves e mid f begins is shuts)) = other_ends fault faults.OutOfMemory b (same_fault fault faults.OutOfMemory e) tt
    last_ends fault p q a b g s same h (OfPoll n) = many_ends fault p.retries b same (flight_ends fault h.ended n.f (record p { due = n.rest }) q a b g (next_out p n.f n.rest a s h n.is_next) n.to)

    -- ---- a wait

    record After (result : Result Stepped PoolFault) (q : Pooled) (b : WireState) : Type 0 where
      failing : Failing q b
      fault : IfErr result (λ fault. EndsByFailures fault (retries + 1) since b)

    after_as : (result other : Result Stepped PoolFault) (q : Pooled) (b : WireState) → result ≡ other → After other q b → After result q b
    after_as result other q b e h = subst (λ (x : Result Stepped PoolFault). After x q b) (sym e) h

    -- an exchange that was given up as the faults rose
    record GivenUp (f : Flight) (p : Pooled) (b : WireState) : Type 0 where
      later : since.faults ≤ b.faults
      failed : Failed f.failed p b

    fails_after : (result : Result Stepped PoolFault) (f : Flight) (p q : Pooled) (b : WireState) → p.retries ≡ retries → GivenUp f p b → FailsTo faults.Exchange result f p q → After result q b
    fails_after (Ok done) f p q b same x t = record {
      failing = subst (λ (y : Pooled). Failing y b) (sym t.1) (record {
        ended = x.failed.ended;
        later = x.later;
        free = x.failed.free;
        lists = record { waiting = (x.failed.own, x.failed.lists.waiting); polled = x.failed.lists.polled; due = x.failed.lists.due };
      });
      fault = tt;
    }
    fails_after (Err shown) f p q b same x t = record {
      failing = subst (λ (y : Pooled). Failing y b) (sym t.0) (record { ended = x.failed.ended; later = x.later; free = x.failed.free; lists = x.failed.lists });
      fault = shown_ends t.1;
    }
      where
        shown_ends : (shown ≡ faults.OutOfMemory) ⊎ ((shown ≡ faults.Exchange) × (p.retries ≤ f.failed)) → EndsByFailures shown (retries + 1) since b
        shown_ends (inl e) = other_ends shown faults.OutOfMemory b e tt
        shown_ends (inr e) = other_ends shown faults.Exchange b e.0 (too_often retries f.failed p b (omega (arith, e.1, same)) x.failed)

    -- after a wait the links ended as before
    waited_free : (answer : Result Ready Fault) (p : Pooled) (a b : WireState) → SuitsWire p a → (h : Failing p a) → IsWait answer a b → Free h.ended (held_on p) b
    waited_free answer p a b s h w = ((owning_is_kept (λ address. Unit {0}) (Free h.ended) (free_kept h.ended)).waits answer p a b s (record { asks = any_asks p; known = h.free }) w).known

    waited_failing : (answer : Result Ready Fault) (p : Pooled) (a b : WireState) → SuitsWire p a → Failing p a → IsWait answer a b → Failing p b
    waited_failing answer p a b s h w = record {
      ended = h.ended;
      later = omega (arith, h.later, w.only.later);
      free = waited_free answer p a b s h w;
      lists = lists_later a.faults b.faults h.ended h.ended p w.only.later (omega arith) h.lists;
    }

    -- the oldest exchange is given up where the wait failed
    misses_after : (result : Result Stepped PoolFault) (p q : Pooled) (a mid b : WireState) → SuitsWire p a → p.retries ≡ retries → Failing p a → IsWait (Err wires.Failed) a mid → GivesUp faults.Exchange result p q mid b → After result q b
    misses_after result p q a mid b s same h w u =
        let r : Pooled = record p { polled = u.rest; due = [] } in
        let up : mid.faults ≤ b.faults = shut_faults u.f.exchange.link mid b u.shuts in
        let all = subst (λ (l : List Flight). AllByRecursion (λ x. FailsBy x.failed since.faults a.faults h.ended) l) u.is_oldest (all_append (λ (x : Flight). FailsBy x.failed since.faults a.faults h.ended) p.polled p.due h.lists.polled h.lists.due) in
        let split : (k : ℕ) → on_link u.f.exchange.link k + held_on (record p { polled = u.rest; due = [] }) k ≡ held_on p k =
        λ k. omega (arith, split_flights (λ address. Unit {0}) (Free h.ended) (free_kept h.ended) p u.f u.rest u.is_oldest k) in
        fails_after result u.f (record p { polled = u.rest; due = [] }) q b same (record {
          later = omega (arith, h.later, w.only.later, up);
          failed = record {
            ended = h.ended;
            free = shut_free h.ended u.f.exchange.link (held_on (record p { polled = u.rest; due = [] })) mid b u.shuts
                ((free_kept h.ended).same (held_on p) (λ k. on_link u.f.exchange.link k + held_on (record p { polled = u.rest; due = [] }) k) mid split (waited_free (Err wires.Failed) p a mid s h w));
            own = fails_later (u.f.failed + 1) since.faults mid.faults b.faults h.ended h.ended up (omega arith) (fails_rose u.f.failed since.faults a.faults mid.faults h.ended (w.cause.failed refl) all.0);
            lists = lists_later a.faults b.faults h.ended h.ended (record p { polled = u.rest; due = [] }) (omega (arith, w.only.later, up)) (omega arith) (record { waiting = h.lists.waiting; polled = all.1; due = tt });
          };
        }) u.to

    waits_after : (result : Result Stepped PoolFault) (p q : Pooled) (a b : WireState) → SuitsWire p a → p.retries ≡ retries → Failing p a → b.idle < MOST_IDLE → WaitsTo result p q a b → After result q b
    waits_after result p q a b s same h few (Passes ready e w i f) = after_as result (Ok Waited) q b e (record { failing = failing_as p q b b f refl (waited_failing (Ok ready) p a b s h w); fault = tt })
    waits_after result p q a b s same h few (Stalls ready mid w i u) = absurd (omega (arith, i, few, shut_idle u.f.exchange.link mid b u.shuts))
    waits_after result p q a b s same h few (Misses mid w u) = misses_after result p q a mid b s same h w u
    waits_after result p q a b s same h few (Lacks w e f) = after_as result (Err faults.OutOfMemory) q b e (record { failing = failing_as p q b b f refl (waited_failing (Err wires.OutOfMemory) p a b s h w); fault = tt })

    -- ---- a step

    in_wait : (result : Result Stepped PoolFault) (p q : Pooled) (a b : WireState) → OpensGiven a → SuitsWire p a → p.retries ≡ retries → Failing p a → b.idle < MOST_IDLE → EndsInWait result p q a b → After result q b
    in_wait result p q a b g s same h few e =
        let r : Pooled = e.line in
        let suits = suits_lined p e.line a e.lines s in
        let f = running_fares false a r e.mid a e.between (fares_first r a suits g) e.running in
        let mid = running_keeps Failing failing_is_kept r e.mid a e.between g suits (in_line (λ (x : Pooled). Failing x a) p e.line e.lines (gathered_failing p a h) h) e.running in
        waits_after result e.mid q e.between b f.suits (ap (λ (x : Pooled). x.retries) (runs_bounds e.running.moments r e.mid a e.between e.running.runs ∙ lines_bounds p e.line e.lines) ∙ same) mid few e.waits

    in_run : (fault : PoolFault) (p q : Pooled) (a b : WireState) → OpensGiven a → SuitsWire p a → p.retries ≡ retries → Failing p a → EndsInRun (Err fault) p q a b → After (Err fault) q b
    in_run fault p q a b g s same h e =
        let r : Pooled = e.line in
        let suits = suits_lined p e.line a e.lines s in
        let f = running_fares false a r e.mid a e.between (fares_first r a suits g) e.running in
        let mid = running_keeps Failing failing_is_kept r e.mid a e.between g suits (in_line (λ (x : Pooled). Failing x a) p e.line e.lines (gathered_failing p a h) h) e.running in
        record {
          failing = last_keeps Failing failing_is_kept (Err fault) e.mid q e.between b f.given f.suits mid e.last;
          fault = last_ends fault e.mid q e.between b f.given f.suits (ap (λ (x : Pooled). x.retries) (runs_bounds e.running.moments r e.mid a e.between e.running.runs ∙ lines_bounds p e.line e.lines) ∙ same) mid e.last;
        }

    breaks_after : (fault : PoolFault) (p q : Pooled) (a b : WireState) → OpensGiven a → SuitsWire p a → p.retries ≡ retries → Failing p a → b.idle < MOST_IDLE → EndsInFault fault p q a b → After (Err fault) q b
    breaks_after fault p q a b g s same h few (AtOnce e f i) = record { failing = failing_as p q a b f i h; fault = other_ends fault faults.OutOfMemory b e tt }
    breaks_after fault p q a b g s same h few (InRun e) = in_run fault p q a b g s same h e
    breaks_after fault p q a b g s same h few (InWait e) = in_wait (Err fault) p q a b g s same h few e

    in_came : (ticket : ℕ) (address : Address) (answer : Reply) (p q : Pooled) (a b : WireState) → OpensGiven a → SuitsWire p a → Failing p a → EndsInRun (Ok (polls.Came ticket address answer)) p q a b → Failing q b
    in_came ticket address answer p q a b g s h e =
        let r : Pooled = e.line in
        let suits = suits_lined p e.line a e.lines s in
        let f = running_fares false a r e.mid a e.between (fares_first r a suits g) e.running in
        let mid = running_keeps Failing failing_is_kept r e.mid a e.between g suits (in_line (λ (x : Pooled). Failing x a) p e.line e.lines (gathered_failing p a h) h) e.running in
        last_keeps Failing failing_is_kept (Ok (polls.Came ticket address answer)) e.mid q e.between b f.given f.suits mid e.last

    step_after : (result : Result Stepped PoolFault) (p q : Pooled) (a b : WireState) → OpensGiven a → SuitsWire p a → p.retries ≡ retries → Failing p a → b.idle < MOST_IDLE → StepsTo result p q a b → After result q b
    step_after (Ok Idle) p q a b g s same h few t = record { failing = failing_as p q a b t.1 t.2 h; fault = tt }
    step_after (Ok (Came ticket address answer)) p q a b g s same h few t = record { failing = in_came ticket address answer p q a b g s h t; fault = tt }
    step_after (Ok Waited) p q a b g s same h few t = in_wait (Ok Waited) p q a b g s same h few t
    step_after (Err fault) p q a b g s same h few t = breaks_after fault p q a b g s same h few t

  -- ---- into a step, and out of it

  failing_in : (p : Pooled) (a : WireState) → FailuresEnd since p a → Failing p a
  failing_in p a h = record {
    ended = ended_free (held_on p) since a;
    later = h.later;
    free = record { given = h.given; none = h.none_before; most = omega arith };
    lists = record {
      waiting = h.waiting;
      polled = all_front (λ (f : Flight). FailsBy f.failed since.faults a.faults (ended_free (held_on p) since a)) p.polled p.due h.flying;
      due = all_back (λ (f : Flight). FailsBy f.failed since.faults a.faults (ended_free (held_on p) since a)) p.polled p.due h.flying;
    };
  }

  failing_out : (p : Pooled) (a : WireState) → Failing p a → FailuresEnd since p a
  failing_out p a h =
      let l = lists_later a.faults a.faults h.ended (ended_free (held_on p) since a) p (omega arith) h.free.most h.lists in
      record {
        later = h.later;
        given = h.free.given;
        none_before = h.free.none;
        waiting = l.waiting;
        flying = all_append (λ (f : Flight). FailsBy f.failed since.faults a.faults (ended_free (held_on p) since a)) p.polled p.due l.polled l.due;
      }

-- ---- the laws

pub empty_failing : EmptyPoolsFail
empty_failing links retries budget limit wire = record { later = omega arith; given = omega arith; none_before = λ k low. refl; waiting = tt; flying = tt }

pub put_failing : PutsFail
put_failing since ticket address pool wire h = record {
  later = h.later;
  given = h.given;
  none_before = h.none_before;
  waiting = all_append (λ (w : Waiting). FailsBy w.failed since.faults wire.faults (ended_free (held_on pool) since wire)) pool.waiting ((record { ticket = ticket; address = address; failed = 0 }) ∷ []) h.waiting
      (fails_none since.faults wire.faults (ended_free (held_on pool) since wire) h.later, tt);
  flying = h.flying;
}

pub fault_failing : FaultsFail
fault_failing since pool wire h = record { later = h.later; given = h.given; none_before = h.none_before; waiting = h.waiting; flying = h.flying }

pub step_failing : StepsFail
step_failing since result old new wire wire' given suits few h to =
    let a = step_after since old.retries result old new wire wire' given suits refl (failing_in since old wire h) few to in
    record { failures = failing_out since new wire' a.failing; fault = a.fault }
