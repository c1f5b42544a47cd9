-- Over a steady wire no step provokes a fault, unless an exchange hangs.
use Rattle.std.proofs.Common.{ℕ, ◌≡◌, ◌+◌, ◌<◌, ◌≤◌, ◌⊎◌, inl, inr, ◌++◌, List, [], ◌∷◌, map, length, length-append, Option, Some, None, true, false, Result, Ok, Err, refl, sym, ◌∙◌, ap, ap₂, subst, arith, append-nil}
use Rattle.std.specs.Prelude.{◌^◌, min, IfOk, Option, Some, None}
use Rattle.std.specs.List.{AllByRecursion, Contains}
use Rattle.std.proofs.lemmas.Bool.{cases_lt, cases_eq}
use Rattle.std.proofs.lemmas.List.{length-map}
use Rattle.std.proofs.lemmas.List.Elements.{All-contains, All-from_recursion}
use Rattle.std.proofs.lemmas.List.Sorted.{length_permutation}
use Rattle.tpf_base.specs.Addresses.{Address, authority_of}
use Rattle.tpf_base.specs.HttpReply.{reply_of}
use Rattle.tpf_base.specs.declared.fault.Fault.{Fault}
use Rattle.tpf_base.specs.declared.fault.Fault.TheVariants as failures
use Rattle.tpf_base.specs.declared.wire.Ready.{Ready}
use Rattle.tpf_base.specs.declared.wire.Ready.TheVariants as kinds
use Rattle.tpf_base.specs.Links as links
use Rattle.tpf_base.specs.Links.{Link, Nature, WireState, OpensGiven, IsRipe, is_short, some_left, told_by}
use Rattle.tpf_base.specs.Calls.{Closes}
use Rattle.http_wire.specs.declared.message.Reply.{Reply}
use Rattle.http_ends.specs.Cuts.{bytes_of, sent_of, received_of}
use Rattle.template_fill.specs.Authorities.{AuthoritiesAreHostsAndPorts}
use Rattle.exchange.specs.Exchanges.{Exchanging, StandsOn, left_link}
use Rattle.exchange.specs.Polls as waits
use Rattle.exchange.specs.Polls.{Touches, LinkAfter, Awaits, Hangs, ClosedOn}
use Rattle.exchange.specs.declared.fault.ExchangeFault.{ExchangeFault}
use Rattle.request_pool.specs.declared.asks.Waiting.{Waiting}
use Rattle.request_pool.specs.declared.asks.Flight.{Flight}
use Rattle.request_pool.specs.declared.asks.Spare.{Spare}
use Rattle.request_pool.specs.declared.fault.Polled.{Polled}
use Rattle.request_pool.specs.declared.fault.Polled.TheVariants as polls
use Rattle.request_pool.specs.declared.fault.PoolFault.{PoolFault}
use Rattle.request_pool.specs.declared.fault.PoolFault.TheVariants as faults
use Rattle.request_pool.specs.declared.fault.Stepped.{Stepped}
use Rattle.request_pool.specs.declared.fault.Stepped.TheVariants.{Came, Waited, Idle}
use Rattle.request_pool.specs.Pools.{Pooled, Ask, ask_waiting, ask_flying, held, in_flight}
use Rattle.request_pool.specs.Owned.{SuitsWire, on_link, flights_on, spare_on, held_on, open_on, times_open}
use Rattle.request_pool.specs.Polls.{Shuts, Settles, NoLink, Kept, Shut, TakesLink, Polls, FlightTo}
use Rattle.request_pool.specs.Runs.{Begins, Starts, Overruns, Flies, Starves, Last, OfStart, OfPoll, is_end, Running}
use Rattle.request_pool.specs.Steps.{IsWait, GivesUp, WaitsTo, Passes, Stalls, Misses, Lacks, Lines, EndsInWait, EndsInRun, EndsInFault, AtOnce, InRun, InWait, StepsTo, MayWait, AsleepOn}
use Rattle.request_pool.proofs.Owned.{on_same, on_other, one_at_most, open_one, closed_none, same_open, flights_on-append}
use Rattle.request_pool.proofs.Suits.{Owns, owns_begun, owns_next, own_none, waits_suits, left_is}
use Rattle.pool_laws.specs.Following.{Follows, AnswersSoFar, HasPeer}
use Rattle.pool_laws.specs.Owning.{IsAsBefore, Same, Woken}
use Rattle.pool_laws.specs.Rising.{IsServed, IsServedBySome}
use Rattle.pool_laws.specs.Provoking.{IsStalled, IsAwake, OneIsAwake, MovesFirst, Moved, Awake, Again, HoldsNone, WaitsReady, HasHung, SparesWire, StepSpares, EmptyPoolsReady, PutsReady, StepsSpare, NoneHang, NoneHangBySome}
use Rattle.list_laws.proofs.Options.{one_value}
use Rattle.pool_laws.proofs.Rising.{by_some}
use Rattle.pool_laws.proofs.Following.{off, own_link, request_is}
use Rattle.pool_laws.proofs.Owning.{after_link}
use Rattle.request_pool.proofs.Risen.{Fares, fares_first, running_fares, on_its}
use Rattle.request_pool.proofs.Steps.{in_line, suits_lined}
use Rattle.request_pool.proofs.Holding.{lined_held, running_holds, no_came}
use Rattle.request_pool.proofs.Bounds.{runs_bounds, lines_bounds}
use Rattle.list_laws.proofs.Each.{all_append, all_front, all_back, all_so}
use Rattle.pool_laws.proofs.HeldLinks.{LinksKept, Owning, owning_is_kept, any_asks, asks_in, all_held, waits_only}
use Rattle.pool_laws.proofs.KeptBySteps.{IsKept, IsKeptWhileOn, running_goes, by_line, by_running, by_step}
use Rattle.pool_laws.proofs.Running.{answers_are_kept, given_up_owned}
use Rattle.pool_laws.proofs.Settled.{SameWhole, shut_whole}
use Rattle.pool_laws.proofs.Staying.{whole_then, woken_whole}
use Rattle.pool_laws.specs.Ends.{EndsAreTrue}
use Rattle.pool_laws.proofs.Answers.{cut_short, owed_on}

-- ---- no link is open but those that are held

record OpenHeld (times : ℕ → ℕ) (a : WireState) : Type 0 where
  at : (k : ℕ) → open_on a k ≤ times k

link_stays : (address : Address) (o p : Option ℕ) (a b : WireState) → LinkAfter address o p a b → (k : ℕ) → on_link o k ≤ on_link p k
link_stays address (Some j) (Some i) a b l k = omega (arith, ap (λ (x : ℕ). on_link (Some x) k) l.0)
link_stays address (Some j) None a b l k = absurd l
link_stays address None None a b l k = omega arith
link_stays address None (Some i) a b l k = omega arith

open_polled : (e f : Exchanging) (rest : ℕ → ℕ) (a b : WireState) → Touches e f a b → OpenHeld (λ k. on_link e.link k + rest k) a → OpenHeld (λ k. on_link f.link k + rest k) b
open_polled e f rest a b t h =
    let after = after_link e.address e.link f.link a b t.link t.others in
    record {
      at = λ k. elim (cases_lt 0 (on_link f.link k)) [
        | inl some ↦ omega (arith, one_at_most b k, some)
        | inr none ↦ omega (arith, same_open a b k (after.same k (omega (arith, none))), h.at k, link_stays e.address e.link f.link a b t.link k)
      ];
    }

open_dropped : (o : Option ℕ) (rest : ℕ → ℕ) (a : WireState) → ClosedOn o a → OpenHeld (λ k. on_link o k + rest k) a → OpenHeld rest a
open_dropped None rest a closed h = record { at = λ k. omega (arith, h.at k) }
open_dropped (Some i) rest a closed h = record {
  at = λ k. elim (cases_eq i k) [
    | inl e ↦ omega (arith, closed_none (a.links k).is_open (subst (λ (x : ℕ). (a.links x).is_open ≡ false) e closed))
    | inr n ↦ omega (arith, h.at k, on_other i k n)
  ];
}

open_shut : (o : Option ℕ) (rest : ℕ → ℕ) (a b : WireState) → Shuts o a b → OpenHeld (λ k. on_link o k + rest k) a → OpenHeld rest b
open_shut None rest a b s h = subst (λ (x : WireState). OpenHeld rest x) (sym s) (open_dropped None rest a tt h)
open_shut (Some i) rest a b c h = record {
  at = λ k. elim (cases_eq i k) [
    | inl e ↦ omega (arith, closed_none (b.links k).is_open (subst (λ (x : ℕ). (b.links x).is_open ≡ false) e c.is_open))
    | inr n ↦ omega (arith, h.at k, on_other i k n, same_open a b k (c.only.others k (λ e. n (sym e))))
  ];
}

as_open : (l m : Link) → IsAsBefore l m → m.is_open ≡ l.is_open
as_open l m (Same e) = ap (λ (x : Link). x.is_open) e
as_open l m (Woken o e) = ap (λ (x : Link). x.is_open) e

open_kept : LinksKept (λ address. Unit {0}) OpenHeld
open_kept = record {
  same = λ was is a same h. record { at = λ k. omega (arith, same k, h.at k) };
  poll = λ e f rest a b u t h. open_polled e f rest a b t h;
  drop = open_dropped;
  shut = open_shut;
  woken = λ times a b given nature same h. record { at = λ k. omega (arith, h.at k, ap times_open (as_open (a.links k) (b.links k) (same k))) };
}

open_in : (p : Pooled) (a : WireState) → ((k : ℕ) → open_on a k ≤ held_on p k) → Owning (λ address. Unit {0}) OpenHeld p a
open_in p a h = record { asks = any_asks p; known = record { at = h } }

-- ---- exchanges that wait

stalled_as : (a b : WireState) (e : Exchanging) → ((k : ℕ) → e.link ≡ Some k → b.links k ≡ a.links k) → IsStalled a e → IsStalled b e
stalled_as a b e same h =
    let q = sym (same h.k h.link) in
    record {
      k = h.k;
      link = h.link;
      awaits = subst (λ (x : Link). Awaits e x) q h.awaits;
      ripe = subst (λ (x : Link). IsRipe x ⊎ Hangs e x) q h.ripe;
      more = h.more;
    }

flights_stalled : (fs : List Flight) (a b : WireState) → ((k : ℕ) → 0 < flights_on fs k → b.links k ≡ a.links k) → AllByRecursion (λ f. IsStalled a f.exchange) fs → AllByRecursion (λ f. IsStalled b f.exchange) fs
flights_stalled [] a b same h = tt
flights_stalled (f ∷ fs) a b same h = (
  stalled_as a b f.exchange (λ k e. same k (omega (arith, on_its f.exchange.link k e))) h.0,
  flights_stalled fs a b (λ k p. same k (omega (arith, p))) h.1,
)

spare_quiet : (ss : List Spare) (a b : WireState) → ((k : ℕ) → 0 < spare_on ss k → b.links k ≡ a.links k) → AllByRecursion (λ s. (a.links s.link).stalled ≡ None) ss → AllByRecursion (λ s. (b.links s.link).stalled ≡ None) ss
spare_quiet [] a b same h = tt
spare_quiet (s ∷ ss) a b same h = (
  ap (λ (x : Link). x.stalled) (same s.link (omega (arith, on_same s.link s.link refl))) ∙ h.0,
  spare_quiet ss a b (λ k p. same k (omega (arith, p))) h.1,
)

-- where a wait may have answered them
awaits_before : (e : Exchanging) (l m : Link) → IsAsBefore l m → Awaits e l → Awaits e m
awaits_before e l m (Same q) h = subst (λ (x : Link). Awaits e x) (sym q) h
awaits_before e l m (Woken o q) (waits.ToSend less s) = waits.ToSend less (ap (λ (x : Link). x.stalled) q ∙ s)
awaits_before e l m (Woken o q) (waits.ToReceive whole s) = waits.ToReceive whole (ap (λ (x : Link). x.stalled) q ∙ s)

ripe_before : (l m : Link) → IsAsBefore l m → IsRipe l → IsRipe m
ripe_before l m (Same q) h = subst IsRipe (sym q) h
ripe_before l m (Woken o q) (links.ToSend op s) = links.ToSend (ap (λ (x : Link). x.is_open) q ∙ op) (ap (λ (x : Link). x.stalled) q ∙ s)
ripe_before l m (Woken o q) (links.ToReceive op s short) = links.ToReceive (ap (λ (x : Link). x.is_open) q ∙ op) (ap (λ (x : Link). x.stalled) q ∙ s) (ap is_short q ∙ short)

short_before : (l m : Link) → IsAsBefore l m → is_short m ≡ is_short l
short_before l m (Same q) = ap is_short q
short_before l m (Woken o q) = ap is_short q

quiet_before : (l m : Link) → IsAsBefore l m → m.stalled ≡ l.stalled
quiet_before l m (Same q) = ap (λ (x : Link). x.stalled) q
quiet_before l m (Woken o q) = ap (λ (x : Link). x.stalled) q

waits_before : (e : Exchanging) (l m : Link) → IsAsBefore l m → IsRipe l ⊎ Hangs e l → IsRipe m ⊎ Hangs e m
waits_before e l m h (inl r) = inl (ripe_before l m h r)
waits_before e l m h (inr g) = inr (record { sent = g.sent; none_left = short_before l m h ∙ g.none_left })

stalled_before : (a b : WireState) (e : Exchanging) → ((k : ℕ) → IsAsBefore (a.links k) (b.links k)) → IsStalled a e → IsStalled b e
stalled_before a b e same h = record {
  k = h.k;
  link = h.link;
  awaits = awaits_before e (a.links h.k) (b.links h.k) (same h.k) h.awaits;
  ripe = waits_before e (a.links h.k) (b.links h.k) (same h.k) h.ripe;
  more = h.more;
}

flights_before : (fs : List Flight) (a b : WireState) → ((k : ℕ) → IsAsBefore (a.links k) (b.links k)) → AllByRecursion (λ f. IsStalled a f.exchange) fs → AllByRecursion (λ f. IsStalled b f.exchange) fs
flights_before [] a b same h = tt
flights_before (f ∷ fs) a b same h = (stalled_before a b f.exchange same h.0, flights_before fs a b same h.1)

spare_before : (ss : List Spare) (a b : WireState) → ((k : ℕ) → IsAsBefore (a.links k) (b.links k)) → AllByRecursion (λ s. (a.links s.link).stalled ≡ None) ss → AllByRecursion (λ s. (b.links s.link).stalled ≡ None) ss
spare_before [] a b same h = tt
spare_before (s ∷ ss) a b same h = (quiet_before (a.links s.link) (b.links s.link) (same s.link) ∙ h.0, spare_before ss a b same h.1)

-- ---- one that a wait answered

awake_same : (o : Option ℕ) (a b : WireState) → ((k : ℕ) → o ≡ Some k → b.links k ≡ a.links k) → IsAwake a o → IsAwake b o
awake_same None a b same h = h
awake_same (Some k) a b same h = ap (λ (x : Link). x.woken) (same k refl) ∙ h

one_same : (fs : List Flight) (a b : WireState) → ((k : ℕ) → 0 < flights_on fs k → b.links k ≡ a.links k) → OneIsAwake a fs → OneIsAwake b fs
one_same [] a b same h = h
one_same (f ∷ fs) a b same (inl h) = inl (awake_same f.exchange.link a b (λ k e. same k (omega (arith, on_its f.exchange.link k e))) h)
one_same (f ∷ fs) a b same (inr h) = inr (one_same fs a b (λ k p. same k (omega (arith, p))) h)

one_front : (a : WireState) (xs ys : List Flight) → OneIsAwake a xs → OneIsAwake a (xs ++ ys)
one_front a [] ys h = absurd h
one_front a (x ∷ xs) ys (inl h) = inl h
one_front a (x ∷ xs) ys (inr h) = inr (one_front a xs ys h)

one_behind : (a : WireState) (xs ys : List Flight) → OneIsAwake a ys → OneIsAwake a (xs ++ ys)
one_behind a [] ys h = h
one_behind a (x ∷ xs) ys h = inr (one_behind a xs ys h)

one_split : (a : WireState) (xs ys : List Flight) → OneIsAwake a (xs ++ ys) → OneIsAwake a xs ⊎ OneIsAwake a ys
one_split a [] ys h = inr h
one_split a (x ∷ xs) ys (inl h) = inl (inl h)
one_split a (x ∷ xs) ys (inr h) = elim (one_split a xs ys h) [ inl i ↦ inl (inr i) | inr i ↦ inr i ]

asleep_awake : (a : WireState) (o : Option ℕ) → AsleepOn a o → IsAwake a o → ⊥
asleep_awake a None s h = h
asleep_awake a (Some k) s h = let e : true ≡ false = sym h ∙ s in cc

all_asleep : (a : WireState) (fs : List Flight) → AllByRecursion (λ f. AsleepOn a f.exchange.link) fs → OneIsAwake a fs → ⊥
all_asleep a [] s h = h
all_asleep a (f ∷ fs) s (inl h) = asleep_awake a f.exchange.link s.0 h
all_asleep a (f ∷ fs) s (inr h) = all_asleep a fs s.1 h

-- a link that is held and was woken is that of an exchange in flight
held_awake : (fs : List Flight) (a : WireState) (k : ℕ) → (a.links k).woken ≡ true → 0 < flights_on fs k → OneIsAwake a fs
held_awake [] a k w h = absurd (omega (arith, h))
held_awake (f ∷ fs) a k w h = elim (cases_lt 0 (on_link f.exchange.link k)) [ inl some ↦ inl (its_awake f.exchange.link some) | inr none ↦ inr (held_awake fs a k w (omega (arith, h, none))) ]
  where
    its_awake : (o : Option ℕ) → 0 < on_link o k → IsAwake a o
    its_awake None some = absurd (omega (arith, some))
    its_awake (Some i) some = elim (cases_eq i k) [ inl e ↦ subst (λ (x : ℕ). (a.links x).woken ≡ true) (sym e) w | inr n ↦ absurd (off (on_link (Some i) k) k (on_other i k n) some) ]

spare_stalled : (ss : List Spare) (a : WireState) (k : ℕ) → AllByRecursion (λ s. (a.links s.link).stalled ≡ None) ss → 0 < spare_on ss k → (a.links k).stalled ≡ None
spare_stalled [] a k h some = absurd (omega (arith, some))
spare_stalled (s ∷ ss) a k h some = elim (cases_eq s.link k) [
  | inl e ↦ subst (λ (x : ℕ). (a.links x).stalled ≡ None) e h.0
  | inr n ↦ spare_stalled ss a k h.1 (omega (arith, some, on_other s.link k n))
]

ripe_stalled : (l : Link) → IsRipe l → l.stalled ≡ None → ⊥
ripe_stalled l (links.ToSend o s) e = let q : None ≡ Some links.Sending = sym e ∙ s in cc
ripe_stalled l (links.ToReceive o s short) e = let q : None ≡ Some links.Receiving = sym e ∙ s in cc

ripe_open : (l : Link) → IsRipe l → l.is_open ≡ true
ripe_open l (links.ToSend o s) = o
ripe_open l (links.ToReceive o s short) = o

-- ---- the counts

module _ (since : WireState) (steady : since.nature.steady ≡ true) where
  abbrev Spares : WireState → Type 0
  Spares a = a.given < 2 ^ 63 → SparesWire since a

  below : (n m k : ℕ) → n ≤ m → m < k → n < k
  below n m k h i = omega (arith, h, i)

  is_steady : (a : WireState) → a.nature ≡ since.nature → a.nature.steady ≡ true
  is_steady a n = ap (λ (x : Nature). x.steady) n ∙ steady

  poll_spares : (e f : Exchanging) (a b : WireState) → a.nature ≡ since.nature → Touches e f a b → Spares a → Spares b
  poll_spares e f a b n t h few =
      let given = below a.given b.given (2 ^ 63) (after_link e.address e.link f.link a b t.link t.others).given few in
      let s = h given in
      record {
        provoked = t.unprovoked (λ none. (is_steady a n, given)) ∙ s.provoked;
        faults = λ never. t.not_due (is_steady a n) given 0 (ap (λ (x : Nature). x.every) n ∙ never) (λ none. refl) ∙ s.faults never;
      }

  closed_spares : (i : ℕ) (a b : WireState) → Closes i a b → Spares a → Spares b
  closed_spares i a b c h few =
      let s = h (below a.given b.given (2 ^ 63) (omega (arith, c.only.given)) few) in
      record { provoked = c.only.provoked ∙ s.provoked; faults = λ never. c.faults ∙ s.faults never }

  same_spares : (a b : WireState) → b ≡ a → Spares a → Spares b
  same_spares a b e h = subst Spares (sym e) h

  shut_spares : (o : Option ℕ) (a b : WireState) → Shuts o a b → Spares a → Spares b
  shut_spares None a b s h = same_spares a b s h
  shut_spares (Some i) a b c h = closed_spares i a b c h

  shut_or : (o : Option ℕ) (a b : WireState) → (b ≡ a) ⊎ Shuts o a b → Spares a → Spares b
  shut_or o a b (inl e) h = same_spares a b e h
  shut_or o a b (inr s) h = shut_spares o a b s h

  settle_spares : (o : Option ℕ) (address : Address) (p q : Pooled) (a b : WireState) → Settles o address p q a b → Spares a → Spares b
  settle_spares o address p q a b (NoLink e f g) h = same_spares a b g h
  settle_spares o address p q a b (Kept i e room f g) h = same_spares a b g h
  settle_spares o address p q a b (Shut i e full f c) h = closed_spares i a b c h

  flight_spares : (result : Result Polled PoolFault) (f : Flight) (p q : Pooled) (a b : WireState) → a.nature ≡ since.nature → Spares a → FlightTo result f p q a b → Spares b
  flight_spares (Ok polls.Pending) f p q a b n h t = poll_spares f.exchange t.0.now a b n t.0.touches h
  flight_spares (Ok (polls.Came ticket address answer)) f p q a b n h t = settle_spares (left_link t.1.now) t.1.now.address p q t.0 b t.3 (poll_spares f.exchange t.1.now a t.0 n t.1.touches h)
  flight_spares (Ok polls.Failed) f p q a b n h t = poll_spares f.exchange t.1.now a b n t.1.touches h
  flight_spares (Err faults.Exchange) f p q a b n h t = poll_spares f.exchange t.0.now a b n t.0.touches h
  flight_spares (Err (faults.Cut received)) f p q a b n h t = poll_spares f.exchange t.0.now a b n t.0.touches h
  flight_spares (Err (faults.Reply fault received)) f p q a b n h t = poll_spares f.exchange t.0.now a b n t.0.touches h
  flight_spares (Err faults.OutOfMemory) f p q a b n h t = shut_or t.2.now.link t.1 b t.4.1 (poll_spares f.exchange t.2.now a t.1 n t.2.touches h)
  flight_spares (Err faults.Stalled) f p q a b n h t = absurd t
  flight_spares (Err faults.Budget) f p q a b n h t = absurd t

  starts_spare : (result : Result Polled PoolFault) (p q : Pooled) (a b : WireState) → a.nature ≡ since.nature → Spares a → Starts result p q a b → Spares b
  starts_spare result p q a b n h (Overruns e budget f g) = same_spares a b g h
  starts_spare result p q a b n h (Flies mid f budget begins to) = flight_spares result f mid q a b n h to
  starts_spare result p q a b n h (Starves e mid f begins is shuts) = shut_spares f.exchange.link a b shuts h

  last_spares : (result : Result Polled PoolFault) (p q : Pooled) (a b : WireState) → a.nature ≡ since.nature → Spares a → Last result p q a b → Spares b
  last_spares result p q a b n h (OfStart t) = starts_spare result p q a b n h t
  last_spares result p q a b n h (OfPoll t) = flight_spares result t.f (record p { due = t.rest }) q a b n h t.to

  -- ---- an exchange that was taken out

  -- why the next wait is the first since something moved
  data MovesOut (f : Flight) (p : Pooled) (a : WireState) : Type 0 where
    OutMoved : a.idle ≡ 0 → MovesOut f p a
    OutAwake : IsAwake a f.exchange.link → IsStalled a f.exchange → MovesOut f p a
    OutOther : OneIsAwake a (in_flight p) → MovesOut f p a
    OutFresh : f.exchange.link ≡ None → MovesOut f p a
    OutAgain : (w : Waiting) (rest : List Waiting) → p.waiting ≡ w ∷ rest → 0 < w.failed → length (in_flight p) + 1 < p.links → MovesOut f p a

  -- those that are held
  record Lists (p : Pooled) (a : WireState) : Type 0 where
    polled : AllByRecursion (λ f. IsStalled a f.exchange) p.polled
    due : AllByRecursion (λ f. IsStalled a f.exchange) p.due
    spare : AllByRecursion (λ s. (a.links s.link).stalled ≡ None) p.spare

  lists_same : (p : Pooled) (a b : WireState) → ((k : ℕ) → 0 < held_on p k → b.links k ≡ a.links k) → Lists p a → Lists p b
  lists_same p a b same h = record {
    polled = flights_stalled p.polled a b (λ k l. same k (omega (arith, l))) h.polled;
    due = flights_stalled p.due a b (λ k l. same k (omega (arith, l))) h.due;
    spare = spare_quiet p.spare a b (λ k l. same k (omega (arith, l))) h.spare;
  }

  lists_before : (p : Pooled) (a b : WireState) → ((k : ℕ) → IsAsBefore (a.links k) (b.links k)) → Lists p a → Lists p b
  lists_before p a b same h = record { polled = flights_before p.polled a b same h.polled; due = flights_before p.due a b same h.due; spare = spare_before p.spare a b same h.spare }

  lists_as : (p q : Pooled) (a : WireState) → q ≡ p → Lists p a → Lists q a
  lists_as p q a e h = subst (λ (x : Pooled). Lists x a) (sym e) h

  module _ (answer : Option (Result Reply ExchangeFault)) (f : Flight) (p : Pooled) (a b : WireState) (g : OpensGiven a) (o : Owns f p a) (h : Polls answer f a b) where
    others_same : (k : ℕ) → 0 < held_on p k → b.links k ≡ a.links k
    others_same k l = h.touches.others k (λ e. off (held_on p k) k (own_link answer f p a b g o h k e) l)

    flying_same : (k : ℕ) → 0 < flights_on (in_flight p) k → b.links k ≡ a.links k
    flying_same k l = others_same k (omega (arith, l, flights_on-append p.polled p.due k))

  fresh_moved : (address : Address) (o p : Option ℕ) (k : ℕ) (a b : WireState) → o ≡ None → p ≡ Some k → LinkAfter address o p a b → b.idle ≡ 0
  fresh_moved address None None k a b e f l = cc
  fresh_moved address None (Some i) k a b e f l = l.4
  fresh_moved address (Some j) p k a b e f l = cc

  awake_moved : (e : Exchanging) (k : ℕ) (a : WireState) → e.link ≡ Some k → IsAwake a e.link → (a.links k).woken ≡ true
  awake_moved e k a l h = subst (λ (x : Option ℕ). IsAwake a x) l h

  -- the link of an exchange that has one stays its link
  kept_link : (address : Address) (o p : Option ℕ) (i k : ℕ) (a b : WireState) → o ≡ Some i → p ≡ Some k → LinkAfter address o p a b → i ≡ k
  kept_link address None p i k a b e f l = cc
  kept_link address (Some j) None i k a b e f l = cc
  kept_link address (Some j) (Some n) i k a b e f l = let x : j ≡ i = cc in let y : n ≡ k = cc in omega (arith, x, y, l.0)

  flying_more : (xs ys : List Flight) (g : Flight) → length ((xs ++ g ∷ []) ++ ys) ≡ length (xs ++ ys) + 1
  flying_more xs ys g = omega (arith, length-append (xs ++ g ∷ []) ys, length-append xs (g ∷ []), length-append xs ys)

  pending_moves : (f : Flight) (p : Pooled) (a b : WireState) → a.nature ≡ since.nature → OpensGiven a → Owns f p a → (h : Polls None f a b) → MovesOut f p a → MovesFirst (record p { polled = p.polled ++ (record f { exchange = h.now }) ∷ [] }) b
  pending_moves f p a b n g o h (OutMoved e) = Moved (omega (arith, e, h.touches.idle))
  pending_moves f p a b n g o h (OutAwake w s) =
      let w' = h.answers in
      let same = kept_link f.exchange.address f.exchange.link h.now.link s.k w'.k a b s.link w'.link h.touches.link in
      Moved (w'.woken (is_steady a n) (subst (λ (x : ℕ). (a.links x).woken ≡ true) same (awake_moved f.exchange s.k a s.link w)) (subst (λ (x : ℕ). Awaits f.exchange (a.links x)) same s.awaits) (s.link ∙ ap (λ (x : ℕ). Some x) same))
  pending_moves f p a b n g o h (OutOther w) =
      let now = one_same (in_flight p) a b (flying_same None f p a b g o h) w in
      Awake (elim (one_split b p.polled p.due now) [
        | inl i ↦ one_front b (p.polled ++ (record f { exchange = h.now }) ∷ []) p.due (one_front b p.polled ((record f { exchange = h.now }) ∷ []) i)
        | inr i ↦ one_behind b (p.polled ++ (record f { exchange = h.now }) ∷ []) p.due i
      ])
  pending_moves f p a b n g o h (OutFresh e) = Moved (fresh_moved f.exchange.address f.exchange.link h.now.link h.answers.k a b e h.answers.link h.touches.link)
  pending_moves f p a b n g o h (OutAgain w rest e more less) = Again w rest e more (fewer (length (in_flight p)) _ p.links (flying_more p.polled p.due (record f { exchange = h.now })) less)
    where
      fewer : (n k l : ℕ) → k ≡ n + 1 → n + 1 < l → k < l
      fewer n k l e h = omega (arith, e, h)

  pending_stalled : (f : Flight) (a b : WireState) (h : Polls None f a b) → IsStalled b h.now
  pending_stalled f a b h = record { k = h.answers.k; link = h.answers.link; awaits = h.answers.awaits; ripe = h.answers.ripe; more = h.answers.more }

  -- ---- between two turns

  record Going (p : Pooled) (a : WireState) : Type 0 where
    is_nature : a.nature ≡ since.nature
    spares : Spares a
    lists : Lists p a
    room : length (in_flight p) ≤ p.links
    moves : MovesFirst p a

  going_as : (p q : Pooled) (a : WireState) → q ≡ p → Going p a → Going q a
  going_as p q a e h = subst (λ (x : Pooled). Going x a) (sym e) h

  record Out (f : Flight) (p : Pooled) (a : WireState) : Type 0 where
    owns : Owns f p a
    is_nature : a.nature ≡ since.nature
    spares : Spares a
    lists : Lists p a
    room : length (in_flight p) < p.links
    moves : MovesOut f p a

  no_end : (result : Result Polled PoolFault) (v : Result Polled PoolFault) → is_end v ≡ true → is_end v ≡ false → ⊥
  no_end result v e f = let q : true ≡ false = sym e ∙ f in cc

  more_links : (n k l : ℕ) → k ≡ n + 1 → n < l → k ≤ l
  more_links n k l e h = omega (arith, e, h)

  flight_goes : (result : Result Polled PoolFault) (f : Flight) (p q : Pooled) (a b : WireState) → is_end result ≡ false → OpensGiven a → Out f p a → FlightTo result f p q a b → Going q b
  flight_goes (Ok polls.Pending) f p q a b e g o t =
      let l = lists_same p a b (others_same None f p a b g o.owns t.0) o.lists in
      going_as (record p { polled = p.polled ++ (record f { exchange = t.0.now }) ∷ [] }) q b t.1 (record {
        is_nature = t.0.touches.nature ∙ o.is_nature;
        spares = flight_spares (Ok polls.Pending) f p q a b o.is_nature o.spares t;
        lists = record {
          polled = all_append (λ (x : Flight). IsStalled b x.exchange) p.polled ((record f { exchange = t.0.now }) ∷ []) l.polled (pending_stalled f a b t.0, tt);
          due = l.due;
          spare = l.spare;
        };
        room = more_links (length (in_flight p)) _ p.links (flying_more p.polled p.due (record f { exchange = t.0.now })) o.room;
        moves = pending_moves f p a b o.is_nature g o.owns t.0 o.moves;
      })
  flight_goes (Ok polls.Failed) f p q a b e g o t =
      let l = lists_same p a b (others_same (Some (Err t.0)) f p a b g o.owns t.1) o.lists in
      going_as _ q b t.4 (record {
        is_nature = t.1.touches.nature ∙ o.is_nature;
        spares = flight_spares (Ok polls.Failed) f p q a b o.is_nature o.spares t;
        lists = record { polled = l.polled; due = l.due; spare = l.spare };
        room = omega (arith, o.room);
        moves = Again _ p.waiting refl (omega arith) o.room;
      })
  flight_goes (Ok (polls.Came ticket address answer)) f p q a b e g o t = absurd (no_end (Ok polls.Pending) (Ok (polls.Came ticket address answer)) refl e)
  flight_goes (Err fault) f p q a b e g o t = absurd (no_end (Ok polls.Pending) (Err fault) refl e)

  -- ---- a start

  -- none is taken where none was left
  none_taken : (first : Waiting) (old new : List Spare) (link : Option ℕ) → old ≡ [] → TakesLink first old new link → link ≡ None
  none_taken first old new None e h = refl
  none_taken first old new (Some i) e h = absurd (no_split h.1.3.before (sym e ∙ h.1.3.is_old))
    where
      no_split : (xs : List Spare) → [] ≡ xs ++ h.1.0 ∷ h.1.3.after → ⊥
      no_split [] e = cc
      no_split (x ∷ xs) e = cc

  -- nor by an ask that failed
  none_again : (first : Waiting) (old new : List Spare) (link : Option ℕ) → 0 < first.failed → TakesLink first old new link → link ≡ None
  none_again first old new None h t = refl
  none_again first old new (Some i) h t = absurd (omega (arith, h, t.0))

  spare_rest : (first : Waiting) (old new : List Spare) (link : Option ℕ) (a : WireState) → TakesLink first old new link → AllByRecursion (λ s. (a.links s.link).stalled ≡ None) old → AllByRecursion (λ s. (a.links s.link).stalled ≡ None) new
  spare_rest first old new None a t h = subst (λ (l : List Spare). AllByRecursion (λ s. (a.links s.link).stalled ≡ None) l) (sym t.0) h
  spare_rest first old new (Some i) a t h =
      let o = t.1.3 in
      let all = subst (λ (l : List Spare). AllByRecursion (λ s. (a.links s.link).stalled ≡ None) l) o.is_old h in
      subst (λ (l : List Spare). AllByRecursion (λ s. (a.links s.link).stalled ≡ None) l) (sym o.is_new)
      (all_append (λ (s : Spare). (a.links s.link).stalled ≡ None) o.before o.after (all_front _ o.before (t.1.0 ∷ o.after) all) (all_back (λ (s : Spare). (a.links s.link).stalled ≡ None) o.before (t.1.0 ∷ o.after) all).1)

  same_first : (v w : Waiting) (xs ys : List Waiting) → v ∷ xs ≡ w ∷ ys → v ≡ w
  same_first v w xs ys e = cc

  begun_moves : (p q : Pooled) (f : Flight) (a : WireState) → MovesFirst p a → (b : Begins p q f) → MovesOut f q a
  begun_moves p q f a (Moved e) b = OutMoved e
  begun_moves p q f a (Awake w) b = OutOther (subst (λ (x : Pooled). OneIsAwake a (in_flight x)) (sym b.is_new) w)
  begun_moves p q f a (Again w rest e more less) b =
      let same = same_first w b.first rest b.rest (sym e ∙ b.is_first) in
      OutFresh (ap (λ (x : Flight). x.exchange.link) b.flight ∙ none_again b.first p.spare b.spare b.link (subst (λ (x : Waiting). 0 < x.failed) same more) b.takes)
  begun_moves p q f a (HoldsNone e s) b = OutFresh (ap (λ (x : Flight). x.exchange.link) b.flight ∙ none_taken b.first p.spare b.spare b.link s b.takes)

  begun_lists : (p q : Pooled) (f : Flight) (a : WireState) → Lists p a → (b : Begins p q f) → Lists q a
  begun_lists p q f a h b = lists_as (record p { waiting = b.rest; spare = b.spare; started = p.started + 1 }) q a b.is_new (record { polled = h.polled; due = h.due; spare = spare_rest b.first p.spare b.spare b.link a b.takes h.spare })

  begun_out : (p q : Pooled) (f : Flight) (a : WireState) → SuitsWire p a → Going p a → Begins p q f → Out f q a
  begun_out p q f a s h b = record {
    owns = owns_begun p q f a s b;
    is_nature = h.is_nature;
    spares = h.spares;
    lists = begun_lists p q f a h.lists b;
    room = subst (λ (x : Pooled). length (in_flight x) < x.links) (sym b.is_new) b.room;
    moves = begun_moves p q f a h.moves b;
  }

  starts_go : (result : Result Polled PoolFault) (p q : Pooled) (a b : WireState) → is_end result ≡ false → OpensGiven a → SuitsWire p a → Going p a → Starts result p q a b → Going q b
  starts_go result p q a b e g s h (Overruns r budget f i) = absurd (no_end result (Err faults.Budget) refl (subst (λ (x : Result Polled PoolFault). is_end x ≡ false) r e))
  starts_go result p q a b e g s h (Flies mid f budget begins to) = flight_goes result f mid q a b e g (begun_out p mid f a s h begins) to
  starts_go result p q a b e g s h (Starves r mid f begins is shuts) = absurd (no_end result (Err faults.OutOfMemory) refl (subst (λ (x : Result Polled PoolFault). is_end x ≡ false) r e))

  -- ---- the next

  next_awake : (p : Pooled) (f : Flight) (rest : List Flight) (a : WireState) → IsStalled a f.exchange → OneIsAwake a p.polled ⊎ OneIsAwake a (f ∷ rest) → MovesOut f (record p { due = rest }) a
  next_awake p f rest a s (inl i) = OutOther (one_front a p.polled rest i)
  next_awake p f rest a s (inr (inl i)) = OutAwake i s
  next_awake p f rest a s (inr (inr i)) = OutOther (one_behind a p.polled rest i)

  one_less : (xs ys : List Flight) (g : Flight) → length (xs ++ g ∷ ys) ≡ length (xs ++ ys) + 1
  one_less xs ys g = omega (arith, length-append xs (g ∷ ys), length-append xs ys)

  one_out : (n k l : ℕ) → k ≡ n + 1 → k < l → n + 1 < l
  one_out n k l e h = omega (arith, e, h)

  no_flight : (xs : List Flight) (f : Flight) (rest : List Flight) → xs ++ f ∷ rest ≡ [] → ⊥
  no_flight [] f rest e = cc
  no_flight (x ∷ xs) f rest e = cc

  next_moves : (p : Pooled) (f : Flight) (rest : List Flight) (a : WireState) → p.due ≡ f ∷ rest → IsStalled a f.exchange → MovesFirst p a → MovesOut f (record p { due = rest }) a
  next_moves p f rest a e s (Moved m) = OutMoved m
  next_moves p f rest a e s (Awake w) = next_awake p f rest a s (one_split a p.polled (f ∷ rest) (subst (λ (l : List Flight). OneIsAwake a (p.polled ++ l)) e w))
  next_moves p f rest a e s (Again w later is more less) =
      OutAgain w later is more (one_out (length (p.polled ++ rest)) (length (in_flight p)) p.links (ap (λ (l : List Flight). length (p.polled ++ l)) e ∙ one_less p.polled rest f) less)
  next_moves p f rest a e s (HoldsNone none spare) = absurd (no_flight p.polled f rest (subst (λ (l : List Flight). p.polled ++ l ≡ []) e none))

  next_room : (p : Pooled) (f : Flight) (rest : List Flight) → p.due ≡ f ∷ rest → length (in_flight p) ≤ p.links → length (p.polled ++ rest) < p.links
  next_room p f rest e h =
      let all : length (in_flight p) ≡ length (p.polled ++ f ∷ rest) = ap (λ (l : List Flight). length (p.polled ++ l)) e in
      omega (arith, all, h, length-append p.polled (f ∷ rest), length-append p.polled rest)

  next_out : (p : Pooled) (f : Flight) (rest : List Flight) (a : WireState) → SuitsWire p a → Going p a → p.due ≡ f ∷ rest → Out f (record p { due = rest }) a
  next_out p f rest a s h e =
      let d = subst (λ (l : List Flight). AllByRecursion (λ x. IsStalled a x.exchange) l) e h.lists.due in
      record {
        owns = owns_next p f rest a s e;
        is_nature = h.is_nature;
        spares = h.spares;
        lists = record { polled = h.lists.polled; due = d.1; spare = h.lists.spare };
        room = next_room p f rest e h.room;
        moves = next_moves p f rest a e d.0 h.moves;
      }

  round_moves : (p q : Pooled) (a : WireState) → in_flight q ≡ in_flight p → q.waiting ≡ p.waiting → q.spare ≡ p.spare → q.links ≡ p.links → MovesFirst p a → MovesFirst q a
  round_moves p q a e f g l (Moved m) = Moved m
  round_moves p q a e f g l (Awake w) = Awake (subst (λ (x : List Flight). OneIsAwake a x) (sym e) w)
  round_moves p q a e f g l (Again w rest is more less) = Again w rest (f ∙ is) more (omega (arith, ap (λ (x : List Flight). length x) e, l, less))
  round_moves p q a e f g l (HoldsNone none spare) = HoldsNone (e ∙ none) (g ∙ spare)

  round_lists : (p : Pooled) (a : WireState) → Lists p a → Lists (record p { polled = []; due = p.polled ++ p.due }) a
  round_lists p a h = record { polled = tt; due = all_append (λ (x : Flight). IsStalled a x.exchange) p.polled p.due h.polled h.due; spare = h.spare }

  gathered_lists : (p : Pooled) (a : WireState) → Lists p a → Lists (record p { polled = in_flight p; due = [] }) a
  gathered_lists p a h = record { polled = all_append (λ (x : Flight). IsStalled a x.exchange) p.polled p.due h.polled h.due; due = tt; spare = h.spare }

  going_on : IsKeptWhileOn Going
  going_on = record {
    starts = starts_go;
    polls = λ result p q a b e g s h n. flight_goes result n.f (record p { due = n.rest }) q a b e g (next_out p n.f n.rest a s h n.is_next) n.to;
    rounds = λ p a h. record {
      is_nature = h.is_nature;
      spares = h.spares;
      lists = round_lists p a h.lists;
      room = h.room;
      moves = round_moves p (record p { polled = []; due = p.polled ++ p.due }) a refl refl refl refl h.moves;
    };
  }

  gathered_goes : (p : Pooled) (a : WireState) → Going p a → Going (record p { polled = in_flight p; due = [] }) a
  gathered_goes p a h = record {
    is_nature = h.is_nature;
    spares = h.spares;
    lists = gathered_lists p a h.lists;
    room = subst (λ (l : List Flight). length l ≤ p.links) (sym (append-nil (in_flight p))) h.room;
    moves = round_moves p (record p { polled = in_flight p; due = [] }) a (append-nil (in_flight p)) refl refl refl h.moves;
  }

  -- ---- before a wait

  held_length : (p : Pooled) → length (held p) ≡ length p.waiting + length (in_flight p)
  held_length p = omega (arith, length-append (map ask_waiting p.waiting) (map ask_flying (in_flight p)), length-map p.waiting ask_waiting, length-map (in_flight p) ask_flying)

  some_flies : (n l h : ℕ) → n ≡ min l h → 0 < l → 0 < h → 0 < n
  some_flies n l h e i j = omega (arith, e, i, j)

  idle_none : (w : WireState) (p : Pooled) (a : WireState) → MayWait w p a → 0 < p.links → 0 < length (held p) → MovesFirst p a → a.idle ≡ 0
  idle_none w p a m links some (Moved e) = e
  idle_none w p a m links some (Awake one) = absurd (elim (one_split a p.polled p.due one) [
    | inl i ↦ all_asleep a p.polled m.asleep i
    | inr i ↦ subst (λ (l : List Flight). OneIsAwake a l) m.none_due i
  ])
  idle_none w p a m links some (Again x rest e more less) =
      absurd (omega (arith, m.full, less, held_length p, ap (λ (l : List Waiting). length l) e, ap (λ (l : List Flight). length (p.polled ++ l)) m.none_due, length-append p.polled []))
  idle_none w p a m links some (HoldsNone none spare) =
      absurd (omega (arith, some_flies (length p.polled) p.links (length (held p)) m.full links some, ap (λ (l : List Flight). length l) none, length-append p.polled p.due))

  -- the oldest exchange, which waits
  record Oldest (p : Pooled) : Type 0 where
    f : Flight
    rest : List Flight
    is : p.polled ≡ f ∷ rest

  oldest_of : (p : Pooled) (xs : List Flight) → p.polled ≡ xs → 0 < length xs → Oldest p
  oldest_of p [] e h = absurd (omega (arith, h))
  oldest_of p (x ∷ xs) e h = record { f = x; rest = xs; is = e }

  waited_spares : (answer : Result Ready Fault) (a b : WireState) (k : ℕ) → a.nature ≡ since.nature → IsWait answer a b → IsRipe (a.links k) → a.idle ≡ 0 → Spares a → Spares b
  waited_spares answer a b k n w ripe idle h few =
      let s = h (below a.given b.given (2 ^ 63) (omega (arith, w.only.given)) few) in
      let none = (w.steady (is_steady a n)).unprovoked k ripe idle in
      record {
        provoked = none.0 ∙ s.provoked;
        faults = λ never. (none.1 0 (ap (λ (x : Nature). x.every) n ∙ never)).same ∙ s.faults never;
      }

  wait_spares : (result : Result Stepped PoolFault) (p q : Pooled) (a b : WireState) (k : ℕ) → a.nature ≡ since.nature → IsRipe (a.links k) → a.idle ≡ 0 → Spares a → WaitsTo result p q a b → Spares b
  wait_spares result p q a b k n ripe idle h (Passes ready e w i f) = waited_spares (Ok ready) a b k n w ripe idle h
  wait_spares result p q a b k n ripe idle h (Stalls ready mid w i u) = shut_spares u.f.exchange.link mid b u.shuts (waited_spares (Ok ready) a mid k n w ripe idle h)
  wait_spares result p q a b k n ripe idle h (Misses mid w u) = shut_spares u.f.exchange.link mid b u.shuts (waited_spares (Err failures.Failed) a mid k n w ripe idle h)
  wait_spares result p q a b k n ripe idle h (Lacks w e f) = waited_spares (Err failures.OutOfMemory) a b k n w ripe idle h

  -- ---- after a wait

  -- all that is ready but the links
  record Prepared (p : Pooled) (a : WireState) : Type 0 where
    lists : Lists p a
    room : length (in_flight p) ≤ p.links
    moves : MovesFirst p a

  prepared_as : (p q : Pooled) (a : WireState) → q ≡ p → Prepared p a → Prepared q a
  prepared_as p q a e h = subst (λ (x : Pooled). Prepared x a) (sym e) h

  woken_moves : (answer : Ready) (p : Pooled) (a b : WireState) → a.nature ≡ since.nature → ((k : ℕ) → open_on a k ≤ held_on p k) → Lists p a → IsWait (Ok answer) a b → MovesFirst p b
  woken_moves kinds.Door p a b n open_held l w = absurd ((w.steady (is_steady a n)).ripe kinds.Door refl)
  woken_moves (kinds.Link k) p a b n open_held l w =
      let ripe : IsRipe (a.links k) = (w.steady (is_steady a n)).ripe (kinds.Link k) refl in
      let is_held : 0 < held_on p k = omega (arith, open_held k, open_one (a.links k).is_open (ripe_open (a.links k) ripe)) in
      elim (cases_lt 0 (flights_on (in_flight p) k)) [
        | inl some ↦ Awake (held_awake (in_flight p) b k (ap (λ (x : Link). x.woken) w.ok.1) some)
        | inr none ↦ absurd (ripe_stalled (a.links k) ripe (spare_stalled p.spare a k l.spare (omega (arith, is_held, none, flights_on-append p.polled p.due k))))
      ]

  shut_same : (o : Option ℕ) (r : Pooled) (a b : WireState) → ((k : ℕ) → o ≡ Some k → held_on r k ≡ 0) → Shuts o a b → (k : ℕ) → 0 < held_on r k → b.links k ≡ a.links k
  shut_same None r a b none s k l = ap (λ (w : WireState). w.links k) s
  shut_same (Some i) r a b none c k l = c.only.others k (λ e. off (held_on r i) k (none i refl) (subst (λ (x : ℕ). 0 < held_on r x) e l))

  gives_up_prepared : (fault : PoolFault) (result : Result Stepped PoolFault) (p q : Pooled) (a b : WireState) → SuitsWire p a → Lists p a → length (in_flight p) ≤ p.links → GivesUp fault result p q a b → IfOk result (λ stepped. Prepared q b)
  gives_up_prepared fault (Err shown) p q a b s l room u = tt
  gives_up_prepared fault (Ok done) p q a b s l room u =
      let r : Pooled = record p { polled = u.rest; due = [] } in
      let all = subst (λ (fs : List Flight). AllByRecursion (λ x. IsStalled a x.exchange) fs) u.is_oldest (all_append (λ (x : Flight). IsStalled a x.exchange) p.polled p.due l.polled l.due) in
      let kept = lists_same r a b (shut_same u.f.exchange.link r a b (own_none u.f.exchange.link (held_on r) a (given_up_owned p u.f u.rest a s u.is_oldest)) u.shuts) (record { polled = all.1; due = tt; spare = l.spare }) in
      let less : length (u.rest ++ []) < p.links = omega (arith, length-append u.rest [], ap (λ (fs : List Flight). length fs) u.is_oldest, room) in
      prepared_as _ q b u.to.1 (record {
        lists = record { polled = kept.polled; due = kept.due; spare = kept.spare };
        room = omega (arith, less);
        moves = Again _ p.waiting refl (omega arith) less;
      })

  ok_as : (result other : Result Stepped PoolFault) (q : Pooled) (b : WireState) → result ≡ other → IfOk other (λ stepped. Prepared q b) → IfOk result (λ stepped. Prepared q b)
  ok_as result other q b e h = subst (λ (x : Result Stepped PoolFault). IfOk x (λ stepped. Prepared q b)) (sym e) h

  waited_lists : (answer : Result Ready Fault) (p : Pooled) (a b : WireState) → IsWait answer a b → Lists p a → Lists p b
  waited_lists answer p a b w l = lists_before p a b (waits_only answer a b w) l

  wait_prepared : (result : Result Stepped PoolFault) (p q : Pooled) (a b : WireState) → SuitsWire p a → ((k : ℕ) → open_on a k ≤ held_on p k) → Going p a → WaitsTo result p q a b → IfOk result (λ stepped. Prepared q b)
  wait_prepared result p q a b s open_held h (Passes ready e w i f) =
      ok_as result (Ok Waited) q b e (prepared_as p q b f (record { lists = waited_lists (Ok ready) p a b w h.lists; room = h.room; moves = woken_moves ready p a b h.is_nature open_held h.lists w }))
  wait_prepared result p q a b s open_held h (Stalls ready mid w i u) = gives_up_prepared faults.Stalled result p q mid b (waits_suits (Ok ready) p a mid w s) (waited_lists (Ok ready) p a mid w h.lists) h.room u
  wait_prepared result p q a b s open_held h (Misses mid w u) = gives_up_prepared faults.Exchange result p q mid b (waits_suits (Err failures.Failed) p a mid w s) (waited_lists (Err failures.Failed) p a mid w h.lists) h.room u
  wait_prepared result p q a b s open_held h (Lacks w e f) = ok_as result (Err faults.OutOfMemory) q b e tt

  -- ---- after a reply

  settle_lists : (o : Option ℕ) (address : Address) (p q : Pooled) (a b : WireState) → ((k : ℕ) → o ≡ Some k → held_on p k ≡ 0) → ((k : ℕ) → o ≡ Some k → (a.links k).stalled ≡ None) → Settles o address p q a b → Lists p a → Lists q b
  settle_lists o address p q a b none quiet (NoLink e f g) l = lists_as p q b f (subst (λ (x : WireState). Lists p x) (sym g) l)
  settle_lists o address p q a b none quiet (Kept k e room f g) l =
      lists_as (record p { spare = p.spare ++ (record { link = k; authority = authority_of address }) ∷ [] }) q b f (subst (λ (x : WireState). Lists (record p { spare = p.spare ++ (record { link = k; authority = authority_of address }) ∷ [] }) x) (sym g) (record {
        polled = l.polled;
        due = l.due;
        spare = all_append (λ (s : Spare). (a.links s.link).stalled ≡ None) p.spare ((record { link = k; authority = authority_of address }) ∷ []) l.spare (quiet k e, tt);
      }))
  settle_lists o address p q a b none quiet (Shut k e full f c) l = lists_as p q b f (lists_same p a b (shut_same (Some k) p a b (λ i x. none i (e ∙ x)) c) l)

  settle_flying : (o : Option ℕ) (address : Address) (p q : Pooled) (a b : WireState) → Settles o address p q a b → (in_flight q ≡ in_flight p) × (q.links ≡ p.links) × (b.idle ≡ a.idle)
  settle_flying o address p q a b (NoLink e f g) = (ap in_flight f, ap (λ (x : Pooled). x.links) f, ap (λ (x : WireState). x.idle) g)
  settle_flying o address p q a b (Kept k e room f g) = (ap in_flight f, ap (λ (x : Pooled). x.links) f, ap (λ (x : WireState). x.idle) g)
  settle_flying o address p q a b (Shut k e full f c) = (ap in_flight f, ap (λ (x : Pooled). x.links) f, c.idle)

  came_prepared : (ticket : ℕ) (address : Address) (answer : Reply) (f : Flight) (p q : Pooled) (a b : WireState) → OpensGiven a → Out f p a → FlightTo (Ok (polls.Came ticket address answer)) f p q a b → Prepared q b
  came_prepared ticket address answer f p q a b g o t =
      let r = t.1.answers in
      let same = settle_flying (left_link t.1.now) t.1.now.address p q t.0 b t.3 in
      record {
        lists = settle_lists (left_link t.1.now) t.1.now.address p q t.0 b
            (λ k e. own_link (Some (Ok answer)) f p a t.0 g o.owns t.1 k (left_is t.1.now.standing t.1.now.link k e).1)
            (λ k e. let l = left_is t.1.now.standing t.1.now.link k e in subst (λ (x : ℕ). (t.0.links x).stalled ≡ None) (one_value t.1.now.link r.link l.1) (r.is_open l.0).1)
            t.3 (lists_same p a t.0 (others_same (Some (Ok answer)) f p a t.0 g o.owns t.1) o.lists);
        room = omega (arith, ap (λ (l : List Flight). length l) same.0, same.1, o.room);
        moves = Moved (same.2 ∙ r.idle);
      }

  last_prepared : (ticket : ℕ) (address : Address) (answer : Reply) (p q : Pooled) (a b : WireState) → OpensGiven a → SuitsWire p a → Going p a → Last (Ok (polls.Came ticket address answer)) p q a b → Prepared q b
  last_prepared ticket address answer p q a b g s h (OfStart (Overruns r budget f i)) = absurd (no_came ticket address answer faults.Budget r)
  last_prepared ticket address answer p q a b g s h (OfStart (Flies mid f budget begins to)) = came_prepared ticket address answer f mid q a b g (begun_out p mid f a s h begins) to
  last_prepared ticket address answer p q a b g s h (OfStart (Starves r mid f begins is shuts)) = absurd (no_came ticket address answer faults.OutOfMemory r)
  last_prepared ticket address answer p q a b g s h (OfPoll n) = came_prepared ticket address answer n.f (record p { due = n.rest }) q a b g (next_out p n.f n.rest a s h n.is_next) n.to

-- ---- an exchange that hangs

wait_whole : (result : Result Stepped PoolFault) (p q : Pooled) (a b : WireState) → WaitsTo result p q a b → (k : ℕ) → SameWhole (a.links k) (b.links k)
wait_whole result p q a b (Passes ready e w i f) k = woken_whole (a.links k) (b.links k) (waits_only (Ok ready) a b w k)
wait_whole result p q a b (Stalls ready mid w i u) k = whole_then (a.links k) (mid.links k) (b.links k) (woken_whole (a.links k) (mid.links k) (waits_only (Ok ready) a mid w k)) (shut_whole u.f.exchange.link mid b u.shuts k)
wait_whole result p q a b (Misses mid w u) k = whole_then (a.links k) (mid.links k) (b.links k) (woken_whole (a.links k) (mid.links k) (waits_only (Err failures.Failed) a mid w k)) (shut_whole u.f.exchange.link mid b u.shuts k)
wait_whole result p q a b (Lacks w e f) k = woken_whole (a.links k) (b.links k) (waits_only (Err failures.OutOfMemory) a b w k)

shut_nature : (o : Option ℕ) (a b : WireState) → Shuts o a b → b.nature ≡ a.nature
shut_nature None a b s = ap (λ (w : WireState). w.nature) s
shut_nature (Some i) a b c = c.only.nature

wait_nature : (result : Result Stepped PoolFault) (p q : Pooled) (a b : WireState) → WaitsTo result p q a b → b.nature ≡ a.nature
wait_nature result p q a b (Passes ready e w i f) = w.only.nature
wait_nature result p q a b (Stalls ready mid w i u) = shut_nature u.f.exchange.link mid b u.shuts ∙ w.only.nature
wait_nature result p q a b (Misses mid w u) = shut_nature u.f.exchange.link mid b u.shuts ∙ w.only.nature
wait_nature result p q a b (Lacks w e f) = w.only.nature

has_hung : (asked : List Address) (limit : ℕ) (e : Exchanging) (a b : WireState) → Follows limit a e → (s : IsStalled a e) → Hangs e (a.links s.k) → Contains asked e.address → ((k : ℕ) → SameWhole (a.links k) (b.links k)) → b.nature ≡ a.nature → HasHung asked limit b
has_hung asked limit e a b h s hang is same n =
    let stands = subst (λ (o : Option ℕ). StandsOn (bytes_of (sent_of h.before)) (received_of h.before) e o a) s.link h.stands in
    let peer = subst (λ (o : Option ℕ). HasPeer e.address o a) s.link h.peer in
    let now = same s.k in
    record {
      address = e.address;
      is_asked = is;
      received = e.received;
      on = record {
        k = s.k;
        is_address = h.is_address;
        peer = now.peer ∙ peer ∙ ap (λ (x : Nature). told_by x.tells (e.address.host, e.address.port)) (sym n);
        before = h.before;
        replied = h.replied;
        sent_is = λ fact told. stands.0 fact (sym now.sent ∙ told) ∙ ap (λ (t : List ℕ). bytes_of (sent_of h.before) ++ t) (hang.sent ∙ request_is e.address);
        received_is = λ fact told. stands.1 fact (sym now.received ∙ told);
      };
      none_left = ap₂ some_left now.received now.owed ∙ hang.none_left;
      more = ap (λ (n : ℕ). reply_of e.received false n) (sym h.is_limit) ∙ s.more;
    }

-- ---- a step

asks_kept : (home : Address → Type 0) → LinksKept home (λ times a. Unit {0})
asks_kept home = record {
  same = λ was is a same h. tt;
  poll = λ e f rest a b s t h. tt;
  drop = λ o rest a closed h. tt;
  shut = λ o rest a b s h. tt;
  woken = λ times a b given nature same h. tt;
}

module _ (one : AuthoritiesAreHostsAndPorts) (old : Pooled) (wire : WireState) (given : OpensGiven wire) (suits : SuitsWire old wire) (follows : AnswersSoFar old wire) (prepared : WaitsReady old wire)
    (steady : wire.nature.steady ≡ true) (some_links : 0 < old.links) where
  abbrev addresses : List Address
  addresses = map (λ (ask : Ask). ask.address) (held old)

  before : Going wire steady old wire
  before = record {
    is_nature = refl;
    spares = λ few. record { provoked = refl; faults = λ never. refl };
    lists = record { polled = prepared.polled; due = prepared.due; spare = prepared.spare };
    room = prepared.room;
    moves = prepared.moves;
  }

  first : (line : Pooled) → Lines old line → Going wire steady line wire
  first line l = in_line (λ (x : Pooled). Going wire steady x wire) old line l (gathered_goes wire steady old wire before) before

  -- a moment of the run
  record Then (mid : Pooled) (between : WireState) : Type 0 where
    fares : Fares false wire mid between
    goes : Going wire steady mid between
    so_far : AnswersSoFar mid between
    opens : Owning (λ address. Unit {0}) OpenHeld mid between
    are_asked : Owning (Contains addresses) (λ times a. Unit {0}) mid between
    same_limit : mid.limit ≡ old.limit
    same_links : mid.links ≡ old.links
    same_count : length (held mid) ≡ length (held old)

  then_at : (line : Pooled) → Lines old line → (mid : Pooled) (between : WireState) → Running line mid wire between → Then mid between
  then_at line l mid between r = record {
    fares = running_fares false wire line mid wire between (fares_first line wire (suits_lined old line wire l suits) given) r;
    goes = running_goes (Going wire steady) (going_on wire steady) line mid wire between given (suits_lined old line wire l suits) (first line l) r;
    so_far = by_running AnswersSoFar (answers_are_kept one) line mid wire between given (suits_lined old line wire l suits) (by_line AnswersSoFar (answers_are_kept one) old line wire l follows) r;
    opens = by_running (Owning (λ address. Unit {0}) OpenHeld) opens_kept line mid wire between given (suits_lined old line wire l suits) (by_line (Owning (λ address. Unit {0}) OpenHeld) opens_kept old line wire l (open_in old wire prepared.open_held)) r;
    are_asked = by_running (Owning (Contains addresses) (λ times a. Unit {0})) asks_are line mid wire between given (suits_lined old line wire l suits)
        (by_line (Owning (Contains addresses) (λ times a. Unit {0})) asks_are old line wire l (record { asks = asks_in (Contains addresses) old (all_held (held old)); known = tt })) r;
    same_limit = ap (λ (x : Pooled). x.limit) (runs_bounds r.moments line mid wire between r.runs ∙ lines_bounds old line l);
    same_links = ap (λ (x : Pooled). x.links) (runs_bounds r.moments line mid wire between r.runs ∙ lines_bounds old line l);
    same_count = length_permutation (held line) (held mid) (running_holds line mid wire between r) ∙ ap (λ (asks : List Ask). length asks) (lined_held old line l);
  }
    where
      opens_kept : IsKept (Owning (λ address. Unit {0}) OpenHeld)
      opens_kept = owning_is_kept (λ address. Unit {0}) OpenHeld open_kept

      asks_are : IsKept (Owning (Contains addresses) (λ times a. Unit {0}))
      asks_are = owning_is_kept (Contains addresses) (λ times a. Unit {0}) (asks_kept (Contains addresses))

  spared_or_hung : (result : Result Stepped PoolFault) (mid new : Pooled) (between wire' : WireState) → wire'.given < 2 ^ 63 → MayWait wire mid between → 0 < length (held old) → Then mid between → WaitsTo result mid new between wire'
      → SparesWire wire wire' ⊎ HasHung addresses old.limit wire'
  spared_or_hung result mid new between wire' few m some t w =
      let idle = idle_none wire steady wire mid between m (omega (arith, some_links, t.same_links)) (omega (arith, some, t.same_count)) t.goes.moves in
      let o = oldest_of wire steady mid mid.polled refl (some_flies wire steady (length mid.polled) mid.links (length (held mid)) m.full (omega (arith, some_links, t.same_links)) (omega (arith, some, t.same_count))) in
      let s = (subst (λ (l : List Flight). AllByRecursion (λ x. IsStalled between x.exchange) l) o.is t.goes.lists.polled).0 in
      let f = (subst (λ (l : List Flight). AllByRecursion (λ x. Follows mid.limit between x.exchange) l) o.is t.so_far.polled).0 in
      let a = (subst (λ (l : List Flight). AllByRecursion (λ x. Contains addresses x.exchange.address) l) o.is t.are_asked.asks.polled).0 in
      elim s.ripe [
        | inl ripe ↦ inl (wait_spares wire steady result mid new between wire' s.k t.goes.is_nature ripe idle t.goes.spares w few)
        | inr hang ↦ inr (has_hung addresses old.limit o.f.exchange between wire' (subst (λ (n : ℕ). Follows n between o.f.exchange) t.same_limit f) s hang a (wait_whole result mid new between wire' w) (wait_nature result mid new between wire' w))
      ]

  -- the links of the new pool
  opens_after : (result : Result Stepped PoolFault) (new : Pooled) (wire' : WireState) → StepsTo result old new wire wire' → (k : ℕ) → open_on wire' k ≤ held_on new k
  opens_after result new wire' to k =
      (by_step (Owning (λ address. Unit {0}) OpenHeld) (owning_is_kept (λ address. Unit {0}) OpenHeld open_kept) result old new wire wire' given suits (open_in old wire prepared.open_held) to).known.at k

  ready_of : (new : Pooled) (wire' : WireState) → ((k : ℕ) → open_on wire' k ≤ held_on new k) → Prepared wire steady new wire' → WaitsReady new wire'
  ready_of new wire' opens p = record { open_held = opens; polled = p.lists.polled; due = p.lists.due; spare = p.lists.spare; room = p.room; moves = p.moves }

  all_ready : (result : Result Stepped PoolFault) (new : Pooled) (wire' : WireState) → ((k : ℕ) → open_on wire' k ≤ held_on new k) → IfOk result (λ stepped. Prepared wire steady new wire') → IfOk result (λ stepped. WaitsReady new wire')
  all_ready (Ok stepped) new wire' opens p = ready_of new wire' opens p
  all_ready (Err fault) new wire' opens p = tt

  in_wait : (result : Result Stepped PoolFault) (new : Pooled) (wire' : WireState) → wire'.given < 2 ^ 63 → 0 < length (held old) → ((k : ℕ) → open_on wire' k ≤ held_on new k) → EndsInWait result old new wire wire' → StepSpares result old new wire wire'
  in_wait result new wire' few some opens e =
      let t = then_at e.line e.lines e.mid e.between e.running in
      record {
        ready = all_ready result new wire' opens (wait_prepared wire steady result e.mid new e.between wire' t.fares.suits t.opens.known.at t.goes e.waits);
        spares = spared_or_hung result e.mid new e.between wire' few e.may_wait some t e.waits;
      }

  in_run : (result : Result Polled PoolFault) (new : Pooled) (wire' : WireState) → wire'.given < 2 ^ 63 → EndsInRun result old new wire wire' → SparesWire wire wire'
  in_run result new wire' few e =
      let t = then_at e.line e.lines e.mid e.between e.running in
      last_spares wire steady result e.mid new e.between wire' t.goes.is_nature t.goes.spares e.last few

  in_came : (ticket : ℕ) (address : Address) (answer : Reply) (new : Pooled) (wire' : WireState) → ((k : ℕ) → open_on wire' k ≤ held_on new k) → EndsInRun (Ok (polls.Came ticket address answer)) old new wire wire' → WaitsReady new wire'
  in_came ticket address answer new wire' opens e =
      let t = then_at e.line e.lines e.mid e.between e.running in
      ready_of new wire' opens (last_prepared wire steady ticket address answer e.mid new e.between wire' t.fares.given t.fares.suits t.goes e.last)

  same_spared : (wire' : WireState) → wire' ≡ wire → SparesWire wire wire'
  same_spared wire' e = record { provoked = ap (λ (x : WireState). x.provoked) e; faults = λ never. ap (λ (x : WireState). x.faults) e }

  breaks_spare : (fault : PoolFault) (new : Pooled) (wire' : WireState) → wire'.given < 2 ^ 63 → 0 < length (held old) → EndsInFault fault old new wire wire' → StepSpares (Err fault) old new wire wire'
  breaks_spare fault new wire' few some (AtOnce e f i) = record { ready = tt; spares = inl (same_spared wire' i) }
  breaks_spare fault new wire' few some (InRun e) = record { ready = tt; spares = inl (in_run (Err fault) new wire' few e) }
  breaks_spare fault new wire' few some (InWait e) = in_wait (Err fault) new wire' few some (opens_after (Err fault) new wire' (InWait e)) e

  no_err : (fault : PoolFault) (s : Stepped) → ◌≡◌ {A = Result Stepped PoolFault} (Err fault) (Ok s) → ⊥
  no_err fault s e = cc

  no_waited : ◌≡◌ {A = Result Stepped PoolFault} (Ok Waited) (Ok Idle) → ⊥
  no_waited e = cc

  some_held : (l : List Ask) → (l ≡ [] → ⊥) → 0 < length l
  some_held [] h = absurd (h refl)
  some_held (x ∷ l) h = omega arith

  step_spares : (result : Result Stepped PoolFault) (new : Pooled) (wire' : WireState) → wire'.given < 2 ^ 63 → (held old ≡ [] → result ≡ Ok Idle) → StepsTo result old new wire wire' → StepSpares result old new wire wire'
  step_spares (Ok Idle) new wire' few idle to = record {
    ready = subst (λ (x : Pooled). WaitsReady x wire') (sym to.1) (subst (λ (x : WireState). WaitsReady old x) (sym to.2) prepared);
    spares = inl (same_spared wire' to.2);
  }
  step_spares (Ok (Came ticket address answer)) new wire' few idle to = record {
    ready = in_came ticket address answer new wire' (opens_after (Ok (Came ticket address answer)) new wire' to) to;
    spares = inl (in_run (Ok (polls.Came ticket address answer)) new wire' few to);
  }
  step_spares (Ok Waited) new wire' few idle to = in_wait (Ok Waited) new wire' few (some_held (held old) (λ e. no_waited (idle e))) (opens_after (Ok Waited) new wire' to) to
  step_spares (Err fault) new wire' few idle to = breaks_spare fault new wire' few (some_held (held old) (λ e. no_err fault Idle (idle e))) to

-- ---- the laws

pub steps_spare : AuthoritiesAreHostsAndPorts → StepsSpare
steps_spare one result old new wire wire' given suits follows ready steady few links idle to = step_spares one old wire given suits follows ready steady links result new wire' few idle to

pub empty_ready : EmptyPoolsReady
empty_ready links retries budget limit wire closed = record {
  open_held = λ k. omega (arith, closed_none (wire.links k).is_open (closed k));
  polled = tt;
  due = tt;
  spare = tt;
  room = omega arith;
  moves = HoldsNone refl refl;
}

pub put_ready : PutsReady
put_ready ticket address pool wire h = record { open_held = h.open_held; polled = h.polled; due = h.due; spare = h.spare; room = h.room; moves = put_moves h.moves }
  where
    put_moves : MovesFirst pool wire → MovesFirst (record pool { waiting = pool.waiting ++ (record { ticket = ticket; address = address; failed = 0 }) ∷ [] }) wire
    put_moves (Moved e) = Moved e
    put_moves (Awake w) = Awake w
    put_moves (Again w rest e more less) = Again w (rest ++ (record { ticket = ticket; address = address; failed = 0 }) ∷ []) (ap (λ (l : List Waiting). l ++ (record { ticket = ticket; address = address; failed = 0 }) ∷ []) e) more less
    put_moves (HoldsNone e s) = HoldsNone e s

pub none_hang_by_some : EndsAreTrue → (allows : List ℕ → ℕ → List ℕ → List ℕ → Type 0) (wire : WireState) → NoneHangBySome allows wire
none_hang_by_some laws allows wire limit asked small tells served h =
    let is = All-contains (IsServedBySome allows) asked h.address (All-from_recursion (IsServedBySome allows) asked served) h.is_asked in
    let short : is_short (wire.links h.on.k) ≡ true =
    cut_short laws is.history is.config limit h.address h.received h.on.is_address false small h.on.before _ _ h.on.replied (owed_on allows is.history is.config limit h.address h.received wire h.on tells is.honest) h.more in
    let e : true ≡ false = sym short ∙ h.none_left in cc

pub none_hang : EndsAreTrue → (allows : List ℕ → ℕ → List ℕ → List ℕ → Type 0) (wire : WireState) → NoneHang allows wire
none_hang laws allows wire history config limit asked small tells served h =
    none_hang_by_some laws allows wire limit asked small tells (all_so (IsServed allows history config) (IsServedBySome allows) (by_some allows history config) asked served) h
