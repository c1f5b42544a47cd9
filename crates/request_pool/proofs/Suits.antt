-- What each call leaves of the links that a pool holds: each is open, and held once.
use Rattle.std.proofs.Common.{ℕ, ◌≡◌, ◌+◌, ◌≤◌, ◌⊎◌, inl, inr, ◌++◌, List, [], ◌∷◌, Option, Some, None, true, Result, Ok, Err, refl, sym, ◌∙◌, ap, subst, arith}
use Rattle.tpf_base.specs.Addresses.{Address, authority_of}
use Rattle.tpf_base.specs.declared.fault.Fault.{Fault}
use Rattle.tpf_base.specs.declared.wire.Ready.{Ready}
use Rattle.tpf_base.specs.declared.wire.Ready.TheVariants as ready
use Rattle.tpf_base.specs.Links.{Link, WireState, OpensGiven}
use Rattle.tpf_base.specs.Calls.{Wakes}
use Rattle.http_wire.specs.declared.message.Reply.{Reply}
use Rattle.exchange.specs.Exchanges.{IsLinked, left_by}
use Rattle.exchange.specs.declared.exchange.Standing.{Standing}
use Rattle.exchange.specs.declared.exchange.Standing.TheVariants.{Underway, Left, Over}
use Rattle.exchange.specs.declared.fault.ExchangeFault.{ExchangeFault}
use Rattle.request_pool.specs.declared.asks.Waiting.{Waiting}
use Rattle.request_pool.specs.declared.asks.Flight.{Flight}
use Rattle.request_pool.specs.declared.asks.Spare.{Spare}
use Rattle.request_pool.specs.declared.fault.Polled.{Polled}
use Rattle.request_pool.specs.declared.fault.Polled.TheVariants as polls
use Rattle.request_pool.specs.declared.fault.PoolFault.{PoolFault}
use Rattle.request_pool.specs.declared.fault.PoolFault.TheVariants as faults
use Rattle.request_pool.specs.Pools.{Pooled}
use Rattle.request_pool.specs.Owned.{on_link, flights_on, spare_on, held_on, times_open, open_on, AreUnderway, SuitsWire}
use Rattle.request_pool.specs.Polls.{Shuts, Settles, NoLink, Kept, Shut, TakesLink, Polls, FlightTo}
use Rattle.request_pool.specs.Runs.{Begins, Starts, Overruns, Flies, Starves, PollsNext}
use Rattle.request_pool.specs.Steps.{IsWait}
use Rattle.std.proofs.lemmas.Bool.{cases_eq}
use Rattle.request_pool.proofs.Owned.{on_same, one_at_most, flights_on-append, spare_on-append, rest_none, rest_after, own_after, rest_closed}

pub underway-append : (xs ys : List Flight) → AreUnderway xs → AreUnderway ys → AreUnderway (xs ++ ys)
underway-append [] ys h i = i
underway-append (x ∷ xs) ys h i = (h.0, underway-append xs ys h.1 i)

pub suits_as : (p q : Pooled) (a b : WireState) → q ≡ p → b ≡ a → SuitsWire p a → SuitsWire q b
suits_as p q a b e f h = subst (λ (x : Pooled). SuitsWire x b) (sym e) (subst (λ (x : WireState). SuitsWire p x) (sym f) h)

-- an exchange that was taken out of a pool, and what the pool holds beside it
pub record Owns (f : Flight) (pool : Pooled) (wire : WireState) : Type 0 where
  pub underway : f.exchange.standing ≡ Underway
  pub polled : AreUnderway pool.polled
  pub due : AreUnderway pool.due
  pub owned : (k : ℕ) → on_link f.exchange.link k + held_on pool k ≤ open_on wire k

pub own_none : (o : Option ℕ) (rest : ℕ → ℕ) (a : WireState) → ((k : ℕ) → on_link o k + rest k ≤ open_on a k) → (k : ℕ) → o ≡ Some k → rest k ≡ 0
own_none None rest a h k e = cc
own_none (Some i) rest a h k e = let same : i ≡ k = cc in omega (arith, h k, on_same i k same, one_at_most a k)

shuts_rest : (o : Option ℕ) (a b : WireState) → Shuts o a b → (rest : ℕ → ℕ) → ((k : ℕ) → rest k ≤ open_on a k) → ((k : ℕ) → o ≡ Some k → rest k ≡ 0) → (k : ℕ) → rest k ≤ open_on b k
shuts_rest None a b s rest h none k = subst (λ (x : WireState). rest k ≤ open_on x k) (sym s) (h k)
shuts_rest (Some i) a b s rest h none k = rest_closed i a b s rest h (none i refl) k

none_of : (answer : Option (Result Reply ExchangeFault)) (f : Flight) (p : Pooled) (a b : WireState) → OpensGiven a → Owns f p a → (h : Polls answer f a b) → (k : ℕ) → h.now.link ≡ Some k → held_on p k ≡ 0
none_of answer f p a b g o h = rest_none f.exchange.address f.exchange.link h.now.link a b h.touches.link g (held_on p) o.owned

rest_of : (answer : Option (Result Reply ExchangeFault)) (f : Flight) (p : Pooled) (a b : WireState) → OpensGiven a → Owns f p a → (h : Polls answer f a b) → (k : ℕ) → held_on p k ≤ open_on b k
rest_of answer f p a b g o h = rest_after h.now.link a b h.touches.others f.exchange.link (held_on p) o.owned (none_of answer f p a b g o h)

pub left_is : (s : Standing) (o : Option ℕ) (k : ℕ) → left_by s o ≡ Some k → (s ≡ Left) × (o ≡ Some k)
left_is Left o k e = (refl, e)
left_is Underway o k e = cc
left_is Over o k e = cc

linked_at : (o : Option ℕ) (k : ℕ) (a : WireState) → o ≡ Some k → IsLinked o a → (a.links k).is_open ≡ true
linked_at o k a e h = subst (λ (x : Option ℕ). IsLinked x a) e h

settles_suits : (s : Standing) (o : Option ℕ) (address : Address) (p q : Pooled) (a b : WireState) → AreUnderway p.polled → AreUnderway p.due → ((k : ℕ) → held_on p k ≤ open_on a k) → ((k : ℕ) → o ≡ Some k → held_on p k ≡ 0)
    → (s ≡ Left → IsLinked o a) → Settles (left_by s o) address p q a b → SuitsWire q b
settles_suits s o address p q a b up ud rest none linked (NoLink e f h) = suits_as p q a b f h (record { polled = up; due = ud; owned = rest })
settles_suits s o address p q a b up ud rest none linked (Kept k e room f h) =
    let l = left_is s o k e in
    let own = own_after (Some k) a (held_on p) rest (λ (j : ℕ) (x : Some k ≡ Some j). none j (l.1 ∙ x)) (linked_at o k a l.1 (linked l.0)) in
    suits_as (record p { spare = p.spare ++ (record { link = k; authority = authority_of address }) ∷ [] }) q a b f h (record {
      polled = up;
      due = ud;
      owned = λ j. omega (arith, own j, spare_on-append p.spare ((record { link = k; authority = authority_of address }) ∷ []) j);
    })
settles_suits s o address p q a b up ud rest none linked (Shut k e full f c) =
    let l = left_is s o k e in
    subst (λ (x : Pooled). SuitsWire x b) (sym f) (record { polled = up; due = ud; owned = rest_closed k a b c (held_on p) rest (none k l.1) })

shut_rest : (o : Option ℕ) (a b : WireState) → (b ≡ a) ⊎ Shuts o a b → (rest : ℕ → ℕ) → ((k : ℕ) → rest k ≤ open_on a k) → ((k : ℕ) → o ≡ Some k → rest k ≡ 0) → (k : ℕ) → rest k ≤ open_on b k
shut_rest o a b (inl e) rest h none k = subst (λ (x : WireState). rest k ≤ open_on x k) (sym e) (h k)
shut_rest o a b (inr s) rest h none k = shuts_rest o a b s rest h none k

-- a poll leaves what suits
pub flight_suits : (result : Result Polled PoolFault) (f : Flight) (p q : Pooled) (a b : WireState) → OpensGiven a → Owns f p a → FlightTo result f p q a b → SuitsWire q b
flight_suits (Ok polls.Pending) f p q a b g o h =
    let w = h.0.answers in
    let own = own_after h.0.now.link b (held_on p) (rest_of None f p a b g o h.0) (none_of None f p a b g o h.0) (subst (λ (x : Option ℕ). IsLinked x b) (sym w.link) w.is_open) in
    subst (λ (x : Pooled). SuitsWire x b) (sym h.1) (record {
      polled = underway-append p.polled ((record f { exchange = h.0.now }) ∷ []) o.polled (w.standing, tt);
      due = o.due;
      owned = λ k. omega (arith, own k, flights_on-append p.polled ((record f { exchange = h.0.now }) ∷ []) k);
    })
flight_suits (Ok (polls.Came ticket address answer)) f p q a b g o h =
    let w = h.1.answers in
    settles_suits h.1.now.standing h.1.now.link h.1.now.address p q h.0 b o.polled o.due (rest_of (Some (Ok answer)) f p a h.0 g o h.1) (none_of (Some (Ok answer)) f p a h.0 g o h.1)
    (λ (e : h.1.now.standing ≡ Left). subst (λ (x : Option ℕ). IsLinked x h.0) (sym w.link) (w.is_open e).0) h.3
flight_suits (Ok polls.Failed) f p q a b g o h =
    subst (λ (x : Pooled). SuitsWire x b) (sym h.4) (record { polled = o.polled; due = o.due; owned = rest_of (Some (Err h.0)) f p a b g o h.1 })
flight_suits (Err faults.Exchange) f p q a b g o h = subst (λ (x : Pooled). SuitsWire x b) (sym h.2) (record { polled = o.polled; due = o.due; owned = rest_of _ f p a b g o h.0 })
flight_suits (Err (faults.Cut received)) f p q a b g o h = subst (λ (x : Pooled). SuitsWire x b) (sym h.2) (record { polled = o.polled; due = o.due; owned = rest_of _ f p a b g o h.0 })
flight_suits (Err (faults.Reply fault received)) f p q a b g o h = subst (λ (x : Pooled). SuitsWire x b) (sym h.1) (record { polled = o.polled; due = o.due; owned = rest_of _ f p a b g o h.0 })
flight_suits (Err faults.OutOfMemory) f p q a b g o h =
    subst (λ (x : Pooled). SuitsWire x b) (sym h.3) (record { polled = o.polled; due = o.due; owned = shut_rest h.2.now.link h.1 b h.4.1 (held_on p) (rest_of h.0 f p a h.1 g o h.2) (none_of h.0 f p a h.1 g o h.2) })
flight_suits (Err faults.Stalled) f p q a b g o h = absurd h
flight_suits (Err faults.Budget) f p q a b g o h = absurd h

-- ---- starts

-- a link that is taken was held once
taken : (first : Waiting) (old new : List Spare) (link : Option ℕ) → TakesLink first old new link → (k : ℕ) → on_link link k + spare_on new k ≡ spare_on old k
taken first old new None h k = omega (arith, ap (λ (x : List Spare). spare_on x k) h.0)
taken first old new (Some i) h k =
    let t = h.1.3 in
    omega (arith, ap (λ (x : List Spare). spare_on x k) t.is_old, ap (λ (x : List Spare). spare_on x k) t.is_new, spare_on-append t.before t.after k, spare_on-append t.before (h.1.0 ∷ t.after) k, ap (λ (n : ℕ). on_link (Some n) k) h.1.1)

owns_as : (f g : Flight) (p q : Pooled) (a : WireState) → g ≡ f → q ≡ p → Owns f p a → Owns g q a
owns_as f g p q a e h o = subst (λ (x : Flight). Owns x q a) (sym e) (subst (λ (x : Pooled). Owns f x a) (sym h) o)

pub owns_begun : (p q : Pooled) (f : Flight) (a : WireState) → SuitsWire p a → Begins p q f → Owns f q a
owns_begun p q f a s b = owns_as _ f _ q a b.flight b.is_new (record {
  underway = refl;
  polled = s.polled;
  due = s.due;
  owned = λ k. omega (arith, s.owned k, taken b.first p.spare b.spare b.link b.takes k);
})

pub starts_suits : (result : Result Polled PoolFault) (p q : Pooled) (a b : WireState) → OpensGiven a → SuitsWire p a → Starts result p q a b → SuitsWire q b
starts_suits result p q a b g s (Overruns e budget f h) = suits_as p q a b f h s
starts_suits result p q a b g s (Flies mid f budget begins to) = flight_suits result f mid q a b g (owns_begun p mid f a s begins) to
starts_suits result p q a b g s (Starves e mid f begins is shuts) =
    let o = owns_begun p mid f a s begins in
    subst (λ (x : Pooled). SuitsWire x b) (sym is) (record {
      polled = o.polled;
      due = o.due;
      owned = shuts_rest f.exchange.link a b shuts (held_on mid) (λ k. omega (arith, o.owned k)) (own_none f.exchange.link (held_on mid) a o.owned);
    })

-- ---- polls

pub owns_next : (p : Pooled) (f : Flight) (rest : List Flight) (a : WireState) → SuitsWire p a → p.due ≡ f ∷ rest → Owns f (record p { due = rest }) a
owns_next p f rest a s e =
    let due = subst AreUnderway e s.due in
    record {
      underway = due.0;
      polled = s.polled;
      due = due.1;
      owned = λ k. omega (arith, s.owned k, ap (λ (x : List Flight). flights_on x k) e);
    }

pub next_suits : (result : Result Polled PoolFault) (p q : Pooled) (a b : WireState) → OpensGiven a → SuitsWire p a → PollsNext result p q a b → SuitsWire q b
next_suits result p q a b g s h = flight_suits result h.f (record p { due = h.rest }) q a b g (owns_next p h.f h.rest a s h.is_next) h.to

-- ---- waits

woken_open : (answer : Ready) (a b : WireState) → Wakes answer a b → (k : ℕ) → (b.links k).is_open ≡ (a.links k).is_open
woken_open ready.Door a b h k = ap (λ (x : Link). x.is_open) (h.1 k)
woken_open (ready.Link i) a b h k = elim (cases_eq k i) [ inl e ↦ subst (λ (x : ℕ). (b.links x).is_open ≡ (a.links x).is_open) (sym e) (ap (λ (x : Link). x.is_open) h.1) | inr n ↦ ap (λ (x : Link). x.is_open) (h.2 k n) ]

waits_open : (answer : Result Ready Fault) (a b : WireState) → IsWait answer a b → (k : ℕ) → (b.links k).is_open ≡ (a.links k).is_open
waits_open (Ok answer) a b h k = woken_open answer a b h.ok k
waits_open (Err fault) a b h k = ap (λ (x : Link). x.is_open) (h.err.links k)

pub waits_suits : (answer : Result Ready Fault) (p : Pooled) (a b : WireState) → IsWait answer a b → SuitsWire p a → SuitsWire p b
waits_suits answer p a b h s = record { polled = s.polled; due = s.due; owned = λ k. omega (arith, s.owned k, ap times_open (waits_open answer a b h k)) }
