-- What a poll comes to, by its answer.
use Rattle.std.proofs.Common.{ℕ, ◌≡◌, ◌+◌, ◌<◌, ◌≤◌, inl, inr, ◌++◌, [], ◌∷◌, Option, Some, None, Result, Ok, Err, IfOk, IfErr, refl, sym, subst, false}
use Rattle.tpf_base.specs.Addresses.{Address}
use Rattle.tpf_base.specs.Links.{WireState}
use Rattle.http_wire.specs.declared.message.Reply.{Reply}
use Rattle.exchange.specs.Exchanges.{Exchanging, left_link}
use Rattle.exchange.specs.Polls.{Touches, Answers, ClosedOn}
use Rattle.exchange.specs.declared.fault.ExchangeFault.{ExchangeFault}
use Rattle.exchange.specs.declared.fault.ExchangeFault.TheVariants as exchanges
use Rattle.request_pool.specs.declared.asks.Flight.{Flight}
use Rattle.request_pool.specs.declared.fault.Polled.{Polled}
use Rattle.request_pool.specs.declared.fault.Polled.TheVariants as polls
use Rattle.request_pool.specs.declared.fault.PoolFault.{PoolFault}
use Rattle.request_pool.specs.declared.fault.PoolFault.TheVariants as faults
use Rattle.request_pool.specs.Pools.{Pooled}
use Rattle.request_pool.specs.Polls.{Shuts, Settles, ClosesLeft, FailsTo, EndsTo, IsShut, FlightTo}
use Rattle.request_pool.proofs.Suits.{left_is}

shut_closed : (o : Option ℕ) (a b : WireState) → Shuts o a b → ClosedOn o b
shut_closed None a b s = tt
shut_closed (Some k) a b s = s.is_open

pub on_pending : (result : Result Polled PoolFault) (f : Flight) (e : Exchanging) (p q : Pooled) (a m b : WireState) → Touches f.exchange e a m → Answers f.exchange e a m None
    → IfOk result (λ polled. (polled ≡ polls.Pending) × (q ≡ record p { polled = p.polled ++ (record f { exchange = e }) ∷ [] }) × (b ≡ m))
    → IfErr result (λ fault. (fault ≡ faults.OutOfMemory) × (q ≡ p) × Shuts e.link m b) → FlightTo result f p q a b
on_pending (Ok polled) f e p q a m b t w h i =
    subst (λ (x : Polled). FlightTo (Ok x) f p q a b) (sym h.0) (subst (λ (x : WireState). FlightTo (Ok polls.Pending) f p q a x) (sym h.2) (record { now = e; touches = t; answers = w }, h.1))
on_pending (Err fault) f e p q a m b t w h i =
    subst (λ (x : PoolFault). FlightTo (Err x) f p q a b) (sym i.0) (None, m, record { now = e; touches = t; answers = w }, i.1, (shut_closed e.link m b i.2, inr i.2))

-- a link that was left is closed out of memory
left_shut : (e : Exchanging) (a b : WireState) → ClosesLeft (left_link e) a b → IsShut e.link a b
left_shut e a b c =
    let same : e.link ≡ Some c.k = (left_is e.standing e.link c.k c.is_left).1 in
    (subst (λ (x : Option ℕ). ClosedOn x b) (sym same) c.closes.is_open, inr (subst (λ (x : Option ℕ). Shuts x a b) (sym same) c.closes))

pub on_came : (result : Result Polled PoolFault) (answer : Reply) (f : Flight) (e : Exchanging) (p q : Pooled) (a m b : WireState) → Touches f.exchange e a m → Answers f.exchange e a m (Some (Ok answer))
    → IfOk result (λ polled. (polled ≡ polls.Came f.ticket e.address answer) × Settles (left_link e) e.address p q m b)
    → IfErr result (λ fault. (fault ≡ faults.OutOfMemory) × (q ≡ p) × ClosesLeft (left_link e) m b) → FlightTo result f p q a b
on_came (Ok polled) answer f e p q a m b t w h i =
    subst (λ (x : Polled). FlightTo (Ok x) f p q a b) (sym h.0) (m, record { now = e; touches = t; answers = w }, refl, h.1, refl)
on_came (Err fault) answer f e p q a m b t w h i =
    subst (λ (x : PoolFault). FlightTo (Err x) f p q a b) (sym i.0) (Some (Ok answer), m, record { now = e; touches = t; answers = w }, i.1, left_shut e m b i.2)

closed_on : (o : Option ℕ) (k : ℕ) (a : WireState) → o ≡ Some k → (a.links k).is_open ≡ false → ClosedOn o a
closed_on o k a e h = subst (λ (x : Option ℕ). ClosedOn x a) (sym e) h

-- the ask of an exchange that failed waits again, or the exchange's own fault comes, or memory ran out
failed : (result : Result Polled PoolFault) (why : ExchangeFault) (fault : PoolFault) (f : Flight) (e : Exchanging) (p q : Pooled) (a b : WireState) → Touches f.exchange e a b → Answers f.exchange e a b (Some (Err why))
    → ClosedOn e.link b → (f.failed < p.retries → q ≡ record p { waiting = (record { ticket = f.ticket; address = e.address; failed = f.failed + 1 }) ∷ p.waiting } → FlightTo (Ok polls.Failed) f p q a b)
    → (p.retries ≤ f.failed → q ≡ p → FlightTo (Err fault) f p q a b)
    → FailsTo fault result (record f { exchange = e }) p q → IfOk result (λ polled. polled ≡ polls.Failed) → FlightTo result f p q a b
failed (Ok polled) why fault f e p q a b t w closed again spent h i = subst (λ (x : Polled). FlightTo (Ok x) f p q a b) (sym i) (again h.0 h.1)
failed (Err shown) why fault f e p q a b t w closed again spent h i = elim h.1 [
  | inl m ↦ subst (λ (x : PoolFault). FlightTo (Err x) f p q a b) (sym m) (Some (Err why), b, record { now = e; touches = t; answers = w }, h.0, (closed, inl refl))
  | inr m ↦ subst (λ (x : PoolFault). FlightTo (Err x) f p q a b) (sym m.0) (spent m.1 h.0)
]

pub on_end : (why : ExchangeFault) (result : Result Polled PoolFault) (f : Flight) (e : Exchanging) (p q : Pooled) (a b : WireState) → Touches f.exchange e a b → Answers f.exchange e a b (Some (Err why))
    → EndsTo why result (record f { exchange = e }) p q → FlightTo result f p q a b
on_end exchanges.Failed result f e p q a b t w h =
    failed result exchanges.Failed faults.Exchange f e p q a b t w w.breaks.closed (λ few is. (exchanges.Failed, record { now = e; touches = t; answers = w }, tt, few, is)) (λ many is. (record { now = e; touches = t; answers = w }, many, is)) h.0 h.1
on_end (exchanges.Cut received) result f e p q a b t w h =
    failed result (exchanges.Cut received) (faults.Cut received) f e p q a b t w (closed_on e.link w.ends.k b w.ends.link w.ends.closed)
    (λ few is. (exchanges.Cut received, record { now = e; touches = t; answers = w }, tt, few, is)) (λ many is. (record { now = e; touches = t; answers = w }, many, is)) h.0 h.1
on_end (exchanges.Bad fault received) result f e p q a b t w h =
    subst (λ (x : Result Polled PoolFault). FlightTo x f p q a b) (sym h.0) (record { now = e; touches = t; answers = w }, h.1)
on_end exchanges.OutOfMemory result f e p q a b t w h =
    subst (λ (x : Result Polled PoolFault). FlightTo x f p q a b) (sym h.0) (Some (Err exchanges.OutOfMemory), b, record { now = e; touches = t; answers = w }, h.1, (w.closed, inl refl))

pub settles_as : (o o' : Option ℕ) (x x' : Address) (p q : Pooled) (a b : WireState) → o ≡ o' → x ≡ x' → Settles o x p q a b → Settles o' x' p q a b
settles_as o o' x x' p q a b e f h = subst (λ (y : Option ℕ). Settles y x' p q a b) e (subst (λ (y : Address). Settles o y p q a b) f h)
