-- What a poll of one exchange in flight comes to.
use Rattle.std.specs.Prelude.{ℕ, ◌≡◌, ◌+◌, ◌<◌, ◌≤◌, ◌⊎◌, ◌++◌, List, ◌∷◌, length, Option, Some, None, Result, Ok, Err, IfOk, slice_index_or}
use Rattle.std.specs.List.{All}
use Rattle.tpf_base.specs.Addresses.{Address, authority_of}
use Rattle.tpf_base.specs.Links.{WireState}
use Rattle.tpf_base.specs.Calls.{Closes}
use Rattle.http_wire.specs.declared.message.Reply.{Reply}
use Rattle.exchange.specs.Exchanges.{Exchanging, left_link}
use Rattle.exchange.specs.Polls.{Touches, Answers, ClosedOn}
use Rattle.exchange.specs.declared.fault.ExchangeFault.{ExchangeFault}
use Rattle.exchange.specs.declared.fault.ExchangeFault.TheVariants as exchanges
use Rattle.request_pool.specs.declared.asks.Waiting.{Waiting}
use Rattle.request_pool.specs.declared.asks.Flight.{Flight}
use Rattle.request_pool.specs.declared.asks.Spare.{Spare}
use Rattle.request_pool.specs.declared.fault.Polled.{Polled}
use Rattle.request_pool.specs.declared.fault.Polled.TheVariants as polls
use Rattle.request_pool.specs.declared.fault.PoolFault.{PoolFault}
use Rattle.request_pool.specs.declared.fault.PoolFault.TheVariants as faults
use Rattle.request_pool.specs.Pools.{Pooled, with_polled, with_spare}

-- ---- links

-- the link, where there is one, is closed
abbrev pub Shuts : Option ℕ → WireState → WireState → Type 0
Shuts None wire wire' = wire' ≡ wire
Shuts (Some k) wire wire' = Closes k wire wire'

-- A link that an exchange left is kept with the authority of its address where the pool keeps fewer than its bound, and else closed.
pub data Settles (left : Option ℕ) (address : Address) (old new : Pooled) (wire wire' : WireState) : Type 0 where
  NoLink : left ≡ None → new ≡ old → wire' ≡ wire → Settles left address old new wire wire'
  Kept : (k : ℕ) → left ≡ Some k → length old.spare < old.links → new ≡ with_spare k address old → wire' ≡ wire → Settles left address old new wire wire'
  Shut : (k : ℕ) → left ≡ Some k → old.links ≤ length old.spare → new ≡ old → Closes k wire wire' → Settles left address old new wire wire'

-- a link was left, and is closed
pub record ClosesLeft (left : Option ℕ) (wire wire' : WireState) : Type 0 where
  pub k : ℕ
  pub is_left : left ≡ Some k
  pub closes : Closes k wire wire'

-- the link was left by an exchange with the same authority
abbrev pub IsFor : Address → Spare → Type 0
IsFor address spare = spare.authority ≡ authority_of address

-- none of the links was left for it, and the one at a place was
abbrev pub NoneIsFor : Address → List Spare → Type 0
NoneIsFor address spares = All (λ s. ¬ IsFor address s) spares

abbrev pub IsForAt : Address → List Spare → ℕ → Type 0
IsForAt address spares i = (i < length spares) × ((d : Spare) → IsFor address (slice_index_or spares i d))

-- one of the links is taken
pub record TakesOne (spare : Spare) (old new : List Spare) : Type 0 where
  pub before : List Spare
  pub after : List Spare
  pub is_old : old ≡ before ++ spare ∷ after
  pub is_new : new ≡ before ++ after

-- A first ask takes a link that was left for its authority, where there is one. An ask that failed takes none.
abbrev pub TakesLink : Waiting → List Spare → List Spare → Option ℕ → Type 0
TakesLink first old new None = (new ≡ old) × (first.failed ≡ 0 → All (λ s. ¬ IsFor first.address s) old)
TakesLink first old new (Some k) = (first.failed ≡ 0) × ((s : Spare) × (s.link ≡ k) × IsFor first.address s × TakesOne s old new)

-- ---- one exchange

-- the ask of an exchange that failed, which waits again
abbrev pub again : Flight → Waiting
again f = record { ticket = f.ticket; address = f.exchange.address; failed = f.failed + 1 }

-- What becomes of an ask that failed: it waits before all others, unless it failed once more than it may be tried again; then this is the fault. Out of memory, it is lost.
abbrev pub FailsTo : {T : Type 0} → PoolFault → Result T PoolFault → Flight → Pooled → Pooled → Type 0
FailsTo fault (Ok done) f old new = (f.failed < old.retries) × (new ≡ record old { waiting = again f ∷ old.waiting })
FailsTo fault (Err shown) f old new = (new ≡ old) × ((shown ≡ faults.OutOfMemory) ⊎ ((shown ≡ fault) × (old.retries ≤ f.failed)))

-- what the fault of an exchange that is over comes to
abbrev pub EndsTo : ExchangeFault → Result Polled PoolFault → Flight → Pooled → Pooled → Type 0
EndsTo exchanges.Failed result f old new = FailsTo faults.Exchange result f old new × IfOk result (λ polled. polled ≡ polls.Failed)
EndsTo (exchanges.Cut received) result f old new = FailsTo (faults.Cut received) result f old new × IfOk result (λ polled. polled ≡ polls.Failed)
EndsTo (exchanges.Bad fault received) result f old new = (result ≡ Err (faults.Reply fault received)) × (new ≡ old)
EndsTo exchanges.OutOfMemory result f old new = (result ≡ Err faults.OutOfMemory) × (new ≡ old)

-- an ask under a ticket that failed so often
abbrev pub waiting_for : ℕ → Address → ℕ → Waiting
waiting_for ticket address failed = record { ticket = ticket; address = address; failed = failed }

-- an exchange goes on, behind the others that were polled; or its link is closed out of memory
abbrev pub GoesBehind : Flight → Polled → Pooled → Pooled → WireState → WireState → Type 0
GoesBehind f polled old new wire wire' = (polled ≡ polls.Pending) × (new ≡ with_polled f old) × (wire' ≡ wire)

abbrev pub IsLost : Flight → PoolFault → Pooled → Pooled → WireState → WireState → Type 0
IsLost f fault old new wire wire' = (fault ≡ faults.OutOfMemory) × (new ≡ old) × Shuts f.exchange.link wire wire'

-- the reply of an exchange is handed out with its address; or it is lost out of memory, and a link that was left is closed
abbrev pub IsHandedOut : Flight → Reply → Polled → Pooled → Pooled → WireState → WireState → Type 0
IsHandedOut f answer polled old new wire wire' =
    (polled ≡ polls.Came f.ticket f.exchange.address answer) × Settles (left_link f.exchange) f.exchange.address old new wire wire'

abbrev pub LosesReply : Flight → PoolFault → Pooled → Pooled → WireState → WireState → Type 0
LosesReply f fault old new wire wire' = (fault ≡ faults.OutOfMemory) × (new ≡ old) × ClosesLeft (left_link f.exchange) wire wire'

-- one poll of an exchange and its answer, after which it is another
pub record Polls (answer : Option (Result Reply ExchangeFault)) (f : Flight) (wire wire' : WireState) : Type 0 where
  pub now : Exchanging
  pub touches : Touches f.exchange now wire wire'
  pub answers : Answers f.exchange now wire wire' answer

-- the wire failed, or the link was cut
abbrev pub IsFailure : ExchangeFault → Type 0
IsFailure exchanges.Failed = Unit {0}
IsFailure (exchanges.Cut received) = Unit {0}
IsFailure (exchanges.Bad fault received) = ⊥
IsFailure exchanges.OutOfMemory = ⊥

-- its link, if it got one, is closed at last
abbrev pub IsShut : Option ℕ → WireState → WireState → Type 0
IsShut link wire wire' = ClosedOn link wire' × ((wire' ≡ wire) ⊎ Shuts link wire wire')

-- What a poll of an exchange comes to that was taken out of the pool: it goes on behind the others that were polled; its reply came; it failed and its ask waits again; its ask failed too often; its reply is refused; or memory ran out.
abbrev pub FlightTo : Result Polled PoolFault → Flight → Pooled → Pooled → WireState → WireState → Type 0
FlightTo (Ok polls.Pending) f old new wire wire' =
    (h : Polls None f wire wire') × (new ≡ with_polled (record f { exchange = h.now }) old)
FlightTo (Ok (polls.Came ticket address answer)) f old new wire wire' =
    (mid : WireState) × (h : Polls (Some (Ok answer)) f wire mid) × (ticket ≡ f.ticket) × Settles (left_link h.now) h.now.address old new mid wire' × (address ≡ h.now.address)
FlightTo (Ok polls.Failed) f old new wire wire' =
    (why : ExchangeFault) × (h : Polls (Some (Err why)) f wire wire') × IsFailure why × (f.failed < old.retries)
    × (new ≡ record old { waiting = again (record f { exchange = h.now }) ∷ old.waiting })
FlightTo (Err faults.Exchange) f old new wire wire' = Polls (Some (Err exchanges.Failed)) f wire wire' × (old.retries ≤ f.failed) × (new ≡ old)
FlightTo (Err (faults.Cut received)) f old new wire wire' = Polls (Some (Err (exchanges.Cut received))) f wire wire' × (old.retries ≤ f.failed) × (new ≡ old)
FlightTo (Err (faults.Reply fault received)) f old new wire wire' = Polls (Some (Err (exchanges.Bad fault received))) f wire wire' × (new ≡ old)
FlightTo (Err faults.OutOfMemory) f old new wire wire' =
    (answer : Option (Result Reply ExchangeFault)) × (mid : WireState) × (h : Polls answer f wire mid) × (new ≡ old) × IsShut h.now.link mid wire'
FlightTo (Err faults.Stalled) f old new wire wire' = ⊥
FlightTo (Err faults.Budget) f old new wire wire' = ⊥
