-- What happens between a call's pool and its wire, one event after another.
use Rattle.std.specs.Prelude.{ℕ, ◌≡◌, ◌≢◌, ◌≤◌, ◌==◌, List, [], ◌∷◌, ◌++◌, None, Some, Ok, Err, if◌then◌else◌}
use Rattle.std.specs.List.{AllByRecursion, sum_by}
use Rattle.std.specs.List.Sorted.{IsPermutation}
use Rattle.tpf_base.specs.Addresses.{IsAddress, address_text}
use Rattle.tpf_base.specs.Links.{WireState, IsToldBy, ReceivesOwed, OwesAllowed, OpensGiven, IsLively}
use Rattle.http_wire.specs.declared.message.Reply.{Reply}
use Rattle.request_pool.specs.declared.fault.PoolFault.{PoolFault}
use Rattle.request_pool.specs.declared.fault.Stepped.TheVariants as stepped
use Rattle.request_pool.specs.Faults.{kept_of}
use Rattle.request_pool.specs.Pools.{Pooled, Ask, held, bounds_of}
use Rattle.request_pool.specs.Owned.{SuitsWire}
use Rattle.request_pool.specs.Runs.{Moment}
use Rattle.request_pool.specs.Steps.{StepsTo}

-- an ask was put; the whole reply to one came; nothing came in a step; or a step ended with a fault
pub data PoolEvent : Type 0 where
  Asked : Ask → PoolEvent
  Came : Ask → Reply → PoolEvent
  Waited : PoolEvent
  Broke : PoolFault → PoolEvent

-- the same pool without its fault
abbrev pub without_fault : Pooled → Pooled
without_fault pool = record pool { fault = None }

-- an ask for an address waits behind those that wait, under a ticket that no other has
pub record Puts (ask : Ask) (old new : Pooled) : Type 0 where
  pub is_address : IsAddress (address_text ask.address) ask.address
  pub fresh : AllByRecursion (λ a. a.ticket ≢ ask.ticket) (held old)
  pub put : new ≡ record old { waiting = old.waiting ++ (record { ticket = ask.ticket; address = ask.address; failed = 0 }) ∷ [] }

-- the reply to an ask came, which is held no longer
pub record Comes (ask : Ask) (reply : Reply) (old new : Pooled) (wire wire' : WireState) : Type 0 where
  pub steps : StepsTo (Ok (stepped.Came ask.ticket ask.address reply)) old new wire wire'
  pub others : IsPermutation (held old) (ask ∷ held new)
  pub had_none : old.fault ≡ None
  pub no_fault : new.fault ≡ None

-- nothing came in a step with asks, and all are still held
pub record StepWaits (old new : Pooled) (wire wire' : WireState) : Type 0 where
  pub some : held old ≢ []
  pub steps : StepsTo (Ok stepped.Waited) old new wire wire'
  pub others : IsPermutation (held old) (held new)
  pub had_none : old.fault ≡ None
  pub no_fault : new.fault ≡ None

-- a step with asks ended with a fault, which the pool keeps without its bytes
pub record StepBreaks (fault : PoolFault) (old new : Pooled) (wire wire' : WireState) : Type 0 where
  pub some : held old ≢ []
  pub steps : StepsTo (Err fault) old (without_fault new) wire wire'
  pub had_none : old.fault ≡ None
  pub kept : new.fault ≡ Some (kept_of fault)

abbrev pub PoolHappens : PoolEvent → Pooled → Pooled → WireState → WireState → Type 0
PoolHappens (Asked ask) old new wire wire' = Puts ask old new × (wire' ≡ wire)
PoolHappens (Came ask reply) old new wire wire' = Comes ask reply old new wire wire'
PoolHappens Waited old new wire wire' = StepWaits old new wire wire'
PoolHappens (Broke fault) old new wire wire' = StepBreaks fault old new wire wire'

-- one for the ticket
abbrev pub is_under : ℕ → Ask → ℕ
is_under ticket ask = if ask.ticket == ticket then 1 else 0

-- no two asks have one ticket
pub record AreDistinct (asks : List Ask) : Type 0 where
  pub once : (ticket : ℕ) → sum_by (is_under ticket) asks ≤ 1

-- What every wire keeps to at each moment; `allows` is what its other ends may owe: of each link as much is told as the wire tells, none is open that was not given, what was received is a front of what is owed, and that is what may be owed; and on a lively wire never MOST_IDLE waits follow one another.
pub record IsLawful (allows : List ℕ → ℕ → List ℕ → List ℕ → Type 0) (wire : WireState) : Type 0 where
  pub told : (k : ℕ) → IsToldBy wire.nature.tells (wire.links k)
  pub given : OpensGiven wire
  pub received : (k : ℕ) → ReceivesOwed (wire.links k)
  pub owed : (k : ℕ) → OwesAllowed allows (wire.links k)
  pub lively : IsLively wire

-- An event, and what holds after it: the pool suits the wire, its tickets differ, unless it ended, and its bounds are as before.
pub record Moves (allows : List ℕ → ℕ → List ℕ → List ℕ → Type 0) (event : PoolEvent) (old new : Pooled) (wire wire' : WireState) : Type 0 where
  pub happens : PoolHappens event old new wire wire'
  pub suits : SuitsWire new wire'
  pub distinct : new.fault ≡ None → AreDistinct (held new)
  pub bounds : bounds_of (without_fault new) ≡ bounds_of (without_fault old)
  pub lawful : IsLawful allows wire'

-- these events, one after another
abbrev pub Travels : (List ℕ → ℕ → List ℕ → List ℕ → Type 0) → List PoolEvent → Pooled → Pooled → WireState → WireState → Type 0
Travels allows [] old new wire wire' = (new ≡ old) × (wire' ≡ wire)
Travels allows (event ∷ events) old new wire wire' = (mid : Moment) × Moves allows event old mid.pool wire mid.wire × Travels allows events mid.pool new mid.wire wire'

-- the last of the events is this one
pub record EndsWith (event : PoolEvent) (events : List PoolEvent) : Type 0 where
  pub before : List PoolEvent
  pub is_last : events ≡ before ++ event ∷ []
