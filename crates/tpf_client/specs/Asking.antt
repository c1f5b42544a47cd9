-- The asks of a call: a pool, of which no two asks have one ticket.
use Rattle.std.specs.Prelude.{ℕ, ◌≡◌, ◌⊎◌, List, [], ◌∷◌, ◌++◌, None, Result, Ok, Err}
use Rattle.std.specs.List.{AllByRecursion}
use Rattle.std.specs.List.Sorted.{IsPermutation}
use Rattle.tpf_base.specs.Links.{WireState}
use Rattle.request_pool.specs.declared.fault.PoolFault.{PoolFault}
use Rattle.request_pool.specs.declared.fault.PoolFault.TheVariants as faults
use Rattle.request_pool.specs.declared.fault.Stepped.{Stepped}
use Rattle.request_pool.specs.declared.fault.Stepped.TheVariants as steps
use Rattle.request_pool.specs.Pools.{Pooled, Ask, held, bounds_of}
use Rattle.request_pool.specs.Owned.{SuitsWire}
use Rattle.fragment_page.specs.declared.page.Page.{Page}
use Rattle.control_reader.specs.Takes.{Takes, Faults}
use Rattle.tpf_client.specs.declared.fault.ClientFault.{ClientFault}
use Rattle.tpf_client.specs.declared.fault.ClientFault.TheVariants as clients
use Rattle.tpf_client.specs.declared.asks.Arrived.{Arrived}
use Rattle.tpf_client.specs.declared.asks.Next.{Next}
use Rattle.tpf_client.specs.declared.asks.Next.TheVariants.{Came, Waited, Idle}
use Rattle.tpf_client.specs.Traffic as traffic
use Rattle.tpf_client.specs.Traffic.{PoolEvent, AreDistinct, Puts, Moves, Travels, without_fault}

-- one ask was put
pub record PutsOne (ask : Ask) (old new : Pooled) : Type 0 where
  pub puts : Puts ask old new
  pub suits : (wire : WireState) → SuitsWire old wire → SuitsWire new wire
  pub distinct : new.fault ≡ None → AreDistinct (held new)
  pub bounds : bounds_of (without_fault new) ≡ bounds_of (without_fault old)
  pub no_fault : new.fault ≡ old.fault

-- asks were put, one after another
abbrev pub PutsAll : List Ask → Pooled → Pooled → Type 0
PutsAll [] old new = new ≡ old
PutsAll (ask ∷ asks) old new = (mid : Pooled) × PutsOne ask old mid × PutsAll asks mid new

-- unless the pool ended, no two asks that it holds have one ticket
abbrev pub TicketsDiffer : Pooled → Type 0
TicketsDiffer pool = pool.fault ≡ None → AreDistinct (held pool)

-- the ask to which a reply arrived
abbrev pub ask_of : Arrived → Ask
ask_of arrived = record { ticket = arrived.ticket; address = arrived.address }

-- what a step of the pool comes to
abbrev pub next_of : Result Stepped PoolFault → Result Next PoolFault
next_of (Ok (steps.Came ticket address reply)) = Ok (Came (record { ticket = ticket; address = address; reply = reply }))
next_of (Ok steps.Waited) = Ok Waited
next_of (Ok steps.Idle) = Ok Idle
next_of (Err fault) = Err fault

-- what a step of the asks comes to
abbrev pub StepsOn : (List ℕ → ℕ → List ℕ → List ℕ → Type 0) → Result Next PoolFault → Pooled → Pooled → WireState → WireState → Type 0
StepsOn allows (Ok (Came arrived)) old new wire wire' = Moves allows (traffic.Came (ask_of arrived) arrived.reply) old new wire wire'
StepsOn allows (Ok Waited) old new wire wire' = Moves allows traffic.Waited old new wire wire'
StepsOn allows (Ok Idle) old new wire wire' = (held old ≡ []) × (new ≡ old) × (wire' ≡ wire)
StepsOn allows (Err shown) old new wire wire' = (fault : PoolFault) × Moves allows (traffic.Broke fault) old new wire wire' × ((shown ≡ fault) ⊎ (shown ≡ faults.OutOfMemory))

-- these steps waited
abbrev pub AreWaits : List PoolEvent → Type 0
AreWaits events = AllByRecursion (λ event. event ≡ traffic.Waited) events

-- So far each step waited, and all asks are still held.
pub record WaitsSo (allows : List ℕ → ℕ → List ℕ → List ℕ → Type 0) (old new : Pooled) (wire wire' : WireState) : Type 0 where
  pub before : List PoolEvent
  pub waits : AreWaits before
  pub travels : Travels allows before old new wire wire'
  pub others : IsPermutation (held old) (held new)
  pub no_fault : new.fault ≡ None
  pub suits : SuitsWire new wire'

-- a reply arrived, after waits
pub record Arrives (allows : List ℕ → ℕ → List ℕ → List ℕ → Type 0) (arrived : Arrived) (old new : Pooled) (wire wire' : WireState) : Type 0 where
  pub before : List PoolEvent
  pub waits : AreWaits before
  pub travels : Travels allows (before ++ traffic.Came (ask_of arrived) arrived.reply ∷ []) old new wire wire'
  pub others : IsPermutation (held old) (ask_of arrived ∷ held new)
  pub no_fault : new.fault ≡ None
  pub suits : SuitsWire new wire'

-- a step ended with a fault, after waits
pub record Stops (allows : List ℕ → ℕ → List ℕ → List ℕ → Type 0) (shown : PoolFault) (old new : Pooled) (wire wire' : WireState) : Type 0 where
  pub before : List PoolEvent
  pub waits : AreWaits before
  pub fault : PoolFault
  pub travels : Travels allows (before ++ traffic.Broke fault ∷ []) old new wire wire'
  pub is_shown : (shown ≡ fault) ⊎ (shown ≡ faults.OutOfMemory)
  pub suits : SuitsWire new wire'

abbrev pub Awaits : (List ℕ → ℕ → List ℕ → List ℕ → Type 0) → Result Arrived PoolFault → Pooled → Pooled → WireState → WireState → Type 0
Awaits allows (Ok arrived) old new wire wire' = Arrives allows arrived old new wire wire'
Awaits allows (Err shown) old new wire wire' = Stops allows shown old new wire wire'

-- what is read of a reply that arrived: a page, or why it is none, or want of memory
abbrev pub IsReadFault : Arrived → ClientFault → Type 0
IsReadFault arrived (clients.Page fault body) = (body ≡ arrived.reply.body) × Faults body arrived.address fault
IsReadFault arrived clients.OutOfMemory = Unit {0}
IsReadFault arrived other = ⊥

abbrev pub ReadsPage : Arrived → Result Page ClientFault → Type 0
ReadsPage arrived (Ok page) = Takes arrived.reply.body arrived.address page
ReadsPage arrived (Err fault) = IsReadFault arrived fault
