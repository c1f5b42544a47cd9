-- Over a steady wire on which no link but a pool's is open, no step provokes a fault, unless an exchange hangs.
use Rattle.std.specs.Prelude.{ℕ, ◌≡◌, ◌⊎◌, ◌<◌, ◌≤◌, ◌^◌, ◌++◌, true, false, List, [], ◌∷◌, map, length, Option, Some, None, Result, Ok, IfOk}
use Rattle.std.specs.List.{AllByRecursion, Contains}
use Rattle.tpf_base.specs.Addresses.{Address}
use Rattle.tpf_base.specs.HttpReply as reply
use Rattle.tpf_base.specs.HttpReply.{reply_of}
use Rattle.tpf_base.specs.Links.{WireState, OpensGiven, IsRipe, is_short}
use Rattle.template_fill.specs.Metadata.{Config}
use Rattle.rdf_terms.specs.declared.term.Triple.{Triple}
use Rattle.exchange.specs.Exchanges.{Exchanging}
use Rattle.exchange.specs.Polls.{Awaits, Hangs}
use Rattle.request_pool.specs.declared.asks.Waiting.{Waiting}
use Rattle.request_pool.specs.declared.asks.Flight.{Flight}
use Rattle.request_pool.specs.declared.fault.PoolFault.{PoolFault}
use Rattle.request_pool.specs.declared.fault.Stepped.{Stepped}
use Rattle.request_pool.specs.declared.fault.Stepped.TheVariants.{Idle}
use Rattle.request_pool.specs.Pools.{Pooled, empty_pool, held, in_flight}
use Rattle.request_pool.specs.Owned.{SuitsWire, held_on, open_on}
use Rattle.request_pool.specs.Steps.{StepsTo}
use Rattle.pool_laws.specs.Following.{AnswersSoFar}
use Rattle.pool_laws.specs.Causes.{RepliedOn}
use Rattle.pool_laws.specs.Answers.{TellsAll}
use Rattle.pool_laws.specs.Rising.{IsServed, IsServedBySome}

-- The exchange waits on its link, which is ripe unless the exchange hangs; and its reply goes on.
pub record IsStalled (wire : WireState) (e : Exchanging) : Type 0 where
  pub k : ℕ
  pub link : e.link ≡ Some k
  pub awaits : Awaits e (wire.links k)
  pub ripe : IsRipe (wire.links k) ⊎ Hangs e (wire.links k)
  pub more : reply_of e.received false e.limit ≡ reply.More

-- a wait answered the link since the last call on it
abbrev pub IsAwake : WireState → Option ℕ → Type 0
IsAwake wire None = ⊥
IsAwake wire (Some k) = (wire.links k).woken ≡ true

-- that of one of the exchanges
abbrev pub OneIsAwake : WireState → List Flight → Type 0
OneIsAwake wire [] = ⊥
OneIsAwake wire (f ∷ fs) = IsAwake wire f.exchange.link ⊎ OneIsAwake wire fs

-- Why the next wait is the first since something moved: no wait came since; a wait answered the link of an exchange in flight, which is polled first; an ask that failed waits before all others, for which a link is dialled first; or no link is held.
pub data MovesFirst (pool : Pooled) (wire : WireState) : Type 0 where
  Moved : wire.idle ≡ 0 → MovesFirst pool wire
  Awake : OneIsAwake wire (in_flight pool) → MovesFirst pool wire
  Again : (w : Waiting) (rest : List Waiting) → pool.waiting ≡ w ∷ rest → 0 < w.failed → length (in_flight pool) < pool.links → MovesFirst pool wire
  HoldsNone : in_flight pool ≡ [] → pool.spare ≡ [] → MovesFirst pool wire

-- No link is open but those that the pool holds; each exchange in flight waits; no call stalled last on a link that was left; and something moves before the next wait.
pub record WaitsReady (pool : Pooled) (wire : WireState) : Type 0 where
  pub open_held : (k : ℕ) → open_on wire k ≤ held_on pool k
  pub polled : AllByRecursion (λ f. IsStalled wire f.exchange) pool.polled
  pub due : AllByRecursion (λ f. IsStalled wire f.exchange) pool.due
  pub spare : AllByRecursion (λ s. (wire.links s.link).stalled ≡ None) pool.spare
  pub room : length (in_flight pool) ≤ pool.links
  pub moves : MovesFirst pool wire

-- An exchange for one of the addresses hung: on its link the whole request was sent, all was received that the wire tells to be owed, and what came in reply is no whole reply yet.
pub record HasHung (asked : List Address) (limit : ℕ) (wire : WireState) : Type 0 where
  pub address : Address
  pub is_asked : Contains asked address
  pub received : List ℕ
  pub on : RepliedOn limit address received wire
  pub none_left : is_short (wire.links on.k) ≡ false
  pub more : reply_of received false limit ≡ reply.More

-- no fault was provoked, and where none is due there was none
pub record SparesWire (wire wire' : WireState) : Type 0 where
  pub provoked : wire'.provoked ≡ wire.provoked
  pub faults : wire.nature.every ≡ Some 0 → wire'.faults ≡ wire.faults

-- what is so after a step
pub record StepSpares (result : Result Stepped PoolFault) (old new : Pooled) (wire wire' : WireState) : Type 0 where
  pub ready : IfOk result (λ stepped. WaitsReady new wire')
  pub spares : SparesWire wire wire' ⊎ HasHung (map (λ ask. ask.address) (held old)) old.limit wire'

-- ---- what keeps it

-- a pool that holds nothing, where no link is open
abbrev pub EmptyPoolsReady : Type 0
EmptyPoolsReady = (links retries budget limit : ℕ) (wire : WireState) → ((k : ℕ) → (wire.links k).is_open ≡ false) → WaitsReady (empty_pool links retries budget limit) wire

-- an ask is put
abbrev pub PutsReady : Type 0
PutsReady =
    (ticket : ℕ) (address : Address) (pool : Pooled) (wire : WireState) → WaitsReady pool wire
    → WaitsReady (record pool { waiting = pool.waiting ++ (record { ticket = ticket; address = address; failed = 0 }) ∷ [] }) wire

-- each step over a steady wire, below 2 ^ 63 links; nothing is held at most where it is idle
abbrev pub StepsSpare : Type 0
StepsSpare =
    (result : Result Stepped PoolFault) (old new : Pooled) (wire wire' : WireState)
    → OpensGiven wire → SuitsWire old wire → AnswersSoFar old wire → WaitsReady old wire
    → wire.nature.steady ≡ true → wire'.given < 2 ^ 63 → 0 < old.links → (held old ≡ [] → result ≡ Ok Idle)
    → StepsTo result old new wire wire' → StepSpares result old new wire wire'

-- over other ends that answer as servers do, each as one of its own, no exchange hangs
abbrev pub NoneHangBySome : (List ℕ → ℕ → List ℕ → List ℕ → Type 0) → WireState → Type 0
NoneHangBySome allows wire =
    (limit : ℕ) (asked : List Address)
    → limit < 2 ^ 64 → TellsAll allows wire → AllByRecursion (IsServedBySome allows) asked → HasHung asked limit wire → ⊥

-- nor over those that answer as one server does
abbrev pub NoneHang : (List ℕ → ℕ → List ℕ → List ℕ → Type 0) → WireState → Type 0
NoneHang allows wire =
    (history : List (List Triple)) (config : Config) (limit : ℕ) (asked : List Address)
    → limit < 2 ^ 64 → TellsAll allows wire → AllByRecursion (IsServed allows history config) asked → HasHung asked limit wire → ⊥
