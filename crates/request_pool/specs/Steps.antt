-- What a step of a pool does and answers.
use Rattle.std.specs.Prelude.{ℕ, ◌≡◌, ◌<◌, ◌≤◌, ◌⊎◌, min, List, [], ◌∷◌, length, Option, Some, None, Result, Ok, Err, IfOk, OnErr, true, false}
use Rattle.std.specs.List.{AllByRecursion}
use Rattle.std.specs.List.Sorted.{IsPermutation}
use Rattle.tpf_base.specs.Causes.{Rose, HasCause, counted}
use Rattle.tpf_base.specs.declared.fault.Fault.{Fault}
use Rattle.tpf_base.specs.declared.fault.Fault.TheVariants as failures
use Rattle.tpf_base.specs.declared.wire.TheConstants.{MOST_IDLE}
use Rattle.tpf_base.specs.declared.wire.Ready.{Ready}
use Rattle.tpf_base.specs.Addresses.{Address}
use Rattle.tpf_base.specs.Links.{WireState}
use Rattle.tpf_base.specs.Calls.{OnlyWaits, Wakes, GivesNone, WaitsSteadily}
use Rattle.request_pool.specs.declared.asks.Flight.{Flight}
use Rattle.request_pool.specs.declared.fault.Polled.{Polled}
use Rattle.request_pool.specs.declared.fault.Polled.TheVariants as polls
use Rattle.request_pool.specs.declared.fault.PoolFault.{PoolFault}
use Rattle.request_pool.specs.declared.fault.PoolFault.TheVariants as faults
use Rattle.request_pool.specs.declared.fault.Stepped.{Stepped}
use Rattle.request_pool.specs.declared.fault.Stepped.TheVariants.{Came, Waited, Idle}
use Rattle.request_pool.specs.Faults.{kept_of}
use Rattle.request_pool.specs.Pools.{Pooled, Ask, held, in_flight}
use Rattle.request_pool.specs.Polls.{Shuts, FailsTo}
use Rattle.request_pool.specs.Runs.{Running, Last}

-- ---- waiting

-- what the wire says of one wait
pub record IsWait (answer : Result Ready Fault) (wire wire' : WireState) : Type 0 where
  pub ok : IfOk answer (λ ready. Wakes ready wire wire')
  pub err : OnErr answer (GivesNone wire wire')
  pub only : OnlyWaits wire wire'
  pub cause : HasCause wire.faults wire'.faults answer
  pub steady : wire.nature.steady ≡ true → WaitsSteadily wire wire' answer

-- The stalls of a link rose since a moment, before which it may not have been given.
abbrev pub RisenOn : WireState → WireState → Option ℕ → Type 0
RisenOn since wire None = ⊥
RisenOn since wire (Some k) = (k < wire.given) × ((k < since.given → Rose (since.links k).stalls (wire.links k).stalls) × (since.given ≤ k → Rose 0 (wire.links k).stalls))

-- no wait answered the link since the last call on it
abbrev pub AsleepOn : WireState → Option ℕ → Type 0
AsleepOn wire None = ⊥
AsleepOn wire (Some k) = (wire.links k).woken ≡ false

-- No idling: each exchange in flight was polled, as many are in flight as may be, the stalls of the link of each rose since the moment, and no wait answered it since.
pub record MayWait (since : WireState) (pool : Pooled) (wire : WireState) : Type 0 where
  pub none_due : pool.due ≡ []
  pub full : length pool.polled ≡ min pool.links (length (held pool))
  pub risen : AllByRecursion (λ f. RisenOn since wire f.exchange.link) pool.polled
  pub asleep : AllByRecursion (λ f. AsleepOn wire f.exchange.link) pool.polled

-- The oldest exchange in flight is given up: its link is closed, and its ask failed for this reason.
pub record GivesUp (fault : PoolFault) (result : Result Stepped PoolFault) (old new : Pooled) (wire wire' : WireState) : Type 0 where
  pub f : Flight
  pub rest : List Flight
  pub is_oldest : in_flight old ≡ f ∷ rest
  pub shuts : Shuts f.exchange.link wire wire'
  pub to : FailsTo fault result f (record old { polled = rest; due = [] }) new

-- One wait. Where it failed, or MOST_IDLE waits followed one another, the oldest exchange is given up.
pub data WaitsTo (result : Result Stepped PoolFault) (old new : Pooled) (wire wire' : WireState) : Type 0 where
  Passes : (ready : Ready) → result ≡ Ok Waited → IsWait (Ok ready) wire wire' → wire'.idle < MOST_IDLE → new ≡ old → WaitsTo result old new wire wire'
  Stalls : (ready : Ready) (mid : WireState) → IsWait (Ok ready) wire mid → MOST_IDLE ≤ mid.idle → GivesUp faults.Stalled result old new mid wire' → WaitsTo result old new wire wire'
  Misses : (mid : WireState) → IsWait (Err failures.Failed) wire mid → GivesUp faults.Exchange result old new mid wire' → WaitsTo result old new wire wire'
  Lacks : IsWait (Err failures.OutOfMemory) wire wire' → result ≡ Err faults.OutOfMemory → new ≡ old → WaitsTo result old new wire wire'

-- ---- a step

-- How a step begins: with all in flight in one line, the oldest first; or where the step before stopped, with those that it left to be polled.
pub data Lines (old line : Pooled) : Type 0 where
  InLine : line ≡ record old { polled = in_flight old; due = [] } → Lines old line
  AsLeft : line ≡ old → Lines old line

-- a run that ended with a wait, before which every exchange waited
pub record EndsInWait (result : Result Stepped PoolFault) (old new : Pooled) (wire wire' : WireState) : Type 0 where
  pub line : Pooled
  pub lines : Lines old line
  pub mid : Pooled
  pub between : WireState
  pub running : Running line mid wire between
  pub may_wait : MayWait wire mid between
  pub waits : WaitsTo result mid new between wire'

-- a run that ended with a reply or a fault
pub record EndsInRun (result : Result Polled PoolFault) (old new : Pooled) (wire wire' : WireState) : Type 0 where
  pub line : Pooled
  pub lines : Lines old line
  pub mid : Pooled
  pub between : WireState
  pub running : Running line mid wire between
  pub last : Last result mid new between wire'

-- why a step ends with a fault: memory ran out before anything was done; a start or a poll had it; or the wait
pub data EndsInFault (fault : PoolFault) (old new : Pooled) (wire wire' : WireState) : Type 0 where
  AtOnce : fault ≡ faults.OutOfMemory → new ≡ old → wire' ≡ wire → EndsInFault fault old new wire wire'
  InRun : EndsInRun (Err fault) old new wire wire' → EndsInFault fault old new wire wire'
  InWait : EndsInWait (Err fault) old new wire wire' → EndsInFault fault old new wire wire'

-- each result of a step
abbrev pub StepsTo : Result Stepped PoolFault → Pooled → Pooled → WireState → WireState → Type 0
StepsTo (Ok Idle) old new wire wire' = (held old ≡ []) × (new ≡ old) × (wire' ≡ wire)
StepsTo (Ok (Came ticket address answer)) old new wire wire' = EndsInRun (Ok (polls.Came ticket address answer)) old new wire wire'
StepsTo (Ok Waited) old new wire wire' = EndsInWait (Ok Waited) old new wire wire'
StepsTo (Err fault) old new wire wire' = EndsInFault fault old new wire wire'

-- A step ended with this fault, which is handed over; the pool keeps it without its bytes.
pub record EndsPool (fault : PoolFault) (old new : Pooled) (wire wire' : WireState) : Type 0 where
  pub steps : StepsTo (Err fault) old (record new { fault = None }) wire wire'
  pub kept : new.fault ≡ Some (kept_of fault)

-- An ask with this ticket and this address was held and is held no longer, and each other ask is held as before.
pub record HandsOut (ticket : ℕ) (address : Address) (old new : Pooled) : Type 0 where
  pub ask : Ask
  pub is_ticket : ask.ticket ≡ ticket
  pub is_address : ask.address ≡ address
  pub others : IsPermutation (held old) (ask ∷ held new)

-- what becomes of the asks
abbrev pub HoldsOn : Stepped → Pooled → Pooled → Type 0
HoldsOn (Came ticket address answer) old new = HandsOut ticket address old new
HoldsOn Waited old new = IsPermutation (held old) (held new)
HoldsOn Idle old new = new ≡ old

-- how often the wire was waited for
abbrev pub WaitsOnce : Result Stepped PoolFault → WireState → WireState → Type 0
WaitsOnce (Ok (Came ticket address answer)) wire wire' = wire'.waits ≡ wire.waits
WaitsOnce (Ok Waited) wire wire' = wire'.waits ≡ counted wire.waits
WaitsOnce (Ok Idle) wire wire' = wire'.waits ≡ wire.waits
WaitsOnce (Err fault) wire wire' = (wire'.waits ≡ wire.waits) ⊎ (wire'.waits ≡ counted wire.waits)
