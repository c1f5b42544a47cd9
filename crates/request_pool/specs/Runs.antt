-- A pool goes on: it starts exchanges and polls them, one after another.
use Rattle.std.specs.Prelude.{ℕ, ◌≡◌, ◌+◌, ◌<◌, ◌++◌, List, [], ◌∷◌, length, Option, Result, Ok, Err, Bool, true, false}
use Rattle.tpf_base.specs.Links.{WireState}
use Rattle.exchange.specs.Exchanges.{starting}
use Rattle.request_pool.specs.declared.asks.Waiting.{Waiting}
use Rattle.request_pool.specs.declared.asks.Flight.{Flight}
use Rattle.request_pool.specs.declared.asks.Spare.{Spare}
use Rattle.request_pool.specs.declared.fault.Polled.{Polled}
use Rattle.request_pool.specs.declared.fault.Polled.TheVariants.{Pending, Came, Failed}
use Rattle.request_pool.specs.declared.fault.PoolFault.{PoolFault}
use Rattle.request_pool.specs.declared.fault.PoolFault.TheVariants as faults
use Rattle.request_pool.specs.Pools.{Pooled, in_flight, IsOverBudget}
use Rattle.request_pool.specs.Polls.{Shuts, TakesLink, FlightTo}

-- Where a place is free, the first ask that waits becomes an exchange, on a link that was left for its authority or on a fresh one, and one more was started.
pub record Begins (old new : Pooled) (f : Flight) : Type 0 where
  pub first : Waiting
  pub rest : List Waiting
  pub link : Option ℕ
  pub spare : List Spare
  pub room : length (in_flight old) < old.links
  pub is_first : old.waiting ≡ first ∷ rest
  pub takes : TakesLink first old.spare spare link
  pub is_new : new ≡ record old { waiting = rest; spare = spare; started = old.started + 1 }
  pub flight : f ≡ record { ticket = first.ticket; failed = first.failed; exchange = starting first.address old.limit link }

-- out of memory the first ask is lost, and its link is to be closed
abbrev pub BeginsNone : Pooled → Pooled → Option ℕ → Type 0
BeginsNone old new link = (mid : Pooled) × (f : Flight) × Begins old mid f × (new ≡ record mid { started = old.started }) × (f.exchange.link ≡ link)

-- A start: one more is wanted than the budget allows; or the exchange is polled at once; or memory runs out before that, and the ask is lost.
pub data Starts (result : Result Polled PoolFault) (old new : Pooled) (wire wire' : WireState) : Type 0 where
  Overruns : result ≡ Err faults.Budget → IsOverBudget new → new ≡ old → wire' ≡ wire → Starts result old new wire wire'
  Flies : (mid : Pooled) (f : Flight) → old.started < old.budget → Begins old mid f → FlightTo result f mid new wire wire' → Starts result old new wire wire'
  Starves : result ≡ Err faults.OutOfMemory → (mid : Pooled) (f : Flight) → Begins old mid f → new ≡ record mid { started = old.started } → Shuts f.exchange.link wire wire' → Starts result old new wire wire'

-- the first exchange that is due is polled
pub record PollsNext (result : Result Polled PoolFault) (old new : Pooled) (wire wire' : WireState) : Type 0 where
  pub f : Flight
  pub rest : List Flight
  pub is_next : old.due ≡ f ∷ rest
  pub to : FlightTo result f (record old { due = rest }) new wire wire'

-- a reply came, or a fault
abbrev pub is_end : Result Polled PoolFault → Bool
is_end (Ok Pending) = false
is_end (Ok Failed) = false
is_end (Ok (Came ticket address answer)) = true
is_end (Err fault) = true

-- one turn of a pool that goes on: an exchange is started, or polled, or all in flight are due again
pub data Turn (old new : Pooled) (wire wire' : WireState) : Type 0 where
  Start : (result : Result Polled PoolFault) → is_end result ≡ false → Starts result old new wire wire' → Turn old new wire wire'
  Next : (result : Result Polled PoolFault) → is_end result ≡ false → PollsNext result old new wire wire' → Turn old new wire wire'
  Round : new ≡ record old { polled = []; due = old.polled ++ old.due } → wire' ≡ wire → Turn old new wire wire'

-- a pool and its wire between two turns
pub record Moment : Type 0 where
  pub pool : Pooled
  pub wire : WireState

-- one turn after another, through these moments
abbrev pub Runs : List Moment → Pooled → Pooled → WireState → WireState → Type 0
Runs [] old new wire wire' = (new ≡ old) × (wire' ≡ wire)
Runs (m ∷ ms) old new wire wire' = Turn old m.pool wire m.wire × Runs ms m.pool new m.wire wire'

pub record Running (old new : Pooled) (wire wire' : WireState) : Type 0 where
  pub moments : List Moment
  pub runs : Runs moments old new wire wire'

-- how a run ends: a start or a poll with this result
pub data Last (result : Result Polled PoolFault) (old new : Pooled) (wire wire' : WireState) : Type 0 where
  OfStart : Starts result old new wire wire' → Last result old new wire wire'
  OfPoll : PollsNext result old new wire wire' → Last result old new wire wire'

pub record Ended (result : Result Polled PoolFault) (old new : Pooled) (wire wire' : WireState) : Type 0 where
  pub mid : Pooled
  pub between : WireState
  pub running : Running old mid wire between
  pub last : Last result mid new between wire'

-- a run that goes on, or ends with a reply or a fault
pub data RunsTo (result : Result Polled PoolFault) (old new : Pooled) (wire wire' : WireState) : Type 0 where
  GoesOn : result ≡ Ok Pending → Running old new wire wire' → RunsTo result old new wire wire'
  Ends : is_end result ≡ true → Ended result old new wire wire' → RunsTo result old new wire wire'
