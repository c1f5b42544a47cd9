-- How many exchanges are started, and how many links are dialled.
use Rattle.std.specs.Prelude.{ℕ, ◌≡◌, ◌≢◌, ◌+◌, ◌≤◌, ◌++◌, List, [], ◌∷◌, None, Result, Ok, Err}
use Rattle.std.specs.List.{AllByRecursion}
use Rattle.tpf_base.specs.Addresses.{Address}
use Rattle.tpf_base.specs.Links.{WireState, OpensGiven}
use Rattle.request_pool.specs.declared.asks.Waiting.{Waiting}
use Rattle.request_pool.specs.declared.asks.Flight.{Flight}
use Rattle.request_pool.specs.declared.fault.PoolFault.{PoolFault}
use Rattle.request_pool.specs.declared.fault.Stepped.{Stepped}
use Rattle.request_pool.specs.declared.fault.Stepped.TheVariants.{Came, Waited, Idle}
use Rattle.request_pool.specs.Pools.{Pooled, empty_pool, in_flight}
use Rattle.request_pool.specs.Owned.{SuitsWire, held_on}
use Rattle.request_pool.specs.Steps.{StepsTo}
use Rattle.request_pool.specs.Closing.{ClosesSome}

-- ---- tries

-- how often the asks that wait were tried: as often as they failed
abbrev pub tries_waiting : List Waiting → ℕ
tries_waiting [] = 0
tries_waiting (w ∷ ws) = w.failed + tries_waiting ws

-- how often those in flight were tried: once more
abbrev pub tries_flying : List Flight → ℕ
tries_flying [] = 0
tries_flying (f ∷ fs) = f.failed + 1 + tries_flying fs

-- how often the asks that are held were tried
abbrev pub tries : Pooled → ℕ
tries pool = tries_waiting pool.waiting + tries_flying (in_flight pool)

-- no ask failed more often than it may be tried again
pub record FewFailed (pool : Pooled) : Type 0 where
  pub waiting : AllByRecursion (λ w. w.failed ≤ pool.retries) pool.waiting
  pub flying : AllByRecursion (λ f. f.failed ≤ pool.retries) (in_flight pool)

-- Exchanges were started, one for each try: the tries of the asks that are held now are those of the asks that were held and of these exchanges, but so many of an ask that is held no longer.
abbrev pub StartsAreTries : ℕ → Pooled → Pooled → Type 0
StartsAreTries over old new = new.started + tries old ≡ old.started + tries new + over

-- The tries of the ask whose reply came are 1 to one more than it may be tried again. A wait ends no ask. A fault may lose one.
abbrev pub CountsTries : Result Stepped PoolFault → Pooled → Pooled → Type 0
CountsTries (Ok (Came ticket address reply)) old new = (over : ℕ) × (1 ≤ over) × (over ≤ old.retries + 1) × StartsAreTries over old new
CountsTries (Ok Waited) old new = StartsAreTries 0 old new
CountsTries (Ok Idle) old new = new ≡ old
CountsTries (Err fault) old new = (over : ℕ) × (over ≤ old.retries + 1) × StartsAreTries over old new

abbrev pub StepsCountTries : Type 0
StepsCountTries =
    (result : Result Stepped PoolFault) (old new : Pooled) (wire wire' : WireState) → OpensGiven wire → SuitsWire old wire → FewFailed old → StepsTo result old new wire wire' → CountsTries result old new

-- ---- what keeps it that few failed

abbrev pub EmptyPoolsFewFailed : Type 0
EmptyPoolsFewFailed = (links retries budget limit : ℕ) → FewFailed (empty_pool links retries budget limit)

abbrev pub PutsFewFailed : Type 0
PutsFewFailed =
    (ticket : ℕ) (address : Address) (pool : Pooled) → FewFailed pool → FewFailed (record pool { waiting = pool.waiting ++ (record { ticket = ticket; address = address; failed = 0 }) ∷ [] })

abbrev pub StepsFewFailed : Type 0
StepsFewFailed =
    (result : Result Stepped PoolFault) (old new : Pooled) (wire wire' : WireState) → OpensGiven wire → SuitsWire old wire → FewFailed old → StepsTo result old new wire wire' → FewFailed new

-- ---- dials

-- Each exchange in flight has a link, and since a moment with so many dials at most as many were made as exchanges were started.
pub record FewDials (before : ℕ) (pool : Pooled) (wire : WireState) : Type 0 where
  pub polled : AllByRecursion (λ f. f.exchange.link ≢ None) pool.polled
  pub due : AllByRecursion (λ f. f.exchange.link ≢ None) pool.due
  pub dials : wire.dials ≤ before + pool.started

abbrev pub EmptyPoolsDial : Type 0
EmptyPoolsDial = (links retries budget limit : ℕ) (wire : WireState) → FewDials wire.dials (empty_pool links retries budget limit) wire

abbrev pub PutsDial : Type 0
PutsDial =
    (before ticket : ℕ) (address : Address) (pool : Pooled) (wire : WireState) → FewDials before pool wire
    → FewDials before (record pool { waiting = pool.waiting ++ (record { ticket = ticket; address = address; failed = 0 }) ∷ [] }) wire

abbrev pub FaultsDial : Type 0
FaultsDial = (before : ℕ) (pool : Pooled) (wire : WireState) → FewDials before (record pool { fault = None }) wire → FewDials before pool wire

-- each step, whatever it answers
abbrev pub StepsDial : Type 0
StepsDial =
    (before : ℕ) (result : Result Stepped PoolFault) (old new : Pooled) (wire wire' : WireState)
    → OpensGiven wire → SuitsWire old wire → FewDials before old wire → StepsTo result old new wire wire' → FewDials before new wire'

abbrev pub ClosingDials : Type 0
ClosingDials =
    (before : ℕ) (old new : Pooled) (wire wire' : WireState)
    → FewDials before old wire → new ≡ record old { waiting = []; polled = []; due = []; spare = [] } → ClosesSome (held_on old) (held_on new) wire wire'
    → FewDials before new wire'
