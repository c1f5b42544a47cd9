-- Whatever the other ends answer, and where no stall is long, each failure of an ask is a rise of the wire's faults or the end of a link.
use Rattle.std.specs.Prelude.{ℕ, ◌≡◌, ◌+◌, ◌-◌, ◌≤◌, ◌<◌, ◌==◌, ◌++◌, Bool, true, if◌then◌else◌, [], ◌∷◌, Option, Some, None, Result, IfErr}
use Rattle.std.specs.List.{AllByRecursion}
use Rattle.tpf_base.specs.Addresses.{Address}
use Rattle.tpf_base.specs.Causes.{RoseBy}
use Rattle.tpf_base.specs.Links.{Link, WireState, OpensGiven}
use Rattle.tpf_base.specs.declared.wire.TheConstants.{MOST_IDLE}
use Rattle.request_pool.specs.declared.fault.PoolFault.{PoolFault}
use Rattle.request_pool.specs.declared.fault.PoolFault.TheVariants as faults
use Rattle.request_pool.specs.declared.fault.Stepped.{Stepped}
use Rattle.request_pool.specs.Pools.{Pooled, in_flight, empty_pool}
use Rattle.request_pool.specs.Owned.{SuitsWire, held_on}
use Rattle.request_pool.specs.Steps.{StepsTo}
use Rattle.pool_laws.specs.Requested.{over_links}

-- ---- links that ended

-- a receive answered the end, or may have where that is not told
abbrev pub is_ended : Option Bool → Bool
is_ended None = true
is_ended (Some ended) = ended

abbrev pub times_ended : Link → ℕ
times_ended link = if is_ended link.ended then 1 else 0

-- how many of the links that were given since a moment have ended, or may have where the wire does not tell
abbrev pub ended_links : WireState → WireState → ℕ
ended_links since now = over_links (λ k. times_ended (now.links k)) since.given (now.given - since.given)

-- The rise of the faults and the links that ended are together so many.
pub record FailsBy (many before now ended : ℕ) : Type 0 where
  pub rises : ℕ
  pub rose : RoseBy rises before now
  pub enough : many ≤ rises + ended

-- ---- a pool

-- how many ended of those that are not held
abbrev pub ended_free : (ℕ → ℕ) → WireState → WireState → ℕ
ended_free times since now = over_links (λ k. if times k == 0 then times_ended (now.links k) else 0) since.given (now.given - since.given)

-- Since a moment before which no link is held, the wire's faults rose and links ended that are not held as often together as each ask that is held failed.
pub record FailuresEnd (since : WireState) (pool : Pooled) (wire : WireState) : Type 0 where
  pub later : since.faults ≤ wire.faults
  pub given : since.given ≤ wire.given
  pub none_before : (k : ℕ) → k < since.given → held_on pool k ≡ 0
  pub waiting : AllByRecursion (λ w. FailsBy w.failed since.faults wire.faults (ended_free (held_on pool) since wire)) pool.waiting
  pub flying : AllByRecursion (λ f. FailsBy f.failed since.faults wire.faults (ended_free (held_on pool) since wire)) (in_flight pool)

-- At a fault for which an ask failed too often, the faults rose and links ended so often together; and no ask was given up for a stall.
abbrev pub EndsByFailures : PoolFault → ℕ → WireState → WireState → Type 0
EndsByFailures faults.Exchange many since now = FailsBy many since.faults now.faults (ended_links since now)
EndsByFailures (faults.Cut received) many since now = FailsBy many since.faults now.faults (ended_links since now)
EndsByFailures faults.Stalled many since now = ⊥
EndsByFailures (faults.Reply fault received) many since now = Unit {0}
EndsByFailures faults.Budget many since now = Unit {0}
EndsByFailures faults.OutOfMemory many since now = Unit {0}

-- what is so after a step
pub record StepFails (result : Result Stepped PoolFault) (since : WireState) (old new : Pooled) (after : WireState) : Type 0 where
  pub failures : FailuresEnd since new after
  pub fault : IfErr result (λ fault. EndsByFailures fault (old.retries + 1) since after)

-- ---- what keeps it

-- a pool that holds nothing, at the moment itself
abbrev pub EmptyPoolsFail : Type 0
EmptyPoolsFail = (links retries budget limit : ℕ) (wire : WireState) → FailuresEnd wire (empty_pool links retries budget limit) wire

-- one more ask is put
abbrev pub PutsFail : Type 0
PutsFail =
    (since : WireState) (ticket : ℕ) (address : Address) (pool : Pooled) (wire : WireState) → FailuresEnd since pool wire
    → FailuresEnd since (record pool { waiting = pool.waiting ++ (record { ticket = ticket; address = address; failed = 0 }) ∷ [] }) wire

-- a fault ended it
abbrev pub FaultsFail : Type 0
FaultsFail = (since : WireState) (pool : Pooled) (wire : WireState) → FailuresEnd since (record pool { fault = None }) wire → FailuresEnd since pool wire

-- each step, whatever it answers, after which fewer than MOST_IDLE waits have followed one another
abbrev pub StepsFail : Type 0
StepsFail =
    (since : WireState) (result : Result Stepped PoolFault) (old new : Pooled) (wire wire' : WireState)
    → OpensGiven wire → SuitsWire old wire → wire'.idle < MOST_IDLE → FailuresEnd since old wire → StepsTo result old new wire wire' → StepFails result since old new wire'
