-- What exchanges are started for: a link that is given, a rise of the wire's faults, or a reply that came and left its link.
use Rattle.std.specs.Prelude.{ℕ, ◌≡◌, ◌≢◌, ◌+◌, ◌-◌, ◌≤◌, ◌++◌, List, [], ◌∷◌, length, None, Result, Err}
use Rattle.tpf_base.specs.Addresses.{Address}
use Rattle.tpf_base.specs.Causes.{RoseBy}
use Rattle.tpf_base.specs.Links.{WireState, OpensGiven}
use Rattle.request_pool.specs.declared.fault.PoolFault.{PoolFault}
use Rattle.request_pool.specs.declared.fault.PoolFault.TheVariants as faults
use Rattle.request_pool.specs.declared.fault.Stepped.{Stepped}
use Rattle.request_pool.specs.Pools.{Pooled, held, empty_pool}
use Rattle.request_pool.specs.Owned.{SuitsWire, held_on}
use Rattle.request_pool.specs.Steps.{StepsTo}
use Rattle.request_pool.specs.Closing.{ClosesSome}
use Rattle.pool_laws.specs.Requested.{RequestedSince, AnsweredSince, count_answered, any}

-- Since a moment so many asks were put: beside the links that were given and the rises of the wire's faults, an exchange was started only on a link that was left when the reply to an ask came.
pub record SpentSince (since : WireState) (asked : ℕ) (pool : Pooled) (wire : WireState) : Type 0 where
  pub later : since.given ≤ wire.given
  pub rises : ℕ
  pub rose : RoseBy rises since.faults wire.faults
  pub few : pool.started + (length pool.spare + length (held pool)) ≤ (wire.given - since.given) + rises + asked

-- At least so many whole requests were answered.
pub record AnsweredMost (least : ℕ) (asked : List Address) (since : WireState) (pool : Pooled) (wire : WireState) : Type 0 where
  pub requested : RequestedSince asked since pool wire
  pub most : least ≤ count_answered any requested.requests since wire

-- ---- what keeps it

-- a pool that holds nothing, at the moment itself
abbrev pub EmptyPoolsSpend : Type 0
EmptyPoolsSpend = (links retries budget limit : ℕ) (wire : WireState) → SpentSince wire 0 (empty_pool links retries budget limit) wire

-- one more ask is put
abbrev pub PutsSpend : Type 0
PutsSpend =
    (since : WireState) (asked ticket : ℕ) (address : Address) (pool : Pooled) (wire : WireState) → SpentSince since asked pool wire
    → SpentSince since (asked + 1) (record pool { waiting = pool.waiting ++ (record { ticket = ticket; address = address; failed = 0 }) ∷ [] }) wire

-- a fault ended it
abbrev pub FaultsSpend : Type 0
FaultsSpend = (since : WireState) (asked : ℕ) (pool : Pooled) (wire : WireState) → SpentSince since asked (record pool { fault = None }) wire → SpentSince since asked pool wire

-- each step, unless memory is wanting
abbrev pub StepsSpend : Type 0
StepsSpend =
    (since : WireState) (asked : ℕ) (result : Result Stepped PoolFault) (old new : Pooled) (wire wire' : WireState)
    → OpensGiven wire → SuitsWire old wire → result ≢ Err faults.OutOfMemory → SpentSince since asked old wire → StepsTo result old new wire wire' → SpentSince since asked new wire'

-- ---- what is answered where the budget is spent

-- a step that ends for the budget loses no ask
abbrev pub BudgetsAnswered : Type 0
BudgetsAnswered =
    (asked : List Address) (since : WireState) (old new : Pooled) (wire wire' : WireState)
    → OpensGiven wire → SuitsWire old wire → AnsweredSince asked since old wire → StepsTo (Err faults.Budget) old new wire wire' → AnsweredSince asked since new wire'

-- its links are closed: what was answered stays so, of all asks but those that were held
abbrev pub ClosingAnsweredMost : Type 0
ClosingAnsweredMost =
    (asked : List Address) (since : WireState) (old new : Pooled) (wire wire' : WireState)
    → AnsweredSince asked since old wire → new ≡ record old { waiting = []; polled = []; due = []; spare = [] } → ClosesSome (held_on old) (held_on new) wire wire'
    → AnsweredMost (length asked - length (held old)) asked since new wire'
