-- Over other ends that answer as a server does, and where no stall is long, each failure of an ask is a rise of the wire's faults.
use Rattle.std.specs.Prelude.{ℕ, ◌+◌, ◌≤◌, ◌<◌, ◌^◌, ◌++◌, List, [], ◌∷◌, length, Result, IfErr, None}
use Rattle.std.specs.List.{AllByRecursion}
use Rattle.rdf_terms.specs.declared.term.Triple.{Triple}
use Rattle.tpf_base.specs.Addresses.{Address}
use Rattle.tpf_base.specs.Causes.{RoseBy}
use Rattle.tpf_base.specs.Links.{WireState, OpensGiven}
use Rattle.tpf_base.specs.declared.wire.TheConstants.{MOST_IDLE}
use Rattle.template_fill.specs.Metadata.{Config}
use Rattle.template_fill.specs.Responses.{answering, IsHonestAt}
use Rattle.request_pool.specs.declared.fault.PoolFault.{PoolFault}
use Rattle.request_pool.specs.declared.fault.PoolFault.TheVariants as faults
use Rattle.request_pool.specs.declared.fault.Stepped.{Stepped}
use Rattle.request_pool.specs.Pools.{Pooled, held, in_flight, empty_pool}
use Rattle.request_pool.specs.Owned.{SuitsWire}
use Rattle.request_pool.specs.Steps.{StepsTo}
use Rattle.pool_laws.specs.Following.{AnswersSoFar}
use Rattle.pool_laws.specs.Answers.{TellsAll}

-- The other end at the host and the port of an address answers as a server does. No address is too long for this: a request past the limit of heads is refused, and its refusal is a whole answer.
pub record IsServed (allows : List ℕ → ℕ → List ℕ → List ℕ → Type 0) (history : List (List Triple)) (config : Config) (address : Address) : Type 0 where
  pub honest : IsHonestAt allows address.host address.port (answering history config)

-- It answers as some server does: of several addresses each may have a server of its own.
pub record IsServedBySome (allows : List ℕ → ℕ → List ℕ → List ℕ → Type 0) (address : Address) : Type 0 where
  pub history : List (List Triple)
  pub config : Config
  pub honest : IsHonestAt allows address.host address.port (answering history config)

-- Since a moment with so many faults, the wire's faults rose at least as often as each ask that is held failed, and at least as often as all asks failed: beside a failure, no more exchanges were started than so many asks.
pub record FailuresRose (before asked : ℕ) (pool : Pooled) (wire : WireState) : Type 0 where
  pub later : before ≤ wire.faults
  pub waiting : AllByRecursion (λ w. RoseBy w.failed before wire.faults) pool.waiting
  pub flying : AllByRecursion (λ f. RoseBy f.failed before wire.faults) (in_flight pool)
  pub failures : ℕ
  pub all : RoseBy failures before wire.faults
  pub few : pool.started + length pool.waiting ≤ asked + failures

-- At a fault for which an ask failed too often, the faults rose by so many; and no ask was given up for a stall.
abbrev pub EndsByRises : PoolFault → ℕ → ℕ → ℕ → Type 0
EndsByRises faults.Exchange many before now = RoseBy many before now
EndsByRises (faults.Cut received) many before now = RoseBy many before now
EndsByRises faults.Stalled many before now = ⊥
EndsByRises (faults.Reply fault received) many before now = Unit {0}
EndsByRises faults.Budget many before now = Unit {0}
EndsByRises faults.OutOfMemory many before now = Unit {0}

-- what is so after a step
pub record StepRose (result : Result Stepped PoolFault) (before asked : ℕ) (old new : Pooled) (after : WireState) : Type 0 where
  pub failures : FailuresRose before asked new after
  pub fault : IfErr result (λ fault. EndsByRises fault (old.retries + 1) before after.faults)

-- ---- what keeps it

-- a pool that holds nothing, of which nothing was asked
abbrev pub EmptyPoolsRose : Type 0
EmptyPoolsRose = (before links retries budget limit : ℕ) (wire : WireState) → before ≤ wire.faults → FailuresRose before 0 (empty_pool links retries budget limit) wire

-- one more ask is put
abbrev pub PutsRose : Type 0
PutsRose =
    (before asked ticket : ℕ) (address : Address) (pool : Pooled) (wire : WireState) → FailuresRose before asked pool wire
    → FailuresRose before (asked + 1) (record pool { waiting = pool.waiting ++ (record { ticket = ticket; address = address; failed = 0 }) ∷ [] }) wire

-- a fault ended it
abbrev pub FaultsRose : Type 0
FaultsRose = (before asked : ℕ) (pool : Pooled) (wire : WireState) → FailuresRose before asked (record pool { fault = None }) wire → FailuresRose before asked pool wire

-- Each step, whatever it answers, where every ask that is held is served, each by a server of its own, and after which fewer than MOST_IDLE waits have followed one another.
abbrev pub StepsRoseBySome : (List ℕ → ℕ → List ℕ → List ℕ → Type 0) → WireState → Type 0
StepsRoseBySome allows after =
    (before asked : ℕ) (result : Result Stepped PoolFault) (old new : Pooled) (wire : WireState)
    → OpensGiven wire → SuitsWire old wire → AnswersSoFar old wire → old.limit < 2 ^ 64 → TellsAll allows after → after.idle < MOST_IDLE
    → AllByRecursion (λ ask. IsServedBySome allows ask.address) (held old)
    → FailuresRose before asked old wire → StepsTo result old new wire after → StepRose result before asked old new after

-- where one server serves them all
abbrev pub StepsRose : (List ℕ → ℕ → List ℕ → List ℕ → Type 0) → WireState → Type 0
StepsRose allows after =
    (history : List (List Triple)) (config : Config) (before asked : ℕ) (result : Result Stepped PoolFault) (old new : Pooled) (wire : WireState)
    → OpensGiven wire → SuitsWire old wire → AnswersSoFar old wire → old.limit < 2 ^ 64 → TellsAll allows after → after.idle < MOST_IDLE
    → AllByRecursion (λ ask. IsServed allows history config ask.address) (held old)
    → FailuresRose before asked old wire → StepsTo result old new wire after → StepRose result before asked old new after
