-- The links that were given since a moment, where the asks are for several hosts: each was dialled for the host and the port of one of some addresses, and is held by the pool or closed.
use Rattle.std.specs.Prelude.{ℕ, ◌≡◌, ◌≤◌, ◌<◌, ◌++◌, false, List, [], ◌∷◌, map, Result, Option, None}
use Rattle.std.specs.List.{AllByRecursion, Contains}
use Rattle.tpf_base.specs.Addresses.{Address}
use Rattle.tpf_base.specs.Links.{Tells, WireState, OpensGiven, told_by}
use Rattle.request_pool.specs.declared.fault.PoolFault.{PoolFault}
use Rattle.request_pool.specs.declared.fault.Stepped.{Stepped}
use Rattle.request_pool.specs.Pools.{Pooled, held, empty_pool}
use Rattle.request_pool.specs.Owned.{SuitsWire, held_on, open_on}
use Rattle.request_pool.specs.Steps.{StepsTo}
use Rattle.request_pool.specs.Closing.{ClosesSome}
use Rattle.pool_laws.specs.Owning.{IsAsBefore}

-- the address has the host and the port of one of these
pub record IsAtOneOf (homes : List Address) (address : Address) : Type 0 where
  pub home : Address
  pub is_home : Contains homes home
  pub same_host : address.host ≡ home.host
  pub same_port : address.port ≡ home.port

-- where the wire tells it, the link was dialled for the host and the port of one of these
pub record IsDialledFor (homes : List Address) (tells : Tells) (peer : Option (List ℕ × ℕ)) : Type 0 where
  pub home : Address
  pub is_home : Contains homes home
  pub is_peer : peer ≡ told_by tells (home.host, home.port)

-- Since a moment: each link that was given was dialled for one of these; the links before are as they were.
pub record GivesAtHosts (homes : List Address) (since now : WireState) : Type 0 where
  pub later : since.given ≤ now.given
  pub nature : now.nature ≡ since.nature
  pub peers : (k : ℕ) → since.given ≤ k → k < now.given → IsDialledFor homes since.nature.tells (now.links k).peer
  pub before : (k : ℕ) → k < since.given → IsAsBefore (since.links k) (now.links k)

-- A pool's asks are for these hosts and ports; each link that was given since the moment is held, or is closed; and none before is held.
pub record OwnsAtHosts (homes : List Address) (since : WireState) (pool : Pooled) (wire : WireState) : Type 0 where
  pub asks : AllByRecursion (λ ask. IsAtOneOf homes ask.address) (held pool)
  pub gives : GivesAtHosts homes since wire
  pub owned : (k : ℕ) → since.given ≤ k → k < wire.given → open_on wire k ≤ held_on pool k
  pub none_before : (k : ℕ) → k < since.given → held_on pool k ≡ 0

-- each link that was given since is closed
pub record AreClosedAtHosts (homes : List Address) (since now : WireState) : Type 0 where
  pub gives : GivesAtHosts homes since now
  pub closed : (k : ℕ) → since.given ≤ k → k < now.given → (now.links k).is_open ≡ false

-- ---- one step

-- whatever the pool holds, each link that is given in a step was dialled for the host and the port of an ask that was held at its entry
abbrev pub StepsDialHeld : Type 0
StepsDialHeld =
    (result : Result Stepped PoolFault) (old new : Pooled) (wire wire' : WireState) → OpensGiven wire → SuitsWire old wire → StepsTo result old new wire wire'
    → (k : ℕ) → wire.given ≤ k → k < wire'.given → IsDialledFor (map (λ ask. ask.address) (held old)) wire.nature.tells (wire'.links k).peer

-- ---- what keeps it

-- a pool that holds nothing, at the moment itself
abbrev pub EmptyPoolsOwnAtHosts : Type 0
EmptyPoolsOwnAtHosts = (homes : List Address) (links retries budget limit : ℕ) (wire : WireState) → OwnsAtHosts homes wire (empty_pool links retries budget limit) wire

-- an ask at one of them is put
abbrev pub PutsOwnAtHosts : Type 0
PutsOwnAtHosts =
    (homes : List Address) (since : WireState) (ticket : ℕ) (address : Address) (pool : Pooled) (wire : WireState) → IsAtOneOf homes address → OwnsAtHosts homes since pool wire
    → OwnsAtHosts homes since (record pool { waiting = pool.waiting ++ (record { ticket = ticket; address = address; failed = 0 }) ∷ [] }) wire

-- a fault ended it
abbrev pub FaultsOwnAtHosts : Type 0
FaultsOwnAtHosts = (homes : List Address) (since : WireState) (pool : Pooled) (wire : WireState) → OwnsAtHosts homes since (record pool { fault = None }) wire → OwnsAtHosts homes since pool wire

-- each step, whatever it answers
abbrev pub StepsOwnAtHosts : Type 0
StepsOwnAtHosts =
    (homes : List Address) (since : WireState) (result : Result Stepped PoolFault) (old new : Pooled) (wire wire' : WireState)
    → OpensGiven wire → SuitsWire old wire → OwnsAtHosts homes since old wire → StepsTo result old new wire wire' → OwnsAtHosts homes since new wire'

-- Its links are closed: then all that were given since are closed, and the pool owns none.
pub record ClosesAtHosts (homes : List Address) (since : WireState) (new : Pooled) (wire' : WireState) : Type 0 where
  pub owns : OwnsAtHosts homes since new wire'
  pub closed : AreClosedAtHosts homes since wire'

abbrev pub ClosingAtHosts : Type 0
ClosingAtHosts =
    (homes : List Address) (since : WireState) (old new : Pooled) (wire wire' : WireState)
    → OwnsAtHosts homes since old wire → new ≡ record old { waiting = []; polled = []; due = []; spare = [] }
    → ClosesSome (held_on old) (held_on new) wire wire' → ClosesAtHosts homes since new wire'
