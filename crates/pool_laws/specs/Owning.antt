-- The links that were given since a moment: each was dialled for one host and port, and is held by the pool or closed.
use Rattle.std.specs.Prelude.{ℕ, ◌≡◌, ◌≤◌, ◌<◌, ◌++◌, true, false, List, [], ◌∷◌, Result, None}
use Rattle.std.specs.List.{AllByRecursion}
use Rattle.tpf_base.specs.Addresses.{Address}
use Rattle.tpf_base.specs.Links.{Link, WireState, OpensGiven, told_by}
use Rattle.request_pool.specs.declared.fault.PoolFault.{PoolFault}
use Rattle.request_pool.specs.declared.fault.Stepped.{Stepped}
use Rattle.request_pool.specs.Pools.{Pooled, held, empty_pool}
use Rattle.request_pool.specs.Owned.{SuitsWire, held_on, open_on}
use Rattle.request_pool.specs.Steps.{StepsTo}
use Rattle.request_pool.specs.Closing.{ClosesSome}

-- the address has this host and this port
pub record IsAt (host : List ℕ) (port : ℕ) (address : Address) : Type 0 where
  pub same_host : address.host ≡ host
  pub same_port : address.port ≡ port

-- The link is as it was, but that a wait may have answered it where it is open.
pub data IsAsBefore (old new : Link) : Type 0 where
  Same : new ≡ old → IsAsBefore old new
  Woken : old.is_open ≡ true → new ≡ record old { woken = true } → IsAsBefore old new

-- Since a moment: each link that was given was dialled for this host and port, where the wire tells it; the links before are as they were.
pub record GivesAt (host : List ℕ) (port : ℕ) (since now : WireState) : Type 0 where
  pub later : since.given ≤ now.given
  pub nature : now.nature ≡ since.nature
  pub peers : (k : ℕ) → since.given ≤ k → k < now.given → (now.links k).peer ≡ told_by since.nature.tells (host, port)
  pub before : (k : ℕ) → k < since.given → IsAsBefore (since.links k) (now.links k)

-- A pool's asks are for this host and port; each link that was given since the moment is held, or is closed; and none before is held.
pub record OwnsSince (host : List ℕ) (port : ℕ) (since : WireState) (pool : Pooled) (wire : WireState) : Type 0 where
  pub asks : AllByRecursion (λ ask. IsAt host port ask.address) (held pool)
  pub gives : GivesAt host port since wire
  pub owned : (k : ℕ) → since.given ≤ k → k < wire.given → open_on wire k ≤ held_on pool k
  pub none_before : (k : ℕ) → k < since.given → held_on pool k ≡ 0

-- each link that was given since is closed
pub record LinksAreClosed (host : List ℕ) (port : ℕ) (since now : WireState) : Type 0 where
  pub gives : GivesAt host port since now
  pub closed : (k : ℕ) → since.given ≤ k → k < now.given → (now.links k).is_open ≡ false

-- ---- what keeps it

-- a pool that holds nothing, at the moment itself
abbrev pub EmptyPoolsOwn : Type 0
EmptyPoolsOwn = (host : List ℕ) (port links retries budget limit : ℕ) (wire : WireState) → OwnsSince host port wire (empty_pool links retries budget limit) wire

-- an ask at the host and port is put
abbrev pub PutsOwn : Type 0
PutsOwn =
    (host : List ℕ) (port : ℕ) (since : WireState) (ticket : ℕ) (address : Address) (pool : Pooled) (wire : WireState) → IsAt host port address → OwnsSince host port since pool wire
    → OwnsSince host port since (record pool { waiting = pool.waiting ++ (record { ticket = ticket; address = address; failed = 0 }) ∷ [] }) wire

-- a fault ended it
abbrev pub FaultsOwn : Type 0
FaultsOwn = (host : List ℕ) (port : ℕ) (since : WireState) (pool : Pooled) (wire : WireState) → OwnsSince host port since (record pool { fault = None }) wire → OwnsSince host port since pool wire

-- each step, whatever it answers
abbrev pub StepsOwn : Type 0
StepsOwn =
    (host : List ℕ) (port : ℕ) (since : WireState) (result : Result Stepped PoolFault) (old new : Pooled) (wire wire' : WireState)
    → OpensGiven wire → SuitsWire old wire → OwnsSince host port since old wire → StepsTo result old new wire wire' → OwnsSince host port since new wire'

-- Its links are closed: then all that were given since are closed, and the pool owns none.
pub record ClosesAll (host : List ℕ) (port : ℕ) (since : WireState) (new : Pooled) (wire' : WireState) : Type 0 where
  pub owns : OwnsSince host port since new wire'
  pub closed : LinksAreClosed host port since wire'

abbrev pub ClosingCloses : Type 0
ClosingCloses =
    (host : List ℕ) (port : ℕ) (since : WireState) (old new : Pooled) (wire wire' : WireState)
    → OwnsSince host port since old wire → new ≡ record old { waiting = []; polled = []; due = []; spare = [] }
    → ClosesSome (held_on old) (held_on new) wire wire' → ClosesAll host port since new wire'
