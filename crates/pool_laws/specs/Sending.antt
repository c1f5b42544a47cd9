-- What was sent on the links that were given since a moment: whole requests for addresses that were asked for, and then at most a front of one more.
use Rattle.std.specs.Prelude.{ℕ, ◌≡◌, ◌≤◌, ◌<◌, ◌++◌, List, [], ◌∷◌, Some, Result, None}
use Rattle.std.specs.List.{AllByRecursion, Contains, flat_map}
use Rattle.tpf_base.specs.Addresses.{Address}
use Rattle.tpf_base.specs.Links.{Link, WireState, OpensGiven}
use Rattle.tpf_base.specs.Sending.{Holds}
use Rattle.http_ends.specs.Requests.{request_for}
use Rattle.exchange.specs.Exchanges.{Exchanging, IsFront, Stands, starting}
use Rattle.request_pool.specs.declared.asks.Spare.{Spare}
use Rattle.request_pool.specs.declared.fault.PoolFault.{PoolFault}
use Rattle.request_pool.specs.declared.fault.Stepped.{Stepped}
use Rattle.request_pool.specs.Pools.{Pooled, empty_pool}
use Rattle.request_pool.specs.Owned.{SuitsWire, held_on}
use Rattle.request_pool.specs.Steps.{StepsTo}
use Rattle.request_pool.specs.Closing.{ClosesSome}

-- nothing, or a front of the request for an address that was asked for
pub data IsPart (asked : Address → Type 0) (part : List ℕ) : Type 0 where
  Nothing : part ≡ [] → IsPart asked part
  FrontOf : (address : Address) → asked address → IsFront part (request_for address) → IsPart asked part

-- the requests for addresses, one after another
abbrev pub requests_for : List Address → List ℕ
requests_for addresses = flat_map request_for addresses

-- Where the wire tells, whole requests for addresses that were asked for were sent on the link, and then nothing or a front of the request for one.
pub record SendsFor (asked : Address → Type 0) (link : Link) : Type 0 where
  pub whole : List Address
  pub are_asked : AllByRecursion asked whole
  pub part : List ℕ
  pub is_part : IsPart asked part
  pub sent_is : Holds link.sent (requests_for whole ++ part)

-- An exchange for an address that was asked for: whole requests for such addresses were sent on its link before, and then a front of its own.
pub record SendsOwn (asked : Address → Type 0) (wire : WireState) (e : Exchanging) : Type 0 where
  pub is_asked : asked e.address
  pub whole : List Address
  pub are_asked : AllByRecursion asked whole
  pub received : List ℕ
  pub stands : Stands (requests_for whole) received e wire
  pub front : IsFront e.sent (request_for e.address)

-- On a link that was left so would one that starts for an address that was asked for.
abbrev pub SendsOn : (Address → Type 0) → ℕ → WireState → Spare → Type 0
SendsOn asked limit wire s = (address : Address) × SendsOwn asked wire (starting address limit (Some s.link))

-- A pool's asks are for such addresses; so is what was sent on each link that was given since the moment, and by each exchange in flight; and on each link that was left stand whole requests.
pub record SentSince (asked : Address → Type 0) (since : WireState) (pool : Pooled) (wire : WireState) : Type 0 where
  pub given : (k : ℕ) → since.given ≤ k → k < wire.given → SendsFor asked (wire.links k)
  pub waiting : AllByRecursion (λ w. asked w.address) pool.waiting
  pub polled : AllByRecursion (λ f. SendsOwn asked wire f.exchange) pool.polled
  pub due : AllByRecursion (λ f. SendsOwn asked wire f.exchange) pool.due
  pub spare : AllByRecursion (λ s. SendsOn asked pool.limit wire s) pool.spare

-- ---- what keeps it, for a list of addresses

-- a pool that holds nothing, at the moment itself
abbrev pub EmptyPoolsSent : Type 0
EmptyPoolsSent = (asked : List Address) (links retries budget limit : ℕ) (wire : WireState) → SentSince (Contains asked) wire (empty_pool links retries budget limit) wire

-- an ask for one of the addresses is put
abbrev pub PutsSent : Type 0
PutsSent =
    (asked : List Address) (since : WireState) (ticket : ℕ) (address : Address) (pool : Pooled) (wire : WireState) → Contains asked address → SentSince (Contains asked) since pool wire
    → SentSince (Contains asked) since (record pool { waiting = pool.waiting ++ (record { ticket = ticket; address = address; failed = 0 }) ∷ [] }) wire

-- a fault ended it
abbrev pub FaultsSent : Type 0
FaultsSent = (asked : List Address) (since : WireState) (pool : Pooled) (wire : WireState) → SentSince (Contains asked) since (record pool { fault = None }) wire → SentSince (Contains asked) since pool wire

-- each step, whatever it answers
abbrev pub StepsSent : Type 0
StepsSent =
    (asked : List Address) (since : WireState) (result : Result Stepped PoolFault) (old new : Pooled) (wire wire' : WireState)
    → OpensGiven wire → SuitsWire old wire → SentSince (Contains asked) since old wire → StepsTo result old new wire wire' → SentSince (Contains asked) since new wire'

-- its links are closed
abbrev pub ClosingSent : Type 0
ClosingSent =
    (asked : List Address) (since : WireState) (old new : Pooled) (wire wire' : WireState)
    → SentSince (Contains asked) since old wire → new ≡ record old { waiting = []; polled = []; due = []; spare = [] } → ClosesSome (held_on old) (held_on new) wire wire'
    → SentSince (Contains asked) since new wire'
