-- What was sent and received on the links that a pool holds: whole requests for addresses, and one whole reply to each.
use Rattle.std.specs.Prelude.{ℕ, ◌≡◌, ◌<◌, ◌++◌, Bool, false, List, [], ◌∷◌, length, Option, Some, None, Result}
use Rattle.std.specs.List.{AllByRecursion}
use Rattle.tpf_base.specs.Addresses.{Address, IsAddress, authority_of}
use Rattle.tpf_base.specs.HttpReply.{Whole, reply_of}
use Rattle.tpf_base.specs.Links.{WireState, OpensGiven, told_by}
use Rattle.http_ends.specs.Cuts.{Answered, sent_for, bytes_of, sent_of, received_of}
use Rattle.exchange.specs.Exchanges.{Exchanging, Stands, starting}
use Rattle.request_pool.specs.declared.asks.Flight.{Flight}
use Rattle.request_pool.specs.declared.asks.Spare.{Spare}
use Rattle.request_pool.specs.declared.fault.Polled.{Polled}
use Rattle.request_pool.specs.declared.fault.PoolFault.{PoolFault}
use Rattle.request_pool.specs.declared.fault.Stepped.{Stepped}
use Rattle.request_pool.specs.Pools.{Pooled, empty_pool}
use Rattle.request_pool.specs.Owned.{SuitsWire, held_on}
use Rattle.request_pool.specs.Polls.{FlightTo}
use Rattle.request_pool.specs.Runs.{Starts, PollsNext, Turn, Running, RunsTo}
use Rattle.request_pool.specs.Steps.{StepsTo}

-- some text is the address
abbrev pub IsWebAddress : Address → Type 0
IsWebAddress address = (text : List ℕ) × IsAddress text address

-- the whole request for an address was sent, and what was received for it is one whole reply and no more
pub record IsReplied (limit : ℕ) (answered : Answered) : Type 0 where
  pub address : Address
  pub is_address : IsWebAddress address
  pub sent : answered.sent ≡ sent_for address
  pub keeps : Bool
  pub whole : reply_of answered.received false limit ≡ Whole answered.body (length answered.received) keeps

-- the link, where there is one, was dialled for the address's host and port
abbrev pub HasPeer : Address → Option ℕ → WireState → Type 0
HasPeer address None wire = Unit {0}
HasPeer address (Some k) wire = (wire.links k).peer ≡ told_by wire.nature.tells (address.host, address.port)

-- An exchange for an address: where the wire tells, whole requests and a whole reply to each stand on its link before what it moves there itself.
pub record Follows (limit : ℕ) (wire : WireState) (e : Exchanging) : Type 0 where
  pub is_address : IsWebAddress e.address
  pub is_limit : e.limit ≡ limit
  pub before : List Answered
  pub replied : AllByRecursion (IsReplied limit) before
  pub stands : Stands (bytes_of (sent_of before)) (received_of before) e wire
  pub peer : HasPeer e.address e.link wire

-- On a link that was left so does an exchange that starts for an address with its authority.
abbrev pub FollowsOn : ℕ → WireState → Spare → Type 0
FollowsOn limit wire s = (address : Address) × (s.authority ≡ authority_of address) × Follows limit wire (starting address limit (Some s.link))

-- What a pool knows of its links: the asks are for addresses; each exchange in flight follows whole replies on its link; and so would one that starts on a link that was left.
pub record AnswersSoFar (pool : Pooled) (wire : WireState) : Type 0 where
  pub waiting : AllByRecursion (λ w. IsWebAddress w.address) pool.waiting
  pub polled : AllByRecursion (λ f. Follows pool.limit wire f.exchange) pool.polled
  pub due : AllByRecursion (λ f. Follows pool.limit wire f.exchange) pool.due
  pub spare : AllByRecursion (λ s. FollowsOn pool.limit wire s) pool.spare

-- ---- what keeps it

-- a pool that holds nothing
abbrev pub EmptyPoolsFollow : Type 0
EmptyPoolsFollow = (links retries budget limit : ℕ) (wire : WireState) → AnswersSoFar (empty_pool links retries budget limit) wire

-- an ask for an address is put
abbrev pub PutsFollow : Type 0
PutsFollow =
    (ticket : ℕ) (address : Address) (pool : Pooled) (wire : WireState) → IsWebAddress address → AnswersSoFar pool wire
    → AnswersSoFar (record pool { waiting = pool.waiting ++ (record { ticket = ticket; address = address; failed = 0 }) ∷ [] }) wire

-- its links were closed, and nothing is held
abbrev pub ClosedPoolsFollow : Type 0
ClosedPoolsFollow = (pool : Pooled) (wire : WireState) → AnswersSoFar (record pool { waiting = []; polled = []; due = []; spare = [] }) wire

-- a fault ended it
abbrev pub FaultsFollow : Type 0
FaultsFollow = (pool : Pooled) (wire : WireState) → AnswersSoFar (record pool { fault = None }) wire → AnswersSoFar pool wire

-- no link that it holds was called on
abbrev pub OthersFollow : Type 0
OthersFollow =
    (pool : Pooled) (old new : WireState) → ((k : ℕ) → 0 < held_on pool k → new.links k ≡ old.links k) → new.nature ≡ old.nature → AnswersSoFar pool old
    → AnswersSoFar pool new

-- an exchange that was taken out is polled
abbrev pub FlightsFollow : Type 0
FlightsFollow =
    (result : Result Polled PoolFault) (f : Flight) (old new : Pooled) (wire wire' : WireState)
    → OpensGiven wire → SuitsWire (record old { due = f ∷ old.due }) wire → AnswersSoFar (record old { due = f ∷ old.due }) wire
    → FlightTo result f old new wire wire' → AnswersSoFar new wire'

-- it is kept from one moment to the other
abbrev pub AreFollowed : (Pooled → Pooled → WireState → WireState → Type 0) → Type 0
AreFollowed goes =
    (old new : Pooled) (wire wire' : WireState) → OpensGiven wire → SuitsWire old wire → AnswersSoFar old wire → goes old new wire wire' → AnswersSoFar new wire'

abbrev pub StartsFollow : Type 0
StartsFollow = (result : Result Polled PoolFault) → AreFollowed (Starts result)

abbrev pub PollsFollow : Type 0
PollsFollow = (result : Result Polled PoolFault) → AreFollowed (PollsNext result)

abbrev pub TurnsFollow : Type 0
TurnsFollow = AreFollowed Turn

abbrev pub RunningFollows : Type 0
RunningFollows = AreFollowed Running

abbrev pub RunsFollow : Type 0
RunsFollow = (result : Result Polled PoolFault) → AreFollowed (RunsTo result)

-- each step, whatever it answers
abbrev pub StepsFollow : Type 0
StepsFollow = (result : Result Stepped PoolFault) → AreFollowed (StepsTo result)
