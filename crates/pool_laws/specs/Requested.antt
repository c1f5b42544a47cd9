-- What was requested, and what was answered, on each link that was given since a moment, and how often each address was.
use Rattle.std.specs.Prelude.{ℕ, zero, suc, ◌≡◌, ◌+◌, ◌-◌, ◌*◌, ◌<◌, ◌≤◌, ◌++◌, Bool, true, false, not, nat_lt, if◌then◌else◌, List, [], ◌∷◌, map, length, count_by, Option, Some, None, Result, Ok}
use Rattle.std.specs.List.{AllByRecursion, flat_map}
use Rattle.tpf_base.specs.Addresses.{Address}
use Rattle.tpf_base.specs.Causes.{RoseBy}
use Rattle.tpf_base.specs.HttpReply.{Whole, reply_of}
use Rattle.tpf_base.specs.Links.{Link, WireState, OpensGiven}
use Rattle.tpf_base.specs.Sending.{Holds}
use Rattle.http_ends.specs.Requests.{request_for}
use Rattle.exchange.specs.Exchanges.{Exchanging, IsFront, Stands, starting}
use Rattle.request_pool.specs.declared.asks.Waiting.{Waiting}
use Rattle.request_pool.specs.declared.asks.Flight.{Flight}
use Rattle.request_pool.specs.declared.asks.Spare.{Spare}
use Rattle.request_pool.specs.declared.fault.PoolFault.{PoolFault}
use Rattle.request_pool.specs.declared.fault.Stepped.{Stepped}
use Rattle.request_pool.specs.Pools.{Pooled, empty_pool, held, in_flight}
use Rattle.request_pool.specs.Owned.{SuitsWire, held_on}
use Rattle.request_pool.specs.Steps.{StepsTo}
use Rattle.request_pool.specs.Closing.{ClosesSome}
use Rattle.pool_laws.specs.Counting.{FewFailed}
use Rattle.pool_laws.specs.Following.{IsWebAddress}
use Rattle.pool_laws.specs.Rising.{FailuresRose}
use Rattle.pool_laws.specs.Sending.{requests_for}

-- ---- one link

-- a request for an address, and what was received in reply to it
pub record Exchanged : Type 0 where
  pub address : Address
  pub received : List ℕ

-- what was received is one whole reply and no more
pub record IsAnswered (limit : ℕ) (x : Exchanged) : Type 0 where
  pub is_address : IsWebAddress x.address
  pub body : List ℕ
  pub keeps : Bool
  pub whole : reply_of x.received false limit ≡ Whole body (length x.received) keeps

abbrev pub addresses_exchanged : List Exchanged → List Address
addresses_exchanged all = map (λ x. x.address) all

abbrev pub replies_of : List Exchanged → List ℕ
replies_of all = flat_map (λ x. x.received) all

-- What was sent on a link behind requests that were answered: no whole request; a whole request that was not answered; or one that was, behind which nothing more is sent.
pub data LastRequest : Type 0 where
  NoneWhole : LastRequest
  Unanswered : Address → LastRequest
  Replied : Address → LastRequest

-- the requests on a link: those that were answered, and the last
pub record LinkRequests : Type 0 where
  pub answered : List Exchanged
  pub last : LastRequest

abbrev pub last_whole : LastRequest → List Address
last_whole NoneWhole = []
last_whole (Unanswered address) = address ∷ []
last_whole (Replied address) = address ∷ []

abbrev pub last_answered : LastRequest → List Address
last_answered NoneWhole = []
last_answered (Unanswered address) = []
last_answered (Replied address) = address ∷ []

-- the addresses for which whole requests were sent, and those of which the whole reply was received
abbrev pub whole_requests : LinkRequests → List Address
whole_requests r = addresses_exchanged r.answered ++ last_whole r.last

abbrev pub whole_answers : LinkRequests → List Address
whole_answers r = addresses_exchanged r.answered ++ last_answered r.last

-- nothing, or a proper front of the request for an address
pub data IsProperPart (part : List ℕ) : Type 0 where
  Nothing : part ≡ [] → IsProperPart part
  FrontOf : (address : Address) (rest : List ℕ) → IsWebAddress address → request_for address ≡ part ++ rest → 0 < length rest → IsProperPart part

-- a whole reply stands at the front of what was received, or ends where the link ended
pub record HasReply (limit : ℕ) (link : Link) (received : List ℕ) : Type 0 where
  pub body : List ℕ
  pub n : ℕ
  pub keeps : Bool
  pub at_end : Bool
  pub whole : reply_of received at_end limit ≡ Whole body n keeps
  pub ended : at_end ≡ true → Holds link.ended true

abbrev pub IsLast : ℕ → Link → LastRequest → List ℕ → List ℕ → Type 0
IsLast limit link NoneWhole sent received = IsProperPart sent
IsLast limit link (Unanswered address) sent received = IsWebAddress address × (sent ≡ request_for address)
IsLast limit link (Replied address) sent received = IsWebAddress address × (sent ≡ request_for address) × HasReply limit link received

-- Where the wire tells, these are the requests on the link: whole requests were sent, one whole reply to each was received, and behind both stands what belongs to the last.
pub record TellsRequests (limit : ℕ) (link : Link) (r : LinkRequests) : Type 0 where
  pub answered : AllByRecursion (IsAnswered limit) r.answered
  pub sent : List ℕ
  pub received : List ℕ
  pub last : IsLast limit link r.last sent received
  pub sent_is : Holds link.sent (requests_for (addresses_exchanged r.answered) ++ sent)
  pub received_is : Holds link.received (replies_of r.answered ++ received)

-- ---- how often

-- over so many links from a first one
abbrev pub over_links : (ℕ → ℕ) → ℕ → ℕ → ℕ
over_links count first zero = 0
over_links count first (suc n) = over_links count first n + count (first + n)

-- how many whole requests were sent, for addresses that pass a test, on the links that were given since a moment; and how many of them were answered
abbrev pub count_sent : (Address → Bool) → (ℕ → LinkRequests) → WireState → WireState → ℕ
count_sent test requests since now = over_links (λ k. count_by test (whole_requests (requests k))) since.given (now.given - since.given)

abbrev pub count_answered : (Address → Bool) → (ℕ → LinkRequests) → WireState → WireState → ℕ
count_answered test requests since now = over_links (λ k. count_by test (whole_answers (requests k))) since.given (now.given - since.given)

-- any address
abbrev pub any : Address → Bool
any address = true

-- ---- a pool

-- the whole request of an exchange was sent
abbrev pub is_sent : Exchanging → Bool
is_sent e = not (nat_lt (length e.sent) (length (request_for e.address)))

abbrev pub times_sent : Exchanging → ℕ
times_sent e = if is_sent e then 1 else 0

-- how many whole requests may still be sent for asks whose addresses pass a test: one for each try that is left
abbrev pub left_waiting : (Address → Bool) → ℕ → List Waiting → ℕ
left_waiting test retries [] = 0
left_waiting test retries (w ∷ ws) = (if test w.address then retries + 1 - w.failed else 0) + left_waiting test retries ws

abbrev pub left_flying : (Address → Bool) → ℕ → List Flight → ℕ
left_flying test retries [] = 0
left_flying test retries (f ∷ fs) = (if test f.exchange.address then retries + 1 - (f.failed + times_sent f.exchange) else 0) + left_flying test retries fs

-- how many exchanges in flight have not sent their whole request
abbrev pub unsent : List Flight → ℕ
unsent [] = 0
unsent (f ∷ fs) = (1 - times_sent f.exchange) + unsent fs

-- The requests on the link of an exchange: those before it were answered, and its own is the last, whole or not. An exchange without a link has none.
abbrev pub IsOn : WireState → (ℕ → LinkRequests) → List Exchanged → LastRequest → Option ℕ → Type 0
IsOn since requests answered last None = answered ≡ []
IsOn since requests answered last (Some k) = (since.given ≤ k) × (requests k ≡ record { answered = answered; last = last })

pub record OwnRequests (limit : ℕ) (since : WireState) (requests : ℕ → LinkRequests) (wire : WireState) (e : Exchanging) : Type 0 where
  pub answered : List Exchanged
  pub are_answered : AllByRecursion (IsAnswered limit) answered
  pub is_address : IsWebAddress e.address
  pub is_limit : e.limit ≡ limit
  pub stands : Stands (requests_for (addresses_exchanged answered)) (replies_of answered) e wire
  pub front : IsFront e.sent (request_for e.address)
  pub on : IsOn since requests answered (if is_sent e then Unanswered e.address else NoneWhole) e.link

-- so it would be of one that starts on a link that was left
abbrev pub RequestsOn : ℕ → WireState → (ℕ → LinkRequests) → WireState → Spare → Type 0
RequestsOn limit since requests wire s = (address : Address) × OwnRequests limit since requests wire (starting address limit (Some s.link))

-- Since a moment, asks for these addresses were put: what was requested on each link that was given, for each test no more whole requests than tries that were used, and in all no more than exchanges that were started.
pub record RequestedSince (asked : List Address) (since : WireState) (pool : Pooled) (wire : WireState) : Type 0 where
  pub requests : ℕ → LinkRequests
  pub later : since.given ≤ wire.given
  pub given : (k : ℕ) → since.given ≤ k → k < wire.given → TellsRequests pool.limit (wire.links k) (requests k)
  pub waiting : AllByRecursion (λ w. IsWebAddress w.address) pool.waiting
  pub polled : AllByRecursion (λ f. OwnRequests pool.limit since requests wire f.exchange) pool.polled
  pub due : AllByRecursion (λ f. OwnRequests pool.limit since requests wire f.exchange) pool.due
  pub spare : AllByRecursion (λ s. RequestsOn pool.limit since requests wire s) pool.spare
  pub few_failed : FewFailed pool
  pub tries : (test : Address → Bool)
      → count_sent test requests since wire + (left_waiting test pool.retries pool.waiting + left_flying test pool.retries (in_flight pool)) ≤ (pool.retries + 1) * count_by test asked
  pub starts : count_sent any requests since wire + unsent (in_flight pool) ≤ pool.started

-- Each ask that was put is held still, or a whole request for its address was answered by a whole reply.
pub record AnsweredSince (asked : List Address) (since : WireState) (pool : Pooled) (wire : WireState) : Type 0 where
  pub requested : RequestedSince asked since pool wire
  pub all : (test : Address → Bool) → count_by test asked ≤ count_answered test requested.requests since wire + count_by test (map (λ ask. ask.address) (held pool))

-- ---- what follows

-- What a link tells was requested in one way: so the counts are of the link, and of no choice.
abbrev pub RequestsAreOne : Type 0
RequestsAreOne =
    (limit : ℕ) (link : Link) (one other : LinkRequests) (sent : List ℕ) → link.sent ≡ Some sent → TellsRequests limit link one → TellsRequests limit link other
    → map request_for (whole_requests one) ≡ map request_for (whole_requests other)

-- For any test of addresses no more whole requests were sent than the asks that were put may be tried.
abbrev pub RequestsAreFew : Type 0
RequestsAreFew =
    (asked : List Address) (since : WireState) (pool : Pooled) (wire : WireState) (h : RequestedSince asked since pool wire) (test : Address → Bool)
    → count_sent test h.requests since wire ≤ (pool.retries + 1) * count_by test asked

-- no more whole requests than exchanges that were started
abbrev pub RequestsAreStarted : Type 0
RequestsAreStarted =
    (asked : List Address) (since : WireState) (pool : Pooled) (wire : WireState) (h : RequestedSince asked since pool wire) → count_sent any h.requests since wire ≤ pool.started

-- Where failures are rises of the wire's faults, no more whole requests were sent than asks were put and faults rose.
pub record SentByRises (before asked sent now : ℕ) : Type 0 where
  pub failures : ℕ
  pub all : RoseBy failures before now
  pub few : sent ≤ asked + failures

abbrev pub RequestsAreRises : Type 0
RequestsAreRises =
    (asked : List Address) (since : WireState) (before n : ℕ) (pool : Pooled) (wire : WireState) (h : RequestedSince asked since pool wire) → FailuresRose before n pool wire
    → SentByRises before n (count_sent any h.requests since wire) wire.faults

-- Where nothing is held, as many requests for each address were answered as asks for it were put.
abbrev pub AsksAreAnswered : Type 0
AsksAreAnswered =
    (asked : List Address) (since : WireState) (pool : Pooled) (wire : WireState) (h : AnsweredSince asked since pool wire) → held pool ≡ [] → (test : Address → Bool)
    → count_by test asked ≤ count_answered test h.requested.requests since wire

-- Where, beside that, no more whole requests were sent than asks were put, exactly the asks were requested.
abbrev pub RequestsAreExact : Type 0
RequestsAreExact =
    (asked : List Address) (since : WireState) (pool : Pooled) (wire : WireState) (h : AnsweredSince asked since pool wire) → held pool ≡ [] → count_sent any h.requested.requests since wire ≤ length asked → (test : Address → Bool)
    → count_sent test h.requested.requests since wire ≡ count_by test asked

-- ---- what keeps it

-- a pool that holds nothing, at the moment itself
abbrev pub EmptyPoolsRequested : Type 0
EmptyPoolsRequested = (links retries budget limit : ℕ) (wire : WireState) → RequestedSince [] wire (empty_pool links retries budget limit) wire

abbrev pub EmptyPoolsAnswered : Type 0
EmptyPoolsAnswered = (links retries budget limit : ℕ) (wire : WireState) → AnsweredSince [] wire (empty_pool links retries budget limit) wire

-- an ask is put
abbrev pub PutsRequested : Type 0
PutsRequested =
    (asked : List Address) (since : WireState) (ticket : ℕ) (address : Address) (pool : Pooled) (wire : WireState) → IsWebAddress address → RequestedSince asked since pool wire
    → RequestedSince (asked ++ address ∷ []) since (record pool { waiting = pool.waiting ++ (record { ticket = ticket; address = address; failed = 0 }) ∷ [] }) wire

abbrev pub PutsAnswered : Type 0
PutsAnswered =
    (asked : List Address) (since : WireState) (ticket : ℕ) (address : Address) (pool : Pooled) (wire : WireState) → IsWebAddress address → AnsweredSince asked since pool wire
    → AnsweredSince (asked ++ address ∷ []) since (record pool { waiting = pool.waiting ++ (record { ticket = ticket; address = address; failed = 0 }) ∷ [] }) wire

-- a fault ended it
abbrev pub FaultsRequested : Type 0
FaultsRequested = (asked : List Address) (since : WireState) (pool : Pooled) (wire : WireState) → RequestedSince asked since (record pool { fault = None }) wire → RequestedSince asked since pool wire

-- each step, whatever it answers
abbrev pub StepsRequested : Type 0
StepsRequested =
    (asked : List Address) (since : WireState) (result : Result Stepped PoolFault) (old new : Pooled) (wire wire' : WireState)
    → OpensGiven wire → SuitsWire old wire → RequestedSince asked since old wire → StepsTo result old new wire wire' → RequestedSince asked since new wire'

-- each step without a fault
abbrev pub StepsAnswered : Type 0
StepsAnswered =
    (asked : List Address) (since : WireState) (stepped : Stepped) (old new : Pooled) (wire wire' : WireState)
    → OpensGiven wire → SuitsWire old wire → AnsweredSince asked since old wire → StepsTo (Ok stepped) old new wire wire' → AnsweredSince asked since new wire'

-- its links are closed
abbrev pub ClosingRequested : Type 0
ClosingRequested =
    (asked : List Address) (since : WireState) (old new : Pooled) (wire wire' : WireState)
    → RequestedSince asked since old wire → new ≡ record old { waiting = []; polled = []; due = []; spare = [] } → ClosesSome (held_on old) (held_on new) wire wire'
    → RequestedSince asked since new wire'

abbrev pub ClosingAnswered : Type 0
ClosingAnswered =
    (asked : List Address) (since : WireState) (old new : Pooled) (wire wire' : WireState)
    → AnsweredSince asked since old wire → held old ≡ [] → new ≡ record old { waiting = []; polled = []; due = []; spare = [] } → ClosesSome (held_on old) (held_on new) wire wire'
    → AnsweredSince asked since new wire'
