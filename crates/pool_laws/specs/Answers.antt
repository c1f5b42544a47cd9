-- What a reply that comes is, where the other end of its link answers as a server does.
use Rattle.std.specs.Prelude.{ℕ, ◌≡◌, ◌≢◌, ◌<◌, ◌≤◌, ◌^◌, ◌++◌, Bool, true, false, List, length, Ok, Err}
use Rattle.std.specs.List.{AllByRecursion}
use Rattle.tpf_base.specs.Causes.{Rose}
use Rattle.tpf_base.specs.declared.limits.TheConstants.{HEAD_LIMIT}
use Rattle.http_wire.specs.declared.message.ReplyFault.{ReplyFault}
use Rattle.http_wire.specs.declared.message.ReplyFault.TheVariants.{TooLong, Status}
use Rattle.pool_laws.specs.Honest.{IsAnsweredByAll}
use Rattle.request_pool.specs.declared.fault.PoolFault.TheVariants as faults
use Rattle.rdf_terms.specs.declared.term.Triple.{Triple}
use Rattle.tpf_base.specs.Addresses.{Address}
use Rattle.tpf_base.specs.Links.{All, WireState, IsToldBy, ReceivesOwed, OwesAllowed, OpensGiven}
use Rattle.tpf_base.specs.Marks.{Mark, Served, version_at}
use Rattle.http_wire.specs.declared.message.Reply.{Reply}
use Rattle.template_fill.specs.HttpAnswer.{NQuads, answer_text}
use Rattle.template_fill.specs.Metadata.{Config}
use Rattle.template_fill.specs.Answers.{is_reload, answer_to}
use Rattle.template_fill.specs.Responses.{answering, response, IsVersion, IsMarked, IsHonestAt}
use Rattle.http_ends.specs.Requests.{asks, request_for}
use Rattle.request_pool.specs.declared.fault.Stepped.TheVariants.{Came}
use Rattle.request_pool.specs.Pools.{Pooled}
use Rattle.request_pool.specs.Owned.{SuitsWire}
use Rattle.request_pool.specs.Steps.{StepsTo, HandsOut}
use Rattle.pool_laws.specs.Following.{AnswersSoFar}
use Rattle.pool_laws.specs.Causes.{IsRefused, IsCut}

-- The wire tells all, and of its links this holds, as by the laws of every wire at each moment.
pub record TellsAll (allows : List ℕ → ℕ → List ℕ → List ℕ → Type 0) (wire : WireState) : Type 0 where
  pub all : wire.nature.tells ≡ All
  pub told : (k : ℕ) → IsToldBy wire.nature.tells (wire.links k)
  pub received : (k : ℕ) → ReceivesOwed (wire.links k)
  pub owed : (k : ℕ) → OwesAllowed allows (wire.links k)

-- What is owed for what was sent is the response to it, over marks of served versions.
pub record OwesOver (history : List (List Triple)) (config : Config) (served : ℕ → Bool) (sent owed : List ℕ) : Type 0 where
  pub marks : List Mark
  pub marked : IsMarked history config sent marks
  pub are_served : AllByRecursion (λ mark. served (version_at mark) ≡ true) marks
  pub owed_is : owed ≡ response history config sent marks

-- So it is of what the other end owes at one host and port. Where one version alone is served, each answer is one over it.
abbrev pub IsHonestOver : (List ℕ → ℕ → List ℕ → List ℕ → Type 0) → List ℕ → ℕ → List (List Triple) → Config → (ℕ → Bool) → Type 0
IsHonestOver allows host port history config served = (sent owed : List ℕ) → allows host port sent owed → OwesOver history config served sent owed

-- The bytes are the body of the server's answer to the request for the address, over one of the versions: a page of N-Quads with status 200, and no answer to a reload.
pub record IsBodyOf (history : List (List Triple)) (config : Config) (address : Address) (body : List ℕ) : Type 0 where
  pub mark : Mark
  pub version : IsVersion (length history) mark
  pub no_reload : is_reload config (asks address) ≡ false
  pub served : answer_to history mark config (asks address) ≡ answer_to history (Served (version_at mark)) config (asks address)
  pub status : (answer_to history mark config (asks address)).status ≡ 200
  pub media_type : (answer_to history mark config (asks address)).media_type ≡ NQuads
  pub body_is : body ≡ (answer_to history mark config (asks address)).body

-- so they are, over a version that is served
pub record IsBodyOver (history : List (List Triple)) (config : Config) (served : ℕ → Bool) (address : Address) (body : List ℕ) : Type 0 where
  pub is_body : IsBodyOf history config address body
  pub is_served : served (version_at is_body.mark) ≡ true

-- A reply came: an ask with its ticket was held, and, over an honest other end at the host and the port of its address, the reply is the body of the answer to the request for it, over a version that is served.
pub record Brings (allows : List ℕ → ℕ → List ℕ → List ℕ → Type 0) (ticket : ℕ) (address : Address) (reply : Reply) (old new : Pooled) : Type 0 where
  pub hands : HandsOut ticket address old new
  pub body : (history : List (List Triple)) (config : Config) → IsHonestAt allows hands.ask.address.host hands.ask.address.port (answering history config)
      → IsBodyOf history config hands.ask.address reply.body
  pub over : (history : List (List Triple)) (config : Config) (served : ℕ → Bool) → IsHonestOver allows hands.ask.address.host hands.ask.address.port history config served
      → IsBodyOver history config served hands.ask.address reply.body

-- Each reply of a step is such a body, where the wire tells all after the step. No address is too long for this: a request past the limit of heads is refused, and its refusal is no reply.
abbrev pub RepliesAreAnswers : (List ℕ → ℕ → List ℕ → List ℕ → Type 0) → WireState → Type 0
RepliesAreAnswers allows after =
    (ticket : ℕ) (address : Address) (reply : Reply) (old new : Pooled) (before : WireState)
    → OpensGiven before → SuitsWire old before → AnswersSoFar old before → old.limit < 2 ^ 64 → TellsAll allows after
    → StepsTo (Ok (Came ticket address reply)) old new before after → Brings allows ticket address reply old new

-- ---- faults

-- The body of the server's answer to the request for the address, over one of the versions, is longer than the limit; and what was received is the front of that answer, head and body.
pub record HasLongBody (history : List (List Triple)) (config : Config) (limit : ℕ) (address : Address) (received : List ℕ) : Type 0 where
  pub body : List ℕ
  pub is_body : IsBodyOf history config address body
  pub long : limit < length body
  pub rest : List ℕ
  pub answer_is : answer_text (answer_to history is_body.mark config (asks address)) false false ≡ received ++ rest

-- The refused reply is the answer over this mark, a page that is too long.
pub record IsLongPage (history : List (List Triple)) (config : Config) (limit : ℕ) (fault : ReplyFault) (mark : Mark) (address : Address) (received : List ℕ) : Type 0 where
  pub fault_is : fault ≡ TooLong
  pub long : HasLongBody history config limit address received
  pub same : long.is_body.mark ≡ mark

-- The refused reply is the answer to the request for the address over a version that is served: one with status 200 is too long, and any other is refused for its status.
pub record IsRefusedOver (history : List (List Triple)) (config : Config) (served : ℕ → Bool) (limit : ℕ) (fault : ReplyFault) (address : Address) (received : List ℕ) : Type 0 where
  pub mark : Mark
  pub version : IsVersion (length history) mark
  pub is_served : served (version_at mark) ≡ true
  pub over : answer_to history mark config (asks address) ≡ answer_to history (Served (version_at mark)) config (asks address)
  pub page : (answer_to history mark config (asks address)).status ≡ 200 → IsLongPage history config limit fault mark address received
  pub other : (answer_to history mark config (asks address)).status ≢ 200 → fault ≡ Status (answer_to history mark config (asks address)).status

-- A reply was refused: over an honest other end whose versions all answer the address with status 200, it is too long, and so is the body of the answer over one of the versions; over any honest other end it is refused for what its answer is.
pub record IsTooLong (allows : List ℕ → ℕ → List ℕ → List ℕ → Type 0) (fault : ReplyFault) (received : List ℕ) (old new : Pooled) (before after : WireState) : Type 0 where
  pub refused : IsRefused fault received old new before after
  pub too_long : (history : List (List Triple)) (config : Config) → IsHonestAt allows refused.loses.ask.address.host refused.loses.ask.address.port (answering history config)
      → length (request_for refused.loses.ask.address) ≤ HEAD_LIMIT → IsAnsweredByAll history config refused.loses.ask.address → fault ≡ TooLong
  pub long : (history : List (List Triple)) (config : Config) → IsHonestAt allows refused.loses.ask.address.host refused.loses.ask.address.port (answering history config)
      → length (request_for refused.loses.ask.address) ≤ HEAD_LIMIT → IsAnsweredByAll history config refused.loses.ask.address → HasLongBody history config old.limit refused.loses.ask.address received
  pub over : (history : List (List Triple)) (config : Config) (served : ℕ → Bool) → IsHonestOver allows refused.loses.ask.address.host refused.loses.ask.address.port history config served
      → length (request_for refused.loses.ask.address) ≤ HEAD_LIMIT → IsRefusedOver history config served old.limit fault refused.loses.ask.address received

abbrev pub RefusalsAreTooLong : (List ℕ → ℕ → List ℕ → List ℕ → Type 0) → WireState → Type 0
RefusalsAreTooLong allows after =
    (fault : ReplyFault) (received : List ℕ) (old new : Pooled) (before : WireState)
    → OpensGiven before → SuitsWire old before → AnswersSoFar old before → old.limit < 2 ^ 64 → TellsAll allows after
    → StepsTo (Err (faults.Reply fault received)) old new before after → IsTooLong allows fault received old new before after

-- A link was cut: over an honest other end the wire's faults rose, since a part of the answer was not received, be it the refusal of a request past the limit of heads.
pub record IsFaulty (allows : List ℕ → ℕ → List ℕ → List ℕ → Type 0) (received : List ℕ) (old new : Pooled) (before after : WireState) : Type 0 where
  pub cut : IsCut received old new before after
  pub rose : (history : List (List Triple)) (config : Config) → IsHonestAt allows cut.loses.ask.address.host cut.loses.ask.address.port (answering history config)
      → Rose before.faults after.faults

abbrev pub CutsAreFaults : (List ℕ → ℕ → List ℕ → List ℕ → Type 0) → WireState → Type 0
CutsAreFaults allows after =
    (received : List ℕ) (old new : Pooled) (before : WireState)
    → OpensGiven before → SuitsWire old before → AnswersSoFar old before → old.limit < 2 ^ 64 → TellsAll allows after
    → StepsTo (Err (faults.Cut received)) old new before after → IsFaulty allows received old new before after
