-- What an exchange comes to where the other end of its link answers as a server does.
use Rattle.std.specs.Prelude.{ℕ, ◌≡◌, ◌≤◌, ◌<◌, ◌^◌, List, length, Some}
use Rattle.std.specs.List.{AllByRecursion}
use Rattle.rdf_terms.specs.declared.term.Triple.{Triple}
use Rattle.tpf_base.specs.Addresses.{Address, IsAddress}
use Rattle.tpf_base.specs.declared.limits.TheConstants.{HEAD_LIMIT}
use Rattle.tpf_base.specs.Links.{All, Link, WireState, IsToldBy, ReceivesOwed}
use Rattle.http_wire.specs.declared.message.ReplyFault.{ReplyFault}
use Rattle.http_wire.specs.declared.message.ReplyFault.TheVariants as faults
use Rattle.template_fill.specs.Metadata.{Config}
use Rattle.tpf_base.specs.Marks.{Mark, Served}
use Rattle.template_fill.specs.Answers.{answer_to}
use Rattle.template_fill.specs.Responses.{IsVersion, Owes}
use Rattle.http_ends.specs.Requests.{request_for, asks}
use Rattle.http_ends.specs.Cuts.{Answered, IsAnswered, bytes_of, sent_of, received_of}
use Rattle.exchange.specs.Exchanges.{Exchanging, Stands}
use Rattle.exchange.specs.Polls.{Refuses}

-- what is owed on the link is the response to what was sent on it, as the other ends of an honest wire owe it
abbrev pub OwesResponse : List (List Triple) → Config → Link → Type 0
OwesResponse history config link =
    (sent owed : List ℕ) → link.sent ≡ Some sent → link.owed ≡ Some owed → Owes history config sent owed

-- each version of the data answers the address with status 200
abbrev pub IsAnsweredByAll : List (List Triple) → Config → Address → Type 0
IsAnsweredByAll history config address =
    (version : ℕ) → 1 ≤ version → version ≤ length history → (answer_to history (Served version) config (asks address)).status ≡ 200

-- The answer to the request for the address, over one of the versions, has a body that is longer than the limit.
pub record IsPastLimit (history : List (List Triple)) (config : Config) (limit : ℕ) (address : Address) : Type 0 where
  pub mark : Mark
  pub version : IsVersion (length history) mark
  pub long : limit < length (answer_to history mark config (asks address)).body

-- A poll refused its reply: its link is told whole, owes the response to what was sent on it, and held whole replies to whole requests before. Then the reply is too long, and the body of an answer to its request is longer than the limit.
abbrev pub RefusedAsTooLongAlone : Type 0
RefusedAsTooLongAlone =
    (history : List (List Triple)) (config : Config) (before : List Answered) (limit : ℕ) (text : List ℕ) (old new : Exchanging) (wire wire' : WireState) (fault : ReplyFault) (received : List ℕ)
    (refused : Refuses old new wire wire' fault received)
    → IsToldBy All (wire'.links refused.ends.k) → ReceivesOwed (wire'.links refused.ends.k) → OwesResponse history config (wire'.links refused.ends.k)
    → Stands (bytes_of (sent_of before)) (received_of before) old wire → AllByRecursion (IsAnswered limit) before
    → IsAddress text new.address → length (request_for new.address) ≤ HEAD_LIMIT → new.limit < 2 ^ 64 → IsAnsweredByAll history config new.address
    → (fault ≡ faults.TooLong) × IsPastLimit history config new.limit new.address
