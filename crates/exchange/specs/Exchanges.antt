-- An exchange: a request, and the reply to it, on one link.
use Rattle.std.specs.Prelude.{ℕ, ◌≡◌, ◌++◌, true, List, [], Option, Some, None}
use Rattle.tpf_base.specs.Addresses.{Address, authority_of, target_of}
use Rattle.tpf_base.specs.HttpText.{request_text}
use Rattle.tpf_base.specs.Links.{WireState}
use Rattle.tpf_base.specs.Sending.{Holds}
use Rattle.exchange.specs.declared.exchange.Standing.{Standing}
use Rattle.exchange.specs.declared.exchange.Standing.TheVariants.{Underway, Left, Over}

-- the request for an address (RFC 9112, section 3)
unfoldable pub request_of : Address → List ℕ
request_of address = request_text (authority_of address) (target_of address)

-- An exchange. `sent` is the front of its request that was sent, `received` what came in reply.
pub record Exchanging : Type 0 where
  pub address : Address
  pub limit : ℕ
  pub link : Option ℕ
  pub sent : List ℕ
  pub received : List ℕ
  pub standing : Standing

-- an exchange before its first poll
abbrev pub starting : Address → ℕ → Option ℕ → Exchanging
starting address limit link = record { address = address; limit = limit; link = link; sent = []; received = []; standing = Underway }

-- Where the wire tells, this was sent and received on the link: what was so before the exchange, and then what the exchange sent and received. An exchange without a link has moved nothing.
abbrev pub StandsOn : List ℕ → List ℕ → Exchanging → Option ℕ → WireState → Type 0
StandsOn before_sent before_received e None wire = (before_sent ≡ []) × (before_received ≡ []) × (e.sent ≡ []) × (e.received ≡ [])
StandsOn before_sent before_received e (Some k) wire =
    Holds (wire.links k).sent (before_sent ++ e.sent) × Holds (wire.links k).received (before_received ++ e.received)

abbrev pub Stands : List ℕ → List ℕ → Exchanging → WireState → Type 0
Stands before_sent before_received e wire = StandsOn before_sent before_received e e.link wire

-- its link, where it has one, is open
abbrev pub IsLinked : Option ℕ → WireState → Type 0
IsLinked None wire = Unit {0}
IsLinked (Some k) wire = (wire.links k).is_open ≡ true

-- the link of a reply that keeps it
abbrev pub left_by : Standing → Option ℕ → Option ℕ
left_by Left link = link
left_by Underway link = None
left_by Over link = None

abbrev pub left_link : Exchanging → Option ℕ
left_link e = left_by e.standing e.link

-- the first list stands at the front of the second
pub record IsFront (front whole : List ℕ) : Type 0 where
  pub rest : List ℕ
  pub is_whole : whole ≡ front ++ rest
