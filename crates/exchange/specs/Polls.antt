-- What a poll of an exchange does and answers.
use Rattle.std.specs.Prelude.{ℕ, ◌≡◌, ◌≢◌, ◌+◌, ◌<◌, ◌≤◌, ◌^◌, ◌==◌, ◌&&◌, ◌⊎◌, ◌++◌, Bool, true, false, List, [], length, Option, Some, None, Result, Ok, Err, if◌then◌else◌}
use Rattle.tpf_base.specs.Causes.{Rose, counted}
use Rattle.tpf_base.specs.Failures.{is_nth}
use Rattle.tpf_base.specs.Addresses.{Address}
use Rattle.tpf_base.specs.HttpReply as reply
use Rattle.tpf_base.specs.HttpReply.{reply_of}
use Rattle.http_wire.specs.Replies.{shown_fault}
use Rattle.http_wire.specs.declared.message.ReplyFault.{ReplyFault}
use Rattle.http_wire.specs.declared.message.Reply.{Reply}
use Rattle.tpf_base.specs.Links.{Link, WireState, Sending, Receiving, IsRipe, is_short, told_by}
use Rattle.tpf_base.specs.Sending.{Holds}
use Rattle.exchange.specs.Exchanges.{Exchanging, IsFront, request_of, Stands}
use Rattle.exchange.specs.declared.exchange.Standing.TheVariants.{Underway, Left, Over}
use Rattle.exchange.specs.declared.fault.ExchangeFault.{ExchangeFault}
use Rattle.exchange.specs.declared.fault.ExchangeFault.TheVariants as faults

-- ---- the link

-- A link that was dialled is the next one, its peer, where the wire tells it, is the address's host and port, and no wait followed; a dial that failed gave none. A link that the exchange had before stays its link, and nothing is dialled.
abbrev pub LinkAfter : Address → Option ℕ → Option ℕ → WireState → WireState → Type 0
LinkAfter address (Some k) (Some j) old new =
    (j ≡ k) × (new.given ≡ old.given) × (new.dials ≡ old.dials) × ((new.links k).peer ≡ (old.links k).peer) × ((old.links k).stalls ≤ (new.links k).stalls)
LinkAfter address (Some k) None old new = ⊥
LinkAfter address None None old new = (new.given ≡ old.given) × (new.dials ≡ counted old.dials) × (new.idle ≡ old.idle)
LinkAfter address None (Some j) old new =
    (j ≡ old.given) × (new.given ≡ old.given + 1) × (new.dials ≡ counted old.dials) × ((new.links j).peer ≡ told_by old.nature.tells (address.host, address.port)) × (new.idle ≡ 0)

-- What a poll does to all but its answer: it calls on its own link alone, never waits, and dials where it has none.
pub record Touches (old new : Exchanging) (wire wire' : WireState) : Type 0 where
  pub address : new.address ≡ old.address
  pub limit : new.limit ≡ old.limit
  pub link : LinkAfter old.address old.link new.link wire wire'
  pub others : (k : ℕ) → new.link ≢ Some k → wire'.links k ≡ wire.links k
  pub later : wire.faults ≤ wire'.faults
  pub waits : wire'.waits ≡ wire.waits
  pub idle : wire'.idle ≤ wire.idle
  pub door : wire'.door ≡ wire.door
  pub nature : wire'.nature ≡ wire.nature
  -- only a dial may provoke a fault, and over a steady wire none does below 2 ^ 63 links
  pub unprovoked : (old.link ≡ None → (wire.nature.steady ≡ true) × (wire.given < 2 ^ 63)) → wire'.provoked ≡ wire.provoked
  -- over a steady wire on which dials alone are due nothing fails but a dial that is due
  pub not_due : wire.nature.steady ≡ true → wire.given < 2 ^ 63 → (e : ℕ) → wire.nature.every ≡ Some e
      → (old.link ≡ None → is_nth e wire'.dials ≡ false) → wire'.faults ≡ wire.faults

-- ---- the answer

-- the stalls of its link rose, of which a link that was dialled in this poll had none
abbrev pub RoseOn : Option ℕ → ℕ → WireState → WireState → Type 0
RoseOn None k old new = Rose 0 (new.links k).stalls
RoseOn (Some j) k old new = Rose (old.links k).stalls (new.links k).stalls

-- which way the exchange waits: a part of its request is to be sent, or the whole request was sent and the reply is to be received
pub data Awaits (e : Exchanging) (link : Link) : Type 0 where
  ToSend : length e.sent < length (request_of e.address) → link.stalled ≡ Some Sending → Awaits e link
  ToReceive : e.sent ≡ request_of e.address → link.stalled ≡ Some Receiving → Awaits e link

-- The request was sent whole, and nothing is left to receive that the wire tells to be owed.
pub record Hangs (e : Exchanging) (link : Link) : Type 0 where
  pub sent : e.sent ≡ request_of e.address
  pub none_left : is_short link ≡ false

-- None: the stalls of its own link rose, no wait answered it since, it is ripe or the exchange hangs, a front of its request was sent, and the reply goes on. Over a steady wire a link that a wait woke has moved a byte.
pub record Waits (old new : Exchanging) (wire wire' : WireState) : Type 0 where
  pub k : ℕ
  pub link : new.link ≡ Some k
  pub is_open : (wire'.links k).is_open ≡ true
  pub stalls : RoseOn old.link k wire wire'
  pub awaits : Awaits new (wire'.links k)
  pub asleep : (wire'.links k).woken ≡ false
  pub ripe : IsRipe (wire'.links k) ⊎ Hangs new (wire'.links k)
  pub woken : wire.nature.steady ≡ true → (wire.links k).woken ≡ true → Awaits old (wire.links k) → old.link ≡ Some k → wire'.idle ≡ 0
  pub standing : new.standing ≡ Underway
  pub more : reply_of new.received false new.limit ≡ reply.More
  pub front : IsFront new.sent (request_of new.address)
  pub stands : (s r : List ℕ) → Stands s r old wire → Stands s r new wire'

-- A reply: the request was sent whole, and what was received in reply to it is read as this reply, whole. The link is left open exactly where the reply keeps it and no byte was received behind it.
pub record Replies (old new : Exchanging) (wire wire' : WireState) (answer : Reply) : Type 0 where
  pub k : ℕ
  pub link : new.link ≡ Some k
  pub received : List ℕ
  pub n : ℕ
  pub at_end : Bool
  pub whole : reply_of received at_end new.limit ≡ reply.Whole answer.body n answer.keeps
  pub ended : at_end ≡ true → Holds (wire'.links k).ended true × (answer.keeps ≡ false)
  pub left : new.standing ≡ (if answer.keeps && (n == length received) then Left else Over)
  pub is_open : new.standing ≡ Left → ((wire'.links k).is_open ≡ true) × ((wire'.links k).stalled ≡ None)
  pub closed : new.standing ≡ Over → (wire'.links k).is_open ≡ false
  pub idle : wire'.idle ≡ 0
  pub sent_is : (s r : List ℕ) → Stands s r old wire → Holds (wire'.links k).sent (s ++ request_of new.address)
  pub received_is : (s r : List ℕ) → Stands s r old wire → Holds (wire'.links k).received (r ++ received)

-- the link, where it got one, is closed, and a front of the request was sent on it
abbrev pub ClosedOn : Option ℕ → WireState → Type 0
ClosedOn None wire = Unit {0}
ClosedOn (Some k) wire = (wire.links k).is_open ≡ false

abbrev pub FrontSent : Exchanging → WireState → Exchanging → Option ℕ → WireState → Type 0
FrontSent old wire new None wire' = Unit {0}
FrontSent old wire new (Some k) wire' =
    (s r : List ℕ) → Stands s r old wire → (front more : List ℕ) × IsFront front (request_of new.address)
    × Holds (wire'.links k).sent (s ++ front) × Holds (wire'.links k).received (r ++ more)

-- The exchange is over without a reply, and its link is closed.
pub record Breaks (old new : Exchanging) (wire wire' : WireState) : Type 0 where
  pub standing : new.standing ≡ Over
  pub closed : ClosedOn new.link wire'
  pub front : FrontSent old wire new new.link wire'

-- where it has a link, this was received on it for the exchange
abbrev pub ReceivedIs : Exchanging → WireState → List ℕ → Option ℕ → WireState → Type 0
ReceivedIs old wire received None wire' = Unit {0}
ReceivedIs old wire received (Some k) wire' = (s r : List ℕ) → Stands s r old wire → Holds (wire'.links k).received (r ++ received)

-- Failed: the faults rose, and what was received so far has no fault and is no whole reply.
pub record Fails (old new : Exchanging) (wire wire' : WireState) : Type 0 where
  pub breaks : Breaks old new wire wire'
  pub rose : Rose wire.faults wire'.faults
  pub more : reply_of new.received false new.limit ≡ reply.More
  pub received_is : ReceivedIs old wire new.received new.link wire'
  -- over a steady wire on which dials alone are due, it was a dial, and one that is due
  pub due : wire.nature.steady ≡ true → (e : ℕ) → wire.nature.every ≡ Some e → (old.link ≡ None) × (new.link ≡ None) × (wire.given < 2 ^ 63 → is_nth e wire'.dials ≡ true)

-- Refused or cut: the request was sent whole, and this was received in reply.
pub record Ends (old new : Exchanging) (wire wire' : WireState) (received : List ℕ) : Type 0 where
  pub k : ℕ
  pub link : new.link ≡ Some k
  pub standing : new.standing ≡ Over
  pub closed : (wire'.links k).is_open ≡ false
  pub idle : wire'.idle ≡ 0
  pub sent_is : (s r : List ℕ) → Stands s r old wire → Holds (wire'.links k).sent (s ++ request_of new.address)
  pub received_is : (s r : List ℕ) → Stands s r old wire → Holds (wire'.links k).received (r ++ received)

-- Cut: the link ended, and at this end what was received is no whole reply. Where a part of what is owed was not received, the wire's faults rose; over a steady wire on which dials alone are due, all was received.
pub record Cuts (old new : Exchanging) (wire wire' : WireState) (received : List ℕ) : Type 0 where
  pub ends : Ends old new wire wire' received
  pub ended : Holds (wire'.links ends.k).ended true
  pub more : reply_of received true new.limit ≡ reply.More
  pub short : is_short (wire'.links ends.k) ≡ true → Rose wire.faults wire'.faults
  pub not_due : wire.nature.steady ≡ true → (e : ℕ) → wire.nature.every ≡ Some e → is_short (wire'.links ends.k) ≡ false

-- Bad: what was received in reply has this fault.
pub record Refuses (old new : Exchanging) (wire wire' : WireState) (fault : ReplyFault) (received : List ℕ) : Type 0 where
  pub ends : Ends old new wire wire' received
  pub why : reply.ReplyFault
  pub is_fault : fault ≡ shown_fault why
  pub bad : reply_of received false new.limit ≡ reply.Bad why

-- each answer of a poll
abbrev pub Answers : Exchanging → Exchanging → WireState → WireState → Option (Result Reply ExchangeFault) → Type 0
Answers old new wire wire' None = Waits old new wire wire'
Answers old new wire wire' (Some (Ok answer)) = Replies old new wire wire' answer
Answers old new wire wire' (Some (Err faults.Failed)) = Fails old new wire wire'
Answers old new wire wire' (Some (Err (faults.Cut received))) = Cuts old new wire wire' received
Answers old new wire wire' (Some (Err (faults.Bad fault received))) = Refuses old new wire wire' fault received
Answers old new wire wire' (Some (Err faults.OutOfMemory)) = Breaks old new wire wire'

-- What was received goes with a reply, with a part of one and with one that is refused: nothing of it is kept.
abbrev pub HandsOver : List ℕ → Option (Result Reply ExchangeFault) → Type 0
HandsOver held None = Unit {0}
HandsOver held (Some (Ok answer)) = held ≡ []
HandsOver held (Some (Err faults.Failed)) = Unit {0}
HandsOver held (Some (Err (faults.Cut received))) = held ≡ []
HandsOver held (Some (Err (faults.Bad fault received))) = held ≡ []
HandsOver held (Some (Err faults.OutOfMemory)) = Unit {0}
