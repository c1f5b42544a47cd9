-- What a wire holds: its links, its counts, and what it is from its making.
use Rattle.std.specs.Prelude.{ℕ, ◌≡◌, ◌≤◌, ◌<◌, ◌↔◌, List, ◌++◌, length, Option, Some, None, is_some, Bool, true, false, nat_lt}
use Rattle.tpf_base.specs.declared.wire.TheConstants.{MOST_IDLE}

-- what a call on a link does with bytes
pub data Way : Type 0 where
  Sending Receiving : Way

-- how much a wire tells of each link: no bytes; those sent and received; or also those that the other end owes
pub data Tells : Type 0 where
  CountsAlone SentAndReceived All : Tells

-- One link. Bytes, peer and end stand where the wire tells them.
pub record Link : Type 0 where
  -- the host and the port for which it was dialled; none of a link that came to the door
  pub peer : Option (List ℕ × ℕ)
  -- the bytes sent, the bytes received, and the bytes that the other end gives to what was sent so far
  pub sent : Option (List ℕ)
  pub received : Option (List ℕ)
  pub owed : Option (List ℕ)
  -- how often a call on it stalled; which way its last call was, where that stalled; and whether a wait answered the link since
  pub stalls : ℕ
  pub stalled : Option Way
  pub woken : Bool
  -- whether a receive answered the end
  pub ended : Option Bool
  -- given and not closed
  pub is_open : Bool

-- what a wire says of a fact that a wire of counts alone does not tell
abbrev pub told_by : {A : Type 0} → Tells → A → Option A
told_by CountsAlone fact = None
told_by SentAndReceived fact = Some fact
told_by All fact = Some fact

-- nothing but counts is told of the link
pub record TellsCounts (link : Link) : Type 0 where
  pub peer : link.peer ≡ None
  pub sent : link.sent ≡ None
  pub received : link.received ≡ None
  pub owed : link.owed ≡ None
  pub ended : link.ended ≡ None

-- the bytes of the link and its end are told
pub record TellsBytes (link : Link) : Type 0 where
  pub sent : List ℕ
  pub received : List ℕ
  pub ended : Bool
  pub is_sent : link.sent ≡ Some sent
  pub is_received : link.received ≡ Some received
  pub is_ended : link.ended ≡ Some ended

-- the link is told exactly as far as the wire tells
abbrev pub IsToldBy : Tells → Link → Type 0
IsToldBy CountsAlone link = TellsCounts link
IsToldBy SentAndReceived link = TellsBytes link × (link.owed ≡ None)
IsToldBy All link = TellsBytes link × ((owed : List ℕ) × (link.owed ≡ Some owed))

-- what was received is the front of what is owed
abbrev pub ReceivesOwed : Link → Type 0
ReceivesOwed link = (received owed : List ℕ) → link.received ≡ Some received → link.owed ≡ Some owed → (rest : List ℕ) × (owed ≡ received ++ rest)

-- a part of what is owed was not received, where both are told
abbrev pub some_left : Option (List ℕ) → Option (List ℕ) → Bool
some_left None owed = false
some_left (Some received) None = false
some_left (Some received) (Some owed) = nat_lt (length received) (length owed)

abbrev pub is_short : Link → Bool
is_short link = some_left link.received link.owed

-- may move a byte: open, its last call stalled, and, if that was a receive, a part of what is owed was not received
pub data IsRipe (link : Link) : Type 0 where
  ToSend : link.is_open ≡ true → link.stalled ≡ Some Sending → IsRipe link
  ToReceive : link.is_open ≡ true → link.stalled ≡ Some Receiving → is_short link ≡ true → IsRipe link

-- what no call changes
pub record Nature : Type 0 where
  pub tells : Tells
  -- fewer than MOST_IDLE waits follow one another with no byte moved
  pub lively : Bool
  -- it fails only where that is due or provoked
  pub steady : Bool
  -- of a steady wire, where told: the dials whose number is a multiple of this one are due to fail, none for 0, and nothing else is due
  pub every : Option ℕ

-- The door, which is the listener.
pub record Door : Type 0 where
  -- the host and the port at which it is open, none where it is closed
  pub place : Option (List ℕ × ℕ)
  -- how often no connection waited there
  pub stalls : ℕ
  -- how often `listen`, `accept` or `wait` failed
  pub faults : ℕ
  -- how often `listen` was called
  pub calls : ℕ

-- a door that was never opened
abbrev pub closed_door : Door
closed_door = record { place = None; stalls = 0; faults = 0; calls = 0 }

-- the door is as it was but for its faults, which never fall
pub record KeepsDoor (old new : Door) : Type 0 where
  pub place : new.place ≡ old.place
  pub stalls : new.stalls ≡ old.stalls
  pub later : old.faults ≤ new.faults
  pub calls : new.calls ≡ old.calls

-- A wire. Links have the numbers 0, 1, 2 .. in the order in which they were given. Counts stand still at their last value.
pub record WireState : Type 0 where
  pub links : ℕ → Link
  -- how many links were given
  pub given : ℕ
  -- how often it failed, on a link, at a dial or at the door; and, of a steady wire, how many of these faults the caller provoked
  pub faults : ℕ
  pub provoked : ℕ
  -- how often a dial and a wait was called
  pub dials : ℕ
  pub waits : ℕ
  -- how many waits succeeded, one after another, since a byte moved, a receive answered the end, or a link was given
  pub idle : ℕ
  pub door : Door
  pub nature : Nature

-- its door is open
abbrev pub listens : WireState → Bool
listens wire = is_some wire.door.place

-- the same replies are allowed, where a relation says of a host, a port and the bytes sent there which bytes may be owed
abbrev pub SameAllowed : (List ℕ → ℕ → List ℕ → List ℕ → Type 0) → (List ℕ → ℕ → List ℕ → List ℕ → Type 0) → Type 0
SameAllowed old new = (host : List ℕ) (port : ℕ) (sent owed : List ℕ) → new host port sent owed ↔ old host port sent owed

-- what a dialled link owes is allowed
abbrev pub OwesAllowed : (List ℕ → ℕ → List ℕ → List ℕ → Type 0) → Link → Type 0
OwesAllowed allows link =
    (host : List ℕ) (port : ℕ) (sent owed : List ℕ) → link.peer ≡ Some (host, port) → link.sent ≡ Some sent → link.owed ≡ Some owed
    → allows host port sent owed

-- no link is open but those that were given
abbrev pub OpensGiven : WireState → Type 0
OpensGiven wire = (k : ℕ) → wire.given ≤ k → (wire.links k).is_open ≡ false

-- over a lively wire fewer waits than the most follow one another
abbrev pub IsLively : WireState → Type 0
IsLively wire = wire.nature.lively ≡ true → wire.idle < MOST_IDLE
