-- What a step and a turn do on the wire.
use Rattle.std.specs.Prelude.{ℕ, ◌≡◌, ◌≢◌, ◌⊎◌, ◌+◌, ◌<◌, ◌≤◌, Bool, true, false, List, [], length, take, Option, Some, None}
use Rattle.std.specs.Io.KnownBytes.{append_known}
use Rattle.tpf_base.specs.Causes.{Rose, counted_by}
use Rattle.tpf_base.specs.Links.{Link, WireState, Way, Sending, Receiving}
use Rattle.tpf_base.specs.Calls.{OnlyOn, Closes}
use Rattle.connections.specs.Kinds.{Kind}
use Rattle.serve_loop.specs.declared.live.Live.{Live}
use Rattle.serve_loop.specs.declared.live.TheConstants.{MOST_RECEIVED, MOST_SENT}
use Rattle.serve_loop.specs.declared.live.Served.{Served}
use Rattle.serve_loop.specs.declared.live.Stepped.{Stepped}
use Rattle.serve_loop.specs.declared.live.Stepped.TheVariants as stepped
use Rattle.serve_loop.specs.declared.live.Turned.{Turned}

-- what a send is offered of the bytes that are pending
abbrev pub front_of : List ℕ → List ℕ
front_of pending = take MOST_SENT pending

-- ---- counts

-- how many connections ended with a step, and how many of them for want of memory
abbrev pub ended_by : Stepped → ℕ
ended_by stepped.Moved = 0
ended_by stepped.Still = 0
ended_by stepped.Ended = 1
ended_by stepped.Starved = 1

abbrev pub starved_by : Stepped → ℕ
starved_by stepped.Moved = 0
starved_by stepped.Still = 0
starved_by stepped.Ended = 0
starved_by stepped.Starved = 1

-- a step after which the connection is no longer live
abbrev pub ends : Stepped → Bool
ends stepped.Moved = false
ends stepped.Still = false
ends stepped.Ended = true
ends stepped.Starved = true

-- what a turn did that stepped one connection, or none
abbrev pub turned_by : Option Stepped → Turned
turned_by None = record { moved = false; ended = 0; starved = 0 }
turned_by (Some stepped.Moved) = record { moved = true; ended = 0; starved = 0 }
turned_by (Some stepped.Still) = record { moved = false; ended = 0; starved = 0 }
turned_by (Some stepped.Ended) = record { moved = false; ended = 1; starved = 0 }
turned_by (Some stepped.Starved) = record { moved = false; ended = 1; starved = 1 }

-- what was done before and by one more step
abbrev pub turned_with : Turned → Option Stepped → Turned
turned_with turned None = turned
turned_with turned (Some stepped.Moved) = record turned { moved = true }
turned_with turned (Some stepped.Still) = turned
turned_with turned (Some stepped.Ended) = record turned { ended = turned.ended + 1 }
turned_with turned (Some stepped.Starved) = record turned { ended = turned.ended + 1; starved = turned.starved + 1 }

-- what a service counted before and by one more turn
abbrev pub served_with : Served → Turned → Served
served_with served turned = record { connections = counted_by turned.ended served.connections; starved = counted_by turned.starved served.starved }

-- ---- the whole wire

-- No link was dialled, the door was not opened again, and the wire is of the same kind; counts rose alone.
pub record ServesAlone (old new : WireState) : Type 0 where
  pub dials : new.dials ≡ old.dials
  pub nature : new.nature ≡ old.nature
  pub place : new.door.place ≡ old.door.place
  pub calls : new.door.calls ≡ old.door.calls
  pub stalls : old.door.stalls ≤ new.door.stalls
  pub door_faults : old.door.faults ≤ new.door.faults
  pub faults : old.faults ≤ new.faults

-- the link is as it was, but that a wait may have answered it
abbrev pub IsUntouched : Link → Link → Type 0
IsUntouched old new = (woken : Bool) × (new ≡ record old { woken = woken })

-- the bytes of a link and its end are as before
pub record TellsSame (old new : Link) : Type 0 where
  pub sent : new.sent ≡ old.sent
  pub received : new.received ≡ old.received
  pub ended : new.ended ≡ old.ended

-- a wait, or nothing: no link was touched or given
pub record RestsWire (old new : WireState) : Type 0 where
  pub links : (k : ℕ) → IsUntouched (old.links k) (new.links k)
  pub given : new.given ≡ old.given
  pub alone : ServesAlone old new

-- ---- one link

-- Calls on one link alone, after which it was idle no longer where it was not before.
pub record CallsOnly (k : ℕ) (old new : WireState) : Type 0 where
  pub only : OnlyOn k old new
  pub idle : old.idle ≡ 0 → new.idle ≡ 0

-- a link that was given between the two
pub record IsFresh (k : ℕ) (old new : WireState) : Type 0 where
  pub later : old.given ≤ k
  pub given : k < new.given

-- These bytes moved on a link, this way alone: they were sent, or they were received, and there are at most so many of them.
pub data OneWay (way : Way) (piece : List ℕ) (old new : Link) : Type 0 where
  GoesOut : way ≡ Sending → length piece ≤ MOST_SENT → new.sent ≡ append_known old.sent piece → new.received ≡ old.received → OneWay way piece old new
  ComesIn : way ≡ Receiving → length piece ≤ MOST_RECEIVED → new.received ≡ append_known old.received piece → new.sent ≡ old.sent → OneWay way piece old new

-- bytes moved on a link, this way, and it is open
pub record MovesOn (way : Way) (k : ℕ) (old new : WireState) : Type 0 where
  pub piece : List ℕ
  pub some : 0 < length piece
  pub moves : OneWay way piece (old.links k) (new.links k)
  pub is_open : (new.links k).is_open ≡ true

-- no byte moved on a link
pub record StaysOn (k : ℕ) (old new : WireState) : Type 0 where
  pub sent : (new.links k).sent ≡ (old.links k).sent
  pub received : (new.links k).received ≡ (old.links k).received

-- a call this way stalled on a link: no byte moved, its stalls rose, and it is open
pub record StallsOn (way : Way) (k : ℕ) (old new : WireState) : Type 0 where
  pub stays : StaysOn k old new
  pub rose : Rose (old.links k).stalls (new.links k).stalls
  pub stalled : (new.links k).stalled ≡ Some way
  pub is_open : (new.links k).is_open ≡ true

-- a link was closed, and before that bytes moved on it this way, or none did
pub record ClosesOn (way : Way) (k : ℕ) (old new : WireState) : Type 0 where
  pub closed : (new.links k).is_open ≡ false
  pub moves : StaysOn k old new ⊎ ((piece : List ℕ) × OneWay way piece (old.links k) (new.links k))

-- a link was closed, and no byte moved on it
pub record OnlyClosesOn (k : ℕ) (old new : WireState) : Type 0 where
  pub closed : (new.links k).is_open ≡ false
  pub stays : StaysOn k old new

-- ---- a link and its connection

module _ {C Data Settings : Type 0} where
  -- The connection has something to send: bytes are pending or owed, or a reload request waits for its answer.
  pub data Speaks (kind : Kind C Data Settings) (c : C) : Type 0 where
    IsPending : 0 < length (kind.pending c) → Speaks kind c
    IsOwing : kind.owes c ≡ true → Speaks kind c
    IsWaiting : kind.wants c ≡ true → Speaks kind c

  -- It has nothing to send.
  pub record IsQuiet (kind : Kind C Data Settings) (c : C) : Type 0 where
    pub pending : kind.pending c ≡ []
    pub owes : kind.owes c ≡ false
    pub wants : kind.wants c ≡ false

  -- What is called on the link of a connection: a send where it has something to send; where it has nothing, a receive, or the close of a connection that closes.
  pub record ByNeed (kind : Kind C Data Settings) (c : C) (Calls : Way → Type 0) (Ends : Type 0) : Type 0 where
    pub speaks : Speaks kind c → Calls Sending
    pub listens : IsQuiet kind c → kind.closing c ≡ false → Calls Receiving
    pub closes : IsQuiet kind c → kind.closing c ≡ true → Ends
    pub called : (way : Way) × Calls way

  -- A connection that was made ready has bytes pending where it had something to send, and none where it had nothing.
  pub record IsPrepared (kind : Kind C Data Settings) (old new : C) : Type 0 where
    pub speaks : Speaks kind old → 0 < length (kind.pending new)
    pub quiet : IsQuiet kind old → kind.pending new ≡ []
    pub closing : IsQuiet kind old → kind.closing new ≡ kind.closing old

-- The step of a connection called on its link once, this way: bytes moved; or none did, and the link's stalls rose; or it was closed, behind that call or in its place.
abbrev pub HasCalled : Stepped → ℕ → WireState → WireState → Way → Type 0
HasCalled stepped.Moved k old new way = MovesOn way k old new × (new.idle ≡ 0)
HasCalled stepped.Still k old new way = StallsOn way k old new
HasCalled stepped.Ended k old new way = ClosesOn way k old new
HasCalled stepped.Starved k old new way = ClosesOn way k old new

-- the step closed the link, and called nothing else
abbrev pub HasClosed : Stepped → ℕ → WireState → WireState → Type 0
HasClosed answer k old new = (ends answer ≡ true) × OnlyClosesOn k old new

-- Of a link that was live before the turn: bytes moved on it this way, a call this way stalled, or it was closed.
pub data HasTurned (turned : Turned) (k : ℕ) (old new : WireState) (way : Way) : Type 0 where
  Moved : turned.moved ≡ true → MovesOn way k old new → HasTurned turned k old new way
  Stalled : StallsOn way k old new → HasTurned turned k old new way
  Closed : 0 < turned.ended → ClosesOn way k old new → HasTurned turned k old new way

-- the turn closed the link, and called nothing else on it
abbrev pub HasEnded : Turned → ℕ → WireState → WireState → Type 0
HasEnded turned k old new = (0 < turned.ended) × OnlyClosesOn k old new

module _ {C : Type 0} where
  -- what is left at the key of a connection that was stepped
  abbrev pub left_by : Stepped → Live C → Option (Live C)
  left_by stepped.Moved live = Some live
  left_by stepped.Still live = Some live
  left_by stepped.Ended live = None
  left_by stepped.Starved live = None

  -- a link is that of a live connection
  pub record IsOwned (at : ℕ → Option (Live C)) (k : ℕ) : Type 0 where
    pub key : ℕ
    pub live : Live C
    pub found : at key ≡ Some live
    pub link : live.link ≡ k

  -- a link is that of no connection whose key is below n
  abbrev pub IsForeign : (ℕ → Option (Live C)) → ℕ → ℕ → Type 0
  IsForeign at n k = (key : ℕ) (l : Live C) → key < n → at key ≡ Some l → l.link ≢ k

module _ {C Data Settings : Type 0} where
  -- A connection that had something to send and is live still has more to send, or does not close: one that closes ends with the last byte that is sent.
  abbrev pub GoesOnSpeaking : Kind C Data Settings → C → C → Type 0
  GoesOnSpeaking kind old new = Speaks kind old → kind.closing new ≡ true → IsQuiet kind new → ⊥

  -- Of all that are live before and after.
  abbrev pub AllGoOn : Kind C Data Settings → (ℕ → Option (Live C)) → (ℕ → Option (Live C)) → Type 0
  AllGoOn kind at new = (key : ℕ) (l m : Live C) → at key ≡ Some l → new key ≡ Some m → GoesOnSpeaking kind l.connection m.connection

  -- What a step called on the link of its connection, by what that has to send.
  abbrev pub StepsLive : Kind C Data Settings → C → Stepped → ℕ → WireState → WireState → Type 0
  StepsLive kind c answer k old new = ByNeed kind c (HasCalled answer k old new) (HasClosed answer k old new)

  -- The same of a turn.
  abbrev pub TurnsLive : Kind C Data Settings → C → Turned → ℕ → WireState → WireState → Type 0
  TurnsLive kind c turned k old new = ByNeed kind c (HasTurned turned k old new) (HasEnded turned k old new)

  -- what the step of a key called: on the link of its connection alone, or nothing
  abbrev pub CallsAt : Kind C Data Settings → Option (Live C) → Option Stepped → WireState → WireState → Type 0
  CallsAt kind None None old new = new ≡ old
  CallsAt kind None (Some answer) old new = ⊥
  CallsAt kind (Some l) None old new = ⊥
  CallsAt kind (Some l) (Some answer) old new = StepsLive kind l.connection answer l.link old new × CallsOnly l.link old new

  -- What the steps of the keys below n did: each link that was live there was called on, by what its connection had to send; all others are as they were.
  pub record StepsBelow (kind : Kind C Data Settings) (turned : Turned) (n : ℕ) (at : ℕ → Option (Live C)) (old new : WireState) : Type 0 where
    pub links : (key : ℕ) (l : Live C) → key < n → at key ≡ Some l → TurnsLive kind l.connection turned l.link old new
    pub others : (k : ℕ) → IsForeign at n k → new.links k ≡ old.links k
    pub moved : turned.moved ≡ true → (key : ℕ) × (l : Live C) × (key < n) × (at key ≡ Some l) × ((way : Way) × MovesOn way l.link old new)
    pub ended : 0 < turned.ended → (key : ℕ) × (l : Live C) × (key < n) × (at key ≡ Some l) × ((new.links l.link).is_open ≡ false)
    pub still : turned.moved ≡ false → (k : ℕ) → (new.links k).is_open ≡ true → StaysOn k old new
    pub idle : (turned.moved ≡ true) ⊎ (old.idle ≡ 0) → new.idle ≡ 0
    pub given : new.given ≡ old.given
    pub waits : new.waits ≡ old.waits
    pub door : new.door ≡ old.door
    pub alone : ServesAlone old new

  -- what the steps of all keys did
  pub record StepsAll (kind : Kind C Data Settings) (turned : Turned) (at : ℕ → Option (Live C)) (old new : WireState) : Type 0 where
    pub links : (key : ℕ) (l : Live C) → at key ≡ Some l → TurnsLive kind l.connection turned l.link old new
    pub others : (k : ℕ) → (IsOwned at k → ⊥) → new.links k ≡ old.links k
    pub moved : turned.moved ≡ true → (key : ℕ) × (l : Live C) × (at key ≡ Some l) × ((way : Way) × MovesOn way l.link old new)
    pub ended : 0 < turned.ended → (key : ℕ) × (l : Live C) × (at key ≡ Some l) × ((new.links l.link).is_open ≡ false)
    pub still : turned.moved ≡ false → (k : ℕ) → (new.links k).is_open ≡ true → StaysOn k old new
    pub idle : (turned.moved ≡ true) ⊎ (old.idle ≡ 0) → new.idle ≡ 0
    pub given : new.given ≡ old.given
    pub waits : new.waits ≡ old.waits
    pub door : new.door ≡ old.door
    pub alone : ServesAlone old new

  -- No idling: each live link was called on, by what its connection had to send, and the door, unless enough connections are live; nothing waited, and no other link was touched. And what the answer says: bytes moved on a live link or a link was accepted; or nothing was accepted, and no byte moved on a link that is still open; and where it counts an end, a link was closed that was live or was accepted.
  pub record IsBusy (kind : Kind C Data Settings) (most : ℕ) (turned : Turned) (at : ℕ → Option (Live C)) (live : ℕ) (old new : WireState) : Type 0 where
    pub links : (key : ℕ) (l : Live C) → at key ≡ Some l → TurnsLive kind l.connection turned l.link old new
    pub others : (k : ℕ) → k < old.given → (IsOwned at k → ⊥) → new.links k ≡ old.links k
    pub door : (most ≤ live) ⊎ (((turned.moved ≡ true) × (new.given ≡ old.given + 1)) ⊎ Rose old.door.stalls new.door.stalls)
    pub moved : turned.moved ≡ true → (new.given ≡ old.given + 1) ⊎ ((key : ℕ) × (l : Live C) × (at key ≡ Some l) × ((way : Way) × MovesOn way l.link old new))
    pub still : turned.moved ≡ false → (new.given ≡ old.given) × ((k : ℕ) → (new.links k).is_open ≡ true → StaysOn k old new)
    pub ended : 0 < turned.ended → (k : ℕ) × ((new.links k).is_open ≡ false) × (IsFresh k old new ⊎ IsOwned at k)
    pub given : old.given ≤ new.given
    pub waits : new.waits ≡ old.waits
    pub calm : new.door.faults ≡ old.door.faults
    pub alone : ServesAlone old new

module _ {C : Type 0} where
  -- the link of a connection was closed, and no other was touched; or nothing was called
  abbrev pub ClosesAt : Option (Live C) → WireState → WireState → Type 0
  ClosesAt None old new = new ≡ old
  ClosesAt (Some l) old new = Closes l.link old new

  -- the links of the connections of the keys below n were closed, and no other was touched
  pub record LeavesBelow (n : ℕ) (at : ℕ → Option (Live C)) (a b : WireState) : Type 0 where
    pub closed : (key : ℕ) (l : Live C) → key < n → at key ≡ Some l → (b.links l.link).is_open ≡ false
    pub told : (k : ℕ) → TellsSame (a.links k) (b.links k)
    pub others : (k : ℕ) → IsForeign at n k → b.links k ≡ a.links k
    pub given : b.given ≡ a.given
    pub waits : b.waits ≡ a.waits
    pub faults : b.faults ≡ a.faults
    pub door : b.door ≡ a.door
    pub alone : ServesAlone a b

  -- the links of all live connections were closed, and no other was touched
  pub record LeavesAll (at : ℕ → Option (Live C)) (a b : WireState) : Type 0 where
    pub closed : (key : ℕ) (l : Live C) → at key ≡ Some l → (b.links l.link).is_open ≡ false
    pub told : (k : ℕ) → TellsSame (a.links k) (b.links k)
    pub others : (k : ℕ) → (IsOwned at k → ⊥) → b.links k ≡ a.links k
    pub given : b.given ≡ a.given
    pub waits : b.waits ≡ a.waits
    pub faults : b.faults ≡ a.faults
    pub door : b.door ≡ a.door
    pub alone : ServesAlone a b
