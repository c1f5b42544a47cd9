-- What a service does on its wire: turns, each over the next part of its links, after each the links that wait at the door, or a wait after a round in which nothing moved or ended.
use Rattle.std.specs.Prelude.{ℕ, ◌≡◌, ◌≢◌, ◌⊎◌, ◌+◌, ◌<◌, ◌≤◌, true, false, List, [], ◌∷◌, length, Option, IfSome}
use Rattle.tpf_base.specs.Causes.{Rose, counted, counted_by}
use Rattle.tpf_base.specs.Links.{WireState}
use Rattle.tpf_base.specs.Calls.{GivesNone}
use Rattle.tpf_base.specs.Marks.{Mark}
use Rattle.tpf_base.specs.Sending.{Holds}
use Rattle.connections.specs.Kinds.{Kind}
use Rattle.serve_loop.specs.declared.live.ServeFault.{ServeFault}
use Rattle.serve_loop.specs.declared.live.ServeFault.TheVariants as faults
use Rattle.serve_loop.specs.declared.live.Turned.{Turned}
use Rattle.serve_loop.specs.declared.live.TheConstants.{MOST_LIVE}
use Rattle.serve_loop.specs.Parts.{is_in}
use Rattle.serve_loop.specs.Rounds.{Turn, IsNext, rests_behind}
use Rattle.serve_loop.specs.Calls.{MovesOn, StaysOn, IsFresh, IsUntouched, RestsWire, ServesAlone, TellsSame, TurnsLive}

-- how many connections ended in these turns
abbrev pub ended_in : List Turn → ℕ
ended_in [] = 0
ended_in (turn ∷ turns) = ended_in turns + turn.turned.ended

-- before the last turn fewer had ended than are enough
abbrev pub AreTooFew : Option ℕ → List Turn → Type 0
AreTooFew stop_after turns = turns ≢ [] → IfSome stop_after (λ most. ended_in turns < most)

-- An open link on which no byte moved yet.
pub record IsNew (k : ℕ) (wire : WireState) : Type 0 where
  pub is_open : (wire.links k).is_open ≡ true
  pub sent : Holds (wire.links k).sent []
  pub received : Holds (wire.links k).received []

-- Links were given, or none: nothing moved on them yet, no other was touched, and nothing waited.
pub record GivesLinks (old new : WireState) : Type 0 where
  pub given : old.given ≤ new.given
  pub fresh : (k : ℕ) → old.given ≤ k → k < new.given → IsNew k new
  pub others : (k : ℕ) → k < old.given → new.links k ≡ old.links k
  pub idle : old.idle ≡ 0 → new.idle ≡ 0
  pub waits : new.waits ≡ old.waits
  pub calm : new.door.faults ≡ old.door.faults
  pub alone : ServesAlone old new

-- The same until none waits at the door, or so many are open as are live at once, where the links of the service are those given since this one, of which so many have ended.
pub record GreetsLinks (since done : ℕ) (old new : WireState) : Type 0 where
  pub gives : GivesLinks old new
  pub most : new.given ≤ since + done + MOST_LIVE
  pub door : (since + done + MOST_LIVE ≤ new.given) ⊎ Rose old.door.stalls new.door.stalls

-- After the last of these turns: one wait, where a round ended with it in which no turn moved or ended anything; else the links that wait at the door.
pub data ComesAfter (since : ℕ) (turns : List Turn) (old new : WireState) : Type 0 where
  Rests : rests_behind turns ≡ true → RestsWire old new → new.waits ≡ counted old.waits → ComesAfter since turns old new
  Greets : rests_behind turns ≡ false → GreetsLinks since (ended_in turns) old new → ComesAfter since turns old new

-- Between turns: links may have been given, on which nothing moved yet, and a wait may have answered one; no other was touched.
pub record PassesBetween (old new : WireState) : Type 0 where
  pub given : old.given ≤ new.given
  pub fresh : (k : ℕ) → old.given ≤ k → k < new.given → IsNew k new
  pub links : (k : ℕ) → k < old.given → IsUntouched (old.links k) (new.links k)
  pub alone : ServesAlone old new

-- the faults of the door rose, and so did those of the wire
pub record RoseAtDoor (old new : WireState) : Type 0 where
  pub faults : Rose old.faults new.faults
  pub door : Rose old.door.faults new.door.faults

-- A call at the door that failed raised the count of its faults, and want of memory left all counts of faults.
abbrev pub HasDoorCause : ServeFault → WireState → WireState → Type 0
HasDoorCause faults.Wire old new = RoseAtDoor old new
HasDoorCause faults.OutOfMemory old new = (new.faults ≡ old.faults) × (new.door.faults ≡ old.door.faults)

-- A turn that failed at the door: no link was touched or given, and nothing waited.
pub record FailsTurn (fault : ServeFault) (old new : WireState) : Type 0 where
  pub cause : HasDoorCause fault old new
  pub none : GivesNone old new
  pub waits : new.waits ≡ old.waits
  pub alone : ServesAlone old new

-- A wait that failed: no link was touched.
pub record FailsWait (fault : ServeFault) (old new : WireState) : Type 0 where
  pub cause : HasDoorCause fault old new
  pub none : GivesNone old new
  pub waits : new.waits ≡ counted old.waits
  pub alone : ServesAlone old new

-- links were closed, and nothing else was done
pub record LeavesLinks (old new : WireState) : Type 0 where
  pub told : (k : ℕ) → TellsSame (old.links k) (new.links k)
  pub given : new.given ≡ old.given
  pub waits : new.waits ≡ old.waits
  pub faults : new.faults ≡ old.faults
  pub door : new.door ≡ old.door
  pub alone : ServesAlone old new

module _ {C Data Settings : Type 0} where
  -- What a turn did on an open link: there is a connection that answers all that came and went on it before the turn, and by what that had to send, the turn sent, received or closed.
  pub record ServesLink (kind : Kind C Data Settings) (config : Settings) (turned : Turned) (k : ℕ) (old new : WireState) : Type 0 where
    pub connection : C
    pub history : List Data
    pub some : 1 ≤ length history
    pub fed : List ℕ
    pub taken : List ℕ
    pub marks : List Mark
    pub answers : kind.Answers history config fed taken marks connection
    pub sent_is : Holds (old.links k).sent taken
    pub received_is : Holds (old.links k).received fed
    pub turns : TurnsLive kind connection turned k old new

  -- One turn behind these, where the links of the service are those given since this one: each link of the next part that was open was called on by what its connection had to send, and the door, unless so many were open as are live at once; no other link was touched; and what the answer says of moves and ends is so.
  pub record TakesTurn (kind : Kind C Data Settings) (config : Settings) (since : ℕ) (turns : List Turn) (turn : Turn) (old new : WireState) : Type 0 where
    pub next : IsNext since turns turn.part old
    pub begun : turn.given ≡ old.given
    pub links : (k : ℕ) → since ≤ k → k < old.given → (old.links k).is_open ≡ true → is_in turn.part k ≡ true → ServesLink kind config turn.turned k old new
    pub spared : (k : ℕ) → k < old.given → is_in turn.part k ≡ false → new.links k ≡ old.links k
    pub others : (k : ℕ) → k < since → new.links k ≡ old.links k
    pub door : (since + ended_in turns + MOST_LIVE ≤ old.given) ⊎ (((turn.turned.moved ≡ true) × (new.given ≡ old.given + 1)) ⊎ Rose old.door.stalls new.door.stalls)
    pub moved : turn.turned.moved ≡ true → (new.given ≡ old.given + 1) ⊎ ((k : ℕ) × (since ≤ k) × ((old.links k).is_open ≡ true) × ((way : _) × MovesOn way k old new))
    pub idle : turn.turned.moved ≡ true → new.idle ≡ 0
    pub still : turn.turned.moved ≡ false → (new.given ≡ old.given) × ((k : ℕ) → (new.links k).is_open ≡ true → StaysOn k old new)
    pub ended : 0 < turn.turned.ended → (k : ℕ) × (since ≤ k) × ((new.links k).is_open ≡ false) × (IsFresh k old new ⊎ ((old.links k).is_open ≡ true))
    pub waits : new.waits ≡ old.waits
    pub calm : new.door.faults ≡ old.door.faults
    pub alone : ServesAlone old new

  -- These turns, the last one first, each with what came after it.
  abbrev pub TookTurns : Kind C Data Settings → Settings → ℕ → List Turn → WireState → WireState → Type 0
  TookTurns kind config since [] old new = new ≡ old
  TookTurns kind config since (turn ∷ turns) old new =
      (before : WireState) × (after : WireState) × TookTurns kind config since turns old before
      × TakesTurn kind config since turns turn before after × ComesAfter since (turn ∷ turns) after new

  -- A service that stopped: turns with what came after each, and a last turn, after which it closed the links that were left.
  pub record ServesTurns (kind : Kind C Data Settings) (config : Settings) (stop_after : Option ℕ) (connections : ℕ) (old new : WireState) : Type 0 where
    pub turns : List Turn
    pub last : Turn
    pub before : WireState
    pub after : WireState
    pub took : TookTurns kind config old.given turns old before
    pub turn : TakesTurn kind config old.given turns last before after
    pub left : LeavesLinks after new
    pub connections_is : connections ≡ counted_by (ended_in turns + last.turned.ended) 0
    pub too_few : AreTooFew stop_after turns

  -- a turn with which a round ended in which nothing moved or ended, and a wait that failed
  pub record FailsRest (kind : Kind C Data Settings) (config : Settings) (since : ℕ) (turns : List Turn) (fault : ServeFault) (old new : WireState) : Type 0 where
    pub turn : Turn
    pub after : WireState
    pub takes : TakesTurn kind config since turns turn old after
    pub rests : rests_behind (turn ∷ turns) ≡ true
    pub fails : FailsWait fault after new

  -- any other turn, links that were given, and a door that failed then
  pub record FailsGreeting (kind : Kind C Data Settings) (config : Settings) (since : ℕ) (turns : List Turn) (fault : ServeFault) (old new : WireState) : Type 0 where
    pub turn : Turn
    pub after : WireState
    pub last : WireState
    pub takes : TakesTurn kind config since turns turn old after
    pub greets : rests_behind (turn ∷ turns) ≡ false
    pub gives : GivesLinks after last
    pub most : last.given ≤ since + ended_in (turn ∷ turns) + MOST_LIVE
    pub fails : FailsTurn fault last new

  -- A service that gave up: turns with what came after each, and then a turn that failed at the door, or one behind which the wait or the door failed, after which it closed the links that were left.
  pub record FailsTurns (kind : Kind C Data Settings) (config : Settings) (stop_after : Option ℕ) (fault : ServeFault) (old new : WireState) : Type 0 where
    pub turns : List Turn
    pub before : WireState
    pub after : WireState
    pub took : TookTurns kind config old.given turns old before
    pub too_few : AreTooFew stop_after turns
    pub last : FailsTurn fault before after
        ⊎ (FailsRest kind config old.given turns fault before after ⊎ FailsGreeting kind config old.given turns fault before after)
    pub left : LeavesLinks after new
