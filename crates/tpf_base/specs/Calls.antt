-- What each call does to a wire.
use Rattle.std.specs.Prelude.{ℕ, ◌≡◌, ◌≢◌, ◌+◌, ◌<◌, ◌≤◌, ◌^◌, ◌==◌, List, [], length, take, Option, Some, None, true, false, if◌then◌else◌, Result, Ok}
use Rattle.std.specs.Io.KnownBytes.{append_known}
use Rattle.tpf_base.specs.Causes.{Rose, counted, DoesNotFail}
use Rattle.tpf_base.specs.Failures.{is_nth}
use Rattle.tpf_base.specs.declared.fault.Fault.{Fault}
use Rattle.tpf_base.specs.declared.wire.Moved.{Moved}
use Rattle.tpf_base.specs.declared.wire.Moved.TheVariants as answers
use Rattle.tpf_base.specs.declared.wire.Ready.{Ready}
use Rattle.tpf_base.specs.declared.wire.Ready.TheVariants as ready
use Rattle.tpf_base.specs.Links.{Way, Sending, Receiving, told_by, is_short, IsRipe, WireState, KeepsDoor, listens}

-- ---- a call on a link

-- nothing but the link, the faults and the idle waits changed
pub record OnlyOn (k : ℕ) (old new : WireState) : Type 0 where
  pub others : (j : ℕ) → j ≢ k → new.links j ≡ old.links j
  pub later : old.faults ≤ new.faults
  pub given : new.given ≡ old.given
  pub provoked : new.provoked ≡ old.provoked
  pub dials : new.dials ≡ old.dials
  pub waits : new.waits ≡ old.waits
  pub door : new.door ≡ old.door
  pub nature : new.nature ≡ old.nature

-- nothing at all changed
pub record SameWire (old new : WireState) : Type 0 where
  pub links : (j : ℕ) → new.links j ≡ old.links j
  pub faults : new.faults ≡ old.faults
  pub given : new.given ≡ old.given
  pub provoked : new.provoked ≡ old.provoked
  pub dials : new.dials ≡ old.dials
  pub waits : new.waits ≡ old.waits
  pub idle : new.idle ≡ old.idle
  pub door : new.door ≡ old.door
  pub nature : new.nature ≡ old.nature

-- which way a link is stalled after a call
abbrev pub stalled_by : Way → Moved → Option Way
stalled_by way (answers.Moved n) = None
stalled_by way answers.End = None
stalled_by way answers.NotYet = Some way
stalled_by way answers.Failed = None
stalled_by way answers.OutOfMemory = None

-- The front of the piece that a send moved stands behind what was sent. A failed send may have sent a part of the piece's front.
pub record Sends (k : ℕ) (piece : List ℕ) (old new : WireState) (answer : Moved) : Type 0 where
  pub only : OnlyOn k old new
  pub peer : (new.links k).peer ≡ (old.links k).peer
  pub received : (new.links k).received ≡ (old.links k).received
  pub ended : (new.links k).ended ≡ (old.links k).ended
  pub is_open : (new.links k).is_open ≡ (old.links k).is_open
  pub stalls : (old.links k).stalls ≤ (new.links k).stalls
  pub stalled : answer ≢ answers.OutOfMemory → ((new.links k).stalled ≡ stalled_by Sending answer) × ((new.links k).woken ≡ false)
  pub moved : (n : ℕ) → answer ≡ answers.Moved n → (0 < n) × (n ≤ length piece)
      × ((new.links k).sent ≡ append_known (old.links k).sent (take n piece)) × (new.idle ≡ 0)
  pub not_yet : answer ≡ answers.NotYet → ((new.links k).sent ≡ (old.links k).sent) × ((new.links k).owed ≡ (old.links k).owed)
      × Rose (old.links k).stalls (new.links k).stalls × (new.idle ≡ old.idle)
  pub failed : answer ≡ answers.Failed → (n : ℕ) × (n ≤ length piece)
      × ((new.links k).sent ≡ append_known (old.links k).sent (take n piece)) × (n ≡ 0 → (new.links k).owed ≡ (old.links k).owed)
      × (new.idle ≡ (if n == 0 then old.idle else 0)) × Rose old.faults new.faults
  pub memory : answer ≡ answers.OutOfMemory → SameWire old new
  pub no_end : answer ≢ answers.End
  pub unfailed : answer ≢ answers.Failed → new.faults ≡ old.faults
  -- a steady wire fails only where that is due, and moves a byte where a wait answered the link
  pub not_due : old.nature.steady ≡ true → (e : ℕ) → old.nature.every ≡ Some e → (new.faults ≡ old.faults) × (answer ≢ answers.Failed)
  pub woken : old.nature.steady ≡ true → (old.links k).woken ≡ true → (old.links k).stalled ≡ Some Sending → answer ≢ answers.NotYet

-- What was received stands at the front of the buffer, and behind what was received before. The end before all that is owed was received is a fault.
pub record Receives (k : ℕ) (to : List ℕ) (old new : WireState) (answer : Moved) : Type 0 where
  pub only : OnlyOn k old new
  pub peer : (new.links k).peer ≡ (old.links k).peer
  pub sent : (new.links k).sent ≡ (old.links k).sent
  pub owed : (new.links k).owed ≡ (old.links k).owed
  pub is_open : (new.links k).is_open ≡ (old.links k).is_open
  pub stalls : (old.links k).stalls ≤ (new.links k).stalls
  pub stalled : answer ≢ answers.OutOfMemory → ((new.links k).stalled ≡ stalled_by Receiving answer) × ((new.links k).woken ≡ false)
  pub moved : (n : ℕ) → answer ≡ answers.Moved n → (0 < n) × (n ≤ length to)
      × ((new.links k).received ≡ append_known (old.links k).received (take n to)) × ((new.links k).ended ≡ (old.links k).ended) × (new.idle ≡ 0)
  pub end_ : answer ≡ answers.End → ((new.links k).received ≡ (old.links k).received) × ((new.links k).ended ≡ told_by old.nature.tells true) × (new.idle ≡ 0)
      × (is_short (old.links k) ≡ true → Rose old.faults new.faults)
  pub not_yet : answer ≡ answers.NotYet → ((new.links k).received ≡ (old.links k).received) × ((new.links k).ended ≡ (old.links k).ended)
      × Rose (old.links k).stalls (new.links k).stalls × (new.idle ≡ old.idle)
  pub failed : answer ≡ answers.Failed → ((new.links k).received ≡ (old.links k).received) × ((new.links k).ended ≡ (old.links k).ended)
      × (new.idle ≡ old.idle) × Rose old.faults new.faults
  pub memory : answer ≡ answers.OutOfMemory → SameWire old new
  -- the end is no fault where all that is owed was received, or it is not told
  pub unfailed : answer ≢ answers.Failed → (answer ≡ answers.End → is_short (old.links k) ≡ false) → new.faults ≡ old.faults
  -- a steady wire fails only where that is due, and moves a byte where a wait answered the link
  pub not_due : old.nature.steady ≡ true → (e : ℕ) → old.nature.every ≡ Some e
      → (new.faults ≡ old.faults) × (answer ≢ answers.Failed) × (answer ≡ answers.End → is_short (old.links k) ≡ false)
  pub woken : old.nature.steady ≡ true → (old.links k).woken ≡ true → (old.links k).stalled ≡ Some Receiving → answer ≢ answers.NotYet

-- The link is closed, and all that is told of it is as before. Its count of stalls may be forgotten: it then stands at its last value.
pub record Closes (k : ℕ) (old new : WireState) : Type 0 where
  pub only : OnlyOn k old new
  pub peer : (new.links k).peer ≡ (old.links k).peer
  pub sent : (new.links k).sent ≡ (old.links k).sent
  pub received : (new.links k).received ≡ (old.links k).received
  pub owed : (new.links k).owed ≡ (old.links k).owed
  pub ended : (new.links k).ended ≡ (old.links k).ended
  pub stalls : (old.links k).stalls ≤ (new.links k).stalls
  pub stalled : (new.links k).stalled ≡ None
  pub woken : (new.links k).woken ≡ false
  pub is_open : (new.links k).is_open ≡ false
  pub faults : new.faults ≡ old.faults
  pub idle : new.idle ≡ old.idle

-- ---- new links

-- A new link was given: its number is the next, it is open, and nothing happened on it. All other links are as they were.
pub record Gives (peer : Option (List ℕ × ℕ)) (number : ℕ) (old new : WireState) : Type 0 where
  pub is_next : number ≡ old.given
  pub more : new.given ≡ old.given + 1
  pub is_open : (new.links number).is_open ≡ true
  pub is_peer : (new.links number).peer ≡ peer
  pub sent : (new.links number).sent ≡ told_by old.nature.tells []
  pub received : (new.links number).received ≡ told_by old.nature.tells []
  pub ended : (new.links number).ended ≡ told_by old.nature.tells false
  pub stalls : (new.links number).stalls ≡ 0
  pub stalled : (new.links number).stalled ≡ None
  pub woken : (new.links number).woken ≡ false
  pub others : (k : ℕ) → k ≢ number → new.links k ≡ old.links k
  pub idle : new.idle ≡ 0

-- A link to this host and port was given.
abbrev pub GivesDialled : List ℕ → ℕ → ℕ → WireState → WireState → Type 0
GivesDialled host port number old new = Gives (told_by old.nature.tells (host, port)) number old new

-- A link that came to the door was given.
abbrev pub GivesAccepted : ℕ → WireState → WireState → Type 0
GivesAccepted number old new = Gives None number old new

-- no link was given, and all are as they were
pub record GivesNone (old new : WireState) : Type 0 where
  pub given : new.given ≡ old.given
  pub links : (k : ℕ) → new.links k ≡ old.links k
  pub idle : new.idle ≡ old.idle

-- Nothing but the links, the faults, the calls of dial and the idle waits changed.
pub record OnlyDials (old new : WireState) : Type 0 where
  pub count : new.dials ≡ counted old.dials
  pub later : old.faults ≤ new.faults
  pub provoked : old.provoked ≤ new.provoked
  pub waits : new.waits ≡ old.waits
  pub door : new.door ≡ old.door
  pub nature : new.nature ≡ old.nature

-- Of the dial with the number new.dials on a steady wire: unless 2 ^ 63 links were given it provokes nothing, and unless it is due it does not fail.
pub record DialsSteadily (old new : WireState) (result : Result ℕ Fault) : Type 0 where
  pub unprovoked : old.given < 2 ^ 63 → new.provoked ≡ old.provoked
  pub not_due : old.given < 2 ^ 63 → (e : ℕ) → old.nature.every ≡ Some e → is_nth e new.dials ≡ false
      → DoesNotFail old.faults new.faults result

-- Nothing but the faults and the door changed, of which one more call is counted.
pub record OnlyListens (old new : WireState) : Type 0 where
  pub count : new.door.calls ≡ counted old.door.calls
  pub none_given : GivesNone old new
  pub later : old.faults ≤ new.faults
  pub provoked : new.provoked ≡ old.provoked
  pub dials : new.dials ≡ old.dials
  pub waits : new.waits ≡ old.waits
  pub nature : new.nature ≡ old.nature

-- The door is open at a host and a port. Where it was closed before, it was not yet found empty.
pub record Opens (host : List ℕ) (port : ℕ) (old new : WireState) : Type 0 where
  pub place : new.door.place ≡ Some (host, port)
  pub first : listens old ≡ false → new.door.stalls ≡ 0
  pub again : listens old ≡ true → old.door.stalls ≤ new.door.stalls

-- The door is where it was, and was found empty as often as before.
pub record LeavesDoor (old new : WireState) : Type 0 where
  pub place : new.door.place ≡ old.door.place
  pub stalls : new.door.stalls ≡ old.door.stalls

-- Nothing but the links, the faults, the stalls and the faults of the door and the idle waits changed.
pub record OnlyAccepts (old new : WireState) : Type 0 where
  pub later : old.faults ≤ new.faults
  pub provoked : new.provoked ≡ old.provoked
  pub dials : new.dials ≡ old.dials
  pub waits : new.waits ≡ old.waits
  pub place : new.door.place ≡ old.door.place
  pub stalls : old.door.stalls ≤ new.door.stalls
  pub calls : new.door.calls ≡ old.door.calls
  pub nature : new.nature ≡ old.nature

-- Of a call at the door of a steady wire: where a wire tells which dials are due, nothing is due here.
pub record ServesSteadily {T : Type 0} (old new : WireState) (result : Result T Fault) : Type 0 where
  pub not_due : old.given < 2 ^ 63 → (e : ℕ) → old.nature.every ≡ Some e → DoesNotFail old.faults new.faults result

-- ---- waits

-- Nothing but the faults, the waits and what a wait woke changed.
pub record OnlyWaits (old new : WireState) : Type 0 where
  pub count : new.waits ≡ counted old.waits
  pub given : new.given ≡ old.given
  pub later : old.faults ≤ new.faults
  pub provoked : old.provoked ≤ new.provoked
  pub dials : new.dials ≡ old.dials
  pub door : KeepsDoor old.door new.door
  pub nature : new.nature ≡ old.nature

-- What may be ready: an open link, which is woken, or the door, at which the wire listens. One more wait succeeded.
abbrev pub Wakes : Ready → WireState → WireState → Type 0
Wakes (ready.Link k) old new = ((old.links k).is_open ≡ true) × (new.links k ≡ record (old.links k) { woken = true })
    × ((j : ℕ) → j ≢ k → new.links j ≡ old.links j) × (new.idle ≡ counted old.idle)
Wakes ready.Door old new = (listens old ≡ true) × ((j : ℕ) → new.links j ≡ old.links j) × (new.idle ≡ counted old.idle)

-- a wait on a steady wire answers a ripe link
abbrev pub WakesRipe : Ready → WireState → Type 0
WakesRipe (ready.Link k) old = IsRipe (old.links k)
WakesRipe ready.Door old = ⊥

-- Unless no link is ripe or a wait went before with no byte moved since, a wait on a steady wire provokes nothing, and does not fail where nothing else than dials is due.
pub record WaitsSteadily (old new : WireState) (result : Result Ready Fault) : Type 0 where
  pub ripe : (answer : Ready) → result ≡ Ok answer → WakesRipe answer old
  pub unprovoked : (k : ℕ) → IsRipe (old.links k) → old.idle ≡ 0 → (new.provoked ≡ old.provoked)
      × ((e : ℕ) → old.nature.every ≡ Some e → DoesNotFail old.faults new.faults result)
