-- What the wire holds of a link beside its connection.
use Rattle.std.specs.Prelude.{ℕ, ◌≡◌, ◌≢◌, ◌<◌, ◌≤◌, ◌+◌, Bool, true, false, List, [], ◌++◌, length, take, Option, Some, None}
use Rattle.tpf_base.specs.Causes.{counted}
use Rattle.tpf_base.specs.Links.{Way, Sending, Receiving, Link, IsRipe, is_short}
use Rattle.tpf_base.specs.declared.wire.Moved.{Moved}
use Rattle.tpf_base.specs.declared.wire.Moved.TheVariants as answers
use Rattle.connections.specs.Kinds.{Kind}
use Rattle.connections.specs.Versions.{Serving, IsHistory}
use Rattle.loop_wire.specs.Response.{Answering}

-- A link: who was dialled, what was sent, how many bytes were received, how its calls stalled, and whether it may move a byte now where its last call stalled.
pub record Held : Type 0 where
  pub peer : Option (List ℕ × ℕ)
  pub sent : List ℕ
  pub received : ℕ
  pub stalls : ℕ
  pub stalled : Option Way
  pub ripe : Bool
  pub woken : Bool
  pub ended : Bool
  pub is_open : Bool

-- one that was just given, and one that was not
abbrev pub new_link : Option (List ℕ × ℕ) → Held
new_link peer = record { peer = peer; sent = []; received = 0; stalls = 0; stalled = None; ripe = false; woken = false; ended = false; is_open = true }

abbrev pub no_link : Held
no_link = record { peer = None; sent = []; received = 0; stalls = 0; stalled = None; ripe = false; woken = false; ended = false; is_open = false }

-- what the wire tells of it, where this is owed to what was sent
abbrev pub told : (List ℕ → List ℕ) → Held → Link
told owes held = record {
  peer = held.peer;
  sent = Some held.sent;
  received = Some (take held.received (owes held.sent));
  owed = Some (owes held.sent);
  stalls = held.stalls;
  stalled = held.stalled;
  woken = held.woken;
  ended = Some held.ended;
  is_open = held.is_open;
}

-- what is owed to what was sent on a link, by the host and port for which it was dialled
abbrev pub Owing : Type 0
Owing = Option (List ℕ × ℕ) → List ℕ → List ℕ

-- what the wire tells of a link, where this is owed on it
abbrev pub told_there : Owing → Held → Link
told_there owes held = told (owes held.peer) held

-- ---- what a call leaves of a link

abbrev pub settled : Held → Held
settled held = record held { stalled = None; ripe = false; woken = false }

abbrev pub stalled_at : Way → Bool → Held → Held
stalled_at way ripe held = record held { stalls = counted held.stalls; stalled = Some way; ripe = ripe; woken = false }

abbrev pub sent_more : List ℕ → Held → Held
sent_more front held = record (settled held) { sent = held.sent ++ front }

abbrev pub received_more : ℕ → Held → Held
received_more n held = record (settled held) { received = held.received + n }

abbrev pub ended_now : Held → Held
ended_now held = record (settled held) { ended = true }

abbrev pub closed : Held → Held
closed held = record (settled held) { is_open = false }

abbrev pub woken_now : Held → Held
woken_now held = record held { woken = true }

-- of a send of these bytes
abbrev pub after_send : Moved → List ℕ → Held → Held
after_send (answers.Moved n) front held = sent_more front held
after_send answers.End front held = held
after_send answers.NotYet front held = stalled_at Sending true held
after_send answers.Failed front held = settled held
after_send answers.OutOfMemory front held = held

-- of a receive, where a part of what is owed was not received, or all was
abbrev pub after_receive : Moved → Bool → Held → Held
after_receive (answers.Moved n) short held = received_more n held
after_receive answers.End short held = ended_now held
after_receive answers.NotYet short held = stalled_at Receiving short held
after_receive answers.Failed short held = settled held
after_receive answers.OutOfMemory short held = held

-- ---- what a receive does

-- What a receive of a link does, where this is owed: it may move at most so many bytes into the front of the buffer.
pub record Gives (owes : List ℕ → List ℕ) (most : ℕ) (stalls : Bool) (to : List ℕ) (old new : Held) (answer : Moved) : Type 0 where
  pub left : new ≡ after_receive answer (is_short (told owes old)) old
  pub moved : (n : ℕ) → answer ≡ answers.Moved n → (0 < n) × (n ≤ most) × (n ≤ length to)
      × (take (old.received + n) (owes old.sent) ≡ take old.received (owes old.sent) ++ take n to)
  pub end_ : answer ≡ answers.End → is_short (told owes old) ≡ false
  pub not_yet : answer ≡ answers.NotYet → stalls ≡ false → is_short (told owes old) ≡ false
  pub no_fault : answer ≢ answers.Failed
  pub later : old.stalls ≤ new.stalls

-- What a send of these bytes on a link does.
pub record Hears (stalls : Bool) (front : List ℕ) (old new : Held) (answer : Moved) : Type 0 where
  pub left : new ≡ after_send answer front old
  pub moved : (n : ℕ) → answer ≡ answers.Moved n → n ≡ length front
  pub not_yet : answer ≡ answers.NotYet → stalls ≡ true
  pub no_end : answer ≢ answers.End
  pub no_fault : answer ≢ answers.Failed
  pub later : old.stalls ≤ new.stalls

-- ---- what is true of each link

-- what is held of a link is true of what is told of it
pub record IsHeld (owes : List ℕ → List ℕ) (held : Held) : Type 0 where
  pub ripe : held.ripe ≡ true → IsRipe (told owes held)
  pub ripe_alone : IsRipe (told owes held) → held.ripe ≡ true
  pub awake : held.woken ≡ true → held.ripe ≡ true
  pub within : held.received ≤ length (owes held.sent)

module _ {C Data Settings : Type 0} where
  -- the connection of a link can be served, and has answered what was sent as far as it was received
  pub record IsTalking (kind : Kind C Data Settings) (Suits : C → Type 0) (serving : Serving Data Settings) (owes : List ℕ → List ℕ) (held : Held) (c : C) : Type 0 where
    pub suits : Suits c
    pub answering : (history : List Data) → IsHistory history serving → Answering kind serving history held.sent (take held.received (owes held.sent)) c

  -- of the connection that a link has, where it has one
  abbrev pub Talks : Kind C Data Settings → (C → Type 0) → Serving Data Settings → (List ℕ → List ℕ) → Held → Option C → Type 0
  Talks kind Suits serving owes held None = Unit {0}
  Talks kind Suits serving owes held (Some c) = IsTalking kind Suits serving owes held c

  -- of a link and its connection
  pub record IsKept (kind : Kind C Data Settings) (Suits : C → Type 0) (serving : Serving Data Settings) (owes : List ℕ → List ℕ) (held : Held) (connection : Option C) : Type 0 where
    pub is_held : IsHeld owes held
    pub talks : Talks kind Suits serving owes held connection
