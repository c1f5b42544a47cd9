-- What a link does by its script.
use Rattle.std.specs.Prelude.{ℕ, ◌≡◌, ◌+◌, ◌<◌, ◌≤◌, Bool, true, false, not, ◌&&◌, ◌==◌, nat_lt, nat_le, List, [], ◌∷◌, ◌++◌, length, take, drop, min, get_or, set, slice_get, Option, Some, None, Result, Ok, Err, if◌then◌else◌}
use Rattle.tpf_base.specs.Causes.{counted}
use Rattle.tpf_base.specs.Failures.{room}
use Rattle.tpf_base.specs.declared.failing.Failing.{Failing}
use Rattle.tpf_base.specs.Links.{Way, Sending, Receiving, Link}
use Rattle.tpf_base.specs.declared.wire.Moved.{Moved}
use Rattle.tpf_base.specs.declared.wire.Moved.TheVariants as answers
use Rattle.tpf_base.specs.declared.wire.Ready.{Ready}
use Rattle.tpf_base.specs.declared.wire.Ready.TheVariants as ready
use Rattle.tpf_base.specs.declared.fault.Fault.{Fault}
use Rattle.tpf_base.specs.declared.fault.Fault.TheVariants as fault
use Rattle.script_wire.specs.declared.script.Script.{Script}

-- Where a link stands in its script: which piece is next, how many of its bytes came, and whether a receive waited for it.
pub record Place : Type 0 where
  pub piece : ℕ
  pub at : ℕ
  pub waited : Bool

-- A link that was given: who was dialled, what was sent and received, how its calls stalled, and where it stands in its script.
pub record Scripted : Type 0 where
  pub peer : Option (List ℕ × ℕ)
  pub sent : List ℕ
  pub received : List ℕ
  pub stalls : ℕ
  pub stalled : Option Way
  pub woken : Bool
  pub ended : Bool
  pub is_open : Bool
  pub place : Place

-- at the front of the first piece
abbrev pub front : Place
front = record { piece = 0; at = 0; waited = false }

-- a link that was just given
abbrev pub new_link : Option (List ℕ × ℕ) → Scripted
new_link peer = record { peer = peer; sent = []; received = []; stalls = 0; stalled = None; woken = false; ended = false; is_open = true; place = front }

-- one that was not given
abbrev pub no_link : Scripted
no_link = record { peer = None; sent = []; received = []; stalls = 0; stalled = None; woken = false; ended = false; is_open = false; place = front }

-- what the wire tells of it
abbrev pub told_link : Scripted → Link
told_link held = record {
  peer = held.peer;
  sent = Some held.sent;
  received = Some held.received;
  owed = None;
  stalls = held.stalls;
  stalled = held.stalled;
  woken = held.woken;
  ended = Some held.ended;
  is_open = held.is_open;
}

-- ---- what a call leaves of a link

abbrev pub settled : Scripted → Scripted
settled held = record held { stalled = None; woken = false }

abbrev pub stalled_at : Way → Scripted → Scripted
stalled_at way held = record held { stalls = counted held.stalls; stalled = Some way; woken = false }

abbrev pub closed : Scripted → Scripted
closed held = record held { stalled = None; woken = false; is_open = false }

-- of a send of this piece
abbrev pub after_send : Moved → List ℕ → Scripted → Scripted
after_send (answers.Moved n) piece held = record held { sent = held.sent ++ take n piece; stalled = None; woken = false }
after_send answers.End piece held = held
after_send answers.NotYet piece held = stalled_at Sending held
after_send answers.Failed piece held = settled held
after_send answers.OutOfMemory piece held = held

-- of a receive, where these bytes are left of the next piece
abbrev pub after_answer : Moved → List ℕ → Scripted → Scripted
after_answer (answers.Moved n) rest held = record held { received = held.received ++ take n rest; stalled = None; woken = false }
after_answer answers.End rest held = record held { stalled = None; woken = false; ended = true }
after_answer answers.NotYet rest held = stalled_at Receiving held
after_answer answers.Failed rest held = settled held
after_answer answers.OutOfMemory rest held = held

-- ---- what a script lets a call do

-- a call that may move n bytes, where it is not failed
abbrev pub answer_of : ℕ → Moved
answer_of n = if n == 0 then answers.NotYet else answers.Moved n

-- the bytes that are left of the next piece
abbrev pub rest_at : Script → Place → List ℕ
rest_at script place = drop place.at (get_or script.pieces.items place.piece [])

-- how many of them a receive that is not failed may move, into a buffer with this room
abbrev pub room_at : Failing → ℕ → Script → ℕ → Place → ℕ
room_at failing moved script most place = room failing moved (min most (length (rest_at script place)))

-- every piece came whole
abbrev pub is_over : Script → Place → Bool
is_over script place = nat_le (length script.pieces.items) place.piece

-- the first piece may come: so many links have had a byte sent
abbrev pub is_held : Script → ℕ → Place → Bool
is_held script spoken place = not (nat_lt 0 place.piece) && nat_lt spoken script.after

-- the next piece may come at this receive: one waited for it, and it is not held
abbrev pub comes : Script → ℕ → Place → Bool
comes script spoken place = place.waited && not (is_held script spoken place)

-- a receive that may move n of the bytes that are left, where it is not failed
abbrev pub answer_to_receive : Script → ℕ → ℕ → Place → Moved
answer_to_receive script spoken n place =
    if is_over script place then (if script.ends then answers.End else answers.NotYet)
    else (if comes script spoken place then answer_of n else answers.NotYet)

-- the place behind n of the bytes that are left, of which there are so many
abbrev pub place_behind : ℕ → ℕ → Place → Place
place_behind left n place = if n == left then record { piece = place.piece + 1; at = 0; waited = false } else record place { at = place.at + n }

abbrev pub place_after : Script → ℕ → ℕ → Place → Place
place_after script spoken n place =
    if is_over script place then place
    else (if comes script spoken place then place_behind (length (rest_at script place)) n place else record place { waited = true })

-- the link after n of the bytes that are left were taken
abbrev pub taken_piece : Script → ℕ → Scripted → Scripted
taken_piece script n held = record (after_answer (answer_of n) (rest_at script held.place) held) { place = place_behind (length (rest_at script held.place)) n held.place }

-- the link after a receive that may move n of the bytes that are left, and that is neither failed nor out of memory
abbrev pub after_receive : Script → ℕ → ℕ → Scripted → Scripted
after_receive script spoken n held =
    record (after_answer (answer_to_receive script spoken n held.place) (rest_at script held.place) held) { place = place_after script spoken n held.place }

-- Something may come once a receive waited for it: the link is open, and a piece that is not held comes next, or the end that did not come yet.
abbrev pub can_move : Script → ℕ → Scripted → Bool
can_move script spoken held = held.is_open && (if is_over script held.place then script.ends && not held.ended else not (is_held script spoken held.place))

-- ---- all links

-- how many of the links have had a byte sent
abbrev pub spoken_on : List Scripted → ℕ
spoken_on [] = 0
spoken_on (held ∷ links) = (if length held.sent == 0 then 0 else 1) + spoken_on links

abbrev pub moves_by : Option Script → ℕ → Scripted → Bool
moves_by None spoken held = false
moves_by (Some script) spoken held = can_move script spoken held

-- something may come on the link with this number
abbrev pub may_move : List Script → List Scripted → ℕ → Bool
may_move scripts links k = moves_by (slice_get scripts k) (spoken_on links) (get_or links k no_link)

-- the first number that passes the test
pub record IsFirst (test : ℕ → Bool) (k : ℕ) : Type 0 where
  pub passes : test k ≡ true
  pub others : (j : ℕ) → j < k → test j ≡ false

-- What a receive that is neither failed nor out of memory does on the link with this number, where n of the bytes that are left may move.
pub record ReceivesBy (script : Script) (spoken n k : ℕ) (old new : List Scripted) (to : List ℕ) (answer : Moved) : Type 0 where
  pub is_answer : answer ≡ answer_to_receive script spoken n (get_or old k no_link).place
  pub links : new ≡ set old k (after_receive script spoken n (get_or old k no_link))
  pub bytes : (m : ℕ) → answer ≡ answers.Moved m → take m to ≡ take m (rest_at script (get_or old k no_link).place)

-- nothing may come on any link
abbrev pub NoneMoves : List Script → List Scripted → Type 0
NoneMoves scripts links = (k : ℕ) → k < length links → may_move scripts links k ≡ false

-- What a wait that is not due answers: the first link on which something may come, then the door.
abbrev pub WaitsBy : List Script → List Scripted → Bool → Result Ready Fault → Type 0
WaitsBy scripts links listens (Ok (ready.Link k)) = (k < length links) × IsFirst (may_move scripts links) k
WaitsBy scripts links listens (Ok ready.Door) = NoneMoves scripts links × (listens ≡ true) × (length links < length scripts)
WaitsBy scripts links listens (Err f) = (f ≡ fault.Failed) × NoneMoves scripts links × (listens ≡ true → length scripts ≤ length links)

-- the links after a wait: the one that it answered is woken
abbrev pub after_wait : Result Ready Fault → List Scripted → List Scripted
after_wait (Ok (ready.Link k)) links = set links k (record (get_or links k no_link) { woken = true })
after_wait (Ok ready.Door) links = links
after_wait (Err f) links = links
