-- The code's stages as places in a reply.
use Rattle.std.specs.Prelude.{ℕ, ◌≡◌, ◌+◌, ◌-◌, ◌<◌, ◌≤◌, ◌==◌, ◌++◌, Bool, true, false, not, ◌&&◌, nat_lt, nat_le, min, List, [], ◌∷◌, length, take, drop, codes, Option, Some, None, if◌then◌else◌}
use Rattle.std.specs.List.{between, list_any}
use Rattle.tpf_base.specs.declared.limits.TheConstants.{HEADS_LIMIT, MOST_FIELDS}
use Rattle.tpf_base.specs.HttpHeads.{values_of, says_close, field_lines}
use Rattle.tpf_base.specs.HttpReply.{Place, InHeads, InSized, InUnsized, InLine, InChunk, AtReturn, AtNewline, InTrailer, Finished, Failed, Gathered, gathering, TooLong, BadFraming, BadHead, BadStatus, BadMediaType, BadCoding, HeadRead, Announces, IsRefused, Framing, is_to_close, is_nquads, is_coding, framing_of, head_place, response_head, begun, is_open, after_byte, after_bytes, reading_from, at_the_end}
use Rattle.http_wire.specs.Replies.{fault_of, closed_at, longer, Runs}
use Rattle.http_wire.specs.declared.state.Stage.{Stage}
use Rattle.http_wire.specs.declared.state.Stage.TheVariants as stage
use Rattle.http_wire.specs.declared.state.State.{State}
use Rattle.http_wire.specs.declared.state.Part.{Part}
use Rattle.http_wire.specs.declared.state.Part.TheVariants as parts
use Rattle.http_wire.specs.declared.framing.Next.{Next}
use Rattle.http_wire.specs.declared.framing.Next.TheVariants as code

-- where a reply goes on behind a final head
abbrev pub start_place : Next → Place
start_place (code.Refused fault) = Failed (fault_of fault)
start_place (code.Empty keeps) = Finished (gathering keeps)
start_place (code.Sized n keeps) = InSized n (gathering keeps)
start_place (code.Chunked keeps) = InLine [] (gathering keeps)
start_place code.ToClose = InUnsized (gathering false)

-- where it goes on where so many bytes of heads were passed over
abbrev pub interim_place : ℕ → Place
interim_place passed = if nat_le HEADS_LIMIT passed then Failed TooLong else InHeads passed []

-- what is announced where the head lets the connection be kept
abbrev pub announced : Bool → Option Framing → HeadRead
announced keeps None = IsRefused BadFraming
announced keeps (Some framing) = Announces framing (keeps && not (is_to_close framing))

-- what a final head of this status, version and fields says of the body
unfoldable pub final_of : ℕ → ℕ → List (List ℕ × List ℕ) → HeadRead
final_of status minor fields =
    if not (status == 200) then IsRefused (BadStatus status)
    else (if not (is_nquads (values_of (codes "content-type") fields)) then IsRefused BadMediaType
    else (if list_any (λ v. not (is_coding (codes "identity") v)) (values_of (codes "content-encoding") fields) then IsRefused BadCoding
    else announced (minor == 1 && not (says_close fields)) (framing_of fields)))

-- the place behind a whole head
unfoldable pub judged_place : ℕ → ℕ → List ℕ → Place
judged_place limit passed head = if nat_lt MOST_FIELDS (field_lines head) then Failed BadHead else head_place limit passed (response_head head)

-- the place that a stage of the code stands for
abbrev pub place_for : Stage → ℕ → List ℕ → Gathered → Place
place_for stage.Heads passed held g = InHeads passed held
place_for (stage.Sized wanted) passed held g = InSized wanted g
place_for stage.Unsized passed held g = InUnsized g
place_for stage.Line passed held g = InLine held g
place_for (stage.Chunk wanted) passed held g = InChunk wanted g
place_for stage.Return passed held g = AtReturn g
place_for stage.Newline passed held g = AtNewline g
place_for stage.Trailer passed held g = InTrailer held g
place_for stage.Finished passed held g = Finished g
place_for (stage.Failed fault) passed held g = Failed (fault_of fault)

-- what was gathered, where this is the body so far
abbrev pub gathered_of : State → List ℕ → Gathered
gathered_of s body = record { keeps = s.keeps; body = body; extra = s.extra }

-- the place of a state, where this is the head or the line so far, and this the body
abbrev pub place_of : State → List ℕ → List ℕ → Place
place_of s line body = place_for s.stage s.passed line (gathered_of s body)

-- the reply goes on at this stage
abbrev pub IsOpenAt : Stage → Type 0
IsOpenAt stage = (passed : ℕ) (held : List ℕ) (g : Gathered) → is_open (place_for stage passed held g) ≡ true

-- Behind one more byte of the body, whichever it is, stands the place behind that byte, from this place of the body so far.
abbrev pub TakesByte : State → State → (Gathered → Place) → Type 0
TakesByte old new place =
    (body : List ℕ) (b : ℕ) → length body ≡ old.count → place_of new [] (body ++ b ∷ []) ≡ after_byte old.limit (place (gathered_of old body)) b

-- The same behind this byte, which is none of the body.
abbrev pub PassesByte : State → State → ℕ → (Gathered → Place) → Type 0
PassesByte old new b place = (body : List ℕ) → length body ≡ old.count → place_of new [] body ≡ after_byte old.limit (place (gathered_of old body)) b

-- ---- runs of a body

-- how many bytes a body takes at this place before its last one, or the one that passes the limit
abbrev pub room_at : ℕ → Place → ℕ
room_at limit (InSized wanted g) = wanted - 1
room_at limit (InUnsized g) = limit - length g.body
room_at limit (InChunk wanted g) = min (wanted - 1) (limit - length g.body)
room_at limit (InHeads passed head) = 0
room_at limit (InLine line g) = 0
room_at limit (AtReturn g) = 0
room_at limit (AtNewline g) = 0
room_at limit (InTrailer lines g) = 0
room_at limit (Finished g) = 0
room_at limit (Failed fault) = 0

-- the same at a stage of the code, where the body so far has this length
abbrev pub room_for : ℕ → Stage → ℕ → ℕ
room_for limit (stage.Sized wanted) count = wanted - 1
room_for limit stage.Unsized count = limit - count
room_for limit (stage.Chunk wanted) count = min (wanted - 1) (limit - count)
room_for limit stage.Heads count = 0
room_for limit stage.Line count = 0
room_for limit stage.Return count = 0
room_for limit stage.Newline count = 0
room_for limit stage.Trailer count = 0
room_for limit stage.Finished count = 0
room_for limit (stage.Failed fault) count = 0

-- with more bytes of the body
abbrev pub with_bytes : Gathered → List ℕ → Gathered
with_bytes g run = record g { body = g.body ++ run }

-- the place behind so many bytes of a body
abbrev pub with_run : Place → List ℕ → Place
with_run (InSized wanted g) run = InSized (wanted - length run) (with_bytes g run)
with_run (InUnsized g) run = InUnsized (with_bytes g run)
with_run (InChunk wanted g) run = InChunk (wanted - length run) (with_bytes g run)
with_run (InHeads passed head) run = InHeads passed head
with_run (InLine line g) run = InLine line g
with_run (AtReturn g) run = AtReturn g
with_run (AtNewline g) run = AtNewline g
with_run (InTrailer lines g) run = InTrailer lines g
with_run (Finished g) run = Finished g
with_run (Failed fault) run = Failed fault

-- ---- what a call leaves

-- the head or the line that goes on behind a byte, of which this much stands with it
abbrev pub line_behind : Part → List ℕ → List ℕ
line_behind parts.Body line = []
line_behind parts.Line line = line
line_behind parts.Frame line = []

-- the body behind these bytes
abbrev pub body_behind : Part → List ℕ → List ℕ → List ℕ
body_behind parts.Body body run = body ++ run
body_behind parts.Line body run = body
body_behind parts.Frame body run = body

-- its length behind so many
abbrev pub count_behind : Part → ℕ → ℕ → ℕ
count_behind parts.Body count n = count + n
count_behind parts.Line count n = count
count_behind parts.Frame count n = count

-- the body's length stays, and the place where the line begins
pub record Keeps (old new : State) : Type 0 where
  pub limit : new.limit ≡ old.limit
  pub begins : new.begins ≡ old.begins
  pub count : new.count ≡ old.count

-- Bytes from one place up to another were read. The bytes of the body lie at the front of what was read, or could.
pub record ReadsTo (old new : State) (bytes : List ℕ) (at next : ℕ) (part : Part) : Type 0 where
  pub limit : new.limit ≡ old.limit
  pub more : at < next
  pub within : next ≤ length bytes
  pub begins : new.begins ≤ next
  pub later : old.begins ≤ new.begins
  pub behind : part ≡ parts.Body → new.begins ≡ next
  pub count : new.count ≡ count_behind part old.count (next - at)
  pub runs : (body : List ℕ) → length body ≡ old.count
      → Runs old.limit (place_of old (between old.begins at bytes) body) (drop at bytes) (next - at) (place_of new (between new.begins next bytes) (body_behind part body (between at next bytes)))

-- So many bytes behind a place were read, up to the end of the bytes or of the reply.
pub record RunsOn (old new : State) (bytes : List ℕ) (start used : ℕ) (body : List ℕ) : Type 0 where
  pub limit : new.limit ≡ old.limit
  pub begins : new.begins ≤ length bytes
  pub few : new.count ≤ new.begins
  pub after : List ℕ
  pub count : length after ≡ new.count
  pub place : place_of new (drop new.begins bytes) after ≡ after_bytes old.limit (place_of old (between old.begins start bytes) body) (drop start bytes)
  pub reading : reading_from old.limit (place_of old (between old.begins start bytes) body) (drop start bytes) false ≡ longer used (at_the_end false (place_of new (drop new.begins bytes) after))

-- The bytes of a whole reply were read up to a place. The body so far lies at their front, and the head or the line that goes on, and all behind it, lies where it was.
pub record IsMoved (s : State) (whole bytes : List ℕ) (at : ℕ) : Type 0 where
  pub begins : s.begins ≤ at
  pub few : s.count ≤ s.begins
  pub within : at ≤ length bytes
  pub length_ : length bytes ≡ length whole
  pub rest : drop s.begins bytes ≡ drop s.begins whole
  pub runs : Runs s.limit begun whole at (place_of s (between s.begins at bytes) (take s.count bytes))

-- ---- the bytes of a reply that a feed keeps

-- where the bytes lead to; a reply that runs to the close is whole where it was ended
abbrev pub read_place : Stage → Place → Place
read_place stage.Finished place = closed_at place
read_place stage.Heads place = place
read_place (stage.Sized wanted) place = place
read_place stage.Unsized place = place
read_place stage.Line place = place
read_place (stage.Chunk wanted) place = place
read_place stage.Return place = place
read_place stage.Newline place = place
read_place stage.Trailer place = place
read_place (stage.Failed fault) place = place

-- the state stands where the bytes lead to
pub record IsRead (s : State) (bytes : List ℕ) : Type 0 where
  pub begins : s.begins ≤ length bytes
  pub few : s.count ≤ s.begins
  pub body : List ℕ
  pub count : length body ≡ s.count
  pub place : read_place s.stage (after_bytes s.limit begun bytes) ≡ place_of s (drop s.begins bytes) body
