-- What a reply feed holds, and what it answers.
use Rattle.std.specs.Prelude.{◌≡◌, ◌+◌, ◌++◌, ℕ, Bool, List, [], drop, false, Option, Some, None, if◌then◌else◌}
use Rattle.tpf_base.specs.HttpReply as reply
use Rattle.tpf_base.specs.HttpReply.{Place, InHeads, InSized, InUnsized, InLine, InChunk, AtReturn, AtNewline, InTrailer, Finished, Failed, Reading, begun, is_open, after_bytes, reading_from}
use Rattle.http_wire.specs.declared.message.ReplyFault.{ReplyFault}
use Rattle.http_wire.specs.declared.message.ReplyFault.TheVariants.{Head, Status, MediaType, Coding, Framing, TooLong}
use Rattle.http_wire.specs.declared.message.Fed.{Fed}
use Rattle.http_wire.specs.declared.message.Fed.TheVariants.{More, Done, Bad}
use Rattle.http_wire.specs.declared.message.Reply.{Reply}

-- the limit of the body, the place in the reply, and the bytes that led to it
pub record Feeding : Type 0 where
  pub limit : ℕ
  pub place : Place
  pub received : List ℕ

-- a feed to which nothing was fed
abbrev pub starting : ℕ → Feeding
starting limit = record { limit = limit; place = begun; received = [] }

-- the bytes that a feed keeps: a reply that is over keeps no more
abbrev pub kept_with : Bool → List ℕ → List ℕ → List ℕ
kept_with goes_on received piece = if goes_on then received ++ piece else received

-- the feed with these bytes
abbrev pub fed : Feeding → List ℕ → Feeding
fed f piece = record { limit = f.limit; place = after_bytes f.limit f.place piece; received = kept_with (is_open f.place) f.received piece }

-- a fault of a reply, by the code's name
abbrev pub shown_fault : reply.ReplyFault → ReplyFault
shown_fault reply.BadHead = Head
shown_fault reply.BadMediaType = MediaType
shown_fault reply.BadCoding = Coding
shown_fault reply.BadFraming = Framing
shown_fault reply.TooLong = TooLong
shown_fault (reply.BadStatus status) = Status status

-- and back
abbrev pub fault_of : ReplyFault → reply.ReplyFault
fault_of Head = reply.BadHead
fault_of MediaType = reply.BadMediaType
fault_of Coding = reply.BadCoding
fault_of Framing = reply.BadFraming
fault_of TooLong = reply.TooLong
fault_of (Status status) = reply.BadStatus status

-- a reading as the code answers it
abbrev pub shown : Reading → Fed
shown reply.More = More
shown (reply.Whole body n keeps) = Done n
shown (reply.Bad fault) = Bad (shown_fault fault)

abbrev pub closed_at : Place → Place
closed_at (InUnsized g) = Finished g
closed_at (InHeads passed head) = InHeads passed head
closed_at (InSized wanted g) = InSized wanted g
closed_at (InLine line g) = InLine line g
closed_at (InChunk wanted g) = InChunk wanted g
closed_at (AtReturn g) = AtReturn g
closed_at (AtNewline g) = AtNewline g
closed_at (InTrailer lines g) = InTrailer lines g
closed_at (Finished g) = Finished g
closed_at (Failed fault) = Failed fault

-- the feed where the bytes end
abbrev pub ended : Feeding → Feeding
ended f = record { limit = f.limit; place = closed_at f.place; received = f.received }

abbrev pub reply_at : Place → Option Reply
reply_at (Finished g) = Some (record { body = g.body; keeps = g.keeps })
reply_at (InHeads passed head) = None
reply_at (InSized wanted g) = None
reply_at (InUnsized g) = None
reply_at (InLine line g) = None
reply_at (InChunk wanted g) = None
reply_at (AtReturn g) = None
reply_at (AtNewline g) = None
reply_at (InTrailer lines g) = None
reply_at (Failed fault) = None

-- the reading, where so many bytes more belong to the reply
abbrev pub longer : ℕ → Reading → Reading
longer n reply.More = reply.More
longer n (reply.Whole body k keeps) = reply.Whole body (n + k) keeps
longer n (reply.Bad fault) = reply.Bad fault

-- of these bytes so many were read, and this is the place now: what the bytes lead to, and what is read of them, is what the rest leads to from there
pub record Runs (limit : ℕ) (place : Place) (bytes : List ℕ) (i : ℕ) (now : Place) : Type 0 where
  pub bytes_left : after_bytes limit place bytes ≡ after_bytes limit now (drop i bytes)
  pub reading : reading_from limit place bytes false ≡ longer i (reading_from limit now (drop i bytes) false)
