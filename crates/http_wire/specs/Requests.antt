-- What a request feed holds, and what it answers.
use Rattle.std.specs.Prelude.{ℕ, List, [], ◌++◌, codes, bytes_eq, drop, Option, Some, None, if◌then◌else◌}
use Rattle.tpf_base.specs.HttpHeads.{Request, Verdict, Accepted, Rejected, NextRequest, Incomplete, Taken, Refused, next_request}
use Rattle.http_wire.specs.declared.message.Asked.{Asked}
use Rattle.http_wire.specs.declared.message.Asked.TheVariants.{Get, Head as AskedHead, Other}
use Rattle.http_wire.specs.declared.message.RequestHead.{RequestHead}
use Rattle.http_wire.specs.declared.message.NextHead.{NextHead}
use Rattle.http_wire.specs.declared.message.NextHead.TheVariants.{More, Head, Bad}

-- the bytes that are not yet given as heads, and the status of a refusal
pub record Held : Type 0 where
  pub bytes : List ℕ
  pub refused : Option ℕ

-- a feed that holds these bytes
abbrev pub holding : List ℕ → Held
holding bytes = record { bytes = bytes; refused = None }

-- the feed behind a refusal
abbrev pub refusing : ℕ → Held
refusing status = record { bytes = []; refused = Some status }

-- with more bytes; nothing is read behind a refusal
abbrev pub fed_to : List ℕ → Option ℕ → List ℕ → Held
fed_to bytes None piece = holding (bytes ++ piece)
fed_to bytes (Some status) piece = record { bytes = bytes; refused = Some status }

abbrev pub fed : Held → List ℕ → Held
fed h piece = fed_to h.bytes h.refused piece

abbrev pub next_for : List ℕ → Option ℕ → NextRequest
next_for bytes None = next_request bytes
next_for bytes (Some status) = Refused status

-- the next request of a feed
abbrev pub next_of : Held → NextRequest
next_of h = next_for h.bytes h.refused

abbrev pub after_answer : Held → NextRequest → Held
after_answer h Incomplete = h
after_answer h (Taken r n) = holding (drop n h.bytes)
after_answer h (Refused status) = refusing status

abbrev pub after_if : Held → Option ℕ → Held
after_if h None = after_answer h (next_request h.bytes)
after_if h (Some status) = h

-- what is held behind that answer
abbrev pub after_next : Held → Held
after_next h = after_if h h.refused

-- the method of these bytes
abbrev pub asked_of : List ℕ → Asked
asked_of method = if bytes_eq method (codes "GET") then Get else (if bytes_eq method (codes "HEAD") then AskedHead else Other)

abbrev pub head_of : Request → RequestHead
head_of r = record { method = asked_of r.method; target = r.target; closes = r.closes }

abbrev pub shown_verdict : Verdict → NextHead
shown_verdict (Accepted r) = Head (head_of r)
shown_verdict (Rejected status) = Bad status

-- the answer as the code has it
abbrev pub shown : NextRequest → NextHead
shown Incomplete = More
shown (Taken r n) = Head (head_of r)
shown (Refused status) = Bad status
