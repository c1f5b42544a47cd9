-- The response to whole requests, one answer for each.
use Rattle.std.specs.Prelude.{ℕ, ◌≡◌, ◌≤◌, ◌<◌, ◌+◌, Bool, false, List, [], ◌∷◌, ◌++◌, map, length}
use Rattle.std.specs.List.{flat_map, AllByRecursion, AllZip}
use Rattle.tpf_base.specs.Addresses.{Address, IsAddress}
use Rattle.tpf_base.specs.declared.limits.TheConstants.{HEAD_LIMIT}
use Rattle.tpf_base.specs.HttpHeads.{Request, Verdict, Accepted, Taken, next_request}
use Rattle.tpf_base.specs.HttpReply.{Whole, reply_of}
use Rattle.template_fill.specs.HttpAnswer.{NQuads, answer_text}
use Rattle.tpf_base.specs.Marks.{Mark}
use Rattle.tpf_base.specs.HttpConnection.{heads_of, closes, unread_of}
use Rattle.template_fill.specs.Responses.{Answering, asks_head, response_by, IsMarkedBy}
use Rattle.http_ends.specs.Requests.{request_for, asks}
use Rattle.http_ends.specs.Answers.{HasStatuses}

-- a request and its bytes
pub record Sent : Type 0 where
  pub bytes : List ℕ
  pub request : Request

-- the bytes are the request, which does not close, and no more
pub record IsSent (sent : Sent) : Type 0 where
  pub next : next_request sent.bytes ≡ Taken sent.request (length sent.bytes)
  pub stays : sent.request.closes ≡ false

abbrev pub bytes_of : List Sent → List ℕ
bytes_of all = flat_map (λ sent. sent.bytes) all

abbrev pub heads_for : List Sent → List Verdict
heads_for all = map (λ sent. Accepted sent.request) all

-- an address that is asked for
abbrev pub sent_for : Address → Sent
sent_for address = record { bytes = request_for address; request = asks address }

-- the request for an address is sent so
abbrev pub RequestIsSent : Type 0
RequestIsSent = (text : List ℕ) (address : Address) → IsAddress text address → length (request_for address) ≤ HEAD_LIMIT → IsSent (sent_for address)

-- ---- what is owed

-- the answer to a request
abbrev pub answer_for : Answering → Sent → Mark → List ℕ
answer_for server sent mark = answer_text (server.answer mark sent.request) (asks_head sent.request) false

-- one whole answer for each
abbrev pub whole_answers : Answering → List Sent → List Mark → List ℕ
whole_answers server [] marks = []
whole_answers server (sent ∷ all) [] = []
whole_answers server (sent ∷ all) (mark ∷ marks) = answer_for server sent mark ++ whole_answers server all marks

-- Behind whole requests the link stands as at the rest: their heads come first, and what is owed is one whole answer for each, and then what is owed for the rest.
pub record IsCut (server : Answering) (all : List Sent) (rest : List ℕ) : Type 0 where
  pub heads : (heads_of (bytes_of all ++ rest)).heads ≡ heads_for all ++ (heads_of rest).heads
  pub closing : closes (bytes_of all ++ rest) ≡ closes rest
  pub unread : unread_of (bytes_of all ++ rest) ≡ unread_of rest
  pub owed : (marks later : List Mark) → length marks ≡ length all → response_by server (bytes_of all ++ rest) (marks ++ later) ≡ whole_answers server all marks ++ response_by server rest later
  pub marked : (marks : List Mark) → IsMarkedBy server (bytes_of all ++ rest) marks → length marks ≡ length all + length (heads_of rest).heads

abbrev pub ResponseIsCut : Type 0
ResponseIsCut = (server : Answering) (all : List Sent) (rest : List ℕ) → AllByRecursion IsSent all → IsCut server all rest

-- a part of a request is owed nothing
pub record IsNotOwed (server : Answering) (part : List ℕ) : Type 0 where
  pub heads : (heads_of part).heads ≡ []
  pub closing : closes part ≡ false
  pub unread : unread_of part ≡ part
  pub owed : (marks : List Mark) → response_by server part marks ≡ []

abbrev pub PartsAreNotOwed : Type 0
PartsAreNotOwed =
    (server : Answering) (text : List ℕ) (address : Address) (part more : List ℕ)
    → IsAddress text address → length (request_for address) ≤ HEAD_LIMIT → request_for address ≡ part ++ more → 0 < length more → IsNotOwed server part

-- ---- what was received

-- a request, what was received for it, and its body
pub record Answered : Type 0 where
  pub sent : Sent
  pub received : List ℕ
  pub body : List ℕ

abbrev pub sent_of : List Answered → List Sent
sent_of all = map (λ answered. answered.sent) all

abbrev pub received_of : List Answered → List ℕ
received_of all = flat_map (λ answered. answered.received) all

-- the request was sent for a body, and what was received is one whole reply and no more
pub record IsAnswered (limit : ℕ) (answered : Answered) : Type 0 where
  pub sent : IsSent answered.sent
  pub not_head : asks_head answered.sent.request ≡ false
  pub keeps : Bool
  pub whole : reply_of answered.received false limit ≡ Whole answered.body (length answered.received) keeps

-- what was received is the answer over this mark, with its body
pub record IsAnswerOver (server : Answering) (answered : Answered) (mark : Mark) : Type 0 where
  pub received : answered.received ≡ answer_for server answered.sent mark
  pub status : (server.answer mark answered.sent.request).status ≡ 200
  pub media_type : (server.answer mark answered.sent.request).media_type ≡ NQuads
  pub body : answered.body ≡ (server.answer mark answered.sent.request).body

-- Each reply is the answer to its own request over its own mark, and what came behind them is the response to the rest.
pub record AreCut (server : Answering) (all : List Answered) (rest : List ℕ) (marks : List Mark) (came : List ℕ) : Type 0 where
  pub first : List Mark
  pub later : List Mark
  pub split : marks ≡ first ++ later
  pub each : AllZip (IsAnswerOver server) all first
  pub left : came ≡ response_by server rest later

-- over an honest other end, where each request so far was answered by a whole reply
abbrev pub RepliesAreCut : Type 0
RepliesAreCut =
    (limit : ℕ) (server : Answering) (all : List Answered) (rest : List ℕ) (marks : List Mark) (came : List ℕ)
    → HasStatuses server → AllByRecursion (IsAnswered limit) all → IsMarkedBy server (bytes_of (sent_of all) ++ rest) marks
    → response_by server (bytes_of (sent_of all) ++ rest) marks ≡ received_of all ++ came → AreCut server all rest marks came

-- the same where one request more was sent: what came is its answer
pub record NextIsCut (server : Answering) (before : List Answered) (sent : Sent) (marks : List Mark) (came : List ℕ) : Type 0 where
  pub first : List Mark
  pub last : Mark
  pub split : marks ≡ first ++ last ∷ []
  pub each : AllZip (IsAnswerOver server) before first
  pub next : came ≡ answer_for server sent last

abbrev pub NextAnswerIsCut : Type 0
NextAnswerIsCut =
    (limit : ℕ) (server : Answering) (before : List Answered) (next : Sent) (marks : List Mark) (came : List ℕ)
    → HasStatuses server → AllByRecursion (IsAnswered limit) before → IsSent next → IsMarkedBy server (bytes_of (sent_of before) ++ next.bytes) marks
    → response_by server (bytes_of (sent_of before) ++ next.bytes) marks ≡ received_of before ++ came → NextIsCut server before next marks came
