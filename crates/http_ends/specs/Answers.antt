-- Answers as a client reads them (RFC 9112, sections 4, 6 and 7).
use Rattle.std.specs.Prelude.{ℕ, ◌≡◌, ◌≢◌, ◌≤◌, ◌<◌, ◌+◌, ◌^◌, ◌⊎◌, Bool, not, true, false, List, ◌++◌, length}
use Rattle.rdf_terms.specs.declared.term.Triple.{Triple}
use Rattle.tpf_base.specs.HttpHeads.{Request}
use Rattle.tpf_base.specs.declared.limits.TheConstants.{HEADS_LIMIT}
use Rattle.tpf_base.specs.HttpReply.{ReplyFault, More, Whole, Bad, TooLong, BadStatus, BadMediaType, reply_of}
use Rattle.template_fill.specs.Metadata.{Config}
use Rattle.template_fill.specs.HttpAnswer.{Answer, MediaType, NQuads, PlainText, answer_text, head_text}
use Rattle.tpf_base.specs.Marks.{Mark}
use Rattle.template_fill.specs.Answers.{is_reload, answer_to}
use Rattle.template_fill.specs.Responses.{Answering, answering}

-- the status of an answer
abbrev pub IsStatus : ℕ → Type 0
IsStatus status = (status ≡ 200) ⊎ ((status ≡ 400) ⊎ ((status ≡ 404) ⊎ ((status ≡ 405) ⊎ ((status ≡ 431) ⊎ ((status ≡ 500) ⊎ (status ≡ 503))))))

-- A page, which is an answer of N-Quads with status 200, is read whole, whatever follows, and a proper front of it as a part. Any other answer, and a page whose body is too long, is refused as soon as its head is whole.
pub record AnswerIsRead (limit : ℕ) (answer : Answer) (closes : Bool) : Type 0 where
  -- the body, of exactly the answer's bytes; the link is kept unless the answer closes
  pub whole : answer.status ≡ 200 → answer.media_type ≡ NQuads → length answer.body ≤ limit → (more : List ℕ) (at_end : Bool)
      → reply_of (answer_text answer false closes ++ more) at_end limit ≡ Whole answer.body (length (answer_text answer false closes)) (not closes)
  pub part : answer.status ≡ 200 → answer.media_type ≡ NQuads → length answer.body ≤ limit → (front rest : List ℕ) (at_end : Bool) → answer_text answer false closes ≡ front ++ rest → 0 < length rest
      → reply_of front at_end limit ≡ More
  pub long : answer.status ≡ 200 → answer.media_type ≡ NQuads → limit < length answer.body → (more : List ℕ) (at_end : Bool) → reply_of (head_text answer.status answer.media_type (length answer.body) closes ++ more) at_end limit ≡ Bad TooLong
  pub other : answer.status ≢ 200 → (more : List ℕ) (at_end : Bool)
      → reply_of (head_text answer.status answer.media_type (length answer.body) closes ++ more) at_end limit ≡ Bad (BadStatus answer.status)
  -- text with status 200, as a server says that its data were read again
  pub text : answer.status ≡ 200 → answer.media_type ≡ PlainText → length (head_text answer.status answer.media_type (length answer.body) closes) ≤ HEADS_LIMIT → (more : List ℕ) (at_end : Bool)
      → reply_of (head_text answer.status answer.media_type (length answer.body) closes ++ more) at_end limit ≡ Bad BadMediaType
  -- a proper front of its head, within the limit of heads
  pub begun : (front rest : List ℕ) (at_end : Bool) → head_text answer.status answer.media_type (length answer.body) closes ≡ front ++ rest → 0 < length rest → length front < HEADS_LIMIT → reply_of front at_end limit ≡ More

-- every answer whose head is within the limit of heads
abbrev pub AnswersAreRead : Type 0
AnswersAreRead =
    (limit : ℕ) (answer : Answer) (closes : Bool) → IsStatus answer.status → length (head_text answer.status answer.media_type (length answer.body) closes) ≤ HEADS_LIMIT → AnswerIsRead limit answer closes

-- a head past that limit is refused
abbrev pub LongHeadsAreRefused : Type 0
LongHeadsAreRefused =
    (limit status : ℕ) (media_type : MediaType) (n : ℕ) (closes : Bool) → IsStatus status → HEADS_LIMIT < length (head_text status media_type n closes) → (more : List ℕ) (at_end : Bool) → reply_of (head_text status media_type n closes ++ more) at_end limit ≡ Bad TooLong

-- a head has at most 200 bytes beside the digits of its body's length
abbrev pub HeadsAreShort : Type 0
HeadsAreShort = (status : ℕ) (media_type : MediaType) (n k : ℕ) (closes : Bool) → IsStatus status → 0 < k → n < 10 ^ k → length (head_text status media_type n closes) ≤ 200 + k

-- each answer of a server, whatever its data and however long its pages, where the limit of bodies is a number of 64 bits
abbrev pub ServerAnswersAreRead : Type 0
ServerAnswersAreRead =
    (limit : ℕ) (history : List (List Triple)) (mark : Mark) (config : Config) (request : Request) (closes : Bool) → limit < 2 ^ 64 → AnswerIsRead limit (answer_to history mark config request) closes

-- each answer has such a status
abbrev pub HasStatuses : Answering → Type 0
HasStatuses server = (mark : Mark) (request : Request) → IsStatus (server.answer mark request).status

-- so has each answer that a server gives
abbrev pub AnswersHaveStatus : Type 0
AnswersHaveStatus = (history : List (List Triple)) (config : Config) → HasStatuses (answering history config)

-- an answer with status 200 to a request that asks for no reload is a page
abbrev pub PagesAreNQuads : Type 0
PagesAreNQuads =
    (history : List (List Triple)) (mark : Mark) (config : Config) (request : Request)
    → is_reload config request ≡ false → (answer_to history mark config request).status ≡ 200 → (answer_to history mark config request).media_type ≡ NQuads

-- ---- readings that stay

-- A whole reading, or a refusal, stays with more bytes and at the end of them.
pub record ReadingStays (limit : ℕ) (bytes : List ℕ) : Type 0 where
  pub whole : (body : List ℕ) (n : ℕ) (keeps : Bool) → reply_of bytes false limit ≡ Whole body n keeps → (more : List ℕ) (at_end : Bool) → reply_of (bytes ++ more) at_end limit ≡ Whole body n keeps
  pub bad : (fault : ReplyFault) → reply_of bytes false limit ≡ Bad fault → (more : List ℕ) (at_end : Bool) → reply_of (bytes ++ more) at_end limit ≡ Bad fault

abbrev pub ReadingsStay : Type 0
ReadingsStay = (limit : ℕ) (bytes : List ℕ) → ReadingStays limit bytes

-- A reply that runs to the close keeps nothing: one that keeps the link is whole before the end.
abbrev pub KeptBeforeTheEnd : Type 0
KeptBeforeTheEnd = (limit : ℕ) (bytes body : List ℕ) (n : ℕ) → reply_of bytes true limit ≡ Whole body n true → reply_of bytes false limit ≡ Whole body n true
