-- The answers of a server and their bytes (RFC 9110, sections 8.3, 8.6, 10.2.1 and 15; RFC 6585, section 5; RFC 9112, section 9.6).
use Rattle.std.specs.Prelude.{ℕ, Bool, ◌==◌, List, [], ◌∷◌, ◌++◌, length, codes, if◌then◌else◌}
use Rattle.tpf_base.specs.Decimals.{decimal_text}
use Rattle.tpf_base.specs.HttpText.{answer_head}

-- what a body is: N-Quads for a page, plain text for all else
pub data MediaType : Type 0 where
  NQuads PlainText : MediaType

-- a status, and a body with its media type
pub record Answer : Type 0 where
  pub status : ℕ
  pub media_type : MediaType
  pub body : List ℕ

-- the phrase of each status that is answered (RFC 9110, 15; RFC 6585, 5)
unfoldable pub phrase : ℕ → List ℕ
phrase status =
    if status == 200 then codes "OK"
    else (if status == 400 then codes "Bad Request"
    else (if status == 404 then codes "Not Found"
    else (if status == 405 then codes "Method Not Allowed"
    else (if status == 431 then codes "Request Header Fields Too Large"
    else (if status == 500 then codes "Internal Server Error"
    else (if status == 503 then codes "Service Unavailable"
    else []))))))

-- an answer of plain text
abbrev pub text_answer : ℕ → List ℕ → Answer
text_answer status body = record { status = status; media_type = PlainText; body = body }

-- the status, its phrase and LF as body
abbrev pub refusal : ℕ → Answer
refusal status = text_answer status (decimal_text status ++ 32 ∷ (phrase status ++ 10 ∷ []))

-- ---- the bytes of an answer

abbrev pub media_text : MediaType → List ℕ
media_text NQuads = codes "application/n-quads"
media_text PlainText = codes "text/plain"

abbrev pub field_if : Bool → List ℕ → List ℕ → List (List ℕ × List ℕ)
field_if there name value = if there then (name, value) ∷ [] else []

-- the fields of an answer in their order (RFC 9110, 8.3, 8.6 and 10.2.1; RFC 9112, 9.6)
unfoldable pub answer_fields : ℕ → MediaType → ℕ → Bool → List (List ℕ × List ℕ)
answer_fields status media_type body_length closes =
    (codes "Content-Type", media_text media_type)
    ∷ (codes "Content-Length", decimal_text body_length)
    ∷ field_if (status == 405) (codes "Allow") (codes "GET, HEAD")
    ++ field_if closes (codes "Connection") (codes "close")

-- the head of an answer whose body has this length
unfoldable pub head_text : ℕ → MediaType → ℕ → Bool → List ℕ
head_text status media_type body_length closes = answer_head (decimal_text status) (phrase status) (answer_fields status media_type body_length closes)

-- the head, and the body unless it was asked for without one
unfoldable pub answer_text : Answer → Bool → Bool → List ℕ
answer_text answer without_body closes =
    head_text answer.status answer.media_type (length answer.body) closes ++ (if without_body then [] else answer.body)
