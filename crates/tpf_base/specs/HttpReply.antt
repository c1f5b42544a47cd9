-- The reading of a reply: its head, how its body is framed, and the body (RFC 9112, sections 4, 6 and 7; RFC 9110, sections 8.3 and 8.4).
-- A rule is judged on the bytes so far, so the reading of a list of bytes is what was read of all of them, one after another, and the first fault stays.
use Rattle.std.specs.Prelude.{ℕ, ◌+◌, ◌-◌, ◌*◌, ◌==◌, Bool, true, false, not, ◌&&◌, nat_lt, nat_le, List, [], ◌∷◌, ◌++◌, length, drop, bytes_eq, codes, Option, Some, None, if◌then◌else◌}
use Rattle.std.specs.List.{list_all, list_any, before_first}
use Rattle.std.specs.Str.{str_eq_ignore_ascii_case}
use Rattle.std.specs.Str.Parse.{digits_value}
use Rattle.std.specs.Char.{is_ascii_digit, is_ascii_hexdigit}
use Rattle.httparse.specs.Grammar.{ResponseHead, status_code, skip_ows, is_extension_byte}
use Rattle.tpf_base.specs.declared.limits.TheConstants.{HEADS_LIMIT, LINE_LIMIT, MOST_CHUNK_DIGITS, MOST_FIELDS, PADDING_LIMIT}
use Rattle.tpf_base.specs.HttpReader.{read_response, split_run}
use Rattle.tpf_base.specs.HttpHeads.{blank_length, ends_empty, field_lines, pairs_of, values_of, is_word, says_close, taken_whole}

-- why a reply is refused
pub data ReplyFault : Type 0 where
  BadHead BadMediaType BadCoding BadFraming TooLong : ReplyFault
  BadStatus : ℕ → ReplyFault

-- ---- the head

-- the head that is all of the text, which may begin with empty lines
unfoldable pub response_head : List ℕ → Option ResponseHead
response_head text = taken_whole (read_response (drop (blank_length text) text))

-- a response that is passed over
abbrev pub is_interim : ResponseHead → Bool
is_interim h = nat_le 100 (status_code h) && nat_le (status_code h) 199

-- the one media type is that of N-Quads; a parameter behind it is passed over
unfoldable pub is_nquads : List (List ℕ) → Bool
is_nquads [] = false
is_nquads (value ∷ []) = is_word (codes "application/n-quads") (before_first (λ b. b == 59) value)
is_nquads (value ∷ other ∷ more) = false

-- the value is the word, in any case
abbrev pub is_coding : List ℕ → List ℕ → Bool
is_coding word value = str_eq_ignore_ascii_case value word

-- how a body ends: after so many bytes, after its last chunk, or with the connection
pub data Framing : Type 0 where
  Sized : ℕ → Framing
  Chunked ToClose : Framing

-- one digit or more
abbrev pub is_number : List ℕ → Bool
is_number digits = nat_lt 0 (length digits) && list_all is_ascii_digit digits

-- the length that all values give, if they are the same
abbrev pub sized_by : List (List ℕ) → Option Framing
sized_by [] = Some ToClose
sized_by (value ∷ more) =
    if is_number value && list_all (λ v. bytes_eq v value) more then Some (Sized (digits_value 10 value)) else None

-- a Transfer-Encoding has only the value `chunked`, and decides; else the Content-Length
abbrev pub framed_by : List (List ℕ) → List (List ℕ) → Option Framing
framed_by [] lengths = sized_by lengths
framed_by (value ∷ []) lengths = if is_coding (codes "chunked") value then Some Chunked else None
framed_by (value ∷ other ∷ more) lengths = None

unfoldable pub framing_of : List (List ℕ × List ℕ) → Option Framing
framing_of fields = framed_by (values_of (codes "transfer-encoding") fields) (values_of (codes "content-length") fields)

abbrev pub is_to_close : Framing → Bool
is_to_close (Sized n) = false
is_to_close Chunked = false
is_to_close ToClose = true

-- the connection can be used again after the reply
abbrev pub keeps_open : ResponseHead → Framing → Bool
keeps_open h framing = h.minor == 1 && (not (says_close (pairs_of h.fields)) && not (is_to_close framing))

-- what a final head says of the body
pub data HeadRead : Type 0 where
  Announces : Framing → Bool → HeadRead
  IsRefused : ReplyFault → HeadRead

abbrev pub framing_read : ResponseHead → Option Framing → HeadRead
framing_read h None = IsRefused BadFraming
framing_read h (Some framing) = Announces framing (keeps_open h framing)

-- the first rule that refuses a final head
unfoldable pub final_head : ResponseHead → HeadRead
final_head h =
    if not (status_code h == 200) then IsRefused (BadStatus (status_code h))
    else (if not (is_nquads (values_of (codes "content-type") (pairs_of h.fields))) then IsRefused BadMediaType
    else (if list_any (λ v. not (is_coding (codes "identity") v)) (values_of (codes "content-encoding") (pairs_of h.fields)) then IsRefused BadCoding
    else framing_read h (framing_of (pairs_of h.fields))))

-- ---- chunk lines

-- behind the size of a chunk: nothing, or a semicolon and an extension; then CR LF
abbrev pub is_line_rest : List ℕ → Bool
is_line_rest [] = false
is_line_rest (b ∷ bs) = bytes_eq (if b == 59 then (split_run is_extension_byte bs).1 else b ∷ bs) (13 ∷ 10 ∷ [])

abbrev pub size_of_run : List ℕ × List ℕ → Option ℕ
size_of_run (digits, rest) =
    if nat_lt 0 (length digits) && (nat_le (length digits) MOST_CHUNK_DIGITS && is_line_rest (skip_ows rest)) then Some (digits_value 16 digits) else None

-- the size that a chunk line gives: one digit to MOST_CHUNK_DIGITS, any blanks, and what may follow
unfoldable pub chunk_size : List ℕ → Option ℕ
chunk_size line = size_of_run (split_run is_ascii_hexdigit line)

-- ---- what was read so far

-- the body that is being gathered: whether the connection may be kept, the bytes, and the bytes of chunk lines and of line ends after chunks
pub record Gathered : Type 0 where
  pub keeps : Bool
  pub body : List ℕ
  pub extra : ℕ

-- a place in a reply
pub data Place : Type 0 where
  -- in a head, of which these bytes stand, after so many bytes of heads that were passed over
  InHeads : ℕ → List ℕ → Place
  -- in a body of which so many bytes are wanted
  InSized : ℕ → Gathered → Place
  -- in a body that runs to the end of the bytes
  InUnsized : Gathered → Place
  -- in a chunk line, of which these bytes stand
  InLine : List ℕ → Gathered → Place
  -- in a chunk of which so many bytes are wanted
  InChunk : ℕ → Gathered → Place
  -- behind a chunk, where its CR, or its LF, is wanted
  AtReturn AtNewline : Gathered → Place
  -- in the lines behind the last chunk, of which these bytes stand, behind the LF of the line before
  InTrailer : List ℕ → Gathered → Place
  -- behind the reply
  Finished : Gathered → Place
  -- refused
  Failed : ReplyFault → Place

abbrev pub gathering : Bool → Gathered
gathering keeps = record { keeps = keeps; body = []; extra = 0 }

-- where a body begins
unfoldable pub body_place : ℕ → HeadRead → Place
body_place limit (IsRefused fault) = Failed fault
body_place limit (Announces ToClose keeps) = InUnsized (gathering keeps)
body_place limit (Announces Chunked keeps) = InLine [] (gathering keeps)
body_place limit (Announces (Sized n) keeps) =
    if nat_lt limit n then Failed TooLong else (if n == 0 then Finished (gathering keeps) else InSized n (gathering keeps))

-- behind a whole head
unfoldable pub head_place : ℕ → ℕ → Option ResponseHead → Place
head_place limit passed None = Failed BadHead
head_place limit passed (Some h) =
    if is_interim h then (if nat_le HEADS_LIMIT passed then Failed TooLong else InHeads passed []) else body_place limit (final_head h)

-- with one more byte of a head
unfoldable pub after_head_byte : ℕ → ℕ → List ℕ → Place
after_head_byte limit passed head =
    if ends_empty head (length head)
    then (if nat_lt MOST_FIELDS (field_lines head) then Failed BadHead else head_place limit (passed + length head) (response_head head))
    else (if nat_le HEADS_LIMIT (passed + length head) then Failed TooLong else InHeads passed head)

-- with one more byte of the body
abbrev pub with_byte : Gathered → ℕ → Gathered
with_byte g b = record g { body = g.body ++ b ∷ [] }

-- with one more byte that is none of the body
abbrev pub with_extra : Gathered → Gathered
with_extra g = record g { extra = g.extra + 1 }

-- the body passes the limit
unfoldable pub is_over : ℕ → Gathered → Bool
is_over limit g = nat_lt limit (length g.body)

-- chunk lines and line ends are too many bytes for the body so far
unfoldable pub is_padded : Gathered → Bool
is_padded g = nat_lt (PADDING_LIMIT + 8 * length g.body) g.extra

-- the place, unless a limit is passed
abbrev pub unless : Bool → Place → Place
unless passes place = if passes then Failed TooLong else place

-- behind a chunk line
unfoldable pub line_place : Gathered → Option ℕ → Place
line_place g None = Failed BadFraming
line_place g (Some size) = unless (is_padded g) (if size == 0 then InTrailer [] g else InChunk size g)

-- with one more byte of a chunk line, counted
unfoldable pub after_line_byte : List ℕ → ℕ → Gathered → Place
after_line_byte line b g =
    if nat_lt LINE_LIMIT (length line) then Failed BadFraming
    else (if b == 10 then line_place g (chunk_size line) else unless (is_padded g) (InLine line g))

-- with one more byte of the lines behind the last chunk
unfoldable pub after_trailer_byte : List ℕ → Gathered → Place
after_trailer_byte lines g =
    if nat_lt HEADS_LIMIT (length lines) then Failed TooLong
    else (if ends_empty (10 ∷ lines) (length lines + 1) then Finished g else InTrailer lines g)

-- one byte further; a reply that is finished or refused has no further byte
abbrev pub after_byte : ℕ → Place → ℕ → Place
after_byte limit (InHeads passed head) b = after_head_byte limit passed (head ++ b ∷ [])
after_byte limit (InSized wanted g) b = if nat_le wanted 1 then Finished (with_byte g b) else InSized (wanted - 1) (with_byte g b)
after_byte limit (InUnsized g) b = unless (is_over limit (with_byte g b)) (InUnsized (with_byte g b))
after_byte limit (InLine line g) b = after_line_byte (line ++ b ∷ []) b (with_extra g)
after_byte limit (InChunk wanted g) b =
    unless (is_over limit (with_byte g b)) (if nat_le wanted 1 then AtReturn (with_byte g b) else InChunk (wanted - 1) (with_byte g b))
after_byte limit (AtReturn g) b = if b == 13 then unless (is_padded (with_extra g)) (AtNewline (with_extra g)) else Failed BadFraming
after_byte limit (AtNewline g) b = if b == 10 then unless (is_padded (with_extra g)) (InLine [] (with_extra g)) else Failed BadFraming
after_byte limit (InTrailer lines g) b = after_trailer_byte (lines ++ b ∷ []) g
after_byte limit (Finished g) b = Finished g
after_byte limit (Failed fault) b = Failed fault

-- where these bytes lead to from a place
unfoldable pub after_bytes : ℕ → Place → List ℕ → Place
after_bytes limit place [] = place
after_bytes limit place (b ∷ bs) = after_bytes limit (after_byte limit place b) bs

-- ---- the reading of all bytes

-- wants more; a body, how many of the bytes belong to the reply, and whether the connection can be used again; or a fault
pub data Reading : Type 0 where
  More : Reading
  Whole : List ℕ → ℕ → Bool → Reading
  Bad : ReplyFault → Reading

abbrev pub one_more : Reading → Reading
one_more More = More
one_more (Whole body n keeps) = Whole body (n + 1) keeps
one_more (Bad fault) = Bad fault

-- what is read where no further byte stands
abbrev pub at_the_end : Bool → Place → Reading
at_the_end at_end (InUnsized g) = if at_end then Whole g.body 0 g.keeps else More
at_the_end at_end (Finished g) = Whole g.body 0 g.keeps
at_the_end at_end (Failed fault) = Bad fault
at_the_end at_end (InHeads passed head) = More
at_the_end at_end (InSized wanted g) = More
at_the_end at_end (InLine line g) = More
at_the_end at_end (InChunk wanted g) = More
at_the_end at_end (AtReturn g) = More
at_the_end at_end (AtNewline g) = More
at_the_end at_end (InTrailer lines g) = More

-- the reply goes on here
abbrev pub is_open : Place → Bool
is_open (InHeads passed head) = true
is_open (InSized wanted g) = true
is_open (InUnsized g) = true
is_open (InLine line g) = true
is_open (InChunk wanted g) = true
is_open (AtReturn g) = true
is_open (AtNewline g) = true
is_open (InTrailer lines g) = true
is_open (Finished g) = false
is_open (Failed fault) = false

-- what is read of these bytes from a place on
unfoldable pub reading_from : ℕ → Place → List ℕ → Bool → Reading
reading_from limit place [] at_end = at_the_end at_end place
reading_from limit place (b ∷ bs) at_end =
    if is_open place then one_more (reading_from limit (after_byte limit place b) bs at_end) else at_the_end at_end place

-- where a reply begins
abbrev pub begun : Place
begun = InHeads 0 []

-- the reading of a reply whose body may have so many bytes
abbrev pub reply_of : List ℕ → Bool → ℕ → Reading
reply_of bytes at_end limit = reading_from limit begun bytes at_end
