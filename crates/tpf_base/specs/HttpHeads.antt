-- The request heads at the front of a list of bytes (RFC 9112, sections 2.2, 3 and 9; RFC 9110, sections 5.6.1 and 7.6.1).
use Rattle.std.specs.Prelude.{ℕ, ◌+◌, ◌-◌, ◌==◌, Bool, not, ◌&&◌, ◌||◌, nat_lt, nat_le, eqb, List, [], ◌∷◌, length, take, drop, map, filter, count_by, bytes_eq, codes, slice_index, Option, Some, None, if◌then◌else◌, zero, suc}
use Rattle.std.specs.List.{list_all, list_any, slice_split, starts_with}
use Rattle.std.specs.Str.{str_eq_ignore_ascii_case}
use Rattle.httparse.specs.Grammar.{Field, RequestHead, trim_ows}
use Rattle.httparse.specs.Spans.{name_and_value}
use Rattle.tpf_base.specs.declared.limits.TheConstants.{HEAD_LIMIT, MOST_FIELDS}
use Rattle.tpf_base.specs.HttpReader.{read_request}

-- ---- where a head begins and ends

-- how many bytes of empty lines, each CR LF or LF, stand at the front
unfoldable pub blank_length : List ℕ → ℕ
blank_length [] = 0
blank_length (b ∷ []) = if b == 10 then 1 else 0
blank_length (b ∷ c ∷ bs) = if b == 10 then suc (blank_length (c ∷ bs)) else (if b == 13 && c == 10 then suc (suc (blank_length bs)) else 0)

abbrev pub or_this : Option ℕ → Bool → ℕ → Option ℕ
or_this (Some k) passes n = Some k
or_this None passes n = if passes then Some n else None

-- the least number below the bound that passes the test
unfoldable pub least_below : ℕ → (ℕ → Bool) → Option ℕ
least_below zero test = None
least_below (suc n) test = or_this (least_below n test) (test n) n

-- the byte at a place is this one
abbrev pub is_at : ℕ → List ℕ → ℕ → Bool
is_at byte bytes k = slice_index bytes k == byte

-- the first n bytes end in an empty line after another line: in LF LF or in LF CR LF
unfoldable pub ends_empty : List ℕ → ℕ → Bool
ends_empty bytes n =
    nat_lt 1 n && (is_at 10 bytes (n - 1) && (is_at 10 bytes (n - 2) || (nat_lt 2 n && (is_at 13 bytes (n - 2) && is_at 10 bytes (n - 3)))))

-- the length of the head at the front: of the shortest front that ends in an empty line
abbrev pub head_length : List ℕ → Option ℕ
head_length bytes = least_below (length bytes + 1) (ends_empty bytes)

-- the lines between a head's first line and the empty line that ends it
abbrev pub field_lines : List ℕ → ℕ
field_lines head = count_by (λ b. b == 10) head - 2

-- ---- fields

-- the names and the values of the fields
abbrev pub pairs_of : List Field → List (List ℕ × List ℕ)
pairs_of fields = map name_and_value fields

-- the field has this name, in any case
abbrev pub is_named : List ℕ → List ℕ × List ℕ → Bool
is_named name field = str_eq_ignore_ascii_case field.0 name

-- the values of the fields of this name
abbrev pub values_of : List ℕ → List (List ℕ × List ℕ) → List (List ℕ)
values_of name fields = map (λ f. f.1) (filter (is_named name) fields)

-- the part is this word, in any case and with blanks around it
unfoldable pub is_word : List ℕ → List ℕ → Bool
is_word word part = str_eq_ignore_ascii_case (trim_ows part) word

-- a part of the list with commas is this word
unfoldable pub has_word : List ℕ → List ℕ → Bool
has_word word value = list_any (is_word word) (slice_split (λ b. b == 44) value)

-- a Connection field holds the word close
abbrev pub says_close : List (List ℕ × List ℕ) → Bool
says_close fields = list_any (has_word (codes "close")) (values_of (codes "connection") fields)

-- the fields announce a body
abbrev pub has_body : List (List ℕ × List ℕ) → Bool
has_body fields =
    nat_lt 0 (length (values_of (codes "transfer-encoding") fields))
    || list_any (λ v. not (bytes_eq v (codes "0"))) (values_of (codes "content-length") fields)

-- ---- targets

-- the text begins with the other
unfoldable pub begins_with : List ℕ → List ℕ → Bool
begins_with text front = starts_with eqb text front

-- visible ASCII characters but `#`
unfoldable pub are_visible : List ℕ → Bool
are_visible text = list_all (λ b. nat_le 33 b && (nat_le b 126 && not (b == 35))) text

-- the text is of visible ASCII characters but `#`, and begins with `/` or with `http://`
unfoldable pub is_target : List ℕ → Bool
is_target target = are_visible target && (begins_with target (codes "/") || begins_with target (codes "http://"))

-- what stands from the first `/` or `?` on
unfoldable pub from_path : List ℕ → List ℕ
from_path [] = []
from_path (b ∷ bs) = if b == 47 || b == 63 then b ∷ bs else from_path bs

-- with `/` for an empty path
unfoldable pub with_path : List ℕ → List ℕ
with_path rest = if begins_with rest (codes "/") then rest else 47 ∷ rest

-- the path and the query of a target
unfoldable pub origin_form : List ℕ → List ℕ
origin_form target = if begins_with target (codes "/") then target else with_path (from_path (drop 7 target))

-- ---- request heads

-- what a server takes from a request head
pub record Request : Type 0 where
  pub method : List ℕ
  pub target : List ℕ
  pub closes : Bool

-- a request, or the status with which it is refused
pub data Verdict : Type 0 where
  Accepted : Request → Verdict
  Rejected : ℕ → Verdict

-- the head that is all of the text
abbrev pub taken_whole : {A : Type 0} → Option (A × List ℕ) → Option A
taken_whole None = None
taken_whole (Some (a, [])) = Some a
taken_whole (Some (a, b ∷ bs)) = None

-- the version is HTTP/1.0, or there is exactly one Host field
abbrev pub names_host : RequestHead → Bool
names_host h = h.minor == 0 || length (values_of (codes "host") (pairs_of h.fields)) == 1

-- the connection ends with this request
abbrev pub closes : RequestHead → Bool
closes h = h.minor == 0 || (says_close (pairs_of h.fields) || has_body (pairs_of h.fields))

abbrev pub request_of : RequestHead → Request
request_of h = record { method = h.method; target = origin_form h.target; closes = closes h }

abbrev pub judged_head : Option RequestHead → Verdict
judged_head None = Rejected 400
judged_head (Some h) = if names_host h && is_target h.target then Accepted (request_of h) else Rejected 400

-- what becomes of a head, its empty line included: 431 for more than MOST_FIELDS field lines, 400 for what is no request
unfoldable pub judged : List ℕ → Verdict
judged head = if nat_lt MOST_FIELDS (field_lines head) then Rejected 431 else judged_head (taken_whole (read_request head))

-- ---- the heads at the front of a list of bytes

-- no whole head yet; a request and how many bytes it took; or the status with which the connection ends
pub data NextRequest : Type 0 where
  Incomplete : NextRequest
  Taken : Request → ℕ → NextRequest
  Refused : ℕ → NextRequest

abbrev pub with_length : ℕ → Verdict → NextRequest
with_length n (Accepted r) = Taken r n
with_length n (Rejected status) = Refused status

abbrev pub next_at : List ℕ → ℕ → Option ℕ → NextRequest
next_at bytes blank None = if nat_le HEAD_LIMIT (length bytes) then Refused 431 else Incomplete
next_at bytes blank (Some n) = if nat_lt HEAD_LIMIT (blank + n) then Refused 431 else with_length (blank + n) (judged (take n (drop blank bytes)))

-- the first request: the empty lines at the front are passed over
unfoldable pub next_request : List ℕ → NextRequest
next_request bytes = next_at bytes (blank_length bytes) (head_length (drop (blank_length bytes) bytes))
