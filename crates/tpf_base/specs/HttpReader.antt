-- Reading the head of a request or of a response (RFC 9112, sections 2 to 5), as functions that give the heads of the grammar of `httparse`.
use Rattle.std.specs.Prelude.{◌≡◌, ℕ, Bool, ◌==◌, List, [], ◌∷◌, length, Option, Some, None, option_map, codes, take, drop, bytes_eq, if◌then◌else◌, zero, suc, ⊤}
use Rattle.httparse.specs.Grammar.{LineEnd, crlf, lf, Field, is_token_byte, is_value_byte, is_uri_byte, RequestHead, ResponseHead}
use Rattle.httparse.specs.Pieces.{Piece}
use Rattle.std.specs.Str.{is_utf8}
use Rattle.std.specs.Char.{is_ascii_digit}

-- a tree from the front of a text, and what is left
abbrev pub Reader : Type 0 → Type 0
Reader A = List ℕ → Option (A × List ℕ)

-- the reader gives exactly the trees of the piece
pub record IsReaderOf {A : Type 0} (r : Reader A) (G : Piece A) : Type 0 where
  pub sound : (a : A) (text rest : List ℕ) → r text ≡ Some (a, rest) → G a text rest
  pub complete : (a : A) (text rest : List ℕ) → G a text rest → r text ≡ Some (a, rest)

abbrev pub paired : {A B : Type 0} → A → B × List ℕ → (A × B) × List ℕ
paired a y = ((a, y.0), y.1)

abbrev pub then_next : {A B : Type 0} → Reader B → Option (A × List ℕ) → Option ((A × B) × List ℕ)
then_next q None = None
then_next q (Some x) = option_map (paired x.0) (q x.1)

-- one piece and then another
abbrev pub read_then : {A B : Type 0} → Reader A → Reader B → Reader (A × B)
read_then r q text = then_next q (r text)

abbrev pub after_return : List ℕ → Option (LineEnd × List ℕ)
after_return [] = None
after_return (b ∷ bs) = if b == 10 then Some (crlf, bs) else None

abbrev pub read_newline : List ℕ → Option (LineEnd × List ℕ)
read_newline [] = None
read_newline (b ∷ bs) = if b == 10 then Some (lf, bs) else (if b == 13 then after_return bs else None)

-- the longest front whose bytes pass the test, and the rest
unfoldable pub split_run : (ℕ → Bool) → List ℕ → List ℕ × List ℕ
split_run test [] = ([], [])
split_run test (b ∷ bs) = if test b then (b ∷ (split_run test bs).0, (split_run test bs).1) else ([], b ∷ bs)

-- one or more bytes that pass the test, and then the byte
abbrev pub word_of : ℕ → List ℕ × List ℕ → Option (List ℕ × List ℕ)
word_of stop ([], rest) = None
word_of stop (b ∷ bs, []) = None
word_of stop (b ∷ bs, c ∷ rest) = if c == stop then Some (b ∷ bs, rest) else None

abbrev pub read_word : (ℕ → Bool) → ℕ → Reader (List ℕ)
read_word test stop text = word_of stop (split_run test text)

-- the value of a line, and its end
abbrev pub text_of : List ℕ × List ℕ → Option ((List ℕ × LineEnd) × List ℕ)
text_of run = option_map (paired run.0) (read_newline run.1)

abbrev pub read_text : (ℕ → Bool) → Reader (List ℕ × LineEnd)
read_text test text = text_of (split_run test text)

-- a field line
abbrev pub field_of : Option ((List ℕ × (List ℕ × LineEnd)) × List ℕ) → Option (Field × List ℕ)
field_of = option_map (λ x. (record { name = x.0.0; raw = x.0.1.0; end = x.0.1.1 }, x.1))

abbrev pub read_field : Reader Field
read_field text = field_of (read_then (read_word is_token_byte 58) (read_text is_value_byte) text)

abbrev pub onto_section : Field → (List Field × LineEnd) × List ℕ → (List Field × LineEnd) × List ℕ
onto_section f x = ((f ∷ x.0.0, x.0.1), x.1)

abbrev pub Section_read : Type 0
Section_read = Option ((List Field × LineEnd) × List ℕ)

abbrev pub section_after : (List ℕ → Section_read) → Option (Field × List ℕ) → Section_read
section_after next None = None
section_after next (Some x) = option_map (onto_section x.0) (next x.1)

abbrev pub section_at : (List ℕ → Section_read) → List ℕ → Option (LineEnd × List ℕ) → Section_read
section_at next text (Some x) = Some (([], x.0), x.1)
section_at next text None = section_after next (read_field text)

-- the field lines and the empty line after them, at most n lines
unfoldable pub read_section_in : ℕ → List ℕ → Section_read
read_section_in zero text = None
read_section_in (suc n) text = section_at (read_section_in n) text (read_newline text)

abbrev pub minor_of : List ℕ → Option (ℕ × List ℕ)
minor_of [] = None
minor_of (m ∷ rest) = if m == 48 then Some (0, rest) else (if m == 49 then Some (1, rest) else None)

abbrev pub version_at : List ℕ → List ℕ → Option (ℕ × List ℕ)
version_at front rest = if bytes_eq front (codes "HTTP/1.") then minor_of rest else None

abbrev pub read_version : List ℕ → Option (ℕ × List ℕ)
read_version text = version_at (take 7 text) (drop 7 text)

-- what was read, where it passes the test
abbrev pub kept : {A : Type 0} → (A → Bool) → Option (A × List ℕ) → Option (A × List ℕ)
kept test None = None
kept test (Some x) = if test x.0 then Some x else None

abbrev pub read_target : List ℕ → Option (List ℕ × List ℕ)
read_target text = kept is_utf8 (read_word is_uri_byte 32 text)

abbrev pub read_section : List ℕ → Section_read
read_section text = read_section_in (length text) text

abbrev pub Line : Type 0
Line = List ℕ × (List ℕ × (ℕ × LineEnd))

abbrev pub read_line : Reader Line
read_line = read_then (read_word is_token_byte 32) (read_then read_target (read_then read_version read_newline))

abbrev pub read_parts : Reader (Line × (List Field × LineEnd))
read_parts = read_then read_line read_section

abbrev pub head_of : Line × (List Field × LineEnd) → RequestHead
head_of t = record {
  blank = [];
  method = t.0.0;
  target = t.0.1.0;
  minor = t.0.1.1.0;
  line_end = t.0.1.1.1;
  fields = t.1.0;
  last = t.1.1;
}

-- the request head at the front of a text that begins with no empty line
unfoldable pub read_request : List ℕ → Option (RequestHead × List ℕ)
read_request text = option_map (λ x. (head_of x.0, x.1)) (read_parts text)

abbrev pub read_space : List ℕ → Option (⊤ × List ℕ)
read_space [] = None
read_space (b ∷ bs) = if b == 32 then Some (tt, bs) else None

abbrev pub read_digit : List ℕ → Option (ℕ × List ℕ)
read_digit [] = None
read_digit (b ∷ bs) = if is_ascii_digit b then Some (b, bs) else None

abbrev pub Phrase_read : Type 0
Phrase_read = Option ((Option (List ℕ) × LineEnd) × List ℕ)

abbrev pub with_phrase : Option ((List ℕ × LineEnd) × List ℕ) → Phrase_read
with_phrase = option_map (λ x. ((Some x.0.0, x.0.1), x.1))

abbrev pub without_phrase : Option (LineEnd × List ℕ) → Phrase_read
without_phrase = option_map (λ x. ((None, x.0), x.1))

-- the phrase of a status line, where there is one, and the end of the line
abbrev pub read_reason : List ℕ → Phrase_read
read_reason [] = None
read_reason (b ∷ bs) = if b == 32 then with_phrase (read_text is_value_byte bs) else without_phrase (read_newline (b ∷ bs))

abbrev pub StatusLine : Type 0
StatusLine = ℕ × (⊤ × ((ℕ × (ℕ × ℕ)) × (Option (List ℕ) × LineEnd)))

abbrev pub read_status_line : Reader StatusLine
read_status_line = read_then read_version (read_then read_space (read_then (read_then read_digit (read_then read_digit read_digit)) read_reason))

abbrev pub read_response_parts : Reader (StatusLine × (List Field × LineEnd))
read_response_parts = read_then read_status_line read_section

abbrev pub response_of : StatusLine × (List Field × LineEnd) → ResponseHead
response_of t = record {
  blank = [];
  minor = t.0.0;
  digits = t.0.1.1.0.0 ∷ t.0.1.1.0.1.0 ∷ t.0.1.1.0.1.1 ∷ [];
  reason = t.0.1.1.1.0;
  line_end = t.0.1.1.1.1;
  fields = t.1.0;
  last = t.1.1;
}

-- the response head at the front of a text that begins with no empty line
unfoldable pub read_response : List ℕ → Option (ResponseHead × List ℕ)
read_response text = option_map (λ x. (response_of x.0, x.1)) (read_response_parts text)
