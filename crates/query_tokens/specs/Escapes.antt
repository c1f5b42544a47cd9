-- The escapes of IRIs and strings: which ones may stand there, what each stands for, and a text with its escapes resolved.
use Rattle.std.specs.Prelude.{ℕ, ◌≡◌, ◌+◌, ◌*◌, min, Bool, true, false, not, ◌==◌, ◌&&◌, ◌||◌, nat_le, nat_lt, List, [], ◌∷◌, take, length, if◌then◌else◌, zero, suc}
use Rattle.std.specs.Char.{is_ascii_hexdigit, digit_value}
use Rattle.std.specs.List.{list_all}
use Rattle.query_tokens.specs.declared.kind.PieceKind.{PieceKind}
use Rattle.query_tokens.specs.declared.kind.PieceKind.TheVariants.{Iri, Str}
use Rattle.query_tokens.specs.Classes.{is_between}
use Rattle.query_tokens.specs.Forms.{IsLongest}

-- the value of a hexadecimal digit, and 0 for any other character
abbrev pub hex_digit : ℕ → ℕ
hex_digit c = if nat_lt (digit_value c) 16 then digit_value c else 0

-- the number that these digits spell after n; past the last character it counts as the next number
abbrev pub hex_after : ℕ → List ℕ → ℕ
hex_after n [] = n
hex_after n (c ∷ cs) = hex_after (min (n * 16 + hex_digit c) 0x110000) cs

-- a number that is a character
abbrev pub is_scalar : ℕ → Bool
is_scalar n = nat_lt n 0xD800 || is_between 0xE000 n 0x10FFFF

-- a character that an IRI [139] may hold
abbrev pub is_iri_char : ℕ → Bool
is_iri_char n = is_scalar n && not (nat_le n 32 || (n == 60) || (n == 62) || (n == 34) || (n == 123) || (n == 125) || (n == 124) || (n == 94) || (n == 96) || (n == 92))

-- the number may stand in an IRI, or in a string
abbrev pub may_stand : Bool → ℕ → Bool
may_stand in_iri n = if in_iri then is_iri_char n else is_scalar n

-- what follows 'u' or 'U' begins with so many hexadecimal digits, and their number may stand there
abbrev pub is_numeric : Bool → ℕ → List ℕ → Bool
is_numeric in_iri count cs = (length (take count cs) == count) && (list_all is_ascii_hexdigit (take count cs) && may_stand in_iri (hex_after 0 (take count cs)))

-- the character that ECHAR [160] stands for, or 0
abbrev pub character_of : ℕ → ℕ
character_of c = if c == 116 then 9 else (if c == 98 then 8 else (if c == 110 then 10 else (if c == 114 then 13 else (if c == 102 then 12 else (if (c == 34) || ((c == 39) || (c == 92)) then c else 0)))))

-- what follows a backslash makes an escape that may stand there: a numeric one, or in a string one of t b n r f " ' \
unfoldable pub is_escape : Bool → List ℕ → Bool
is_escape in_iri [] = false
is_escape in_iri (c ∷ cs) = if c == 117 then is_numeric in_iri 4 cs else (if c == 85 then is_numeric in_iri 8 cs else (not in_iri && not (character_of c == 0)))

-- each backslash begins an escape that may stand there, after so many characters that belong to the one before
abbrev pub good_escapes : Bool → ℕ → List ℕ → Bool
good_escapes in_iri skip [] = true
good_escapes in_iri (suc n) (c ∷ cs) = good_escapes in_iri n cs
good_escapes in_iri zero (c ∷ cs) = if c == 92 then (is_escape in_iri cs && good_escapes in_iri 1 cs) else good_escapes in_iri 0 cs

-- the escapes of a token of this kind are good
unfoldable pub has_good_escapes : PieceKind → List ℕ → Bool
has_good_escapes Iri cs = good_escapes true 0 cs
has_good_escapes Str cs = good_escapes false 0 cs
has_good_escapes _ cs = true

-- the first n characters are the longest token there, and its escapes are good
abbrev pub IsPiece : List ℕ → PieceKind → ℕ → Type 0
IsPiece cs k n = IsLongest cs k n × (has_good_escapes k (take n cs) ≡ true)

-- no front is the longest token there with good escapes
abbrev pub NoPiece : List ℕ → Type 0
NoPiece cs = (k : PieceKind) (n : ℕ) → IsPiece cs k n → ⊥

-- a number that is a character, and U+FFFD in place of any other
abbrev pub character_or : ℕ → ℕ
character_or n = if is_scalar n then n else 0xFFFD

-- the character that the escape stands for whose text after the backslash begins so
unfoldable pub escape_value : List ℕ → ℕ
escape_value [] = 0xFFFD
escape_value (c ∷ cs) = if c == 117 then character_or (hex_after 0 (take 4 cs)) else (if c == 85 then character_or (hex_after 0 (take 8 cs)) else character_or (character_of c))

-- how many characters follow the backslash of that escape
unfoldable pub escape_length : List ℕ → ℕ
escape_length [] = 0
escape_length (c ∷ cs) = if c == 117 then 5 else (if c == 85 then 9 else 1)

-- the text with its escapes resolved, after so many characters that belong to the one before
abbrev pub resolved_after : ℕ → List ℕ → List ℕ
resolved_after skip [] = []
resolved_after (suc n) (c ∷ cs) = resolved_after n cs
resolved_after zero (c ∷ cs) = if c == 92 then escape_value cs ∷ resolved_after (escape_length cs) cs else c ∷ resolved_after 0 cs

-- the text with its escapes resolved
abbrev pub resolved : List ℕ → List ℕ
resolved cs = resolved_after 0 cs
