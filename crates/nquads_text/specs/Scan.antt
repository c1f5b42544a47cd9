-- How far the parts of a line reach, read byte by byte from the left.
use Rattle.std.specs.Prelude.{ℕ, ◌+◌, ◌-◌, Bool, true, false, ◌==◌, ◌&&◌, ◌||◌, nat_le, List, [], ◌∷◌, Option, Some, None, if◌then◌else◌}
use Rattle.list_laws.specs.Options.{when, ◌>>=◌}
use Rattle.rdf_terms.specs.Iri.{is_letter, is_digit, is_iri_byte}
use Rattle.nquads_text.specs.declared.scan.Awaits.{Awaits}
use Rattle.nquads_text.specs.declared.scan.Awaits.TheVariants.{Item, Escape, Digits}
use Rattle.nquads_text.specs.Grammar.{is_blank, is_hex, is_form_byte, is_short_escape}

-- the bytes after the blanks at the front
abbrev pub skipped : List ℕ → List ℕ
skipped [] = []
skipped (b ∷ bs) = if is_blank b then skipped bs else b ∷ bs

-- the bytes after an x at the front
abbrev pub opened : ℕ → List ℕ → Option (List ℕ)
opened x [] = None
opened x (b ∷ bs) = if b == x then Some bs else None

-- nothing is left but a comment
abbrev pub is_over : List ℕ → Bool
is_over [] = true
is_over (b ∷ bs) = b == 35

-- the place of the first byte that passes a test, read from the place i
abbrev pub first_place : (ℕ → Bool) → ℕ → List ℕ → Option ℕ
first_place test i [] = None
first_place test i (b ∷ bs) = if test b then Some i else first_place test (i + 1) bs

-- an item is awaited, and no part of one
abbrev pub is_item : Awaits → Bool
is_item Item = true
is_item Escape = false
is_item (Digits more) = false

-- what is awaited where so many hexadecimal digits are still to come
abbrev pub digits_left : ℕ → Awaits
digits_left n = if n == 0 then Item else Digits (n - 1)

-- what is awaited after the byte b behind a backslash, where digits follow; and after any byte of an IRI, and of a form
abbrev pub digits_after : ℕ → Option Awaits
digits_after b = if b == 117 then Some (digits_left 4) else (if b == 85 then Some (digits_left 8) else None)

abbrev pub iri_step : Awaits → ℕ → Option Awaits
iri_step Item b = if b == 92 then Some Escape else when (is_iri_byte b) Item
iri_step Escape b = digits_after b
iri_step (Digits more) b = when (is_hex b) (digits_left more)

abbrev pub form_step : Awaits → ℕ → Option Awaits
form_step Item b = if b == 92 then Some Escape else when (is_form_byte b) Item
form_step Escape b = if is_short_escape b then Some Item else digits_after b
form_step (Digits more) b = when (is_hex b) (digits_left more)

-- the place of the mark that ends an IRI, and a form, read from the place i where s is awaited
abbrev pub iri_end : Awaits → ℕ → List ℕ → Option ℕ
iri_end s i [] = None
iri_end s i (b ∷ bs) = if is_item s && (b == 62) then Some i else (iri_step s b >>= λ t. iri_end t (i + 1) bs)

abbrev pub form_end : Awaits → ℕ → List ℕ → Option ℕ
form_end s i [] = None
form_end s i (b ∷ bs) = if is_item s && (b == 34) then Some i else (form_step s b >>= λ t. form_end t (i + 1) bs)

-- a byte of a character that may stand in a label, if the character is ASCII
abbrev pub is_label_byte : ℕ → Bool
is_label_byte b = nat_le 128 b || is_letter b || is_digit b || (b == 95) || (b == 58) || (b == 45)

-- the length of a run of such bytes and dots that does not end in a dot, read from the place i, where the run without the last dots ends at e
abbrev pub label_len : ℕ → ℕ → List ℕ → ℕ
label_len e i [] = e
label_len e i (b ∷ bs) = if b == 46 then label_len e (i + 1) bs else (if is_label_byte b then label_len (i + 1) (i + 1) bs else e)

abbrev pub is_tag_byte : ℕ → Bool
is_tag_byte b = is_letter b || is_digit b || (b == 45)

abbrev pub tag_len : ℕ → List ℕ → ℕ
tag_len i [] = i
tag_len i (b ∷ bs) = if is_tag_byte b then tag_len (i + 1) bs else i
