-- Rows in addresses: the values of the parameter `row`, each a partly bound triple by which a fragment is restricted (brTPF; the encoding is this project's).
use Rattle.std.specs.Prelude.{ℕ, ◌≡◌, ◌==◌, List, [], ◌∷◌, ◌++◌, codes, nat_le, length, Option, Some, None, Result, Ok, Err}
use Rattle.std.specs.List.{slice_split}
use Rattle.std.specs.Str.{is_utf8}
use Rattle.percent_encoding.specs.Percent.{percent_decode}
use Rattle.rdf_terms.specs.declared.slots.Slot.{Slot}
use Rattle.rdf_terms.specs.declared.slots.Slot.TheVariants.{Any, Fixed}
use Rattle.rdf_terms.specs.declared.slots.Slots.{Slots}
use Rattle.rdf_terms.specs.Kept.{AreKept}
use Rattle.rdf_terms.specs.declared.limits.TheConstants.{MOST_ROWS}
use Rattle.template_fill.specs.Explicit.{explicit_form, slot_of}
use Rattle.template_fill.specs.Values.{encoded_value}
use Rattle.template_fill.specs.ReadAddress.{when, ◌>>=◌}
use Rattle.template_fill.specs.declared.fault.ValueFault.{ValueFault}

-- ---- written

-- the explicit form of a fixed place, encoded as a template writes a value; nothing for a free one
abbrev pub row_place : Slot → List ℕ
row_place Any = []
row_place (Fixed term) = encoded_value (explicit_form term)

-- the three places with commas between: the value of `row`, not yet encoded
unfoldable pub row_text : Slots → List ℕ
row_text row = row_place row.subject ++ 44 ∷ (row_place row.predicate ++ 44 ∷ row_place row.object)

-- a row after a mark: `row=` and its value encoded once more
abbrev pub row_pair : ℕ → Slots → List ℕ
row_pair mark row = mark ∷ (codes "row=" ++ encoded_value (row_text row))

-- the rows in their order, the first after this mark and each other after &
abbrev pub rows_text : ℕ → List Slots → List ℕ
rows_text mark [] = []
rows_text mark (row ∷ rows) = row_pair mark row ++ rows_text 38 rows

-- ---- read

abbrev pub accepted : Result Slot ValueFault → Option Slot
accepted (Ok slot) = Some slot
accepted (Err fault) = None

-- the slot of a place, percent-decoded; None where that is not UTF-8 or no explicit form
abbrev pub slot_in_row : List ℕ → Option Slot
slot_in_row text = when (is_utf8 (percent_decode text)) (percent_decode text) >>= (λ form. accepted (slot_of form))

-- the slots of two places; None where one of them is refused
abbrev pub slots_in_row : List ℕ → List ℕ → Option (Slot × Slot)
slots_in_row first second = do
  one ← slot_in_row first
  two ← slot_in_row second
  Some (one, two)

-- three texts, and no more
abbrev pub three_of : List (List ℕ) → Option (List ℕ × List ℕ × List ℕ)
three_of [] = None
three_of (s ∷ []) = None
three_of (s ∷ p ∷ []) = None
three_of (s ∷ p ∷ o ∷ []) = Some (s, p, o)
three_of (s ∷ p ∷ o ∷ more ∷ rest) = None

-- the three texts between two commas; None where there are not exactly two
abbrev pub places_between : List ℕ → Option (List ℕ × List ℕ × List ℕ)
places_between text = three_of (slice_split (λ b. b == 44) text)

-- the row that a text is; None where it has not exactly two commas, or one of the three is refused
unfoldable pub row_of : List ℕ → Option Slots
row_of text = do
  places ← places_between text
  subject ← slot_in_row places.0
  predicate ← slot_in_row places.1
  object ← slot_in_row places.2
  Some (record { subject = subject; predicate = predicate; object = object })

abbrev pub rows_of : List (List ℕ) → Option (List Slots)
rows_of [] = Some []
rows_of (text ∷ texts) = do
  row ← row_of text
  rows ← rows_of texts
  Some (row ∷ rows)

-- the rows that some values are; None where they are too many, or one is no row
abbrev pub few_rows_of : List (List ℕ) → Option (List Slots)
few_rows_of texts = when (nat_le (length texts) MOST_ROWS) texts >>= rows_of

-- ---- the law

-- the value of a row is read as that row
abbrev pub ReadsRows : Type 0
ReadsRows = (row : Slots) → AreKept row → row_of (row_text row) ≡ Some row
