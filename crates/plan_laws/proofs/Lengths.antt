-- How long the addresses of pages are.
use Rattle.std.proofs.Common.{ℕ, ◌≡◌, ◌+◌, ◌*◌, ◌/◌, ◌%◌, ◌<◌, ◌≤◌, ◌^◌, ◌==◌, Bool, true, false, List, [], ◌∷◌, ◌++◌, length, Option, Some, None, codes, if◌then◌else◌, refl, arith, length-append}
use Rattle.std.specs.List.{flat_map}
use Rattle.std.specs.Fmt.{digit_glyph}
use Rattle.tpf_base.specs.Addresses.{Address, address_text}
use Rattle.tpf_base.specs.Decimals.{decimal_text}
use Rattle.tpf_base.proofs.DecimalTexts.{decimal_text-short}
use Rattle.rdf_terms.specs.declared.slots.Slot.{Slot}
use Rattle.rdf_terms.specs.declared.slots.Slot.TheVariants.{Any, Fixed}
use Rattle.rdf_terms.specs.declared.slots.Slots.{Slots}
use Rattle.rdf_terms.specs.Selections.{Selection, all_of}
use Rattle.template_fill.specs.Answers.{read_as}
use Rattle.template_fill.specs.Rows.{row_place, row_text, row_pair, rows_text}
use Rattle.template_fill.specs.Explicit.{explicit_form}
use Rattle.template_fill.specs.Values.{is_unreserved, encoded_byte, encoded_value}
use Rattle.template_fill.specs.Templates.{pair_text}
use Rattle.template_fill.specs.Pages.{places_text, page_mark, page_pair, text_with_rows, selection_text, page_address}

-- the explicit form of a fixed place has at most so many bytes
abbrev pub IsShortSlot : ℕ → Slot → Type 0
IsShortSlot most Any = Unit {0}
IsShortSlot most (Fixed term) = length (explicit_form term) ≤ most

pub record AreShort (most : ℕ) (slots : Slots) : Type 0 where
  pub subject : IsShortSlot most slots.subject
  pub predicate : IsShortSlot most slots.predicate
  pub object : IsShortSlot most slots.object

-- ---- values

byte_short : (b : ℕ) → length (encoded_byte b) ≤ 3
byte_short b = by (is_unreserved b)
  where
    by : (t : Bool) → length (if t then b ∷ [] else 37 ∷ digit_glyph true (b / 16 % 16) ∷ digit_glyph true (b % 16) ∷ []) ≤ 3
    by true = omega arith
    by false = omega arith

encoded_short : (bytes : List ℕ) → length (encoded_value bytes) ≤ 3 * length bytes
unfolding encoded_value
encoded_short [] = omega arith
encoded_short (b ∷ bytes) = omega (arith, byte_short b, encoded_short bytes, length-append (encoded_byte b) (flat_map encoded_byte bytes))

abbrev IsShortText : ℕ → Option (List ℕ) → Type 0
IsShortText most None = Unit {0}
IsShortText most (Some text) = length text ≤ most

-- ---- pairs

pair_short : (most mark : ℕ) (name : List ℕ) (value : Option (List ℕ)) → IsShortText most value → length (pair_text mark name value) ≤ length name + 2 + 3 * most
pair_short most mark name None h = omega arith
pair_short most mark name (Some text) h = omega (arith, h, encoded_short text, length-append name (61 ∷ encoded_value text))

subject_long : length (codes "subject") ≡ 7
subject_long = refl

predicate_long : length (codes "predicate") ≡ 9
predicate_long = refl

object_long : length (codes "object") ≡ 6
object_long = refl

page_long : length (codes "page=") ≡ 5
page_long = refl

-- three pairs, one after another
three_short : (m n o : ℕ) (a b c : ℕ) (s p t : Option (List ℕ)) → IsShortText a s → IsShortText b p → IsShortText c t
    → length (pair_text m (codes "subject") s ++ (pair_text n (codes "predicate") p ++ (pair_text o (codes "object") t ++ []))) ≤ 28 + 3 * (a + (b + c))
three_short m n o a b c s p t hs hp ht =
    omega (
      arith,
      pair_short a m (codes "subject") s hs,
      pair_short b n (codes "predicate") p hp,
      pair_short c o (codes "object") t ht,
      subject_long,
      predicate_long,
      object_long,
      length-append (pair_text m (codes "subject") s) (pair_text n (codes "predicate") p ++ (pair_text o (codes "object") t ++ [])),
      length-append (pair_text n (codes "predicate") p) (pair_text o (codes "object") t ++ []),
      length-append (pair_text o (codes "object") t) [],
    )

-- the three places of short terms
places_by : (s p o : Slot) (a b c : ℕ) → IsShortSlot a s → IsShortSlot b p → IsShortSlot c o → length (places_text (record { subject = s; predicate = p; object = o })) ≤ 28 + 3 * (a + (b + c))
unfolding places_text
places_by Any Any Any a b c hs hp ho = three_short 63 63 63 a b c None None None tt tt tt
places_by Any Any (Fixed o) a b c hs hp ho = three_short 63 63 63 a b c None None (Some (explicit_form o)) tt tt ho
places_by Any (Fixed p) Any a b c hs hp ho = three_short 63 63 38 a b c None (Some (explicit_form p)) None tt hp tt
places_by Any (Fixed p) (Fixed o) a b c hs hp ho = three_short 63 63 38 a b c None (Some (explicit_form p)) (Some (explicit_form o)) tt hp ho
places_by (Fixed s) Any Any a b c hs hp ho = three_short 63 38 38 a b c (Some (explicit_form s)) None None hs tt tt
places_by (Fixed s) Any (Fixed o) a b c hs hp ho = three_short 63 38 38 a b c (Some (explicit_form s)) None (Some (explicit_form o)) hs tt ho
places_by (Fixed s) (Fixed p) Any a b c hs hp ho = three_short 63 38 38 a b c (Some (explicit_form s)) (Some (explicit_form p)) None hs hp tt
places_by (Fixed s) (Fixed p) (Fixed o) a b c hs hp ho = three_short 63 38 38 a b c (Some (explicit_form s)) (Some (explicit_form p)) (Some (explicit_form o)) hs hp ho

pub places_short : (slots : Slots) (a b c : ℕ) → IsShortSlot a slots.subject → IsShortSlot b slots.predicate → IsShortSlot c slots.object → length (places_text slots) ≤ 28 + 3 * (a + (b + c))
places_short slots a b c hs hp ho = places_by slots.subject slots.predicate slots.object a b c hs hp ho

-- ---- rows

-- a row whose places have such texts
place_row : (most : ℕ) (slot : Slot) → IsShortSlot most slot → length (row_place slot) ≤ 3 * most
place_row most Any h = omega arith
place_row most (Fixed term) h = omega (arith, h, encoded_short (explicit_form term))

row_long : length (codes "row=") ≡ 4
row_long = refl

pub row_short : (mark : ℕ) (row : Slots) (a b c : ℕ) → IsShortSlot a row.subject → IsShortSlot b row.predicate → IsShortSlot c row.object → length (row_pair mark row) ≤ 11 + 9 * (a + (b + c))
unfolding row_text
row_short mark row a b c hs hp ho =
    omega (
      arith,
      place_row a row.subject hs,
      place_row b row.predicate hp,
      place_row c row.object ho,
      length-append (row_place row.subject) (44 ∷ (row_place row.predicate ++ 44 ∷ row_place row.object)),
      length-append (row_place row.predicate) (44 ∷ row_place row.object),
      encoded_short (row_text row),
      length-append (codes "row=") (encoded_value (row_text row)),
      row_long,
    )

-- the first mark matters not
pub rows_long : (mark : ℕ) (rows : List Slots) → length (rows_text mark rows) ≡ length (rows_text 38 rows)
rows_long mark [] = refl
rows_long mark (row ∷ rows) =
    omega (arith, length-append (row_pair mark row) (rows_text 38 rows), length-append (row_pair 38 row) (rows_text 38 rows))

-- what stands of a selection is its places and its rows
text_long : (places : List ℕ) (rows : List Slots) → length (text_with_rows places rows) ≡ length places + length (rows_text 38 rows)
text_long places [] = omega arith
text_long places (row ∷ rows) = omega (arith, length-append places (rows_text (page_mark places) (row ∷ rows)), rows_long (page_mark places) (row ∷ rows))

pub selection_long : (s : Selection) → length (selection_text s) ≡ length (places_text s.slots) + length (rows_text 38 s.rows)
unfolding selection_text
selection_long s = text_long (places_text s.slots) s.rows

-- ---- selections

-- what stands of it behind the base has at most so many bytes
pub record IsShort (s : Selection) : Type 0 where
  pub short : length (selection_text s) ≤ 2361000

-- a fragment of short slots
pub fragment_short : (slots : Slots) → AreShort 262208 slots → IsShort (all_of slots)
fragment_short slots h = record { short = omega (arith, selection_long (all_of slots), places_short slots 262208 262208 262208 h.subject h.predicate h.object) }

-- with its rows passed over it is no longer
pub passed_short : (rows : Bool) (s : Selection) → IsShort s → IsShort (read_as rows s)
passed_short true s h = h
passed_short false s h = record { short = omega (arith, h.short, selection_long s, selection_long (all_of s.slots)) }

-- ---- addresses

number_short : (mark k : ℕ) → k < 2 ^ 64 → length (page_pair mark k) ≤ 26
number_short mark k fits = by (k == 1)
  where
    by : (t : Bool) → length (if t then [] else mark ∷ (codes "page=" ++ decimal_text k)) ≤ 26
    by true = omega arith
    by false = omega (arith, decimal_text-short k 20 (omega arith) (omega (arith, fits)), length-append (codes "page=") (decimal_text k), page_long)

-- the address of a page has at most so many bytes beside its base
pub address_short : (base : Address) (s : Selection) (k : ℕ) → IsShort s → k < 2 ^ 64 → length (page_address base s k) ≤ length (address_text base) + 2361026
unfolding page_address
address_short base s k h fits =
    omega (
      arith,
      h.short,
      number_short (page_mark (selection_text s)) k fits,
      length-append (address_text base) (selection_text s ++ page_pair (page_mark (selection_text s)) k),
      length-append (selection_text s) (page_pair (page_mark (selection_text s)) k),
    )
