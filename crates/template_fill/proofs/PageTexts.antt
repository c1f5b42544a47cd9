-- The places of a page's address, one by one.
use Rattle.std.proofs.Common.{◌≡◌, ℕ, List, [], ◌∷◌, ◌++◌, true, false, ◌==◌, cond, length, arith, refl, sym, ◌∙◌, ap, append_assoc, append-nil}
use Rattle.std.specs.Char.{is_ascii_digit}
use Rattle.std.proofs.lemmas.List.Folds.{list_all-append}
use Rattle.template_fill.specs.WebAddress.{Extends}
use Rattle.template_fill.proofs.Passing.{list_all-wider}
use Rattle.template_fill.proofs.Values.{value-address, pairs-address, unreserved-address, digit-unreserved}
use Rattle.std.specs.Prelude.{codes}
use Rattle.std.specs.List.{list_all, list_any}
use Rattle.std.proofs.lemmas.Bool.{and_from}
use Rattle.std.proofs.lemmas.Bool.Decides.{nat_tests}
use Rattle.rdf_terms.specs.declared.slots.Slot.{Slot}
use Rattle.rdf_terms.specs.declared.slots.Slot.TheVariants.{Any, Fixed}
use Rattle.rdf_terms.specs.declared.slots.Slots.{Slots}
use Rattle.tpf_base.specs.Decimals.{decimal_text}
use Rattle.tpf_base.proofs.DecimalTexts.{decimal_text-digits}
use Rattle.tpf_base.specs.Addresses.{Address, address_text, is_address_byte}
use Rattle.template_fill.specs.Templates.{value_of, next_mark, pair_text, expansion}
use Rattle.template_fill.specs.declared.form.Form.{Form}
use Rattle.template_fill.specs.Forms.{filled, form_text, mark_behind, selection_form_text}
use Rattle.template_fill.specs.Rows.{row_text, rows_text}
use Rattle.template_fill.specs.Values.{encoded_value}
use Rattle.rdf_terms.specs.Selections.{Selection}
use Rattle.template_fill.specs.Pages.{FirstPageIsExpansion, place_names, places_text, page_mark, page_pair, page_address, slot_text, text_with_rows, selection_text}

-- the value of each name is that of its place
values_are : (s p o : Slot) → (value_of (codes "subject") (filled (codes "subject") (codes "predicate") (codes "object") (record { subject = s; predicate = p; object = o })) ≡ slot_text s) × (value_of (codes "predicate") (filled (codes "subject") (codes "predicate") (codes "object") (record { subject = s; predicate = p; object = o })) ≡ slot_text p) × (value_of (codes "object") (filled (codes "subject") (codes "predicate") (codes "object") (record { subject = s; predicate = p; object = o })) ≡ slot_text o)
values_are Any Any Any = (refl, refl, refl)
values_are Any Any (Fixed o) = (refl, refl, refl)
values_are Any (Fixed p) Any = (refl, refl, refl)
values_are Any (Fixed p) (Fixed o) = (refl, refl, refl)
values_are (Fixed s) Any Any = (refl, refl, refl)
values_are (Fixed s) Any (Fixed o) = (refl, refl, refl)
values_are (Fixed s) (Fixed p) Any = (refl, refl, refl)
values_are (Fixed s) (Fixed p) (Fixed o) = (refl, refl, refl)

mark_is : (s p o : Slot) → next_mark (next_mark (next_mark 63 (slot_text s)) (slot_text p)) (slot_text o) ≡ page_mark (places_text (record { subject = s; predicate = p; object = o }))
unfolding places_text
mark_is Any Any Any = refl
mark_is Any Any (Fixed o) = refl
mark_is Any (Fixed p) Any = refl
mark_is Any (Fixed p) (Fixed o) = refl
mark_is (Fixed s) Any Any = refl
mark_is (Fixed s) Any (Fixed o) = refl
mark_is (Fixed s) (Fixed p) Any = refl
mark_is (Fixed s) (Fixed p) (Fixed o) = refl

three : (a b c : List ℕ) → (a ++ b) ++ c ≡ a ++ (b ++ (c ++ []))
three a b c = append_assoc a b c ∙ ap (λ tail. a ++ (b ++ tail)) (sym (append-nil c))

pub places-next : (slots : Slots) (m1 m2 m3 : ℕ) → m1 ≡ next_mark 63 (slot_text slots.subject) → m2 ≡ next_mark m1 (slot_text slots.predicate) → m3 ≡ next_mark m2 (slot_text slots.object) → m3 ≡ page_mark (places_text slots)
places-next slots m1 m2 m3 e1 e2 e3 = rw (e3, e2, e1) (mark_is slots.subject slots.predicate slots.object)

pub places-text : (slots : Slots) (m1 m2 : ℕ) (a b c d : List ℕ) → m1 ≡ next_mark 63 (slot_text slots.subject) → m2 ≡ next_mark m1 (slot_text slots.predicate) → b ≡ a ++ pair_text 63 (codes "subject") (slot_text slots.subject) → c ≡ b ++ pair_text m1 (codes "predicate") (slot_text slots.predicate) → d ≡ c ++ pair_text m2 (codes "object") (slot_text slots.object) → d ≡ a ++ places_text slots
unfolding places_text
places-text slots m1 m2 a b c d e1 e2 eb ec ed =
    let values = values_are slots.subject slots.predicate slots.object in
    let first = pair_text 63 (codes "subject") (slot_text slots.subject) in
    let second = pair_text m1 (codes "predicate") (slot_text slots.predicate) in
    let third = pair_text m2 (codes "object") (slot_text slots.object) in
    let joined : d ≡ a ++ ((first ++ second) ++ third) = rw (ed, ec, eb) (append_assoc (a ++ first) second third ∙ append_assoc a first (second ++ third) ∙ ap (λ tail. a ++ tail) (sym (append_assoc first second third))) in
    joined ∙ ap (λ tail. a ++ tail) (three first second third ∙ rw (values.0, values.1, values.2, e2, e1) refl)

pub first_page : FirstPageIsExpansion
unfolding page_address selection_text places_text expansion
first_page base slots = ap (λ tail. address_text base ++ tail) (sym (append-nil (places_text slots ++ [])))

pub places-address : (slots : Slots) → list_all is_address_byte (places_text slots) ≡ true
unfolding places_text
places-address slots = pairs-address 63 place_names (filled (codes "subject") (codes "predicate") (codes "object") slots) refl refl

digit-address : (b : ℕ) → is_ascii_digit b ≡ true → is_address_byte b ≡ true
digit-address b h = unreserved-address b (digit-unreserved b h)

page-address : (mark k : ℕ) → is_address_byte mark ≡ true → list_all is_ascii_digit (decimal_text k) ≡ true → list_all is_address_byte (page_pair mark k) ≡ true
page-address mark k own digits = elim (k == 1) as (λ v. list_all is_address_byte (cond v [] (mark ∷ (codes "page=" ++ decimal_text k))) ≡ true) [
  | true ↦ refl
  | false ↦ and_from (is_address_byte mark) _ own (list_all-wider is_ascii_digit is_address_byte digit-address (decimal_text k) digits)
]

pub page_mark-address : (written : List ℕ) → is_address_byte (page_mark written) ≡ true
page_mark-address [] = refl
page_mark-address (b ∷ written) = refl

-- the rows
pub row-address : (mark : ℕ) (row : Slots) → is_address_byte mark ≡ true → list_all is_address_byte (mark ∷ (codes "row=" ++ encoded_value (row_text row))) ≡ true
row-address mark row own = and_from (is_address_byte mark) _ own (value-address (row_text row))

pub rows-address : (mark : ℕ) (rows : List Slots) → is_address_byte mark ≡ true → list_all is_address_byte (rows_text mark rows) ≡ true
rows-address mark [] own = refl
rows-address mark (row ∷ rows) own =
    rw (list_all-append is_address_byte (mark ∷ (codes "row=" ++ encoded_value (row_text row))) (rows_text 38 rows), row-address mark row own) (rows-address 38 rows refl)

with-address : (written : List ℕ) (rows : List Slots) → list_all is_address_byte written ≡ true → list_all is_address_byte (text_with_rows written rows) ≡ true
with-address written [] all = all
with-address written (row ∷ rows) all =
    rw (list_all-append is_address_byte written (rows_text (page_mark written) (row ∷ rows)), all) (rows-address (page_mark written) (row ∷ rows) (page_mark-address written))

pub selection-address : (s : Selection) → list_all is_address_byte (selection_text s) ≡ true
unfolding selection_text
selection-address s = with-address (places_text s.slots) s.rows (places-address s.slots)

-- rows behind some text, and the mark behind them
pub rows-behind : (slots : Slots) (row : Slots) (rows : List Slots) (mark : ℕ) (a b c : List ℕ) → mark ≡ page_mark (places_text slots) → b ≡ a ++ places_text slots → c ≡ b ++ rows_text mark (row ∷ rows) → c ≡ a ++ selection_text (record { slots = slots; rows = row ∷ rows })
unfolding selection_text
rows-behind slots row rows mark a b c em eb ec = rw (ec, eb, em) (append_assoc a (places_text slots) (rows_text (page_mark (places_text slots)) (row ∷ rows)))

some-mark : (written : List ℕ) (b : ℕ) (more : List ℕ) → page_mark (written ++ b ∷ more) ≡ 38
some-mark [] b more = refl
some-mark (w ∷ written) b more = refl

pub mark-behind : (slots : Slots) (row : Slots) (rows : List Slots) → page_mark (selection_text (record { slots = slots; rows = row ∷ rows })) ≡ 38
unfolding selection_text
mark-behind slots row rows = some-mark (places_text slots) (page_mark (places_text slots)) ((codes "row=" ++ encoded_value (row_text row)) ++ rows_text 38 rows)

pub no-rows : (slots : Slots) → selection_text (record { slots = slots; rows = [] }) ≡ places_text slots
unfolding selection_text
no-rows slots = refl

-- the mark and the text behind a selection, without rows and with them
pub none-next : (slots : Slots) (rows : List Slots) (m : ℕ) → (length rows == 0) ≡ true → m ≡ page_mark (places_text slots) → m ≡ page_mark (selection_text (record { slots = slots; rows = rows }))
unfolding selection_text
none-next slots [] m e h = h
none-next slots (row ∷ rows) m e h = absurd (grind (arith, nat_tests))

pub none-text : (slots : Slots) (rows : List Slots) (a b : List ℕ) → (length rows == 0) ≡ true → b ≡ a ++ places_text slots → b ≡ a ++ selection_text (record { slots = slots; rows = rows })
unfolding selection_text
none-text slots [] a b e h = h
none-text slots (row ∷ rows) a b e h = absurd (grind (arith, nat_tests))

pub some-next : (slots : Slots) (rows : List Slots) → (length rows == 0) ≡ false → 38 ≡ page_mark (selection_text (record { slots = slots; rows = rows }))
some-next slots [] e = absurd (grind (arith, nat_tests))
some-next slots (row ∷ rows) e = sym (mark-behind slots row rows)

pub some-text : (slots : Slots) (rows : List Slots) (mark : ℕ) (a b c : List ℕ) → (length rows == 0) ≡ false → mark ≡ page_mark (places_text slots) → b ≡ a ++ places_text slots → c ≡ b ++ rows_text mark rows → c ≡ a ++ selection_text (record { slots = slots; rows = rows })
some-text slots [] mark a b c e em eb ec = absurd (grind (arith, nat_tests))
some-text slots (row ∷ rows) mark a b c e em eb ec = rows-behind slots row rows mark a b c em eb ec

-- what a page's address writes after the base
pub more-address : (s : Selection) (k : ℕ) → list_all is_ascii_digit (decimal_text k) ≡ true → list_all is_address_byte (selection_text s ++ page_pair (page_mark (selection_text s)) k) ≡ true
more-address s k digits =
    rw (list_all-append is_address_byte (selection_text s) (page_pair (page_mark (selection_text s)) k), selection-address s) (page-address (page_mark (selection_text s)) k (page_mark-address (selection_text s)) digits)

-- the text of a page's address is that of the base and more
pub page_extends : (base : Address) (s : Selection) (k mark : ℕ) (a b c : List ℕ) → a ≡ address_text base → mark ≡ page_mark (selection_text s) → b ≡ a ++ selection_text s → c ≡ b ++ page_pair mark k → Extends base c × (c ≡ page_address base s k)
unfolding page_address
page_extends base s k mark a b c ea em eb ec =
    let more = selection_text s ++ page_pair (page_mark (selection_text s)) k in
    let text : c ≡ address_text base ++ more = rw (ec, eb, ea, em) (append_assoc (address_text base) (selection_text s) (page_pair (page_mark (selection_text s)) k)) in
    let bytes : list_all is_address_byte more ≡ true = more-address s k (decimal_text-digits k) in
    (record { more = more; is_text = text; bytes = bytes }, text)

pub page_is_longer : (base : Address) (s : Selection) (k : ℕ) → Extends base (page_address base s k)
unfolding page_address
page_is_longer base s k = record {
  more = selection_text s ++ page_pair (page_mark (selection_text s)) k;
  is_text = refl;
  bytes = more-address s k (decimal_text-digits k);
}

pub mark-address : (text : List ℕ) → is_address_byte (mark_behind text) ≡ true
mark-address text = elim (list_any (λ b. b == 63) text) as (λ v. is_address_byte (cond v 38 63) ≡ true) [ true ↦ refl | false ↦ refl ]

-- the text of a form's address with rows is that of the address and more
pub form_extends : (form : Form) (slots : Slots) (rows : List Slots) (address : Address) (mark : ℕ) (a b : List ℕ) → (length rows == 0) ≡ false → address_text address ≡ form_text form slots → a ≡ address_text address → mark ≡ mark_behind (address_text address) → b ≡ a ++ rows_text mark rows → Extends address b × (b ≡ selection_form_text form (record { slots = slots; rows = rows }))
form_extends form slots [] address mark a b some own ea em eb = absurd (grind (arith, nat_tests))
form_extends form slots (row ∷ rows) address mark a b some own ea em eb =
    let more = rows_text (mark_behind (address_text address)) (row ∷ rows) in
    let text : b ≡ address_text address ++ more = rw (eb, ea, em) refl in
    let bytes : list_all is_address_byte more ≡ true = rows-address (mark_behind (address_text address)) (row ∷ rows) (mark-address (address_text address)) in
    (record { more = more; is_text = text; bytes = bytes }, text ∙ ap (λ (front : List ℕ). front ++ rows_text (mark_behind front) (row ∷ rows)) own)
