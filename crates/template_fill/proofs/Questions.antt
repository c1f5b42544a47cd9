-- What the address of a page asks for.
use Rattle.std.proofs.Common.{◌≡◌, ◌≢◌, ℕ, ◌<◌, ◌≤◌, List, [], ◌∷◌, ◌++◌, Bool, true, false, cond, ◌==◌, ◌&&◌, nat_le, map, filter, length, Option, Some, None, if◌then◌else◌, refl, sym, ap, ◌∙◌, subst, arith, append_assoc, append-nil, All}
use Rattle.std.specs.Prelude.{codes, bytes_eq, unwrap_or}
use Rattle.std.specs.List.{AllByRecursion, list_all}
use Rattle.std.specs.Char.{is_ascii, is_ascii_digit}
use Rattle.std.specs.Str.{IsUtf8}
use Rattle.std.specs.Str.Parse.{digits_value}
use Rattle.std.proofs.lemmas.Bool.Decides.{nat_tests}
use Rattle.std.proofs.lemmas.List.{map-append, length-map}
use Rattle.std.proofs.lemmas.List.Concat.{flat_map-cons}
use Rattle.std.proofs.lemmas.List.Elements.{All-nil, All-cons, filter-append}
use Rattle.std.proofs.lemmas.List.Folds.{list_all-append}
use Rattle.list_laws.proofs.Tests.{and_first, and_second}
use Rattle.list_laws.proofs.Each.{all_append}
use Rattle.form_urlencoded.specs.Form.{raw_pairs}
use Rattle.form_urlencoded.proofs.FormLemmas.{raw_pairs-nil}
use Rattle.rdf_terms.specs.declared.slots.Slot.{Slot}
use Rattle.rdf_terms.specs.declared.slots.Slot.TheVariants.{Any, Fixed}
use Rattle.rdf_terms.specs.declared.slots.Slots.{Slots}
use Rattle.rdf_terms.specs.declared.limits.TheConstants.{MOST_ROWS}
use Rattle.rdf_terms.specs.Kept.{IsKeptSlot, AreKept}
use Rattle.rdf_terms.specs.Selections.{Selection, IsKeptSelection}
use Rattle.tpf_base.specs.Decimals.{decimal_text}
use Rattle.tpf_base.proofs.DecimalTexts.{decimal_text-digits, decimal_text-some, decimal_text-value}
use Rattle.tpf_base.specs.Addresses.{Address, IsAddress, is_path_byte, is_address_byte, query_text, target_of, address_text}
use Rattle.template_fill.specs.Explicit.{explicit_form, slot_of}
use Rattle.template_fill.specs.ReadAddress.{when, ◌>>=◌}
use Rattle.template_fill.specs.Templates.{next_mark, pair_text}
use Rattle.template_fill.specs.Values.{is_unreserved, encoded_byte, encoded_value}
use Rattle.template_fill.specs.Rows.{accepted, row_place, row_text, row_pair, rows_text, rows_of, few_rows_of}
use Rattle.template_fill.specs.Pages.{slot_text, places_text, selection_text, page_mark, page_pair, page_address}
use Rattle.template_fill.specs.Authorities.{address_of_page}
use Rattle.template_fill.specs.Metadata.{Config}
use Rattle.template_fill.specs.Configurations.{IsConfig}
use Rattle.template_fill.specs.Answers.{Question, form_text, parameters, values_under, one_value, slot_under, page_number, rows_under, asked_by, question_of, read_as, AsksFor, ReadsAddress}
use Rattle.template_fill.proofs.Addresses.{utf8-ascii, is_ascii-address, target-parts}
use Rattle.template_fill.proofs.Authorities.{IsRootedPath, kept_path, own_text, page_is}
use Rattle.template_fill.proofs.PageTexts.{places-next, places-text, mark-behind, no-rows}
use Rattle.template_fill.proofs.Passing.{list_all-wider}
use Rattle.template_fill.proofs.Quotes.{reads_back, forms_are_text}
use Rattle.template_fill.proofs.Reading.{parts-target}
use Rattle.template_fill.proofs.ReadRows.{rows-read}
use Rattle.template_fill.proofs.Values.{value-address, unreserved-address, digit-unreserved}
use Rattle.template_fill.proofs.Written.{utf8_bytes, ampersand_apart, value_reads, marked, behind_mark, IsWhole, pairs_read}

-- ---- what is written, and what is read

-- the pair of a fixed place, as it is written and as it is read
abbrev pub place_written : List ℕ → Slot → List (List ℕ × List ℕ)
place_written name Any = []
place_written name (Fixed term) = (name, encoded_value (explicit_form term)) ∷ []

abbrev place_read : List ℕ → Slot → List (List ℕ × List ℕ)
place_read name Any = []
place_read name (Fixed term) = (name, explicit_form term) ∷ []

-- the pair of the number of a page above 1, which is read as it is written
abbrev page_written : ℕ → List (List ℕ × List ℕ)
page_written k = if k == 1 then [] else (codes "page", decimal_text k) ∷ []

-- the pairs of rows
abbrev rows_written : List Slots → List (List ℕ × List ℕ)
rows_written rows = map (λ row. (codes "row", encoded_value (row_text row))) rows

abbrev rows_read : List Slots → List (List ℕ × List ℕ)
rows_read rows = map (λ row. (codes "row", row_text row)) rows

-- the pairs of the places before others
abbrev pub places_written : Slots → List (List ℕ × List ℕ) → List (List ℕ × List ℕ)
places_written slots later =
    place_written (codes "subject") slots.subject ++ (place_written (codes "predicate") slots.predicate ++ (place_written (codes "object") slots.object ++ later))

abbrev places_read : Slots → List (List ℕ × List ℕ) → List (List ℕ × List ℕ)
places_read slots later =
    place_read (codes "subject") slots.subject ++ (place_read (codes "predicate") slots.predicate ++ (place_read (codes "object") slots.object ++ later))

abbrev written : Selection → ℕ → List (List ℕ × List ℕ)
written s k = places_written s.slots (rows_written s.rows ++ page_written k)

abbrev read : Selection → ℕ → List (List ℕ × List ℕ)
read s k = places_read s.slots (rows_read s.rows ++ page_written k)

-- ---- the text

place_marked : (mark : ℕ) (name : List ℕ) (slot : Slot) (later : List (List ℕ × List ℕ)) (tail : List ℕ) → tail ≡ marked (next_mark mark (slot_text slot)) later
    → pair_text mark name (slot_text slot) ++ tail ≡ marked mark (place_written name slot ++ later)
place_marked mark name Any later tail is = is
place_marked mark name (Fixed term) later tail is = ap (λ (bytes : List ℕ). mark ∷ ((name ++ 61 ∷ encoded_value (explicit_form term)) ++ bytes)) is

page_marked : (mark k : ℕ) → page_pair mark k ≡ marked mark (page_written k)
page_marked mark k = elim (k == 1) as (λ v. cond v [] (mark ∷ (codes "page=" ++ decimal_text k)) ≡ marked mark (cond v [] ((codes "page", decimal_text k) ∷ []))) [
  | true ↦ refl
  | false ↦ ap (λ (bytes : List ℕ). mark ∷ bytes) (sym (append-nil (codes "page=" ++ decimal_text k)))
]

-- the mark behind rows
abbrev next_of : ℕ → List Slots → ℕ
next_of mark [] = mark
next_of mark (row ∷ rows) = 38

next-ampersand : (rows : List Slots) → next_of 38 rows ≡ 38
next-ampersand [] = refl
next-ampersand (row ∷ rows) = refl

-- what stands of a selection: its places and then its rows
selection-parts : (slots : Slots) (rows : List Slots) → selection_text (record { slots = slots; rows = rows }) ≡ places_text slots ++ rows_text (page_mark (places_text slots)) rows
unfolding selection_text
selection-parts slots [] = sym (append-nil (places_text slots))
selection-parts slots (row ∷ rows) = refl

selection-mark : (slots : Slots) (rows : List Slots) → page_mark (selection_text (record { slots = slots; rows = rows })) ≡ next_of (page_mark (places_text slots)) rows
selection-mark slots [] = ap page_mark (no-rows slots)
selection-mark slots (row ∷ rows) = mark-behind slots row rows

rows_marked : (mark k : ℕ) (rows : List Slots) → rows_text mark rows ++ page_pair (next_of mark rows) k ≡ marked mark (rows_written rows ++ page_written k)
rows_marked mark k [] = page_marked mark k
rows_marked mark k (row ∷ rows) =
    append_assoc (row_pair mark row) (rows_text 38 rows) (page_pair 38 k)
    ∙ ap (λ (bytes : List ℕ). row_pair mark row ++ bytes) (ap (λ (m : ℕ). rows_text 38 rows ++ page_pair m k) (sym (next-ampersand rows)) ∙ rows_marked 38 k rows)

-- the places before something else
pub places_marked : (slots : Slots) (later : List (List ℕ × List ℕ)) (tail : List ℕ) → tail ≡ marked (page_mark (places_text slots)) later → places_text slots ++ tail ≡ marked 63 (places_written slots later)
places_marked slots later tail is =
    let second = next_mark 63 (slot_text slots.subject) in
    let third = next_mark second (slot_text slots.predicate) in
    let last = next_mark third (slot_text slots.object) in
    let subject = pair_text 63 (codes "subject") (slot_text slots.subject) in
    let predicate = pair_text second (codes "predicate") (slot_text slots.predicate) in
    let object = pair_text third (codes "object") (slot_text slots.object) in
    let places : places_text slots ≡ (subject ++ predicate) ++ object = sym (places-text slots second third [] subject (subject ++ predicate) ((subject ++ predicate) ++ object) refl refl refl refl refl) in
    let mark : page_mark (places_text slots) ≡ last = sym (places-next slots second third last refl refl refl) in
    ap (λ (front : List ℕ). front ++ tail) places
    ∙ append_assoc (subject ++ predicate) object tail
    ∙ append_assoc subject predicate (object ++ tail)
    ∙ place_marked 63 (codes "subject") slots.subject (place_written (codes "predicate") slots.predicate ++ (place_written (codes "object") slots.object ++ later)) (predicate ++ (object ++ tail))
    (place_marked second (codes "predicate") slots.predicate (place_written (codes "object") slots.object ++ later) (object ++ tail)
    (place_marked third (codes "object") slots.object later tail (is ∙ ap (λ (m : ℕ). marked m later) mark)))

-- what follows the base
more_marked : (s : Selection) (k : ℕ) → selection_text s ++ page_pair (page_mark (selection_text s)) k ≡ marked 63 (written s k)
more_marked s k =
    let places = places_text s.slots in
    let mark = page_mark places in
    ap (λ (text : List ℕ). text ++ page_pair (page_mark (selection_text s)) k) (selection-parts s.slots s.rows)
    ∙ append_assoc places (rows_text mark s.rows) (page_pair (page_mark (selection_text s)) k)
    ∙ places_marked s.slots (rows_written s.rows ++ page_written k) (rows_text mark s.rows ++ page_pair (page_mark (selection_text s)) k)
    (ap (λ (m : ℕ). rows_text mark s.rows ++ page_pair m k) (selection-mark s.slots s.rows) ∙ rows_marked mark k s.rows)

-- ---- texts of unreserved characters

unreserved_encoded : (text : List ℕ) → list_all is_unreserved text ≡ true → encoded_value text ≡ text
unfolding encoded_value
unreserved_encoded [] all = refl
unreserved_encoded (b ∷ text) all =
    let own : is_unreserved b ≡ true = and_first (is_unreserved b) (list_all is_unreserved text) all in
    flat_map-cons encoded_byte b text ∙ rw own (ap (λ (bytes : List ℕ). b ∷ bytes) (unreserved_encoded text (and_second (is_unreserved b) (list_all is_unreserved text) all)))

unreserved-ascii : (b : ℕ) → is_unreserved b ≡ true → is_ascii b ≡ true
unreserved-ascii b own = is_ascii-address b (unreserved-address b own)

unreserved_reads : (text : List ℕ) → list_all is_unreserved text ≡ true → form_text text ≡ text
unreserved_reads text all =
    subst (λ (bytes : List ℕ). form_text bytes ≡ text) (unreserved_encoded text all) (value_reads text (utf8-ascii text (list_all-wider is_unreserved is_ascii unreserved-ascii text all)))

unreserved_apart : (mark : ℕ) (text : List ℕ) → is_unreserved mark ≡ false → list_all is_unreserved text ≡ true → All (λ b. b ≢ mark) text
unreserved_apart mark [] other all = All-nil (λ b. b ≢ mark)
unreserved_apart mark (b ∷ text) other all =
    let own : is_unreserved b ≡ true = and_first (is_unreserved b) (list_all is_unreserved text) all in
    All-cons (λ x. x ≢ mark) b text (λ same. clash (is_unreserved b) own (ap is_unreserved same ∙ other)) (unreserved_apart mark text other (and_second (is_unreserved b) (list_all is_unreserved text) all))
  where
    clash : (v : Bool) → v ≡ true → v ≡ false → ⊥
    clash v one other = cc

-- ---- the pairs

place_whole : (name : List ℕ) (slot : Slot) → list_all is_unreserved name ≡ true → IsKeptSlot slot → AllByRecursion IsWhole (place_written name slot)
place_whole name Any own kept = tt
place_whole name (Fixed term) own kept =
    (record { name = unreserved_apart 38 name refl own; equals = unreserved_apart 61 name refl own; value = ampersand_apart (explicit_form term) (utf8_bytes (explicit_form term) (forms_are_text term kept.valid)) }, tt)

digits_unreserved : (digits : List ℕ) → list_all is_ascii_digit digits ≡ true → list_all is_unreserved digits ≡ true
digits_unreserved digits all = list_all-wider is_ascii_digit is_unreserved digit-unreserved digits all

page_whole : (k : ℕ) → list_all is_ascii_digit (decimal_text k) ≡ true → AllByRecursion IsWhole (page_written k)
page_whole k digits = elim (k == 1) as (λ v. AllByRecursion IsWhole (cond v [] ((codes "page", decimal_text k) ∷ []))) [
  | true ↦ tt
  | false ↦ (record { name = unreserved_apart 38 (codes "page") refl refl; equals = unreserved_apart 61 (codes "page") refl refl; value = unreserved_apart 38 (decimal_text k) refl (digits_unreserved (decimal_text k) digits) }, tt)
]

place-address : (slot : Slot) → list_all is_address_byte (row_place slot) ≡ true
place-address Any = refl
place-address (Fixed term) = value-address (explicit_form term)

-- the value of a row is text
row_is_text : (row : Slots) → IsUtf8 (row_text row)
unfolding row_text
row_is_text row =
    let bytes : list_all is_address_byte (row_place row.subject ++ 44 ∷ (row_place row.predicate ++ 44 ∷ row_place row.object)) ≡ true =
    rw (list_all-append is_address_byte (row_place row.subject) (44 ∷ (row_place row.predicate ++ 44 ∷ row_place row.object)), place-address row.subject, list_all-append is_address_byte (row_place row.predicate) (44 ∷ row_place row.object), place-address row.predicate) (place-address row.object) in
    utf8-ascii (row_text row) (list_all-wider is_address_byte is_ascii is_ascii-address (row_text row) bytes)

row_whole : (row : Slots) → IsWhole (codes "row", encoded_value (row_text row))
row_whole row = record { name = unreserved_apart 38 (codes "row") refl refl; equals = unreserved_apart 61 (codes "row") refl refl; value = ampersand_apart (row_text row) (utf8_bytes (row_text row) (row_is_text row)) }

rows_whole : (rows : List Slots) → AllByRecursion IsWhole (rows_written rows)
rows_whole [] = tt
rows_whole (row ∷ rows) = (row_whole row, rows_whole rows)

written_whole : (s : Selection) (k : ℕ) → IsKeptSelection s → list_all is_ascii_digit (decimal_text k) ≡ true → AllByRecursion IsWhole (written s k)
written_whole s k kept digits =
    let last = all_append IsWhole (rows_written s.rows) (page_written k) (rows_whole s.rows) (page_whole k digits) in
    let object = all_append IsWhole (place_written (codes "object") s.slots.object) (rows_written s.rows ++ page_written k) (place_whole (codes "object") s.slots.object refl kept.slots.object) last in
    let predicate = all_append IsWhole (place_written (codes "predicate") s.slots.predicate) (place_written (codes "object") s.slots.object ++ (rows_written s.rows ++ page_written k)) (place_whole (codes "predicate") s.slots.predicate refl kept.slots.predicate) object in
    all_append IsWhole (place_written (codes "subject") s.slots.subject) (place_written (codes "predicate") s.slots.predicate ++ (place_written (codes "object") s.slots.object ++ (rows_written s.rows ++ page_written k))) (place_whole (codes "subject") s.slots.subject refl kept.slots.subject) predicate

query_pairs : (pairs : List (List ℕ × List ℕ)) → AllByRecursion IsWhole pairs → raw_pairs (unwrap_or (behind_mark pairs) []) ≡ pairs
query_pairs [] whole = raw_pairs-nil
query_pairs (pair ∷ pairs) whole = pairs_read pair pairs whole.0 whole.1

-- a name and a value as they are read
abbrev pair_read : List ℕ × List ℕ → List ℕ × List ℕ
pair_read p = (form_text p.0, form_text p.1)

place_decoded : (name : List ℕ) (slot : Slot) → list_all is_unreserved name ≡ true → IsKeptSlot slot → map pair_read (place_written name slot) ≡ place_read name slot
place_decoded name Any own kept = refl
place_decoded name (Fixed term) own kept = λ i. (unreserved_reads name own i, value_reads (explicit_form term) (forms_are_text term kept.valid) i) ∷ []

page_decoded : (k : ℕ) → list_all is_ascii_digit (decimal_text k) ≡ true → map pair_read (page_written k) ≡ page_written k
page_decoded k digits = elim (k == 1) as (λ v. map pair_read (cond v [] ((codes "page", decimal_text k) ∷ [])) ≡ cond v [] ((codes "page", decimal_text k) ∷ [])) [
  | true ↦ refl
  | false ↦ λ i. (unreserved_reads (codes "page") refl i, unreserved_reads (decimal_text k) (digits_unreserved (decimal_text k) digits) i) ∷ []
]

front_decoded : (xs ys zs ws : List (List ℕ × List ℕ)) → map pair_read xs ≡ zs → map pair_read ys ≡ ws → map pair_read (xs ++ ys) ≡ zs ++ ws
front_decoded xs ys zs ws front behind = map-append pair_read xs ys ∙ (λ i. front i ++ behind i)

rows_decoded : (rows : List Slots) → map pair_read (rows_written rows) ≡ rows_read rows
rows_decoded [] = refl
rows_decoded (row ∷ rows) = λ i. (unreserved_reads (codes "row") refl i, value_reads (row_text row) (row_is_text row) i) ∷ rows_decoded rows i

written_decoded : (s : Selection) (k : ℕ) → IsKeptSelection s → list_all is_ascii_digit (decimal_text k) ≡ true → map pair_read (written s k) ≡ read s k
written_decoded s k kept digits =
    front_decoded (place_written (codes "subject") s.slots.subject) _ (place_read (codes "subject") s.slots.subject) _ (place_decoded (codes "subject") s.slots.subject refl kept.slots.subject)
    (front_decoded (place_written (codes "predicate") s.slots.predicate) _ (place_read (codes "predicate") s.slots.predicate) _ (place_decoded (codes "predicate") s.slots.predicate refl kept.slots.predicate)
    (front_decoded (place_written (codes "object") s.slots.object) _ (place_read (codes "object") s.slots.object) _ (place_decoded (codes "object") s.slots.object refl kept.slots.object)
    (front_decoded (rows_written s.rows) _ (rows_read s.rows) _ (rows_decoded s.rows) (page_decoded k digits))))

-- ---- what the pairs ask for

abbrev place_values : Slot → List (List ℕ)
place_values Any = []
place_values (Fixed term) = explicit_form term ∷ []

abbrev page_values : ℕ → List (List ℕ)
page_values k = if k == 1 then [] else decimal_text k ∷ []

values_append : (name : List ℕ) (xs ys : List (List ℕ × List ℕ)) → values_under name (xs ++ ys) ≡ values_under name xs ++ values_under name ys
values_append name xs ys =
    ap (map (λ p. p.1)) (filter-append (λ p. bytes_eq p.0 name) xs ys) ∙ map-append (λ p. p.1) (filter (λ p. bytes_eq p.0 name) xs) (filter (λ p. bytes_eq p.0 name) ys)

values_place : (name own : List ℕ) (slot : Slot) (v : Bool) → bytes_eq own name ≡ v → values_under name (place_read own slot) ≡ (if v then place_values slot else [])
values_place name own Any true is = refl
values_place name own Any false is = refl
values_place name own (Fixed term) true is = ap (λ (b : Bool). map (λ (p : List ℕ × List ℕ). p.1) (cond b ((own, explicit_form term) ∷ []) [])) is
values_place name own (Fixed term) false is = ap (λ (b : Bool). map (λ (p : List ℕ × List ℕ). p.1) (cond b ((own, explicit_form term) ∷ []) [])) is

values_page : (name : List ℕ) (k : ℕ) (v : Bool) → bytes_eq (codes "page") name ≡ v → values_under name (page_written k) ≡ (if v then page_values k else [])
values_page name k true is = elim (k == 1) as (λ one. values_under name (cond one [] ((codes "page", decimal_text k) ∷ [])) ≡ cond one [] (decimal_text k ∷ [])) [
  | true ↦ refl
  | false ↦ ap (λ (b : Bool). map (λ (p : List ℕ × List ℕ). p.1) (cond b ((codes "page", decimal_text k) ∷ []) [])) is
]
values_page name k false is = elim (k == 1) as (λ one. values_under name (cond one [] ((codes "page", decimal_text k) ∷ [])) ≡ []) [
  | true ↦ refl
  | false ↦ ap (λ (b : Bool). map (λ (p : List ℕ × List ℕ). p.1) (cond b ((codes "page", decimal_text k) ∷ []) [])) is
]

values_rows : (name : List ℕ) (rows : List Slots) (v : Bool) → bytes_eq (codes "row") name ≡ v → values_under name (rows_read rows) ≡ (if v then map row_text rows else [])
values_rows name [] true is = refl
values_rows name [] false is = refl
values_rows name (row ∷ rows) true is =
    let more = filter (λ (p : List ℕ × List ℕ). bytes_eq p.0 name) (rows_read rows) in
    ap (λ (b : Bool). map (λ (p : List ℕ × List ℕ). p.1) (cond b ((codes "row", row_text row) ∷ more) more)) is ∙ ap (λ (values : List (List ℕ)). row_text row ∷ values) (values_rows name rows true is)
values_rows name (row ∷ rows) false is =
    let more = filter (λ (p : List ℕ × List ℕ). bytes_eq p.0 name) (rows_read rows) in
    ap (λ (b : Bool). map (λ (p : List ℕ × List ℕ). p.1) (cond b ((codes "row", row_text row) ∷ more) more)) is ∙ values_rows name rows false is

values_places : (name : List ℕ) (slots : Slots) (later : List (List ℕ × List ℕ)) (s p o : Bool) → bytes_eq (codes "subject") name ≡ s → bytes_eq (codes "predicate") name ≡ p → bytes_eq (codes "object") name ≡ o
    → values_under name (places_read slots later) ≡ (if s then place_values slots.subject else []) ++ ((if p then place_values slots.predicate else []) ++ ((if o then place_values slots.object else []) ++ values_under name later))
values_places name slots later s p o is_s is_p is_o =
    values_append name (place_read (codes "subject") slots.subject) (place_read (codes "predicate") slots.predicate ++ (place_read (codes "object") slots.object ++ later))
    ∙ (λ i. values_place name (codes "subject") slots.subject s is_s i ++ (values_append name (place_read (codes "predicate") slots.predicate) (place_read (codes "object") slots.object ++ later)
    ∙ (λ j. values_place name (codes "predicate") slots.predicate p is_p j ++ (values_append name (place_read (codes "object") slots.object) later
    ∙ (λ l. values_place name (codes "object") slots.object o is_o l ++ values_under name later)) j)) i)

values_later : (name : List ℕ) (rows : List Slots) (k : ℕ) (r g : Bool) → bytes_eq (codes "row") name ≡ r → bytes_eq (codes "page") name ≡ g → values_under name (rows_read rows ++ page_written k) ≡ (if r then map row_text rows else []) ++ (if g then page_values k else [])
values_later name rows k r g is_r is_g = values_append name (rows_read rows) (page_written k) ∙ (λ i. values_rows name rows r is_r i ++ values_page name k g is_g i)

one_slot : (slot : Slot) → IsKeptSlot slot → (one_value (place_values slot) >>= (λ value. accepted (slot_of value))) ≡ Some slot
one_slot Any kept = refl
one_slot (Fixed term) kept = ap accepted (reads_back term kept)

slot_read : (name : List ℕ) (slot : Slot) (pairs : List (List ℕ × List ℕ)) → values_under name pairs ≡ place_values slot → IsKeptSlot slot → slot_under name pairs ≡ Some slot
slot_read name slot pairs is kept = ap (λ (values : List (List ℕ)). one_value values >>= (λ value. accepted (slot_of value))) is ∙ one_slot slot kept

passed : (a b : Bool) (n : ℕ) → a ≡ true → b ≡ true → when (a && b) n ≡ Some n
passed true true n one other = refl
passed true false n one other = absurd (cc)
passed false b n one other = absurd (cc)

at_least : (k : ℕ) → 1 ≤ k → nat_le 1 k ≡ true
at_least k low = grind (arith, nat_tests)

number_read : (digits : List ℕ) (k : ℕ) → list_all is_ascii_digit digits ≡ true → 0 < length digits → digits_value 10 digits ≡ k → 1 ≤ k → page_number digits ≡ Some k
number_read [] k all some is low = absurd (omega arith)
number_read (b ∷ digits) k all some is low =
    passed (list_all is_ascii_digit (b ∷ digits)) (nat_le 1 (digits_value 10 (b ∷ digits))) (digits_value 10 (b ∷ digits)) all (ap (nat_le 1) is ∙ at_least k low) ∙ ap Some is

one_page : (k : ℕ) → list_all is_ascii_digit (decimal_text k) ≡ true → 0 < length (decimal_text k) → digits_value 10 (decimal_text k) ≡ k → 1 ≤ k → (one_value (page_values k) >>= page_number) ≡ Some k
one_page k all some is low = by (k == 1) refl
  where
    first : (k : ℕ) → (k == 1) ≡ true → 1 ≡ k
    first k is = grind (arith, nat_tests)

    by : (v : Bool) → (k == 1) ≡ v → (one_value (if v then [] else decimal_text k ∷ []) >>= page_number) ≡ Some k
    by true one = ap Some (first k one)
    by false other = number_read (decimal_text k) k all some is low

-- the rows
few : (rows : List Slots) → length rows ≤ MOST_ROWS → nat_le (length (map row_text rows)) MOST_ROWS ≡ true
few rows most = ap (λ n. nat_le n MOST_ROWS) (length-map rows row_text) ∙ within (length rows) MOST_ROWS most
  where
    within : (n most : ℕ) → n ≤ most → nat_le n most ≡ true
    within n most h = grind (arith, nat_tests)

each_row : (rows : List Slots) → AllByRecursion AreKept rows → rows_of (map row_text rows) ≡ Some rows
each_row [] kept = refl
each_row (row ∷ rows) kept = rw (rows-read row kept.0, each_row rows kept.1) refl

rows_asked : (reads_rows : Bool) (s : Selection) (pairs : List (List ℕ × List ℕ)) → IsKeptSelection s → values_under (codes "row") pairs ≡ map row_text s.rows → rows_under reads_rows pairs ≡ Some ((read_as reads_rows s).rows)
rows_asked false s pairs kept is = refl
rows_asked true s pairs kept is = ap few_rows_of is ∙ ap (λ (passes : Bool). when passes (map row_text s.rows) >>= rows_of) (few s.rows kept.few) ∙ each_row s.rows kept.rows

abbrev pub question_with : Slot → Slot → Slot → List Slots → ℕ → Question
question_with subject predicate object rows page = record { selection = record { slots = record { subject = subject; predicate = predicate; object = object }; rows = rows }; page = page }

asked : (reads_rows : Bool) (pairs : List (List ℕ × List ℕ)) (slots : Slots) (rows : List Slots) (k : ℕ) → slot_under (codes "subject") pairs ≡ Some slots.subject → slot_under (codes "predicate") pairs ≡ Some slots.predicate → slot_under (codes "object") pairs ≡ Some slots.object
    → rows_under reads_rows pairs ≡ Some rows → (one_value (values_under (codes "page") pairs) >>= page_number) ≡ Some k → asked_by reads_rows pairs ≡ Some (record { selection = record { slots = slots; rows = rows }; page = k })
asked reads_rows pairs slots rows k s p o r g =
    parts (slot_under (codes "subject") pairs) (slot_under (codes "predicate") pairs) (slot_under (codes "object") pairs) (rows_under reads_rows pairs) (one_value (values_under (codes "page") pairs) >>= page_number) s p o r g
  where
    parts : (a b c : Option Slot) (l : Option (List Slots)) (d : Option ℕ) → a ≡ Some slots.subject → b ≡ Some slots.predicate → c ≡ Some slots.object → l ≡ Some rows → d ≡ Some k
        → (a >>= (λ subject. b >>= (λ predicate. c >>= (λ object. l >>= (λ rows. d >>= (λ page. Some (question_with subject predicate object rows page))))))) ≡ Some (record { selection = record { slots = slots; rows = rows }; page = k })
    parts a b c l d is_a is_b is_c is_l is_d = rw (is_a, is_b, is_c, is_l, is_d) refl

read_parts : (reads_rows : Bool) (s : Selection) → record { slots = s.slots; rows = (read_as reads_rows s).rows } ≡ read_as reads_rows s
read_parts true s = refl
read_parts false s = refl

read_asks : (reads_rows : Bool) (s : Selection) (k : ℕ) → IsKeptSelection s → list_all is_ascii_digit (decimal_text k) ≡ true → 0 < length (decimal_text k) → digits_value 10 (decimal_text k) ≡ k → 1 ≤ k → asked_by reads_rows (read s k) ≡ Some (record { selection = read_as reads_rows s; page = k })
read_asks reads_rows s k kept all some is low =
    let later = rows_read s.rows ++ page_written k in
    let slots = s.slots in
    let none : (name : List ℕ) → bytes_eq (codes "row") name ≡ false → bytes_eq (codes "page") name ≡ false → values_under name later ≡ [] = λ name row page. values_later name s.rows k false false row page in
    let subject = values_places (codes "subject") slots later true false false refl refl refl ∙ ap (λ (values : List (List ℕ)). place_values slots.subject ++ values) (none (codes "subject") refl refl) ∙ append-nil (place_values slots.subject) in
    let predicate = values_places (codes "predicate") slots later false true false refl refl refl ∙ ap (λ (values : List (List ℕ)). place_values slots.predicate ++ values) (none (codes "predicate") refl refl) ∙ append-nil (place_values slots.predicate) in
    let object = values_places (codes "object") slots later false false true refl refl refl ∙ ap (λ (values : List (List ℕ)). place_values slots.object ++ values) (none (codes "object") refl refl) ∙ append-nil (place_values slots.object) in
    let rows = values_places (codes "row") slots later false false false refl refl refl ∙ values_later (codes "row") s.rows k true false refl refl ∙ append-nil (map row_text s.rows) in
    let page = values_places (codes "page") slots later false false false refl refl refl ∙ values_later (codes "page") s.rows k false true refl refl in
    asked reads_rows (read s k) slots ((read_as reads_rows s).rows) k
    (slot_read (codes "subject") slots.subject (read s k) subject kept.slots.subject)
    (slot_read (codes "predicate") slots.predicate (read s k) predicate kept.slots.predicate)
    (slot_read (codes "object") slots.object (read s k) object kept.slots.object)
    (rows_asked reads_rows s (read s k) kept rows)
    (ap (λ (values : List (List ℕ)). one_value values >>= page_number) page ∙ one_page k all some is low)
    ∙ ap (λ (selection : Selection). Some (record { selection = selection; page = k })) (read_parts reads_rows s)

-- ---- the base

-- an address without a query
pub record IsBase (base : Address) : Type 0 where
  pub text : List ℕ
  pub address : IsAddress text base
  pub no_query : base.query ≡ None

pub base_path : (base : Address) → IsBase base → IsRootedPath base.path
base_path base is = kept_path is.text base is.address

pub path_bytes : (path : List ℕ) → IsRootedPath path → list_all is_path_byte path ≡ true
path_bytes path is = rw is.slash is.bytes

-- the target of a page's address
page_target : (base : Address) (s : Selection) (k : ℕ) (address : Address) → IsBase base → IsAddress (page_address base s k) address → target_of address ≡ base.path ++ (selection_text s ++ page_pair (page_mark (selection_text s)) k)
unfolding address_of_page
page_target base s k address is given =
    let more : List ℕ = selection_text s ++ page_pair (page_mark (selection_text s)) k in
    ap target_of (page_is base address s k (own_text is.text base is.address) given)
    ∙ target-parts (target_of base ++ more)
    ∙ ap (λ (query : Option (List ℕ)). (base.path ++ query_text query) ++ more) is.no_query
    ∙ ap (λ (path : List ℕ). path ++ more) (append-nil base.path)

-- ---- the law

marked_query : (pairs : List (List ℕ × List ℕ)) → marked 63 pairs ≡ query_text (behind_mark pairs)
marked_query [] = refl
marked_query (pair ∷ pairs) = refl

target_asks : (config : Config) (s : Selection) (k : ℕ) → IsBase config.base → IsKeptSelection s → list_all is_ascii_digit (decimal_text k) ≡ true → 0 < length (decimal_text k) → digits_value 10 (decimal_text k) ≡ k → 1 ≤ k
    → AsksFor config (read_as config.rows s) k (config.base.path ++ query_text (behind_mark (written s k)))
unfolding question_of parameters
target_asks config s k is kept digits some number low =
    let base = config.base in
    let parts = parts-target base.path (behind_mark (written s k)) (path_bytes base.path (base_path base is)) in
    record {
      path = parts.0;
      question =
          ap (λ (query : Option (List ℕ)). asked_by config.rows (map pair_read (raw_pairs (unwrap_or query [])))) parts.1
          ∙ ap (λ (pairs : List (List ℕ × List ℕ)). asked_by config.rows (map pair_read pairs)) (query_pairs (written s k) (written_whole s k kept digits))
          ∙ ap (asked_by config.rows) (written_decoded s k kept digits)
          ∙ read_asks config.rows s k kept digits some number low;
    }

is_base : (config : Config) → IsConfig config → IsBase config.base
is_base config is = record { text = address_text config.base; address = is.base; no_query = is.no_query }

pub reads_address_back : ReadsAddress
reads_address_back config s k address valid kept low given =
    let base = config.base in
    let is = is_base config valid in
    let digits = decimal_text-digits k in
    let target = page_target base s k address is given ∙ ap (λ (more : List ℕ). base.path ++ more) (more_marked s k ∙ marked_query (written s k)) in
    subst (AsksFor config (read_as config.rows s) k) (sym target) (target_asks config s k is kept digits (decimal_text-some k) (decimal_text-value k) low)
