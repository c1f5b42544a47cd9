-- What a target asks for is not much longer than the target.
use Rattle.std.proofs.Common.{ℕ, zero, suc, ◌≡◌, ◌+◌, ◌*◌, ◌≤◌, ◌==◌, Bool, true, false, List, [], ◌∷◌, ◌++◌, map, filter, length, take, drop, Option, Some, None, Result, Ok, Err, codes, bytes_eq, if◌then◌else◌, nat_le, refl, ap, sym, subst, ◌∙◌, arith, length-append, length-take, length-drop}
use Rattle.std.specs.List.{position_or_len, slice_split, onto_first as put_first}
use Rattle.std.specs.Option.{option_map, unwrap_or}
use Rattle.std.specs.Str.{is_utf8}
use Rattle.std.specs.Str.Lossy.{utf8_lossy, utf8_lossy_within, utf8_valid_len, utf8_invalid_len, after_first_chunk, replacement_bytes}
use Rattle.std.specs.Char.{digit_value, to_ascii_lowercase}
use Rattle.std.proofs.lemmas.Bool.Decides.{nat_tests}
use Rattle.std.proofs.lemmas.List.{length-map}
use Rattle.form_urlencoded.specs.Form.{split_pair, onto_first, split, is_nonempty, raw_pairs, plus_to_space, decode, ampersand, equals_sign}
use Rattle.percent_encoding.specs.Percent.{is_escape, percent_decode}
use Rattle.list_laws.proofs.Options.{some_same, bind_some, when_some}
use Rattle.list_laws.proofs.Bytes.{same_is}
use Rattle.rdf_terms.specs.Iri.{is_iri}
use Rattle.rdf_terms.specs.Tag.{is_tag, lower}
use Rattle.rdf_terms.specs.Kinds.{typed_kind}
use Rattle.rdf_terms.specs.Datatype.{is_lang_string, is_xsd_string}
use Rattle.rdf_terms.specs.declared.term.Term.{Term}
use Rattle.rdf_terms.specs.declared.term.Term.TheVariants.{Iri, Literal}
use Rattle.rdf_terms.specs.declared.term.Kind.TheVariants.{Plain, Typed, Tagged}
use Rattle.rdf_terms.specs.declared.slots.Slot.{Slot}
use Rattle.rdf_terms.specs.declared.slots.Slot.TheVariants.{Any, Fixed}
use Rattle.rdf_terms.specs.declared.slots.Slots.{Slots}
use Rattle.rdf_terms.specs.declared.limits.TheConstants.{MOST_ROWS}
use Rattle.rdf_terms.specs.Selections.{Selection}
use Rattle.template_fill.specs.declared.limits.TheConstants.{LONGEST_START}
use Rattle.template_fill.specs.Metadata.{Config}
use Rattle.template_fill.specs.ReadAddress.{query_of, when, ◌>>=◌}
use Rattle.template_fill.specs.Rows.{accepted, three_of, places_between, slot_in_row, row_of, rows_of, few_rows_of, row_pair, rows_text}
use Rattle.template_fill.specs.Explicit.{suffix, explicit_form, first_of, cut_last, tagged_literal, typed_literal, marked_literal, suffixed_literal, cut_literal, read_literal, read_iri, fixed, slot_of}
use Rattle.template_fill.specs.declared.fault.ValueFault.{ValueFault}
use Rattle.template_fill.specs.declared.fault.ValueFault.TheVariants as faults
use Rattle.template_fill.specs.Answers.{Question, form_text, parameters, values_under, one_value, slot_under, page_number, rows_under, asked_by, question_of, AsksFor}
use Rattle.plan_laws.proofs.Lengths.{IsShortSlot, IsShort, places_short, row_short, selection_long}

-- ---- texts

lossy_short : (k : ℕ) (bytes : List ℕ) → length (utf8_lossy_within k bytes) ≤ length bytes + 3 * k
lossy_short zero bytes = omega arith
lossy_short (suc k) bytes = by (utf8_valid_len bytes == length bytes) (lossy_short k (after_first_chunk bytes))
  where
    by : (t : Bool) → length (utf8_lossy_within k (after_first_chunk bytes)) ≤ length (after_first_chunk bytes) + 3 * k
        → length (if t then bytes else take (utf8_valid_len bytes) bytes ++ (replacement_bytes ++ utf8_lossy_within k (after_first_chunk bytes))) ≤ length bytes + 3 * suc k
    by true h = omega arith
    by false h =
        omega (
          arith,
          h,
          length-append (take (utf8_valid_len bytes) bytes) (replacement_bytes ++ utf8_lossy_within k (after_first_chunk bytes)),
          length-take (utf8_valid_len bytes) bytes,
          length-drop (utf8_valid_len bytes + utf8_invalid_len (drop (utf8_valid_len bytes) bytes)) bytes,
        )

text_short : (bytes : List ℕ) → length (utf8_lossy bytes) ≤ 4 * length bytes
unfolding utf8_lossy
text_short bytes = omega (arith, lossy_short (length bytes) bytes)

percent_short : (bytes : List ℕ) → length (percent_decode bytes) ≤ length bytes
unfolding percent_decode
percent_short [] = omega arith
percent_short (b ∷ []) = omega arith
percent_short (b ∷ c ∷ []) = omega arith
percent_short (b ∷ high ∷ low ∷ rest) = by (is_escape b high low) (percent_short rest) (percent_short (high ∷ low ∷ rest))
  where
    by : (t : Bool) → length (percent_decode rest) ≤ length rest → length (percent_decode (high ∷ low ∷ rest)) ≤ length (high ∷ low ∷ rest) → length (if t then (16 * digit_value high + digit_value low) ∷ percent_decode rest else b ∷ percent_decode (high ∷ low ∷ rest)) ≤ length (b ∷ high ∷ low ∷ rest)
    by true h k = omega (arith, h)
    by false h k = omega (arith, k)

form_short : (bytes : List ℕ) → length (form_text bytes) ≤ 4 * length bytes
form_short bytes = omega (arith, text_short (decode bytes), percent_short (map plus_to_space bytes), length-map bytes plus_to_space)

query_short : (target : List ℕ) → length (unwrap_or (query_of target) []) ≤ length target
query_short [] = omega arith
query_short (b ∷ rest) = by (b == 63) (query_short rest)
  where
    by : (t : Bool) → length (unwrap_or (query_of rest) []) ≤ length rest → length (unwrap_or (if t then Some rest else query_of rest) []) ≤ length (b ∷ rest)
    by true h = omega arith
    by false h = omega (arith, h)

-- ---- pieces

-- how many bytes some texts have together
abbrev together : List (List ℕ) → ℕ
together [] = 0
together (text ∷ texts) = length text + together texts

onto_sum : (b : ℕ) (pieces : List (List ℕ)) → together (onto_first b pieces) ≤ suc (together pieces)
onto_sum b [] = omega arith
onto_sum b (piece ∷ pieces) = omega arith

split_sum : (bytes : List ℕ) → together (split ampersand bytes) ≤ length bytes
unfolding split
split_sum [] = omega arith
split_sum (b ∷ bytes) = by (b == ampersand) (split_sum bytes)
  where
    by : (t : Bool) → together (split ampersand bytes) ≤ length bytes → together (if t then [] ∷ split ampersand bytes else onto_first b (split ampersand bytes)) ≤ suc (length bytes)
    by true h = omega (arith, h)
    by false h = omega (arith, h, onto_sum b (split ampersand bytes))

-- how many bytes the values have together
abbrev values_of : List (List ℕ × List ℕ) → ℕ
values_of [] = 0
values_of (p ∷ pairs) = length p.1 + values_of pairs

value_short : (piece : List ℕ) → length (form_text (split_pair piece).1) ≤ 4 * length piece
value_short piece = omega (arith, form_short (split_pair piece).1, length-drop (position_or_len (λ b. b == equals_sign) piece + 1) piece)

pairs_sum : (pieces : List (List ℕ)) → values_of (map (λ p. (form_text p.0, form_text p.1)) (map split_pair (filter is_nonempty pieces))) ≤ 4 * together pieces
pairs_sum [] = omega arith
pairs_sum (piece ∷ pieces) = by (is_nonempty piece) (pairs_sum pieces)
  where
    by : (t : Bool) → values_of (map (λ p. (form_text p.0, form_text p.1)) (map split_pair (filter is_nonempty pieces))) ≤ 4 * together pieces
        → values_of (map (λ p. (form_text p.0, form_text p.1)) (map split_pair (if t then piece ∷ filter is_nonempty pieces else filter is_nonempty pieces))) ≤ 4 * (length piece + together pieces)
    by true k = omega (arith, k, value_short piece)
    by false k = omega (arith, k)

parameters_sum : (target : List ℕ) → values_of (parameters target) ≤ 4 * length target
unfolding parameters raw_pairs
parameters_sum target =
    let query = unwrap_or (query_of target) [] in
    omega (arith, pairs_sum (split ampersand query), split_sum query, query_short target)

-- ---- literals

abbrev IsCut : ℕ → Option (List ℕ × List ℕ) → Type 0
IsCut n None = Unit {0}
IsCut n (Some p) = length p.0 + 1 + length p.1 ≡ n

cut_sized : (x : ℕ) (bytes : List ℕ) → IsCut (length bytes) (cut_last x bytes)
cut_sized x [] = tt
cut_sized x (b ∷ bytes) = by (cut_last x bytes) (cut_sized x bytes) (b == x)
  where
    by : (o : Option (List ℕ × List ℕ)) → IsCut (length bytes) o → (t : Bool) → IsCut (suc (length bytes)) (first_of (option_map (λ (p : List ℕ × List ℕ). (b ∷ p.0, p.1)) o) (if t then Some ([], bytes) else None))
    by (Some p) h t = omega (arith, h)
    by None h true = omega arith
    by None h false = tt

abbrev IsShortRead : ℕ → Result Term ValueFault → Type 0
IsShortRead most (Ok term) = length (explicit_form term) ≤ most
IsShortRead most (Err fault) = Unit {0}

tagged_short : (most : ℕ) (form tag : List ℕ) → length form + (3 + length tag) ≤ most → IsShortRead most (tagged_literal form tag)
tagged_short most form tag h = by (is_tag tag)
  where
    by : (t : Bool) → IsShortRead most (if t then Ok (Literal form (Tagged (lower tag))) else Err faults.Suffix)
    by true = omega (arith, h, length-append form (34 ∷ 64 ∷ lower tag), length-map tag to_ascii_lowercase)
    by false = tt

kind_short : (iri : List ℕ) → length (suffix (typed_kind iri)) ≤ 2 + length iri
kind_short iri = by (is_xsd_string iri)
  where
    by : (t : Bool) → length (suffix (if t then Plain else Typed iri)) ≤ 2 + length iri
    by true = omega arith
    by false = omega arith

typed_short : (most : ℕ) (form iri : List ℕ) → length form + (4 + length iri) ≤ most → IsShortRead most (typed_literal form iri)
typed_short most form iri h = by (is_lang_string iri) (is_iri iri)
  where
    by : (t u : Bool) → IsShortRead most (if t then Err faults.LangString else (if u then Ok (Literal form (typed_kind iri)) else Err faults.Suffix))
    by true u = tt
    by false true = omega (arith, h, kind_short iri, length-append form (34 ∷ suffix (typed_kind iri)))
    by false false = tt

marked_short : (most : ℕ) (form rest : List ℕ) → length form + (3 + length rest) ≤ most → IsShortRead most (marked_literal form rest)
marked_short most form [] h = tt
marked_short most form (b ∷ iri) h = by (b == 94)
  where
    by : (t : Bool) → IsShortRead most (if t then typed_literal form iri else Err faults.Suffix)
    by true = typed_short most form iri (omega (arith, h))
    by false = tt

suffixed_short : (most : ℕ) (form after : List ℕ) → length form + (2 + length after) ≤ most → IsShortRead most (suffixed_literal form after)
suffixed_short most form [] h = omega (arith, h, length-append form (34 ∷ []))
suffixed_short most form (b ∷ rest) h = by (b == 64) (b == 94)
  where
    by : (t u : Bool) → IsShortRead most (if t then tagged_literal form rest else (if u then marked_literal form rest else Err faults.Suffix))
    by true u = tagged_short most form rest (omega (arith, h))
    by false true = marked_short most form rest (omega (arith, h))
    by false false = tt

cut_short : (n : ℕ) (o : Option (List ℕ × List ℕ)) → IsCut n o → IsShortRead (suc n) (cut_literal o)
cut_short n None h = tt
cut_short n (Some p) h = suffixed_short (suc n) p.0 p.1 (omega (arith, h))

literal_short : (text : List ℕ) → IsShortRead (suc (length text)) (read_literal text)
unfolding read_literal
literal_short text = cut_short (length text) (cut_last 34 text) (cut_sized 34 text)

iri_short : (text : List ℕ) → IsShortRead (length text) (read_iri text)
iri_short text = by (is_iri text)
  where
    by : (t : Bool) → IsShortRead (length text) (if t then Ok (Iri text) else Err faults.Iri)
    by true = omega arith
    by false = tt

-- ---- slots

abbrev IsShortResult : ℕ → Result Slot ValueFault → Type 0
IsShortResult most (Ok slot) = IsShortSlot most slot
IsShortResult most (Err fault) = Unit {0}

fixed_short : (most : ℕ) (r : Result Term ValueFault) → IsShortRead most r → IsShortResult most (fixed r)
fixed_short most (Ok term) h = h
fixed_short most (Err fault) h = tt

slot_short : (text : List ℕ) → IsShortResult (length text) (slot_of text)
slot_short [] = tt
slot_short (b ∷ rest) = by (b == 63) (b == 34)
  where
    by : (t u : Bool) → IsShortResult (suc (length rest)) (if t then Ok Any else (if u then fixed (read_literal rest) else fixed (read_iri (b ∷ rest))))
    by true u = tt
    by false true = fixed_short (suc (length rest)) (read_literal rest) (literal_short rest)
    by false false = fixed_short (suc (length rest)) (read_iri (b ∷ rest)) (iri_short (b ∷ rest))

accepted_short : (most : ℕ) (r : Result Slot ValueFault) (slot : Slot) → IsShortResult most r → accepted r ≡ Some slot → IsShortSlot most slot
accepted_short most (Ok s) slot h e = let same : s ≡ slot = cc in subst (IsShortSlot most) same h
accepted_short most (Err fault) slot h e = absurd (cc)

-- ---- places

-- how many bytes the values under a name have together
abbrev under : List ℕ → List (List ℕ × List ℕ) → ℕ
under name pairs = together (values_under name pairs)

one_sum : (values : List (List ℕ)) (value : List ℕ) → one_value values ≡ Some value → length value ≤ together values
one_sum [] value e = let same : [] ≡ value = cc in subst (λ (v : List ℕ). length v ≤ 0) same (omega arith)
one_sum (x ∷ []) value e = let same : x ≡ value = cc in subst (λ (v : List ℕ). length v ≤ together (x ∷ [])) same (omega arith)
one_sum (x ∷ y ∷ more) value e = absurd (cc)

wider : (few most : ℕ) (slot : Slot) → few ≤ most → IsShortSlot few slot → IsShortSlot most slot
wider few most Any le h = tt
wider few most (Fixed term) le h = omega (arith, h, le)

place_short : (name : List ℕ) (pairs : List (List ℕ × List ℕ)) (slot : Slot) → slot_under name pairs ≡ Some slot → IsShortSlot (under name pairs) slot
place_short name pairs slot e =
    let found = bind_some (one_value (values_under name pairs)) (λ value. accepted (slot_of value)) slot e in
    wider (length found.0) (under name pairs) slot (one_sum (values_under name pairs) found.0 found.1) (accepted_short (length found.0) (slot_of found.0) slot (slot_short found.0) found.2)

-- no value stands under two of the names
apart : (key a b : List ℕ) → bytes_eq a b ≡ false → bytes_eq key a ≡ true → bytes_eq key b ≡ false
apart key a b e same = subst (λ (k : List ℕ). bytes_eq k b ≡ false) (sym (same_is key a same)) e

abbrev subject_name : List ℕ
subject_name = codes "subject"

abbrev predicate_name : List ℕ
predicate_name = codes "predicate"

abbrev object_name : List ℕ
object_name = codes "object"

abbrev row_name : List ℕ
row_name = codes "row"

under_step : (name : List ℕ) (p : List ℕ × List ℕ) (pairs : List (List ℕ × List ℕ)) (b : Bool) → bytes_eq p.0 name ≡ b → under name (p ∷ pairs) ≡ (if b then length p.1 else 0) + under name pairs
under_step name p pairs true e =
    ap (λ (b : Bool). together (map (λ (q : List ℕ × List ℕ). q.1) (if b then p ∷ filter (λ (q : List ℕ × List ℕ). bytes_eq q.0 name) pairs else filter (λ (q : List ℕ × List ℕ). bytes_eq q.0 name) pairs))) e
under_step name p pairs false e =
    ap (λ (b : Bool). together (map (λ (q : List ℕ × List ℕ). q.1) (if b then p ∷ filter (λ (q : List ℕ × List ℕ). bytes_eq q.0 name) pairs else filter (λ (q : List ℕ × List ℕ). bytes_eq q.0 name) pairs))) e
    ∙ omega arith

-- at most one of four tests
abbrev once : ℕ → Bool → ℕ
once n b = if b then n else 0

four_names : (p : List ℕ × List ℕ) (s q o r : Bool) → bytes_eq p.0 subject_name ≡ s → bytes_eq p.0 predicate_name ≡ q → bytes_eq p.0 object_name ≡ o → bytes_eq p.0 row_name ≡ r
    → once (length p.1) s + (once (length p.1) q + (once (length p.1) o + once (length p.1) r)) ≤ length p.1
four_names p false false false false es eq eo er = omega arith
four_names p false false false true es eq eo er = omega arith
four_names p false false true false es eq eo er = omega arith
four_names p false false true true es eq eo er = let other = apart p.0 object_name row_name refl eo in absurd (cc)
four_names p false true false false es eq eo er = omega arith
four_names p false true false true es eq eo er = let other = apart p.0 predicate_name row_name refl eq in absurd (cc)
four_names p false true true r es eq eo er = let other = apart p.0 predicate_name object_name refl eq in absurd (cc)
four_names p true false false false es eq eo er = omega arith
four_names p true false false true es eq eo er = let other = apart p.0 subject_name row_name refl es in absurd (cc)
four_names p true false true r es eq eo er = let other = apart p.0 subject_name object_name refl es in absurd (cc)
four_names p true true o r es eq eo er = let other = apart p.0 subject_name predicate_name refl es in absurd (cc)

all_under : (pairs : List (List ℕ × List ℕ)) → under subject_name pairs + (under predicate_name pairs + (under object_name pairs + under row_name pairs)) ≤ values_of pairs
all_under [] = omega arith
all_under (p ∷ pairs) =
    let s = bytes_eq p.0 subject_name in
    let q = bytes_eq p.0 predicate_name in
    let o = bytes_eq p.0 object_name in
    let r = bytes_eq p.0 row_name in
    omega (
      arith,
      all_under pairs,
      four_names p s q o r refl refl refl refl,
      under_step subject_name p pairs s refl,
      under_step predicate_name p pairs q refl,
      under_step object_name p pairs o refl,
      under_step row_name p pairs r refl,
    )

-- ---- rows

slices_sum : (bytes : List ℕ) → together (slice_split (λ b. b == 44) bytes) ≤ length bytes
slices_sum [] = omega arith
slices_sum (b ∷ bytes) = by (b == 44) (slices_sum bytes)
  where
    put_sum : (pieces : List (List ℕ)) → together (put_first b pieces) ≤ suc (together pieces)
    put_sum [] = omega arith
    put_sum (piece ∷ pieces) = omega arith

    by : (t : Bool) → together (slice_split (λ c. c == 44) bytes) ≤ length bytes → together (if t then [] ∷ slice_split (λ c. c == 44) bytes else put_first b (slice_split (λ c. c == 44) bytes)) ≤ suc (length bytes)
    by true h = omega (arith, h)
    by false h = omega (arith, h, put_sum (slice_split (λ c. c == 44) bytes))

abbrev Three : Type 0
Three = List ℕ × List ℕ × List ℕ

three_sum : (parts : List (List ℕ)) (t : Three) → three_of parts ≡ Some t → length t.0 + (length t.1 + length t.2) ≤ together parts
three_sum [] t e = absurd (cc)
three_sum (s ∷ []) t e = absurd (cc)
three_sum (s ∷ p ∷ []) t e = absurd (cc)
three_sum (s ∷ p ∷ o ∷ []) t e =
    let same : ◌≡◌ {A = Three} (s, p, o) t = some_same e in
    subst (λ (u : Three). length u.0 + (length u.1 + length u.2) ≤ together (s ∷ p ∷ o ∷ [])) same (omega arith)
three_sum (s ∷ p ∷ o ∷ more ∷ rest) t e = absurd (cc)

in_row_short : (text : List ℕ) (slot : Slot) → slot_in_row text ≡ Some slot → IsShortSlot (length text) slot
in_row_short text slot e =
    let decoded = percent_decode text in
    let found = bind_some (when (is_utf8 decoded) decoded) (λ form. accepted (slot_of form)) slot e in
    let read = when_some (is_utf8 decoded) decoded found.0 found.1 in
    wider (length found.0) (length text) slot (omega (arith, percent_short text, ap length read.1)) (accepted_short (length found.0) (slot_of found.0) slot (slot_short found.0) found.2)

abbrev row_with : Slot → Slot → Slot → Slots
row_with s p o = record { subject = s; predicate = p; object = o }

row_of_short : (text : List ℕ) (r : Slots) → row_of text ≡ Some r → length (row_pair 38 r) ≤ 11 + 9 * length text
unfolding row_of
row_of_short text r e =
    let t = bind_some (places_between text) (λ places. slot_in_row places.0 >>= (λ s. slot_in_row places.1 >>= (λ p. slot_in_row places.2 >>= (λ o. Some (row_with s p o))))) r e in
    let s = bind_some (slot_in_row t.0.0) (λ s. slot_in_row t.0.1 >>= (λ p. slot_in_row t.0.2 >>= (λ o. Some (row_with s p o)))) r t.2 in
    let p = bind_some (slot_in_row t.0.1) (λ p. slot_in_row t.0.2 >>= (λ o. Some (row_with s.0 p o))) r s.2 in
    let o = bind_some (slot_in_row t.0.2) (λ o. Some (row_with s.0 p.0 o)) r p.2 in
    let same : row_with s.0 p.0 o.0 ≡ r = some_same {x = row_with s.0 p.0 o.0} {y = r} o.2 in
    let short = row_short 38 (row_with s.0 p.0 o.0) (length t.0.0) (length t.0.1) (length t.0.2) (in_row_short t.0.0 s.0 s.1) (in_row_short t.0.1 p.0 p.1) (in_row_short t.0.2 o.0 o.1) in
    subst (λ (x : Slots). length (row_pair 38 x) ≤ 11 + 9 * length text) same (omega (arith, short, three_sum (slice_split (λ b. b == 44) text) t.0 t.1, slices_sum text))

rows_of_short : (texts : List (List ℕ)) (rows : List Slots) → rows_of texts ≡ Some rows → length (rows_text 38 rows) ≤ 11 * length texts + 9 * together texts
rows_of_short [] rows e = let same : [] ≡ rows = some_same e in subst (λ (l : List Slots). length (rows_text 38 l) ≤ 0) same (omega arith)
rows_of_short (text ∷ texts) rows e =
    let first = bind_some (row_of text) (λ r. rows_of texts >>= (λ more. Some (r ∷ more))) rows e in
    let others = bind_some (rows_of texts) (λ more. Some (first.0 ∷ more)) rows first.2 in
    let same : first.0 ∷ others.0 ≡ rows = some_same {x = first.0 ∷ others.0} {y = rows} others.2 in
    subst (λ (l : List Slots). length (rows_text 38 l) ≤ 11 * length (text ∷ texts) + 9 * together (text ∷ texts)) same
    (omega (arith, row_of_short text first.0 first.1, rows_of_short texts others.0 others.1, length-append (row_pair 38 first.0) (rows_text 38 others.0)))

few_short : (texts : List (List ℕ)) (rows : List Slots) → few_rows_of texts ≡ Some rows → length (rows_text 38 rows) ≤ 704 + 9 * together texts
few_short texts rows e =
    let found = bind_some (when (nat_le (length texts) MOST_ROWS) texts) rows_of rows e in
    let few = when_some (nat_le (length texts) MOST_ROWS) texts found.0 found.1 in
    let most : length texts ≤ 64 = grind (arith, nat_tests, few.0) in
    omega (arith, most, rows_of_short texts rows (ap rows_of few.1 ∙ found.2))

rows_short : (reads : Bool) (pairs : List (List ℕ × List ℕ)) (rows : List Slots) → rows_under reads pairs ≡ Some rows → length (rows_text 38 rows) ≤ 704 + 9 * under row_name pairs
rows_short false pairs rows e = let same : [] ≡ rows = some_same e in subst (λ (l : List Slots). length (rows_text 38 l) ≤ 704 + 9 * under row_name pairs) same (omega arith)
rows_short true pairs rows e = few_short (values_under (codes "row") pairs) rows e

-- ---- what is asked for

abbrev question_with : Slot → Slot → Slot → List Slots → ℕ → Question
question_with s p o rows page = record { selection = record { slots = record { subject = s; predicate = p; object = o }; rows = rows }; page = page }

selection_short : (pairs : List (List ℕ × List ℕ)) (s : Selection) → values_of pairs ≤ 4 * LONGEST_START → IsShortSlot (under subject_name pairs) s.slots.subject → IsShortSlot (under predicate_name pairs) s.slots.predicate → IsShortSlot (under object_name pairs) s.slots.object
    → length (rows_text 38 s.rows) ≤ 704 + 9 * under row_name pairs → IsShort s
selection_short pairs s few hs hp ho hr = record {
  short = omega (arith, few, hr, all_under pairs, selection_long s, places_short s.slots (under subject_name pairs) (under predicate_name pairs) (under object_name pairs) hs hp ho);
}

asked_short : (reads : Bool) (pairs : List (List ℕ × List ℕ)) (question : Question) → values_of pairs ≤ 4 * LONGEST_START → asked_by reads pairs ≡ Some question → IsShort question.selection
asked_short reads pairs question few is =
    let pages : Option ℕ = one_value (values_under (codes "page") pairs) >>= page_number in
    let s = bind_some (slot_under (codes "subject") pairs) (λ s. slot_under (codes "predicate") pairs >>= (λ p. slot_under (codes "object") pairs >>= (λ o. rows_under reads pairs >>= (λ rows. pages >>= (λ page. Some (question_with s p o rows page)))))) question is in
    let p = bind_some (slot_under (codes "predicate") pairs) (λ p. slot_under (codes "object") pairs >>= (λ o. rows_under reads pairs >>= (λ rows. pages >>= (λ page. Some (question_with s.0 p o rows page))))) question s.2 in
    let o = bind_some (slot_under (codes "object") pairs) (λ o. rows_under reads pairs >>= (λ rows. pages >>= (λ page. Some (question_with s.0 p.0 o rows page)))) question p.2 in
    let r = bind_some (rows_under reads pairs) (λ rows. pages >>= (λ page. Some (question_with s.0 p.0 o.0 rows page))) question o.2 in
    let n = bind_some pages (λ page. Some (question_with s.0 p.0 o.0 r.0 page)) question r.2 in
    let q = question_with s.0 p.0 o.0 r.0 n.0 in
    let same : q ≡ question = some_same {x = question_with s.0 p.0 o.0 r.0 n.0} {y = question} n.2 in
    subst (λ (x : Question). IsShort x.selection) same
    (selection_short pairs q.selection few (place_short subject_name pairs s.0 s.1) (place_short predicate_name pairs p.0 p.1) (place_short object_name pairs o.0 o.1) (rows_short reads pairs r.0 r.1))

question_short : (reads : Bool) (target : List ℕ) (question : Question) → length target ≤ LONGEST_START → question_of reads target ≡ Some question → IsShort question.selection
unfolding question_of
question_short reads target question few is = asked_short reads (parameters target) question (omega (arith, few, parameters_sum target)) is

-- what a target of at most LONGEST_START bytes asks for is no longer than a plan's selections are
pub target_short : (config : Config) (s : Selection) (k : ℕ) (target : List ℕ) → length target ≤ LONGEST_START → AsksFor config s k target → IsShort s
target_short config s k target few asks = question_short config.rows target (record { selection = s; page = k }) few asks.question
