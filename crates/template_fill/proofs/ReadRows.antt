-- The row that a text is; and that the value of a row is read as that row.
use Rattle.std.proofs.Common.{◌≡◌, ◌≢◌, ℕ, ◌==◌, List, [], ◌∷◌, ◌++◌, Bool, true, false, Option, Some, None, Ok, refl, sym, ap, ◌∙◌, subst, arith, All}
use Rattle.std.specs.Str.{IsUtf8, is_utf8}
use Rattle.std.specs.List.{slice_split}
use Rattle.std.proofs.lemmas.Bool.Decides.{nat_tests}
use Rattle.std.proofs.lemmas.Str.{is_utf8-from_IsUtf8, IsUtf8-from_is_utf8, IsUtf8-nil}
use Rattle.std.proofs.lemmas.List.Elements.{All-nil}
use Rattle.std.proofs.lemmas.List.Splits.{slice_split_none, slice_split_at}
use Rattle.std.proofs.lemmas.Bool.{false≢true}
use Rattle.percent_encoding.specs.Percent.{percent_decode}
use Rattle.percent_encoding.specs.AsciiSet.{should_percent_encode}
use Rattle.percent_encoding.proofs.PercentLemmas.{IsByte, All-percent_encode, round_trip}
use Rattle.rdf_terms.specs.declared.slots.Slot.{Slot}
use Rattle.rdf_terms.specs.declared.slots.Slot.TheVariants.{Any, Fixed}
use Rattle.rdf_terms.specs.declared.slots.Slots.{Slots}
use Rattle.rdf_terms.specs.Kept.{IsKeptSlot}
use Rattle.template_fill.specs.Explicit.{explicit_form, slot_of}
use Rattle.template_fill.specs.ReadAddress.{◌>>=◌}
use Rattle.template_fill.specs.Values.{encoded_value}
use Rattle.template_fill.specs.declared.value.TheConstants.{VALUE}
use Rattle.template_fill.proofs.Quotes.{reads_back, forms_are_text}
use Rattle.template_fill.proofs.Values.{same_text}
use Rattle.template_fill.proofs.Written.{utf8_bytes}
use Rattle.template_fill.proofs.Sections.{sections-cut}
use Rattle.template_fill.specs.Templates.{before, after, sections_after}
use Rattle.template_fill.specs.Rows.{row_place, row_text, accepted, slot_in_row, slots_in_row, three_of, places_between, row_of, ReadsRows}

no_comma : (b : ℕ) → b ≢ 44 → (b == 44) ≡ false
no_comma b h = grind (arith, nat_tests)

value_apart : (text : List ℕ) → All IsByte text → All (λ b. (b == 44) ≡ false) (encoded_value text)
unfolding should_percent_encode
value_apart text small =
    subst (All (λ b. (b == 44) ≡ false)) (same_text text small)
    (All-percent_encode (λ b. (b == 44) ≡ false) VALUE text (λ b is. no_comma b (λ same. false≢true (sym is ∙ ap (should_percent_encode VALUE) same))) (λ b digit. grind (arith, nat_tests)))

place_apart : (slot : Slot) → IsKeptSlot slot → All (λ b. (b == 44) ≡ false) (row_place slot)
place_apart Any kept = All-nil (λ b. (b == 44) ≡ false)
place_apart (Fixed term) kept = value_apart (explicit_form term) (utf8_bytes (explicit_form term) (forms_are_text term kept.valid))

decoded : (text : List ℕ) → IsUtf8 text → percent_decode (encoded_value text) ≡ text
unfolding should_percent_encode
decoded text is = let small = utf8_bytes text is in ap percent_decode (sym (same_text text small)) ∙ round_trip VALUE text refl small

read-text : (text decoded : List ℕ) → percent_decode text ≡ decoded → is_utf8 decoded ≡ true → slot_in_row text ≡ accepted (slot_of decoded)
read-text text form same is = rw (same, is) refl

place_reads : (slot : Slot) → IsKeptSlot slot → slot_in_row (row_place slot) ≡ Some slot
unfolding percent_decode
place_reads Any kept = read-text [] [] refl (is_utf8-from_IsUtf8 [] IsUtf8-nil)
place_reads (Fixed term) kept =
    let text = forms_are_text term kept.valid in
    read-text (encoded_value (explicit_form term)) (explicit_form term) (decoded (explicit_form term) text) (is_utf8-from_IsUtf8 (explicit_form term) text) ∙ ap accepted (reads_back term kept)

three_parts : (a b c : List ℕ) → All (λ x. (x == 44) ≡ false) a → All (λ x. (x == 44) ≡ false) b → All (λ x. (x == 44) ≡ false) c → slice_split (λ x. x == 44) (a ++ 44 ∷ (b ++ 44 ∷ c)) ≡ a ∷ b ∷ c ∷ []
three_parts a b c one two three =
    slice_split_at (λ x. x == 44) a 44 (b ++ 44 ∷ c) one refl
    ∙ ap (λ (l : List (List ℕ)). a ∷ l) (slice_split_at (λ x. x == 44) b 44 c two refl ∙ ap (λ (l : List (List ℕ)). b ∷ l) (slice_split_none (λ x. x == 44) c three))

three_slots : (text a b c : List ℕ) (s p o : Slot) → places_between text ≡ Some (a, b, c) → slot_in_row a ≡ Some s → slot_in_row b ≡ Some p → slot_in_row c ≡ Some o → row_of text ≡ Some (record { subject = s; predicate = p; object = o })
unfolding row_of
three_slots text a b c s p o parts one two three = rw (parts, one, two, three) refl

pub rows-read : ReadsRows
unfolding row_text
rows-read row kept =
    three_slots (row_text row) (row_place row.subject) (row_place row.predicate) (row_place row.object) row.subject row.predicate row.object
    (ap three_of (three_parts (row_place row.subject) (row_place row.predicate) (row_place row.object) (place_apart row.subject kept.subject) (place_apart row.predicate kept.predicate) (place_apart row.object kept.object)))
    (place_reads row.subject kept.subject) (place_reads row.predicate kept.predicate) (place_reads row.object kept.object)

-- ---- texts that are read

cut-on : (text rest : List ℕ) → Some rest ≡ after 44 text → slice_split (λ b. b == 44) text ≡ before 44 text ∷ slice_split (λ b. b == 44) rest
cut-on text rest is = sections-cut 44 text ∙ ap (λ (more : Option (List ℕ)). before 44 text ∷ sections_after 44 more) (sym is)

cut-last : (text : List ℕ) → None ≡ after 44 text → slice_split (λ b. b == 44) text ≡ before 44 text ∷ []
cut-last text is = sections-cut 44 text ∙ ap (λ (more : Option (List ℕ)). before 44 text ∷ sections_after 44 more) (sym is)

pub one_place : (text : List ℕ) → None ≡ after 44 text → places_between text ≡ None
one_place text end = rw (cut-last text end) refl

pub two_places : (text rest : List ℕ) → Some rest ≡ after 44 text → None ≡ after 44 rest → places_between text ≡ None
two_places text rest more end = rw (cut-on text rest more, cut-last rest end) refl

pub three_places : (text rest last s p o : List ℕ) → Some rest ≡ after 44 text → Some last ≡ after 44 rest → None ≡ after 44 last → s ≡ before 44 text → p ≡ before 44 rest → o ≡ before 44 last → places_between text ≡ Some (s, p, o)
three_places text rest last s p o more later end es ep eo = rw (cut-on text rest more, cut-on rest last later, cut-last last end, es, ep, eo) refl

pub more_places : (text rest last other : List ℕ) → Some rest ≡ after 44 text → Some last ≡ after 44 rest → Some other ≡ after 44 last → places_between text ≡ None
more_places text rest last other more later again = rw (cut-on text rest more, cut-on rest last later, cut-on last other again, sections-cut 44 other) refl

-- ---- slots that are read

not_text : (bytes : List ℕ) → (IsUtf8 bytes → ⊥) → is_utf8 bytes ≡ false
not_text bytes none = by (is_utf8 bytes) refl
  where
    by : (v : Bool) → is_utf8 bytes ≡ v → v ≡ false
    by true is = absurd (none (IsUtf8-from_is_utf8 bytes is))
    by false is = refl

pub no_slot : (text decoded : List ℕ) → decoded ≡ percent_decode text → (IsUtf8 decoded → ⊥) → None ≡ slot_in_row text
no_slot text decoded same none = rw (← same, not_text decoded none) refl

pub some_slot : (text decoded form : List ℕ) (slot : Slot) → decoded ≡ percent_decode text → form ≡ decoded → IsUtf8 decoded → slot_of form ≡ Ok slot → Some slot ≡ slot_in_row text
some_slot text decoded form slot same is utf8 given =
    sym (read-text text form (sym same ∙ sym is) (is_utf8-from_IsUtf8 form (subst IsUtf8 (sym is) utf8)) ∙ ap accepted given)

-- ---- the first two places

pub no_first : (s p : List ℕ) (subject : Option Slot) → subject ≡ slot_in_row s → subject ≡ None → None ≡ slots_in_row s p
no_first s p subject is none = rw (← is, none) refl

pub no_second : (s p : List ℕ) (subject predicate : Option Slot) (one : Slot) → subject ≡ slot_in_row s → subject ≡ Some one → predicate ≡ slot_in_row p → predicate ≡ None → None ≡ slots_in_row s p
no_second s p subject predicate one is some own none = rw (← is, some, ← own, none) refl

pub both : (s p : List ℕ) (subject predicate : Option Slot) (one two : Slot) → subject ≡ slot_in_row s → subject ≡ Some one → predicate ≡ slot_in_row p → predicate ≡ Some two → Some (one, two) ≡ slots_in_row s p
both s p subject predicate one two is some own given = rw (← is, some, ← own, given) refl

-- ---- rows that are read

pub no_places : (text bytes : List ℕ) → bytes ≡ text → places_between bytes ≡ None → None ≡ row_of text
unfolding row_of
no_places text bytes same none = rw (← same, none) refl

abbrev with_object : List ℕ → Slot × Slot → Option Slots
with_object o pair = slot_in_row o >>= (λ c. Some (record { subject = pair.0; predicate = pair.1; object = c }))

abbrev with_object_found : Slot → Slot → Option Slot → Option Slots
with_object_found one two object = object >>= (λ c. Some (record { subject = one; predicate = two; object = c }))

joined : (a b : Option Slot) (f : Slot × Slot → Option Slots) → ((a >>= (λ x. b >>= (λ y. Some (x, y)))) >>= f) ≡ (a >>= (λ x. b >>= (λ y. f (x, y))))
joined None b f = refl
joined (Some x) None f = refl
joined (Some x) (Some y) f = refl

by_pair : (text bytes s p o : List ℕ) (pair : Option (Slot × Slot)) → bytes ≡ text → places_between bytes ≡ Some (s, p, o) → pair ≡ slots_in_row s p → (pair >>= with_object o) ≡ row_of text
unfolding row_of
by_pair text bytes s p o pair same parts is = rw (← same, parts, is) (joined (slot_in_row s) (slot_in_row p) (with_object o))

pub no_pair : (text bytes s p o : List ℕ) (pair : Option (Slot × Slot)) → bytes ≡ text → places_between bytes ≡ Some (s, p, o) → pair ≡ slots_in_row s p → pair ≡ None → None ≡ row_of text
no_pair text bytes s p o pair same parts is none = ap (λ (found : Option (Slot × Slot)). found >>= with_object o) (sym none) ∙ by_pair text bytes s p o pair same parts is

pub no_object : (text bytes s p o : List ℕ) (pair : Option (Slot × Slot)) (object : Option Slot) (one two : Slot) → bytes ≡ text → places_between bytes ≡ Some (s, p, o) → pair ≡ slots_in_row s p → pair ≡ Some (one, two) → object ≡ slot_in_row o → object ≡ None → None ≡ row_of text
no_object text bytes s p o pair object one two same parts is some last none = sym (ap (with_object_found one two) (sym last ∙ none)) ∙ ap (λ (found : Option (Slot × Slot)). found >>= with_object o) (sym some) ∙ by_pair text bytes s p o pair same parts is

pub some_row : (text bytes s p o : List ℕ) (pair : Option (Slot × Slot)) (object : Option Slot) (one two three : Slot) → bytes ≡ text → places_between bytes ≡ Some (s, p, o) → pair ≡ slots_in_row s p → pair ≡ Some (one, two) → object ≡ slot_in_row o → object ≡ Some three → Some (record { subject = one; predicate = two; object = three }) ≡ row_of text
some_row text bytes s p o pair object one two three same parts is some last found = sym (ap (with_object_found one two) (sym last ∙ found)) ∙ ap (λ (found : Option (Slot × Slot)). found >>= with_object o) (sym some) ∙ by_pair text bytes s p o pair same parts is
