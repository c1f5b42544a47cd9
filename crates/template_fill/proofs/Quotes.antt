-- Explicit forms, and the slots that texts stand for.
use Rattle.std.proofs.Common.{◌≡◌, ℕ, ◌+◌, ◌<◌, ◌≤◌, List, [], ◌∷◌, ◌++◌, Bool, true, false, not, ◌==◌, ◌&&◌, ◌||◌, Some, None, Option, Result, Ok, Err, length, take, get_or, refl, sym, ◌∙◌, ap, arith, add-one, lit<, Bor, length-append}
use Rattle.std.specs.Prelude.{IfErr, MatchOption}
use Rattle.std.specs.List.{list_all}
use Rattle.std.specs.Str.{IsUtf8}
use Rattle.std.proofs.lemmas.Str.{IsUtf8-nil, IsUtf8-append}
use Rattle.std.proofs.lemmas.Bool.Decides.{nat_tests}
use Rattle.std.proofs.lemmas.List.{take-append-drop}
use Rattle.std.proofs.lemmas.Str.Pattern.{NoCharPasses-char, drop_at_char}
use Rattle.std.specs.Str.Pattern.{RFindsChar, SplitsAroundMatch}
use Rattle.list_laws.proofs.Bytes.{cons_utf8}
use Rattle.list_laws.proofs.Tests.{not_equal}
use Rattle.rdf_terms.proofs.Tags.{lower_all}
use Rattle.list_laws.proofs.Tests.{and_first, and_second}
use Rattle.rdf_terms.specs.Iri.{is_iri, is_iri_byte, is_letter}
use Rattle.rdf_terms.specs.Tag.{is_tag, is_lower_tag, groups, put_first, is_group, is_letter_or_digit, is_upper}
use Rattle.rdf_terms.specs.Datatype.{is_xsd_string, is_lang_string}
use Rattle.rdf_terms.specs.declared.term.Term.{Term}
use Rattle.rdf_terms.specs.declared.term.Term.TheVariants.{Iri, Blank, Literal}
use Rattle.rdf_terms.specs.declared.term.Kind.{Kind}
use Rattle.rdf_terms.specs.declared.term.Kind.TheVariants.{Plain, Typed, Tagged}
use Rattle.rdf_terms.specs.declared.slots.Slot.TheVariants.{Fixed}
use Rattle.rdf_terms.specs.Canon.{canonical_term, kind_len}
use Rattle.rdf_terms.specs.Sizes.{term_size, kind_size}
use Rattle.rdf_terms.specs.Valid.{IsValidKind}
use Rattle.rdf_terms.proofs.Lengths.{canonical_len_is}
use Rattle.template_fill.specs.declared.fault.ValueFault.{ValueFault}
use Rattle.template_fill.specs.declared.fault.ValueFault.TheVariants as faults
use Rattle.template_fill.specs.Explicit.{Gives, ReadsBack, FormsAreText, FormsAreShort, suffix, explicit_form, cut_last, tagged_literal, typed_literal, marked_literal, suffixed_literal, read_literal, read_iri, fixed, slot_of}
use Rattle.template_fill.proofs.Passing.{list_all-get, list_all-wider}
use Rattle.std.proofs.lemmas.Bool.{and_from, not-true}

-- ---- first bytes

pub marked-none : (form rest : List ℕ) → ((more : List ℕ) → rest ≡ 94 ∷ more → ⊥) → marked_literal form rest ≡ Err faults.Suffix
marked-none form [] none = refl
marked-none form (b ∷ rest) none = rw (not_equal b 94 (λ is. none rest (ap (λ x. x ∷ rest) is))) refl

pub marked-some : (form rest datatype : List ℕ) → rest ≡ 94 ∷ datatype → marked_literal form rest ≡ typed_literal form datatype
marked-some form rest datatype is = rw is refl

pub suffixed-empty : (form rest : List ℕ) → true ≡ (length rest == 0) → suffixed_literal form rest ≡ Ok (Literal form Plain)
suffixed-empty form [] none = refl
suffixed-empty form (b ∷ rest) none = absurd (grind (arith, nat_tests))

pub suffixed-tagged : (form rest tag : List ℕ) → rest ≡ 64 ∷ tag → suffixed_literal form rest ≡ tagged_literal form tag
suffixed-tagged form rest tag is = rw is refl

pub suffixed-marked : (form rest more : List ℕ) → rest ≡ 94 ∷ more → suffixed_literal form rest ≡ marked_literal form more
suffixed-marked form rest more is = rw is refl

pub suffixed-none : (form rest : List ℕ) → false ≡ (length rest == 0) → ((more : List ℕ) → rest ≡ 64 ∷ more → ⊥) → ((more : List ℕ) → rest ≡ 94 ∷ more → ⊥) → suffixed_literal form rest ≡ Err faults.Suffix
suffixed-none form [] some tag datatype = absurd (cc)
suffixed-none form (b ∷ rest) some tag datatype = rw (not_equal b 64 (λ is. tag rest (ap (λ x. x ∷ rest) is)), not_equal b 94 (λ is. datatype rest (ap (λ x. x ∷ rest) is))) refl

pub slot-iri : (text : List ℕ) → false ≡ (length text == 0) → (get_or text 0 0 ≡ 63 → ⊥) → ((rest : List ℕ) → text ≡ 34 ∷ rest → ⊥) → slot_of text ≡ fixed (read_iri text)
slot-iri [] some free quote = absurd (cc)
slot-iri (b ∷ rest) some free quote = rw (not_equal b 63 free, not_equal b 34 (λ is. quote rest (ap (λ x. x ∷ rest) is))) refl

-- ---- faults handed on

pub gives-fixed : (r wanted : Result Term ValueFault) → Gives r wanted → Gives (fixed r) (fixed wanted)
gives-fixed (Ok term) wanted h = ap fixed h
gives-fixed (Err faults.Iri) wanted h = ap fixed h
gives-fixed (Err faults.Quote) wanted h = ap fixed h
gives-fixed (Err faults.Suffix) wanted h = ap fixed h
gives-fixed (Err faults.LangString) wanted h = ap fixed h
gives-fixed (Err faults.OutOfMemory) wanted h = tt

pub refused-fixed : (r wanted : Result Term ValueFault) → IfErr wanted (λ fault. r ≡ Err fault) → IfErr (fixed wanted) (λ fault. fixed r ≡ Err fault)
refused-fixed r (Ok term) h = tt
refused-fixed r (Err fault) h = ap fixed h

-- ---- the last quote

pub cut_last-none : (bytes : List ℕ) → ((i : ℕ) → i < length bytes → get_or bytes i 0 ≡ 34 → ⊥) → cut_last 34 bytes ≡ None
cut_last-none [] none = refl
cut_last-none (b ∷ bytes) none =
    let rest = cut_last-none bytes (λ i within is. none (i + 1) (omega arith) (rw add-one is)) in
    rw (rest, not_equal b 34 (none 0 (omega arith))) refl

pub cut_last-at : (form rest : List ℕ) → cut_last 34 rest ≡ None → cut_last 34 (form ++ 34 ∷ rest) ≡ Some (form, rest)
cut_last-at [] rest none = rw none refl
cut_last-at (b ∷ form) rest none = rw (cut_last-at form rest none) refl

pub literal-cut : (text form rest : List ℕ) → text ≡ form ++ 34 ∷ rest → ((i : ℕ) → i < length rest → get_or rest i 0 ≡ 34 → ⊥) → read_literal text ≡ suffixed_literal form rest
unfolding read_literal
literal-cut text form rest is none = rw (is, cut_last-at form rest (cut_last-none rest none)) refl

pub literal-none : (text : List ℕ) → ((i : ℕ) → i < length text → get_or text i 0 ≡ 34 → ⊥) → read_literal text ≡ Err faults.Quote
unfolding read_literal
literal-none text none = rw (cut_last-none text none) refl

-- what `rsplit_once` says of a quote
pub rsplit_quote : (text : List ℕ) (r : Option (Bor (List ℕ) × Bor (List ℕ))) → MatchOption r (RFindsChar 34 text None) (λ x. SplitsAroundMatch (RFindsChar 34) text x.0.now x.1.now) → MatchOption r (read_literal text ≡ Err faults.Quote) (λ x. read_literal text ≡ suffixed_literal x.0.now x.1.now)
rsplit_quote text None h = literal-none text (λ i within is. NoCharPasses-char 34 text i h (lit< tt) within is)
rsplit_quote text (Some x) h =
    let cut : text ≡ x.0.now ++ 34 ∷ x.1.now = rw (h.3, h.4) (sym (take-append-drop h.0 text) ∙ ap (λ rest. take h.0 text ++ rest) (drop_at_char 34 text h.0 h.1 h.2.1 (lit< tt))) in
    literal-cut text x.0.now x.1.now cut (λ k within is. NoCharPasses-char 34 x.1.now k (rw h.4 h.2.0) (lit< tt) within is)

-- ---- the law

no_quote-last : (p : ℕ → Bool) → (p 34 ≡ false) → (bytes : List ℕ) → list_all p bytes ≡ true → cut_last 34 bytes ≡ None
no_quote-last p quote bytes all = cut_last-none bytes (λ i within is. let passes = list_all-get p bytes i 0 all within in let fails : p (get_or bytes i 0) ≡ false = ap p is ∙ quote in cc)

or_left : (a b : Bool) → a ≡ true → a || b ≡ true
or_left true b h = refl
or_left false b h = absurd (cc)

-- the bytes of a tag
is_tag_byte : ℕ → Bool
is_tag_byte b = is_letter_or_digit b || (b == 45)

put-first : (t : Bool) (b : ℕ) (p : List ℕ × List (List ℕ)) → list_all is_letter_or_digit (put_first t b p).0 ≡ true → list_all (list_all is_letter_or_digit) (put_first t b p).1 ≡ true → (t ≡ true → b ≡ 45) → (is_tag_byte b ≡ true) × (list_all is_letter_or_digit p.0 ≡ true) × (list_all (list_all is_letter_or_digit) p.1 ≡ true)
unfolding is_tag_byte
put-first true b p first more hyphen = (let is : b ≡ 45 = hyphen refl in ap is_tag_byte is, and_first (list_all is_letter_or_digit p.0) _ more, and_second (list_all is_letter_or_digit p.0) _ more)
put-first false b p first more hyphen = (or_left (is_letter_or_digit b) (b == 45) (and_first (is_letter_or_digit b) _ first), and_second (is_letter_or_digit b) _ first, more)

groups-bytes : (bytes : List ℕ) → list_all is_letter_or_digit (groups bytes).0 ≡ true → list_all (list_all is_letter_or_digit) (groups bytes).1 ≡ true → list_all is_tag_byte bytes ≡ true
groups-bytes [] first more = refl
groups-bytes (b ∷ bytes) first more =
    let parts = put-first (b == 45) b (groups bytes) first more (λ is. grind (arith, nat_tests)) in
    and_from (is_tag_byte b) _ parts.0 (groups-bytes bytes parts.1 parts.2)

letters : (b : ℕ) → is_letter b ≡ true → is_letter_or_digit b ≡ true
letters b h = or_left (is_letter b) _ h

group-bytes : (p q : ℕ → Bool) → ((b : ℕ) → p b ≡ true → q b ≡ true) → (group : List ℕ) → is_group p group ≡ true → list_all q group ≡ true
group-bytes p q wider [] h = absurd (cc)
group-bytes p q wider (b ∷ group) h = list_all-wider p q wider (b ∷ group) h

tag-bytes : (tag : List ℕ) → is_tag tag ≡ true → list_all is_tag_byte tag ≡ true
unfolding is_tag
tag-bytes tag h = groups-bytes tag (group-bytes is_letter is_letter_or_digit letters (groups tag).0 (and_first (is_group is_letter (groups tag).0) _ h)) (list_all-wider (is_group is_letter_or_digit) (list_all is_letter_or_digit) (λ group own. group-bytes is_letter_or_digit is_letter_or_digit (λ b own. own) group own) (groups tag).1 (and_second (is_group is_letter (groups tag).0) _ h))

quote-tag : is_tag_byte 34 ≡ false
unfolding is_tag_byte
quote-tag = refl

tag-is : (tag : List ℕ) → is_lower_tag tag ≡ true → is_tag tag ≡ true
unfolding is_lower_tag
tag-is tag h = and_first (is_tag tag) _ h

tag-lower : (tag : List ℕ) → is_lower_tag tag ≡ true → list_all (λ b. not (is_upper b)) tag ≡ true
unfolding is_lower_tag
tag-lower tag h = and_second (is_tag tag) _ h

letter-not : (b c : ℕ) → is_letter c ≡ false → is_letter b ≡ true → b ≡ c → ⊥
letter-not b c fails letter is = let same : is_letter b ≡ false = ap is_letter is ∙ fails in cc

suffix-none : (kind : Kind) → IsValidKind kind → cut_last 34 (suffix kind) ≡ None
suffix-none Plain h = refl
suffix-none (Typed datatype) h =
    let iri = and_first (is_iri datatype) _ (and_first (is_iri datatype && not (is_xsd_string datatype)) _ h.0) in
    let bytes = no_quote-last is_iri_byte refl datatype (and_first (list_all is_iri_byte datatype) _ iri) in
    rw bytes refl
suffix-none (Tagged tag) h = rw (no_quote-last is_tag_byte quote-tag tag (tag-bytes tag (tag-is tag h))) refl

literal-back : (form : List ℕ) (kind : Kind) → IsValidKind kind → suffixed_literal form (suffix kind) ≡ Ok (Literal form kind)
literal-back form Plain h = refl
literal-back form (Typed datatype) h =
    let both = and_first (is_iri datatype && not (is_xsd_string datatype)) _ h.0 in
    let iri = and_first (is_iri datatype) _ both in
    let plain = not-true (is_xsd_string datatype) (and_second (is_iri datatype) _ both) in
    let lang = not-true (is_lang_string datatype) (and_second (is_iri datatype && not (is_xsd_string datatype)) _ h.0) in
    rw (lang, iri, plain) refl
literal-back form (Tagged tag) h = rw (tag-is tag h, lower_all tag (tag-lower tag h)) refl

unmarked : (b : ℕ) (rest : List ℕ) → (b == 63) ≡ false → (b == 34) ≡ false → slot_of (b ∷ rest) ≡ fixed (read_iri (b ∷ rest))
unmarked b rest free quote = rw (free, quote) refl

valid-iri : (text : List ℕ) → is_iri text ≡ true → read_iri text ≡ Ok (Iri text)
valid-iri text h = rw h refl

iri-back : (text : List ℕ) → is_iri text ≡ true → slot_of text ≡ Ok (Fixed (Iri text))
iri-back [] h = absurd (cc)
iri-back (b ∷ rest) h =
    let letter = and_first (is_letter b) _ (and_second (list_all is_iri_byte (b ∷ rest)) _ h) in
    unmarked b rest (not_equal b 63 (letter-not b 63 refl letter)) (not_equal b 34 (letter-not b 34 refl letter)) ∙ ap fixed (valid-iri (b ∷ rest) h)

read-back : (form : List ℕ) (kind : Kind) → IsValidKind kind → read_literal (form ++ 34 ∷ suffix kind) ≡ Ok (Literal form kind)
unfolding read_literal
read-back form kind h = rw (cut_last-at form (suffix kind) (suffix-none kind h)) (literal-back form kind h)

-- the slot of the explicit form of a term is that term fixed
pub reads_back : ReadsBack
reads_back (Iri text) kept = iri-back text kept.valid.0
reads_back (Blank label) kept = absurd kept.not_blank
reads_back (Literal form kind) kept = rw (read-back form kind kept.valid.1) refl

-- ---- explicit forms are UTF-8

tag-byte-low : (b : ℕ) → is_tag_byte b ≡ true → b < 128
unfolding is_tag_byte
tag-byte-low b h = grind (arith, h)

tag-text : (tag : List ℕ) → list_all is_tag_byte tag ≡ true → IsUtf8 tag
tag-text [] h = IsUtf8-nil
tag-text (b ∷ tag) h = cons_utf8 b tag (tag-byte-low b (and_first (is_tag_byte b) _ h)) (tag-text tag (and_second (is_tag_byte b) _ h))

suffix-text : (kind : Kind) → IsValidKind kind → IsUtf8 (suffix kind)
suffix-text Plain h = IsUtf8-nil
suffix-text (Typed datatype) h = cons_utf8 94 (94 ∷ datatype) (omega arith) (cons_utf8 94 datatype (omega arith) h.1)
suffix-text (Tagged tag) h = cons_utf8 64 tag (omega arith) (tag-text tag (tag-bytes tag (tag-is tag h)))

pub forms_are_text : FormsAreText
forms_are_text (Iri text) valid = valid.1
forms_are_text (Blank label) valid = IsUtf8-nil
forms_are_text (Literal form kind) valid =
    cons_utf8 34 (form ++ 34 ∷ suffix kind) (omega arith)
    (IsUtf8-append form (34 ∷ suffix kind) valid.0 (cons_utf8 34 (suffix kind) (omega arith) (suffix-text kind valid.1)))

-- ---- and short

suffix-size : (kind : Kind) → length (suffix kind) ≤ kind_size kind + 2
suffix-size Plain = omega arith
suffix-size (Typed datatype) = omega arith
suffix-size (Tagged tag) = omega arith

suffix-len : (kind : Kind) → length (suffix kind) ≤ kind_len kind
suffix-len Plain = omega arith
suffix-len (Typed datatype) = omega arith
suffix-len (Tagged tag) = omega arith

texts-short : (term : Term) → length (explicit_form term) ≤ term_size term + 4
texts-short (Iri text) = omega arith
texts-short (Blank label) = omega arith
texts-short (Literal form kind) = omega (arith, length-append form (34 ∷ suffix kind), suffix-size kind)

canonical-short : (term : Term) → length (explicit_form term) ≤ length (canonical_term term)
canonical-short (Iri text) = let e = canonical_len_is (Iri text) in omega (arith, e)
canonical-short (Blank label) = omega arith
canonical-short (Literal form kind) =
    let e = canonical_len_is (Literal form kind) in
    omega (arith, e, length-append form (34 ∷ suffix kind), suffix-len kind)

pub forms_are_short : FormsAreShort
forms_are_short = record { texts = texts-short; canonical = canonical-short }
