-- Bytes that are written as they are.
use Rattle.std.proofs.Common.{◌≡◌, ℕ, List, Bool, true, false, ◌==◌, refl, sym, ap, ◌∙◌}
use Rattle.std.specs.List.{list_all}
use Rattle.std.specs.Char.{is_ascii_digit}
use Rattle.std.proofs.lemmas.Bool.{eqb-true, not_from_false, or_from, true≢false}
use Rattle.rdf_terms.proofs.Iris.{digit_iri}
use Rattle.list_laws.proofs.Tests.{and_first}
use Rattle.tpf_base.specs.Decimals.{decimal_text}
use Rattle.tpf_base.proofs.DecimalTexts.{decimal_text-digits}
use Rattle.rdf_terms.specs.Iri.{is_iri, is_iri_byte, has_scheme}
use Rattle.template_fill.proofs.Passing.{list_all-wider}
use Rattle.hydra_controls.specs.LineTexts.{is_plain_byte}

other_byte : (b n : ℕ) (same : Bool) → (b == n) ≡ same → is_iri_byte b ≡ true → is_iri_byte n ≡ false → (b == n) ≡ false
other_byte b n true is own none = absurd (true≢false (sym own ∙ ap is_iri_byte (eqb-true b n is) ∙ none))
other_byte b n false is own none = is

-- no byte of an IRI is written with a backslash
iri_byte-plain : (b : ℕ) → is_iri_byte b ≡ true → is_plain_byte b ≡ true
iri_byte-plain b own =
    let quote = other_byte b 34 (b == 34) refl own refl in
    let backslash = other_byte b 92 (b == 92) refl own refl in
    let line = other_byte b 10 (b == 10) refl own refl in
    let back = other_byte b 13 (b == 13) refl own refl in
    not_from_false _ (or_from _ _ (or_from _ _ (or_from _ _ quote backslash) line) back)

pub iri-plain : (text : List ℕ) → is_iri text ≡ true → list_all is_plain_byte text ≡ true
iri-plain text own = list_all-wider is_iri_byte is_plain_byte iri_byte-plain text (and_first (list_all is_iri_byte text) (has_scheme text) own)

pub decimal-iri : (n : ℕ) → list_all is_iri_byte (decimal_text n) ≡ true
decimal-iri n = list_all-wider is_ascii_digit is_iri_byte digit_iri (decimal_text n) (decimal_text-digits n)

pub decimal-plain : (n : ℕ) → list_all is_plain_byte (decimal_text n) ≡ true
decimal-plain n = list_all-wider is_iri_byte is_plain_byte iri_byte-plain (decimal_text n) (decimal-iri n)
