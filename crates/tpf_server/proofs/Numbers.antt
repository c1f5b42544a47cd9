-- Numbers of pages.
use Rattle.std.proofs.Common.{◌≡◌, ℕ, ◌^◌, ◌<◌, ◌≤◌, Bool, true, List, [], ◌∷◌, length, Some, Err, refl, ap₂, ◌∙◌, arith, le-leb}
use Rattle.std.specs.Prelude.{◌&&◌, nat_le}
use Rattle.std.specs.List.{list_all}
use Rattle.std.specs.Char.{is_ascii_digit}
use Rattle.std.specs.Str.{all_ascii_digits}
use Rattle.std.specs.Str.Parse.{digits_value, ParsesUnsigned}
use Rattle.std.proofs.lemmas.Str.Parse.{tells_all_ascii_digits, numerals_by_value, parse_digits}
use Rattle.list_laws.proofs.Bytes.{digits_are}
use Rattle.template_fill.specs.ReadAddress.{when}
use Rattle.template_fill.specs.Answers.{page_number}
use Rattle.tpf_server.specs.declared.parameters.PageNumber.TheVariants.{Beyond}
use Rattle.tpf_server.specs.Parameters.{IsPage}

at_least : (n m : ℕ) → ((n < m) → ⊥) → m ≤ n
at_least n m h = omega (arith, h)

number_is : (v : ℕ) (text : List ℕ) (digits : Bool) → digits ≡ true → 1 ≤ v → when (digits && nat_le 1 v) v ≡ Some v
number_is v text digits all some = ap₂ (λ (a b : Bool). when (a && b) v) all (le-leb 1 v some)

pub beyond : {E : Type 0} (text : List ℕ) (e : E) → (length text ≡ 0 → ⊥) → list_all is_ascii_digit text ≡ true → ParsesUnsigned {E = E} 64 10 text (Err e)
    → IsPage (page_number text) Beyond
beyond [] e some all parsed = absurd (some refl)
beyond (b ∷ text) e some all parsed =
    let P : List ℕ → Type 0 = λ ds. all_ascii_digits ds ≡ true in
    let no = parse_digits (numerals_by_value P tells_all_ascii_digits) 64 (b ∷ text) (Err e) parsed (digits_are (b ∷ text) ∙ all) in
    let big : 2 ^ 64 ≤ digits_value 10 (b ∷ text) = at_least (digits_value 10 (b ∷ text)) (2 ^ 64) (λ l. no (omega arith, l)) in
    (digits_value 10 (b ∷ text), (number_is (digits_value 10 (b ∷ text)) text (list_all is_ascii_digit (b ∷ text)) all (omega arith), big))
