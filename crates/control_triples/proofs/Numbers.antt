-- Numbers of up to MOST_DIGITS digits.
use Rattle.std.proofs.Common.{ℕ, ◌≡◌, ◌^◌, ◌<◌, ◌≤◌, true, ◌&&◌, List, nat_le, length, arith, ◌∙◌, Result, Ok}
use Rattle.std.specs.List.{list_all}
use Rattle.std.specs.Char.{is_ascii_digit}
use Rattle.std.specs.Str.{all_ascii_digits}
use Rattle.std.specs.Str.Parse.{digits_value, ParsesUnsigned}
use Rattle.std.proofs.lemmas.Str.Parse.{tells_all_ascii_digits, numerals_by_value, parse_gives}
use Rattle.std.proofs.lemmas.Bool.Decides.{nat_tests}
use Rattle.std.proofs.lemmas.Int.Digits.{digits_value-lt}
use Rattle.std.proofs.Math.Nat.{pow-le-pow_right}
use Rattle.std.proofs.lemmas.Bool.{and_parts}
use Rattle.tpf_base.specs.declared.limits.TheConstants.{MOST_DIGITS}
use Rattle.list_laws.proofs.Bytes.{digits_all, digits_are}
use Rattle.control_triples.specs.Controls.{is_count_text}

parts : (ds : List ℕ) → is_count_text ds ≡ true → (1 ≤ length ds) × (length ds ≤ MOST_DIGITS) × (list_all is_ascii_digit ds ≡ true)
parts ds h =
    let p = and_parts (nat_le 1 (length ds)) (nat_le (length ds) MOST_DIGITS && list_all is_ascii_digit ds) h in
    let q = and_parts (nat_le (length ds) MOST_DIGITS) (list_all is_ascii_digit ds) p.1 in
    let some = p.0 in
    let few = q.0 in
    (grind (arith, nat_tests, some), grind (arith, nat_tests, few), q.1)

value_small : (ds : List ℕ) → is_count_text ds ≡ true → digits_value 10 ds < 10 ^ MOST_DIGITS
value_small ds h =
    let p = parts ds h in
    let a : digits_value 10 ds < 10 ^ length ds = digits_value-lt 10 ds (digits_all ds p.2) in
    let b : 10 ^ length ds ≤ 10 ^ MOST_DIGITS = pow-le-pow_right (omega arith) p.1 in
    omega (arith, a, b)

-- what `parse` gives of such a text
pub value_parsed : {E : Type 0} (ds : List ℕ) (r : Result ℕ E) → is_count_text ds ≡ true → ParsesUnsigned 64 10 ds r → r ≡ Ok (digits_value 10 ds)
value_parsed ds r h parsed =
    let p = parts ds h in
    let some = p.0 in
    let small = value_small ds h in
    parse_gives (numerals_by_value (λ (ds : List ℕ). all_ascii_digits ds ≡ true) tells_all_ascii_digits) 64 ds r parsed (digits_are ds ∙ p.2) (omega (arith, some)) (omega (arith, small))
