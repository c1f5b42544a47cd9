-- Counts as they are written, and numbers of pages.
use Rattle.std.proofs.Common.{◌≡◌, ℕ, ◌^◌, ◌<◌, ◌≤◌, true, nat_le, List, length, sym, arith}
use Rattle.std.specs.List.{list_all}
use Rattle.std.specs.Char.{is_ascii, is_ascii_digit}
use Rattle.std.specs.Str.{IsUtf8}
use Rattle.std.specs.Str.Parse.{digits_value}
use Rattle.std.proofs.lemmas.Bool.{and_from}
use Rattle.std.proofs.lemmas.Bool.Decides.{nat_tests}
use Rattle.list_laws.proofs.Bytes.{digit_ascii}
use Rattle.list_laws.proofs.Tests.{and_first, and_second}
use Rattle.tpf_base.specs.declared.limits.TheConstants.{HIGHEST_NUMBER, MOST_DIGITS}
use Rattle.tpf_base.specs.Decimals.{decimal_text}
use Rattle.tpf_base.proofs.DecimalTexts.{decimal_text-digits, decimal_text-some, decimal_text-short, decimal_text-long, decimal_text-value}
use Rattle.template_fill.proofs.Addresses.{utf8-ascii}
use Rattle.template_fill.proofs.Passing.{list_all-wider}
use Rattle.control_triples.specs.Controls.{is_count_text}

-- ---- counts

count_digits : (form : List ℕ) → 0 < length form → length form ≤ MOST_DIGITS → list_all is_ascii_digit form ≡ true → is_count_text form ≡ true
count_digits form some few all = and_from (nat_le 1 (length form)) _ (grind (arith, nat_tests)) (and_from (nat_le (length form) MOST_DIGITS) _ (grind (arith, nat_tests)) all)

pub count_text : (n : ℕ) → n ≤ HIGHEST_NUMBER → is_count_text (decimal_text n) ≡ true
count_text n fits =
    let below : n < 10 ^ MOST_DIGITS = omega arith in
    count_digits (decimal_text n) (decimal_text-some n) (decimal_text-short n MOST_DIGITS (omega arith) below) (decimal_text-digits n)

pub count_value : (n : ℕ) → n ≡ digits_value 10 (decimal_text n)
count_value n = sym (decimal_text-value n)

-- a number that is written as a count is one
pub count_bound : (n : ℕ) → is_count_text (decimal_text n) ≡ true → n ≤ HIGHEST_NUMBER
count_bound n h =
    let few : length (decimal_text n) ≤ MOST_DIGITS = grind (arith, nat_tests, and_first (nat_le (length (decimal_text n)) MOST_DIGITS) _ (and_second (nat_le 1 (length (decimal_text n))) _ h)) in
    let below : n < 10 ^ MOST_DIGITS = decimal_text-long n MOST_DIGITS few in
    omega arith

pub number_utf8 : (n : ℕ) → IsUtf8 (decimal_text n)
number_utf8 n = utf8-ascii (decimal_text n) (list_all-wider is_ascii_digit is_ascii digit_ascii (decimal_text n) (decimal_text-digits n))

-- a count is digits alone, at least one
pub count_form : (form : List ℕ) → is_count_text form ≡ true → (0 < length form) × (list_all is_ascii_digit form ≡ true)
count_form form h =
    let some = and_first (nat_le 1 (length form)) _ h in
    let rest = and_second (nat_le 1 (length form)) _ h in
    (grind (arith, nat_tests, some), and_second (nat_le (length form) MOST_DIGITS) _ rest)
