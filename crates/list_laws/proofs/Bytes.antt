-- Bytes: ASCII, UTF-8, and digits.
use Rattle.std.proofs.Common.{ℕ, zero, suc, ◌≡◌, ◌<◌, Bool, true, ◌&&◌, List, [], ◌∷◌, refl, ap, ◌∙◌, arith}
use Rattle.std.specs.Char.{is_ascii, is_ascii_digit}
use Rattle.std.specs.List.{list_all}
use Rattle.std.specs.Str.{bytes_eq, all_ascii_digits, IsAscii, IsUtf8}
use Rattle.std.specs.Str.Parse.{AllDigits}
use Rattle.std.proofs.lemmas.Bool.Decides.{nat_tests}
use Rattle.std.proofs.lemmas.Slice.Eq.{bytes_eq-Decides}
use Rattle.std.proofs.lemmas.Str.{IsUtf8-append, IsUtf8-from_ascii}
use Rattle.std.proofs.lemmas.Str.Ascii.{IsAscii-nil, IsAscii-cons}
use Rattle.std.proofs.lemmas.Str.Parse.{numerals_by_value, tells_all_ascii_digits}
use Rattle.list_laws.proofs.Tests.{and_first, and_second}

-- ---- the test of two texts

pub same_is : (q t : List ℕ) → bytes_eq q t ≡ true → q ≡ t
same_is q t e = (bytes_eq-Decides q t).0 e

pub same_bytes : (v : List ℕ) → bytes_eq v v ≡ true
same_bytes v = (bytes_eq-Decides v v).1 refl

-- ---- ASCII

pub ascii_list : (bytes : List ℕ) → list_all is_ascii bytes ≡ true → IsAscii bytes
ascii_list [] all = IsAscii-nil
ascii_list (b ∷ bytes) all =
    let own = and_first (is_ascii b) _ all in
    IsAscii-cons b bytes (grind (arith, nat_tests)) (ascii_list bytes (and_second (is_ascii b) _ all))

one_ascii : (b : ℕ) → b < 128 → IsAscii (b ∷ [])
one_ascii b h zero = h
one_ascii b h (suc i) = omega arith

pub cons_utf8 : (b : ℕ) (text : List ℕ) → b < 128 → IsUtf8 text → IsUtf8 (b ∷ text)
cons_utf8 b text h u = IsUtf8-append (b ∷ []) text (IsUtf8-from_ascii (b ∷ []) (one_ascii b h)) u

-- ---- digits

pub digit_ascii : (b : ℕ) → is_ascii_digit b ≡ true → is_ascii b ≡ true
digit_ascii b h = grind (arith, nat_tests)

pub digits_are : (ds : List ℕ) → all_ascii_digits ds ≡ list_all is_ascii_digit ds
digits_are [] = refl
digits_are (d ∷ ds) = ap (λ (b : Bool). is_ascii_digit d && b) (digits_are ds)

pub digits_all : (ds : List ℕ) → list_all is_ascii_digit ds ≡ true → AllDigits 10 ds
digits_all ds h = (numerals_by_value (λ (text : List ℕ). all_ascii_digits text ≡ true) tells_all_ascii_digits).to ds (digits_are ds ∙ h)
