-- Numbers of ports.
use Rattle.std.proofs.Common.{◌≡◌, ℕ, ◌+◌, ◌-◌, ◌*◌, ◌<◌, ◌≤◌, List, [], ◌∷◌, ◌++◌, Bool, true, false, ◌==◌, length, take, drop, get_or, refl, sym, ◌∙◌, ap, arith, suc, zero, take_all, inl, inr, cond}
use Rattle.std.specs.List.{list_all}
use Rattle.std.specs.Char.{is_ascii_digit, digit_value}
use Rattle.std.specs.Str.Parse.{digits_value, digits_value_after}
use Rattle.std.proofs.lemmas.Int.Digits.{digits_value_more}
use Rattle.std.proofs.lemmas.Bool.Decides.{nat_tests}
use Rattle.std.proofs.lemmas.List.{take-append-drop}
use Rattle.std.proofs.lemmas.Fmt.{decimal-digits_value}
use Rattle.std.proofs.lemmas.Str.Parse.{tells_digits, numerals_by_value}
use Rattle.std.specs.Str.Parse.{AllDigits}
use Rattle.std.specs.Prelude.{decimal, codes, Some, None}
use Rattle.list_laws.proofs.Bytes.{digits_all}
use Rattle.tpf_base.specs.Addresses.{is_port}
use Rattle.tpf_base.specs.declared.limits.TheConstants.{HIGHEST_PORT}
use Rattle.template_fill.specs.ReadAddress.{is_port_text, opened, SpellsDigits, SpellsPort}
use Rattle.template_fill.proofs.Passing.{list_all-get}

pub digit_value-digit : (b : ℕ) → is_ascii_digit b ≡ true → (digit_value b ≡ b - 48) × (48 ≤ b) × (b < 58)
digit_value-digit b h = (grind (arith, nat_tests), grind (arith, nat_tests), grind (arith, nat_tests))

other_than : (b : ℕ) → 48 ≤ b → (b ≡ 48 → ⊥) → 48 < b
other_than b low other = omega arith

value-grows : (n : ℕ) (ds : List ℕ) → n ≤ digits_value_after 10 n ds
value-grows n [] = omega arith
value-grows n (d ∷ ds) = omega (arith, value-grows (n * 10 + digit_value d) ds)

value-front : (n i : ℕ) (ds : List ℕ) → digits_value_after 10 n (take i ds) ≤ digits_value_after 10 n ds
value-front n zero ds = value-grows n ds
value-front n (suc i) [] = omega arith
value-front n (suc i) (d ∷ ds) = value-front (n * 10 + digit_value d) i ds

-- a number read so far is at most the whole
pub digits_value-front : (i : ℕ) (ds : List ℕ) → digits_value 10 (take i ds) ≤ digits_value 10 ds
digits_value-front i ds = value-front 0 i ds

-- one more digit
pub digits_value-more : (ds : List ℕ) (i n : ℕ) → list_all is_ascii_digit ds ≡ true → i < length ds → n ≡ digits_value 10 (take i ds) → n * 10 + (get_or ds i 0 - 48) ≡ digits_value 10 (take (i + 1) ds)
digits_value-more ds i n all within is =
    let digit = digit_value-digit (get_or ds i 0) (list_all-get is_ascii_digit ds i 0 all within) in
    rw (digits_value_more 10 ds i within, digit.0, is) refl

above : (ds : List ℕ) → HIGHEST_PORT < digits_value 10 ds → is_port_text ds ≡ false
above [] big = refl
above (b ∷ ds) big = grind (arith, nat_tests)

-- a number that has passed the greatest port is none
pub is_port_text-above : (ds : List ℕ) (i n : ℕ) → list_all is_ascii_digit ds ≡ true → i < length ds → n ≡ digits_value 10 (take i ds) → HIGHEST_PORT < n * 10 + (get_or ds i 0 - 48) → is_port_text ds ≡ false
is_port_text-above ds i n all within is big =
    let more = digits_value-more ds i n all within is in
    let front = digits_value-front (i + 1) ds in
    above ds (omega arith)

-- a number without a leading zero is not 0
pub positive : (ds : List ℕ) (port n : ℕ) → list_all is_ascii_digit ds ≡ true → false ≡ (length ds == 0) → (get_or ds 0 0 ≡ 48 → ⊥) → length ds ≤ n → port ≡ digits_value 10 (take n ds) → 0 < port
positive [] port n all some first whole is = absurd (cc)
positive (b ∷ ds) port n all some first whole is =
    let digit = digit_value-digit b (list_all-get is_ascii_digit (b ∷ ds) 0 0 all (omega arith)) in
    let all_taken = take_all n (b ∷ ds) whole in
    let big = value-grows (0 * 10 + digit_value b) ds in
    let value : port ≡ digits_value_after 10 (0 * 10 + digit_value b) ds = is ∙ ap (digits_value 10) all_taken in
    let more : 48 < b = other_than b digit.1 first in
    omega arith

pub above_first : (ds : List ℕ) → is_port_text ds ≡ true → (get_or ds 0 0 ≡ 48 → ⊥) × (0 < length ds) × (digits_value 10 ds ≤ HIGHEST_PORT)
above_first [] port = absurd (cc)
above_first (b ∷ ds) port = (grind (arith, nat_tests), omega arith, grind (arith, nat_tests))

-- the digits of a port are its decimal text
pub spells_digits : (bytes digits rest : List ℕ) (port n : ℕ) → digits ≡ take n bytes → rest ≡ drop n bytes → list_all is_ascii_digit digits ≡ true → is_port_text digits ≡ true → 0 < port → port ≡ digits_value 10 digits → SpellsDigits bytes port rest
spells_digits bytes digits rest port n front back all text low is =
    let first = above_first digits text in
    let same = decimal-digits_value (numerals_by_value (AllDigits 10) tells_digits) digits (digits_all digits all) first.1 (λ zero. absurd (first.0 zero)) (omega arith) in
    record {
      is_bytes = rw (is, same, front, back) (sym (take-append-drop n bytes));
      low = low;
      high = omega arith;
    }

pub opened-is : (x : ℕ) (bytes rest : List ℕ) → opened x bytes ≡ Some rest → bytes ≡ x ∷ rest
opened-is x [] rest h = absurd (cc)
opened-is x (b ∷ bytes) rest h =
    let go : (t : Bool) → (b == x) ≡ t → cond t (Some bytes) None ≡ Some rest → b ∷ bytes ≡ x ∷ rest =
    λ t. elim t as (λ v. (b == x) ≡ v → cond v (Some bytes) None ≡ Some rest → b ∷ bytes ≡ x ∷ rest) [
      | true ↦ λ yes same. let is : b ≡ x = grind (arith, nat_tests) in cc
      | false ↦ λ no same. absurd (cc)
    ] in
    go (b == x) refl h

port_fits : (port : ℕ) → 0 < port → port ≤ HIGHEST_PORT → is_port port ≡ true
port_fits port low high = grind (arith, nat_tests)

pub spells_port : (bytes after rest : List ℕ) (port : ℕ) → opened 58 bytes ≡ Some after → SpellsDigits after port rest → SpellsPort bytes port rest
spells_port bytes after rest port h s =
    record {
      typed_port = codes ":" ++ decimal port;
      is_bytes = opened-is 58 bytes after h ∙ ap (λ more. 58 ∷ more) s.is_bytes;
      typed = inr (refl, port_fits port s.low s.high);
      low = s.low;
      high = s.high;
    }

pub spells_no_port : (bytes : List ℕ) → SpellsPort bytes 80 bytes
spells_no_port bytes = record { typed_port = []; is_bytes = refl; typed = inl (refl, refl); low = omega arith; high = omega arith }
