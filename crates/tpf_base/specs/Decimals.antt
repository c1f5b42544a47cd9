-- Numbers in decimal digits: RFC 9110's `1*DIGIT` with no leading zero (sections 8.6 and 5.6.2), which is also the canonical form of xsd:integer (XML Schema 1.1 part 2, 3.4.13).
use Rattle.std.specs.Prelude.{ℕ, ◌≡◌, ◌+◌, ◌/◌, ◌%◌, ◌^◌, ◌<◌, ◌≤◌, zero, suc, nat_lt, true, false, List, [], ◌∷◌, ◌++◌, length, get_or, decimal}
use Rattle.std.specs.List.{list_all}
use Rattle.std.specs.Char.{is_ascii_digit}
use Rattle.std.specs.Str.Parse.{digits_value}

-- the digits of a number, if it has at most so many: those of its tenth, and then the last
unfoldable pub digits_up_to : ℕ → ℕ → List ℕ
digits_up_to zero n = []
digits_up_to (suc most) n = elim (nat_lt n 10) [ true ↦ (48 + n) ∷ [] | false ↦ digits_up_to most (n / 10) ++ (48 + n % 10) ∷ [] ]

-- the digits of any number: they are at most the number and one
unfoldable pub decimal_text : ℕ → List ℕ
decimal_text n = digits_up_to (suc n) n

-- ---- the laws

-- digits alone, at least one; the first is 0 for the number 0 alone; as many as the number has places; and they read back as the number
pub record IsDecimal (n : ℕ) : Type 0 where
  pub digits : list_all is_ascii_digit (decimal_text n) ≡ true
  pub some : 0 < length (decimal_text n)
  pub lead : get_or (decimal_text n) 0 0 ≡ 48 → n ≡ 0
  pub short : (k : ℕ) → 0 < k → n < 10 ^ k → length (decimal_text n) ≤ k
  pub long : (k : ℕ) → length (decimal_text n) ≤ k → n < 10 ^ k
  pub value : digits_value 10 (decimal_text n) ≡ n

abbrev pub NumbersReadBack : Type 0
NumbersReadBack = (n : ℕ) → IsDecimal n

-- digits with no leading zero, or the digit 0 alone, are those of their number
abbrev pub DigitsAreOfTheirNumber : Type 0
DigitsAreOfTheirNumber =
    (digits : List ℕ) → list_all is_ascii_digit digits ≡ true → 0 < length digits → (get_or digits 0 0 ≡ 48 → length digits ≡ 1) → decimal_text (digits_value 10 digits) ≡ digits

-- numbers with the same digits are the same
abbrev pub NumbersDiffer : Type 0
NumbersDiffer = (m n : ℕ) → decimal_text m ≡ decimal_text n → m ≡ n

-- the standard library's digits, which are 64 at most, are these
abbrev pub AreDecimal : Type 0
AreDecimal = (n : ℕ) → n < 10 ^ 64 → decimal n ≡ decimal_text n
