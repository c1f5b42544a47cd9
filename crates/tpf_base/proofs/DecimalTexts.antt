-- The digits of numbers.
use Rattle.std.proofs.Common.{◌≡◌, ℕ, zero, suc, ◌+◌, ◌-◌, ◌*◌, ◌/◌, ◌%◌, ◌^◌, ◌<◌, ◌≤◌, Bool, true, false, List, [], ◌∷◌, ◌++◌, length, get_or, decimal, refl, sym, ap, ◌∙◌, subst, arith, inl, inr, lit<, lt-ltb, le-ltb, append_assoc, append-nil, length-append}
use Rattle.std.specs.List.{list_all}
use Rattle.std.specs.Char.{is_ascii_digit, digit_value}
use Rattle.std.specs.Str.Parse.{digits_value, digits_value_after}
use Rattle.std.proofs.lemmas.Bool.{cases_lt}
use Rattle.std.proofs.lemmas.Bool.Decides.{nat_tests}
use Rattle.std.proofs.lemmas.Fmt.{decimal_by_steps_wide}
use Rattle.std.proofs.lemmas.List.Folds.{list_all-append}
use Rattle.std.proofs.Math.Nat.{pow-suc}
use Rattle.list_laws.proofs.Tests.{and_first, and_second}
use Rattle.tpf_base.specs.Decimals.{digits_up_to, decimal_text, NumbersReadBack, DigitsAreOfTheirNumber, NumbersDiffer, AreDecimal}

-- ---- the last digit

up_one : (most n : ℕ) → n < 10 → digits_up_to (suc most) n ≡ (48 + n) ∷ []
unfolding digits_up_to
up_one most n h = ap (λ (b : Bool). elim b [ true ↦ (48 + n) ∷ [] | false ↦ digits_up_to most (n / 10) ++ (48 + n % 10) ∷ [] ]) (lt-ltb n 10 h)

up_more : (most n : ℕ) → 10 ≤ n → digits_up_to (suc most) n ≡ digits_up_to most (n / 10) ++ (48 + n % 10) ∷ []
unfolding digits_up_to
up_more most n h = ap (λ (b : Bool). elim b [ true ↦ (48 + n) ∷ [] | false ↦ digits_up_to most (n / 10) ++ (48 + n % 10) ∷ [] ]) (le-ltb n 10 h)

-- no more digits are needed than the number and one
enough : (j k n : ℕ) → n ≤ j → n ≤ k → digits_up_to (suc j) n ≡ digits_up_to (suc k) n
enough zero k n p q = up_one zero n (omega arith) ∙ sym (up_one k n (omega arith))
enough (suc j) zero n p q = up_one (suc j) n (omega arith) ∙ sym (up_one zero n (omega arith))
enough (suc j) (suc k) n p q = elim (cases_lt n 10) [
  | inl below ↦ up_one (suc j) n below ∙ sym (up_one (suc k) n below)
  | inr above ↦ up_more (suc j) n above ∙ ap (λ ds. ds ++ (48 + n % 10) ∷ []) (enough j k (n / 10) (omega arith) (omega arith)) ∙ sym (up_more (suc k) n above)
]

pub decimal_text-one : (n : ℕ) → n < 10 → decimal_text n ≡ (48 + n) ∷ []
unfolding decimal_text
decimal_text-one n h = up_one n n h

from_up : (most n : ℕ) → most ≡ n → 10 ≤ n → digits_up_to (suc most) n ≡ decimal_text (n / 10) ++ (48 + n % 10) ∷ []
unfolding decimal_text
from_up zero n is h = absurd (omega arith)
from_up (suc most) n is h = up_more (suc most) n h ∙ ap (λ ds. ds ++ (48 + n % 10) ∷ []) (enough most (n / 10) (n / 10) (omega arith) (omega arith))

pub decimal_text-more : (n : ℕ) → 10 ≤ n → decimal_text n ≡ decimal_text (n / 10) ++ (48 + n % 10) ∷ []
unfolding decimal_text
decimal_text-more n h = from_up n n refl h

-- ---- induction on the digits: one digit, and then one more at the end

module _ (P : ℕ → List ℕ → Type 0) (one : (n : ℕ) → n < 10 → P n ((48 + n) ∷ [])) (more : (n : ℕ) (digits : List ℕ) → 10 ≤ n → P (n / 10) digits → P n (digits ++ (48 + n % 10) ∷ [])) where
  steps_up_to : (most n : ℕ) → n ≤ most → P n (decimal_text n)
  steps_up_to zero n h = subst (P n) (sym (decimal_text-one n (omega arith))) (one n (omega arith))
  steps_up_to (suc most) n h = elim (cases_lt n 10) [
    | inl below ↦ subst (P n) (sym (decimal_text-one n below)) (one n below)
    | inr above ↦ subst (P n) (sym (decimal_text-more n above)) (more n (decimal_text (n / 10)) above (steps_up_to most (n / 10) (omega arith)))
  ]

  pub decimal_text_by_steps : (n : ℕ) → P n (decimal_text n)
  decimal_text_by_steps n = steps_up_to n n (omega arith)

pub decimal_is : AreDecimal
decimal_is = decimal_by_steps_wide (λ n digits. digits ≡ decimal_text n) (λ n h. sym (decimal_text-one n h)) (λ n digits h is. ap (λ ds. ds ++ (48 + n % 10) ∷ []) is ∙ sym (decimal_text-more n h))

-- the same of what a `u64` and a `u128` hold
pub decimal_of_u64 : (n : ℕ) → n < 2 ^ 64 → decimal n ≡ decimal_text n
decimal_of_u64 n fits = decimal_is n (omega arith)

pub decimal_of_u128 : (n : ℕ) → n < 2 ^ 128 → decimal n ≡ decimal_text n
decimal_of_u128 n fits = decimal_is n (omega arith)

-- ---- the digits

is_digit : (d : ℕ) → d < 10 → is_ascii_digit (48 + d) ≡ true
is_digit d h = grind (arith, nat_tests)

digit_alone : (d : ℕ) → d < 10 → list_all is_ascii_digit ((48 + d) ∷ []) ≡ true
digit_alone d h = rw (is_digit d h) refl

pub decimal_text-digits : (n : ℕ) → list_all is_ascii_digit (decimal_text n) ≡ true
decimal_text-digits = decimal_text_by_steps (λ n digits. list_all is_ascii_digit digits ≡ true) digit_alone
    (λ n digits h all. rw (list_all-append is_ascii_digit digits ((48 + n % 10) ∷ []), all) (digit_alone (n % 10) (omega arith)))

Leads : ℕ → List ℕ → Type 0
Leads n digits = (0 < length digits) × (get_or digits 0 0 ≡ 48 → n ≡ 0)

first_of : (digits more : List ℕ) → 0 < length digits → get_or (digits ++ more) 0 0 ≡ get_or digits 0 0
first_of [] more some = absurd (omega arith)
first_of (d ∷ digits) more some = refl

leads : (n : ℕ) → Leads n (decimal_text n)
unfolding Leads
leads = decimal_text_by_steps Leads (λ n h. (omega arith, λ is. omega arith))
    (λ n digits h own. (omega (arith, length-append digits ((48 + n % 10) ∷ [])), λ is. let none = own.1 (sym (first_of digits ((48 + n % 10) ∷ []) own.0) ∙ is) in absurd (omega arith)))

pub decimal_text-some : (n : ℕ) → 0 < length (decimal_text n)
unfolding Leads
decimal_text-some n = (leads n).0

power_some : (k : ℕ) → 0 < 10 ^ k
power_some zero = lit< tt
power_some (suc k) = let is = pow-suc 10 k in let some = power_some k in omega arith

pub decimal_text-short : (n k : ℕ) → 0 < k → n < 10 ^ k → length (decimal_text n) ≤ k
decimal_text-short n k some fits = decimal_text_by_steps (λ m digits. (j : ℕ) → 0 < j → m < 10 ^ j → length digits ≤ j) (λ m l j a b. omega arith) more n k some fits
  where
    more : (m : ℕ) (digits : List ℕ) → 10 ≤ m → ((j : ℕ) → 0 < j → m / 10 < 10 ^ j → length digits ≤ j) → (j : ℕ) → 0 < j → m < 10 ^ j → length (digits ++ (48 + m % 10) ∷ []) ≤ j
    more m digits l h zero a b = absurd (omega arith)
    more m digits l h (suc zero) a b = absurd (omega arith)
    more m digits l h (suc (suc j)) a b = omega (arith, length-append digits ((48 + m % 10) ∷ []), h (suc j) (omega arith) (omega arith))

pub decimal_text-long : (n k : ℕ) → length (decimal_text n) ≤ k → n < 10 ^ k
decimal_text-long = decimal_text_by_steps (λ m digits. (j : ℕ) → length digits ≤ j → m < 10 ^ j) one more
  where
    one : (m : ℕ) → m < 10 → (j : ℕ) → 1 ≤ j → m < 10 ^ j
    one m h zero a = absurd (omega arith)
    one m h (suc j) a = let is = pow-suc 10 j in let some = power_some j in omega arith

    more : (m : ℕ) (digits : List ℕ) → 10 ≤ m → ((j : ℕ) → length digits ≤ j → m / 10 < 10 ^ j) → (j : ℕ) → length (digits ++ (48 + m % 10) ∷ []) ≤ j → m < 10 ^ j
    more m digits l h zero a = absurd (omega (arith, length-append digits ((48 + m % 10) ∷ [])))
    more m digits l h (suc j) a =
        let fewer : length digits ≤ j = omega (arith, length-append digits ((48 + m % 10) ∷ [])) in
        let is = pow-suc 10 j in
        let below = h j fewer in
        omega arith

-- ---- reading back

value_of : (d : ℕ) → d < 10 → digit_value (48 + d) ≡ d
value_of d h = grind (arith, nat_tests)

after-append : (n : ℕ) (xs ys : List ℕ) → digits_value_after 10 n (xs ++ ys) ≡ digits_value_after 10 (digits_value_after 10 n xs) ys
after-append n [] ys = refl
after-append n (x ∷ xs) ys = after-append (n * 10 + digit_value x) xs ys

pub decimal_text-value : (n : ℕ) → digits_value 10 (decimal_text n) ≡ n
decimal_text-value = decimal_text_by_steps (λ n digits. digits_value 10 digits ≡ n) (λ n h. omega (arith, value_of n h))
    (λ n digits h is. after-append 0 digits ((48 + n % 10) ∷ []) ∙ omega (arith, is, value_of (n % 10) (omega arith)))

pub decimal_text-differ : NumbersDiffer
decimal_text-differ m n is = sym (decimal_text-value m) ∙ ap (digits_value 10) is ∙ decimal_text-value n

pub reads_back : NumbersReadBack
unfolding Leads
reads_back n = record {
  digits = decimal_text-digits n;
  some = (leads n).0;
  lead = (leads n).1;
  short = decimal_text-short n;
  long = decimal_text-long n;
  value = decimal_text-value n;
}

-- ---- digits of a number

-- the value of a digit
digit_is : (c : ℕ) → is_ascii_digit c ≡ true → (48 ≤ c) × (c < 58) × (digit_value c + 48 ≡ c)
digit_is c h =
    let low : 48 ≤ c = grind (arith, nat_tests) in
    let high : c < 58 = grind (arith, nat_tests) in
    let back : 48 + (c - 48) ≡ c = omega arith in
    let value : digit_value c ≡ c - 48 = sym (ap digit_value back) ∙ value_of (c - 48) (omega arith) in
    (low, high, omega (arith, value))

one_behind : (n v c : ℕ) → 0 < n → v + 48 ≡ c → v < 10 → decimal_text (n * 10 + v) ≡ decimal_text n ++ c ∷ []
one_behind n v c some is small =
    let tenth : (n * 10 + v) / 10 ≡ n = omega arith in
    let last : 48 + (n * 10 + v) % 10 ≡ c = omega arith in
    decimal_text-more (n * 10 + v) (omega arith) ∙ (λ i. decimal_text (tenth i) ++ (last i ∷ []))

text_after : (n : ℕ) (digits : List ℕ) → 0 < n → list_all is_ascii_digit digits ≡ true → decimal_text (digits_value_after 10 n digits) ≡ decimal_text n ++ digits
text_after n [] some all = sym (append-nil (decimal_text n))
text_after n (c ∷ digits) some all =
    let own = digit_is c (and_first (is_ascii_digit c) (list_all is_ascii_digit digits) all) in
    text_after (n * 10 + digit_value c) digits (omega arith) (and_second (is_ascii_digit c) (list_all is_ascii_digit digits) all)
    ∙ ap (λ front. front ++ digits) (one_behind n (digit_value c) c some own.2 (omega (arith, own.2, own.1)))
    ∙ append_assoc (decimal_text n) (c ∷ []) digits

one_alone : (c : ℕ) → is_ascii_digit c ≡ true → decimal_text (0 * 10 + digit_value c) ≡ c ∷ []
one_alone c h =
    let own = digit_is c h in
    let is : 48 + (0 * 10 + digit_value c) ≡ c = omega (arith, own.2) in
    decimal_text-one (0 * 10 + digit_value c) (omega (arith, own.2, own.1)) ∙ ap (λ x. x ∷ []) is

pub of_their_number : DigitsAreOfTheirNumber
of_their_number [] all some lead = absurd (omega arith)
of_their_number (c ∷ []) all some lead = one_alone c (and_first (is_ascii_digit c) true all)
of_their_number (c ∷ d ∷ digits) all some lead =
    let first = and_first (is_ascii_digit c) (list_all is_ascii_digit (d ∷ digits)) all in
    let own = digit_is c first in
    let other : 0 < 0 * 10 + digit_value c = not_zero c (digit_value c) own.0 own.2 (λ e. two e) in
    text_after (0 * 10 + digit_value c) (d ∷ digits) other (and_second (is_ascii_digit c) (list_all is_ascii_digit (d ∷ digits)) all)
    ∙ ap (λ front. front ++ (d ∷ digits)) (one_alone c first)
  where
    two : c ≡ 48 → ⊥
    two e = let one = lead e in omega arith

    not_zero : (c v : ℕ) → 48 ≤ c → v + 48 ≡ c → (c ≡ 48 → ⊥) → 0 < 0 * 10 + v
    not_zero c zero low is other = absurd (other (omega arith))
    not_zero c (suc v) low is other = omega arith
