-- Chunk lines.
use Rattle.std.proofs.Common.{◌≡◌, ℕ, suc, zero, ◌+◌, ◌*◌, ◌-◌, ◌<◌, ◌≤◌, Bool, true, false, List, [], ◌∷◌, ◌++◌, length, take, get_or, Some, None, refl, sym, ap, ap₂, if◌then◌else◌, ◌∙◌, subst, arith, length-append}
use Rattle.std.specs.Prelude.{◌&&◌, ◌^◌, nat_lt, nat_le}
use Rattle.std.specs.List.{list_all}
use Rattle.std.specs.Char.{is_ascii_hexdigit, digit_value}
use Rattle.std.specs.Str.Parse.{digits_value, AllDigits}
use Rattle.std.proofs.lemmas.Grind.{common_steps}
use Rattle.std.proofs.lemmas.Int.Digits.{digits_value_more, digits_value-lt}
use Rattle.std.proofs.lemmas.Str.Parse.{digits_value-take-le}
use Rattle.std.proofs.Math.Nat.{pow-le-pow_right}
use Rattle.std.proofs.Common.{lit<}
use Rattle.httparse.specs.Grammar.{skip_ows}
use Rattle.tpf_base.specs.declared.limits.TheConstants.{MOST_CHUNK_DIGITS}
use Rattle.tpf_base.specs.HttpReader.{split_run}
use Rattle.tpf_base.specs.HttpReply.{chunk_size, size_of_run, is_line_rest}
use Rattle.list_laws.proofs.Lists.{front_of}
use Rattle.list_laws.proofs.Tests.{and_first, and_second}

pub hex_digit : (digits : List ℕ) (i : ℕ) → list_all is_ascii_hexdigit digits ≡ true → i < length digits → is_ascii_hexdigit (get_or digits i 0) ≡ true
hex_digit [] i all h = absurd (omega arith)
hex_digit (d ∷ ds) zero all h = and_first _ _ all
hex_digit (d ∷ ds) (suc i) all h = hex_digit ds i (and_second _ _ all) (omega arith)

pub hex_step : (digits : List ℕ) (i : ℕ) → i < length digits → digits_value 16 (take (i + 1) digits) ≡ digits_value 16 (take i digits) * 16 + digit_value (get_or digits i 0)
hex_step digits i h = digits_value_more 16 digits i h

pub hex_front : (digits : List ℕ) (i : ℕ) → digits_value 16 (take i digits) ≤ digits_value 16 digits
hex_front digits i = digits_value-take-le 16 digits i (omega arith)

hex_below : (c : ℕ) → is_ascii_hexdigit c ≡ true → digit_value c < 16
hex_below c h = grind (arith, common_steps)

all_hex : (digits : List ℕ) → list_all is_ascii_hexdigit digits ≡ true → AllDigits 16 digits
all_hex [] all = tt
all_hex (d ∷ ds) all = (hex_below d (and_first _ _ all), all_hex ds (and_second _ _ all))

pub hex_fits : (digits : List ℕ) → list_all is_ascii_hexdigit digits ≡ true → length digits ≤ 15 → digits_value 16 digits < 2 ^ 60
hex_fits digits all few =
    let below : digits_value 16 digits < 16 ^ length digits = digits_value-lt 16 digits (all_hex digits all) in
    let most : 16 ^ length digits ≤ 1152921504606846976 = pow-le-pow_right (lit< tt) few in
    omega arith

-- ---- runs

-- one more byte of a run, or its end
abbrev run_by : Bool → ℕ → List ℕ → List ℕ × List ℕ → List ℕ × List ℕ
run_by true b bs run = (b ∷ run.0, run.1)
run_by false b bs run = ([], b ∷ bs)

run_at : (test : ℕ → Bool) (b : ℕ) (bs : List ℕ) (v : Bool) → test b ≡ v → split_run test (b ∷ bs) ≡ run_by v b bs (split_run test bs)
unfolding split_run
run_at test b bs true e = rw e refl
run_at test b bs false e = rw e refl

whole_case : (v : Bool) (b : ℕ) (bs : List ℕ) (run : List ℕ × List ℕ) → bs ≡ run.0 ++ run.1 → (b ∷ bs) ≡ (run_by v b bs run).0 ++ (run_by v b bs run).1
whole_case true b bs run is = ap (λ (x : List ℕ). b ∷ x) is
whole_case false b bs run is = refl

passes_case : (test : ℕ → Bool) (v : Bool) (b : ℕ) (bs : List ℕ) (run : List ℕ × List ℕ) → test b ≡ v → list_all test run.0 ≡ true → list_all test (run_by v b bs run).0 ≡ true
passes_case test true b bs run e rest = rw e rest
passes_case test false b bs run e rest = refl

run_whole : (test : ℕ → Bool) (text : List ℕ) → text ≡ (split_run test text).0 ++ (split_run test text).1
unfolding split_run
run_whole test [] = refl
run_whole test (b ∷ bs) =
    subst (λ (run : List ℕ × List ℕ). (b ∷ bs) ≡ run.0 ++ run.1) (sym (run_at test b bs (test b) refl)) (whole_case (test b) b bs (split_run test bs) (run_whole test bs))

run_passes : (test : ℕ → Bool) (text : List ℕ) → list_all test (split_run test text).0 ≡ true
unfolding split_run
run_passes test [] = refl
run_passes test (b ∷ bs) =
    subst (λ (run : List ℕ × List ℕ). list_all test run.0 ≡ true) (sym (run_at test b bs (test b) refl)) (passes_case test (test b) b bs (split_run test bs) refl (run_passes test bs))

pub run_all : (text digits : List ℕ) → digits ≡ (split_run is_ascii_hexdigit text).0 → list_all is_ascii_hexdigit digits ≡ true
run_all text digits is = ap (list_all is_ascii_hexdigit) is ∙ run_passes is_ascii_hexdigit text

run_count : (test : ℕ → Bool) (text : List ℕ) → length text ≡ length (split_run test text).0 + length (split_run test text).1
run_count test text = ap (λ (x : List ℕ). length x) (run_whole test text) ∙ length-append (split_run test text).0 (split_run test text).1

-- the digits at the front of a line, where this is what follows them
pub run_front : (test : ℕ → Bool) (text rest : List ℕ) → rest ≡ (split_run test text).1
    → (length rest ≤ length text) × (take (length text - length rest) text ≡ (split_run test text).0)
run_front test text rest is =
    let count = run_count test text in
    let same : length rest ≡ length (split_run test text).1 = ap (λ (x : List ℕ). length x) is in
    let place : length text - length rest ≡ length (split_run test text).0 = omega arith in
    (omega arith, ap₂ (λ (n : ℕ) (x : List ℕ). take n x) place (run_whole test text) ∙ front_of (split_run test text).0 (split_run test text).1)

-- the size of a line with these parts
pub size_is : (line digits rest : List ℕ) (v : Bool) → digits ≡ (split_run is_ascii_hexdigit line).0 → rest ≡ (split_run is_ascii_hexdigit line).1
    → (nat_lt 0 (length digits) && (nat_le (length digits) MOST_CHUNK_DIGITS && is_line_rest (skip_ows rest))) ≡ v → chunk_size line ≡ (if v then Some (digits_value 16 digits) else None)
unfolding chunk_size
size_is line digits rest v front behind e =
    ap₂ (λ (d r : List ℕ). size_of_run (d, r)) (sym front) (sym behind) ∙ ap (λ (b : Bool). if b then Some (digits_value 16 digits) else None) e

few_digits : (n : ℕ) (b : Bool) → (nat_lt 0 n && (nat_le n MOST_CHUNK_DIGITS && b)) ≡ true → n ≤ 15
few_digits n b e = at_most n (and_first _ _ (and_second _ _ e))
  where
    at_most : (n : ℕ) → nat_le n 15 ≡ true → n ≤ 15
    at_most n h = grind (arith, common_steps)

pub parts_fit : (line digits rest : List ℕ) → digits ≡ (split_run is_ascii_hexdigit line).0 → (nat_lt 0 (length digits) && (nat_le (length digits) MOST_CHUNK_DIGITS && is_line_rest (skip_ows rest))) ≡ true
    → digits_value 16 digits < 2 ^ 60
parts_fit line digits rest front fit = hex_fits digits (run_all line digits front) (few_digits (length digits) _ fit)
