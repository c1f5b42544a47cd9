-- Answers about pieces of a text, and numbers.
use Rattle.std.proofs.Common.{◌≡◌, ◌≢◌, ℕ, ◌≤◌, ◌++◌, true, false, List, [], length, get_or, Option, Some, None, sym, ◌∙◌, ap, subst, append-nil}
use Rattle.std.specs.Prelude.{IfSome, MatchOption}
use Rattle.std.specs.Borrow.{Bor}
use Rattle.std.specs.Str.Parse.{digits_value}
use Rattle.tpf_base.specs.declared.limits.TheConstants.{HIGHEST_NUMBER}
use Rattle.tpf_base.specs.Decimals.{decimal_text}
use Rattle.tpf_base.proofs.DecimalTexts.{of_their_number}
use Rattle.control_triples.specs.Controls.{is_count_text}
use Rattle.own_controls.proofs.Numbers.{count_bound, count_form}

pub stripped : (bytes text piece : List ℕ) (r : Option (Bor (List ℕ))) → text ≡ piece → MatchOption r ((rest : List ℕ) → bytes ≢ text ++ rest) (λ x. bytes ≡ text ++ x.now) → IfSome r (λ rest. bytes ≡ piece ++ rest.now)
stripped bytes text piece None e h = tt
stripped bytes text piece (Some rest) e h = h ∙ ap (λ (l : List ℕ). l ++ rest.now) e

-- what stands behind a text stands behind an equal one
pub behind_same : (bytes one other : List ℕ) (r : Option (Bor (List ℕ))) → one ≡ other → IfSome r (λ rest. bytes ≡ one ++ rest.now) → IfSome r (λ rest. bytes ≡ other ++ rest.now)
behind_same bytes one other None e h = tt
behind_same bytes one other (Some rest) e h = h ∙ ap (λ (l : List ℕ). l ++ rest.now) e

-- no piece stands in front of all
pub behind_none : (bytes piece : List ℕ) → piece ≡ [] → bytes ≡ piece ++ bytes
behind_none bytes piece none = ap (λ (l : List ℕ). l ++ bytes) (sym none)

-- ---- numbers

digits_again : (digits : List ℕ) (n : ℕ) → is_count_text digits ≡ true → n ≡ digits_value 10 digits → (get_or digits 0 0 ≡ 48 → length digits ≡ 1) → decimal_text n ≡ digits
digits_again digits n h is lead = let form = count_form digits h in ap decimal_text is ∙ of_their_number digits form.1 form.0 lead

pub number_digits : (digits : List ℕ) (r : Option ℕ) → (get_or digits 0 0 ≡ 48 → length digits ≡ 1) → MatchOption r (is_count_text digits ≡ false) (λ n. (is_count_text digits ≡ true) × (n ≡ digits_value 10 digits)) → IfSome r (λ n. decimal_text n ≡ digits)
number_digits digits None lead h = tt
number_digits digits (Some n) lead h = digits_again digits n h.0 h.1 lead

pub number_few : (digits : List ℕ) (r : Option ℕ) → (get_or digits 0 0 ≡ 48 → length digits ≡ 1) → MatchOption r (is_count_text digits ≡ false) (λ n. (is_count_text digits ≡ true) × (n ≡ digits_value 10 digits)) → IfSome r (λ n. n ≤ HIGHEST_NUMBER)
number_few digits None lead h = tt
number_few digits (Some n) lead h = count_bound n (subst (λ (l : List ℕ). is_count_text l ≡ true) (sym (digits_again digits n h.0 h.1 lead)) h.0)

-- ---- texts

pub template_is : (template base places over end : List ℕ) → template ≡ base ++ places → places ≡ end ++ over → over ≡ [] → template ≡ base ++ end
template_is template base places over end e f none = e ∙ ap (λ (l : List ℕ). base ++ l) (f ∙ ap (λ (l : List ℕ). end ++ l) none ∙ append-nil end)

-- a piece, and what stands behind one more
pub two_behind : (bytes a b two : List ℕ) (r : Option (Bor (List ℕ))) → bytes ≡ a ++ two → IfSome r (λ rest. two ≡ b ++ rest.now) → IfSome r (λ rest. bytes ≡ a ++ (b ++ rest.now))
two_behind bytes a b two None e h = tt
two_behind bytes a b two (Some rest) e h = e ∙ ap (λ (l : List ℕ). a ++ l) h

pub three_behind : (bytes a b d two three : List ℕ) (r : Option (Bor (List ℕ))) → bytes ≡ a ++ two → two ≡ b ++ three → IfSome r (λ rest. three ≡ d ++ rest.now) → IfSome r (λ rest. bytes ≡ a ++ (b ++ (d ++ rest.now)))
three_behind bytes a b d two three None e f h = tt
three_behind bytes a b d two three (Some rest) e f h = e ∙ ap (λ (l : List ℕ). a ++ l) (f ∙ ap (λ (l : List ℕ). b ++ l) h)

pub none_behind : (bytes text rest : List ℕ) → bytes ≡ text ++ rest → rest ≡ [] → bytes ≡ text
none_behind bytes text rest e none = e ∙ ap (λ (l : List ℕ). text ++ l) none ∙ append-nil text
