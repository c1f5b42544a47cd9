-- Where a head ends, when more bytes come.
use Rattle.std.proofs.Common.{◌≡◌, ℕ, suc, zero, ◌+◌, ◌-◌, ◌<◌, ◌≤◌, Bool, true, false, List, ◌++◌, length, Option, Some, None, refl, ap₂, arith}
use Rattle.std.specs.Prelude.{slice_index}
use Rattle.std.proofs.lemmas.Grind.{common_steps}
use Rattle.tpf_base.specs.HttpHeads.{ends_empty, least_below, head_length, or_this}

pub least_found : (n : ℕ) (test : ℕ → Bool) (k : ℕ) → least_below k test ≡ None → test k ≡ true → k < n → least_below n test ≡ Some k
unfolding least_below
least_found zero test k none passes below = absurd (omega arith)
least_found (suc n) test k none passes below = grind (arith, common_steps, least_found n test k none passes)

pub least_step : (n : ℕ) (test : ℕ → Bool) → least_below n test ≡ None → test n ≡ false → least_below (n + 1) test ≡ None
unfolding least_below
least_step n test none fails = grind (arith, common_steps)

pub least_same : (n : ℕ) (s t : ℕ → Bool) → ((k : ℕ) → k < n → s k ≡ t k) → least_below n s ≡ least_below n t
unfolding least_below
least_same zero s t same = refl
least_same (suc n) s t same = ap₂ (λ (o : Option ℕ) (v : Bool). or_this o v n) (least_same n s t (λ k h. same k (omega arith))) (same n (omega arith))

index_front : (xs ys : List ℕ) (k : ℕ) → k < length xs → slice_index (xs ++ ys) k ≡ slice_index xs k
index_front xs ys k h = grind (arith, common_steps)

ends_empty_within : (xs ys : List ℕ) (n : ℕ) → 1 < n → n ≤ length xs → ends_empty (xs ++ ys) n ≡ ends_empty xs n
unfolding ends_empty
ends_empty_within xs ys n more h =
    let first : slice_index (xs ++ ys) (n - 1) ≡ slice_index xs (n - 1) = index_front xs ys (n - 1) (omega arith) in
    let second : slice_index (xs ++ ys) (n - 2) ≡ slice_index xs (n - 2) = index_front xs ys (n - 2) (omega arith) in
    let third : slice_index (xs ++ ys) (n - 3) ≡ slice_index xs (n - 3) = index_front xs ys (n - 3) (omega arith) in
    cc

pub ends_empty_front : (xs ys : List ℕ) (n : ℕ) → n ≤ length xs → ends_empty (xs ++ ys) n ≡ ends_empty xs n
unfolding ends_empty
ends_empty_front xs ys zero h = refl
ends_empty_front xs ys (suc zero) h = refl
ends_empty_front xs ys (suc (suc n)) h = ends_empty_within xs ys (suc (suc n)) (omega arith) h

least_case : (n : ℕ) (o : Option ℕ) (v : Bool) (k : ℕ) → ((j : ℕ) → o ≡ Some j → j < n) → or_this o v n ≡ Some k → k < suc n
least_case n None true k before f = let same : n ≡ k = cc in omega arith
least_case n None false k before f = absurd cc
least_case n (Some j) v k before f = let same : j ≡ k = cc in let below = before j refl in omega arith

least_lt : (n : ℕ) (test : ℕ → Bool) (k : ℕ) → least_below n test ≡ Some k → k < n
unfolding least_below
least_lt zero test k is = absurd cc
least_lt (suc n) test k is = least_case n (least_below n test) (test n) k (λ j e. least_lt n test j e) is

pub head_within : (bytes : List ℕ) (n : ℕ) → head_length bytes ≡ Some n → n ≤ length bytes
head_within bytes n is = let below = least_lt (length bytes + 1) (ends_empty bytes) n is in omega arith
