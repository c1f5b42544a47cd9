-- The bytes that follow a whole request, or a refusal, do not change it.
use Rattle.std.proofs.Common.{◌≡◌, ℕ, suc, zero, ◌+◌, ◌-◌, ◌<◌, ◌≤◌, Bool, true, false, List, [], ◌∷◌, ◌++◌, length, take, drop, Option, Some, None, refl, sym, ap, if◌then◌else◌, ◌∙◌, subst, arith, length-append, length-drop, append_assoc}
use Rattle.std.specs.Prelude.{nat_lt, nat_le, ◌&&◌}
use Rattle.std.proofs.lemmas.Grind.{common_steps}
use Rattle.std.proofs.lemmas.List.{drop-append-le, length-take-le, take-append-drop, take-append-le}
use Rattle.tpf_base.specs.HttpHeads.{Request, Verdict, Accepted, Rejected, NextRequest, Incomplete, Taken, Refused, next_request, next_at, with_length, judged, blank_length, head_length, least_below, ends_empty, or_this}
use Rattle.http_wire.proofs.HeadLemmas.{least_same, ends_empty_front, head_within}
use Rattle.http_wire.proofs.FeedLemmas.{blank_append, blank_taken, blank_behind, blank_within}

-- ---- the least number that passes

least_grows : (a b : ℕ) (test : ℕ → Bool) (m : ℕ) → least_below a test ≡ Some m → a ≤ b → least_below b test ≡ Some m
unfolding least_below
least_grows a zero test m is h = let all : a ≡ zero = omega arith in subst (λ (n : ℕ). least_below n test ≡ Some m) all is
least_grows a (suc b) test m is h = grow (nat_le a b) refl (λ within. least_grows a b test m is within)
  where
    at_most : (a b : ℕ) → nat_le a b ≡ true → a ≤ b
    at_most a b e = grind (arith, common_steps)

    all : (a b : ℕ) → nat_le a b ≡ false → a ≤ suc b → a ≡ suc b
    all a b e h = grind (arith, common_steps)

    grow : (v : Bool) → nat_le a b ≡ v → (a ≤ b → least_below b test ≡ Some m) → least_below (suc b) test ≡ Some m
    grow true e smaller = ap (λ (o : Option ℕ). or_this o (test b) b) (smaller (at_most a b e))
    grow false e smaller = subst (λ (n : ℕ). least_below n test ≡ Some m) (all a b e h) is

test_case : (n : ℕ) (test : ℕ → Bool) (o : Option ℕ) (v : Bool) (m : ℕ) → ((j : ℕ) → o ≡ Some j → test j ≡ true) → test n ≡ v → or_this o v n ≡ Some m → test m ≡ true
test_case n test None true m before e f = let same : n ≡ m = cc in subst (λ (k : ℕ). test k ≡ true) same e
test_case n test None false m before e f = absurd cc
test_case n test (Some j) v m before e f = let same : j ≡ m = cc in subst (λ (k : ℕ). test k ≡ true) same (before j refl)

least_passes : (n : ℕ) (test : ℕ → Bool) (m : ℕ) → least_below n test ≡ Some m → test m ≡ true
unfolding least_below
least_passes zero test m is = absurd cc
least_passes (suc n) test m is = test_case n test (least_below n test) (test n) m (λ j e. least_passes n test j e) refl is

none_case : (n : ℕ) (test : ℕ → Bool) (o : Option ℕ) (v : Bool) (k : ℕ) → (o ≡ None → k < n → test k ≡ false) → test n ≡ v → or_this o v n ≡ None → k < suc n → test k ≡ false
none_case n test None true k before e f h = absurd cc
none_case n test None false k before e f h = last (nat_lt k n) refl
  where
    last : (w : Bool) → nat_lt k n ≡ w → test k ≡ false
    last true w = before refl (below k n w)
      where
        below : (k n : ℕ) → nat_lt k n ≡ true → k < n
        below k n w = grind (arith, common_steps)
    last false w = subst (λ (j : ℕ). test j ≡ false) (same k n w h) e
      where
        same : (k n : ℕ) → nat_lt k n ≡ false → k < suc n → n ≡ k
        same k n w h = grind (arith, common_steps)
none_case n test (Some j) v k before e f h = absurd cc

least_none : (n : ℕ) (test : ℕ → Bool) (k : ℕ) → least_below n test ≡ None → k < n → test k ≡ false
unfolding least_below
least_none zero test k none h = absurd (omega arith)
least_none (suc n) test k none h = none_case n test (least_below n test) (test n) k (λ e below. least_none n test k e below) refl none h

ends_two : (bytes : List ℕ) (n : ℕ) → ends_empty bytes n ≡ true → 2 ≤ n
unfolding ends_empty
ends_two bytes n h = two n _ h
  where
    two : (n : ℕ) (b : Bool) → (nat_lt 1 n && b) ≡ true → 2 ≤ n
    two n b h = grind (arith, common_steps)

-- ---- where a head was found

blank_long : (zs ys : List ℕ) → blank_length zs ≡ 0 → 2 ≤ length zs → blank_length (zs ++ ys) ≡ 0
unfolding blank_length
blank_long [] ys none h = absurd (omega arith)
blank_long (b ∷ []) ys none h = absurd (omega arith)
blank_long (b ∷ c ∷ bs) ys none h = grind (arith, common_steps)

blank_split : (xs ys : List ℕ) → blank_length (xs ++ ys) ≡ blank_length xs + blank_length (drop (blank_length xs) xs ++ ys)
blank_split xs ys =
    let k = blank_length xs in
    let count : length (take k xs) ≡ k = length-take-le k xs (blank_within xs) in
    let parts : take k xs ++ (drop k xs ++ ys) ≡ xs ++ ys = sym (append_assoc (take k xs) (drop k xs) ys) ∙ ap (λ (x : List ℕ). x ++ ys) (take-append-drop k xs) in
    ap blank_length (sym parts) ∙ blank_append (take k xs) (drop k xs ++ ys) (blank_taken xs ∙ sym count) ∙ ap (λ (n : ℕ). n + blank_length (drop k xs ++ ys)) count

found_stays : (zs ys : List ℕ) (m : ℕ) → head_length zs ≡ Some m → head_length (zs ++ ys) ≡ Some m
found_stays zs ys m is =
    let count : length (zs ++ ys) ≡ length zs + length ys = length-append zs ys in
    least_grows (length zs + 1) (length (zs ++ ys) + 1) (ends_empty (zs ++ ys)) m
    (least_same (length zs + 1) (ends_empty (zs ++ ys)) (ends_empty zs) (λ k h. ends_empty_front zs ys k (omega arith)) ∙ is) (omega arith)

pub same_where_found : (xs ys : List ℕ) (m : ℕ) → head_length (drop (blank_length xs) xs) ≡ Some m → next_request (xs ++ ys) ≡ next_request xs
unfolding next_request
same_where_found xs ys m is =
    let k = blank_length xs in
    let zs : List ℕ = drop (blank_length xs) xs in
    let within : m ≤ length zs = head_within zs m is in
    let two : 2 ≤ m = ends_two zs m (least_passes (length zs + 1) (ends_empty zs) m is) in
    let behind : blank_length (zs ++ ys) ≡ 0 = blank_long zs ys (blank_behind xs) (omega arith) in
    let blank : blank_length (xs ++ ys) ≡ blank_length xs = blank_split xs ys ∙ ap (λ (n : ℕ). blank_length xs + n) behind ∙ plus_none (blank_length xs) in
    let rest : drop (blank_length xs) (xs ++ ys) ≡ zs ++ ys = drop-append-le (blank_length xs) xs ys (blank_within xs) in
    let front : take m (drop (blank_length xs) (xs ++ ys)) ≡ take m zs = ap (take m) rest ∙ take-append-le m zs ys within in
    ap (λ (n : ℕ). next_at (xs ++ ys) n (head_length (drop n (xs ++ ys)))) blank
    ∙ ap (λ (z : List ℕ). next_at (xs ++ ys) (blank_length xs) (head_length z)) rest
    ∙ ap (next_at (xs ++ ys) (blank_length xs)) (found_stays zs ys m is)
    ∙ ap (λ (z : List ℕ). if nat_lt 4194304 (blank_length xs + m) then Refused 431 else with_length (blank_length xs + m) (judged z)) front
    ∙ sym (ap (next_at xs (blank_length xs)) is)
  where
    plus_none : (n : ℕ) → n + 0 ≡ n
    plus_none n = omega arith

-- ---- the laws

shown_taken : (v : Verdict) (k n : ℕ) (r : Request) → with_length k v ≡ Taken r n → k ≡ n
shown_taken (Accepted q) k n r e = cc
shown_taken (Rejected status) k n r e = absurd cc

long_taken : (v : Bool) (k n : ℕ) (verdict : Verdict) (r : Request) → (if v then Refused 431 else with_length k verdict) ≡ Taken r n → k ≡ n
long_taken true k n verdict r e = absurd cc
long_taken false k n verdict r e = shown_taken verdict k n r e

none_taken : (v : Bool) (r : Request) (n : ℕ) → (if v then Refused 431 else Incomplete) ≡ Taken r n → ⊥
none_taken true r n e = cc
none_taken false r n e = cc

taken_case : (xs ys : List ℕ) (r : Request) (n : ℕ) (o : Option ℕ) → head_length (drop (blank_length xs) xs) ≡ o → next_at xs (blank_length xs) o ≡ Taken r n
    → (next_request (xs ++ ys) ≡ next_request xs) × (0 < n) × (n ≤ length xs)
taken_case xs ys r n None e is = absurd (none_taken (nat_le 4194304 (length xs)) r n is)
taken_case xs ys r n (Some m) e is =
    let zs : List ℕ = drop (blank_length xs) xs in
    let within : m ≤ length zs = head_within zs m e in
    let two : 2 ≤ m = ends_two zs m (least_passes (length zs + 1) (ends_empty zs) m e) in
    let count : length zs ≡ length xs - blank_length xs = length-drop (blank_length xs) xs in
    let blank = blank_within xs in
    let all : blank_length xs + m ≡ n = long_taken (nat_lt 4194304 (blank_length xs + m)) (blank_length xs + m) n (judged (take m zs)) r is in
    (same_where_found xs ys m e, omega arith, omega arith)

taken_parts : (xs ys : List ℕ) (r : Request) (n : ℕ) → next_request xs ≡ Taken r n → (next_request (xs ++ ys) ≡ next_request xs) × (0 < n) × (n ≤ length xs)
unfolding next_request
taken_parts xs ys r n is = taken_case xs ys r n (head_length (drop (blank_length xs) xs)) refl is

pub taken_stays : (xs ys : List ℕ) (r : Request) (n : ℕ) → next_request xs ≡ Taken r n → next_request (xs ++ ys) ≡ Taken r n
taken_stays xs ys r n is = (taken_parts xs ys r n is).0 ∙ is

pub taken_within : (xs : List ℕ) (r : Request) (n : ℕ) → next_request xs ≡ Taken r n → (0 < n) × (n ≤ length xs)
taken_within xs r n is = let parts = taken_parts xs [] r n is in (parts.1, parts.2)

full_case : (v : Bool) (n status : ℕ) → nat_le 4194304 n ≡ v → (if v then Refused 431 else Incomplete) ≡ Refused status → (4194304 ≤ n) × (Refused 431 ≡ Refused status)
full_case true n status e is = (at_least n e, is)
  where
    at_least : (n : ℕ) → nat_le 4194304 n ≡ true → 4194304 ≤ n
    at_least n e = grind (arith, common_steps)
full_case false n status e is = absurd cc

-- a head that is found later ends past the bytes without one
later : (xs ys : List ℕ) (m : ℕ) → head_length (drop (blank_length xs) xs) ≡ None → head_length (drop (blank_length (xs ++ ys)) (xs ++ ys)) ≡ Some m
    → length xs < blank_length (xs ++ ys) + m
later xs ys m none found = apart (nat_le (blank_length (xs ++ ys) + m) (length xs)) refl
  where
    at_most : (a b : ℕ) → nat_le a b ≡ true → a ≤ b
    at_most a b e = grind (arith, common_steps)

    above : (a b : ℕ) → nat_le a b ≡ false → b < a
    above a b e = grind (arith, common_steps)

    apart : (v : Bool) → nat_le (blank_length (xs ++ ys) + m) (length xs) ≡ v → length xs < blank_length (xs ++ ys) + m
    apart false e = above (blank_length (xs ++ ys) + m) (length xs) e
    apart true e =
        let fits = at_most (blank_length (xs ++ ys) + m) (length xs) e in
        let split = blank_split xs ys in
        let passes : ends_empty (drop (blank_length (xs ++ ys)) (xs ++ ys)) m ≡ true = least_passes _ (ends_empty (drop (blank_length (xs ++ ys)) (xs ++ ys))) m found in
        let two : 2 ≤ m = ends_two (drop (blank_length (xs ++ ys)) (xs ++ ys)) m passes in
        let count : length (drop (blank_length xs) xs) ≡ length xs - blank_length xs = length-drop (blank_length xs) xs in
        let behind : blank_length (drop (blank_length xs) xs ++ ys) ≡ 0 = blank_long (drop (blank_length xs) xs) ys (blank_behind xs) (omega arith) in
        let blank : blank_length (xs ++ ys) ≡ blank_length xs = omega arith in
        let rest : drop (blank_length (xs ++ ys)) (xs ++ ys) ≡ drop (blank_length xs) xs ++ ys = ap (λ (n : ℕ). drop n (xs ++ ys)) blank ∙ drop-append-le (blank_length xs) xs ys (blank_within xs) in
        let inside : ends_empty (drop (blank_length xs) xs) m ≡ true = sym (ends_empty_front (drop (blank_length xs) xs) ys m (omega arith)) ∙ sym (ap (λ (z : List ℕ). ends_empty z m) rest) ∙ passes in
        let outside : ends_empty (drop (blank_length xs) xs) m ≡ false = least_none (length (drop (blank_length xs) xs) + 1) (ends_empty (drop (blank_length xs) xs)) m none (omega arith) in
        absurd cc

long_full : (n : ℕ) (q : NextRequest) → 4194304 < n → (if nat_lt 4194304 n then Refused 431 else q) ≡ Refused 431
long_full n q h = grind (arith, common_steps)

enough_full : (n : ℕ) → 4194304 ≤ n → (if nat_le 4194304 n then Refused 431 else Incomplete) ≡ Refused 431
enough_full n h = grind (arith, common_steps)

full_stays : (xs ys : List ℕ) (o : Option ℕ) → 4194304 ≤ length xs → head_length (drop (blank_length xs) xs) ≡ None → head_length (drop (blank_length (xs ++ ys)) (xs ++ ys)) ≡ o
    → next_at (xs ++ ys) (blank_length (xs ++ ys)) o ≡ Refused 431
full_stays xs ys None full none e = let count : length (xs ++ ys) ≡ length xs + length ys = length-append xs ys in enough_full (length (xs ++ ys)) (omega arith)
full_stays xs ys (Some m) full none e = let far = later xs ys m none e in long_full (blank_length (xs ++ ys) + m) _ (omega arith)

refused_case : (xs ys : List ℕ) (status : ℕ) (o : Option ℕ) → head_length (drop (blank_length xs) xs) ≡ o → next_at xs (blank_length xs) o ≡ Refused status → next_request (xs ++ ys) ≡ Refused status
unfolding next_request
refused_case xs ys status None e is =
    let full = full_case (nat_le 4194304 (length xs)) (length xs) status refl is in
    full_stays xs ys (head_length (drop (blank_length (xs ++ ys)) (xs ++ ys))) full.0 e refl ∙ full.1
refused_case xs ys status (Some m) e is = same_where_found xs ys m e ∙ ap (next_at xs (blank_length xs)) e ∙ is

pub refused_stays : (xs ys : List ℕ) (status : ℕ) → next_request xs ≡ Refused status → next_request (xs ++ ys) ≡ Refused status
unfolding next_request
refused_stays xs ys status is = refused_case xs ys status (head_length (drop (blank_length xs) xs)) refl is
