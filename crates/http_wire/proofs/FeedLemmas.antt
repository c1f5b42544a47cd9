-- What stays known of a feed's bytes when more come or some are given.
use Rattle.std.proofs.Common.{◌≡◌, ℕ, suc, zero, ◌+◌, ◌-◌, ◌<◌, ◌≤◌, ◌==◌, Bool, true, false, List, [], ◌∷◌, ◌++◌, length, take, drop, Option, Some, None, refl, sym, ap, if◌then◌else◌, ◌∙◌, subst, arith, length-append, length-drop}
use Rattle.std.specs.Prelude.{nat_lt, nat_le, ◌&&◌}
use Rattle.std.proofs.lemmas.List.{drop-append-le, length-take-le, take-append-drop, take-append-le}
use Rattle.std.proofs.lemmas.Grind.{common_steps}
use Rattle.tpf_base.specs.HttpHeads.{blank_length, ends_empty, least_below, head_length, NextRequest, Incomplete, Refused, next_at, next_request, with_length, judged}
use Rattle.http_wire.specs.Searches.{IsSearched}
use Rattle.http_wire.proofs.HeadLemmas.{ends_empty_front, least_same}

pub least_of_none : (test : ℕ → Bool) → least_below 0 test ≡ None
unfolding least_below
least_of_none test = refl

-- ---- empty lines

-- the front is empty lines
pub blank_append : (xs ys : List ℕ) → blank_length xs ≡ length xs → blank_length (xs ++ ys) ≡ length xs + blank_length ys
unfolding blank_length
blank_append [] ys all = sym (zero_add _)
  where
    zero_add : (n : ℕ) → 0 + n ≡ n
    zero_add n = omega arith
blank_append (b ∷ []) [] all = all
blank_append (b ∷ []) (c ∷ ys) all = grind (arith, common_steps)
blank_append (b ∷ c ∷ bs) ys all = grind (arith, common_steps, blank_append (c ∷ bs) ys, blank_append bs ys)

pub blank_within : (xs : List ℕ) → blank_length xs ≤ length xs
unfolding blank_length
blank_within [] = omega arith
blank_within (b ∷ []) = grind (arith, common_steps)
blank_within (b ∷ c ∷ bs) = grind (arith, common_steps, blank_within (c ∷ bs), blank_within bs)

pub blank_resumes : (held : List ℕ) (k : ℕ) → k ≤ length held → blank_length (take k held) ≡ k → blank_length held ≡ k + blank_length (drop k held)
blank_resumes held k within empty =
    let count : length (take k held) ≡ k = length-take-le k held within in
    let whole : take k held ++ drop k held ≡ held = take-append-drop k held in
    ap blank_length (sym whole) ∙ blank_append (take k held) (drop k held) (empty ∙ sym count) ∙ ap (λ (n : ℕ). n + blank_length (drop k held)) count

-- the empty lines at the front are empty lines
pub blank_taken : (xs : List ℕ) → blank_length (take (blank_length xs) xs) ≡ blank_length xs
unfolding blank_length
blank_taken [] = refl
blank_taken (b ∷ []) = taken_one (b == 10) refl
  where
    taken_one : (v : Bool) → (b == 10) ≡ v → blank_length (take (if v then 1 else 0) (b ∷ [])) ≡ (if v then 1 else 0)
    taken_one true e = rw e refl
    taken_one false e = refl
blank_taken (b ∷ c ∷ bs) = taken_two (blank_taken (c ∷ bs)) (blank_taken bs) (b == 10) (b == 13 && c == 10) refl refl
  where
    feed_on : (xs : List ℕ) → (b == 10) ≡ true → blank_length (b ∷ xs) ≡ suc (blank_length xs)
    feed_on [] e = rw e refl
    feed_on (d ∷ ds) e = rw e refl

    taken_two : blank_length (take (blank_length (c ∷ bs)) (c ∷ bs)) ≡ blank_length (c ∷ bs) → blank_length (take (blank_length bs) bs) ≡ blank_length bs
        → (v w : Bool) → (b == 10) ≡ v → (b == 13 && c == 10) ≡ w
        → blank_length (take (if v then suc (blank_length (c ∷ bs)) else (if w then suc (suc (blank_length bs)) else 0)) (b ∷ c ∷ bs)) ≡ (if v then suc (blank_length (c ∷ bs)) else (if w then suc (suc (blank_length bs)) else 0))
    taken_two one two true w e f = feed_on (take (blank_length (c ∷ bs)) (c ∷ bs)) e ∙ ap (λ (n : ℕ). suc n) one
    taken_two one two false true e f = rw (e, f) (ap (λ (n : ℕ). suc (suc n)) two)
    taken_two one two false false e f = refl

-- none stands behind them
pub blank_behind : (xs : List ℕ) → blank_length (drop (blank_length xs) xs) ≡ 0
unfolding blank_length
blank_behind [] = refl
blank_behind (b ∷ []) = grind (arith, common_steps)
blank_behind (b ∷ c ∷ bs) = grind (arith, common_steps, blank_behind (c ∷ bs), blank_behind bs)

blank_cut : (n : ℕ) (xs : List ℕ) → blank_length xs ≡ 0 → blank_length (take n xs) ≡ 0
unfolding blank_length
blank_cut zero xs none = refl
blank_cut (suc n) [] none = refl
blank_cut (suc n) (b ∷ []) none = none_of_one n b none
  where
    none_of_one : (n b : ℕ) → blank_length (b ∷ []) ≡ 0 → blank_length (b ∷ take n []) ≡ 0
    none_of_one zero b none = none
    none_of_one (suc n) b none = none
blank_cut (suc zero) (b ∷ c ∷ bs) none = grind (arith, common_steps)
blank_cut (suc (suc n)) (b ∷ c ∷ bs) none = grind (arith, common_steps)

-- ---- the whole

pub unsearched : (held : List ℕ) → IsSearched held 0 0
unfolding blank_length
unsearched held = record { within = omega arith; empty = refl; none = least_of_none _; searched_within = omega arith }

pub searched_more : (held piece : List ℕ) (blank searched : ℕ) → IsSearched held blank searched → IsSearched (held ++ piece) blank searched
searched_more held piece blank searched s =
    let behind : drop blank (held ++ piece) ≡ drop blank held ++ piece = drop-append-le blank held piece s.within in
    let count : length (drop blank held ++ piece) ≡ length (drop blank held) + length piece = length-append (drop blank held) piece in
    let same : (k : ℕ) → k < searched → ends_empty (drop blank held ++ piece) k ≡ ends_empty (drop blank held) k =
    λ k h. let far = s.searched_within in ends_empty_front (drop blank held) piece k (omega arith) in
    record {
      within = let w = s.within in let whole : length (held ++ piece) ≡ length held + length piece = length-append held piece in omega arith;
      empty = ap blank_length (take-append-le blank held piece s.within) ∙ s.empty;
      none = ap (λ (x : List ℕ). least_below searched (ends_empty x)) behind ∙ least_same searched _ _ same ∙ s.none;
      searched_within = let far = s.searched_within in let whole = ap (λ (x : List ℕ). length x) behind in omega arith;
    }

pub kept_searched : (items piece after : List ℕ) (given blank searched : ℕ) → given + given ≤ length items → IsSearched (drop given items) blank searched
    → after ≡ items ++ piece → (given + given ≤ length after) × IsSearched (drop given after) blank searched
kept_searched items piece after given blank searched half s is =
    let within : given ≤ length items = omega arith in
    let count : length after ≡ length items + length piece = ap (λ (x : List ℕ). length x) is ∙ length-append items piece in
    let held : drop given after ≡ drop given items ++ piece = ap (λ (x : List ℕ). drop given x) is ∙ drop-append-le given items piece within in
    (omega arith, subst (λ (x : List ℕ). IsSearched x blank searched) (sym held) (searched_more (drop given items) piece blank searched s))

-- a search that found nothing
pub searched_all : (held : List ℕ) (blank searched : ℕ) → blank ≡ blank_length held → head_length (drop blank held) ≡ None → searched ≡ length held - blank + 1 → IsSearched held blank searched
searched_all held blank searched is none all =
    let within = blank_within held in
    let count : length (drop blank held) ≡ length held - blank = length-drop blank held in
    record {
      within = omega arith;
      empty = ap (λ (n : ℕ). blank_length (take n held)) is ∙ blank_taken held ∙ sym is;
      none = ap (λ (n : ℕ). least_below n (ends_empty (drop blank held))) (omega arith) ∙ none;
      searched_within = omega arith;
    }

-- no empty line stands at the front of a head
pub head_begins : (held : List ℕ) (blank n : ℕ) → blank ≡ blank_length held → blank_length (take n (drop blank held)) ≡ 0
head_begins held blank n is = blank_cut n (drop blank held) (ap (λ (k : ℕ). blank_length (drop k held)) is ∙ blank_behind held)

pub pass_within : (items : List ℕ) (given n : ℕ) (bytes : List ℕ) → drop given items ≡ bytes → given + given ≤ length items → n ≤ length bytes
    → given + n ≤ length items
pass_within items given n bytes held half few =
    let count : length bytes ≡ length items - given = ap (λ (x : List ℕ). length x) (sym held) ∙ length-drop given items in
    omega arith

pub note_searched : (items : List ℕ) (given blank searched : ℕ) (bytes : List ℕ) → drop given items ≡ bytes → given + given ≤ length items
    → blank ≡ blank_length bytes → head_length (drop blank bytes) ≡ None → searched ≡ length bytes - blank + 1
    → (given + given ≤ length items) × IsSearched (drop given items) blank searched
note_searched items given blank searched bytes held half is none all =
    (half, subst (λ (x : List ℕ). IsSearched x blank searched) (sym held) (searched_all bytes blank searched is none all))

-- ---- what stands next

next_is : (bytes : List ℕ) (blank : ℕ) (found : Option ℕ) → blank ≡ blank_length bytes → found ≡ head_length (drop blank bytes) → next_request bytes ≡ next_at bytes blank found
unfolding next_request
next_is bytes blank found is head =
    ap (λ (k : ℕ). next_at bytes k (head_length (drop k bytes))) (sym is) ∙ ap (next_at bytes blank) (sym head)

pub next_full : (bytes : List ℕ) (blank : ℕ) (found : Option ℕ) → blank ≡ blank_length bytes → found ≡ head_length (drop blank bytes) → found ≡ None
    → 4194304 ≤ length bytes → next_request bytes ≡ Refused 431
next_full bytes blank found is head none full =
    next_is bytes blank found is head ∙ ap (next_at bytes blank) none ∙ at_full (length bytes) full
  where
    at_full : (n : ℕ) → 4194304 ≤ n → (if nat_le 4194304 n then Refused 431 else Incomplete) ≡ Refused 431
    at_full n full = grind (arith, common_steps)

pub next_more : (bytes : List ℕ) (blank : ℕ) (found : Option ℕ) → blank ≡ blank_length bytes → found ≡ head_length (drop blank bytes) → found ≡ None
    → length bytes < 4194304 → next_request bytes ≡ Incomplete
next_more bytes blank found is head none few =
    next_is bytes blank found is head ∙ ap (next_at bytes blank) none ∙ at_few (length bytes) few
  where
    at_few : (n : ℕ) → n < 4194304 → (if nat_le 4194304 n then Refused 431 else Incomplete) ≡ Incomplete
    at_few n few = grind (arith, common_steps)

pub next_long : (bytes : List ℕ) (blank : ℕ) (found : Option ℕ) (n : ℕ) → blank ≡ blank_length bytes → found ≡ head_length (drop blank bytes) → found ≡ Some n
    → 4194304 < blank + n → next_request bytes ≡ Refused 431
next_long bytes blank found n is head some long =
    next_is bytes blank found is head ∙ ap (next_at bytes blank) some ∙ at_long (blank + n) _ long
  where
    at_long : (k : ℕ) (r : NextRequest) → 4194304 < k → (if nat_lt 4194304 k then Refused 431 else r) ≡ Refused 431
    at_long k r long = grind (arith, common_steps)

pub next_judged : (bytes : List ℕ) (blank : ℕ) (found : Option ℕ) (n : ℕ) → blank ≡ blank_length bytes → found ≡ head_length (drop blank bytes) → found ≡ Some n
    → blank + n ≤ 4194304 → next_request bytes ≡ with_length (blank + n) (judged (take n (drop blank bytes)))
next_judged bytes blank found n is head some short =
    next_is bytes blank found is head ∙ ap (next_at bytes blank) some ∙ at_short (blank + n) _ short
  where
    at_short : (k : ℕ) (r : NextRequest) → k ≤ 4194304 → (if nat_lt 4194304 k then Refused 431 else r) ≡ r
    at_short k r short = grind (arith, common_steps)
