-- How often addresses are counted, over lists and over links.
use Rattle.std.proofs.Common.{ℕ, zero, suc, ◌≡◌, ◌≢◌, ◌+◌, ◌-◌, ◌*◌, ◌<◌, ◌≤◌, ◌==◌, ◌⊎◌, inl, inr, ◌++◌, Bool, true, false, cond, if◌then◌else◌, List, [], ◌∷◌, length, count_by, Option, Some, None, refl, sym, ◌∙◌, ap, arith}
use Rattle.std.proofs.Math.Nat.{mul-add}
use Rattle.std.proofs.lemmas.Bool.Decides.{eqb_tells}
use Rattle.std.proofs.lemmas.List.{map-append}
use Rattle.std.proofs.lemmas.List.Sums.{sum_by-cons, sum_by-append}
use Rattle.tpf_base.specs.Addresses.{Address}
use Rattle.request_pool.specs.declared.asks.Flight.{Flight}
use Rattle.request_pool.specs.declared.asks.Waiting.{Waiting}
use Rattle.std.proofs.lemmas.Bool.{cases_eq}
use Rattle.pool_laws.specs.Requested.{Exchanged, addresses_exchanged, NoneWhole, Unanswered, LinkRequests, last_whole, last_answered, over_links, any, left_waiting, left_flying, unsent}

-- ---- lists

pub count-cons : (test : Address → Bool) (x : Address) (xs : List Address) → count_by test (x ∷ xs) ≡ cond (test x) 1 0 + count_by test xs
count-cons test x xs = sum_by-cons (λ (y : Address). cond (test y) 1 0) x xs

pub count-append : (test : Address → Bool) (xs ys : List Address) → count_by test (xs ++ ys) ≡ count_by test xs + count_by test ys
count-append test xs ys = sum_by-append (λ (y : Address). cond (test y) 1 0) xs ys

pub count-one : (test : Address → Bool) (xs : List Address) (x : Address) → count_by test (xs ++ x ∷ []) ≡ count_by test xs + cond (test x) 1 0
count-one test xs x = let e : count_by test (x ∷ []) ≡ cond (test x) 1 0 + count_by test [] = count-cons test x [] in omega (arith, count-append test xs (x ∷ []), e)

pub count-nil : (test : Address → Bool) (xs : List Address) → count_by test (xs ++ []) ≡ count_by test xs
count-nil test xs = omega (arith, count-append test xs [])

pub all_count : (xs : List Address) → count_by any xs ≡ length xs
all_count [] = refl
all_count (x ∷ xs) = let one : count_by any (x ∷ xs) ≡ 1 + count_by any xs = count-cons any x xs in omega (arith, one, all_count xs)

pub nothing_counts : (v : Bool) (n : ℕ) → n ≡ 0 → cond v n 0 ≡ 0
nothing_counts true n e = e
nothing_counts false n e = refl

-- the last request of an exchange, whole or not
pub own_count : (v : Bool) (test : Address → Bool) (xs : List Address) (x : Address) → count_by test (xs ++ last_whole (if v then Unanswered x else NoneWhole)) ≡ count_by test xs + cond (test x) (if v then 1 else 0) 0
own_count true test xs x = count-one test xs x
own_count false test xs x = let z : cond (test x) 0 0 ≡ 0 = nothing_counts (test x) 0 refl in omega (arith, count-nil test xs, z)

pub own_answers : (v : Bool) (test : Address → Bool) (xs : List Address) (x : Address) → count_by test (xs ++ last_answered (if v then Unanswered x else NoneWhole)) ≡ count_by test xs
own_answers true test xs x = count-nil test xs
own_answers false test xs x = count-nil test xs

pub addresses-append : (xs ys : List Exchanged) → addresses_exchanged (xs ++ ys) ≡ addresses_exchanged xs ++ addresses_exchanged ys
addresses-append xs ys = map-append (λ (x : Exchanged). x.address) xs ys

-- ---- what may still be sent

pub left-append : (test : Address → Bool) (r : ℕ) (xs ys : List Flight) → left_flying test r (xs ++ ys) ≡ left_flying test r xs + left_flying test r ys
left-append test r [] ys = omega arith
left-append test r (x ∷ xs) ys = omega (arith, left-append test r xs ys)

pub unsent-append : (xs ys : List Flight) → unsent (xs ++ ys) ≡ unsent xs + unsent ys
unsent-append [] ys = omega arith
unsent-append (x ∷ xs) ys = omega (arith, unsent-append xs ys)

pub waiting-append : (test : Address → Bool) (r : ℕ) (xs ys : List Waiting) → left_waiting test r (xs ++ ys) ≡ left_waiting test r xs + left_waiting test r ys
waiting-append test r [] ys = omega arith
waiting-append test r (x ∷ xs) ys = omega (arith, waiting-append test r xs ys)

pub regroup : (s w x y z c : ℕ) → z ≡ x + y → s + (w + z) ≤ c → s + (w + (x + y)) ≤ c
regroup s w x y z c e h = omega (arith, e, h)

pub group_again : (s w x y z c : ℕ) → z ≡ x + y → s + (w + (x + y)) ≤ c → s + (w + z) ≤ c
group_again s w x y z c e h = omega (arith, e, h)

-- tries that are used, and those that are left
pub sent_on : (v : Bool) (s s' own own' failed r x l c : ℕ) → failed ≤ r → own ≤ 1 → own' ≤ 1 → s' + cond v own 0 ≡ s + cond v own' 0 → s + (cond v (r + 1 - (failed + own)) 0 + l) ≤ c → x + failed + own' ≤ r + 1
    → s' + (cond v x 0 + l) ≤ c
sent_on true s s' own own' failed r x l c few one one' e h i = omega (arith, few, one, one', e, h, i)
sent_on false s s' own own' failed r x l c few one one' e h i = omega (arith, e, h)

pub none_left : (v : Bool) (s l c : ℕ) → s + (cond v 0 0 + l) ≤ c → s + l ≤ c
none_left true s l c h = omega (arith, h)
none_left false s l c h = omega (arith, h)

pub started_on : (s s' own own' x l c : ℕ) → own ≤ 1 → s' + own ≡ s + own' → s + ((1 - own) + l) ≤ c → x + own' ≤ 1 → s' + (x + l) ≤ c
started_on s s' own own' x l c one e h i = omega (arith, one, e, h, i)

-- one more ask may be tried as often
times_one : (v : Bool) (k : ℕ) → k * cond v 1 0 ≡ cond v k 0
times_one true k = let e : k * 1 ≡ k = omega arith in e
times_one false k = let e : k * 0 ≡ 0 = omega arith in e

pub one_more : (test : Address → Bool) (k : ℕ) (xs : List Address) (x : Address) → k * count_by test (xs ++ x ∷ []) ≡ k * count_by test xs + cond (test x) k 0
one_more test k xs x = ap (λ (n : ℕ). k * n) (count-one test xs x) ∙ mul-add k (count_by test xs) (cond (test x) 1 0) ∙ ap (λ (n : ℕ). k * count_by test xs + n) (times_one (test x) k)

-- ---- one link among all

-- the requests of one link are these
abbrev pub put_at : Option ℕ → LinkRequests → (ℕ → LinkRequests) → ℕ → LinkRequests
put_at None x all i = all i
put_at (Some k) x all i = if k == i then x else all i

choose_same : (b : Bool) (i k : ℕ) (x y : LinkRequests) → ((b ≡ true) × (i ≡ k)) ⊎ ((b ≡ false) × (i ≢ k)) → i ≡ k → (if b then x else y) ≡ x
choose_same true i k x y h e = refl
choose_same false i k x y (inl h) e = cc
choose_same false i k x y (inr h) e = absurd (h.1 e)

choose_other : (b : Bool) (i k : ℕ) (x y : LinkRequests) → ((b ≡ true) × (i ≡ k)) ⊎ ((b ≡ false) × (i ≢ k)) → i ≢ k → (if b then x else y) ≡ y
choose_other false i k x y h e = refl
choose_other true i k x y (inl h) e = absurd (e h.1)
choose_other true i k x y (inr h) e = cc

pub put_same : (k i : ℕ) (x : LinkRequests) (all : ℕ → LinkRequests) → k ≡ i → put_at (Some k) x all i ≡ x
put_same k i x all e = choose_same (k == i) k i x (all i) (eqb_tells k i) e

pub put_other : (k i : ℕ) (x : LinkRequests) (all : ℕ → LinkRequests) → k ≢ i → put_at (Some k) x all i ≡ all i
put_other k i x all e = choose_other (k == i) k i x (all i) (eqb_tells k i) e

pub put_away : (o : Option ℕ) (i : ℕ) (x : LinkRequests) (all : ℕ → LinkRequests) → o ≢ Some i → put_at o x all i ≡ all i
put_away None i x all n = refl
put_away (Some k) i x all n = put_other k i x all (λ e. n (ap (λ (j : ℕ). Some j) e))

pub put_there : (o : Option ℕ) (i : ℕ) (x : LinkRequests) (all : ℕ → LinkRequests) → o ≡ Some i → put_at o x all i ≡ x
put_there o i x all e = ap (λ (p : Option ℕ). put_at p x all i) e ∙ put_same i i x all refl

pub same_over : (f g : ℕ → ℕ) (first n : ℕ) → ((i : ℕ) → first ≤ i → i < first + n → f i ≡ g i) → over_links f first n ≡ over_links g first n
same_over f g first zero h = refl
same_over f g first (suc n) h =
    let front : over_links f first n ≡ over_links g first n = same_over f g first n (λ i low high. h i low (omega (arith, high))) in
    let last : f (first + n) ≡ g (first + n) = h (first + n) (omega arith) (omega arith) in
    omega (arith, front, last)

module _ (w : LinkRequests → ℕ) (all : ℕ → LinkRequests) (x : LinkRequests) where
  out_of : (k first n : ℕ) → first + n ≤ k → over_links (λ i. w (put_at (Some k) x all i)) first n ≡ over_links (λ i. w (all i)) first n
  out_of k first n h = same_over (λ i. w (put_at (Some k) x all i)) (λ i. w (all i)) first n (λ i low high. ap w (put_other k i x all (λ e. absurd (omega (arith, h, high, e)))))

  within : (k first n : ℕ) → first ≤ k → k < first + n → over_links (λ i. w (put_at (Some k) x all i)) first n + w (all k) ≡ over_links (λ i. w (all i)) first n + w x
  within k first zero low high = absurd (omega (arith, low, high))
  within k first (suc n) low high = elim (cases_eq k (first + n)) [
    | inl e ↦ (
        let last : w (put_at (Some k) x all (first + n)) ≡ w x = ap w (put_same k (first + n) x all e) in
        let old : w (all (first + n)) ≡ w (all k) = ap (λ (i : ℕ). w (all i)) (sym e) in
        omega (arith, last, old, out_of k first n (omega (arith, e))))
    | inr ne ↦ (
        let last : w (put_at (Some k) x all (first + n)) ≡ w (all (first + n)) = ap w (put_other k (first + n) x all ne) in
        let below : k < first + n = omega (arith, high, ne) in
        omega (arith, last, within k first n low below))
  ]

  -- with a new link
  pub with_new : (k first n m : ℕ) → k ≡ n → m ≡ n + 1 → first ≤ n → over_links (λ i. w (put_at (Some k) x all i)) first (m - first) ≡ over_links (λ i. w (all i)) first (n - first) + w x
  with_new k first n m e f low =
      let more : m - first ≡ suc (n - first) = omega (arith, f, low) in
      let at : k ≡ first + (n - first) = omega (arith, e, low) in
      let all_but : over_links (λ i. w (put_at (Some k) x all i)) first (n - first) ≡ over_links (λ i. w (all i)) first (n - first) = out_of k first (n - first) (omega (arith, at)) in
      let last : w (put_at (Some k) x all (first + (n - first))) ≡ w x = ap w (put_same k (first + (n - first)) x all at) in
      let whole : over_links (λ i. w (put_at (Some k) x all i)) first (m - first)
      ≡ over_links (λ i. w (put_at (Some k) x all i)) first (n - first) + w (put_at (Some k) x all (first + (n - first)))
      = ap (λ (j : ℕ). over_links (λ i. w (put_at (Some k) x all i)) first j) more in
      omega (arith, whole, all_but, last)

  -- one of the links that were given
  pub with_old : (k first n m : ℕ) → m ≡ n → first ≤ k → k < n → over_links (λ i. w (put_at (Some k) x all i)) first (m - first) + w (all k) ≡ over_links (λ i. w (all i)) first (n - first) + w x
  with_old k first n m e low below =
      let same : over_links (λ i. w (put_at (Some k) x all i)) first (m - first) ≡ over_links (λ i. w (put_at (Some k) x all i)) first (n - first) = ap (λ (j : ℕ). over_links (λ i. w (put_at (Some k) x all i)) first (j - first)) e in
      let there : k < first + (n - first) = omega (arith, low, below) in
      omega (arith, same, within k first (n - first) low there)
