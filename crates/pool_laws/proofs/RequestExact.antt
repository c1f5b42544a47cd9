-- Where no more was sent than was asked for, and all was answered, just that was sent.
use Rattle.std.proofs.Common.{ℕ, zero, suc, ◌≡◌, ◌+◌, ◌-◌, ◌≤◌, ◌++◌, Bool, true, false, not, cond, List, [], ◌∷◌, length, count_by, arith}
use Rattle.tpf_base.specs.Addresses.{Address}
use Rattle.pool_laws.specs.Requested.{LastRequest, NoneWhole, Unanswered, Replied, LinkRequests, addresses_exchanged, last_whole, last_answered, whole_requests, whole_answers, over_links, count_sent, count_answered, any, RequestsAreExact}
use Rattle.pool_laws.proofs.Counts.{count-cons, count-one, count-nil, all_count}
use Rattle.pool_laws.proofs.RequestLaws.{asks_answered}

-- ---- what was answered was sent

last_sent : (test : Address → Bool) (xs : List Address) (last : LastRequest) → count_by test (xs ++ last_answered last) ≤ count_by test (xs ++ last_whole last)
last_sent test xs NoneWhole = omega arith
last_sent test xs (Unanswered address) = omega (arith, count-nil test xs, count-one test xs address)
last_sent test xs (Replied address) = omega arith

pub answered_sent : (test : Address → Bool) (r : LinkRequests) → count_by test (whole_answers r) ≤ count_by test (whole_requests r)
answered_sent test r = last_sent test (addresses_exchanged r.answered) r.last

over_most : (f g : ℕ → ℕ) (first n : ℕ) → ((i : ℕ) → f i ≤ g i) → over_links f first n ≤ over_links g first n
over_most f g first zero h = omega arith
over_most f g first (suc n) h =
    let front : over_links f first n ≤ over_links g first n = over_most f g first n h in
    let last : f (first + n) ≤ g (first + n) = h (first + n) in
    omega (arith, front, last)

-- ---- those that pass a test, and the others

one_or_other : (v : Bool) → ◌≡◌ {A = ℕ} (cond v 1 0 + cond (not v) 1 0) 1
one_or_other true = omega arith
one_or_other false = omega arith

both : (test : Address → Bool) (xs : List Address) → count_by test xs + count_by (λ x. not (test x)) xs ≡ count_by any xs
both test [] = omega arith
both test (x ∷ xs) =
    let one : count_by any (x ∷ xs) ≡ 1 + count_by any xs = count-cons any x xs in
    omega (arith, count-cons test x xs, count-cons (λ (y : Address). not (test y)) x xs, one, one_or_other (test x), both test xs)

over_both : (f g h : ℕ → ℕ) (first n : ℕ) → ((i : ℕ) → f i + g i ≡ h i) → over_links f first n + over_links g first n ≡ over_links h first n
over_both f g h first zero e = omega arith
over_both f g h first (suc n) e =
    let front : over_links f first n + over_links g first n ≡ over_links h first n = over_both f g h first n e in
    let last : f (first + n) + g (first + n) ≡ h (first + n) = e (first + n) in
    omega (arith, front, last)

exactly : (sent other all asked rest n answered others : ℕ) → sent + other ≡ all → asked + rest ≡ n → all ≤ n → asked ≤ answered → answered ≤ sent → rest ≤ others → others ≤ other → sent ≡ asked
exactly sent other all asked rest n answered others a b c d e f g = omega (arith, a, b, c, d, e, f, g)

pub requests_exact : RequestsAreExact
requests_exact asked since pool wire h none few test =
    exactly (count_sent test h.requested.requests since wire) (count_sent (λ x. not (test x)) h.requested.requests since wire) (count_sent any h.requested.requests since wire) (count_by test asked) (count_by (λ x. not (test x)) asked) (length asked)
    (count_answered test h.requested.requests since wire) (count_answered (λ x. not (test x)) h.requested.requests since wire)
    (over_both (λ k. count_by test (whole_requests (h.requested.requests k))) (λ k. count_by (λ x. not (test x)) (whole_requests (h.requested.requests k))) (λ k. count_by any (whole_requests (h.requested.requests k))) since.given (wire.given - since.given)
    (λ k. both test (whole_requests (h.requested.requests k))))
    (as_many (count_by test asked) (count_by (λ x. not (test x)) asked) (count_by any asked) (length asked) (both test asked) (all_count asked)) few
    (asks_answered asked since pool wire h none test)
    (over_most (λ k. count_by test (whole_answers (h.requested.requests k))) (λ k. count_by test (whole_requests (h.requested.requests k))) since.given (wire.given - since.given) (λ k. answered_sent test (h.requested.requests k)))
    (asks_answered asked since pool wire h none (λ x. not (test x)))
    (over_most (λ k. count_by (λ x. not (test x)) (whole_answers (h.requested.requests k))) (λ k. count_by (λ x. not (test x)) (whole_requests (h.requested.requests k))) since.given (wire.given - since.given) (λ k. answered_sent (λ x. not (test x)) (h.requested.requests k)))
  where
    as_many : (x y z n : ℕ) → x + y ≡ z → z ≡ n → x + y ≡ n
    as_many x y z n e f = omega (arith, e, f)
