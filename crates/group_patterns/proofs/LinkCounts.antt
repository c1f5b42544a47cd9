-- Counts over the links of two parts of a call, one behind the other, and rises of a count that stands still at its last value.
use Rattle.std.proofs.Common.{ℕ, zero, suc, ◌≡◌, ◌≤◌, ◌<◌, ◌+◌, ◌-◌, Bool, if◌then◌else◌, nat_lt, ap, ◌∙◌, arith}
use Rattle.std.proofs.lemmas.Bool.{lt-ltb, le-ltb}
use Rattle.tpf_base.specs.Causes.{Rose, RoseBy}
use Rattle.pool_laws.specs.Requested.{LinkRequests, over_links}
use Rattle.pool_laws.proofs.Counts.{same_over}

-- ---- rises

pub rose-none : (a : ℕ) → RoseBy 0 a a
rose-none a = omega arith

pub rose-later : (n a b c : ℕ) → a ≤ b → RoseBy n b c → RoseBy n a c
rose-later n a b c l r = omega (arith, l, r)

pub rose-both : (m n a b c : ℕ) → RoseBy m a b → RoseBy n b c → RoseBy (m + n) a c
rose-both m n a b c r s = omega (arith, r, s)

-- what did not rise in both parts did not rise in one
pub quiet-before : (a b c : ℕ) → b ≤ c → (Rose a c → ⊥) → Rose a b → ⊥
quiet-before a b c l quiet r = quiet (omega (arith, l, r))

pub quiet-behind : (a b c : ℕ) → a ≤ b → (Rose a c → ⊥) → Rose b c → ⊥
quiet-behind a b c l quiet r = quiet (omega (arith, l, r))

-- ---- counts

over-append : (f : ℕ → ℕ) (first m n : ℕ) → over_links f first (m + n) ≡ over_links f first m + over_links f (first + m) n
over-append f first m zero =
    let e : m + 0 ≡ m = omega arith in
    let whole : over_links f first (m + 0) ≡ over_links f first m = ap (λ (k : ℕ). over_links f first k) e in
    omega (arith, whole)
over-append f first m (suc n) =
    let e : m + suc n ≡ suc (m + n) = omega arith in
    let whole : over_links f first (m + suc n) ≡ over_links f first (suc (m + n)) = ap (λ (k : ℕ). over_links f first k) e in
    let front : over_links f first (m + n) ≡ over_links f first m + over_links f (first + m) n = over-append f first m n in
    let place : first + (m + n) ≡ first + m + n = omega arith in
    let last : f (first + (m + n)) ≡ f (first + m + n) = ap f place in
    omega (arith, whole, front, last)

pub over-parts : (f : ℕ → ℕ) (a b c : ℕ) → a ≤ b → b ≤ c → over_links f a (c - a) ≡ over_links f a (b - a) + over_links f b (c - b)
over-parts f a b c l m =
    let e : c - a ≡ (b - a) + (c - b) = omega (arith, l, m) in
    let s : a + (b - a) ≡ b = omega (arith, l) in
    ap (λ (k : ℕ). over_links f a k) e ∙ (over-append f a (b - a) (c - b) ∙ ap (λ (k : ℕ). over_links f a (b - a) + over_links f k (c - b)) s)

-- ---- the requests on the links of two parts

-- the requests on the links below a place are those of the one, and from it on those of the other
abbrev pub joined : ℕ → (ℕ → LinkRequests) → (ℕ → LinkRequests) → ℕ → LinkRequests
joined n one other k = if nat_lt k n then one k else other k

pub joined-before : (n : ℕ) (one other : ℕ → LinkRequests) (k : ℕ) → k < n → joined n one other k ≡ one k
joined-before n one other k l = ap (λ (v : Bool). if v then one k else other k) (lt-ltb k n l)

pub joined-behind : (n : ℕ) (one other : ℕ → LinkRequests) (k : ℕ) → n ≤ k → joined n one other k ≡ other k
joined-behind n one other k l = ap (λ (v : Bool). if v then one k else other k) (le-ltb k n l)

module _ (count : LinkRequests → ℕ) (one other : ℕ → LinkRequests) (a b c : ℕ) (l : a ≤ b) (m : b ≤ c) where
  pub counted-parts : over_links (λ k. count (joined b one other k)) a (c - a) ≡ over_links (λ k. count (one k)) a (b - a) + over_links (λ k. count (other k)) b (c - b)
  counted-parts =
      let all : over_links (λ k. count (joined b one other k)) a (c - a) ≡ over_links (λ k. count (joined b one other k)) a (b - a) + over_links (λ k. count (joined b one other k)) b (c - b)
      = over-parts (λ k. count (joined b one other k)) a b c l m in
      let front : over_links (λ k. count (joined b one other k)) a (b - a) ≡ over_links (λ k. count (one k)) a (b - a)
      = same_over (λ k. count (joined b one other k)) (λ k. count (one k)) a (b - a) (λ i low high. ap count (joined-before b one other i (omega (arith, high, l)))) in
      let back : over_links (λ k. count (joined b one other k)) b (c - b) ≡ over_links (λ k. count (other k)) b (c - b)
      = same_over (λ k. count (joined b one other k)) (λ k. count (other k)) b (c - b) (λ i low high. ap count (joined-behind b one other i low)) in
      omega (arith, all, front, back)
