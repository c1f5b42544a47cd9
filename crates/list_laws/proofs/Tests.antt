-- Tests, comparisons of numbers, and what holds of every number below a bound.
use Rattle.std.proofs.Common.{ℕ, zero, suc, ◌≡◌, ◌-◌, ◌<◌, ◌≤◌, ◌==◌, ◌⊎◌, Bool, true, false, not, ◌&&◌, ◌||◌, if◌then◌else◌, nat_eq, eqb, ltb, sym, subst, arith, refl}
use Rattle.std.specs.Ordering.{nat_cmp}
use Rattle.std.specs.declared.cmp.Ordering.TheVariants.{Less, Greater}
use Rattle.std.proofs.lemmas.Bool.{true≢false, both_ways, and_parts, ltb-true, ltb-false}
use Rattle.std.proofs.lemmas.Bool.Decides.{nat_tests}

pub not_both_ways : (b : Bool) → b ≡ true → b ≡ false → ⊥
not_both_ways b h k = both_ways b k h

-- the halves of a test; both at once are std's `and_parts`, and back from both `and_from`
pub and_first : (a b : Bool) → (a && b) ≡ true → a ≡ true
and_first a b h = (and_parts a b h).0

pub and_second : (a b : Bool) → (a && b) ≡ true → b ≡ true
and_second a b h = (and_parts a b h).1

pub and_false : (a : Bool) → (a && false) ≡ false
and_false true = refl
and_false false = refl

pub assoc : (a b c : Bool) → (a && (b && c)) ≡ ((a && b) && c)
assoc true b c = refl
assoc false b c = refl

pub all_three : (a b c : Bool) → a ≡ true → b ≡ true → c ≡ true → (a && (b && c)) ≡ true
all_three a b c x y z = rw (x, y, z) refl

-- tests that pass where the other does
pub same_truth : (a b : Bool) → (a ≡ true → b ≡ true) → (b ≡ true → a ≡ true) → a ≡ b
same_truth true b f g = sym (f refl)
same_truth false true f g = g refl
same_truth false false f g = refl

pub implied : (p q : Bool) → (not p || q) ≡ true → p ≡ true → q ≡ true
implied true q e h = e
implied false q e h = absurd (true≢false (sym h))

-- ---- numbers

pub self_test : (k : ℕ) → nat_eq k k ≡ true
self_test k = grind (arith, nat_tests)

pub equals_itself : (x : ℕ) → (x == x) ≡ true
equals_itself x = grind (arith, nat_tests)

pub not_equal : (b c : ℕ) → (b ≡ c → ⊥) → (b == c) ≡ false
not_equal b c h = grind (arith, nat_tests, h)

pub same_least : (m n : ℕ) → n ≡ m → m ≤ n
same_least m n same = omega (arith, same)

pub all_numbers : (n : ℕ) → n - 0 ≡ n
all_numbers n = omega arith

pub one_mark : (k : Bool) → (if k then 1 else 0) ≤ 1
one_mark true = omega arith
one_mark false = omega arith

pub moved_or : (to from : ℕ) → from ≤ to → (from < to) ⊎ (to ≡ from)
moved_or to from h = grind arith

pub is_less : (x y : ℕ) → x < y → nat_cmp x y ≡ Less
is_less x y l = let t : ltb x y ≡ true = grind (arith, l) in rw t refl

pub is_greater : (x y : ℕ) → y < x → nat_cmp x y ≡ Greater
is_greater x y l = let t : ltb x y ≡ false = grind (arith, l) in let u : eqb x y ≡ false = grind (arith, l) in rw (t, u) refl

-- ---- every number below a bound

-- a test of each number below n
unfoldable pub all_below : ℕ → (ℕ → Bool) → Bool
all_below zero p = true
all_below (suc n) p = p n && all_below n p

pub from_all_below : (n : ℕ) (p : ℕ → Bool) → all_below n p ≡ true → (c : ℕ) → c < n → p c ≡ true
unfolding all_below
from_all_below zero p e c l = absurd (omega arith)
from_all_below (suc n) p e c l =
    let parts = and_parts (p n) (all_below n p) e in
    by (ltb c n) refl parts.0 (from_all_below n p parts.1 c)
  where
    by : (b : Bool) → ltb c n ≡ b → p n ≡ true → (c < n → p c ≡ true) → p c ≡ true
    by true t last below = below (ltb-true c n t)
    by false t last below = let up = ltb-false c n t in let same : n ≡ c = omega (arith, up, l) in subst (λ k. p k ≡ true) same last
