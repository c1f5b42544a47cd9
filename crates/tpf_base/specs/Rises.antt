-- Serves proofs alone: rises of a count add up.
use Rattle.std.specs.Prelude.{ℕ, ◌+◌, ◌-◌, ◌^◌, ◌≤◌}
use Rattle.std.proofs.Common.{arith}
use Rattle.tpf_base.specs.Causes.{RoseBy}

-- one rise after another
pub RoseBy-then : (m n a b c : ℕ) → RoseBy m a b → RoseBy n b c → RoseBy (m + n) a c
RoseBy-then m n a b c first second = omega (arith, first, second)

-- fewer, from a later count, to a later one
pub RoseBy-within : (m n a b a' b' : ℕ) → n ≤ m → a' ≤ a → b ≤ b' → RoseBy m a b → RoseBy n a' b'
RoseBy-within m n a b a' b' fewer earlier later rose = omega (arith, fewer, earlier, later, rose)

-- a count that did not fall rose by none, where it is a u64
pub RoseBy-none : (a b : ℕ) → a ≤ b → RoseBy 0 a b
RoseBy-none a b later = omega (arith, later)

-- where the count is below its last value afterwards, the rise is a sum
pub RoseBy-exact : (n a b : ℕ) → b + 1 ≤ 2 ^ 64 - 1 → RoseBy n a b → a + n ≤ b
RoseBy-exact n a b below rose = omega (arith, below, rose)
