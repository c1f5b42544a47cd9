-- Runs of bytes that pass a test, seen many at a time. Only private clauses cite it.
use Rattle.std.specs.Prelude.{◌≡◌, ℕ, ◌+◌, ◌<◌, ◌≤◌, Bool, true, ◌==◌, List, length, slice_index, if◌then◌else◌}
use Rattle.std.specs.Int.{w64, trailing_zeros}

-- the bytes from one place up to another pass
abbrev pub PassBetween : (ℕ → Bool) → List ℕ → ℕ → ℕ → Type 0
PassBetween test bytes from to = (k : ℕ) → from ≤ k → k < to → test (slice_index bytes k) ≡ true

-- a run that ends in the text
abbrev pub PassesFrom : (ℕ → Bool) → List ℕ → ℕ → ℕ → Type 0
PassesFrom test bytes from to = (from ≤ to) × (to ≤ length bytes) × PassBetween test bytes from to

-- the first bytes of the n in place at, so many as run, pass
abbrev pub PassesIn : (ℕ → Bool) → List ℕ → ℕ → ℕ → ℕ → Type 0
PassesIn test bytes at n run = (run ≤ n) × PassBetween test bytes at (at + run)

-- the place of the lowest bit that is set, or n
abbrev pub first_set : ℕ → ℕ → ℕ
first_set mask n = if mask == 0 then n else trailing_zeros w64 mask
