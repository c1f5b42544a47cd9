-- A list that was only added to.
use Rattle.std.specs.Prelude.{ℕ, ◌≡◌, List, ◌++◌}

-- new is old and more behind it
pub record Begins (old new : List ℕ) : Type 0 where
  pub more : List ℕ
  pub same : new ≡ old ++ more
