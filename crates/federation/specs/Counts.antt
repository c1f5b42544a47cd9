-- How the numbers of tickets stand to each other.
use Rattle.std.specs.Prelude.{ℕ, ◌≤◌}

-- no more rounds than tickets were given, and no more tickets are out than were given
pub record IsCounted (rounds given awaited : ℕ) : Type 0 where
  pub numbers : rounds ≤ given
  pub tickets : awaited ≤ given
