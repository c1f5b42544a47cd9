-- How often a wire in one process waited.
use Rattle.std.specs.Prelude.{ℕ}

-- how often a wait was called, and how often it failed
pub record WaitCounts : Type 0 where
  pub calls : ℕ
  pub faults : ℕ

abbrev pub no_waits : WaitCounts
no_waits = record { calls = 0; faults = 0 }
