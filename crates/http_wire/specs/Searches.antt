-- What a feed knows of the bytes that it holds.
use Rattle.std.specs.Prelude.{ℕ, ◌≡◌, ◌+◌, ◌≤◌, List, length, take, drop, None}
use Rattle.tpf_base.specs.HttpHeads.{blank_length, least_below, ends_empty}

-- the front of so many bytes is empty lines, and no head of fewer bytes than were searched stands behind them
pub record IsSearched (held : List ℕ) (blank searched : ℕ) : Type 0 where
  pub within : blank ≤ length held
  pub empty : blank_length (take blank held) ≡ blank
  pub none : least_below searched (ends_empty (drop blank held)) ≡ None
  pub searched_within : searched ≤ length (drop blank held) + 1
