-- Text that is given part by part.
use Rattle.std.specs.Prelude.{ℕ, ◌≡◌, ◌<◌, ◌≤◌, List, ◌++◌, length}
use Rattle.page_responses.specs.declared.limits.TheConstants.{LONGEST_PART}

-- a first part of the text, of 1 to LONGEST_PART bytes, was appended
pub record IsGiven (old new before after : List ℕ) : Type 0 where
  pub part : List ℕ
  pub text : old ≡ part ++ new
  pub appended : after ≡ before ++ part
  pub some : 0 < length part
  pub few : length part ≤ LONGEST_PART

-- a first part of the text, of at most so many bytes, was appended
pub record IsMore (room : ℕ) (old new before after : List ℕ) : Type 0 where
  pub part : List ℕ
  pub text : old ≡ part ++ new
  pub appended : after ≡ before ++ part
  pub few : length part ≤ room
