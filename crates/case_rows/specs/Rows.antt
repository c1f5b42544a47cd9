-- The rows of a file.
use Rattle.std.specs.Prelude.{ℕ, List, length, slice_index, nat_lt, Bool, not, ◌&&◌, ◌==◌, ◌++◌, codes, decimal, ◌≡◌, ◌⊎◌, Option, Some}

-- whether a line begins a row: it is not empty, and its first byte is no blank
abbrev pub begins_row : List ℕ → Bool
begins_row line = nat_lt 0 (length line) && not (slice_index line 0 == 32)

-- an answer is wanted where it is the first wanted one, or the other
abbrev pub IsWanted : List ℕ → Option (List ℕ) → List ℕ → Type 0
IsWanted first other got = (first ≡ got) ⊎ (other ≡ Some got)

-- the line that tells how many rows a file has, and how many of them are wrong
abbrev pub count_line : List ℕ → ℕ → ℕ → List ℕ
count_line file cases wrong = file ++ codes ": " ++ decimal cases ++ codes " cases, " ++ decimal wrong ++ codes " wrong"
