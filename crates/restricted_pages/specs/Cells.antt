-- Patterns by the remainders of their ids. Serves the contracts inside the crate alone.
use Rattle.std.specs.Prelude.{ℕ, ◌≡◌, ◌+◌, ◌*◌, ◌/◌, ◌%◌, ◌<◌, ◌&&◌, ◌==◌, Bool, true, List, length, Option, Some, None, slice_index_or}
use Rattle.std.specs.List.{list_any}
use Rattle.triple_table.specs.declared.ids.IdTriple.{IdTriple}
use Rattle.triple_table.specs.declared.ids.IdPattern.{IdPattern}
use Rattle.restricted_pages.specs.declared.sieve.Cell.{Cell}
use Rattle.restricted_pages.specs.Patterns.{fits}

-- the number of the cell in which a triple stands, by the remainders of its ids
abbrev pub cell_of : IdTriple → ℕ
cell_of t = (t.subject % 8) * 64 + (t.predicate % 8) * 8 + t.object % 8

-- an id with this remainder may stand at this place of a pattern
abbrev pub may_stand : Option ℕ → ℕ → Bool
may_stand None remainder = true
may_stand (Some id) remainder = id % 8 == remainder

-- a triple of this cell may match the pattern
abbrev pub may_match : IdPattern → ℕ → Bool
may_match p cell =
    may_stand p.subject (cell / 64) && (may_stand p.predicate (cell / 8 % 8) && may_stand p.object (cell % 8))

-- the triples of the cell match one of some patterns exactly where they match one of all
abbrev pub IsCell : List IdPattern → ℕ → List IdPattern → Type 0
IsCell all cell some =
    (t : IdTriple) → cell_of t ≡ cell → list_any (λ p. fits p t) some ≡ list_any (λ p. fits p t) all

-- the cells of some patterns, each at its number
pub record AreCells (all : List IdPattern) (cells : List Cell) : Type 0 where
  pub number : length cells ≡ 512
  pub each : (k : ℕ) (d : Cell) → k < 512 → IsCell all k (slice_index_or cells k d).patterns.items
