use Rattle.std.proofs.Common.{ℕ, ◌≡◌, ◌<◌, length, get_or}
use Rattle.restricted_pages.specs.declared.sieve.Cell.{Cell}
use Rattle.restricted_pages.specs.Cells.{IsCell}
use Rattle.restricted_pages.proofs.sieve.cells_of.Given as goal

abbrev pub invariant-loop-cell : goal.invariant-loop-cell
invariant-loop-cell l = record {
  number : length l.cells.items ≡ l.cell;
  each : (k : ℕ) (d : Cell) → k < l.cell → IsCell l.patterns k (get_or l.cells.items k d).patterns.items;
}
