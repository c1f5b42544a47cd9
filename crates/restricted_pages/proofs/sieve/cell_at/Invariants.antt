use Rattle.std.proofs.Common.{take}
use Rattle.restricted_pages.specs.Cells.{IsCell}
use Rattle.restricted_pages.proofs.sieve.cell_at.Given as goal

abbrev pub invariant-loop-pattern : goal.invariant-loop-pattern
invariant-loop-pattern l = IsCell (take l.pattern-index l.patterns) l.cell l.some.items
