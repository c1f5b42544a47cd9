use Rattle.std.proofs.Common.{take}
use Rattle.restricted_pages.specs.Patterns.{ArePatternsOf}
use Rattle.restricted_pages.proofs.patterns.patterns_of.Given as goal

abbrev pub invariant-loop-row : goal.invariant-loop-row
invariant-loop-row g l = ArePatternsOf l.table l.slots (take l.row-index l.rows) l.patterns.items
