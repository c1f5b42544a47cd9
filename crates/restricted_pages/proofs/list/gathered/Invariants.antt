use Rattle.std.proofs.Common.{take}
use Rattle.restricted_pages.specs.Patterns.{AreIdsOf, gathered}
use Rattle.restricted_pages.proofs.list.gathered.Given as goal

abbrev pub invariant-loop-pattern : goal.invariant-loop-pattern
invariant-loop-pattern g l = AreIdsOf l.table l.ids.items (gathered l.table (take l.pattern-index l.patterns))
