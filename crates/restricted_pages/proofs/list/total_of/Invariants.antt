use Rattle.std.proofs.Common.{◌≡◌, ◌-◌, ◌^◌, length, min, take}
use Rattle.restricted_pages.specs.Patterns.{gathered}
use Rattle.restricted_pages.proofs.list.total_of.Given as goal

abbrev pub invariant-loop-pattern : goal.invariant-loop-pattern
invariant-loop-pattern g l = l.total ≡ min (length (gathered l.table (take l.pattern-index l.patterns))) (2 ^ 64 - 1)
