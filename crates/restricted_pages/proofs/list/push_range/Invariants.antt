use Rattle.std.proofs.Common.{◌++◌, take}
use Rattle.triple_table.specs.Stored.{listed}
use Rattle.restricted_pages.specs.Pages.{triples_at}
use Rattle.restricted_pages.specs.Patterns.{AreIdsOf}
use Rattle.restricted_pages.proofs.list.push_range.Given as goal

abbrev pub invariant-loop-i : goal.invariant-loop-i
invariant-loop-i l = AreIdsOf l.table l.ids.items (triples_at l.table l.initial.ids.items ++ take l.i (listed l.table l.range))
