use Rattle.std.specs.List.{AllByRecursion}
use Rattle.template_fill.specs.Forms.{HasNoBlank}
use Rattle.page_cases.proofs.slots.rows_in.Given as goal

abbrev pub invariant-loop-row : goal.invariant-loop-row
invariant-loop-row l = AllByRecursion HasNoBlank l.rows.items
