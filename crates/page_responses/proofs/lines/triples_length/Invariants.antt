use Rattle.std.proofs.Common.{◌≡◌, ◌+◌, ◌*◌, ◌^◌, ◌≤◌, drop, length}
use Rattle.std.specs.List.{concat}
use Rattle.triple_table.specs.Stored.{listed}
use Rattle.page_responses.specs.Lines.{triple_lines}
use Rattle.page_responses.proofs.lines.triples_length.Given as goal

abbrev pub invariant-loop-i : goal.invariant-loop-i
invariant-loop-i l = (l.sum + length (concat (triple_lines (drop l.i (listed l.table l.range)))) ≡ length (concat (triple_lines (listed l.table l.range)))) × (l.sum ≤ l.i * 2 ^ 70)
