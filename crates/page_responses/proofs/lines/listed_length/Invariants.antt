use Rattle.std.proofs.Common.{◌≡◌, ◌+◌, ◌*◌, ◌^◌, ◌≤◌, drop, length, map}
use Rattle.std.specs.List.{concat}
use Rattle.triple_table.specs.Stored.{held_terms, triple_at}
use Rattle.page_responses.specs.Lines.{triple_lines}
use Rattle.page_responses.proofs.lines.listed_length.Given as goal

abbrev pub invariant-loop-triple : goal.invariant-loop-triple
invariant-loop-triple l =
    (l.sum + length (concat (triple_lines (map (triple_at (held_terms l.table)) (drop l.triple-index l.triples)))) ≡ length (concat (triple_lines (map (triple_at (held_terms l.table)) l.triples))))
    × (l.sum ≤ l.triple-index * 2 ^ 70)
