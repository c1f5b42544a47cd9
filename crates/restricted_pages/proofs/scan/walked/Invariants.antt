use Rattle.std.proofs.Common.{◌≡◌, ◌+◌, ◌≤◌, All, take, drop, length}
use Rattle.std.specs.List.{filter}
use Rattle.triple_table.specs.Stored.{IsIdTriple, held_terms, listed}
use Rattle.restricted_pages.specs.Patterns.{filled, matches_pattern}
use Rattle.restricted_pages.proofs.scan.walked.Given as goal

abbrev pub invariant-loop-i : goal.invariant-loop-i
invariant-loop-i l = record {
  few : l.part.count ≤ l.i;
  counts : l.part.count + length (filter (matches_pattern l.table l.patterns) (drop l.i (listed l.table l.range))) ≡ length (filter (matches_pattern l.table l.patterns) (listed l.table l.range));
  ids : All (IsIdTriple (held_terms l.table)) l.part.triples.items;
  filled : filled (held_terms l.table) l.part (filter (matches_pattern l.table l.patterns) (drop l.i (listed l.table l.range))) ≡ take l.size (drop l.before (filter (matches_pattern l.table l.patterns) (listed l.table l.range)));
}
