use Rattle.std.proofs.Common.{ℕ, ◌<◌, All, map}
use Rattle.std.specs.List.{Contains}
use Rattle.triple_table.specs.declared.ranking.Entry.{Entry}
use Rattle.triple_table.specs.Ranking.{borrowed_terms, IsEntry}
use Rattle.triple_table.proofs.ranking.entries.Given as goal

abbrev pub invariant-loop-place : goal.invariant-loop-place
invariant-loop-place l = record {
  each : All (IsEntry (borrowed_terms l.terms)) l.entries.items;
  all : (k : ℕ) → k < l.place → Contains (map (λ (e : Entry). e.place) l.entries.items) k;
}
