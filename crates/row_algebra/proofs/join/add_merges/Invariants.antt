use Rattle.std.proofs.Common.{◌≡◌, ◌++◌, take}
use Rattle.row_algebra.specs.Finding.{merges_at}
use Rattle.row_algebra.proofs.join.add_merges.Given as goal

abbrev pub invariant-loop-place : goal.invariant-loop-place
invariant-loop-place l = l.rows.items ≡ l.initial.rows.items ++ merges_at l.row l.others (take l.place-index l.places)
