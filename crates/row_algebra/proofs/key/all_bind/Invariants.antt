use Rattle.std.proofs.Common.{◌≡◌, drop}
use Rattle.row_algebra.specs.Finding.{all_bind}
use Rattle.row_algebra.proofs.key.all_bind.Given as goal

abbrev pub invariant-loop-row : goal.invariant-loop-row
invariant-loop-row l = all_bind l.name (drop l.row-index l.rows) ≡ all_bind l.name l.rows
