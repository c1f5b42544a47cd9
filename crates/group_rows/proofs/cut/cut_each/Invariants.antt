use Rattle.std.proofs.Common.{◌≡◌, take, map}
use Rattle.bgp_core.specs.Merging.{kept}
use Rattle.group_rows.proofs.cut.cut_each.Given as goal

abbrev pub invariant-loop-row : goal.invariant-loop-row
invariant-loop-row l = l.cut.items ≡ map (kept l.flags) (take l.row-index l.rows)
