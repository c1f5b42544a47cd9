use Rattle.std.proofs.Common.{◌≡◌, take, map}
use Rattle.bgp_core.specs.Rows.{bound_pair}
use Rattle.bgp_core.specs.Pairs.{kept_pairs}
use Rattle.bgp_core.proofs.row.kept_bound.Given as goal

abbrev pub invariant-loop-one : goal.invariant-loop-one
invariant-loop-one l = map bound_pair l.kept.items ≡ kept_pairs l.keep (map bound_pair (take l.one-index l.bound))
