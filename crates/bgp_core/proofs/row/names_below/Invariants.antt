use Rattle.std.proofs.Common.{◌≡◌, take, map}
use Rattle.bgp_core.specs.Rows.{bound_pair}
use Rattle.bgp_core.specs.Pairs.{names_below}
use Rattle.bgp_core.proofs.row.names_below.Given as goal

abbrev pub invariant-loop-one : goal.invariant-loop-one
invariant-loop-one l = l.names.items ≡ names_below l.count (map bound_pair (take l.one-index l.bound))
