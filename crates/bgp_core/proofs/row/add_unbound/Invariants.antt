use Rattle.std.proofs.Common.{◌≡◌, ◌++◌, take, map}
use Rattle.bgp_core.specs.Rows.{bound_pair}
use Rattle.bgp_core.specs.Pairs.{unbound_in}
use Rattle.bgp_core.proofs.row.add_unbound.Given as goal

abbrev pub invariant-loop-one : goal.invariant-loop-one
invariant-loop-one l = map bound_pair l.to.items ≡ map bound_pair l.initial.to.items ++ unbound_in l.row (map bound_pair (take l.one-index l.from))
