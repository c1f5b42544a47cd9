use Rattle.std.proofs.Common.{◌≡◌, ◌++◌, take, map}
use Rattle.bgp_core.specs.Rows.{bound_pair}
use Rattle.bgp_core.proofs.row.add_all.Given as goal

abbrev pub invariant-loop-one : goal.invariant-loop-one
invariant-loop-one l = map bound_pair l.to.items ≡ map bound_pair l.initial.to.items ++ map bound_pair (take l.one-index l.from)
