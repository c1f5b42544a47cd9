use Rattle.std.proofs.Common.{suc, ◌≡◌, map, take}
use Rattle.bgp_core.specs.Instances.{bound_places}
use Rattle.request_plan.specs.Blocks.{distinct_slots}
use Rattle.request_plan.proofs.block.distinct_places.Given as goal

abbrev pub invariant-loop-row : goal.invariant-loop-row
invariant-loop-row l = l.distinct.items ≡ distinct_slots (map (bound_places l.pattern) (take (suc l.row-index) l.block))
