use Rattle.std.proofs.Common.{◌≡◌, drop}
use Rattle.control_reader.specs.Ascending.{page_order, climbs}
use Rattle.control_reader.proofs.ascending.climbs.Given as goal

abbrev pub invariant-loop-quad : goal.invariant-loop-quad
invariant-loop-quad l = climbs (page_order l.predicate_first) l.first l.quads ≡ climbs (page_order l.predicate_first) l.last (drop l.quad-index l.quads)
