use Rattle.std.proofs.Common.{◌≡◌, ◌++◌}
use Rattle.std.specs.Vec.Iter.{into_iter_items}
use Rattle.request_plan.specs.Plans.{found}
use Rattle.request_plan.proofs.found.expand.Given as goal

abbrev pub invariant-loop-triple : goal.invariant-loop-triple
invariant-loop-triple l = l.found.items ++ found l.chosen l.block (into_iter_items l.triple-iterator) ≡ found l.chosen l.block l.fn.triples.items
