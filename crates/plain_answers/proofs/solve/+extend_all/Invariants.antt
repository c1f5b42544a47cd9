use Rattle.std.proofs.Common.{◌≡◌, ◌++◌, map, take, length}
use Rattle.std.specs.List.{flat_map}
use Rattle.bgp_core.specs.Solutions.{solutions, rows_from, extension}
use Rattle.plain_answers.proofs.solve.+extend_all.Given as goal

abbrev pub invariant-loop-triple : goal.invariant-loop-triple
invariant-loop-triple l = l.out.items ≡ l.initial.out.items ++ flat_map (λ t. rows_from (extension l.pattern l.fn.row t) (solutions (map (λ s. s.now) l.triples) l.others)) (map (λ t. t.now) (take l.triple-index l.triples))

abbrev pub decreases-extend_all : goal.decreases-extend_all
decreases-extend_all l = length l.patterns.now
