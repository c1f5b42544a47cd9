use Rattle.std.proofs.Common.{◌≡◌, ◌++◌, None, map}
use Rattle.std.specs.Vec.Iter.{into_iter_items}
use Rattle.pattern_parser.specs.Triples.{triples_after}
use Rattle.pattern_parser.proofs.triple.patterns.Given as goal

abbrev pub invariant-loop-item : goal.invariant-loop-item
invariant-loop-item l = l.reading.patterns.items ++ map (λ p. p.pattern) (triples_after l.reading.subject l.reading.verb (into_iter_items l.item-iterator)) ≡ map (λ p. p.pattern) (triples_after None None l.fn.items.items)
