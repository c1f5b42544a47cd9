use Rattle.std.proofs.Common.{◌≡◌, ◌++◌, map, take, drop}
use Rattle.std.specs.List.{list_any}
use Rattle.rdf_terms.specs.Same.{triple_eq}
use Rattle.rdf_terms.specs.declared.term.Triple.{Triple}
use Rattle.bgp_core.specs.Solutions.{distinct, distinct_after}
use Rattle.plain_answers.specs.Seen.{is_seen}
use Rattle.plain_answers.proofs.solve.distinct.Given as goal

abbrev pub invariant-loop-triple : goal.invariant-loop-triple
invariant-loop-triple l = (distinct l.triples ≡ map (λ t. t.now) l.once.items ++ distinct_after (take l.triple-index l.triples) (drop l.triple-index l.triples))
    × ((q : Triple) → is_seen l.seen q ≡ list_any (λ s. triple_eq s q) (take l.triple-index l.triples))
