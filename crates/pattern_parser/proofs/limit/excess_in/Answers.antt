use Rattle.std.proofs.Common.{None}
use Rattle.pattern_parser.specs.Items.{items_after}
use Rattle.pattern_parser.specs.Triples.{triples_after}
use Rattle.pattern_parser.proofs.Limits.{over_is, left_is}
use Rattle.pattern_parser.proofs.limit.excess_in.Goals as goal

pub returns-in-Over : goal.returns-in-Over
returns-in-Over c = λ iri names. over_is (triples_after None None (items_after iri names 0 c.args.words.now)) c.count_patterns.result _ c.in-Over.is (c.count_patterns.ensures iri names)

pub returns-in-Left : goal.returns-in-Left
returns-in-Left c = λ iri names. left_is (triples_after None None (items_after iri names 0 c.args.words.now)) c.count_patterns.result _ c.in-Left.is (c.count_patterns.ensures iri names)
