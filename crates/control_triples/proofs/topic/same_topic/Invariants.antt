use Rattle.std.proofs.Common.{◌≡◌, drop}
use Rattle.std.specs.List.{list_any}
use Rattle.control_triples.specs.Parts.{has_same_topic}
use Rattle.control_triples.proofs.topic.same_topic.Given as goal

abbrev pub invariant-loop-found : goal.invariant-loop-found
invariant-loop-found l = list_any (has_same_topic l.own) l.topics ≡ list_any (has_same_topic l.own) (drop l.found-index l.topics)
