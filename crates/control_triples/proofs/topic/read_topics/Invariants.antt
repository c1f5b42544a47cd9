use Rattle.std.proofs.Common.{◌≡◌, take}
use Rattle.control_triples.specs.Parts.{abouts, abouts_of}
use Rattle.control_triples.proofs.topic.read_topics.Given as goal

abbrev pub invariant-loop-quad : goal.invariant-loop-quad
invariant-loop-quad l = abouts l.topics.items ≡ abouts_of (take l.quad-index l.quads)
