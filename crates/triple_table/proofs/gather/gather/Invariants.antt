use Rattle.std.proofs.Common.{take}
use Rattle.triple_table.specs.Chosen.{chosen}
use Rattle.triple_table.specs.Ranking.{borrowed_terms, IsGathered}
use Rattle.triple_table.proofs.gather.gather.Given as goal

abbrev pub invariant-loop-quad : goal.invariant-loop-quad
invariant-loop-quad l = IsGathered (chosen l.choice (take l.quad-index l.quads)) (borrowed_terms l.terms.items) l.triples.items
