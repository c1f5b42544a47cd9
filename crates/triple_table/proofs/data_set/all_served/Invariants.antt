use Rattle.std.proofs.Common.{◌≡◌, take, map}
use Rattle.triple_table.specs.Chosen.{chosen}
use Rattle.triple_table.specs.Genid.{skolem_triple}
use Rattle.triple_table.proofs.data_set.all_served.Given as goal

abbrev pub invariant-loop-quad : goal.invariant-loop-quad
invariant-loop-quad l = l.triples.items ≡ map (skolem_triple l.authority) (chosen l.choice (take l.quad-index l.quads))
