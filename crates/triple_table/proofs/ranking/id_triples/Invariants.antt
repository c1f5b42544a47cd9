use Rattle.std.proofs.Common.{◌≡◌, take, map}
use Rattle.triple_table.specs.Ranking.{ids_of}
use Rattle.triple_table.proofs.ranking.id_triples.Given as goal

abbrev pub invariant-loop-p : goal.invariant-loop-p
invariant-loop-p l = l.ids.items ≡ map (ids_of l.ranks) (take l.p-index l.triples)
