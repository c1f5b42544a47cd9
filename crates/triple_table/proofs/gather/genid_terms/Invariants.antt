use Rattle.std.proofs.Common.{◌≡◌, take}
use Rattle.std.specs.List.{filter_map}
use Rattle.triple_table.specs.Ranking.{borrowed_terms, genid_of}
use Rattle.triple_table.proofs.gather.genid_terms.Given as goal

abbrev pub invariant-loop-term : goal.invariant-loop-term
invariant-loop-term l = l.genids.items ≡ filter_map (genid_of l.authority) (borrowed_terms (take l.term-index l.terms))
