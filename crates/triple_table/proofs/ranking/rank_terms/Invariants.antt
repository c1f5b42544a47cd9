use Rattle.triple_table.specs.Ranking.{borrowed_terms}
use Rattle.triple_table.proofs.Ranked.{AreRankedTo}
use Rattle.triple_table.proofs.ranking.rank_terms.Given as goal

abbrev pub invariant-loop-entry : goal.invariant-loop-entry
invariant-loop-entry l = AreRankedTo (borrowed_terms l.terms) l.entry-items l.entry-index (borrowed_terms l.ordered.items) l.ranks.items
