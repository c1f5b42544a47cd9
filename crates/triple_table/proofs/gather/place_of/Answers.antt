use Rattle.triple_table.specs.Ranking.{borrowed_terms}
use Rattle.triple_table.proofs.Gathered.{gathers_held}
use Rattle.triple_table.proofs.gather.place_of.Goals as goal

pub returns-in-Some : goal.returns-in-Some
returns-in-Some c = gathers_held (borrowed_terms c.args.terms.now.items) c.in-Some.place c.args.term.now (rw c.as_slice.ensures.value at c.in-Some.ensures)
