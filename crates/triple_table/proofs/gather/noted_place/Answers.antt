use Rattle.std.proofs.Common.{rules}
use Rattle.triple_table.specs.Ranking.{borrowed_terms}
use Rattle.triple_table.proofs.Gathered.{gathers_held, gathers_pushed}
use Rattle.triple_table.proofs.gather.noted_place.Goals as goal

pub returns-in-Some : goal.returns-in-Some
returns-in-Some c = gathers_held (borrowed_terms c.args.terms.now.items) c.in-Some.place c.args.term.now (rw c.as_slice.ensures.value at c.in-Some.ensures)

pub returns : goal.returns
returns c = gathers_pushed c.args.terms.now.items c.push.new.self.items c.args.term c.len-place.result (search rules) c.in_ok-push.ensures.items
