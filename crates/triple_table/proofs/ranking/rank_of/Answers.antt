use Rattle.std.proofs.Common.{rules, ◌-◌}
use Rattle.triple_table.specs.Ranking.{borrowed_terms}
use Rattle.triple_table.proofs.Gathered.{gathers_held, gathers_pushed}
use Rattle.triple_table.proofs.Ranked.{held_last, pushed_ascends}
use Rattle.triple_table.proofs.ranking.rank_of.Goals as goal

pub returns-then-is_last-clause-gathers : goal.returns-then-is_last-clause-gathers
returns-then-is_last-clause-gathers c =
    let last = rw c.as_slice.ensures.value at (c.is_last.ensures.yes c.if-is_last.true) in
    gathers_held (borrowed_terms c.args.terms.now.items) (c.len-held.result - 1) c.args.term.now (held_last c.args.terms.now.items c.len-held.result c.args.term.now (search rules) last.0 last.1)

pub returns-clause-gathers : goal.returns-clause-gathers
returns-clause-gathers c = gathers_pushed c.args.terms.now.items c.push.new.self.items c.args.term c.len-held.result (search rules) c.in_ok-push.ensures.items

pub returns-clause-ascending : goal.returns-clause-ascending
returns-clause-ascending c =
    pushed_ascends c.args.terms.now.items c.push.new.self.items c.args.term c.in_ok-push.ensures.items (rw c.as_slice.ensures.value at (c.is_last.ensures.no c.if-is_last.false))
