use Rattle.std.proofs.Common.{sym, ◌∙◌}
use Rattle.triple_table.specs.Ranking.{borrowed_terms}
use Rattle.triple_table.proofs.Gathered.{gathered_taken, gathered_left}
use Rattle.triple_table.proofs.gather.push_chosen.Goals as goal

pub returns-in_ok-push : goal.returns-in_ok-push
returns-in_ok-push c = λ of g.
    gathered_taken of (borrowed_terms c.args.terms.now.items) (borrowed_terms c.places_of.new.terms.items) c.args.triples.now.items c.push.new.self.items c.args.choice.now c.args.quad.now c.in_ok-places.places
    (sym c.takes.ensures ∙ c.if-takes.true) c.in_ok-push.ensures.items c.in_ok-places.ensures g

pub returns-else-takes : goal.returns-else-takes
returns-else-takes c = λ of g.
    gathered_left of (borrowed_terms c.args.terms.now.items) c.args.triples.now.items c.args.choice.now c.args.quad.now (sym c.takes.ensures ∙ c.if-takes.false) g
