use Rattle.std.proofs.Common.{sym, ◌∙◌}
use Rattle.triple_table.proofs.Gathered.{stands}
use Rattle.triple_table.proofs.gather.tried.Goals as goal

pub returns-then-eq : goal.returns-then-eq
returns-then-eq c = stands c.args.terms.now c.args.place c.index-terms-place.result c.args.term.now c.if-place-terms.true (sym c.eq.ensures ∙ c.if-eq.true)
