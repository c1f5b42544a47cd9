-- A connection is one of the part, or not.
use Rattle.std.proofs.Common.{sym, ◌∙◌}
use Rattle.serve_loop.proofs.PartLemmas.{among_yes, among_no, among_vacant}
use Rattle.serve_loop.proofs.turn.is_among.Goals as goal

pub returns-in-Some-clause-yes : goal.returns-in-Some-clause-yes
returns-in-Some-clause-yes g c = λ e. among_yes c.args.part _ _ (sym c.in-Some.ensures) (sym c.has.ensures ∙ e)

pub returns-in-Some-clause-no : goal.returns-in-Some-clause-no
returns-in-Some-clause-no g c = λ e. among_no c.args.part _ _ (sym c.in-Some.ensures) (sym c.has.ensures ∙ e)

pub returns-in-None-clause-no : goal.returns-in-None-clause-no
returns-in-None-clause-no g c = λ e. among_vacant c.args.part _ (sym c.in-None.ensures)
