use Rattle.evaluation_cases.proofs.turns.+take_rows.Given as goal

abbrev pub decreases-take_rows : goal.decreases-take_rows
decreases-take_rows g l = l.most
