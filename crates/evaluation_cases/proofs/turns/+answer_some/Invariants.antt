use Rattle.evaluation_cases.proofs.turns.+answer_some.Given as goal

abbrev pub decreases-answer_some : goal.decreases-answer_some
decreases-answer_some g l = l.most
