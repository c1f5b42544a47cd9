use Rattle.join_core.proofs.Evaluating.{row-stands, row-suits, row-owes, row-sizes}
use Rattle.join_core.proofs.evaluates.JoinEvaluates.take_row.Goals as goal

pub returns-clause-none : goal.returns-clause-none
returns-clause-none c = row-stands c.args.self.now c.take_row.new.self c.take_row.result c.take_row.ensures

pub returns-clause-unchanged : goal.returns-clause-unchanged
returns-clause-unchanged c = c.take_row.ensures.stays

pub returns-clause-suits : goal.returns-clause-suits
returns-clause-suits c = λ w s. row-suits c.args.self.now c.take_row.new.self c.take_row.result c.take_row.ensures w s

pub returns-clause-owes : goal.returns-clause-owes
returns-clause-owes c = λ w s. row-owes c.args.self.now c.take_row.new.self c.take_row.result c.take_row.ensures w s

pub returns-clause-keeps : goal.returns-clause-keeps
returns-clause-keeps c = c.take_row.ensures.keeps

pub returns-clause-width : goal.returns-clause-width
returns-clause-width c = c.take_row.ensures.width

pub returns-clause-small : goal.returns-clause-small
returns-clause-small c = λ sizes k. row-sizes c.args.self.now c.take_row.new.self c.take_row.result c.take_row.ensures sizes k
