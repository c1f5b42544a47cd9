use Rattle.federation.proofs.Giving.{given-none, given-unchanged, given-suits, given-owes, given-keeps, given-width, given-small}
use Rattle.federation.proofs.evaluates.FederationEvaluates.take_row.Goals as goal

pub returns-clause-none : goal.returns-clause-none
returns-clause-none c = given-none c.args.self.now c.give_row.new.self c.give_row.result c.give_row.ensures

pub returns-clause-unchanged : goal.returns-clause-unchanged
returns-clause-unchanged c = given-unchanged c.args.self.now c.give_row.new.self c.give_row.result c.give_row.ensures

pub returns-clause-suits : goal.returns-clause-suits
returns-clause-suits c = λ worlds s. given-suits c.args.self.now c.give_row.new.self c.give_row.result c.give_row.ensures worlds s

pub returns-clause-owes : goal.returns-clause-owes
returns-clause-owes c = λ worlds s. given-owes c.args.self.now c.give_row.new.self c.give_row.result c.give_row.ensures worlds s

pub returns-clause-keeps : goal.returns-clause-keeps
returns-clause-keeps c = λ terms k. given-keeps c.args.self.now c.give_row.new.self c.give_row.result c.give_row.ensures terms k

pub returns-clause-width : goal.returns-clause-width
returns-clause-width c = λ terms k. given-width c.args.self.now c.give_row.new.self c.give_row.result c.give_row.ensures terms k

pub returns-clause-small : goal.returns-clause-small
returns-clause-small c = λ sizes k. given-small c.args.self.now c.give_row.new.self c.give_row.result c.give_row.ensures sizes k
