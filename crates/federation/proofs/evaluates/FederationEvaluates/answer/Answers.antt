use Rattle.federation.proofs.Answering.{call-suits, call-owes, call-stands, call-keeps, call-small}
use Rattle.federation.proofs.evaluates.FederationEvaluates.answer.Goals as goal

pub returns-clause-suits : goal.returns-clause-suits
returns-clause-suits c = λ worlds s told. call-suits c.args.self.now c.take_page.new.self c.args.ticket c.args.page c.take_page.result c.take_page.ensures worlds s told

pub returns-clause-owes : goal.returns-clause-owes
returns-clause-owes c = λ worlds s told. call-owes c.args.self.now c.take_page.new.self c.args.ticket c.args.page c.take_page.result c.take_page.ensures worlds s told

pub returns-clause-stands : goal.returns-clause-stands
returns-clause-stands c = call-stands c.args.self.now c.take_page.new.self c.args.ticket c.args.page c.take_page.result c.take_page.ensures

pub returns-clause-keeps : goal.returns-clause-keeps
returns-clause-keeps c = λ terms k home. call-keeps c.args.self.now c.take_page.new.self c.args.ticket c.args.page c.take_page.result c.take_page.ensures terms k home

pub returns-clause-small : goal.returns-clause-small
returns-clause-small c = λ sizes k. call-small c.args.self.now c.take_page.new.self c.args.ticket c.args.page c.take_page.result c.take_page.ensures sizes k
