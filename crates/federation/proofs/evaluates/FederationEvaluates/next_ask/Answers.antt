use Rattle.federation.proofs.Asking.{call-suits, call-owes, call-stands, call-keeps, call-home, call-quiet, call-small}
use Rattle.federation.proofs.evaluates.FederationEvaluates.next_ask.Goals as goal

pub returns-clause-suits : goal.returns-clause-suits
returns-clause-suits c = λ worlds s. call-suits c.args.self.now c.ask.new.self c.ask.result c.ask.ensures worlds s

pub returns-clause-owes : goal.returns-clause-owes
returns-clause-owes c = λ worlds s. call-owes c.args.self.now c.ask.new.self c.ask.result c.ask.ensures worlds s

pub returns-clause-stands : goal.returns-clause-stands
returns-clause-stands c = call-stands c.args.self.now c.ask.new.self c.ask.result c.ask.ensures

pub returns-clause-keeps : goal.returns-clause-keeps
returns-clause-keeps c = λ terms k. call-keeps c.args.self.now c.ask.new.self c.ask.result c.ask.ensures terms k

pub returns-clause-at_home : goal.returns-clause-at_home
returns-clause-at_home c = λ terms k. call-home c.args.self.now c.ask.new.self c.ask.result c.ask.ensures terms k

pub returns-clause-quiet : goal.returns-clause-quiet
returns-clause-quiet c = λ terms k e. call-quiet c.args.self.now c.ask.new.self c.ask.result c.ask.ensures terms k e

pub returns-clause-small : goal.returns-clause-small
returns-clause-small c = λ sizes k. call-small c.args.self.now c.ask.new.self c.ask.result c.ask.ensures sizes k
