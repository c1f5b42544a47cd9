use Rattle.join_core.specs.Sound.{KeepsTo}
use Rattle.join_core.proofs.Keeping.{nothing-left}
use Rattle.join_core.proofs.Evaluating.{over-is, asked-suits, asked-owes, asked-stands, asked-sizes, on-ok}
use Rattle.join_core.proofs.evaluates.JoinEvaluates.next_ask.Goals as goal

pub returns-clause-suits : goal.returns-clause-suits
returns-clause-suits c = λ w is. asked-suits w c.args.self.now c.next_ask.new.self c.next_ask.result is (c.next_ask.ensures.asks w is)

pub returns-clause-owes : goal.returns-clause-owes
returns-clause-owes c = λ w is. asked-owes w c.args.self.now c.next_ask.new.self c.next_ask.result (c.next_ask.ensures.asks w is)

pub returns-clause-stands : goal.returns-clause-stands
returns-clause-stands c = asked-stands c.args.self.now c.next_ask.new.self c.next_ask.result c.next_ask.ensures.numbered c.next_ask.ensures.starts

pub returns-clause-keeps : goal.returns-clause-keeps
returns-clause-keeps c = λ terms k. on-ok (KeepsTo terms c.next_ask.new.self) c.next_ask.result (c.next_ask.ensures.keeps terms k)

pub returns-clause-quiet : goal.returns-clause-quiet
returns-clause-quiet c = λ terms k e out waiting. over-is c.args.self.now waiting (nothing-left terms c.args.self.now k (c.next_ask.ensures.nothing e) out)

pub returns-clause-small : goal.returns-clause-small
returns-clause-small c = λ sizes k. asked-sizes sizes c.args.self.now c.next_ask.new.self c.next_ask.result c.next_ask.ensures.starts c.next_ask.ensures.small k
