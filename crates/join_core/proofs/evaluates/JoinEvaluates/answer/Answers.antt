use Rattle.request_plan.specs.JointPages.{joint_page}
use Rattle.join_core.specs.Sound.{KeepsTo}
use Rattle.join_core.proofs.Evaluating.{answer-suits, answer-owes, one-true, answer-sizes, on-ok}
use Rattle.join_core.proofs.evaluates.JoinEvaluates.answer.Goals as goal

pub returns-clause-suits : goal.returns-clause-suits
returns-clause-suits c = λ w is told. answer-suits w c.args.self.now c.answer.new.self c.args.ticket c.answer.result is (c.answer.ensures.taken w is.1 (one-true w c.args.self.now c.args.ticket c.args.page is told))

pub returns-clause-owes : goal.returns-clause-owes
returns-clause-owes c = λ w is told. answer-owes w c.args.self.now c.answer.new.self c.args.ticket c.answer.result is (c.answer.ensures.taken w is.1 (one-true w c.args.self.now c.args.ticket c.args.page is told))

pub returns-clause-keeps : goal.returns-clause-keeps
returns-clause-keeps c = λ terms k home. on-ok (KeepsTo terms c.answer.new.self) c.answer.result (c.answer.ensures.keeps terms k home)

pub returns-clause-small : goal.returns-clause-small
returns-clause-small c = λ sizes k. answer-sizes sizes c.args.self.now c.answer.new.self c.args.ticket (joint_page c.args.page) c.answer.result c.answer.ensures.takes (c.answer.ensures.small sizes.patterns) k
