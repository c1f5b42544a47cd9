use Rattle.plain_answers.proofs.Firsts.{key_added}
use Rattle.plain_answers.proofs.solve.add_new.Goals as goal

pub returns-in_ok-push-clause-seen : goal.returns-in_ok-push-clause-seen
returns-in_ok-push-clause-seen c = λ q. key_added _ _ c.args.triple.now q (c.in_ok-insert.ensures.updates.0 (record c.args.triple { now = q }))

pub returns-else-branch-clause-seen : goal.returns-else-branch-clause-seen
returns-else-branch-clause-seen c = λ q. key_added _ _ c.args.triple.now q (c.in_ok-insert.ensures.updates.0 (record c.args.triple { now = q }))
