use Rattle.join_core.proofs.Least.{least-here-in, least-later-in}
use Rattle.join_core.proofs.choice.+least_count.Goals as goal

pub returns-then-is_least-clause-value : goal.returns-then-is_least-clause-value
returns-then-is_least-clause-value t c = least-here-in c.args.firsts.now c.first-item.result c.count.result _ c.in-len1-up.len_at_least c.first-item.is c.count.ensures c.is_least.ensures c.if-is_least.true

pub returns-else-is_least-clause-value : goal.returns-else-is_least-clause-value
returns-else-is_least-clause-value t c = least-later-in c.args.firsts.now c.first-item.result c.count.result _ _ c.in-len1-up.len_at_least c.first-item.is c.count.ensures c.is_least.ensures c.if-is_least.false c.least_count.ensures.value
