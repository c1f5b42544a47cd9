use Rattle.std.proofs.Common.{arith}
use Rattle.table_cases.proofs.tables.few_comparisons.Goals as goal

pub returns-clause-cost : goal.returns-clause-cost
returns-clause-cost g c = let most = c.range.ensures.cost 11 c.requires.few in omega (arith, most)
