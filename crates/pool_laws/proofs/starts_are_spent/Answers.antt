use Rattle.pool_laws.proofs.Spending.{empty_spent, put_spent, fault_spent, step_spent}
use Rattle.pool_laws.proofs.RequestLaws.{budget_answered, closing_most}
use Rattle.pool_laws.proofs.starts_are_spent.Goals as goal

pub returns-clause-empty : goal.returns-clause-empty
returns-clause-empty c = empty_spent

pub returns-clause-put : goal.returns-clause-put
returns-clause-put c = put_spent

pub returns-clause-fault : goal.returns-clause-fault
returns-clause-fault c = fault_spent

pub returns-clause-step : goal.returns-clause-step
returns-clause-step c = step_spent

pub returns-clause-budget : goal.returns-clause-budget
returns-clause-budget c = budget_answered

pub returns-clause-close : goal.returns-clause-close
returns-clause-close c = closing_most
