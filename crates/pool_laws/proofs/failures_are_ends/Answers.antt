use Rattle.pool_laws.proofs.Failing.{empty_failing, put_failing, fault_failing, step_failing}
use Rattle.pool_laws.proofs.failures_are_ends.Goals as goal

pub returns-clause-empty : goal.returns-clause-empty
returns-clause-empty c = empty_failing

pub returns-clause-put : goal.returns-clause-put
returns-clause-put c = put_failing

pub returns-clause-fault : goal.returns-clause-fault
returns-clause-fault c = fault_failing

pub returns-clause-step : goal.returns-clause-step
returns-clause-step c = step_failing
