use Rattle.pool_laws.proofs.Sending.{empty_sent, put_sent, fault_sent, steps_sent, closing_sent}
use Rattle.pool_laws.proofs.whole_requests_are_sent.Goals as goal

pub returns-clause-empty : goal.returns-clause-empty
returns-clause-empty c = empty_sent

pub returns-clause-put : goal.returns-clause-put
returns-clause-put c = put_sent

pub returns-clause-fault : goal.returns-clause-fault
returns-clause-fault c = fault_sent

pub returns-clause-step : goal.returns-clause-step
returns-clause-step c = steps_sent

pub returns-clause-close : goal.returns-clause-close
returns-clause-close c = closing_sent
