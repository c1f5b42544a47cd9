use Rattle.pool_laws.proofs.Hosts.{empty_owns_one, put_owns_one, fault_owns_one, step_owns_one, closing_closes_one}
use Rattle.definition_laws.proofs.pools.links_are_closed.Goals as goal

pub returns-clause-empty : goal.returns-clause-empty
returns-clause-empty c = empty_owns_one

pub returns-clause-put : goal.returns-clause-put
returns-clause-put c = put_owns_one

pub returns-clause-fault : goal.returns-clause-fault
returns-clause-fault c = fault_owns_one

pub returns-clause-step : goal.returns-clause-step
returns-clause-step c = step_owns_one

pub returns-clause-close : goal.returns-clause-close
returns-clause-close c = closing_closes_one
