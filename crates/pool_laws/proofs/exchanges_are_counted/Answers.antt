use Rattle.pool_laws.proofs.Trying.{empty_few, put_few, step_few, step_tries}
use Rattle.pool_laws.proofs.Dialling.{empty_dials, put_dials, fault_dials, step_dials, closing_dials}
use Rattle.pool_laws.proofs.exchanges_are_counted.Goals as goal

pub returns-clause-empty : goal.returns-clause-empty
returns-clause-empty c = empty_few

pub returns-clause-put : goal.returns-clause-put
returns-clause-put c = put_few

pub returns-clause-step : goal.returns-clause-step
returns-clause-step c = step_few

pub returns-clause-tries : goal.returns-clause-tries
returns-clause-tries c = step_tries

pub returns-clause-dials_empty : goal.returns-clause-dials_empty
returns-clause-dials_empty c = empty_dials

pub returns-clause-dials_put : goal.returns-clause-dials_put
returns-clause-dials_put c = put_dials

pub returns-clause-dials_fault : goal.returns-clause-dials_fault
returns-clause-dials_fault c = fault_dials

pub returns-clause-dials_step : goal.returns-clause-dials_step
returns-clause-dials_step c = step_dials

pub returns-clause-dials_close : goal.returns-clause-dials_close
returns-clause-dials_close c = closing_dials
