use Rattle.pool_laws.proofs.OwningLaws.{empty_owns, put_owns, fault_owns, step_owns, closing_closes}
use Rattle.pool_laws.proofs.Hosts.{steps_dial_held}
use Rattle.pool_laws.proofs.links_are_for_asks.Goals as goal

pub returns-clause-held : goal.returns-clause-held
returns-clause-held c = steps_dial_held

pub returns-clause-empty : goal.returns-clause-empty
returns-clause-empty c = empty_owns

pub returns-clause-put : goal.returns-clause-put
returns-clause-put c = put_owns

pub returns-clause-fault : goal.returns-clause-fault
returns-clause-fault c = fault_owns

pub returns-clause-step : goal.returns-clause-step
returns-clause-step c = step_owns

pub returns-clause-close : goal.returns-clause-close
returns-clause-close c = closing_closes
