use Rattle.pool_laws.proofs.RequestCuts.{requests_one}
use Rattle.pool_laws.proofs.RequestLaws.{empty_requested, put_requested, fault_requested, steps_requested, closing_requested, requests_few, requests_started, requests_rise}
use Rattle.pool_laws.proofs.requests_are_counted.Goals as goal

pub returns-clause-empty : goal.returns-clause-empty
returns-clause-empty c = empty_requested

pub returns-clause-put : goal.returns-clause-put
returns-clause-put c = put_requested

pub returns-clause-fault : goal.returns-clause-fault
returns-clause-fault c = fault_requested

pub returns-clause-step : goal.returns-clause-step
returns-clause-step c = steps_requested

pub returns-clause-close : goal.returns-clause-close
returns-clause-close c = closing_requested

pub returns-clause-few : goal.returns-clause-few
returns-clause-few c = requests_few

pub returns-clause-started : goal.returns-clause-started
returns-clause-started c = requests_started

pub returns-clause-rises : goal.returns-clause-rises
returns-clause-rises c = requests_rise

pub returns-clause-once : goal.returns-clause-once
returns-clause-once c = requests_one c.requests_are_cut.ensures.plain c.requests_are_cut.ensures.part c.requests_are_cut.ensures.once
