use Rattle.pool_laws.proofs.RequestLaws.{empty_answered, put_answered, steps_answered, closing_answered, asks_answered}
use Rattle.pool_laws.proofs.RequestExact.{requests_exact}
use Rattle.pool_laws.proofs.asks_are_answered.Goals as goal

pub returns-clause-empty : goal.returns-clause-empty
returns-clause-empty c = empty_answered

pub returns-clause-put : goal.returns-clause-put
returns-clause-put c = put_answered

pub returns-clause-step : goal.returns-clause-step
returns-clause-step c = steps_answered

pub returns-clause-close : goal.returns-clause-close
returns-clause-close c = closing_answered

pub returns-clause-all : goal.returns-clause-all
returns-clause-all c = asks_answered

pub returns-clause-exact : goal.returns-clause-exact
returns-clause-exact c = requests_exact
