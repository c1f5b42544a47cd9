use Rattle.http_ends.proofs.Growing.{goes_on, at_goes_on, begins}
use Rattle.definition_laws.proofs.ends.response_goes_on.Goals as goal

pub returns-clause-goes_on : goal.returns-clause-goes_on
returns-clause-goes_on c = goes_on

pub returns-clause-at : goal.returns-clause-at
returns-clause-at c = at_goes_on

pub returns-clause-begins : goal.returns-clause-begins
returns-clause-begins c = begins
