use Rattle.template_fill.proofs.Histories.{versions, one_history}
use Rattle.template_fill.proofs.laws.versions_are_valid.Goals as goal

pub returns-clause-versions : goal.returns-clause-versions
returns-clause-versions c = versions

pub returns-clause-one : goal.returns-clause-one
returns-clause-one c = one_history
