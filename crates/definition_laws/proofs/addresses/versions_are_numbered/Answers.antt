use Rattle.template_fill.proofs.Histories.{last_served, versions_follow, versions_stay}
use Rattle.definition_laws.proofs.addresses.versions_are_numbered.Goals as goal

pub returns-clause-last : goal.returns-clause-last
returns-clause-last c = last_served

pub returns-clause-follow : goal.returns-clause-follow
returns-clause-follow c = versions_follow

pub returns-clause-stay : goal.returns-clause-stay
returns-clause-stay c = versions_stay
