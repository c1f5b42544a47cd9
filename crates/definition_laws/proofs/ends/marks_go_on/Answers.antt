use Rattle.http_ends.proofs.Marks.{joined, padded, one_version}
use Rattle.definition_laws.proofs.Longer.{longer}
use Rattle.definition_laws.proofs.ends.marks_go_on.Goals as goal

pub returns-clause-joined : goal.returns-clause-joined
returns-clause-joined c = joined

pub returns-clause-padded : goal.returns-clause-padded
returns-clause-padded c = padded

pub returns-clause-longer : goal.returns-clause-longer
returns-clause-longer c = longer

pub returns-clause-one : goal.returns-clause-one
returns-clause-one c = one_version
