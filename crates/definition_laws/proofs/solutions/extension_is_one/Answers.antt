use Rattle.bgp_core.proofs.Extending.{extension-some, extension-only}
use Rattle.definition_laws.proofs.solutions.extension_is_one.Goals as goal

pub returns-clause-is_one : goal.returns-clause-is_one
returns-clause-is_one c = extension-some

pub returns-clause-only : goal.returns-clause-only
returns-clause-only c = extension-only
