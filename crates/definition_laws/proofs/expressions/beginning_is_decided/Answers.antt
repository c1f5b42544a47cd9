use Rattle.regular_expressions.proofs.Decide.{decide_begins}
use Rattle.definition_laws.proofs.expressions.beginning_is_decided.Goals as goal

pub returns : goal.returns
returns c = λ r w. decide_begins r w
