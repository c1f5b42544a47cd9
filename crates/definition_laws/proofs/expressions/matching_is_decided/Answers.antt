use Rattle.regular_expressions.proofs.Decide.{decide_matches}
use Rattle.definition_laws.proofs.expressions.matching_is_decided.Goals as goal

pub returns : goal.returns
returns c = λ r w. decide_matches r w
