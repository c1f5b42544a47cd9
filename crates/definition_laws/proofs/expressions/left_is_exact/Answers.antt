use Rattle.regular_expressions.proofs.Left.{left-matches, matches-left}
use Rattle.definition_laws.proofs.expressions.left_is_exact.Goals as goal

pub returns : goal.returns
returns c = λ r k w. (left-matches r k w, matches-left r k w)
