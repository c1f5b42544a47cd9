use Rattle.regular_expressions.proofs.Left.{nullable-matches, matches-nullable}
use Rattle.definition_laws.proofs.expressions.nullable_is_exact.Goals as goal

pub returns : goal.returns
returns c = λ r. (nullable-matches r, matches-nullable r)
