use Rattle.regular_expressions.proofs.Left.{alive-some}
use Rattle.definition_laws.proofs.expressions.alive_begins.Goals as goal

pub returns : goal.returns
returns c = λ r e. alive-some r e
