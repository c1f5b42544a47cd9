-- Where memory runs out there is no query.
use Rattle.std.proofs.lemmas.Result.{IfOk-from_err}
use Rattle.bgp_core.proofs.pattern.Query.copy.Goals as goal

pub returns-in_err-patterns : goal.returns-in_err-patterns
returns-in_err-patterns c = IfOk-from_err _ _ c.from_residual.ensures.0

pub returns-in_err-names : goal.returns-in_err-names
returns-in_err-names c = IfOk-from_err _ _ c.from_residual-in_err-names.ensures.0

pub returns-in_err-selected : goal.returns-in_err-selected
returns-in_err-selected c = IfOk-from_err _ _ c.from_residual-in_err-selected.ensures.0
