-- At an error no tokens are promised, and no call changes what stands before them.
use Rattle.std.proofs.Common.{◌∙◌}
use Rattle.std.proofs.lemmas.Result.{IfOk-from_err}
use Rattle.result_json.proofs.tokens.put_bound.Goals as goal

pub returns-in_err-key-clause-tokens : goal.returns-in_err-key-clause-tokens
returns-in_err-key-clause-tokens c = IfOk-from_err _ _ c.from_residual.ensures.0

pub returns-in_err-key-clause-before : goal.returns-in_err-key-clause-before
returns-in_err-key-clause-before c = c.key.ensures.room.0

pub returns-in_err-begin_object-clause-tokens : goal.returns-in_err-begin_object-clause-tokens
returns-in_err-begin_object-clause-tokens c = IfOk-from_err _ _ c.from_residual-in_err-begin_object.ensures.0

pub returns-in_err-begin_object-clause-before : goal.returns-in_err-begin_object-clause-before
returns-in_err-begin_object-clause-before c = c.begin_object.ensures.room.0 ∙ c.key.ensures.room.0

pub returns-in_err-put_members-clause-tokens : goal.returns-in_err-put_members-clause-tokens
returns-in_err-put_members-clause-tokens c = IfOk-from_err _ _ c.from_residual-in_err-put_members.ensures.0

pub returns-in_err-put_members-clause-before : goal.returns-in_err-put_members-clause-before
returns-in_err-put_members-clause-before c = c.put_members.ensures.before ∙ c.begin_object.ensures.room.0 ∙ c.key.ensures.room.0

pub returns-clause-before : goal.returns-clause-before
returns-clause-before c = c.end_object.ensures.room.0 ∙ c.put_members.ensures.before ∙ c.begin_object.ensures.room.0 ∙ c.key.ensures.room.0
