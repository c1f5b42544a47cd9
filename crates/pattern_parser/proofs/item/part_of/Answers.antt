-- The names are numbered as before, or by the one that joins.
use Rattle.std.proofs.lemmas.Result.{IfOk-from_err}
use Rattle.pattern_parser.proofs.item.part_of.Goals as goal

pub number-requires-clause-numbered : goal.number-requires-clause-numbered
number-requires-clause-numbered c = c.requires.numbered

pub number-requires-clause-few : goal.number-requires-clause-few
number-requires-clause-few c = c.requires.few

pub returns-in_err-number-in-Some-clause-part : goal.returns-in_err-number-in-Some-clause-part
returns-in_err-number-in-Some-clause-part c = IfOk-from_err _ _ c.from_residual.ensures.0

pub returns-in_err-number-in-Some-clause-names : goal.returns-in_err-number-in-Some-clause-names
returns-in_err-number-in-Some-clause-names c = IfOk-from_err _ _ c.from_residual.ensures.0

pub returns-in_err-number-in-Some-clause-numbered : goal.returns-in_err-number-in-Some-clause-numbered
returns-in_err-number-in-Some-clause-numbered c = IfOk-from_err _ _ c.from_residual.ensures.0

pub returns-in_err-term-in-None-clause-part : goal.returns-in_err-term-in-None-clause-part
returns-in_err-term-in-None-clause-part c = IfOk-from_err _ _ c.from_residual-in_err-term-in-None.ensures.0

pub returns-in_err-term-in-None-clause-names : goal.returns-in_err-term-in-None-clause-names
returns-in_err-term-in-None-clause-names c = IfOk-from_err _ _ c.from_residual-in_err-term-in-None.ensures.0

pub returns-in_err-term-in-None-clause-numbered : goal.returns-in_err-term-in-None-clause-numbered
returns-in_err-term-in-None-clause-numbered c = IfOk-from_err _ _ c.from_residual-in_err-term-in-None.ensures.0

pub returns-in_ok-number-in-Some-clause-numbered : goal.returns-in_ok-number-in-Some-clause-numbered
returns-in_ok-number-in-Some-clause-numbered c = c.in_ok-number-in-Some.ensures.numbered

pub returns-in-Some-2-clause-numbered : goal.returns-in-Some-2-clause-numbered
returns-in-Some-2-clause-numbered c = c.requires.numbered

pub returns-in-None-2-clause-numbered : goal.returns-in-None-2-clause-numbered
returns-in-None-2-clause-numbered c = c.requires.numbered
