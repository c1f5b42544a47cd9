use Rattle.query_tokens.proofs.Pieces.{one_tokens, one_fault, apart}
use Rattle.query_tokens.proofs.Readings.{some_reading}
use Rattle.definition_laws.proofs.tokens.one_reading.Goals as goal

pub returns : goal.returns
returns c = record { some = λ cs. some_reading c.matching_is_decided.ensures cs; tokens = λ cs a b x y. one_tokens cs a b x y; faults = λ cs m n x y. one_fault cs m n x y; apart = λ cs ts n x y. apart cs ts n x y }
