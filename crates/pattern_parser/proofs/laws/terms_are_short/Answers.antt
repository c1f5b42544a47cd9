use Rattle.pattern_parser.proofs.Shorts.{query_short}
use Rattle.pattern_parser.proofs.laws.terms_are_short.Goals as goal

pub returns : goal.returns
returns c = λ text q r. query_short text q r
