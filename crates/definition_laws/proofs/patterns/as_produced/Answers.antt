use Rattle.pattern_parser.proofs.Produced.{body_read}
use Rattle.definition_laws.proofs.patterns.as_produced.Goals as goal

pub returns : goal.returns
returns c = λ is ts b. body_read is ts b
