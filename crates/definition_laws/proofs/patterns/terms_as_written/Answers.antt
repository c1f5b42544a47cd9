use Rattle.definition_laws.proofs.AsWritten.{written}
use Rattle.definition_laws.proofs.patterns.terms_as_written.Goals as goal

pub returns : goal.returns
returns c = λ text q r. written text q r
