use Rattle.triple_table.proofs.Kept.{served_are_short}
use Rattle.triple_table.proofs.laws.served_terms_are_short.Goals as goal

pub returns : goal.returns
returns c = served_are_short
