use Rattle.triple_table.proofs.Kept.{authorities_are_short}
use Rattle.triple_table.proofs.laws.authorities_are_short.Goals as goal

pub returns : goal.returns
returns c = authorities_are_short
