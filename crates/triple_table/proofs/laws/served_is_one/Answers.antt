use Rattle.triple_table.proofs.ServedData.{served_one}
use Rattle.triple_table.proofs.laws.served_is_one.Goals as goal

pub returns : goal.returns
returns c = served_one
