use Rattle.result_json.proofs.Pieces.{rows_go_on}
use Rattle.result_json.proofs.laws.rows_go_on.Goals as goal

pub returns : goal.returns
returns c = rows_go_on
