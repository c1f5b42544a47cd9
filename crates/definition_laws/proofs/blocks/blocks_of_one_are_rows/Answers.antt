use Rattle.definition_laws.proofs.RowByRow.{ones-are-rows}
use Rattle.definition_laws.proofs.blocks.blocks_of_one_are_rows.Goals as goal

pub returns : goal.returns
returns c = ones-are-rows
