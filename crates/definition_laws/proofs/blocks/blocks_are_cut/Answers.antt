use Rattle.request_plan.proofs.Cuts.{are-cut}
use Rattle.definition_laws.proofs.blocks.blocks_are_cut.Goals as goal

pub returns : goal.returns
returns c = are-cut
