use Rattle.data_files.proofs.Outcomes.{one_outcome}
use Rattle.data_files.proofs.laws.one_data_outcome.Goals as goal

pub returns : goal.returns
returns c = one_outcome
