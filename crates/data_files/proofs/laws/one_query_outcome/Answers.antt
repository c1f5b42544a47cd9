use Rattle.data_files.proofs.Outcomes.{one_query}
use Rattle.data_files.proofs.laws.one_query_outcome.Goals as goal

pub returns : goal.returns
returns c = one_query
