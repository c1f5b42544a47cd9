use Rattle.data_servers.proofs.Small.{generated_are_small}
use Rattle.data_servers.proofs.laws.generated_data_are_small.Goals as goal

pub returns : goal.returns
returns c = generated_are_small c.authorities_are_short.ensures c.served_terms_are_short.ensures
