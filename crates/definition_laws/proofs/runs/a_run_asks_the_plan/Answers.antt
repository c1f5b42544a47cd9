use Rattle.definition_laws.proofs.Accounts.{asks-all}
use Rattle.definition_laws.proofs.runs.a_run_asks_the_plan.Goals as goal

pub returns : goal.returns
returns c = asks-all
