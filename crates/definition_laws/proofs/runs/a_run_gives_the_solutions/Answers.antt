use Rattle.definition_laws.proofs.Accounts.{gives-all, ends-whole}
use Rattle.definition_laws.proofs.runs.a_run_gives_the_solutions.Goals as goal

pub returns-clause-given : goal.returns-clause-given
returns-clause-given c = gives-all

pub returns-clause-whole : goal.returns-clause-whole
returns-clause-whole c = ends-whole
