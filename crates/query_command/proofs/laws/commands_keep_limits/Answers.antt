use Rattle.query_command.proofs.Bounded.{files_are_servable, generated_are_servable, queries_are_askable}
use Rattle.query_command.proofs.GroupTerms.{groups_are_askable}
use Rattle.query_command.proofs.laws.commands_keep_limits.Goals as goal

pub returns-clause-files : goal.returns-clause-files
returns-clause-files c = files_are_servable c.what_is_read_is_readable.ensures c.served_terms_are_short.ensures

pub returns-clause-generated : goal.returns-clause-generated
returns-clause-generated c = generated_are_servable c.generated_data_are_small.ensures

pub returns-clause-queries : goal.returns-clause-queries
returns-clause-queries c = queries_are_askable c.terms_are_short.ensures

pub returns-clause-groups : goal.returns-clause-groups
returns-clause-groups c = groups_are_askable
