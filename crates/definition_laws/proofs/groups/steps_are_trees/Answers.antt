use Rattle.group_query.proofs.Trees.{tree_back, is_postfix}
use Rattle.definition_laws.proofs.groups.steps_are_trees.Goals as goal

pub returns : goal.returns
returns c = record { tree = tree_back; postfix = is_postfix }
