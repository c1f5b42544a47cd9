use Rattle.std.proofs.Common.{List, subst}
use Rattle.std.specs.List.{AllByRecursion}
use Rattle.bgp_core.specs.Queries.{IsValidPattern}
use Rattle.group_query.specs.declared.step.Step.{Step}
use Rattle.group_query.specs.Trees.{tree_of, blocks_of}
use Rattle.query_command.proofs.ValidBlocks.{valid_blocks}
use Rattle.query_command.proofs.laws.blocks_are_valid.Goals as goal

pub returns : goal.returns
returns c =
    subst (λ (ss : List Step). AllByRecursion (AllByRecursion IsValidPattern) (blocks_of (tree_of ss))) c.steps.ensures.value (valid_blocks c.steps.result.now c.steps.ensures.postfix c.steps_are_valid.ensures)
