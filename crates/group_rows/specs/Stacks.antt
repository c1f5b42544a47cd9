-- Steps over a stack of lists of rows, its top first. They serve the proofs alone.
use Rattle.std.specs.Prelude.{ℕ, List, [], ◌∷◌, ◌++◌, map}
use Rattle.bgp_core.specs.Solutions.{Places}
use Rattle.bgp_core.specs.Merging.{kept}
use Rattle.group_query.specs.declared.step.Step.{Step}
use Rattle.group_query.specs.declared.step.Step.TheVariants as steps
use Rattle.group_rows.specs.Evaluation.{unbound, variables}
use Rattle.group_rows.specs.Gathering.{first}
use Rattle.row_algebra.specs.Algebra as rows

-- the lists behind that of the first block
abbrev pub rest : List (List Places) → List (List Places)
rest [] = []
rest (b ∷ bs) = bs

-- the two lists on top put together; the stack of a tree has two there
abbrev pub both : (List Places → List Places → List Places) → List (List Places) → List (List Places)
both f [] = []
both f (b ∷ []) = []
both f (b ∷ a ∷ stack) = f a b ∷ stack

-- the lists of the blocks that are left after a step
abbrev pub blocks_after : Step → List (List Places) → List (List Places)
blocks_after (steps.Block ps) blocks = rest blocks
blocks_after steps.Empty blocks = blocks
blocks_after steps.Join blocks = blocks
blocks_after steps.Optional blocks = blocks
blocks_after steps.Union blocks = blocks

-- the stack after a step
abbrev pub stack_after : List (List ℕ) → Step → List (List Places) → List (List Places) → List (List Places)
stack_after names (steps.Block ps) blocks stack = map (kept (variables names)) (first blocks) ∷ stack
stack_after names steps.Empty blocks stack = (unbound names ∷ []) ∷ stack
stack_after names steps.Join blocks stack = both rows.joined stack
stack_after names steps.Optional blocks stack = both rows.optional stack
stack_after names steps.Union blocks stack = both (λ a b. a ++ b) stack

-- the stack after these steps
abbrev pub run : List (List ℕ) → List Step → List (List Places) → List (List Places) → List (List Places)
run names [] blocks stack = stack
run names (s ∷ ss) blocks stack = run names ss (blocks_after s blocks) (stack_after names s blocks stack)
