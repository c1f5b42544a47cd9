-- Queries with groups as contracts see them (SPARQL 1.1 Query, 18.2.1).
use Rattle.std.specs.Prelude.{ℕ, ◌≡◌, Bool, List, [], ◌∷◌, ◌++◌}
use Rattle.std.specs.List.{AllByRecursion}
use Rattle.bgp_core.specs.declared.pattern.Pattern.{Pattern}
use Rattle.bgp_core.specs.Queries.{QueryData, IsPatternOf}
use Rattle.group_query.specs.declared.step.Step.{Step}
use Rattle.group_query.specs.declared.step.Step.TheVariants as steps

-- a group graph pattern: a basic graph pattern, the empty one, or one of Join, LeftJoin and Union of two
pub data Tree : Type 0 where
  block : List Pattern → Tree
  empty : Tree
  join : Tree → Tree → Tree
  optional : Tree → Tree → Tree
  union : Tree → Tree → Tree

-- the steps of a tree: those of the left side, those of the right side, and how they are joined
abbrev pub steps_of : Tree → List Step
steps_of (block ps) = steps.Block ps ∷ []
steps_of empty = steps.Empty ∷ []
steps_of (join a b) = steps_of a ++ (steps_of b ++ steps.Join ∷ [])
steps_of (optional a b) = steps_of a ++ (steps_of b ++ steps.Optional ∷ [])
steps_of (union a b) = steps_of a ++ (steps_of b ++ steps.Union ∷ [])

-- the two trees on top of a stack joined
abbrev pub both : (Tree → Tree → Tree) → List Tree → List Tree
both f (b ∷ a ∷ stack) = f a b ∷ stack
both f stack = stack

-- a stack of trees after one more step
abbrev pub pushed : Step → List Tree → List Tree
pushed (steps.Block ps) stack = block ps ∷ stack
pushed steps.Empty stack = empty ∷ stack
pushed steps.Join stack = both join stack
pushed steps.Optional stack = both optional stack
pushed steps.Union stack = both union stack

abbrev pub stacked : List Step → List Tree → List Tree
stacked [] stack = stack
stacked (s ∷ ss) stack = stacked ss (pushed s stack)

abbrev pub top : List Tree → Tree
top [] = empty
top (t ∷ stack) = t

-- the tree of some steps
abbrev pub tree_of : List Step → Tree
tree_of ss = top (stacked ss [])

-- the steps are those of one tree
abbrev pub IsPostfix : List Step → Type 0
IsPostfix ss = ss ≡ steps_of (tree_of ss)

-- a query with groups: the steps of its group, the text of each name, the numbers of the selected names, and whether each row stands once
pub record GroupData : Type 0 where
  pub steps : List Step
  pub names : List (List ℕ)
  pub selected : List ℕ
  pub distinct : Bool

-- the group of a query
abbrev pub group_tree : GroupData → Tree
group_tree g = tree_of g.steps

-- the blocks, in the order in which they are written
abbrev pub blocks_of : Tree → List (List Pattern)
blocks_of (block ps) = ps ∷ []
blocks_of empty = []
blocks_of (join a b) = blocks_of a ++ blocks_of b
blocks_of (optional a b) = blocks_of a ++ blocks_of b
blocks_of (union a b) = blocks_of a ++ blocks_of b

-- the names of each block have numbers below the count, and its fixed parts are no blank nodes
abbrev pub TreeFits : ℕ → Tree → Type 0
TreeFits count t = AllByRecursion (λ ps. AllByRecursion (IsPatternOf count) ps) (blocks_of t)

-- ---- one block of such a query, as a query

-- the query of a block, which selects nothing
abbrev pub block_query : List (List ℕ) → List Pattern → QueryData
block_query names ps = record { patterns = ps; names = names; selected = [] }

-- what a result's text shows of a query with groups: its names and those that are selected
abbrev pub shown_query : GroupData → QueryData
shown_query g = record { patterns = []; names = g.names; selected = g.selected }
