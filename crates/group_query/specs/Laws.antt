-- What steps say of trees.
use Rattle.std.specs.Prelude.{◌≡◌}
use Rattle.group_query.specs.Trees.{Tree, steps_of, tree_of, IsPostfix}

-- the steps of a tree give that tree, and so are those of one tree
pub record StepsAreTrees : Type 0 where
  pub tree : (t : Tree) → tree_of (steps_of t) ≡ t
  pub postfix : (t : Tree) → IsPostfix (steps_of t)
