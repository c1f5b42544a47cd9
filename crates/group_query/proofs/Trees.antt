-- The steps of a tree give that tree.
use Rattle.std.proofs.Common.{◌≡◌, refl, sym, ap, ◌∙◌, List, [], ◌∷◌, ◌++◌, append_assoc}
use Rattle.std.proofs.lemmas.List.{append-nil}
use Rattle.group_query.specs.declared.step.Step.{Step}
use Rattle.group_query.specs.declared.step.Step.TheVariants as steps
use Rattle.group_query.specs.Trees.{Tree, block, empty, join, optional, union, steps_of, stacked, top, tree_of, IsPostfix}

both_stack : (a b : Tree) (s : Step) (rest : List Step) (stack : List Tree) → ((rest : List Step) (stack : List Tree) → stacked (steps_of a ++ rest) stack ≡ stacked rest (a ∷ stack)) → ((rest : List Step) (stack : List Tree) → stacked (steps_of b ++ rest) stack ≡ stacked rest (b ∷ stack)) → stacked ((steps_of a ++ (steps_of b ++ s ∷ [])) ++ rest) stack ≡ stacked (s ∷ rest) (b ∷ a ∷ stack)
both_stack a b s rest stack f g =
    ap (λ (l : List Step). stacked l stack) (append_assoc (steps_of a) (steps_of b ++ s ∷ []) rest) ∙ f ((steps_of b ++ s ∷ []) ++ rest) stack ∙
    ap (λ (l : List Step). stacked l (a ∷ stack)) (append_assoc (steps_of b) (s ∷ []) rest) ∙ g (s ∷ rest) (a ∷ stack)

-- the steps of a tree push it
pub steps_stack : (t : Tree) (rest : List Step) (stack : List Tree) → stacked (steps_of t ++ rest) stack ≡ stacked rest (t ∷ stack)
steps_stack (block ps) rest stack = refl
steps_stack empty rest stack = refl
steps_stack (join a b) rest stack = both_stack a b steps.Join rest stack (steps_stack a) (steps_stack b)
steps_stack (optional a b) rest stack = both_stack a b steps.Optional rest stack (steps_stack a) (steps_stack b)
steps_stack (union a b) rest stack = both_stack a b steps.Union rest stack (steps_stack a) (steps_stack b)

pub tree_back : (t : Tree) → tree_of (steps_of t) ≡ t
tree_back t = ap (λ (l : List Step). top (stacked l [])) (sym (append-nil (steps_of t))) ∙ ap top (steps_stack t [] [])

pub is_postfix : (t : Tree) → IsPostfix (steps_of t)
is_postfix t = ap steps_of (sym (tree_back t))
