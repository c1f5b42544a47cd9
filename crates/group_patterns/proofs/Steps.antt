-- The blocks of steps are those of their tree.
use Rattle.std.proofs.Common.{ℕ, suc, ◌≡◌, ◌<◌, ◌+◌, ◌++◌, List, [], ◌∷◌, length, get_or, drop, refl, sym, ap, subst, ◌∙◌, append_assoc, append-nil, add-one}
use Rattle.std.proofs.Math.Seq.{drop-cons}
use Rattle.bgp_core.specs.declared.pattern.Pattern.{Pattern}
use Rattle.group_query.specs.declared.step.Step.{Step}
use Rattle.group_query.specs.declared.step.Step.TheVariants as steps
use Rattle.group_query.specs.Trees.{Tree, block, empty, join, optional, union, steps_of, tree_of, IsPostfix, blocks_of, TreeFits}
use Rattle.group_patterns.specs.Asking.{block_in, blocks_in, BlocksFit}

blocks-append : (ss more : List Step) → blocks_in (ss ++ more) ≡ blocks_in ss ++ blocks_in more
blocks-append [] more = refl
blocks-append (s ∷ ss) more = ap (λ (l : List (List Pattern)). block_in s ++ l) (blocks-append ss more) ∙ sym (append_assoc (block_in s) (blocks_in ss) (blocks_in more))

two-sides : (a b : Tree) (s : Step) → block_in s ≡ [] → blocks_in (steps_of a) ≡ blocks_of a → blocks_in (steps_of b) ≡ blocks_of b → blocks_in (steps_of a ++ (steps_of b ++ s ∷ [])) ≡ blocks_of a ++ blocks_of b
two-sides a b s none e f =
    blocks-append (steps_of a) (steps_of b ++ s ∷ [])
    ∙ (ap (λ (l : List (List Pattern)). l ++ blocks_in (steps_of b ++ s ∷ [])) e
    ∙ ap (λ (l : List (List Pattern)). blocks_of a ++ l)
    (blocks-append (steps_of b) (s ∷ [])
    ∙ (ap (λ (l : List (List Pattern)). l ++ (block_in s ++ [])) f
    ∙ (ap (λ (l : List (List Pattern)). blocks_of b ++ (l ++ [])) none ∙ append-nil (blocks_of b)))))

of-tree : (t : Tree) → blocks_in (steps_of t) ≡ blocks_of t
of-tree (block ps) = refl
of-tree empty = refl
of-tree (join a b) = two-sides a b steps.Join refl (of-tree a) (of-tree b)
of-tree (optional a b) = two-sides a b steps.Optional refl (of-tree a) (of-tree b)
of-tree (union a b) = two-sides a b steps.Union refl (of-tree a) (of-tree b)

pub blocks-are : (ss : List Step) → IsPostfix ss → blocks_in ss ≡ blocks_of (tree_of ss)
blocks-are ss e = ap blocks_in e ∙ of-tree (tree_of ss)

pub blocks-fit : (count : ℕ) (ss : List Step) → IsPostfix ss → TreeFits count (tree_of ss) → BlocksFit count (blocks_in ss)
blocks-fit count ss e fits = subst (BlocksFit count) (sym (blocks-are ss e)) fits

-- the step at a place, and those behind it
pub step-at : (ss : List Step) (i : ℕ) (s : Step) → i < length ss → s ≡ get_or ss i s → blocks_in (drop i ss) ≡ block_in s ++ blocks_in (drop (i + 1) ss)
step-at ss i s below at =
    rw add-one (ap blocks_in (drop-cons ss i s below ∙ ap (λ (x : Step). x ∷ drop (suc i) ss) (sym at)))
