-- The patterns of the blocks of a query stand in its steps.
use Rattle.std.proofs.Common.{ℕ, ◌≡◌, ◌+◌, ◌<◌, List, [], ◌∷◌, ◌++◌, take, length, get_or, refl, sym, ap, ap₂, subst, ◌∙◌}
use Rattle.std.specs.List.{AllByRecursion}
use Rattle.std.proofs.lemmas.List.{take_more, append-nil}
use Rattle.list_laws.proofs.Each as each
use Rattle.bgp_core.specs.declared.pattern.Pattern.{Pattern}
use Rattle.bgp_core.specs.Queries.{IsValidPattern}
use Rattle.group_query.specs.declared.step.Step.{Step}
use Rattle.group_query.specs.declared.step.Step.TheVariants as steps
use Rattle.group_query.specs.Trees.{Tree, block, empty, join, optional, union, steps_of, tree_of, blocks_of, IsPostfix}
use Rattle.query_command.specs.Over.{IsValidStep}

-- ---- element by element

pub all_more : {A : Type 0} (P : A → Type 0) (xs : List A) (i : ℕ) (x : A) → i < length xs → x ≡ get_or xs i x → AllByRecursion P (take i xs) → P x → AllByRecursion P (take (i + 1) xs)
all_more {A} P xs i x below is f p =
    let more = take_more xs i x below ∙ ap (λ (y : A). take i xs ++ y ∷ []) (sym is) in
    subst (AllByRecursion P) (sym more) (each.all_more P (take i xs) x f p)

-- ---- the blocks of steps

abbrev step_blocks : List Step → List (List Pattern)
step_blocks [] = []
step_blocks (steps.Block ps ∷ ss) = ps ∷ step_blocks ss
step_blocks (steps.Empty ∷ ss) = step_blocks ss
step_blocks (steps.Join ∷ ss) = step_blocks ss
step_blocks (steps.Optional ∷ ss) = step_blocks ss
step_blocks (steps.Union ∷ ss) = step_blocks ss

both_blocks : (ss ts : List Step) → step_blocks (ss ++ ts) ≡ step_blocks ss ++ step_blocks ts
both_blocks [] ts = refl
both_blocks (steps.Block ps ∷ ss) ts = ap (λ (bs : List (List Pattern)). ps ∷ bs) (both_blocks ss ts)
both_blocks (steps.Empty ∷ ss) ts = both_blocks ss ts
both_blocks (steps.Join ∷ ss) ts = both_blocks ss ts
both_blocks (steps.Optional ∷ ss) ts = both_blocks ss ts
both_blocks (steps.Union ∷ ss) ts = both_blocks ss ts

-- those of two sides and a step that is no block
sides_blocks : (ss ts us : List Step) (bs cs : List (List Pattern)) → step_blocks ss ≡ bs → step_blocks ts ≡ cs → step_blocks us ≡ [] → step_blocks (ss ++ (ts ++ us)) ≡ bs ++ cs
sides_blocks ss ts us bs cs e f none =
    both_blocks ss (ts ++ us) ∙ ap₂ (λ (a b : List (List Pattern)). a ++ b) e (both_blocks ts us ∙ ap₂ (λ (a b : List (List Pattern)). a ++ b) f none ∙ append-nil cs)

tree_blocks : (t : Tree) → step_blocks (steps_of t) ≡ blocks_of t
tree_blocks (block ps) = refl
tree_blocks empty = refl
tree_blocks (join a b) = sides_blocks (steps_of a) (steps_of b) (steps.Join ∷ []) (blocks_of a) (blocks_of b) (tree_blocks a) (tree_blocks b) refl
tree_blocks (optional a b) = sides_blocks (steps_of a) (steps_of b) (steps.Optional ∷ []) (blocks_of a) (blocks_of b) (tree_blocks a) (tree_blocks b) refl
tree_blocks (union a b) = sides_blocks (steps_of a) (steps_of b) (steps.Union ∷ []) (blocks_of a) (blocks_of b) (tree_blocks a) (tree_blocks b) refl

valid_steps : (ss : List Step) → AllByRecursion IsValidStep ss → AllByRecursion (AllByRecursion IsValidPattern) (step_blocks ss)
valid_steps [] h = tt
valid_steps (steps.Block ps ∷ ss) h = (h.0, valid_steps ss h.1)
valid_steps (steps.Empty ∷ ss) h = valid_steps ss h.1
valid_steps (steps.Join ∷ ss) h = valid_steps ss h.1
valid_steps (steps.Optional ∷ ss) h = valid_steps ss h.1
valid_steps (steps.Union ∷ ss) h = valid_steps ss h.1

pub valid_blocks : (ss : List Step) → IsPostfix ss → AllByRecursion IsValidStep ss → AllByRecursion (AllByRecursion IsValidPattern) (blocks_of (tree_of ss))
valid_blocks ss postfix h = subst (AllByRecursion (AllByRecursion IsValidPattern)) (ap step_blocks postfix ∙ tree_blocks (tree_of ss)) (valid_steps ss h)
