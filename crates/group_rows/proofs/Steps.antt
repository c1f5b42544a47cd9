-- The steps of a group leave its rows on the stack.
use Rattle.std.proofs.Common.{ℕ, zero, suc, ◌≡◌, ◌<◌, ◌+◌, List, [], ◌∷◌, ◌++◌, length, get_or, drop, refl, ap, sym, ◌∙◌, append-nil, append_assoc, length-append, add-one}
use Rattle.std.proofs.Math.Seq.{drop-cons}
use Rattle.std.proofs.lemmas.List.{drop-drop}
use Rattle.bgp_core.specs.declared.pattern.Pattern.{Pattern}
use Rattle.bgp_core.specs.Solutions.{Places}
use Rattle.group_query.specs.declared.step.Step.{Step}
use Rattle.group_query.specs.declared.step.Step.TheVariants as steps
use Rattle.group_query.specs.Trees.{Tree, block, empty, join, optional, union, steps_of, tree_of, IsPostfix, blocks_of, GroupData, group_tree, shown_query}
use Rattle.bgp_core.specs.Queries.{QueryData}
use Rattle.group_rows.specs.Gathering.{behind, gathered}
use Rattle.group_rows.specs.Stacks.{rest, blocks_after, stack_after, run}

one_behind : (blocks : List (List Places)) → rest blocks ≡ drop (suc zero) blocks
one_behind [] = refl
one_behind (b ∷ bs) = refl

both_behind : (xs ys : List (List Pattern)) (blocks : List (List Places)) → drop (length ys) (drop (length xs) blocks) ≡ drop (length (xs ++ ys)) blocks
both_behind xs ys blocks = drop-drop (length ys) (length xs) blocks ∙ ap (λ n. drop n blocks) (sym (length-append xs ys))

-- what steps do, whatever is behind them
abbrev Leaves : List (List ℕ) → Tree → Type 0
Leaves names t = (more : List Step) (blocks stack : List (List Places)) → run names (steps_of t ++ more) blocks stack ≡ run names more (behind t blocks) (gathered names t blocks ∷ stack)

two_sides : (names : List (List ℕ)) (a b : Tree) (s : Step) → Leaves names a → Leaves names b → (more : List Step) (blocks stack : List (List Places)) → run names ((steps_of a ++ (steps_of b ++ s ∷ [])) ++ more) blocks stack ≡ run names (s ∷ more) (behind b (behind a blocks)) (gathered names b (behind a blocks) ∷ gathered names a blocks ∷ stack)
two_sides names a b s f g more blocks stack =
    ap (λ (l : List Step). run names l blocks stack) (append_assoc (steps_of a) (steps_of b ++ s ∷ []) more ∙ ap (λ (l : List Step). steps_of a ++ l) (append_assoc (steps_of b) (s ∷ []) more)) ∙
    f (steps_of b ++ s ∷ more) blocks stack ∙
    g (s ∷ more) (behind a blocks) (gathered names a blocks ∷ stack)

leaves : (names : List (List ℕ)) (t : Tree) → Leaves names t
leaves names (block ps) more blocks stack = ap (λ (l : List (List Places)). run names more l (gathered names (block ps) blocks ∷ stack)) (one_behind blocks)
leaves names empty more blocks stack = refl
leaves names (join a b) more blocks stack =
    two_sides names a b steps.Join (leaves names a) (leaves names b) more blocks stack ∙
    ap (λ (l : List (List Places)). run names more l (gathered names (join a b) blocks ∷ stack)) (both_behind (blocks_of a) (blocks_of b) blocks)
leaves names (optional a b) more blocks stack =
    two_sides names a b steps.Optional (leaves names a) (leaves names b) more blocks stack ∙
    ap (λ (l : List (List Places)). run names more l (gathered names (optional a b) blocks ∷ stack)) (both_behind (blocks_of a) (blocks_of b) blocks)
leaves names (union a b) more blocks stack =
    two_sides names a b steps.Union (leaves names a) (leaves names b) more blocks stack ∙
    ap (λ (l : List (List Places)). run names more l (gathered names (union a b) blocks ∷ stack)) (both_behind (blocks_of a) (blocks_of b) blocks)

run_is : (names : List (List ℕ)) (ss : List Step) (blocks : List (List Places)) → IsPostfix ss → run names ss blocks [] ≡ gathered names (tree_of ss) blocks ∷ []
run_is names ss blocks e =
    ap (λ (l : List Step). run names l blocks []) (e ∙ sym (append-nil (steps_of (tree_of ss)))) ∙ leaves names (tree_of ss) [] blocks []

-- the steps of a query leave the rows of its group alone
pub gathers : (g : GroupData) (names : List (List ℕ)) (q : QueryData) (ss : List Step) (blocks stack : List (List Places)) → names ≡ q.names → q ≡ shown_query g → ss ≡ g.steps → IsPostfix ss → stack ≡ run names ss blocks [] → stack ≡ gathered g.names (group_tree g) blocks ∷ []
gathers g names q ss blocks stack f e d p h =
    let same_names : names ≡ g.names = f ∙ ap (λ (x : QueryData). x.names) e in
    h ∙ run_is names ss blocks p ∙
    ap (λ (x : List (List ℕ)). gathered x (tree_of ss) blocks ∷ []) same_names ∙
    ap (λ (l : List Step). gathered g.names (tree_of l) blocks ∷ []) d

pub top_is : (all one : List Places) (old new : List (List Places)) → old ≡ all ∷ [] → old ≡ one ∷ new → one ≡ all
top_is all one old new e f = cc

pub none_left : (all : List Places) (old new : List (List Places)) → old ≡ all ∷ [] → old ≡ new → new ≡ drop 1 old → ⊥
none_left all old new e f g =
    let empty_list : all ∷ [] ≡ [] = sym e ∙ f ∙ g ∙ ap (λ (l : List (List Places)). drop 1 l) e in
    cc

-- one step more
pub run_step : (names : List (List ℕ)) (ss : List Step) (i : ℕ) (s : Step) (blocks stack blocks' stack' all : List (List Places)) → i < length ss → s ≡ get_or ss i s → blocks' ≡ blocks_after s blocks → stack' ≡ stack_after names s blocks stack → run names (drop i ss) blocks stack ≡ all → run names (drop (i + 1) ss) blocks' stack' ≡ all
run_step names ss i s blocks stack blocks' stack' all below at f g e =
    let here : drop i ss ≡ s ∷ drop (suc i) ss = drop-cons ss i s below ∙ ap (λ (x : Step). x ∷ drop (suc i) ss) (sym at) in
    rw (add-one, f, g) (sym (ap (λ (l : List Step). run names l blocks stack) here) ∙ e)
