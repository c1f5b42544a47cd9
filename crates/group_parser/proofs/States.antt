-- Where the walk stands around groups and behind them, by the steps that it has written.
use Rattle.std.proofs.Common.{◌≡◌, Bool, true, false, ◌&&◌, List, [], ◌∷◌, ◌++◌, refl, sym, ap, ◌∙◌, append_assoc}
use Rattle.std.proofs.lemmas.List.{append-nil}
use Rattle.bgp_core.specs.declared.pattern.Pattern.{Pattern}
use Rattle.group_query.specs.declared.step.Step.{Step}
use Rattle.group_query.specs.declared.step.Step.TheVariants as steps
use Rattle.group_query.specs.Trees.{Tree, block, empty, join, optional, union, steps_of}
use Rattle.group_parser.specs.declared.walk.Opener.TheVariants as openers
use Rattle.group_parser.specs.declared.walk.Pending.TheVariants.{Nothing, Written}
use Rattle.group_parser.specs.declared.walk.Frame.{Frame}
use Rattle.group_parser.specs.Groups.{joined}
use Rattle.group_parser.specs.Walks as walks
use Rattle.group_parser.specs.Walks.{Walking, begun, empty_step, settled_by, settled, is_pending_empty, ready, pending_by, left_by, written, with_block, finished}

-- ---- the steps that are written at once: those of the empty group wait

abbrev pub is_empty : Tree → Bool
is_empty empty = true
is_empty _ = false

abbrev pub written_steps : Tree → List Step
written_steps empty = []
written_steps t = steps_of t

full : (t : Tree) → written_steps t ++ empty_step (is_empty t) ≡ steps_of t
full (block ps) = append-nil (steps_of (block ps))
full empty = refl
full (join a b) = append-nil (steps_of (join a b))
full (optional a b) = append-nil (steps_of (optional a b))
full (union a b) = append-nil (steps_of (union a b))

-- the step that joins two groups, of which each is empty or not
abbrev join_steps : Bool → Bool → List Step
join_steps true b = []
join_steps false true = []
join_steps false false = steps.Join ∷ []

steps_joined : (a b : Tree) → written_steps (joined a b) ≡ written_steps a ++ (written_steps b ++ join_steps (is_empty a) (is_empty b))
steps_joined empty b = sym (append-nil (written_steps b))
steps_joined a empty = sym (append-nil (written_steps a))
steps_joined a b = refl

empty_joined : (a b : Tree) → is_empty (joined a b) ≡ (is_empty a && is_empty b)
empty_joined empty b = refl
empty_joined a empty = refl
empty_joined a b = refl

-- ---- states

abbrev inside : List Step → Bool → List Frame → Walking
inside l b fs = record { steps = l; is_empty = b; pending = Nothing; next = openers.Part; around = fs }

-- behind these steps, in a group that is this tree so far
abbrev pub in_group : List Step → Tree → List Frame → Walking
in_group x t fs = inside (x ++ written_steps t) (is_empty t) fs

-- the same, with this tree as the groups of a part behind it
abbrev pub in_part : List Step → Tree → Tree → List Frame → Walking
in_part x t u fs = record { steps = (x ++ written_steps t) ++ written_steps u; is_empty = is_empty t; pending = pending_by (is_empty u); next = openers.Part; around = fs }

-- behind a group, where the walk was ready for it
abbrev pub behind : Walking → Tree → Walking
behind r t = left_by r.next r.is_empty (record { steps = r.steps ++ written_steps t; is_empty = is_empty t; pending = Nothing; next = openers.Part; around = r.around })

settled_tests : (l : List Step) (b c : Bool) (fs : List Frame) → settled_by (pending_by c) (inside l b fs) ≡ inside (l ++ join_steps b c) (b && c) fs
settled_tests l true true fs = ap (λ (k : List Step). inside k true fs) (sym (append-nil l))
settled_tests l false true fs = ap (λ (k : List Step). inside k false fs) (sym (append-nil l))
settled_tests l true false fs = refl
settled_tests l false false fs = refl

-- the part joins the group
pub settled_part : (x : List Step) (t u : Tree) (fs : List Frame) → settled (in_part x t u fs) ≡ in_group x (joined t u) fs
settled_part x t u fs =
    let l = (x ++ written_steps t) ++ written_steps u in
    let j = join_steps (is_empty t) (is_empty u) in
    let list : l ++ j ≡ x ++ written_steps (joined t u) = append_assoc (x ++ written_steps t) (written_steps u) j ∙ append_assoc x (written_steps t) (written_steps u ++ j) ∙ ap (λ (k : List Step). x ++ k) (sym (steps_joined t u)) in
    settled_tests l (is_empty t) (is_empty u) fs ∙ ap (λ (k : List Step). inside k (is_empty t && is_empty u) fs) list ∙ ap (λ (b : Bool). inside (x ++ written_steps (joined t u)) b fs) (sym (empty_joined t u))

-- a block joins the group
pub settled_block : (w : Walking) (x : List Step) (t : Tree) (fs : List Frame) (ps : List Pattern) → settled w ≡ in_group x t fs → settled (with_block ps w) ≡ in_group x (joined t (block ps)) fs
settled_block w x t fs ps h =
    ap (λ (v : Walking). settled (walks.joined (written (steps.Block ps) v))) h ∙ ap settled (settled_part x t (block ps) fs)

regroup : (y a b c d e : List Step) → ((((y ++ a) ++ b) ++ c) ++ d) ++ e ≡ y ++ ((a ++ b) ++ ((c ++ d) ++ e))
regroup y a b c d e =
    append_assoc (((y ++ a) ++ b) ++ c) d e ∙ append_assoc ((y ++ a) ++ b) c (d ++ e) ∙ ap (λ (l : List Step). l ++ (c ++ (d ++ e))) (append_assoc y a b) ∙ append_assoc y (a ++ b) (c ++ (d ++ e)) ∙
    ap (λ (l : List Step). y ++ ((a ++ b) ++ l)) (sym (append_assoc c d e))

-- the steps of two trees with what is written between and behind
two_trees : (y : List Step) (t u : Tree) (s : Step) (b : Bool) → b ≡ is_empty t → ((((y ++ written_steps t) ++ empty_step b) ++ written_steps u) ++ empty_step (is_empty u)) ++ s ∷ [] ≡ y ++ (steps_of t ++ (steps_of u ++ s ∷ []))
two_trees y t u s b e =
    regroup y (written_steps t) (empty_step b) (written_steps u) (empty_step (is_empty u)) (s ∷ []) ∙
    ap (λ (c : Bool). y ++ ((written_steps t ++ empty_step c) ++ ((written_steps u ++ empty_step (is_empty u)) ++ s ∷ []))) e ∙
    ap (λ (l : List Step). y ++ (l ++ ((written_steps u ++ empty_step (is_empty u)) ++ s ∷ []))) (full t) ∙
    ap (λ (l : List Step). y ++ (steps_of t ++ (l ++ s ∷ []))) (full u)

pending_is : (b : Bool) → is_pending_empty (pending_by b) ≡ b
pending_is true = refl
pending_is false = refl

-- behind a group after UNION
pub union_behind : (x : List Step) (t u v : Tree) (fs : List Frame) → behind (ready (record (in_part x t u fs) { next = openers.Union })) v ≡ in_part x t (union u v) fs
union_behind x t u v fs =
    ap (λ (l : List Step). let r : Walking = record { steps = l; is_empty = is_empty t; pending = Written; next = openers.Part; around = fs } in r)
    (two_trees (x ++ written_steps t) u v steps.Union (is_pending_empty (pending_by (is_empty u))) (pending_is (is_empty u)))

-- behind a group after OPTIONAL
pub optional_behind : (x : List Step) (t u : Tree) (fs : List Frame) → behind (ready (record (in_group x t fs) { next = openers.Optional })) u ≡ in_group x (optional t u) fs
optional_behind x t u fs = ap (λ (l : List Step). inside l false fs) (two_trees x t u steps.Optional (is_empty t) refl)

-- in a group that is opened
pub entered_is : (x : List Step) (fs : List Frame) → inside x true fs ≡ in_group x empty fs
entered_is x fs = ap (λ (l : List Step). inside l true fs) (sym (append-nil x))

-- behind the whole group
pub finished_is : (t : Tree) → finished (behind begun t) ≡ steps_of t
finished_is empty = refl
finished_is (block ps) = append-nil (steps_of (block ps) ++ []) ∙ append-nil (steps_of (block ps))
finished_is (join a b) = append-nil (steps_of (join a b) ++ []) ∙ append-nil (steps_of (join a b))
finished_is (optional a b) = append-nil (steps_of (optional a b) ++ []) ∙ append-nil (steps_of (optional a b))
finished_is (union a b) = append-nil (steps_of (union a b) ++ []) ∙ append-nil (steps_of (union a b))
