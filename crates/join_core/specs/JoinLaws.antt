-- Serves proofs alone: the laws of a join as an evaluation.
use Rattle.std.proofs.Common.{ℕ, suc, ◌≡◌, ◌+◌, ◌*◌, ◌<◌, ◌≤◌, cond, true, List, [], ◌∷◌, ◌++◌, length, slice_index_or, Some, None, refl, ap, ◌∙◌, arith, length-append}
use Rattle.std.specs.Prelude.{◌==◌}
use Rattle.std.specs.List.{All, flat_map, count_by}
use Rattle.std.specs.List.Sorted.{IsPermutation}
use Rattle.std.proofs.Math.Nat.{mul-add}
use Rattle.std.proofs.lemmas.Nat.{mul-le}
use Rattle.std.proofs.lemmas.Bool.{and_parts}
use Rattle.std.proofs.lemmas.Bool.Decides.{nat_tests}
use Rattle.std.proofs.lemmas.List.Sums.{sum_by-cons}
use Rattle.std.proofs.lemmas.List.Elements.{All-nil, All-head, All-tail, All-append, All-weaker}
use Rattle.list_laws.proofs.Orders.{flat_map_IsPermutation}
use Rattle.tpf_base.specs.Addresses.{Address}
use Rattle.bgp_core.specs.declared.pattern.Pattern.{Pattern}
use Rattle.bgp_core.specs.Solutions.{Places}
use Rattle.join_core.specs.declared.first.First.{First}
use Rattle.join_core.specs.declared.first.First.TheVariants.{Out, Got}
use Rattle.request_plan.specs.Rounds.{RoundData, addresses_in}
use Rattle.request_plan.specs.Worlds.{World}
use Rattle.request_plan.specs.Plans.{round_plan, plan}
use Rattle.join_core.specs.Nodes.{Stage, NodeData, node, future, left}
use Rattle.join_core.specs.Nodes.Stage.{Asking, Walking}
use Rattle.join_core.specs.Events.{works}
use Rattle.join_core.specs.Joins.{JoinData, nodes, outs, left_over, first_tickets, tickets_of, tickets_out, Begins}
use Rattle.request_plan.specs.Evaluations.{Account, Terms, Sizes, nothing}
use Rattle.join_core.specs.Sound.{KeepsNode, KeepsTo, unmatched, IsOfDepth, IsKeptSmall, KeepsSizes}
use Rattle.join_core.specs.Ones.{SuitsOne, pairs_in}
use Rattle.join_core.specs.JoinAccounts.{account_of, standing_of, is_over}

no-suc : (n : ℕ) → (suc n == 0) ≡ true → ⊥
no-suc n e = grind (arith, nat_tests)

none : {X : Type 0} (xs : List X) → (length xs == 0) ≡ true → xs ≡ []
none [] e = refl
none (x ∷ xs) e = absurd (no-suc (length xs) e)

no-rows : (j : JoinData) → is_over j ≡ true → j.waiting ≡ []
no-rows j e = none j.waiting (and_parts _ _ e).0

no-nodes : (j : JoinData) → is_over j ≡ true → nodes j.levels ≡ []
no-nodes j e = none (nodes j.levels) (and_parts (length j.waiting == 0) _ e).1

account : List Places → List Address → List (ℕ × Address) → Account
account rows addresses tickets = record { owed = rows; left = addresses; out = tickets }

account-is : (rows : List Places) (addresses : List Address) (tickets : List (ℕ × Address)) → rows ≡ [] → addresses ≡ [] → tickets ≡ [] → account rows addresses tickets ≡ nothing
unfolding account
account-is rows addresses tickets e f g = ap (λ (x : List Places). account x addresses tickets) e ∙ ap (λ (x : List Address). account [] x tickets) f ∙ ap (λ (x : List (ℕ × Address)). account [] [] x) g

pub done-owes-nothing : (w : World) (j : JoinData) → SuitsOne w j → (standing_of j).done ≡ true → account_of w j ≡ nothing
unfolding account
done-owes-nothing w j is e =
    let n = no-nodes j e in
    account-is _ _ _ (ap (λ l. l ++ flat_map (future w) (nodes j.levels)) (no-rows j e) ∙ ap (λ (l : List NodeData). flat_map (future w) l) n) (ap (λ (l : List NodeData). addresses_in (flat_map (left w) l)) n) (ap (λ (l : List NodeData). pairs_in (flat_map (outs w) l)) n)

pub done-is-quiet : (j : JoinData) → (standing_of j).done ≡ true → ((standing_of j).out ≡ []) × ((standing_of j).waiting ≡ 0)
done-is-quiet j e = (ap (λ (l : List NodeData). flat_map tickets_of l) (no-nodes j e), ap length (no-rows j e))

pub tickets-are-below : (terms : Terms) (j : JoinData) → KeepsTo terms j → All (λ t. t < (standing_of j).given) (standing_of j).out
tickets-are-below terms j k = k.tickets

-- ---- before the first event

pub begun-left : (w : World) (patterns : List Pattern) (row : Places) (j : JoinData) → Begins w patterns row j → IsPermutation (plan w patterns row) (account_of w j).left
begun-left w patterns row j b = flat_map_IsPermutation (λ (round : RoundData). round.addresses) (round_plan w patterns (row ∷ [])) (left_over w j) b.left

-- ---- how many tickets are out

first-few : (fs : List First) → length (first_tickets fs) ≤ length fs
first-few [] = omega arith
first-few (Out ticket ∷ fs) = let more = first-few fs in omega (arith, more)
first-few (Got page ∷ fs) = let more = first-few fs in omega (arith, more)

-- a node has no more tickets out than patterns to match, and none where it does not work
node-few : (terms : Terms) (n : ℕ) (rows : List Places) (rest : List Pattern) (stage : Stage) → KeepsNode terms (node rows rest stage) → unmatched rest stage ≤ n → length (tickets_of (node rows rest stage)) ≤ n * cond (works (node rows rest stage)) 1 0
node-few terms n rows rest (Asking []) k h = omega arith
node-few terms n rows rest (Asking (f ∷ fs)) k h = let few = first-few (f ∷ fs) in omega (arith, few, k.asking.within, h)
node-few terms n rows rest (Walking p taken next None) k h = omega arith
node-few terms n rows rest (Walking p taken next (Some ticket)) k h = omega (arith, h)

count-more : (n : ℕ) (x : NodeData) (xs : List NodeData) → n * count_by works (x ∷ xs) ≡ n * cond (works x) 1 0 + n * count_by works xs
count-more n x xs = ap (λ (k : ℕ). n * k) (sum_by-cons (λ y. cond (works y) 1 0) x xs) ∙ mul-add n (cond (works x) 1 0) (count_by works xs)

all-few : (terms : Terms) (n : ℕ) (xs : List NodeData) → All (KeepsNode terms) xs → All (λ x. unmatched x.rest x.stage ≤ n) xs → length (flat_map tickets_of xs) ≤ n * count_by works xs
all-few terms n [] k h = omega arith
all-few terms n (x ∷ xs) k h =
    let one = node-few terms n x.rows x.rest x.stage (All-head (KeepsNode terms) x xs k) (All-head (λ y. unmatched y.rest y.stage ≤ n) x xs h) in
    let more = all-few terms n xs (All-tail (KeepsNode terms) x xs k) (All-tail (λ y. unmatched y.rest y.stage ≤ n) x xs h) in
    omega (arith, one, more, length-append (tickets_of x) (flat_map tickets_of xs), count-more n x xs)

all-levels : (P : NodeData → Type 0) (levels : List (List NodeData)) → ((d : ℕ) → All P (slice_index_or levels d [])) → All P (nodes levels)
all-levels P [] h = All-nil P
all-levels P (level ∷ levels) h = All-append P level (nodes levels) (h 0) (all-levels P levels (λ d. h (suc d)))

depth-few : (n d : ℕ) (x : NodeData) → IsOfDepth n d x → unmatched x.rest x.stage ≤ n
depth-few n d x h = let sum = h.0 in omega (arith, sum)

out-few : (terms : Terms) (n m : ℕ) (j : JoinData) → KeepsTo terms j → IsKeptSmall n m j → length (tickets_out j) ≤ n * j.window
out-few terms n m j k s =
    let few = all-few terms n (nodes j.levels) k.nodes (all-levels (λ x. unmatched x.rest x.stage ≤ n) j.levels (λ d. All-weaker (IsOfDepth n d) (λ x. unmatched x.rest x.stage ≤ n) (depth-few n d) (slice_index_or j.levels d []) (s.depths d))) in
    let same : n ≤ n = omega arith in
    let most : n * count_by works (nodes j.levels) ≤ n * j.window = mul-le n (count_by works (nodes j.levels)) n j.window same s.bounded.working in
    omega (arith, few, most)

pub out-is-small : (terms : Terms) (sizes : Sizes) (j : JoinData) → KeepsTo terms j → KeepsSizes sizes j → length (standing_of j).out ≤ sizes.patterns * sizes.window
out-is-small terms sizes j k s =
    let few = out-few terms sizes.patterns j.longest j k s.small in
    let same : sizes.patterns ≤ sizes.patterns = omega arith in
    let most : sizes.patterns * j.window ≤ sizes.patterns * sizes.window = mul-le sizes.patterns j.window sizes.patterns sizes.window same s.window in
    omega (arith, few, most)
