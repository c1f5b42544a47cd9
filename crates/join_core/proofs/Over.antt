-- What a page opens and puts out is what its triples give.
use Rattle.std.proofs.Common.{ℕ, zero, suc, ◌≡◌, ◌-◌, ◌<◌, ◌≤◌, Bool, nat_le, if◌then◌else◌, true, false, List, [], ◌∷◌, ◌++◌, length, map, take, drop, get_or, refl, ap, sym, subst, ◌∙◌, arith, append-nil}
use Rattle.std.specs.List.{flat_map, filter, remove, list_all, All}
use Rattle.std.proofs.lemmas.List.Folds.{flat_map-map}
use Rattle.std.proofs.lemmas.List.{length-map}
use Rattle.std.proofs.lemmas.List.Edits.{length-remove}
use Rattle.std.proofs.lemmas.List.Elements.{All-head, All-tail, All-filter, filter_passes}
use Rattle.rdf_terms.specs.declared.term.Triple.{Triple}
use Rattle.bgp_core.specs.declared.pattern.Pattern.{Pattern}
use Rattle.bgp_core.specs.Solutions.{Places}
use Rattle.bgp_core.proofs.Patterns.{flat_map-same}
use Rattle.request_plan.specs.Blocks.{Cut, blocks, block_length, selection_for}
use Rattle.request_plan.specs.Worlds.{World, IsWorld, cut_of, numbers}
use Rattle.request_plan.specs.Plans.{found, solutions_under, all_askable, askable_rows, Plans, page_blocks, page_plans, plans_over, round_plan, plan_for, asking_plan, chosen_plan, least, counts, rounds_after, first_rounds}
use Rattle.join_core.specs.Nodes.{future, left, fresh, rows_out, nodes_in, put_out, opened}
use Rattle.join_core.proofs.Lists.{all-parts, both-all}
use Rattle.request_plan.proofs.Cuts.{are-cut}
use Rattle.request_plan.proofs.Under.{solutions-split}

-- ---- rows

all-themselves : {X : Type 0} (xs : List X) → flat_map (λ x. x ∷ []) xs ≡ xs
all-themselves [] = refl
all-themselves (x ∷ xs) = ap (λ l. x ∷ l) (all-themselves xs)

-- what is owed for some rows is those that are put out, and what is owed for their nodes
pub nodes-owed : (w : World) → IsWorld w → (cut : Cut) (others : List Pattern) (rows : List Places) → solutions_under w others rows ≡ rows_out others rows ++ flat_map (future w) (nodes_in cut others rows)
nodes-owed w is cut [] rows = all-themselves rows ∙ sym (append-nil rows)
nodes-owed w is cut (q ∷ qs) rows =
    solutions-split w is cut (q ∷ qs) rows ∙ sym (flat_map-map (future w) (fresh (q ∷ qs)) (blocks cut (q ∷ qs) (askable_rows (q ∷ qs) rows)))

pub rows-split : (w : World) → IsWorld w → (cut : Cut) (p : Pattern) (others : List Pattern) (rows : List Places) (ts : List Triple) → solutions_under w others (found p rows ts) ≡ put_out p others rows ts ++ flat_map (future w) (opened cut p others rows ts)
rows-split w is cut p others rows ts = nodes-owed w is cut others (found p rows ts)

-- ---- the blocks of rows that can be asked for

abbrev pub CanAskAll : List Pattern → List Places → Type 0
CanAskAll ps rows = All (λ row. all_askable row ps ≡ true) rows

pub rows-askable : (ps : List Pattern) (rows : List Places) → CanAskAll ps (askable_rows ps rows)
rows-askable ps rows = filter_passes (λ row. all_askable row ps) rows

-- what holds of all rows holds of those of each block
blocks-all : (P : Places → Type 0) (cut : Cut) (ps : List Pattern) (rows : List Places) → All P rows → All (All P) (blocks cut ps rows)
blocks-all P cut ps rows a = all-parts P (blocks cut ps rows) (subst (λ (l : List Places). All P l) (sym (are-cut cut ps rows).all) a)

-- each block has a row, and can be asked for
abbrev pub IsAskedFor : List Pattern → List Places → Type 0
IsAskedFor ps rows = (0 < length rows) × CanAskAll ps rows

pub blocks-asked : (cut : Cut) (ps : List Pattern) (rows : List Places) → All (IsAskedFor ps) (blocks cut ps (askable_rows ps rows))
blocks-asked cut ps rows =
    let kept = askable_rows ps rows in
    both-all (λ (block : List Places). 0 < length block) (CanAskAll ps) (blocks cut ps kept) (are-cut cut ps kept).some (blocks-all (λ row. all_askable row ps ≡ true) cut ps kept (rows-askable ps rows))

-- what holds of all rows holds of those that are kept in the blocks
pub blocks-have : (P : Places → Type 0) (cut : Cut) (ps : List Pattern) (rows : List Places) → All P rows → All (All P) (blocks cut ps (askable_rows ps rows))
blocks-have P cut ps rows a = blocks-all P cut ps (askable_rows ps rows) (All-filter (λ row. all_askable row ps) P rows a)

kept-step : {X : Type 0} (test : X → Bool) (x : X) (xs : List X) (b : Bool) → b ≡ true → filter test xs ≡ xs → (if b then x ∷ filter test xs else filter test xs) ≡ x ∷ xs
kept-step test x xs true e h = ap (λ l. x ∷ l) h
kept-step test x xs false e h = cc

kept-all : (ps : List Pattern) (rows : List Places) → CanAskAll ps rows → askable_rows ps rows ≡ rows
kept-all ps [] a = refl
kept-all ps (row ∷ rows) a =
    let yes : all_askable row ps ≡ true = All-head (λ r. all_askable r ps ≡ true) row rows a in
    let more : askable_rows ps rows ≡ rows = kept-all ps rows (All-tail (λ r. all_askable r ps ≡ true) row rows a) in
    kept-step (λ r. all_askable r ps) row rows (all_askable row ps) yes more

-- ---- plans

least-below : (n : ℕ) (ns : List ℕ) → least (n ∷ ns) < suc (length ns)
least-below n [] = omega arith
least-below n (m ∷ ns) = below_if (list_all (λ k. nat_le n k) (m ∷ ns)) (least (m ∷ ns)) (suc (length ns)) (least-below m ns) where
  below_if : (b : Bool) (i j : ℕ) → i < j → (if b then 0 else suc i) < suc j
  below_if true i j h = omega arith
  below_if false i j h = omega arith

pub least-counts : (w : World) (rows : List Places) (p : Pattern) (ps : List Pattern) → least (counts w rows (p ∷ ps)) < suc (length ps)
least-counts w rows p ps = rw (← length-map ps (λ q. w.count (selection_for q rows))) (least-below (w.count (selection_for p rows)) (counts w rows ps))

plans-same : (w : World) (a b : Plans) (p : Pattern) (others : List Pattern) (rows : List Places) (k : ℕ) → ((r : List Places) → a others r ≡ b others r) → plans_over w a p others rows k ≡ plans_over w b p others rows k
plans-same w a b p others rows k h =
    let s = selection_for p rows in
    flat_map-same (λ n. page_plans (cut_of w) a p others rows (w.items s n)) (λ n. page_plans (cut_of w) b p others rows (w.items s n)) (numbers k (w.last s - k)) (λ n. flat_map-same (a others) (b others) (page_blocks (cut_of w) p others rows (w.items s n)) h)

length-after : {X : Type 0} (x : X) (xs : List X) (i : ℕ) → i < suc (length xs) → length (remove (x ∷ xs) i) ≡ length xs
length-after x xs i h = omega (arith, length-remove (x ∷ xs) i h)

chosen-same : (w : World) (a b : Plans) (i : ℕ) (p : Pattern) (ps : List Pattern) (rows : List Places) → ((r : List Places) → a (remove ps i) r ≡ b (remove ps i) r) → chosen_plan w a i p ps rows ≡ chosen_plan w b i p ps rows
chosen-same w a b i p ps rows h = ap (λ l. rounds_after w (selection_for (get_or ps i p) rows) 1 ++ l) (plans-same w a b (get_or ps i p) (remove ps i) rows 0 h)

pub plan-unfolds : (w : World) (n : ℕ) (p : Pattern) (ps : List Pattern) (rows : List Places) → asking_plan w (plan_for w (length ps)) n (p ∷ ps) rows ≡ asking_plan w (round_plan w) n (p ∷ ps) rows
plan-unfolds w n p ps [] = refl
plan-unfolds w n p ps (row ∷ rows) =
    let i = least (counts w (row ∷ rows) (p ∷ ps)) in
    let e : length (remove (p ∷ ps) i) ≡ length ps = length-after p ps i (least-counts w (row ∷ rows) p ps) in
    ap (λ l. first_rounds w (row ∷ rows) (drop n (p ∷ ps)) ++ l) (chosen-same w (plan_for w (length ps)) (round_plan w) i p (p ∷ ps) (row ∷ rows) (λ r. ap (λ k. plan_for w k (remove (p ∷ ps) i) r) (sym e)))

-- the plan of a block is what is left to ask for its node
pub block-left : (w : World) (q : Pattern) (qs : List Pattern) (rows : List Places) → CanAskAll (q ∷ qs) rows → round_plan w (q ∷ qs) rows ≡ left w (fresh (q ∷ qs) rows)
block-left w q qs rows a = ap (λ (l : List Places). asking_plan w (plan_for w (length qs)) 0 (q ∷ qs) l) (kept-all (q ∷ qs) rows a) ∙ plan-unfolds w 0 q qs rows

blocks-left : (w : World) (q : Pattern) (qs : List Pattern) (lists : List (List Places)) → All (CanAskAll (q ∷ qs)) lists → flat_map (round_plan w (q ∷ qs)) lists ≡ flat_map (left w) (map (fresh (q ∷ qs)) lists)
blocks-left w q qs [] a = refl
blocks-left w q qs (rows ∷ lists) a =
    let one : round_plan w (q ∷ qs) rows ≡ left w (fresh (q ∷ qs) rows) = block-left w q qs rows (All-head (CanAskAll (q ∷ qs)) rows lists a) in
    let more : flat_map (round_plan w (q ∷ qs)) lists ≡ flat_map (left w) (map (fresh (q ∷ qs)) lists) = blocks-left w q qs lists (All-tail (CanAskAll (q ∷ qs)) rows lists a) in
    ap (λ l. l ++ flat_map (round_plan w (q ∷ qs)) lists) one ∙ ap (λ l. left w (fresh (q ∷ qs) rows) ++ l) more

nothing-planned : (w : World) (lists : List (List Places)) → flat_map (round_plan w []) lists ≡ []
nothing-planned w [] = refl
nothing-planned w (rows ∷ lists) = nothing-planned w lists

rows-left : (w : World) (cut : Cut) (others : List Pattern) (rows : List Places) → flat_map (round_plan w others) (blocks cut others (askable_rows others rows)) ≡ flat_map (left w) (nodes_in cut others rows)
rows-left w cut [] rows = nothing-planned w (blocks cut [] (askable_rows [] rows))
rows-left w cut (q ∷ qs) rows =
    blocks-left w q qs (blocks cut (q ∷ qs) (askable_rows (q ∷ qs) rows)) (blocks-all (λ row. all_askable row (q ∷ qs) ≡ true) cut (q ∷ qs) (askable_rows (q ∷ qs) rows) (rows-askable (q ∷ qs) rows))

pub plans-split : (w : World) (p : Pattern) (others : List Pattern) (rows : List Places) (ts : List Triple) → page_plans (cut_of w) (round_plan w) p others rows ts ≡ flat_map (left w) (opened (cut_of w) p others rows ts)
plans-split w p others rows ts = rows-left w (cut_of w) others (found p rows ts)

-- ---- one row alone

take-one : {X : Type 0} (n : ℕ) (x : X) → 0 < length (take n (x ∷ [])) → take n (x ∷ []) ≡ x ∷ []
take-one zero x h = absurd (omega (arith, h))
take-one (suc zero) x h = refl
take-one (suc (suc n)) x h = refl

one-block : (cut : Cut) (ps : List Pattern) (row : Places) → blocks cut ps (row ∷ []) ≡ (row ∷ []) ∷ []
one-block cut ps row =
    let front = take (block_length cut ps (row ∷ [])) (row ∷ []) in
    ap (λ (l : List Places). l ∷ []) (take-one (block_length cut ps (row ∷ [])) row (All-head (λ (block : List Places). 0 < length block) front [] (are-cut cut ps (row ∷ [])).some))

one-left : (w : World) (cut : Cut) (q : Pattern) (qs : List Pattern) (rows : List Places) → length rows ≤ 1 → asking_plan w (round_plan w) 0 (q ∷ qs) rows ≡ flat_map (left w) (map (fresh (q ∷ qs)) (blocks cut (q ∷ qs) rows))
one-left w cut q qs [] h = refl
one-left w cut q qs (row ∷ []) h = sym (ap (λ (l : List (List Places)). flat_map (left w) (map (fresh (q ∷ qs)) l)) (one-block cut (q ∷ qs) row) ∙ append-nil (left w (fresh (q ∷ qs) (row ∷ []))))
one-left w cut q qs (row ∷ other ∷ rows) h = absurd (omega (arith, h))

kept-few : (ps : List Pattern) (row : Places) (b : Bool) → length (if b then row ∷ [] else []) ≤ 1
kept-few ps row true = omega arith
kept-few ps row false = omega arith

-- the plan under one row is what is left to ask for its node, if it has one
pub nodes-left : (w : World) (cut : Cut) (others : List Pattern) (row : Places) → round_plan w others (row ∷ []) ≡ flat_map (left w) (nodes_in cut others (row ∷ []))
nodes-left w cut [] row = refl
nodes-left w cut (q ∷ qs) row =
    plan-unfolds w 0 q qs (askable_rows (q ∷ qs) (row ∷ [])) ∙ one-left w cut q qs (askable_rows (q ∷ qs) (row ∷ [])) (kept-few (q ∷ qs) row (all_askable row (q ∷ qs)))
