-- Loops over all nodes.
use Rattle.std.proofs.Common.{Option, Some, None, ℕ, zero, suc, ◌≡◌, ◌+◌, ◌-◌, ◌<◌, ◌≤◌, Bool, false, List, [], ◌∷◌, ◌++◌, length, get_or, take, drop, drop-cons, append-nil, length-append, cond, min, ap, sym, subst, ◌∙◌, arith}
use Rattle.std.specs.Prelude.{IfNone}
use Rattle.std.specs.List.{All, count_by}
use Rattle.std.proofs.lemmas.List.Sums.{sum_by-append}
use Rattle.join_core.specs.Events.{works}
use Rattle.std.proofs.lemmas.List.{take_more, take_all}
use Rattle.std.proofs.lemmas.List.Concat.{flat_map-append}
use Rattle.std.proofs.lemmas.List.Elements.{All-nil, All-append}
use Rattle.join_core.specs.Nodes.{NodeData}
use Rattle.join_core.proofs.Lists.{front}
use Rattle.join_core.specs.Joins.{nodes, NoneIn}

-- the same for the nodes of levels, level by level
nodes-more : (P : NodeData → Type 0) (ls : List (List NodeData)) (i : ℕ) (l : List NodeData) → i < length ls → l ≡ get_or ls i l → All P l → All P (nodes (take i ls)) → All P (nodes (take (i + 1) ls))
nodes-more P ls i l h e p a =
    subst (λ (x : List (List NodeData)). All P (nodes x)) (sym (take_more ls i l h))
    (subst (λ (x : List NodeData). All P x) (sym (flat_map-append (λ (x : List NodeData). x) (take i ls) (get_or ls i l ∷ [])))
    (All-append P (nodes (take i ls)) (get_or ls i l ++ []) a (All-append P (get_or ls i l) [] (subst (All P) e p) (All-nil P))))

pub levels-step : (view old : List (List NodeData)) (test : NodeData → Bool) (i : ℕ) (l : List NodeData) → view ≡ old → i < length old → l ≡ get_or view i l → All (λ n. test n ≡ false) l → NoneIn test (take i old) → NoneIn test (take (i + 1) old)
levels-step view old test i l seen h e p a = nodes-more (λ n. test n ≡ false) old i l h (e ∙ ap (λ (x : List (List NodeData)). get_or x i l) seen) p a

pub levels-end : (old : List (List NodeData)) (test : NodeData → Bool) (i : ℕ) → length old ≤ i → NoneIn test (take i old) → NoneIn test old
levels-end old test i h a = subst (λ (x : List (List NodeData)). All (λ n. test n ≡ false) (nodes x)) (take_all i old h) a

-- from the back
pub back-step : (view old : List (List NodeData)) (test : NodeData → Bool) (i back : ℕ) (l : List NodeData) → view ≡ old → i + suc back ≡ length old → l ≡ get_or view i l → All (λ n. test n ≡ false) l → NoneIn test (drop (length old - back) old) → NoneIn test (drop (length old - (back + 1)) old)
back-step view old test i back l seen h e p a =
    let below : i < length old = omega arith in
    let here : length old - (back + 1) ≡ i = omega arith in
    let next : length old - back ≡ suc i = omega arith in
    let at : l ≡ get_or old i l = e ∙ ap (λ (x : List (List NodeData)). get_or x i l) seen in
    let whole : drop i old ≡ get_or old i l ∷ drop (suc i) old = drop-cons old i l below in
    subst (λ k. All (λ n. test n ≡ false) (nodes (drop k old))) (sym here)
    (subst (λ (x : List (List NodeData)). All (λ n. test n ≡ false) (nodes x)) (sym whole)
    (All-append (λ n. test n ≡ false) (get_or old i l) (nodes (drop (suc i) old)) (subst (All (λ n. test n ≡ false)) at p) (subst (λ k. All (λ n. test n ≡ false) (nodes (drop k old))) next a)))

-- ---- counts that stand still at their type's end

pub nodes-next : (ls : List (List NodeData)) (i : ℕ) (l : List NodeData) → i < length ls → l ≡ get_or ls i l → nodes (take (i + 1) ls) ≡ nodes (take i ls) ++ l
nodes-next ls i l h e =
    ap (λ (x : List (List NodeData)). nodes x) (take_more ls i l h) ∙ flat_map-append (λ (x : List NodeData). x) (take i ls) (get_or ls i l ∷ []) ∙ ap (λ (x : List NodeData). nodes (take i ls) ++ x) (append-nil (get_or ls i l) ∙ sym e)

pub working-step : (ls : List (List NodeData)) (i : ℕ) (l : List NodeData) (a : ℕ) → i < length ls → l ≡ get_or ls i l → a ≡ min (count_by works (nodes (take i ls))) 18446744073709551615 → min (a + count_by works l) 18446744073709551615 ≡ min (count_by works (nodes (take (i + 1) ls))) 18446744073709551615
working-step ls i l a h e c =
    let whole : count_by works (nodes (take (i + 1) ls)) ≡ count_by works (nodes (take i ls)) + count_by works l =
    ap (λ (x : List NodeData). count_by works x) (nodes-next ls i l h e) ∙ sum_by-append (λ n. cond (works n) 1 0) (nodes (take i ls)) l in
    omega arith

pub open-step : (ls : List (List NodeData)) (i : ℕ) (l : List NodeData) (a : ℕ) → i < length ls → l ≡ get_or ls i l → a ≡ min (length (nodes (take i ls))) 18446744073709551615 → min (a + length l) 18446744073709551615 ≡ min (length (nodes (take (i + 1) ls))) 18446744073709551615
open-step ls i l a h e c =
    let whole : length (nodes (take (i + 1) ls)) ≡ length (nodes (take i ls)) + length l =
    ap (λ (x : List NodeData). length x) (nodes-next ls i l h e) ∙ length-append (nodes (take i ls)) l in
    omega arith

pub if-none : {X : Type 0} (o : Option X) (P : Type 0) → o ≡ None → IfNone o P → P
if-none None P e h = h
if-none (Some x) P e h = cc

pub back-end : (old : List (List NodeData)) (test : NodeData → Bool) (back : ℕ) → length old ≤ back → NoneIn test (drop (length old - back) old) → NoneIn test old
back-end old test back h a =
    let zero' : length old - back ≡ 0 = omega arith in
    subst (λ k. All (λ n. test n ≡ false) (nodes (drop k old))) zero' a

-- ---- one level of those that a scan passed

level-of : (P : NodeData → Type 0) (ls : List (List NodeData)) (e : ℕ) → All P (nodes ls) → All P (get_or ls e [])
level-of P [] e a = All-nil P
level-of P (l ∷ ls) zero a = (front P l (nodes ls) a).0
level-of P (l ∷ ls) (suc e) a = level-of P ls e (front P l (nodes ls) a).1

pub level-past : (P : NodeData → Type 0) (ls : List (List NodeData)) (k e : ℕ) → k ≤ e → All P (nodes (drop k ls)) → All P (get_or ls e [])
level-past P ls zero e h a = level-of P ls e a
level-past P [] (suc k) e h a = All-nil P
level-past P (l ∷ ls) (suc k) zero h a = absurd (omega arith)
level-past P (l ∷ ls) (suc k) (suc e) h a = level-past P ls k e (omega arith) a
