-- What the events of a node do to what is owed for it and left to ask.
use Rattle.std.proofs.Common.{ℕ, zero, suc, ◌≡◌, ◌+◌, ◌-◌, ◌<◌, ◌≤◌, ◌⊎◌, inl, inr, Bool, nat_lt, if◌then◌else◌, true, false, List, [], ◌∷◌, ◌++◌, length, map, drop, get_or, set, Option, Some, None, refl, ap, sym, subst, ◌∙◌, arith, append_assoc, length-append, drop-cons}
use Rattle.std.specs.List.{All, flat_map, remove, list_all}
use Rattle.std.specs.List.Sorted.{IsPermutation}
use Rattle.std.proofs.lemmas.List.{drop_all, get_or_default}
use Rattle.std.proofs.lemmas.List.Concat.{flat_map-append}
use Rattle.std.proofs.lemmas.List.Sorted.{IsPermutation-trans}
use Rattle.std.proofs.lemmas.Bool.{cases_lt}
use Rattle.std.proofs.lemmas.Bool.Decides.{nat_tests}
use Rattle.list_laws.proofs.Orders.{same, front as turned}
use borrow.Author.Tests.{ltb-true}
use Rattle.request_plan.specs.Rounds.{RoundData}
use Rattle.rdf_terms.specs.declared.term.Triple.{Triple}
use Rattle.rdf_terms.specs.Selections.{Selection}
use Rattle.bgp_core.specs.declared.pattern.Pattern.{Pattern}
use Rattle.bgp_core.specs.Solutions.{Places, extension, rows_from, solutions}
use Rattle.request_plan.specs.declared.joint_page.JointPage.{JointPage}
use Rattle.join_core.specs.declared.first.First.{First}
use Rattle.join_core.specs.declared.first.First.TheVariants.{Out, Got}
use Rattle.request_plan.specs.Blocks.{Cut, selection_for}
use Rattle.request_plan.specs.Worlds.{World, IsWorld, numbers, items_after, cut_of, IsPageAfter}
use Rattle.request_plan.specs.Plans.{found, solutions_under, Plans, page_plans, plans_over, round_plan, rounds_after, asking_plan, chosen_plan, first_rounds, least, counts}
use Rattle.join_core.specs.Nodes.{future, left, future_of, left_of, put_out, opened, WalkHolds, GoesOn, FirstsHold, is_got, count_of}
use Rattle.join_core.specs.Nodes.Stage.{Asking, Walking}
use Rattle.join_core.proofs.Lists.{front}
use Rattle.join_core.proofs.Over.{rows-split, plans-split, least-counts}
use Rattle.request_plan.proofs.Pages.{one-more, items-first, items-more, after_last}
use Rattle.request_plan.proofs.Under.{any-first}

-- what holds of all that stands on pages holds of what stands on one of them
part-all : {X : Type 0} (P : X → Type 0) (f : ℕ → List X) (n m k : ℕ) → All P (flat_map f (numbers n m)) → n ≤ k → k < n + m → All P (f k)
part-all P f n zero k a low high = absurd (omega (arith, low, high))
part-all P f n (suc m) k a low high = by (λ later. part-all P f (suc n) m k (front P (f n) (flat_map f (numbers (suc n) m)) a).1 (omega (arith, later)) (omega (arith, high))) (cases_lt n k) where
  by : (n < k → All P (f k)) → (n < k) ⊎ (k ≤ n) → All P (f k)
  by more (inl later) = more later
  by more (inr here) = let e : n ≡ k = omega (arith, low, here) in subst (λ i. All P (f i)) e (front P (f n) (flat_map f (numbers (suc n) m)) a).0

pub items-all : (P : Triple → Type 0) (w : World) (s : Selection) (k : ℕ) → k < w.last s → All P (items_after w s 0) → All P (w.items s k)
items-all P w s k h a = part-all P (w.items s) 0 (w.last s) k (subst (λ (l : List Triple). All P l) (items-first w s) a) (omega arith) (omega (arith, h))

pub page-owed : (w : World) → IsWorld w → (cut : Cut) (p : Pattern) (others : List Pattern) (rows : List Places) (k : ℕ) (next after : RoundData) (out : Option ℕ) → k < w.last (selection_for p rows) →
    future_of w rows others (Walking p k next out) ≡ put_out p others rows (w.items (selection_for p rows) k) ++ (flat_map (future w) (opened cut p others rows (w.items (selection_for p rows) k)) ++ future_of w rows others (Walking p (suc k) after None))
page-owed w is cut p others rows k next after out h =
    let s = selection_for p rows in
    let f = λ (t : Triple). flat_map (λ row. rows_from (extension p row t) (λ r. r ∷ [])) rows in
    let behind = found p rows (items_after w s (suc k)) in
    let whole : found p rows (items_after w s k) ≡ found p rows (w.items s k) ++ behind = ap (λ l. flat_map f l) (items-more w s k h) ∙ flat_map-append f (w.items s k) (items_after w s (suc k)) in
    ap (λ (l : List Places). solutions_under w others l) whole
    ∙ flat_map-append (solutions w.triples others) (found p rows (w.items s k)) behind
    ∙ ap (λ (l : List Places). l ++ solutions_under w others behind) (rows-split w is cut p others rows (w.items s k))
    ∙ append_assoc (put_out p others rows (w.items s k)) (flat_map (future w) (opened cut p others rows (w.items s k))) (solutions_under w others behind)

pub plans-page : (w : World) (p : Pattern) (others : List Pattern) (rows : List Places) (k : ℕ) → k < w.last (selection_for p rows) →
    plans_over w (round_plan w) p others rows k ≡ flat_map (left w) (opened (cut_of w) p others rows (w.items (selection_for p rows) k)) ++ plans_over w (round_plan w) p others rows (suc k)
plans-page w p others rows k h =
    let s = selection_for p rows in
    let f = λ (n : ℕ). page_plans (cut_of w) (round_plan w) p others rows (w.items s n) in
    ap (λ n. flat_map f (numbers k n)) (one-more (w.last s) k h) ∙ ap (λ l. l ++ plans_over w (round_plan w) p others rows (suc k)) (plans-split w p others rows (w.items s k))

pub page-left : (w : World) (p : Pattern) (others : List Pattern) (rows : List Places) (k ticket : ℕ) (next after : RoundData) → k < w.last (selection_for p rows) →
    IsPermutation (left_of w rows others (Walking p k next (Some ticket))) (flat_map (left w) (opened (cut_of w) p others rows (w.items (selection_for p rows) k)) ++ left_of w rows others (Walking p (suc k) after None))
page-left w p others rows k ticket next after h =
    let s = selection_for p rows in
    let e : k + 1 ≡ suc k + 0 = omega arith in
    IsPermutation-trans _ _ _ (same _ _ (ap (λ n. rounds_after w s n ++ plans_over w (round_plan w) p others rows k) e ∙ ap (λ l. rounds_after w s (suc k + 0) ++ l) (plans-page w p others rows k h)))
    (turned (rounds_after w s (suc k + 0)) (flat_map (left w) (opened (cut_of w) p others rows (w.items s k))) (plans_over w (round_plan w) p others rows (suc k)))

-- ---- handing out

take-one : {X : Type 0} (n : ℕ) (xs : List X) (x : X) → n < length xs → x ≡ get_or xs n x → drop n xs ≡ x ∷ drop (suc n) xs
take-one n xs x h e = drop-cons xs n x h ∙ ap (λ y. y ∷ drop (suc n) xs) (sym e)

pub first-asked : (w : World) (plans : Plans) (n : ℕ) (ps : List Pattern) (p : Pattern) (rows : List Places) → 0 < length rows → n < length ps → p ≡ get_or ps n p → asking_plan w plans n ps rows ≡ w.round (selection_for p rows) 1 ∷ asking_plan w plans (suc n) ps rows
first-asked w plans n [] p rows a h e = absurd (omega arith)
first-asked w plans n (q ∷ qs) p [] a h e = absurd (omega (arith, a))
first-asked w plans n (q ∷ qs) p (row ∷ rows) a h e =
    ap (λ l. first_rounds w (row ∷ rows) l ++ chosen_plan w plans (least (counts w (row ∷ rows) (q ∷ qs))) q (q ∷ qs) (row ∷ rows)) (take-one n (q ∷ qs) p h e)

pub first-left : (w : World) (rows : List Places) (ps : List Pattern) (fs : List First) (p : Pattern) (f : First) → 0 < length rows → length fs < length ps → p ≡ get_or ps (length fs) p → left_of w rows ps (Asking fs) ≡ w.round (selection_for p rows) 1 ∷ left_of w rows ps (Asking (fs ++ f ∷ []))
first-left w rows ps fs p f a h e =
    let more : suc (length fs) ≡ length (fs ++ f ∷ []) = omega (arith, length-append fs (f ∷ [])) in
    first-asked w (round_plan w) (length fs) ps p rows a h e ∙ ap (λ n. w.round (selection_for p rows) 1 ∷ asking_plan w (round_plan w) n ps rows) more

pub pages-more : (w : World) (s : Selection) (k : ℕ) → k < w.last s → rounds_after w s k ≡ w.round s (suc k) ∷ rounds_after w s (suc k)
pages-more w s k h = ap (λ n. map (w.round s) (numbers (suc k) n)) (one-more (w.last s) k h)

pub next-left : (w : World) (p : Pattern) (others : List Pattern) (rows : List Places) (k ticket : ℕ) (next : RoundData) → WalkHolds w (selection_for p rows) k next → left_of w rows others (Walking p k next None) ≡ next ∷ left_of w rows others (Walking p k next (Some ticket))
next-left w p others rows k ticket next h =
    let s = selection_for p rows in
    let rest = plans_over w (round_plan w) p others rows k in
    let zero : k + 0 ≡ k = omega arith in
    let one : suc k ≡ k + 1 = omega arith in
    ap (λ n. rounds_after w s n ++ rest) zero ∙ ap (λ l. l ++ rest) (pages-more w s k h.more) ∙ ap (λ a. a ∷ (rounds_after w s (suc k) ++ rest)) (sym h.next) ∙ ap (λ n. next ∷ (rounds_after w s n ++ rest)) one

-- ---- the end of a walk

pub end-owed : (w : World) (p : Pattern) (others : List Pattern) (rows : List Places) (k : ℕ) (next : RoundData) (out : Option ℕ) → w.last (selection_for p rows) ≤ k → future_of w rows others (Walking p k next out) ≡ []
end-owed w p others rows k next out h = ap (λ l. solutions_under w others (found p rows l)) (after_last w (selection_for p rows) k h)

pub end-left : (w : World) (p : Pattern) (others : List Pattern) (rows : List Places) (k : ℕ) (next : RoundData) → w.last (selection_for p rows) ≤ k → left_of w rows others (Walking p k next None) ≡ []
end-left w p others rows k next h =
    let s = selection_for p rows in
    let none : w.last s - (k + 0) ≡ 0 = omega arith in
    let over : w.last s - k ≡ 0 = omega arith in
    ap (λ n. map (w.round s) (numbers (suc (k + 0)) n) ++ plans_over w (round_plan w) p others rows k) none ∙ ap (λ n. flat_map (λ i. page_plans (cut_of w) (round_plan w) p others rows (w.items s i)) (numbers k n)) over

-- ---- the choice

pub chosen-owed : (w : World) → IsWorld w → (rows : List Places) (ps : List Pattern) (fs : List First) (i : ℕ) (p : Pattern) (next : RoundData) → i < length ps → p ≡ get_or ps i p →
    IsPermutation (future_of w rows ps (Asking fs)) (future_of w rows (remove ps i) (Walking p 0 next None))
chosen-owed w is rows ps fs i p next h e = any-first w is ps i p rows h e

-- the first page of the chosen pattern counts as handed out
pub chosen-left : (w : World) (rows : List Places) (ps : List Pattern) (fs : List First) (p : Pattern) (ticket : ℕ) (next : RoundData) → 0 < length rows → 0 < length ps → length fs ≡ length ps → p ≡ get_or ps (least (counts w rows ps)) p →
    left_of w rows ps (Asking fs) ≡ left_of w rows (remove ps (least (counts w rows ps))) (Walking p 0 next (Some ticket))
chosen-left w rows [] fs p ticket next a h l e = absurd (omega arith)
chosen-left w [] (q ∷ qs) fs p ticket next a h l e = absurd (omega (arith, a))
chosen-left w (row ∷ rows) (q ∷ qs) fs p ticket next a h l e =
    let all : List Places = row ∷ rows in
    let i = least (counts w all (q ∷ qs)) in
    let is : get_or (q ∷ qs) i q ≡ p = get_or_default (q ∷ qs) i q p (least-counts w all q qs) ∙ sym e in
    let none : drop (length fs) (q ∷ qs) ≡ [] = drop_all (length fs) (q ∷ qs) (omega arith) in
    ap (λ x. first_rounds w all x ++ chosen_plan w (round_plan w) i q (q ∷ qs) all) none
    ∙ ap (λ (x : Pattern). rounds_after w (selection_for x all) 1 ++ plans_over w (round_plan w) x (remove (q ∷ qs) i) all 0) is

-- ---- what the pages tell

pub counts-told : (w : World) (rows : List Places) (ps : List Pattern) (fs : List First) → FirstsHold w rows ps fs → length fs ≡ length ps → list_all is_got fs ≡ true → map count_of fs ≡ counts w rows ps
counts-told w rows [] [] h l g = refl
counts-told w rows [] (f ∷ fs) h l g = absurd h
counts-told w rows (p ∷ ps) [] h l g = absurd (omega (arith, l))
counts-told w rows (p ∷ ps) (Out ticket ∷ fs) h l g = cc
counts-told w rows (p ∷ ps) (Got page ∷ fs) h l g =
    let one : page.count ≡ w.count (selection_for p rows) = h.0.count refl in
    let more : map count_of fs ≡ counts w rows ps = counts-told w rows ps fs h.1 (omega (arith, l)) g in
    cc

pub firsts-set : (w : World) (rows : List Places) (ps : List Pattern) (fs : List First) (i : ℕ) (p : Pattern) (page : JointPage) → FirstsHold w rows ps fs → i < length fs → p ≡ get_or ps i p → IsPageAfter w (selection_for p rows) 0 page → FirstsHold w rows ps (set fs i (Got page))
firsts-set w rows ps [] i p page h l e is = absurd (omega arith)
firsts-set w rows [] (f ∷ fs) i p page h l e is = absurd h
firsts-set w rows (q ∷ ps) (f ∷ fs) zero p page h l e is = (subst (λ (x : Pattern). IsPageAfter w (selection_for x rows) 0 page) e is, h.1)
firsts-set w rows (q ∷ ps) (f ∷ fs) (suc i) p page h l e is = (h.0, firsts-set w rows ps fs i p page h.1 (omega arith) e is)

pub firsts-push : (w : World) (rows : List Places) (ps : List Pattern) (fs : List First) (ticket : ℕ) → FirstsHold w rows ps fs → length fs < length ps → FirstsHold w rows ps (fs ++ Out ticket ∷ [])
firsts-push w rows [] fs ticket h l = absurd (omega arith)
firsts-push w rows (p ∷ ps) [] ticket h l = (tt, tt)
firsts-push w rows (p ∷ ps) (f ∷ fs) ticket h l = (h.0, firsts-push w rows ps fs ticket h.1 (omega arith))

told : (w : World) (s : Selection) (k : ℕ) (b : Bool) → nat_lt k (w.last s) ≡ b → GoesOn w s k (if b then Some (w.round s (suc k)) else None)
told w s k true e = (ltb-true k (w.last s) e, refl)
told w s k false e = grind (arith, nat_tests)

pub page-goes-on : (w : World) (s : Selection) (k : ℕ) (page : JointPage) → IsPageAfter w s k page → GoesOn w s (suc k) page.next
page-goes-on w s k page is = subst (λ (o : Option RoundData). GoesOn w s (suc k) o) (sym is.next) (told w s (suc k) (nat_lt (suc k) (w.last s)) refl)
