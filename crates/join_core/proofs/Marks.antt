-- The events of a node at any stage: their turns, and what they do to the tickets that are out.
use Rattle.std.proofs.Common.{ℕ, zero, suc, ◌≡◌, ◌<◌, length-set, nat_eq, nat_lt, Bool, true, false, if◌then◌else◌, List, [], ◌∷◌, ◌++◌, length, map, get_or, Option, Some, None, refl, ap, sym, subst, ◌∙◌, arith}
use Rattle.std.specs.Prelude.{option_to_list}
use Rattle.std.specs.List.{remove, list_all, Contains}
use Rattle.std.specs.List.Sorted.{IsPermutation}
use Rattle.std.proofs.lemmas.Bool.{and_parts}
use Rattle.list_laws.proofs.Options.{map_some}
use Rattle.std.proofs.lemmas.Bool.Decides.{nat_tests}
use Rattle.std.proofs.lemmas.List.{get_or_default}
use Rattle.std.proofs.lemmas.List.Sorted.{IsPermutation-refl, IsPermutation-sym, Contains-permutation}
use Rattle.tpf_base.specs.Addresses.{Address}
use Rattle.request_plan.specs.Rounds.{RoundData, AreFirst, IsFirstRound}
use Rattle.rdf_terms.specs.declared.term.Triple.{Triple}
use Rattle.rdf_terms.specs.Selections.{Selection}
use Rattle.bgp_core.specs.declared.pattern.Pattern.{Pattern}
use Rattle.bgp_core.specs.Solutions.{Places}
use Rattle.template_fill.specs.declared.form.Form.{Form}
use Rattle.template_fill.specs.WebAddress.{OneAddress}
use Rattle.request_plan.specs.declared.joint_page.JointPage.{JointPage}
use Rattle.join_core.specs.declared.first.First.{First}
use Rattle.join_core.specs.declared.first.First.TheVariants.{Out, Got}
use Rattle.join_core.specs.declared.node.Waits.{Waits}
use Rattle.join_core.specs.declared.node.Waits.TheVariants.{First as ForFirst, Next as ForNext}
use Rattle.request_plan.specs.Blocks.{selection_for}
use Rattle.request_plan.specs.Worlds.{World, IsWorld, HasForms, cut_of, IsPageAfter, IsRoundPageAt}
use Rattle.request_plan.specs.Plans.{least, counts}
use Rattle.join_core.specs.Nodes.{Stage, NodeData, node, Holds, FirstsHold, opened, walk_on, put_out, is_got, count_of}
use Rattle.join_core.specs.Nodes.Stage.{Asking, Walking}
use Rattle.join_core.specs.Events.{CanAsk, CanAskStage, asked, IsNextRound, IsNextRoundOf, first_waiting, waits_for, with_first_at, is_full, one_more, next_walk, opened_by, out_by, after_by, MadeOf, chosen_page, chosen_page_by, IsChosen, IsFirstOf, made_of}
use Rattle.join_core.specs.Joins.{outs, first_outs, tickets_of, first_tickets, Turn}
use Rattle.request_plan.proofs.Valid.{askable-all-at, pattern-at}
use Rattle.request_plan.proofs.Asked.{selection-askable}
use Rattle.join_core.proofs.Over.{least-counts}
use Rattle.join_core.proofs.Pages.{counts-told}
use Rattle.join_core.proofs.Turns.{first-ask-turn, next-ask-turn, walk-turn, held-turn, asked-sound, choice-turn}
use Rattle.join_core.proofs.Outs.{first_outs-push, first_tickets-push, first-came, tickets-came, put-back, waiting-within}

-- ---- an ask

-- the forms give one round
one-list : OneAddress → (forms : List Form) (s : Selection) (xs ys : List Address) → AreFirst forms s xs → AreFirst forms s ys → xs ≡ ys
one-list one [] s [] [] h k = refl
one-list one [] s [] (y ∷ ys) h k = absurd k
one-list one [] s (x ∷ xs) ys h k = absurd h
one-list one (f ∷ forms) s [] ys h k = absurd h
one-list one (f ∷ forms) s (x ∷ xs) [] h k = absurd k
one-list one (f ∷ forms) s (x ∷ xs) (y ∷ ys) h k =
    let first : x ≡ y = one _ _ _ h.0 k.0 in
    let rest : xs ≡ ys = one-list one forms s xs ys h.1 k.1 in
    ap (λ z. z ∷ xs) first ∙ ap (λ zs. y ∷ zs) rest

round-is : (a b : List Address) (x y : List Triple) → a ≡ b → x ≡ y → ◌≡◌ {A = RoundData} (record { addresses = a; taken = x }) (record { addresses = b; taken = y })
round-is a b x y e f = ap (λ (l : List Address). let r : RoundData = record { addresses = l; taken = x } in r) e ∙ ap (λ (l : List Triple). let r : RoundData = record { addresses = b; taken = l } in r) f

one-round : OneAddress → (forms : List Form) (s : Selection) (x y : RoundData) → IsFirstRound forms s x → IsFirstRound forms s y → x ≡ y
one-round one forms s x y h k = round-is x.addresses y.addresses x.taken y.taken (one-list one forms s x.addresses y.addresses h.addresses k.addresses) (h.none ∙ sym k.none)

ask-turn-in : (w : World) (forms : List Form) → OneAddress → HasForms w forms → (block : List Places) (ps : List Pattern) (stage : Stage) (ticket : ℕ) (round : RoundData) → CanAskStage ps stage → IsNextRoundOf forms block ps stage round → Holds w (node block ps stage) →
    Turn w (node block ps stage) [] (round ∷ []) (asked ticket (node block ps stage) ∷ []) × IsPermutation (outs w (asked ticket (node block ps stage))) ((ticket, round) ∷ outs w (node block ps stage))
ask-turn-in w forms one has block [] (Asking fs) ticket round can is holds = absurd (omega arith)
ask-turn-in w forms one has block (q ∷ qs) (Asking fs) ticket round can is holds =
    let p = get_or (q ∷ qs) (length fs) q in
    let at : p ≡ get_or (q ∷ qs) (length fs) p = get_or_default (q ∷ qs) (length fs) q p can in
    let e : w.round (selection_for p block) 1 ≡ round = one-round one forms (selection_for p block) (w.round (selection_for p block) 1) round (has.first (selection_for p block) (selection-askable p block holds.asking.some_rows (askable-all-at block (q ∷ qs) (length fs) p holds.asking.askable can at))) (is p at) in
    subst (λ (a : RoundData). Turn w (node block (q ∷ qs) (Asking fs)) [] (a ∷ []) (asked ticket (node block (q ∷ qs) (Asking fs)) ∷ []) × IsPermutation (first_outs w block (q ∷ qs) (fs ++ Out ticket ∷ [])) ((ticket, a) ∷ first_outs w block (q ∷ qs) fs)) e
    (first-ask-turn w block (q ∷ qs) fs p ticket holds can at, first_outs-push w block (q ∷ qs) fs p ticket can at)
ask-turn-in w forms one has block ps (Walking p k next None) ticket round can is holds =
    subst (λ (a : RoundData). Turn w (node block ps (Walking p k next None)) [] (a ∷ []) (asked ticket (node block ps (Walking p k next None)) ∷ []) × IsPermutation (outs w (asked ticket (node block ps (Walking p k next None)))) ((ticket, a) ∷ [])) (sym is)
    (next-ask-turn w p ps block k ticket next holds, IsPermutation-refl _)
ask-turn-in w forms one has block ps (Walking p k next (Some t)) ticket round can is holds = absurd can

pub ask-turn : (w : World) (forms : List Form) → OneAddress → HasForms w forms → (n : NodeData) (ticket : ℕ) (round : RoundData) → CanAsk n → IsNextRound forms n round → Holds w n → Turn w n [] (round ∷ []) (asked ticket n ∷ []) × IsPermutation (outs w (asked ticket n)) ((ticket, round) ∷ outs w n)
ask-turn w forms one has n ticket round can is holds = ask-turn-in w forms one has n.rows n.rest n.stage ticket round can is holds

tickets-ask-in : (block : List Places) (ps : List Pattern) (stage : Stage) (ticket : ℕ) → CanAskStage ps stage → IsPermutation (tickets_of (asked ticket (node block ps stage))) (ticket ∷ tickets_of (node block ps stage))
tickets-ask-in block ps (Asking fs) ticket can = first_tickets-push fs ticket
tickets-ask-in block ps (Walking p k next None) ticket can = IsPermutation-refl _
tickets-ask-in block ps (Walking p k next (Some t)) ticket can = absurd can

pub tickets-ask : (n : NodeData) (ticket : ℕ) → CanAsk n → IsPermutation (tickets_of (asked ticket n)) (ticket ∷ tickets_of n)
tickets-ask n ticket can = tickets-ask-in n.rows n.rest n.stage ticket can

-- ---- the next page of a walk

-- a page that there is can be counted
counted : (w : World) → IsWorld w → (s : Selection) (k : ℕ) → k < w.last s → one_more k ≡ suc k
counted w is s k h =
    omega (arith, is.few s, h)

pub walk-list : (p : Pattern) (others : List Pattern) (block : List Places) (k : ℕ) (next : Option RoundData) → option_to_list (next_walk p others block k next) ≡ walk_on p others block k next
walk-list p others block k None = refl
walk-list p others block k (Some a) = refl

-- what the node waits for is its next page
pub record WaitsNext (n : NodeData) (ticket : ℕ) : Type 0 where
  pub chosen : Pattern
  pub pages : ℕ
  pub next : RoundData
  pub stage : n.stage ≡ Walking chosen pages next (Some ticket)

next-in : (block : List Places) (ps : List Pattern) (p : Pattern) (k t ticket : ℕ) (next : RoundData) (b : Bool) → nat_eq t ticket ≡ b → ◌≡◌ {A = Option Waits} (if b then Some ForNext else None) (Some ForNext) → WaitsNext (node block ps (Walking p k next (Some t))) ticket
next-in block ps p k t ticket next true e h = record { chosen = p; pages = k; next = next; stage = ap (λ x. Walking p k next (Some x)) (grind (arith, nat_tests)) }
next-in block ps p k t ticket next false e h = cc

next-of : (block : List Places) (ps : List Pattern) (stage : Stage) (ticket : ℕ) → waits_for ticket (node block ps stage) ≡ Some ForNext → WaitsNext (node block ps stage) ticket
next-of block ps (Asking fs) ticket h = let m = map_some ForFirst (first_waiting ticket fs) ForNext h in let e : ForFirst m.0 ≡ ForNext = m.2 in cc
next-of block ps (Walking p k next None) ticket h = cc
next-of block ps (Walking p k next (Some t)) ticket h = next-in block ps p k t ticket next (nat_eq t ticket) refl h

pub waits-next : (n : NodeData) (ticket : ℕ) → waits_for ticket n ≡ Some ForNext → WaitsNext n ticket
waits-next n ticket h = next-of n.rows n.rest n.stage ticket h

Nexts : World → NodeData → ℕ → JointPage → Type 0
Nexts w n ticket page = Turn w n (out_by n page.triples) [] (opened_by (cut_of w) n page.triples ++ option_to_list (after_by n page.next))

walk-next : (w : World) → IsWorld w → (block : List Places) (ps : List Pattern) (p : Pattern) (k ticket : ℕ) (next : RoundData) (page : JointPage) → Holds w (node block ps (Walking p k next (Some ticket))) → IsRoundPageAt w next page → Nexts w (node block ps (Walking p k next (Some ticket))) ticket page
unfolding Nexts
walk-next w is block ps p k ticket next page holds at =
    let h = holds.stage in
    let true' : IsPageAfter w (selection_for p block) k page = at.stands (selection_for p block) k h.valid h.askable h.next h.more in
    let e : opened (cut_of w) p ps block page.triples ++ walk_on p ps block (suc k) page.next ≡ opened (cut_of w) p ps block page.triples ++ option_to_list (next_walk p ps block (one_more k) page.next) =
    ap (λ m. opened (cut_of w) p ps block page.triples ++ walk_on p ps block m page.next) (sym (counted w is (selection_for p block) k h.more)) ∙ ap (λ (l : List NodeData). opened (cut_of w) p ps block page.triples ++ l) (sym (walk-list p ps block (one_more k) page.next)) in
    subst (λ (l : List NodeData). Turn w (node block ps (Walking p k next (Some ticket))) (put_out p ps block page.triples) [] l) e (walk-turn w is p ps block k ticket next page holds true')

pub next-turn : (w : World) → IsWorld w → (n : NodeData) (ticket : ℕ) (page : JointPage) → Holds w n → waits_for ticket n ≡ Some ForNext → ((a : RoundData) → Contains (outs w n) (ticket, a) → IsRoundPageAt w a page) →
    Turn w n (out_by n page.triples) [] (opened_by (cut_of w) n page.triples ++ option_to_list (after_by n page.next))
unfolding Nexts
next-turn w is n ticket page holds waits true' =
    let s = waits-next n ticket waits in
    let stands : IsRoundPageAt w s.next page = true' s.next (subst (λ (x : Stage). Contains (outs w (node n.rows n.rest x)) (ticket, s.next)) (sym s.stage) (0, omega arith, refl)) in
    subst (λ (x : Stage). Nexts w (node n.rows n.rest x) ticket page) (sym s.stage) (walk-next w is n.rows n.rest s.chosen s.pages ticket s.next page (subst (λ (x : Stage). Holds w (node n.rows n.rest x)) s.stage holds) stands)

pub next-outs : (w : World) (n : NodeData) (ticket : ℕ) → waits_for ticket n ≡ Some ForNext → (a : RoundData) × (outs w n ≡ (ticket, a) ∷ [])
next-outs w n ticket waits = let s = waits-next n ticket waits in (s.next, ap (λ (x : Stage). outs w (node n.rows n.rest x)) s.stage)

pub next-tickets : (n : NodeData) (ticket : ℕ) → waits_for ticket n ≡ Some ForNext → tickets_of n ≡ ticket ∷ []
next-tickets n ticket waits = let s = waits-next n ticket waits in ap (λ (x : Stage). tickets_of (node n.rows n.rest x)) s.stage

-- ---- a first page

pub record WaitsFirst (n : NodeData) (ticket i : ℕ) : Type 0 where
  pub firsts : List First
  pub stage : n.stage ≡ Asking firsts
  pub waiting : first_waiting ticket firsts ≡ Some i

walking-no : (ticket : ℕ) (t i : ℕ) (b : Bool) → ◌≡◌ {A = Option Waits} (if b then Some ForNext else None) (Some (ForFirst i)) → ⊥
walking-no ticket t i true h = cc
walking-no ticket t i false h = cc

first-of : (block : List Places) (ps : List Pattern) (stage : Stage) (ticket i : ℕ) → waits_for ticket (node block ps stage) ≡ Some (ForFirst i) → WaitsFirst (node block ps stage) ticket i
first-of block ps (Asking fs) ticket i h =
    let m = map_some ForFirst (first_waiting ticket fs) (ForFirst i) h in
    let e : m.0 ≡ i = cc in
    record { firsts = fs; stage = refl; waiting = m.1 ∙ ap (λ x. let o : Option ℕ = Some x in o) e }
first-of block ps (Walking p k next None) ticket i h = cc
first-of block ps (Walking p k next (Some t)) ticket i h = absurd (walking-no ticket t i (nat_eq t ticket) h)

pub waits-first : (n : NodeData) (ticket i : ℕ) → waits_for ticket n ≡ Some (ForFirst i) → WaitsFirst n ticket i
waits-first n ticket i h = first-of n.rows n.rest n.stage ticket i h

First-came : World → NodeData → ℕ → ℕ → JointPage → Type 0
First-came w n ticket i page = Turn w n [] [] (with_first_at i (Got page) n ∷ []) × ((a : RoundData) × IsPermutation (outs w n) ((ticket, a) ∷ outs w (with_first_at i (Got page) n)))

first-turn-in : (w : World) → IsWorld w → (block : List Places) (ps : List Pattern) (fs : List First) (ticket i : ℕ) (page : JointPage) → Holds w (node block ps (Asking fs)) → first_waiting ticket fs ≡ Some i → ((a : RoundData) → Contains (first_outs w block ps fs) (ticket, a) → IsRoundPageAt w a page) → First-came w (node block ps (Asking fs)) ticket i page
unfolding First-came
first-turn-in w is block ps fs ticket i page holds waits true' =
    let within = (put-back fs i ticket page waits).0 in
    let below : i < length ps = omega (arith, within, holds.asking.within) in
    let p = pattern-at ps i below in
    let gone = first-came w block ps fs i p.0 ticket page waits holds.asking.within p.1 in
    let a = w.round (selection_for p.0 block) 1 in
    let at : IsRoundPageAt w a page = true' a (Contains-permutation _ _ (ticket, a) (IsPermutation-sym _ _ gone) (0, omega arith, refl)) in
    let asked = asked-sound w is block ps fs i p.0 holds below p.1 in
    let first = is.some (selection_for p.0 block) in
    (held-turn w block ps fs i p.0 page holds within p.1 (at.stands (selection_for p.0 block) 0 asked.0 asked.1 refl first), (a, gone))

pub first-turn : (w : World) → IsWorld w → (n : NodeData) (ticket i : ℕ) (page : JointPage) → Holds w n → waits_for ticket n ≡ Some (ForFirst i) → ((a : RoundData) → Contains (outs w n) (ticket, a) → IsRoundPageAt w a page) →
    Turn w n [] [] (with_first_at i (Got page) n ∷ []) × ((a : RoundData) × IsPermutation (outs w n) ((ticket, a) ∷ outs w (with_first_at i (Got page) n)))
unfolding First-came
first-turn w is n ticket i page holds waits true' =
    let s = waits-first n ticket i waits in
    subst (λ (x : Stage). First-came w (node n.rows n.rest x) ticket i page) (sym s.stage)
    (first-turn-in w is n.rows n.rest s.firsts ticket i page (subst (λ (x : Stage). Holds w (node n.rows n.rest x)) s.stage holds) s.waiting (subst (λ (x : Stage). (a : RoundData) → Contains (outs w (node n.rows n.rest x)) (ticket, a) → IsRoundPageAt w a page) s.stage true'))

pub first-tickets : (n : NodeData) (ticket i : ℕ) (page : JointPage) → waits_for ticket n ≡ Some (ForFirst i) → IsPermutation (tickets_of n) (ticket ∷ tickets_of (with_first_at i (Got page) n))
first-tickets n ticket i page waits =
    let s = waits-first n ticket i waits in
    subst (λ (x : Stage). IsPermutation (tickets_of (node n.rows n.rest x)) (ticket ∷ tickets_of (with_first_at i (Got page) (node n.rows n.rest x)))) (sym s.stage) (tickets-came s.firsts i ticket page s.waiting)

pub first-back : (n : NodeData) (ticket i : ℕ) (page : JointPage) → waits_for ticket n ≡ Some (ForFirst i) → with_first_at i (Out ticket) (with_first_at i (Got page) n) ≡ n
first-back n ticket i page waits =
    let s = waits-first n ticket i waits in
    subst (λ (x : Stage). with_first_at i (Out ticket) (with_first_at i (Got page) (node n.rows n.rest x)) ≡ node n.rows n.rest x) (sym s.stage) (ap (λ (l : List First). node n.rows n.rest (Asking l)) (put-back s.firsts i ticket page s.waiting).1)

pub first-place : (n : NodeData) (ticket i : ℕ) → waits_for ticket n ≡ Some (ForFirst i) → IsFirstOf i n
first-place n ticket i waits =
    let s = waits-first n ticket i waits in
    subst (λ (x : Stage). IsFirstOf i (node n.rows n.rest x)) (sym s.stage) (waiting-within s.firsts i ticket s.waiting)

pub first-place-again : (n : NodeData) (ticket i : ℕ) (first : First) → waits_for ticket n ≡ Some (ForFirst i) → IsFirstOf i (with_first_at i first n)
first-place-again n ticket i first waits =
    let s = waits-first n ticket i waits in
    subst (λ (x : Stage). IsFirstOf i (with_first_at i first (node n.rows n.rest x))) (sym s.stage) (omega (arith, waiting-within s.firsts i ticket s.waiting, length-set s.firsts i first))

-- ---- the choice

pub got-at : (fs : List First) (i : ℕ) → list_all is_got fs ≡ true → i < length fs → (page : JointPage) × (Got page ≡ get_or fs i (Got page))
got-at [] i h l = absurd (omega arith)
got-at (Out t ∷ fs) i h l = cc
got-at (Got page ∷ fs) zero h l = (page, refl)
got-at (Got page ∷ fs) (suc i) h l = got-at fs i h (omega arith)

first-true : (w : World) (block : List Places) (ps : List Pattern) (fs : List First) (i : ℕ) (p : Pattern) (page : JointPage) → FirstsHold w block ps fs → i < length fs → Got page ≡ get_or fs i (Got page) → p ≡ get_or ps i p → IsPageAfter w (selection_for p block) 0 page
first-true w block ps [] i p page h l g e = absurd (omega arith)
first-true w block [] (f ∷ fs) i p page h l g e = absurd h
first-true w block (q ∷ qs) (Out t ∷ fs) zero p page h l g e = cc
first-true w block (q ∷ qs) (Got x ∷ fs) zero p page h l g e = let same : x ≡ page = cc in subst (λ (y : JointPage). IsPageAfter w (selection_for p block) 0 y) same (subst (λ (r : Pattern). IsPageAfter w (selection_for r block) 0 x) (sym e) h.0)
first-true w block (q ∷ qs) (f ∷ fs) (suc i) p page h l g e = first-true w block qs fs i p page h.1 (omega arith) g e

least-within : (w : World) (block : List Places) (ps : List Pattern) → 0 < length ps → least (counts w block ps) < length ps
least-within w block [] h = absurd (omega arith)
least-within w block (p ∷ ps) h = omega (arith, least-counts w block p ps)

counted-true-by : (w : World) → IsWorld w → (s : Selection) (page : JointPage) (b : Bool) → nat_eq page.count 0 ≡ b → IsPageAfter w s 0 page → IsPageAfter w s 0 (chosen_page_by b page)
counted-true-by w is s page false e h = h
counted-true-by w is s page true e h =
    let zeros : page.count ≡ 0 = grind (arith, nat_tests) in
    let empty : w.count s ≡ 0 = sym (h.count refl) ∙ zeros in
    record {
      triples = sym (is.none s empty);
      count = h.count;
      next = ap (λ (n : ℕ). let r : Option RoundData = if nat_lt 1 n then Some (w.round s 2) else None in r) (sym (is.alone s empty));
    }

-- the page that a node takes of a true one is true
counted-true : (w : World) → IsWorld w → (s : Selection) (page : JointPage) → IsPageAfter w s 0 page → IsPageAfter w s 0 (chosen_page page)
counted-true w is s page h = counted-true-by w is s page (nat_eq page.count 0) refl h

choice-in : (w : World) → IsWorld w → (block : List Places) (ps : List Pattern) (fs : List First) (made : List NodeData) (rows : List Places) (after : Option NodeData) → Holds w (node block ps (Asking fs)) → length fs ≡ length ps → list_all is_got fs ≡ true → IsChosen (cut_of w) (node block ps (Asking fs)) made rows after → Turn w (node block ps (Asking fs)) rows [] (made ++ option_to_list after)
choice-in w is block ps fs made rows after holds l g chosen =
    let i = least (counts w block ps) in
    let told : least (map count_of fs) ≡ i = ap least (counts-told w block ps fs holds.stage l g) in
    let within : i < length ps = least-within w block ps holds.asking.some in
    let p = pattern-at ps i within in
    let page = got-at fs i g (omega (arith, l)) in
    let taken = chosen_page page.0 in
    let m : MadeOf (cut_of w) p.0 (remove ps i) block (1) taken made rows after =
    (subst (λ (k : ℕ). (q : Pattern) (x : JointPage) → k < length fs → q ≡ get_or ps k q → Got x ≡ get_or fs k (Got x) → MadeOf (cut_of w) q (remove ps k) block (1) (chosen_page x) made rows after) told chosen) p.0 page.0 (omega (arith, l, within)) p.1 page.1 in
    let t = choice-turn w is block ps fs p.0 taken holds l p.1 within (counted-true w is (selection_for p.0 block) page.0 (first-true w block ps fs i p.0 page.0 holds.stage (omega (arith, l)) page.1 p.1)) in
    let e : made_of (cut_of w) p.0 (remove ps i) block (0) taken ≡ made ++ option_to_list after =
    ap (λ (x : List NodeData). x ++ walk_on p.0 (remove ps i) block (1) taken.next) (sym m.opens) ∙ ap (λ (x : List NodeData). made ++ x) (sym (walk-list p.0 (remove ps i) block (1) taken.next)) ∙ ap (λ (o : Option NodeData). made ++ option_to_list o) (sym m.goes) in
    subst (λ (x : List NodeData). Turn w (node block ps (Asking fs)) rows [] x) e (subst (λ (x : List Places). Turn w (node block ps (Asking fs)) x [] (made_of (cut_of w) p.0 (remove ps i) block (0) taken)) (sym m.puts) t)

Choice : World → NodeData → List NodeData → List Places → Option NodeData → Type 0
Choice w n made rows after = Turn w n rows [] (made ++ option_to_list after)

choice-by : (w : World) → IsWorld w → (block : List Places) (ps : List Pattern) (stage : Stage) (made : List NodeData) (rows : List Places) (after : Option NodeData) → Holds w (node block ps stage) → is_full (node block ps stage) ≡ true → IsChosen (cut_of w) (node block ps stage) made rows after → Choice w (node block ps stage) made rows after
unfolding Choice
choice-by w is block ps (Asking fs) made rows after holds full chosen =
    let b = and_parts (nat_eq (length fs) (length ps)) (list_all is_got fs) full in
    choice-in w is block ps fs made rows after holds (grind (arith, nat_tests)) b.1 chosen
choice-by w is block ps (Walking p k next out) made rows after holds full chosen = cc

pub choice-turn-of : (w : World) → IsWorld w → (n : NodeData) (made : List NodeData) (rows : List Places) (after : Option NodeData) → Holds w n → is_full n ≡ true → IsChosen (cut_of w) n made rows after → Turn w n rows [] (made ++ option_to_list after)
unfolding Choice
choice-turn-of w is n made rows after holds full chosen = choice-by w is n.rows n.rest n.stage made rows after holds full chosen

got-outs : (w : World) (block : List Places) (ps : List Pattern) (fs : List First) → list_all is_got fs ≡ true → first_outs w block ps fs ≡ []
got-outs w block [] fs h = refl
got-outs w block (p ∷ ps) [] h = refl
got-outs w block (p ∷ ps) (Out t ∷ fs) h = cc
got-outs w block (p ∷ ps) (Got page ∷ fs) h = got-outs w block ps fs h

got-tickets : (fs : List First) → list_all is_got fs ≡ true → first_tickets fs ≡ []
got-tickets [] h = refl
got-tickets (Out t ∷ fs) h = cc
got-tickets (Got page ∷ fs) h = got-tickets fs h

pub full-outs : (w : World) (n : NodeData) → is_full n ≡ true → outs w n ≡ []
full-outs w n full = by n.rows n.rest n.stage full where
  by : (block : List Places) (ps : List Pattern) (s : Stage) → is_full (node block ps s) ≡ true → outs w (node block ps s) ≡ []
  by block ps (Asking fs) h = got-outs w block ps fs (and_parts (nat_eq (length fs) (length ps)) (list_all is_got fs) h).1
  by block ps (Walking p k next out) h = cc

pub full-tickets : (n : NodeData) → is_full n ≡ true → tickets_of n ≡ []
full-tickets n full = by n.rows n.rest n.stage full where
  by : (block : List Places) (ps : List Pattern) (s : Stage) → is_full (node block ps s) ≡ true → tickets_of (node block ps s) ≡ []
  by block ps (Asking fs) h = got-tickets fs (and_parts (nat_eq (length fs) (length ps)) (list_all is_got fs) h).1
  by block ps (Walking p k next out) h = cc
