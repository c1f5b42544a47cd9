-- The turns of a node: what each event makes of it.
use Rattle.std.proofs.Common.{ℕ, suc, ◌≡◌, ◌<◌, ◌≤◌, ◌&&◌, true, List, [], ◌∷◌, ◌++◌, length, get_or, set, Option, Some, None, ap, sym, subst, ◌∙◌, arith, append-nil, length-set, length-append}
use Rattle.std.specs.List.{flat_map, remove, All, AllByRecursion}
use Rattle.std.specs.List.Sorted.{IsPermutation}
use Rattle.std.proofs.lemmas.List.Concat.{flat_map-append}
use Rattle.std.proofs.lemmas.List.Elements.{All-nil, All-cons, All-append, All-filter, All-map, All-weaker}
use Rattle.std.proofs.lemmas.List.Sorted.{IsPermutation-trans, All-permutation}
use Rattle.list_laws.proofs.Orders.{same}
use Rattle.list_laws.proofs.Each.{every_at}
use Rattle.request_plan.specs.Rounds.{RoundData}
use Rattle.rdf_terms.specs.declared.term.Triple.{Triple}
use Rattle.rdf_terms.specs.Slots.{matches}
use Rattle.rdf_terms.specs.Valid.{IsValidTriple}
use Rattle.rdf_terms.specs.Selections.{Selection, IsValidSelection}
use Rattle.bgp_core.specs.declared.pattern.Pattern.{Pattern}
use Rattle.bgp_core.specs.Solutions.{Places}
use Rattle.bgp_core.specs.Queries.{IsValidPattern}
use Rattle.request_plan.specs.declared.joint_page.JointPage.{JointPage}
use Rattle.join_core.specs.declared.first.First.{First}
use Rattle.join_core.specs.declared.first.First.TheVariants.{Out, Got}
use Rattle.request_plan.specs.Blocks.{blocks, selection_for, is_askable}
use Rattle.request_plan.specs.Worlds.{World, IsWorld, cut_of, IsPageAfter}
use Rattle.request_plan.specs.Plans.{found, IsValidRow, askable_rows, counts, least, asking_plan, round_plan}
use Rattle.join_core.specs.Nodes.{NodeData, node, future, left, future_of, left_of, Holds, GoesOn, walk_on, put_out, opened, fresh, nodes_in}
use Rattle.join_core.specs.Nodes.Stage.{Asking, Walking}
use Rattle.join_core.specs.Joins.{Turn}
use Rattle.join_core.specs.Events.{made_of}
use Rattle.request_plan.proofs.Valid.{found-valid, askable-all-at, every-remove}
use Rattle.request_plan.proofs.Cuts.{are-cut}
use Rattle.request_plan.proofs.Asked.{selection-askable, selection-valid}
use Rattle.join_core.proofs.Lists.{both-all}
use Rattle.join_core.proofs.Over.{IsAskedFor, blocks-asked, blocks-have}
use Rattle.join_core.proofs.Pages.{items-all, page-owed, page-left, first-left, next-left, end-owed, end-left, chosen-owed, chosen-left, page-goes-on, firsts-push, firsts-set}

-- ---- a page of a walk, with the walk that goes on

goes-owed : (w : World) (p : Pattern) (others : List Pattern) (rows : List Places) (k : ℕ) (o : Option RoundData) (round : RoundData) → GoesOn w (selection_for p rows) k o → future_of w rows others (Walking p k round None) ≡ flat_map (future w) (walk_on p others rows k o)
goes-owed w p others rows k None round h = end-owed w p others rows k round None h
goes-owed w p others rows k (Some a) round h = sym (append-nil (future_of w rows others (Walking p k a None)))

goes-left : (w : World) (p : Pattern) (others : List Pattern) (rows : List Places) (k : ℕ) (o : Option RoundData) (round : RoundData) → GoesOn w (selection_for p rows) k o → left_of w rows others (Walking p k round None) ≡ flat_map (left w) (walk_on p others rows k o)
goes-left w p others rows k None round h = end-left w p others rows k round h
goes-left w p others rows k (Some a) round h = sym (append-nil (left_of w rows others (Walking p k a None)))

-- what a pattern under a block keeps: the rows, the others and what is asked for are valid, and it can be asked for
pub record Sound (w : World) (p : Pattern) (others : List Pattern) (rows : List Places) : Type 0 where
  pub rows_are : All IsValidRow rows
  pub few : length rows ≤ w.block
  pub rest_is : AllByRecursion IsValidPattern others
  pub selection_is : IsValidSelection (selection_for p rows)
  pub can_ask : is_askable (selection_for p rows) ≡ true

walk-holds : (w : World) (p : Pattern) (others : List Pattern) (rows : List Places) (k : ℕ) (round : RoundData) → Sound w p others rows → (k < w.last (selection_for p rows)) × (round ≡ w.round (selection_for p rows) (suc k)) → Holds w (node rows others (Walking p k round None))
walk-holds w p others rows k round s h = record { stage = record { more = h.0; next = h.1; askable = s.can_ask; valid = s.selection_is }; rows = s.rows_are; few = s.few; patterns = s.rest_is; asking = tt }

goes-hold : (w : World) (p : Pattern) (others : List Pattern) (rows : List Places) (k : ℕ) (o : Option RoundData) → Sound w p others rows → GoesOn w (selection_for p rows) k o → All (Holds w) (walk_on p others rows k o)
goes-hold w p others rows k None s h = All-nil (Holds w)
goes-hold w p others rows k (Some a) s h = All-cons (Holds w) (node rows others (Walking p k a None)) [] (walk-holds w p others rows k a s h) (All-nil (Holds w))

-- what each block of valid rows has
abbrev IsBlock : World → List Pattern → List Places → Type 0
IsBlock w ps rows = IsAskedFor ps rows × ((length rows ≤ w.block) × All IsValidRow rows)

fresh-holds : (w : World) (q : Pattern) (qs : List Pattern) → AllByRecursion IsValidPattern (q ∷ qs) → (rows : List Places) → IsBlock w (q ∷ qs) rows → Holds w (fresh (q ∷ qs) rows)
fresh-holds w q qs ps rows b = record { stage = tt; rows = b.1.1; few = b.1.0; patterns = ps; asking = record { some_rows = b.0.0; some = omega arith; within = omega arith; askable = b.0.1 } }

-- the nodes of valid rows hold
pub nodes-hold : (w : World) → IsWorld w → (others : List Pattern) (rows : List Places) → All IsValidRow rows → AllByRecursion IsValidPattern others → All (Holds w) (nodes_in (cut_of w) others rows)
nodes-hold w is [] rows v ps = All-nil (Holds w)
nodes-hold w is (q ∷ qs) rows v ps =
    let lists = blocks (cut_of w) (q ∷ qs) (askable_rows (q ∷ qs) rows) in
    let few : All (λ (l : List Places). length l ≤ w.block) lists = (are-cut (cut_of w) (q ∷ qs) (askable_rows (q ∷ qs) rows)).few (omega (arith, is.block.0)) in
    let fine = both-all (λ (l : List Places). length l ≤ w.block) (All IsValidRow) lists few (blocks-have IsValidRow (cut_of w) (q ∷ qs) rows v) in
    let each = both-all (IsAskedFor (q ∷ qs)) (λ (l : List Places). (length l ≤ w.block) × All IsValidRow l) lists (blocks-asked (cut_of w) (q ∷ qs) rows) fine in
    All-map (Holds w) (fresh (q ∷ qs)) lists (All-weaker (IsBlock w (q ∷ qs)) (λ (l : List Places). Holds w (fresh (q ∷ qs) l)) (fresh-holds w q qs ps) lists each)

pub opened-hold : (w : World) → IsWorld w → (p : Pattern) (others : List Pattern) (rows : List Places) (ts : List Triple) → All IsValidTriple ts → All IsValidRow rows → AllByRecursion IsValidPattern others → All (Holds w) (opened (cut_of w) p others rows ts)
opened-hold w is p others rows ts ok v ps = nodes-hold w is others (found p rows ts) (found-valid p rows ts ok v) ps

-- the triples of a true page are valid
pub page-valid : (w : World) → IsWorld w → (s : Selection) (k : ℕ) (page : JointPage) → k < w.last s → IsPageAfter w s k page → All IsValidTriple page.triples
page-valid w is s k page below h =
    subst (λ (ts : List Triple). All IsValidTriple ts) (sym h.triples)
    (items-all IsValidTriple w s k below (All-permutation IsValidTriple _ _ (is.fragments s) (All-filter (λ t. matches s.slots t && w.keeps s.rows t) IsValidTriple w.triples is.valid)))

pub walked-owed : (w : World) → IsWorld w → (p : Pattern) (others : List Pattern) (rows : List Places) (k : ℕ) (next : RoundData) (o : Option ℕ) (page : JointPage) → k < w.last (selection_for p rows) → IsPageAfter w (selection_for p rows) k page →
    future_of w rows others (Walking p k next o) ≡ put_out p others rows page.triples ++ flat_map (future w) (made_of (cut_of w) p others rows k page)
walked-owed w is p others rows k next o page below h =
    let cut = cut_of w in
    let goes = goes-owed w p others rows (suc k) page.next next (page-goes-on w (selection_for p rows) k page h) in
    let joined : flat_map (future w) (opened cut p others rows page.triples) ++ future_of w rows others (Walking p (suc k) next None) ≡ flat_map (future w) (made_of cut p others rows k page) =
    ap (λ l. flat_map (future w) (opened cut p others rows page.triples) ++ l) goes ∙ sym (flat_map-append (future w) (opened cut p others rows page.triples) (walk_on p others rows (suc k) page.next)) in
    page-owed w is cut p others rows k next next o below
    ∙ ap (λ (ts : List Triple). put_out p others rows ts ++ (flat_map (future w) (opened cut p others rows ts) ++ future_of w rows others (Walking p (suc k) next None))) (sym h.triples)
    ∙ ap (λ l. put_out p others rows page.triples ++ l) joined

pub walked-left : (w : World) (p : Pattern) (others : List Pattern) (rows : List Places) (k ticket : ℕ) (next : RoundData) (page : JointPage) → k < w.last (selection_for p rows) → IsPageAfter w (selection_for p rows) k page →
    IsPermutation (left_of w rows others (Walking p k next (Some ticket))) (flat_map (left w) (made_of (cut_of w) p others rows k page))
walked-left w p others rows k ticket next page below h =
    let cut = cut_of w in
    let e = page-left w p others rows k ticket next next below in
    let goes = goes-left w p others rows (suc k) page.next next (page-goes-on w (selection_for p rows) k page h) in
    let joined : flat_map (left w) (opened cut p others rows page.triples) ++ left_of w rows others (Walking p (suc k) next None) ≡ flat_map (left w) (made_of cut p others rows k page) =
    ap (λ l. flat_map (left w) (opened cut p others rows page.triples) ++ l) goes ∙ sym (flat_map-append (left w) (opened cut p others rows page.triples) (walk_on p others rows (suc k) page.next)) in
    subst (λ l. IsPermutation (left_of w rows others (Walking p k next (Some ticket))) l) joined
    (subst (λ (ts : List Triple). IsPermutation (left_of w rows others (Walking p k next (Some ticket))) (flat_map (left w) (opened cut p others rows ts) ++ left_of w rows others (Walking p (suc k) next None))) (sym h.triples) e)

pub made-hold : (w : World) → IsWorld w → (p : Pattern) (others : List Pattern) (rows : List Places) (k : ℕ) (page : JointPage) → Sound w p others rows → k < w.last (selection_for p rows) → IsPageAfter w (selection_for p rows) k page → All (Holds w) (made_of (cut_of w) p others rows k page)
made-hold w is p others rows k page s below h =
    All-append (Holds w) (opened (cut_of w) p others rows page.triples) (walk_on p others rows (suc k) page.next)
    (opened-hold w is p others rows page.triples (page-valid w is (selection_for p rows) k page below h) s.rows_are s.rest_is)
    (goes-hold w p others rows (suc k) page.next s (page-goes-on w (selection_for p rows) k page h))

-- ---- the turns

alone : {A : Type 0} (f : NodeData → List A) (n : NodeData) → IsPermutation (f n) (flat_map f (n ∷ []))
alone f n = same _ _ (sym (append-nil (f n)))

-- a node that asks hands out the round of its next pattern
pub first-ask-turn : (w : World) (rows : List Places) (ps : List Pattern) (fs : List First) (p : Pattern) (ticket : ℕ) → Holds w (node rows ps (Asking fs)) → length fs < length ps → p ≡ get_or ps (length fs) p →
    Turn w (node rows ps (Asking fs)) [] (w.round (selection_for p rows) 1 ∷ []) (node rows ps (Asking (fs ++ Out ticket ∷ [])) ∷ [])
first-ask-turn w rows ps fs p ticket holds h e =
    let after = node rows ps (Asking (fs ++ Out ticket ∷ [])) in
    let step = first-left w rows ps fs p (Out ticket) holds.asking.some_rows h e in
    record {
      owed = alone (future w) (node rows ps (Asking fs));
      left = same _ _ (step ∙ ap (λ l. w.round (selection_for p rows) 1 ∷ l) (sym (append-nil (left w after))));
      holds = All-cons (Holds w) after [] (record {
        stage = firsts-push w rows ps fs ticket holds.stage h;
        rows = holds.rows;
        few = holds.few;
        patterns = holds.patterns;
        asking = record { some_rows = holds.asking.some_rows; some = holds.asking.some; within = omega (arith, length-append fs (Out ticket ∷ [])); askable = holds.asking.askable };
      }) (All-nil (Holds w));
    }

pub next-ask-turn : (w : World) (p : Pattern) (others : List Pattern) (rows : List Places) (k ticket : ℕ) (next : RoundData) → Holds w (node rows others (Walking p k next None)) → Turn w (node rows others (Walking p k next None)) [] (next ∷ []) (node rows others (Walking p k next (Some ticket)) ∷ [])
next-ask-turn w p others rows k ticket next h =
    let after = node rows others (Walking p k next (Some ticket)) in
    record {
      owed = alone (future w) (node rows others (Walking p k next None));
      left = same _ _ (next-left w p others rows k ticket next h.stage ∙ ap (λ l. next ∷ l) (sym (append-nil (left w after))));
      holds = All-cons (Holds w) after [] (record { stage = h.stage; rows = h.rows; few = h.few; patterns = h.patterns; asking = tt }) (All-nil (Holds w));
    }

pub walk-turn : (w : World) → IsWorld w → (p : Pattern) (others : List Pattern) (rows : List Places) (k ticket : ℕ) (next : RoundData) (page : JointPage) → Holds w (node rows others (Walking p k next (Some ticket))) → IsPageAfter w (selection_for p rows) k page →
    Turn w (node rows others (Walking p k next (Some ticket))) (put_out p others rows page.triples) [] (made_of (cut_of w) p others rows k page)
walk-turn w is p others rows k ticket next page holds h = record {
  owed = same _ _ (walked-owed w is p others rows k next (Some ticket) page holds.stage.more h);
  left = walked-left w p others rows k ticket next page holds.stage.more h;
  holds = made-hold w is p others rows k page (record { rows_are = holds.rows; few = holds.few; rest_is = holds.patterns; selection_is = holds.stage.valid; can_ask = holds.stage.askable }) holds.stage.more h;
}

-- a first page is held
pub held-turn : (w : World) (rows : List Places) (ps : List Pattern) (fs : List First) (i : ℕ) (p : Pattern) (page : JointPage) → Holds w (node rows ps (Asking fs)) → i < length fs → p ≡ get_or ps i p → IsPageAfter w (selection_for p rows) 0 page → Turn w (node rows ps (Asking fs)) [] [] (node rows ps (Asking (set fs i (Got page))) ∷ [])
held-turn w rows ps fs i p page holds h e is =
    let after = node rows ps (Asking (set fs i (Got page))) in
    record {
      owed = alone (future w) (node rows ps (Asking fs));
      left = same _ _ (ap (λ n. asking_plan w (round_plan w) n ps rows) (sym (length-set fs i (Got page))) ∙ sym (append-nil (left w after)));
      holds = All-cons (Holds w) after [] (record {
        stage = firsts-set w rows ps fs i p page holds.stage h e is;
        rows = holds.rows;
        few = holds.few;
        patterns = holds.patterns;
        asking = record { some_rows = holds.asking.some_rows; some = holds.asking.some; within = omega (arith, length-set fs i (Got page), holds.asking.within); askable = holds.asking.askable };
      }) (All-nil (Holds w));
    }

-- what the block asks of one of its patterns is valid, and can be asked for
pub asked-sound : (w : World) → IsWorld w → (rows : List Places) (ps : List Pattern) (fs : List First) (i : ℕ) (p : Pattern) → Holds w (node rows ps (Asking fs)) → i < length ps → p ≡ get_or ps i p → IsValidSelection (selection_for p rows) × (is_askable (selection_for p rows) ≡ true)
asked-sound w is rows ps fs i p holds h e = (
  selection-valid p rows (every_at IsValidPattern ps i p holds.patterns h e) holds.rows (omega (arith, holds.few, is.block.1)),
  selection-askable p rows holds.asking.some_rows (askable-all-at rows ps i p holds.asking.askable h e),
)

-- all first pages are held: the pattern with the least count is chosen, and its page is taken
pub choice-turn : (w : World) → IsWorld w → (rows : List Places) (ps : List Pattern) (fs : List First) (p : Pattern) (page : JointPage) → Holds w (node rows ps (Asking fs)) → length fs ≡ length ps → p ≡ get_or ps (least (counts w rows ps)) p → least (counts w rows ps) < length ps → IsPageAfter w (selection_for p rows) 0 page →
    Turn w (node rows ps (Asking fs)) (put_out p (remove ps (least (counts w rows ps))) rows page.triples) [] (made_of (cut_of w) p (remove ps (least (counts w rows ps))) rows (0) page)
choice-turn w is rows ps fs p page holds l e h at =
    let i = least (counts w rows ps) in
    let asked = asked-sound w is rows ps fs i p holds h e in
    let sound : Sound w p (remove ps i) rows = record { rows_are = holds.rows; few = holds.few; rest_is = every-remove IsValidPattern ps i holds.patterns; selection_is = asked.0; can_ask = asked.1 } in
    let a = w.round (selection_for p rows) 1 in
    let some = is.some (selection_for p rows) in
    record {
      owed = IsPermutation-trans _ _ _ (chosen-owed w is rows ps fs i p a h e) (same _ _ (walked-owed w is p (remove ps i) rows (0) a None page some at));
      left = IsPermutation-trans _ _ _ (same _ _ (chosen-left w rows ps fs p 0 a holds.asking.some_rows holds.asking.some l e)) (walked-left w p (remove ps i) rows (0) 0 a page some at);
      holds = made-hold w is p (remove ps i) rows (0) page sound some at;
    }
