-- The lengths of blocks, and the blocks of these lengths.
use Rattle.std.proofs.Common.{ℕ, zero, suc, ◌≡◌, ◌<◌, ◌≤◌, List, [], ◌∷◌, ◌++◌, get_or, length, take, drop, drop-cons, ◌+◌, true, refl, ap, sym, ◌∙◌, arith, append_assoc, append-nil}
use Rattle.std.specs.List.{All, AllByRecursion}
use Rattle.list_laws.proofs.Tests.{and_first, and_second}
use Rattle.rdf_terms.specs.Askable.{askable}
use Rattle.bgp_core.specs.Instances.{instance}
use Rattle.request_plan.specs.Plans.{all_askable}
use Rattle.request_plan.proofs.Valid.{pattern-at}
use Rattle.std.proofs.lemmas.List.Elements.{All-weaker}
use Rattle.bgp_core.specs.declared.pattern.Pattern.{Pattern}
use Rattle.bgp_core.specs.Solutions.{Places}
use Rattle.request_plan.specs.Blocks.{Cut, form_cut, longest_front, block_length, blocks_for, blocks}
use Rattle.template_fill.specs.declared.form.Form.{Form}
use Rattle.request_plan.specs.Targets.{HasAddress, lengths_for, block_lengths}
use Rattle.request_plan.proofs.Grown.{one-after-another}
use Rattle.request_plan.proofs.Cuts.{shorter}

-- more steps than rows change nothing
blocks-enough : (cut : Cut) (ps : List Pattern) (n m : ℕ) (rows : List Places) → length rows ≤ n → length rows ≤ m → blocks_for cut ps n rows ≡ blocks_for cut ps m rows
blocks-enough cut ps zero zero rows h g = refl
blocks-enough cut ps zero (suc m) [] h g = refl
blocks-enough cut ps zero (suc m) (row ∷ rows) h g = absurd (omega arith)
blocks-enough cut ps (suc n) zero [] h g = refl
blocks-enough cut ps (suc n) zero (row ∷ rows) h g = absurd (omega arith)
blocks-enough cut ps (suc n) (suc m) [] h g = refl
blocks-enough cut ps (suc n) (suc m) (row ∷ rows) h g =
    let l = block_length cut ps (row ∷ rows) in
    ap (λ (bs : List (List Places)). take l (row ∷ rows) ∷ bs) (blocks-enough cut ps n m (drop l (row ∷ rows)) (shorter cut ps row rows n h) (shorter cut ps row rows m g))

lengths-enough : (cut : Cut) (ps : List Pattern) (n m : ℕ) (rows : List Places) → length rows ≤ n → length rows ≤ m → lengths_for cut ps n rows ≡ lengths_for cut ps m rows
lengths-enough cut ps zero zero rows h g = refl
lengths-enough cut ps zero (suc m) [] h g = refl
lengths-enough cut ps zero (suc m) (row ∷ rows) h g = absurd (omega arith)
lengths-enough cut ps (suc n) zero [] h g = refl
lengths-enough cut ps (suc n) zero (row ∷ rows) h g = absurd (omega arith)
lengths-enough cut ps (suc n) (suc m) [] h g = refl
lengths-enough cut ps (suc n) (suc m) (row ∷ rows) h g =
    let l = block_length cut ps (row ∷ rows) in
    ap (λ (ns : List ℕ). l ∷ ns) (lengths-enough cut ps n m (drop l (row ∷ rows)) (shorter cut ps row rows n h) (shorter cut ps row rows m g))

-- the block at the front, and those of the rows behind it
pub blocks-next : (cut : Cut) (ps : List Pattern) (rows : List Places) → 0 < length rows → blocks cut ps rows ≡ take (block_length cut ps rows) rows ∷ blocks cut ps (drop (block_length cut ps rows) rows)
blocks-next cut ps [] some = absurd (omega arith)
blocks-next cut ps (row ∷ rows) some =
    let left = drop (block_length cut ps (row ∷ rows)) (row ∷ rows) in
    ap (λ (bs : List (List Places)). take (block_length cut ps (row ∷ rows)) (row ∷ rows) ∷ bs) (blocks-enough cut ps (length rows) (length left) left (shorter cut ps row rows (length rows) (omega arith)) (omega arith))

pub lengths-next : (cut : Cut) (ps : List Pattern) (rows : List Places) → 0 < length rows → block_lengths cut ps rows ≡ block_length cut ps rows ∷ block_lengths cut ps (drop (block_length cut ps rows) rows)
lengths-next cut ps [] some = absurd (omega arith)
lengths-next cut ps (row ∷ rows) some =
    let left = drop (block_length cut ps (row ∷ rows)) (row ∷ rows) in
    ap (λ (ns : List ℕ). block_length cut ps (row ∷ rows) ∷ ns) (lengths-enough cut ps (length rows) (length left) left (shorter cut ps row rows (length rows) (omega arith)) (omega arith))

-- no length is left where no row is
pub no-lengths : (cut : Cut) (ps : List Pattern) (rows : List Places) → block_lengths cut ps rows ≡ [] → rows ≡ []
no-lengths cut ps [] e = refl
no-lengths cut ps (row ∷ rows) e = cc

-- ---- fronts

pub front-none : (cut : Cut) (rows : List Places) (n : ℕ) → 1 ≤ n → longest_front cut [] rows n ≡ n
front-none cut rows zero h = absurd (omega arith)
front-none cut rows (suc zero) h = refl
front-none cut rows (suc (suc n)) h = refl

-- the patterns from a place on are the one there and those behind it
pub patterns-from : (ps : List Pattern) (i : ℕ) (found : Pattern) → i < length ps → ((p : Pattern) → p ≡ get_or ps i p → found ≡ p) → drop i ps ≡ found ∷ drop (i + 1) ps
patterns-from ps i found l is =
    let p = pattern-at ps i l in
    let same : get_or ps i p.0 ≡ found = sym p.1 ∙ sym (is p.0 p.1) in
    let one : suc i ≡ i + 1 = omega arith in
    drop-cons ps i p.0 l ∙ ap (λ (x : Pattern). x ∷ drop (suc i) ps) same ∙ ap (λ (k : ℕ). found ∷ drop k ps) one

pub first-askable : (p : Pattern) (all ps : List Pattern) (rows : List Places) → all ≡ p ∷ ps → All (λ row. all_askable row all ≡ true) rows → All (λ row. askable (instance p row) ≡ true) rows
first-askable p all ps rows e h =
    All-weaker (λ row. all_askable row all ≡ true) (λ row. askable (instance p row) ≡ true) (λ row k. and_first (askable (instance p row)) (all_askable row ps) (sym (ap (λ (l : List Pattern). all_askable row l) e) ∙ k)) rows h

pub others-askable : (p : Pattern) (all ps : List Pattern) (rows : List Places) → all ≡ p ∷ ps → All (λ row. all_askable row all ≡ true) rows → All (λ row. all_askable row ps ≡ true) rows
others-askable p all ps rows e h =
    All-weaker (λ row. all_askable row all ≡ true) (λ row. all_askable row ps ≡ true) (λ row k. and_second (askable (instance p row)) (all_askable row ps) (sym (ap (λ (l : List Pattern). all_askable row l) e) ∙ k)) rows h

-- what is measured for one pattern more
pub fits-next : (form : Form) (m : ℕ) (p : Pattern) (all ps : List Pattern) (rows : List Places) (most fit k : ℕ) → all ≡ p ∷ ps → AllByRecursion (HasAddress form) ps → fit ≡ longest_front (form_cut form m) ps rows most
    → k ≡ longest_front (form_cut form m) (p ∷ []) rows fit → k ≡ longest_front (form_cut form m) all rows most
fits-next form m p all ps rows most fit k e has before one =
    one
    ∙ ap (λ (n : ℕ). longest_front (form_cut form m) (p ∷ []) rows n) before
    ∙ sym (one-after-another form m p ps rows most has)
    ∙ ap (λ (l : List Pattern). longest_front (form_cut form m) l rows most) (sym e)

-- ---- the blocks of these lengths

-- a block that is there is moved off
pub moved : (cut : Cut) (ps : List Pattern) (rows : List Places) (n : ℕ) (ns : List ℕ) → n ∷ ns ≡ block_lengths cut ps rows → (0 < length rows) × (n ≡ block_length cut ps rows) × (ns ≡ block_lengths cut ps (drop n rows))
moved cut ps [] n ns e = absurd (cc)
moved cut ps (row ∷ rows) n ns e =
    let next = e ∙ lengths-next cut ps (row ∷ rows) (omega arith) in
    let head : n ≡ block_length cut ps (row ∷ rows) = cc in
    let tail : ns ≡ block_lengths cut ps (drop (block_length cut ps (row ∷ rows)) (row ∷ rows)) = cc in
    (omega arith, head, tail ∙ ap (λ (k : ℕ). block_lengths cut ps (drop k (row ∷ rows))) (sym head))

pub block-moved : (cut : Cut) (ps : List Pattern) (left new : List Places) (n : ℕ) (had done all : List (List Places)) (block : List Places) → 0 < length left → n ≡ block_length cut ps left → block ≡ take n left → new ≡ drop n left → done ≡ had ++ block ∷ []
    → had ++ blocks cut ps left ≡ all → done ++ blocks cut ps new ≡ all
block-moved cut ps left new n had done all block some e taken rest pushed before =
    let l = block_length cut ps left in
    let one : block ≡ take l left = taken ∙ ap (λ (k : ℕ). take k left) e in
    let others : new ≡ drop l left = rest ∙ ap (λ (k : ℕ). drop k left) e in
    ap (λ (bs : List (List Places)). bs ++ blocks cut ps new) pushed
    ∙ append_assoc had (block ∷ []) (blocks cut ps new)
    ∙ ap (λ (b : List Places). had ++ b ∷ blocks cut ps new) one
    ∙ ap (λ (r : List Places). had ++ take l left ∷ blocks cut ps r) others
    ∙ ap (λ (bs : List (List Places)). had ++ bs) (sym (blocks-next cut ps left some))
    ∙ before

pub all-moved : (cut : Cut) (ps : List Pattern) (left : List Places) (had all : List (List Places)) → [] ≡ block_lengths cut ps left → had ++ blocks cut ps left ≡ all → had ≡ all
all-moved cut ps left had all none before =
    sym (append-nil had) ∙ ap (λ (l : List Places). had ++ blocks cut ps l) (sym (no-lengths cut ps left (sym none))) ∙ before

pub lengths-moved : (cut : Cut) (ps : List Pattern) (left new : List Places) (n : ℕ) (had done all : List ℕ) → 0 < length left → n ≡ block_length cut ps left → new ≡ drop n left → done ≡ had ++ n ∷ []
    → had ++ block_lengths cut ps left ≡ all → done ++ block_lengths cut ps new ≡ all
lengths-moved cut ps left new n had done all some e rest pushed before =
    let l = block_length cut ps left in
    ap (λ (ns : List ℕ). ns ++ block_lengths cut ps new) pushed
    ∙ append_assoc had (n ∷ []) (block_lengths cut ps new)
    ∙ ap (λ (k : ℕ). had ++ k ∷ block_lengths cut ps new) e
    ∙ ap (λ (r : List Places). had ++ l ∷ block_lengths cut ps r) (rest ∙ ap (λ (k : ℕ). drop k left) e)
    ∙ ap (λ (ns : List ℕ). had ++ ns) (sym (lengths-next cut ps left some))
    ∙ before
