-- Rows are cut alike by the forms and over a world that has them.
use Rattle.std.proofs.Common.{ℕ, zero, suc, ◌≡◌, ◌<◌, min, Bool, true, ◌&&◌, nat_le, if◌then◌else◌, List, [], ◌∷◌, length, take, drop, refl, ap, ◌∙◌, arith, length-take}
use Rattle.std.specs.List.{All}
use Rattle.std.proofs.lemmas.List.Elements.{All-take, All-drop, All-weaker}
use Rattle.list_laws.proofs.Tests.{and_first, and_second}
use Rattle.rdf_terms.specs.Askable.{askable}
use Rattle.rdf_terms.specs.Selections.{Selection}
use Rattle.tpf_base.specs.Addresses.{Address}
use Rattle.template_fill.specs.declared.form.Form.{Form}
use Rattle.template_fill.specs.Forms.{selection_form_text}
use Rattle.template_fill.proofs.Reading.{reads_address}
use Rattle.bgp_core.specs.declared.pattern.Pattern.{Pattern}
use Rattle.bgp_core.specs.Solutions.{Places}
use Rattle.bgp_core.specs.Instances.{instance}
use Rattle.request_plan.specs.declared.block.TheConstants.{LONGEST_TARGET}
use Rattle.request_plan.specs.Blocks.{Cut, selection_for, is_askable, all_fit, longest_front, block_length, blocks_for, blocks, target_length, first_target, forms_cut}
use Rattle.request_plan.specs.Rounds.{AreFirst}
use Rattle.request_plan.specs.Worlds.{World, HasForms, cut_of}
use Rattle.request_plan.specs.Plans.{all_askable}
use Rattle.request_plan.proofs.Asked.{selection-askable}

-- as many rows at most, and the same targets of what can be asked for
record CutAlike (a b : Cut) : Type 0 where
  most : a.most ≡ b.most
  target : (s : Selection) → is_askable s ≡ true → a.target s ≡ b.target s

abbrev Askable : List Pattern → List Places → Type 0
Askable ps rows = All (λ row. all_askable row ps ≡ true) rows

fit-alike : (a b : Cut) → CutAlike a b → (ps : List Pattern) (rows : List Places) → 0 < length rows → Askable ps rows → all_fit a ps rows ≡ all_fit b ps rows
fit-alike a b same [] rows some h = refl
fit-alike a b same (p ∷ ps) rows some h =
    let one = All-weaker (λ row. all_askable row (p ∷ ps) ≡ true) (λ row. askable (instance p row) ≡ true) (λ row e. and_first (askable (instance p row)) (all_askable row ps) e) rows h in
    let others = All-weaker (λ row. all_askable row (p ∷ ps) ≡ true) (λ row. all_askable row ps ≡ true) (λ row e. and_second (askable (instance p row)) (all_askable row ps) e) rows h in
    ap (λ (n : ℕ). nat_le n LONGEST_TARGET && all_fit a ps rows) (same.target (selection_for p rows) (selection-askable p rows some one))
    ∙ ap (λ (c : Bool). nat_le (b.target (selection_for p rows)) LONGEST_TARGET && c) (fit-alike a b same ps rows some others)

front-alike : (a b : Cut) → CutAlike a b → (ps : List Pattern) (rows : List Places) → 0 < length rows → Askable ps rows → (n : ℕ) → longest_front a ps rows n ≡ longest_front b ps rows n
front-alike a b same ps rows some h zero = refl
front-alike a b same ps rows some h (suc zero) = refl
front-alike a b same ps rows some h (suc (suc n)) =
    let front = take (suc (suc n)) rows in
    let fits = fit-alike a b same ps front (omega (arith, some, length-take (suc (suc n)) rows)) (All-take (λ row. all_askable row ps ≡ true) (suc (suc n)) rows h) in
    ap (λ (c : Bool). if c then suc (suc n) else longest_front a ps rows (suc n)) fits
    ∙ ap (λ (k : ℕ). if all_fit b ps front then suc (suc n) else k) (front-alike a b same ps rows some h (suc n))

length-alike : (a b : Cut) → CutAlike a b → (ps : List Pattern) (row : Places) (rows : List Places) → Askable ps (row ∷ rows) → block_length a ps (row ∷ rows) ≡ block_length b ps (row ∷ rows)
length-alike a b same ps row rows h =
    front-alike a b same ps (row ∷ rows) (omega arith) h (min a.most (length (row ∷ rows))) ∙ ap (λ (n : ℕ). longest_front b ps (row ∷ rows) (min n (length (row ∷ rows)))) same.most

blocks-alike : (a b : Cut) → CutAlike a b → (ps : List Pattern) (n : ℕ) (rows : List Places) → Askable ps rows → blocks_for a ps n rows ≡ blocks_for b ps n rows
blocks-alike a b same ps zero rows h = refl
blocks-alike a b same ps (suc n) [] h = refl
blocks-alike a b same ps (suc n) (row ∷ rows) h =
    let all : List Places = row ∷ rows in
    let l = block_length b ps all in
    ap (λ (k : ℕ). take k all ∷ blocks_for a ps n (drop k all)) (length-alike a b same ps row rows h)
    ∙ ap (λ (bs : List (List Places)). take l all ∷ bs) (blocks-alike a b same ps n (drop l all) (All-drop (λ r. all_askable r ps ≡ true) l all h))

-- ---- forms

pub most-of : (forms : List Form) (n : ℕ) → (forms_cut forms n).most ≡ n
most-of [] n = refl
most-of (form ∷ forms) n = refl

first-of : (forms : List Form) (n : ℕ) (s : Selection) (addresses : List Address) → AreFirst forms s addresses → (forms_cut forms n).target s ≡ first_target addresses
first-of [] n s [] h = refl
first-of [] n s (address ∷ addresses) h = absurd h
first-of (form ∷ forms) n s [] h = absurd h
first-of (form ∷ forms) n s (address ∷ addresses) h = ap target_length (reads_address (selection_form_text form s) address h.0)

alike : (w : World) (forms : List Form) → HasForms w forms → CutAlike (forms_cut forms w.block) (cut_of w)
alike w forms has = record { most = most-of forms w.block; target = λ s asked. first-of forms w.block s (w.round s 1).addresses (has.first s asked).addresses }

pub cuts-alike : (w : World) (forms : List Form) → HasForms w forms → (ps : List Pattern) (rows : List Places) → All (λ row. all_askable row ps ≡ true) rows → blocks (forms_cut forms w.block) ps rows ≡ blocks (cut_of w) ps rows
cuts-alike w forms has ps rows h = blocks-alike (forms_cut forms w.block) (cut_of w) (alike w forms has) ps (length rows) rows h
