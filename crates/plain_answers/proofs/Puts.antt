-- Putting a triple at its place, and sorting from the back.
use Rattle.std.proofs.Common.{ℕ, suc, ◌≡◌, ◌<◌, Bool, true, false, cond, if◌then◌else◌, List, ◌∷◌, ◌++◌, length, take, drop, get_or, refl, ap, sym, ◌∙◌}
use Rattle.std.proofs.Math.Seq.{drop-cons}
use Rattle.std.specs.List.{filter}
use Rattle.std.specs.declared.cmp.Ordering.{Ordering}
use Rattle.std.specs.declared.cmp.Ordering.TheVariants.{Less}
use Rattle.rdf_terms.specs.declared.term.Triple.{Triple}
use Rattle.rdf_terms.specs.Fragments.{put, put_by, sorted}

-- before a triple that comes behind
pub put_here : (order : Triple → Triple → Ordering) (x y : Triple) (all whole : List Triple) (i : ℕ) → i < length all → y ≡ get_or all i y → order x y ≡ Less → whole ≡ take i all ++ put order x (drop i all) → whole ≡ take i all ++ x ∷ drop i all
put_here order x y all whole i below at less e =
    let rest : drop i all ≡ y ∷ drop (suc i) all = drop-cons all i y below ∙ ap (λ (t : Triple). t ∷ drop (suc i) all) (sym at) in
    let step : put order x (y ∷ drop (suc i) all) ≡ x ∷ y ∷ drop (suc i) all = ap (λ (o : Ordering). put_by o x y (drop (suc i) all) (put order x (drop (suc i) all))) less in
    e ∙ ap (λ (l : List Triple). take i all ++ put order x l) rest ∙ ap (λ (l : List Triple). take i all ++ l) step ∙ ap (λ (l : List Triple). take i all ++ x ∷ l) (sym rest)

-- one triple more, from the back
pub sorted_step : (order : Triple → Triple → Ordering) (p : Triple → Bool) (all : List Triple) (k : ℕ) (t : Triple) (new old : List Triple) → k < length all → t ≡ get_or all k t → old ≡ sorted order (filter p (drop (suc k) all)) → new ≡ (if p t then put order t old else old) → new ≡ sorted order (filter p (drop k all))
sorted_step order p all k t new old below at before e =
    let rest : drop k all ≡ t ∷ drop (suc k) all = drop-cons all k t below ∙ ap (λ (x : Triple). x ∷ drop (suc k) all) (sym at) in
    e ∙ chosen (p t) refl ∙ ap (λ (l : List Triple). sorted order (filter p l)) (sym rest)
  where
    one : (b : Bool) → (if b then put order t old else old) ≡ sorted order (cond b (t ∷ filter p (drop (suc k) all)) (filter p (drop (suc k) all)))
    one true = ap (λ (l : List Triple). put order t l) before
    one false = before

    chosen : (b : Bool) → p t ≡ b → (if p t then put order t old else old) ≡ sorted order (filter p (t ∷ drop (suc k) all))
    chosen b h = one (p t)
