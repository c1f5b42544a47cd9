-- Runs of tokens between signs, and the places of their patterns.
use Rattle.std.proofs.Common.{ℕ, zero, suc, ◌≡◌, ◌+◌, ◌-◌, ◌<◌, ◌≤◌, Bool, true, false, if◌then◌else◌, List, [], ◌∷◌, ◌++◌, Option, Some, None, refl, sym, ap, ◌∙◌, take, drop, length, get_or, arith}
use Rattle.std.specs.Prelude.{IfSome, IfNone}
use Rattle.std.proofs.lemmas.List.{drop_more, drop_all}
use Rattle.std.proofs.lemmas.List.Edits.{between_more}
use Rattle.query_words.specs.declared.word.Word.{Word}
use Rattle.pattern_parser.specs.Items.{names_after}
use Rattle.group_faults.specs.Signs.{sign_of, is_other, runs_after}
use Rattle.group_faults.specs.Faults.{triples_in, place_at}
use Rattle.group_faults.specs.Walks.{runs_from}

-- one token more of the run that is begun
pub run_more : (ws : List Word) (from i : ℕ) (w : Word) → from ≤ i → i < length ws → w ≡ get_or ws i w → take (i - from) (drop from ws) ++ w ∷ [] ≡ take (i + 1 - from) (drop from ws)
run_more ws from i w h l e =
    ap (λ (v : Word). take (i - from) (drop from ws) ++ v ∷ []) e ∙ sym (between_more ws from i w h l)

pub at_token : (ws : List Word) (i : ℕ) (w : Word) → i < length ws → w ≡ get_or ws i w → drop i ws ≡ w ∷ drop (i + 1) ws
at_token ws i w l e = drop_more ws i w l ∙ ap (λ (v : Word). v ∷ drop (i + 1) ws) (sym e)

pub no_run : (ws : List Word) (i : ℕ) → take (i - i) (drop i ws) ≡ []
no_run ws i = let e : i - i ≡ 0 = omega arith in ap (λ (n : ℕ). take n (drop i ws)) e

pub other_runs : (ws : List Word) (from i : ℕ) (w : Word) → from ≤ i → i < length ws → w ≡ get_or ws i w → is_other (sign_of w.value) ≡ true → runs_from from i ws ≡ runs_from from (i + 1) ws
other_runs ws from i w h l e o =
    let run = take (i - from) (drop from ws) in
    ap (runs_after run) (at_token ws i w l e) ∙
    ap (λ (b : Bool). if b then runs_after (run ++ w ∷ []) (drop (i + 1) ws) else run ∷ runs_after [] (drop (i + 1) ws)) o ∙
    ap (λ (r : List Word). runs_after r (drop (i + 1) ws)) (run_more ws from i w h l e)

pub sign_runs : (ws : List Word) (from i : ℕ) (w : Word) → i < length ws → w ≡ get_or ws i w → is_other (sign_of w.value) ≡ false → runs_from from i ws ≡ take (i - from) (drop from ws) ∷ runs_from (i + 1) (i + 1) ws
sign_runs ws from i w l e o =
    let run = take (i - from) (drop from ws) in
    ap (runs_after run) (at_token ws i w l e) ∙
    ap (λ (b : Bool). if b then runs_after (run ++ w ∷ []) (drop (i + 1) ws) else run ∷ runs_after [] (drop (i + 1) ws)) o ∙
    ap (λ (r : List Word). run ∷ runs_after r (drop (i + 1) ws)) (sym (no_run ws (i + 1)))

-- ---- places

-- ---- one token of the walk

abbrev pub Iri : Type 0
Iri = List ℕ → Option (List ℕ)

-- a token of a run
pub other_taken : (ws : List Word) (from i : ℕ) (w : Word) (left : ℕ) → from ≤ i → i < length ws → w ≡ get_or ws i w → is_other (sign_of w.value) ≡ true → (iri : Iri) (names : List (List ℕ)) → (later : List (List ℕ)) × (place_at left (triples_in iri later (runs_from from (i + 1) ws)) ≡ place_at left (triples_in iri names (runs_from from i ws)))
other_taken ws from i w left h l e o iri names = (names, ap (λ (r : List (List Word)). place_at left (triples_in iri names r)) (sym (other_runs ws from i w h l e o)))

-- a sign, behind another run
pub sign_taken : (ws : List Word) (from i : ℕ) (w : Word) (left more : ℕ) → i < length ws → w ≡ get_or ws i w → is_other (sign_of w.value) ≡ false → ((iri : Iri) (names : List (List ℕ)) (runs : List (List Word)) → place_at left (triples_in iri names (take (i - from) (drop from ws) ∷ runs)) ≡ place_at more (triples_in iri (names_after names 0 (take (i - from) (drop from ws))) runs)) → (iri : Iri) (names : List (List ℕ)) → (later : List (List ℕ)) × (place_at more (triples_in iri later (runs_from (i + 1) (i + 1) ws)) ≡ place_at left (triples_in iri names (runs_from from i ws)))
sign_taken ws from i w left more l e o f iri names =
    (names_after names 0 (take (i - from) (drop from ws)), sym (ap (λ (r : List (List Word)). place_at left (triples_in iri names r)) (sign_runs ws from i w l e o) ∙ f iri names (runs_from (i + 1) (i + 1) ws)))

-- behind the last token the run that is begun is the last
pub last_run : (ws : List Word) (from i : ℕ) → length ws ≤ i → runs_from from i ws ≡ take (i - from) (drop from ws) ∷ []
last_run ws from i h = ap (runs_after (take (i - from) (drop from ws))) (drop_all i ws h)

none_at : (n : ℕ) → place_at n [] ≡ None
none_at zero = refl
none_at (suc n) = refl

-- the last run decides
pub last_is : (ws : List Word) (from i left new : ℕ) (r : Option ℕ) → i ≡ length ws → IfSome r (λ at. (iri : Iri) (names : List (List ℕ)) (runs : List (List Word)) → place_at left (triples_in iri names (take (length ws - from) (drop from ws) ∷ runs)) ≡ Some at) → IfNone r ((iri : Iri) (names : List (List ℕ)) (runs : List (List Word)) → place_at left (triples_in iri names (take (length ws - from) (drop from ws) ∷ runs)) ≡ place_at new (triples_in iri (names_after names 0 (take (length ws - from) (drop from ws))) runs)) → (iri : Iri) (names : List (List ℕ)) → r ≡ place_at left (triples_in iri names (runs_from from i ws))
last_is ws from i left new r e f g iri names = pick r f g
  where
    run : List Word
    run = take (length ws - from) (drop from ws)

    last : runs_from from i ws ≡ take (length ws - from) (drop from ws) ∷ []
    last = last_run ws from i (omega (arith, e)) ∙ ap (λ (n : ℕ). take (n - from) (drop from ws) ∷ []) e

    pick : (r : Option ℕ) → IfSome r (λ at. (iri : Iri) (names : List (List ℕ)) (runs : List (List Word)) → place_at left (triples_in iri names (take (length ws - from) (drop from ws) ∷ runs)) ≡ Some at) → IfNone r ((iri : Iri) (names : List (List ℕ)) (runs : List (List Word)) → place_at left (triples_in iri names (take (length ws - from) (drop from ws) ∷ runs)) ≡ place_at new (triples_in iri (names_after names 0 (take (length ws - from) (drop from ws))) runs)) → r ≡ place_at left (triples_in iri names (runs_from from i ws))
    pick None f g = sym (ap (λ (l : List (List Word)). place_at left (triples_in iri names l)) last ∙ g iri names [] ∙ none_at new)
    pick (Some at) f g = sym (ap (λ (l : List (List Word)). place_at left (triples_in iri names l)) last ∙ f iri names [])

pub none_weaker : {P Q : Type 0} (r : Option ℕ) → (P → Q) → IfNone r P → IfNone r Q
none_weaker None f p = f p
none_weaker (Some n) f p = p
