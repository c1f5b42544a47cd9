-- One step of the items, the names and the prefixes of some tokens.
use Rattle.std.proofs.Common.{ℕ, suc, ◌≡◌, ◌+◌, ◌<◌, List, ◌∷◌, ◌++◌, Option, Some, None, refl, sym, ap, ◌∙◌, length, arith, get_or, drop, drop-cons}
use Rattle.query_words.specs.declared.word.Word.{Word}
use Rattle.pattern_parser.specs.declared.item.Item.{Item}
use Rattle.pattern_parser.specs.Items.{items_after, names_after}
use Rattle.pattern_parser.specs.Prefixes.{or_else, declares, iri_of}

there : (words rest : List Word) (i : ℕ) (w : Word) → i < length words → w ≡ get_or words i w → rest ≡ drop (i + 1) words → drop i words ≡ w ∷ rest
there words rest i w h e f =
    let cons : drop i words ≡ get_or words i w ∷ drop (suc i) words = drop-cons words i w h in
    let next : suc i ≡ i + 1 = omega arith in
    cons ∙ ap (λ (k : ℕ). get_or words i w ∷ drop k words) next ∙ ap (λ (l : List Word). get_or words i w ∷ l) (sym f) ∙ ap (λ (v : Word). v ∷ rest) (sym e)

pub step_items : (iri : List ℕ → Option (List ℕ)) (names new : List (List ℕ)) (skip n i : ℕ) (words rest : List Word) (w : Word) (old items all : List Item) → i < length words → w ≡ get_or words i w → rest ≡ drop (i + 1) words → items ++ items_after iri new n rest ≡ old ++ items_after iri names skip (w ∷ rest) → old ++ items_after iri names skip (drop i words) ≡ all → items ++ items_after iri new n (drop (i + 1) words) ≡ all
step_items iri names new skip n i words rest w old items all h e f g a =
    ap (λ (l : List Word). items ++ items_after iri new n l) (sym f) ∙ g ∙ ap (λ (l : List Word). old ++ items_after iri names skip l) (sym (there words rest i w h e f)) ∙ a

pub step_names : (names new all : List (List ℕ)) (skip n i : ℕ) (words rest : List Word) (w : Word) → i < length words → w ≡ get_or words i w → rest ≡ drop (i + 1) words → names_after new n rest ≡ names_after names skip (w ∷ rest) → names_after names skip (drop i words) ≡ all → names_after new n (drop (i + 1) words) ≡ all
step_names names new all skip n i words rest w h e f g a =
    ap (λ (l : List Word). names_after new n l) (sym f) ∙ g ∙ ap (λ (l : List Word). names_after names skip l) (sym (there words rest i w h e f)) ∙ a

or_else_then : (a b c : Option (List ℕ)) → or_else (or_else a b) c ≡ or_else a (or_else b c)
or_else_then None b c = refl
or_else_then (Some t) b c = refl

pub step_prefixes : (words rest : List Word) (i : ℕ) (w : Word) (q : List ℕ) (old new all : Option (List ℕ)) → i < length words → w ≡ get_or words i w → rest ≡ drop (i + 1) words → new ≡ or_else (declares w.value rest q) old → or_else (iri_of (drop i words) q) old ≡ all → or_else (iri_of (drop (i + 1) words) q) new ≡ all
step_prefixes words rest i w q old new all h e f g a =
    ap (λ (l : List Word). or_else (iri_of l q) new) (sym f) ∙ ap (or_else (iri_of rest q)) g ∙ sym (or_else_then (iri_of rest q) (declares w.value rest q) old) ∙
    ap (λ (l : List Word). or_else (iri_of l q) old) (sym (there words rest i w h e f)) ∙ a
