-- What the walks over the tokens of groups keep. It serves the reader and the proofs alone.
use Rattle.std.specs.Prelude.{ℕ, ◌≡◌, ◌-◌, take, drop, Bool, true, false, List, ◌∷◌, Option, Some}
use Rattle.query_words.specs.declared.word.Word.{Word}
use Rattle.pattern_parser.specs.Items.{names_after}
use Rattle.group_faults.specs.Signs.{runs_after}
use Rattle.group_faults.specs.Faults.{triples_in, place_at, with_label, at_label, shared_from}

-- the runs from the token at i on, where the run that is begun has the tokens from another on
abbrev pub runs_from : ℕ → ℕ → List Word → List (List Word)
runs_from from i ws = runs_after (take (i - from) (drop from ws)) (drop i ws)

-- Of some runs the pattern with this number has its object at this place, whatever prefixes stand for and whatever names stand before.
abbrev pub IsOver : List (List Word) → ℕ → ℕ → Type 0
IsOver runs left at = (iri : List ℕ → Option (List ℕ)) (names : List (List ℕ)) → place_at left (triples_in iri names runs) ≡ Some at

-- What the pattern with a number is of some runs, that with another number is of others.
abbrev pub GoesOn : List (List Word) → ℕ → List (List Word) → ℕ → Type 0
GoesOn runs left next more = (iri : List ℕ → Option (List ℕ)) (names : List (List ℕ)) → (later : List (List ℕ)) × (place_at more (triples_in iri later next) ≡ place_at left (triples_in iri names runs))

-- The pattern with this number stands in this run, and has its object at this place, whatever runs follow.
abbrev pub IsOverIn : List Word → ℕ → ℕ → Type 0
IsOverIn run left at = (iri : List ℕ → Option (List ℕ)) (names : List (List ℕ)) (runs : List (List Word)) → place_at left (triples_in iri names (run ∷ runs)) ≡ Some at

-- The pattern with a number stands behind this run: it is that with another number of what follows.
abbrev pub GoesBehind : List Word → ℕ → ℕ → Type 0
GoesBehind run left more = (iri : List ℕ → Option (List ℕ)) (names : List (List ℕ)) (runs : List (List Word)) → place_at left (triples_in iri names (run ∷ runs)) ≡ place_at more (triples_in iri (names_after names 0 run) runs)

-- The token is the first label that stands first in another block, whatever follows.
abbrev pub IsShared : (List ℕ → Option ℕ) → ℕ → Word → Type 0
IsShared first n w = (rest : List Word) → shared_from first n (w ∷ rest) ≡ Some w.at

-- The token is no such label: what is found from it on is found behind it, with what is known and the number of the block there.
abbrev pub Passes : (List ℕ → Option ℕ) → ℕ → Word → (List ℕ → Option ℕ) → ℕ → Type 0
Passes first n w now m = (rest : List Word) → shared_from now m rest ≡ shared_from first n (w ∷ rest)

-- The label stands first in another block, or it is known from this block or joins it.
abbrev pub Takes : (List ℕ → Option ℕ) → ℕ → List ℕ → Bool → (List ℕ → Option ℕ) → Type 0
Takes first n t true now = (at : ℕ) (new again : Option ℕ) → at_label (first t) n at new again ≡ Some at
Takes first n t false now = (at : ℕ) (f : (List ℕ → Option ℕ) → Option ℕ) → f now ≡ at_label (first t) n at (f (with_label first t n)) (f first)
