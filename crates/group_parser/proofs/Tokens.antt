-- One token of the walk over a group.
use Rattle.std.proofs.Common.{ℕ, ◌≡◌, ◌+◌, ◌-◌, ◌<◌, ◌≤◌, Bool, true, if◌then◌else◌, List, [], ◌∷◌, ◌++◌, Option, sym, ap, ◌∙◌, take, drop, length, get_or, arith}
use Rattle.std.proofs.lemmas.List.{drop_all}
use Rattle.query_words.specs.declared.word.Word.{Word}
use Rattle.pattern_parser.specs.Items.{names_after}
use Rattle.group_faults.specs.Signs.{sign_of, is_other}
use Rattle.group_faults.proofs.Runs.{run_more, at_token}
use Rattle.group_parser.specs.Walks.{Walking, Walked, with_sign, with_run, walked, walked_from, whole_walk, finished, steps_read}

abbrev pub Iri : Type 0
Iri = List ℕ → Option (List ℕ)

-- a token of a run
pub other_walk : (iri : Iri) (names : List (List ℕ)) (w : Walking) (ws : List Word) (from i : ℕ) (t : Word) → from ≤ i → i < length ws → t ≡ get_or ws i t → is_other (sign_of t.value) ≡ true → walked_from iri names w from (i + 1) ws ≡ walked_from iri names w from i ws
other_walk iri names w ws from i t h l e o =
    let run = take (i - from) (drop from ws) in
    let tail = drop (i + 1) ws in
    sym
    (ap (walked iri names w run) (at_token ws i t l e) ∙
    ap (λ (b : Bool). if b then walked iri names w (run ++ t ∷ []) tail else walked iri (names_after names 0 run) (with_sign (sign_of t.value) (with_run iri names run w)) [] tail) o ∙
    ap (λ (r : List Word). walked iri names w r tail) (run_more ws from i t h l e))

-- behind the last token
pub last_walk : (iri : Iri) (names : List (List ℕ)) (w : Walking) (ws : List Word) (from i : ℕ) → length ws ≤ i → walked_from iri names w from i ws ≡ walked iri names w (take (i - from) (drop from ws)) []
last_walk iri names w ws from i h = ap (walked iri names w (take (i - from) (drop from ws))) (drop_all i ws h)

-- the steps of the whole group
pub end_walk : (iri : Iri) (names : List (List ℕ)) (w : Walking) (ws : List Word) (from i : ℕ) (start : List (List ℕ)) (v : Walking) → i ≡ length ws → walked_from iri names w from i ws ≡ whole_walk iri start ws → v ≡ with_run iri names (take (length ws - from) (drop from ws)) w → finished v ≡ steps_read iri start ws
end_walk iri names w ws from i start v e h k =
    ap finished k ∙ ap (λ (n : ℕ). finished (with_run iri names (take (n - from) (drop from ws)) w)) (sym e) ∙
    ap (λ (r : Walked). finished r.at) (sym (last_walk iri names w ws from i (omega (arith, e))) ∙ h)
