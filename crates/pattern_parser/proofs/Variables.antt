-- One step of the numbers of those names that are variables, and of a text that begins with a token.
use Rattle.std.proofs.Common.{ℕ, ◌≡◌, ◌+◌, ◌-◌, ◌<◌, ◌≤◌, Bool, true, false, if◌then◌else◌, List, [], ◌∷◌, ◌++◌, sym, ap, ◌∙◌, length, arith, get_or, take, drop, append_assoc}
use Rattle.std.proofs.lemmas.List.{drop_more, take_all}
use Rattle.query_words.specs.declared.word.Word.{Word}
use Rattle.pattern_parser.specs.Names.{is_blank_name, variable_numbers}

opened : (names : List (List ℕ)) (i : ℕ) (t : List ℕ) (b : Bool) → i < length names → t ≡ get_or names i t → is_blank_name t ≡ b → variable_numbers i (drop i names) ≡ (if b then variable_numbers (i + 1) (drop (i + 1) names) else i ∷ variable_numbers (i + 1) (drop (i + 1) names))
opened names i t b below at is =
    let rest : List ℕ = variable_numbers (i + 1) (drop (i + 1) names) in
    ap (variable_numbers i) (drop_more names i t below ∙ ap (λ (x : List ℕ). x ∷ drop (i + 1) names) (sym at)) ∙ ap (λ (x : Bool). if x then rest else i ∷ rest) is

pub step_blank : (names : List (List ℕ)) (i : ℕ) (t : List ℕ) (old all : List ℕ) → i < length names → t ≡ get_or names i t → is_blank_name t ≡ true → old ++ variable_numbers i (drop i names) ≡ all → old ++ variable_numbers (i + 1) (drop (i + 1) names) ≡ all
step_blank names i t old all below at is h = ap (λ (l : List ℕ). old ++ l) (sym (opened names i t true below at is)) ∙ h

pub step_variable : (names : List (List ℕ)) (i : ℕ) (t : List ℕ) (old new all : List ℕ) → i < length names → t ≡ get_or names i t → is_blank_name t ≡ false → new ≡ old ++ i ∷ [] → old ++ variable_numbers i (drop i names) ≡ all → new ++ variable_numbers (i + 1) (drop (i + 1) names) ≡ all
step_variable names i t old new all below at is more h =
    let rest : List ℕ = variable_numbers (i + 1) (drop (i + 1) names) in
    ap (λ (l : List ℕ). l ++ rest) more ∙ append_assoc old (i ∷ []) rest ∙ ap (λ (l : List ℕ). old ++ l) (sym (opened names i t false below at is)) ∙ h

pub first_then : (words : List Word) (w : Word) → 1 ≤ length words → w ≡ get_or words 0 w → w ∷ take (length words - 1) (drop 1 words) ≡ words
first_then [] w h e = absurd (omega (arith, h))
first_then (x ∷ xs) w h e = λ k. e k ∷ take_all (length (x ∷ xs) - 1) xs (omega arith) k
