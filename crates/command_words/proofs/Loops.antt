-- Arguments that are given to a command one after another.
use Rattle.std.proofs.Common.{ℕ, ◌≡◌, ◌∙◌, sym, ap, ◌+◌, ◌<◌, List, [], ◌∷◌, ◌++◌, map, length, take, get_or, refl, append_assoc}
use Rattle.std.specs.Borrow.{Bor}
use Rattle.std.proofs.lemmas.List.{take_more}
use Rattle.clap.specs.Words.{App, Rule, with_rule}
use Rattle.command_words.specs.Words.{Text}
use Rattle.command_words.specs.Apps.{with_rules}
use Rattle.command_words.specs.Forms.{texts}

map_more : (f : Text → Rule) (xs : List (Bor Text)) (x : Bor Text) → map f (texts (xs ++ x ∷ [])) ≡ map f (texts xs) ++ f x.now ∷ []
map_more f [] x = refl
map_more f (y ∷ xs) x = ap (λ (rs : List Rule). f y.now ∷ rs) (map_more f xs x)

pub more_rules : (f : Text → Rule) (app now after : App) (names : List (Bor Text)) (i : ℕ) (d : Bor Text) → i < length names → now ≡ with_rules app (map f (texts (take i names))) → after ≡ with_rule now (f (get_or names i d).now) → after ≡ with_rules app (map f (texts (take (i + 1) names)))
more_rules f app now after names i d within so_far e =
    let one : with_rule (with_rules app (map f (texts (take i names)))) (f (get_or names i d).now) ≡ with_rules app (map f (texts (take i names)) ++ f (get_or names i d).now ∷ []) = ap (λ (rs : List Rule). record app { top = record app.top { rules = rs } }) (append_assoc app.top.rules (map f (texts (take i names))) (f (get_or names i d).now ∷ [])) in
    e ∙ ap (λ (a : App). with_rule a (f (get_or names i d).now)) so_far ∙ one ∙ ap (with_rules app) (sym (ap (λ (xs : List (Bor Text)). map f (texts xs)) (take_more names i d within) ∙ map_more f (take i names) (get_or names i d)))
