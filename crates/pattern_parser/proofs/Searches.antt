-- What `position`, `any` and `find` give over tokens is what the definitions say.
use Rattle.std.proofs.Common.{ℕ, suc, ◌≡◌, ◌+◌, ◌≤◌, Bool, true, false, cond, ◌||◌, if◌then◌else◌, List, [], ◌∷◌, Option, Some, refl, sym, ap, subst, ◌∙◌, length, arith}
use Rattle.std.specs.Prelude.{option_map}
use Rattle.std.specs.List.{position, position_or_len, list_any, find}
use Rattle.std.specs.Option.{unwrap_or}
use Rattle.std.proofs.lemmas.List.Recursion.{is_position_or_len}
use Rattle.list_laws.proofs.Options.{place_or_length}
use Rattle.query_words.specs.declared.word.Value.{Value}
use Rattle.query_words.specs.declared.word.Word.{Word}
use Rattle.pattern_parser.specs.Prefixes.{first_at, before}
use Rattle.pattern_parser.specs.Queries.{is_star, has_star}

suc_is : (n : ℕ) → suc n ≡ 1 + n
suc_is n = omega arith

-- the number of tokens before the first that passes is its position, or the length
before_len : (test : Value → Bool) (ws : List Word) → before test ws ≡ position_or_len (λ w. test w.value) ws
before_len test ws =
    is_position_or_len (before test) (λ w. test w.value) refl (λ w vs. ap (λ (n : ℕ). cond (test w.value) 0 n) (suc_is (before test vs))) ws

before_few : (test : Value → Bool) (ws : List Word) → before test ws ≤ length ws
before_few test [] = omega arith
before_few test (w ∷ ws) = pick (test w.value) (before_few test ws)
  where
    pick : (b : Bool) → before test ws ≤ length ws → (if b then 0 else suc (before test ws)) ≤ length (w ∷ ws)
    pick true h = omega arith
    pick false h = omega arith

pub before_is : (test : Value → Bool) (ws : List Word) (o : Option ℕ) (n r : ℕ) → o ≡ position (λ w. test w.value) ws → n ≡ length ws → r ≡ unwrap_or o n → r ≡ before test ws
before_is test ws o n r found all e =
    let p : Word → Bool = λ w. test w.value in
    let few : position_or_len p ws ≤ length ws = subst (λ (k : ℕ). k ≤ length ws) (before_len test ws) (before_few test ws) in
    e ∙ ap (λ (q : Option ℕ). unwrap_or q n) found ∙ ap (λ (m : ℕ). unwrap_or (position p ws) m) all ∙ place_or_length (position_or_len p ws) (length ws) few ∙ sym (before_len test ws)

pub before_within : (test : Value → Bool) (ws : List Word) (r : ℕ) → r ≡ before test ws → r ≤ length ws
before_within test ws r e = let few = before_few test ws in omega arith

pub star_is : (ws : List Word) → list_any (λ w. is_star w.value) ws ≡ has_star ws
star_is [] = refl
star_is (w ∷ ws) = ap (λ (b : Bool). is_star w.value || b) (star_is ws)

pub first_is : (test : Value → Bool) (ws : List Word) → option_map (λ w. w.at) (find (λ w. test w.value) ws) ≡ first_at test ws
first_is test [] = refl
first_is test (w ∷ ws) = pick (test w.value) (first_is test ws)
  where
    pick : (b : Bool) → option_map (λ w. w.at) (find (λ w. test w.value) ws) ≡ first_at test ws → option_map (λ w. w.at) (cond b (Some w) (find (λ w. test w.value) ws)) ≡ (if b then Some w.at else first_at test ws)
    pick true h = refl
    pick false h = h

pub found_at : (test : Value → Bool) (ws : List Word) (o : Option Word) → o ≡ find (λ w. test w.value) ws → option_map (λ w. w.at) o ≡ first_at test ws
found_at test ws o e = ap (option_map (λ (w : Word). w.at)) e ∙ first_is test ws
