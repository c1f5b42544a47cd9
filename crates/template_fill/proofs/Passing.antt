-- Lists whose elements all pass a test.
use Rattle.std.proofs.Common.{◌≡◌, ℕ, ◌+◌, ◌<◌, List, [], ◌∷◌, Bool, true, false, cond, length, take, get_or, refl, arith, one-add}
use Rattle.std.specs.List.{list_all, prefix_len}
use Rattle.std.proofs.lemmas.List.Folds.{list_all_at}
use Rattle.std.proofs.lemmas.Grind.{common_steps}

-- the longest front that passes does
pub list_all-front : {X : Type 0} (p : X → Bool) (xs : List X) → list_all p (take (prefix_len p xs) xs) ≡ true
list_all-front p [] = refl
list_all-front {X} p (x ∷ xs) =
    let go : (b : Bool) → p x ≡ b → list_all p (take (cond b (1 + prefix_len p xs) 0) (x ∷ xs)) ≡ true =
    λ b. elim b as (λ v. p x ≡ v → list_all p (take (cond v (1 + prefix_len p xs) 0) (x ∷ xs)) ≡ true) [
      | true ↦ λ yes. rw (one-add (prefix_len p xs), yes) (list_all-front p xs)
      | false ↦ λ _. refl
    ] in
    go (p x) refl

-- the element at an index passes
pub list_all-get : {X : Type 0} (p : X → Bool) (xs : List X) (i : ℕ) (d : X) → list_all p xs ≡ true → i < length xs → p (get_or xs i d) ≡ true
list_all-get p xs i d all within =
    let go : (b : Bool) → p (get_or xs i d) ≡ b → b ≡ true =
    λ b. elim b as (λ v. p (get_or xs i d) ≡ v → v ≡ true) [
      | true ↦ λ _. refl
      | false ↦ λ no. let none = list_all_at p xs i d within no in cc
    ] in
    go (p (get_or xs i d)) refl

-- what passes a test passes a wider one
pub list_all-wider : {X : Type 0} (p q : X → Bool) → ((x : X) → p x ≡ true → q x ≡ true) → (xs : List X) → list_all p xs ≡ true → list_all q xs ≡ true
list_all-wider p q wider [] all = refl
list_all-wider p q wider (x ∷ xs) all = grind (arith, common_steps, wider x, list_all-wider p q wider xs)

pub list_all-cut : {X : Type 0} (p : X → Bool) (xs ys : List X) (n : ℕ) → ys ≡ take n xs → n ≡ prefix_len p xs → list_all p ys ≡ true
list_all-cut p xs ys n cut len = rw (cut, len) (list_all-front p xs)
