-- What stands between two places of a list.
use Rattle.std.proofs.Common.{ℕ, zero, suc, ◌≡◌, ◌+◌, ◌-◌, ◌<◌, ◌≤◌, List, [], ◌∷◌, refl, sym, subst, ◌∙◌, length, get_or, take, drop, arith}
use Rattle.std.specs.List.{Contains}
use Rattle.std.proofs.lemmas.List.{get_or-drop, get_or-take, length-drop, length-take, length-take-le}

pub in_between : {X : Type 0} (xs : List X) (from to : ℕ) (x : X) → to ≤ length xs → Contains (take (to - from) (drop from xs)) x → (j : ℕ) × (from ≤ j) × (j < to) × (get_or xs j x ≡ x)
in_between xs from to x w h =
    let k = h.0 in let l = h.1 in
    let short : length (take (to - from) (drop from xs)) ≤ to - from = rw (length-take (to - from) (drop from xs)) (omega arith) in
    let inside : k < to - from = omega (arith, l, short) in
    (from + k, omega arith, omega (arith, inside), sym (get_or-take (to - from) (drop from xs) k x inside ∙ get_or-drop from xs k x) ∙ h.2)

pub between : {X : Type 0} (xs : List X) (from to j : ℕ) (x : X) → from ≤ j → j < to → to ≤ length xs → get_or xs j x ≡ x → Contains (take (to - from) (drop from xs)) x
between xs from to j x l m w e =
    let inside : j - from < to - from = omega (arith, l, m) in
    let place : from + (j - from) ≡ j = omega (arith, l) in
    let all : to - from ≤ length (drop from xs) = simp length-drop (omega (arith, w)) in
    (j - from, rw (length-take-le (to - from) (drop from xs) all) inside, get_or-take (to - from) (drop from xs) (j - from) x inside ∙ get_or-drop from xs (j - from) x ∙ subst (λ i. get_or xs i x ≡ x) (sym place) e)

pub between_len : {X : Type 0} (xs : List X) (from to : ℕ) → from ≤ to → to ≤ length xs → length (take (to - from) (drop from xs)) ≡ to - from
between_len xs from to l w = let all : to - from ≤ length (drop from xs) = simp length-drop (omega (arith, l, w)) in length-take-le (to - from) (drop from xs) all

-- inside a list it does not matter what would stand past its end
pub any_default : {X : Type 0} (xs : List X) (n : ℕ) (d e : X) → n < length xs → get_or xs n d ≡ get_or xs n e
any_default [] n d e l = absurd (omega arith)
any_default (x ∷ xs) zero d e l = refl
any_default (x ∷ xs) (suc n) d e l = any_default xs n d e (omega arith)
