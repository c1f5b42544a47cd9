-- The least count, by its first element.
use Rattle.std.proofs.Common.{ℕ, suc, ◌≡◌, ◌+◌, ◌-◌, ◌≤◌, Bool, true, false, nat_le, List, [], ◌∷◌, length, map, take, drop, get_or, refl, ap, sym, subst, ◌∙◌, arith}
use Rattle.std.specs.List.{list_all}
use Rattle.std.proofs.lemmas.List.{take_rest}
use Rattle.join_core.specs.declared.first.First.{First}
use Rattle.request_plan.specs.Plans.{least}
use Rattle.join_core.specs.Nodes.{count_of}

pub least-here : (fs : List First) (f : First) (n : ℕ) (b : Bool) → 1 ≤ length fs → f ≡ get_or fs 0 f → n ≡ count_of f → b ≡ list_all (λ m. nat_le n m) (map count_of (drop 1 fs)) → b ≡ true → 0 ≡ least (map count_of fs)
least-here [] f n b h e i k t = absurd (omega arith)
least-here (x ∷ xs) f n b h e i k t =
    let at : n ≡ count_of x = i ∙ ap count_of e in
    let is : list_all (λ m. nat_le (count_of x) m) (map count_of xs) ≡ true = subst (λ (y : ℕ). list_all (λ m. nat_le y m) (map count_of xs) ≡ true) at (sym k ∙ t) in
    rw is refl

pub least-later : (fs : List First) (f : First) (n : ℕ) (b : Bool) (r : ℕ) → 1 ≤ length fs → f ≡ get_or fs 0 f → n ≡ count_of f → b ≡ list_all (λ m. nat_le n m) (map count_of (drop 1 fs)) → b ≡ false → r ≡ least (map count_of (drop 1 fs)) → 1 + r ≡ least (map count_of fs)
least-later [] f n b r h e i k t s = absurd (omega arith)
least-later (x ∷ xs) f n b r h e i k t s =
    let at : n ≡ count_of x = i ∙ ap count_of e in
    let is : list_all (λ m. nat_le (count_of x) m) (map count_of xs) ≡ false = subst (λ (y : ℕ). list_all (λ m. nat_le y m) (map count_of xs) ≡ false) at (sym k ∙ t) in
    let one : 1 + r ≡ suc r = omega arith in
    rw is (one ∙ ap suc s)

pub least-here-in : (fs : List First) (f : First) (n : ℕ) (b : Bool) → 1 ≤ length fs → f ≡ get_or fs 0 f → n ≡ count_of f → b ≡ list_all (λ m. nat_le n m) (map count_of (take (length fs - 1) (drop 1 fs))) → b ≡ true → 0 ≡ least (map count_of fs)
least-here-in fs f n b h e i k t = least-here fs f n b h e i (subst (λ (xs : List First). b ≡ list_all (λ m. nat_le n m) (map count_of xs)) (take_rest fs 1) k) t

pub least-later-in : (fs : List First) (f : First) (n : ℕ) (b : Bool) (r : ℕ) → 1 ≤ length fs → f ≡ get_or fs 0 f → n ≡ count_of f → b ≡ list_all (λ m. nat_le n m) (map count_of (take (length fs - 1) (drop 1 fs))) → b ≡ false → r ≡ least (map count_of (take (length fs - 1) (drop 1 fs))) → 1 + r ≡ least (map count_of fs)
least-later-in fs f n b r h e i k t s = least-later fs f n b r h e i (subst (λ (xs : List First). b ≡ list_all (λ m. nat_le n m) (map count_of xs)) (take_rest fs 1) k) t (subst (λ (xs : List First). r ≡ least (map count_of xs)) (take_rest fs 1) s)
