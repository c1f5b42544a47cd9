-- The parts of a text that are written.
use Rattle.std.proofs.Common.{◌≡◌, ℕ, zero, suc, ◌+◌, ◌-◌, ◌<◌, ◌≤◌, min, Bool, true, false, List, [], ◌∷◌, ◌++◌, length, take, drop, refl, sym, ap, ap₂, ◌∙◌, arith, append_assoc, append-nil, length-append, length-drop}
use Rattle.std.specs.Prelude.{nat_lt, ◌||◌}
use Rattle.std.proofs.lemmas.Bool.{le-ltb, lt-ltb}
use Rattle.std.proofs.lemmas.Bool.Decides.{nat_tests}
use Rattle.std.proofs.lemmas.Grind.{common_steps}
use Rattle.hydra_controls.specs.declared.cut.Cut.{Cut}
use Rattle.hydra_controls.specs.Cuts.{Cuts, cut_behind, cut_of}

-- ---- one part

or_more : (a b : Bool) → b ≡ false → a ≡ (a || b)
or_more true b none = refl
or_more false b none = sym none

or_some : (a b : Bool) → b ≡ true → true ≡ (a || b)
or_some true b some = refl
or_some false b some = sym some

-- all of a part is passed over
pub behind_all : (cut : Cut) (n : ℕ) → n ≤ cut.skip → record cut { skip = cut.skip - n } ≡ cut_behind cut n
behind_all cut n h =
    let none : n - cut.skip ≡ 0 = omega arith in
    let room : cut.room ≡ cut.room - (n - cut.skip) = omega arith in
    let more : cut.more ≡ (cut.more || nat_lt cut.room (n - cut.skip)) = or_more cut.more (nat_lt cut.room (n - cut.skip)) (le-ltb cut.room (n - cut.skip) (omega arith)) in
    λ i. record { skip = cut.skip - n; room = room i; more = more i }

-- there is no room for all of it
pub behind_some : (cut : Cut) (n : ℕ) → cut.skip < n → cut.room < n - cut.skip → record { skip = 0; room = 0; more = true } ≡ cut_behind cut n
behind_some cut n h short =
    let skip : 0 ≡ cut.skip - n = omega arith in
    let room : 0 ≡ cut.room - (n - cut.skip) = omega arith in
    let more : true ≡ (cut.more || nat_lt cut.room (n - cut.skip)) = or_some cut.more (nat_lt cut.room (n - cut.skip)) (lt-ltb cut.room (n - cut.skip) short) in
    λ i. record { skip = skip i; room = room i; more = more i }

-- there is
pub behind_rest : (cut : Cut) (n : ℕ) → cut.skip < n → n - cut.skip ≤ cut.room → record { skip = 0; room = cut.room - (n - cut.skip); more = cut.more } ≡ cut_behind cut n
behind_rest cut n h fits =
    let skip : 0 ≡ cut.skip - n = omega arith in
    let more : cut.more ≡ (cut.more || nat_lt cut.room (n - cut.skip)) = or_more cut.more (nat_lt cut.room (n - cut.skip)) (le-ltb cut.room (n - cut.skip) fits) in
    λ i. record { skip = skip i; room = cut.room - (n - cut.skip); more = more i }

taken_all : {A : Type 0} (n : ℕ) (xs : List A) → take (min n (length xs)) xs ≡ take n xs
taken_all zero [] = refl
taken_all (suc n) [] = let e : min (suc n) 0 ≡ 0 = omega arith in ap (λ (k : ℕ). take k []) e
taken_all zero (x ∷ xs) = let e : min 0 (suc (length xs)) ≡ 0 = omega arith in ap (λ (k : ℕ). take k (x ∷ xs)) e
taken_all {A} (suc n) (x ∷ xs) =
    let e : min (suc n) (suc (length xs)) ≡ suc (min n (length xs)) = omega arith in
    ap (λ (k : ℕ). take k (x ∷ xs)) e ∙ ap (λ (l : List A). x ∷ l) (taken_all n xs)

dropped_all : {A : Type 0} (n : ℕ) (xs : List A) → drop (min n (length xs)) xs ≡ drop n xs
dropped_all zero [] = refl
dropped_all (suc n) [] = let e : min (suc n) 0 ≡ 0 = omega arith in ap (λ (k : ℕ). drop k []) e
dropped_all zero (x ∷ xs) = let e : min 0 (suc (length xs)) ≡ 0 = omega arith in ap (λ (k : ℕ). drop k (x ∷ xs)) e
dropped_all (suc n) (x ∷ xs) =
    let e : min (suc n) (suc (length xs)) ≡ suc (min n (length xs)) = omega arith in
    ap (λ (k : ℕ). drop k (x ∷ xs)) e ∙ dropped_all n xs

-- the bytes between the two places
pub between : {A : Type 0} (cut : Cut) (xs : List A) (from to : ℕ) → from ≡ min cut.skip (length xs) → to - from ≡ min cut.room (length xs - cut.skip) → take (to - from) (drop from xs) ≡ cut_of cut xs
between {A} cut xs from to begins ends =
    ap₂ (λ (n : ℕ) (l : List A). take n l) ends (ap (λ (n : ℕ). drop n xs) begins ∙ dropped_all cut.skip xs)
    ∙ ap (λ (n : ℕ). take (min cut.room n) (drop cut.skip xs)) (sym (length-drop cut.skip xs))
    ∙ taken_all cut.room (drop cut.skip xs)

-- ---- part by part

dropped_append : {A : Type 0} (n : ℕ) (xs ys : List A) → drop n (xs ++ ys) ≡ drop n xs ++ drop (n - length xs) ys
dropped_append zero xs ys = let e : 0 - length xs ≡ 0 = omega arith in ap (λ (n : ℕ). xs ++ drop n ys) (sym e)
dropped_append (suc n) [] ys = let e : suc n - 0 ≡ suc n = omega arith in ap (λ (k : ℕ). drop k ys) (sym e)
dropped_append (suc n) (x ∷ xs) ys = let e : suc n - suc (length xs) ≡ n - length xs = omega arith in dropped_append n xs ys ∙ ap (λ (k : ℕ). drop n xs ++ drop k ys) (sym e)

taken_append : {A : Type 0} (n : ℕ) (xs ys : List A) → take n (xs ++ ys) ≡ take n xs ++ take (n - length xs) ys
taken_append zero xs ys = let e : 0 - length xs ≡ 0 = omega arith in ap (λ (n : ℕ). take n ys) (sym e)
taken_append (suc n) [] ys = let e : suc n - 0 ≡ suc n = omega arith in ap (λ (k : ℕ). take k ys) (sym e)
taken_append {A} (suc n) (x ∷ xs) ys =
    let e : suc n - suc (length xs) ≡ n - length xs = omega arith in
    ap (λ (l : List A). x ∷ l) (taken_append n xs ys) ∙ ap (λ (k : ℕ). x ∷ take n xs ++ take k ys) (sym e)

pub cut_append : {A : Type 0} (cut : Cut) (xs ys : List A) → cut_of cut (xs ++ ys) ≡ cut_of cut xs ++ cut_of (cut_behind cut (length xs)) ys
cut_append {A} cut xs ys =
    ap (take cut.room) (dropped_append cut.skip xs ys)
    ∙ taken_append cut.room (drop cut.skip xs) (drop (cut.skip - length xs) ys)
    ∙ ap (λ (n : ℕ). cut_of cut xs ++ take (cut.room - n) (drop (cut.skip - length xs) ys)) (length-drop cut.skip xs)

or_assoc : (a b c : Bool) → (a || (b || c)) ≡ ((a || b) || c)
or_assoc true b c = refl
or_assoc false b c = refl

below_either : (r a b : ℕ) → nat_lt r (a + b) ≡ (nat_lt r a || nat_lt (r - a) b)
below_either r a b = grind (arith, nat_tests, common_steps)

pub behind_append : (cut : Cut) (n m : ℕ) → cut_behind cut (n + m) ≡ cut_behind (cut_behind cut n) m
behind_append cut n m =
    let skip : cut.skip - (n + m) ≡ (cut.skip - n) - m = omega arith in
    let room : cut.room - ((n + m) - cut.skip) ≡ (cut.room - (n - cut.skip)) - (m - (cut.skip - n)) = omega arith in
    let sum : (n + m) - cut.skip ≡ (n - cut.skip) + (m - (cut.skip - n)) = omega arith in
    let more : (cut.more || nat_lt cut.room ((n + m) - cut.skip)) ≡ ((cut.more || nat_lt cut.room (n - cut.skip)) || nat_lt (cut.room - (n - cut.skip)) (m - (cut.skip - n))) =
    ap (λ (k : ℕ). cut.more || nat_lt cut.room k) sum ∙ ap (λ (b : Bool). cut.more || b) (below_either cut.room (n - cut.skip) (m - (cut.skip - n)))
    ∙ or_assoc cut.more (nat_lt cut.room (n - cut.skip)) (nat_lt (cut.room - (n - cut.skip)) (m - (cut.skip - n))) in
    λ i. record { skip = skip i; room = room i; more = more i }

-- one text and then another
pub cuts_then : (a b d : Cut) (first second old mid new : List ℕ) → Cuts a b first old mid → Cuts b d second mid new → Cuts a d (first ++ second) old new
cuts_then a b d first second old mid new h k = record {
  behind =
      k.behind ∙ ap (λ (x : Cut). cut_behind x (length second)) h.behind
      ∙ sym (ap (cut_behind a) (length-append first second) ∙ behind_append a (length first) (length second));
  appended =
      k.appended ∙ ap (λ (l : List ℕ). l ++ cut_of b second) h.appended
      ∙ append_assoc old (cut_of a first) (cut_of b second)
      ∙ ap (λ (x : Cut). old ++ (cut_of a first ++ cut_of x second)) h.behind
      ∙ ap (λ (l : List ℕ). old ++ l) (sym (cut_append a first second));
}

pub nothing_left : {A : Type 0} (room skip : ℕ) → take {A = A} room (drop {A = A} skip []) ≡ []
nothing_left zero zero = refl
nothing_left zero (suc skip) = refl
nothing_left (suc room) zero = refl
nothing_left (suc room) (suc skip) = refl

-- nothing
pub cuts_nothing : (a : Cut) (old : List ℕ) → Cuts a a [] old old
cuts_nothing a old = record {
  behind = (let e : a.skip ≡ a.skip - 0 = omega arith in λ i. record a { skip = e i }) ∙ behind_all a 0 (omega arith);
  appended = sym (ap (λ (l : List ℕ). old ++ l) (nothing_left a.room a.skip) ∙ append-nil old);
}

pub cuts_same : (a b : Cut) (text other old new : List ℕ) → text ≡ other → Cuts a b text old new → Cuts a b other old new
cuts_same a b text other old new same h = record { behind = h.behind ∙ ap (λ (l : List ℕ). cut_behind a (length l)) same; appended = h.appended ∙ ap (λ (l : List ℕ). old ++ cut_of a l) same }
