-- Lists put together, element by element, their lengths, and what stands at a place.
use Rattle.std.proofs.Common.{ℕ, suc, ◌≡◌, ◌+◌, ◌<◌, ◌≤◌, ◌==◌, Bool, true, false, ◌&&◌, ◌||◌, cond, if◌then◌else◌, List, [], ◌∷◌, ◌++◌, Some, length, get_or, slice_get, take, drop, map, refl, ap, sym, subst, ◌∙◌, append_assoc, arith}
use Rattle.std.specs.List.{count_by, filter, list_any, AllZip}
use Rattle.std.proofs.lemmas.Bool.{and_parts}
use Rattle.std.proofs.lemmas.Bool.Decides.{nat_tests}
use Rattle.std.proofs.lemmas.List.{map-append, take_at}
use Rattle.std.proofs.lemmas.Option.{slice_get-get_or}
use Rattle.std.proofs.lemmas.List.Folds.{list_any-append}
use Rattle.std.proofs.lemmas.List.Sums.{sum_by-cons, sum_by-append}

pub cons_same : {X : Type 0} (x y : X) (xs ys : List X) → x ≡ y → xs ≡ ys → x ∷ xs ≡ y ∷ ys
cons_same x y xs ys e f = ap (λ z. z ∷ xs) e ∙ ap (λ zs. y ∷ zs) f

pub tails : {X : Type 0} (j k : X) (u v : List X) → j ∷ u ≡ k ∷ v → u ≡ v
tails j k u v e = cc

-- one more element behind a list

-- it may as well begin what stands behind
pub snoc_append : {X : Type 0} (xs : List X) (x : X) (ys : List X) → (xs ++ x ∷ []) ++ ys ≡ xs ++ x ∷ ys
snoc_append xs x ys = append_assoc xs (x ∷ []) ys

pub map_snoc : {X Y : Type 0} (f : X → Y) (xs : List X) (x : X) → map f (xs ++ x ∷ []) ≡ map f xs ++ f x ∷ []
map_snoc f xs x = map-append f xs (x ∷ [])

or_false : (a b : Bool) → (a || (b || false)) ≡ (b || a)
or_false true true = refl
or_false true false = refl
or_false false true = refl
or_false false false = refl

pub any_snoc : {X : Type 0} (p : X → Bool) (xs : List X) (x : X) → list_any p (xs ++ x ∷ []) ≡ (p x || list_any p xs)
any_snoc p xs x = list_any-append p xs (x ∷ []) ∙ or_false (list_any p xs) (p x)

-- how many pass a test

pub count_cons : {X : Type 0} (p : X → Bool) (x : X) (xs : List X) → count_by p (x ∷ xs) ≡ cond (p x) 1 0 + count_by p xs
count_cons {X} p x xs = sum_by-cons (λ (y : X). cond (p y) 1 0) x xs

pub count_append : {X : Type 0} (p : X → Bool) (xs ys : List X) → count_by p (xs ++ ys) ≡ count_by p xs + count_by p ys
count_append {X} p xs ys = sum_by-append (λ (y : X). cond (p y) 1 0) xs ys

pub count_snoc : {X : Type 0} (p : X → Bool) (xs : List X) (x : X) → count_by p (xs ++ x ∷ []) ≡ count_by p xs + cond (p x) 1 0
count_snoc p xs x = let e : count_by p (x ∷ []) ≡ cond (p x) 1 0 + count_by p [] = count_cons p x [] in omega (arith, count_append p xs (x ∷ []), e)

-- ---- lengths

pub filter_length : {X : Type 0} (test : X → Bool) (xs : List X) → length (filter test xs) ≤ length xs
filter_length test [] = omega arith
filter_length test (x ∷ xs) = by (test x) (filter_length test xs)
  where
    by : (t : Bool) → length (filter test xs) ≤ length xs → length (if t then x ∷ filter test xs else filter test xs) ≤ suc (length xs)
    by true h = omega (arith, h)
    by false h = omega (arith, h)

pub zip_length : {A B : Type 0} (R : A → B → Type 0) (xs : List A) (ys : List B) → AllZip R xs ys → length xs ≡ length ys
zip_length R [] [] all = refl
zip_length R [] (y ∷ ys) all = absurd all
zip_length R (x ∷ xs) [] all = absurd all
zip_length R (x ∷ xs) (y ∷ ys) all = ap (λ (n : ℕ). suc n) (zip_length R xs ys all.1)

pub some_digits : {X : Type 0} (digits : List X) → 0 < length digits → false ≡ (length digits == 0)
some_digits digits some = grind (arith, nat_tests)

not_zero : (n : ℕ) → (suc n == 0) ≡ true → ⊥
not_zero n h = grind (arith, nat_tests)

pub none_there : {X : Type 0} (xs : List X) (b : Bool) → b ≡ (length xs == 0) → b ≡ true → xs ≡ []
none_there [] b is so = refl
none_there (x ∷ xs) b is so = absurd (not_zero (length xs) (sym is ∙ so))

pub none_wanted : {X : Type 0} (wanted : List X) (b : Bool) → ((length wanted == 0) && b) ≡ true → (wanted ≡ []) × (b ≡ true)
none_wanted [] b e = (refl, e)
none_wanted (x ∷ wanted) b e = absurd (not_zero (length wanted) (and_parts (suc (length wanted) == 0) b e).0)

-- ---- places

pub front_of : {X : Type 0} (xs ys : List X) → take (length xs) (xs ++ ys) ≡ xs
front_of xs ys = take_at xs ys (length xs) refl

-- what stands behind a mark
pub behind_mark : {X : Type 0} (text rest : List X) (mark : X) → drop (length text + 1) (text ++ mark ∷ rest) ≡ rest
behind_mark {X} text rest mark = let more : suc (length text) ≡ length text + 1 = omega arith in subst (λ (k : ℕ). drop k (text ++ mark ∷ rest) ≡ rest) more (behind text)
  where
    behind : (front : List X) → drop (suc (length front)) (front ++ mark ∷ rest) ≡ rest
    behind [] = refl
    behind (x ∷ front) = behind front

pub at_place : {X : Type 0} (xs : List X) (i : ℕ) (x : X) → i < length xs → x ≡ get_or xs i x → slice_get xs i ≡ Some x
at_place xs i x h e = slice_get-get_or xs i x h ∙ ap Some (sym e)
