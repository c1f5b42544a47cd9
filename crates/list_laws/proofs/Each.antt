-- What holds of each element of a list, element by element: of its parts, of lists put together, and of its images.
use Rattle.std.proofs.Common.{ℕ, zero, suc, ◌≡◌, ◌<◌, Bool, true, false, cond, if◌then◌else◌, List, [], ◌∷◌, ◌++◌, length, get_or, map, refl, sym, subst, arith}
use Rattle.std.specs.List.{AllByRecursion, filter, flat_map, list_all}
use Rattle.std.proofs.lemmas.Bool.{and_parts, and_from}

-- ---- another fact

-- what follows from it
pub all_so : {X : Type 0} (P Q : X → Type 0) → ((x : X) → P x → Q x) → (xs : List X) → AllByRecursion P xs → AllByRecursion Q xs
all_so P Q w [] h = tt
all_so P Q w (x ∷ xs) h = (w x h.0, all_so P Q w xs h.1)

-- what follows from two
pub all_both : {X : Type 0} (P S Q : X → Type 0) → ((x : X) → P x → S x → Q x) → (xs : List X) → AllByRecursion P xs → AllByRecursion S xs → AllByRecursion Q xs
all_both P S Q w [] h k = tt
all_both P S Q w (x ∷ xs) h k = (w x h.0 k.0, all_both P S Q w xs h.1 k.1)

-- what holds of every value
pub all_always : {X : Type 0} (P : X → Type 0) → ((x : X) → P x) → (xs : List X) → AllByRecursion P xs
all_always P w [] = tt
all_always P w (x ∷ xs) = (w x, all_always P w xs)

-- ---- two lists, and the parts of one

pub all_append : {X : Type 0} (P : X → Type 0) (xs ys : List X) → AllByRecursion P xs → AllByRecursion P ys → AllByRecursion P (xs ++ ys)
all_append P [] ys h k = k
all_append P (x ∷ xs) ys h k = (h.0, all_append P xs ys h.1 k)

pub all_front : {X : Type 0} (P : X → Type 0) (xs ys : List X) → AllByRecursion P (xs ++ ys) → AllByRecursion P xs
all_front P [] ys h = tt
all_front P (x ∷ xs) ys h = (h.0, all_front P xs ys h.1)

pub all_back : {X : Type 0} (P : X → Type 0) (xs ys : List X) → AllByRecursion P (xs ++ ys) → AllByRecursion P ys
all_back P [] ys h = h
all_back P (x ∷ xs) ys h = all_back P xs ys h.1

-- one more element
pub all_more : {X : Type 0} (P : X → Type 0) (xs : List X) (x : X) → AllByRecursion P xs → P x → AllByRecursion P (xs ++ x ∷ [])
all_more P xs x h k = all_append P xs (x ∷ []) h (k, tt)

pub all_last : {X : Type 0} (P : X → Type 0) (xs : List X) (x : X) → AllByRecursion P (xs ++ x ∷ []) → P x
all_last P xs x h = (all_back P xs (x ∷ []) h).0

-- one element or none
pub all_if : {X : Type 0} (P : X → Type 0) (b : Bool) (x : X) → P x → AllByRecursion P (if b then x ∷ [] else [])
all_if P true x h = (h, tt)
all_if P false x h = tt

-- the element at a place
pub every_at : {X : Type 0} (P : X → Type 0) (xs : List X) (i : ℕ) (x : X) → AllByRecursion P xs → i < length xs → x ≡ get_or xs i x → P x
every_at P [] i x h l e = absurd (omega arith)
every_at P (y ∷ ys) zero x h l e = subst P (sym e) h.0
every_at P (y ∷ ys) (suc i) x h l e = every_at P ys i x h.1 (omega arith) e

-- ---- images

pub all_map : {X Y : Type 0} (f : X → Y) (P : Y → Type 0) (xs : List X) → AllByRecursion (λ x. P (f x)) xs → AllByRecursion P (map f xs)
all_map f P [] h = tt
all_map f P (x ∷ xs) h = (h.0, all_map f P xs h.1)

pub all_unmap : {X Y : Type 0} (f : X → Y) (P : Y → Type 0) (xs : List X) → AllByRecursion P (map f xs) → AllByRecursion (λ x. P (f x)) xs
all_unmap f P [] h = tt
all_unmap f P (x ∷ xs) h = (h.0, all_unmap f P xs h.1)

-- of an image, from two facts of the elements
pub all_on : {X Y : Type 0} (f : X → Y) (Q : Y → Type 0) (P S : X → Type 0) → ((x : X) → P x → S x → Q (f x)) → (xs : List X) → AllByRecursion P xs → AllByRecursion S xs → AllByRecursion Q (map f xs)
all_on f Q P S w [] p s = tt
all_on f Q P S w (x ∷ xs) p s = (w x p.0 s.0, all_on f Q P S w xs p.1 s.1)

pub all_flat_map : {X Y : Type 0} (f : X → List Y) (P : X → Type 0) (Q : Y → Type 0) → ((x : X) → P x → AllByRecursion Q (f x)) → (xs : List X) → AllByRecursion P xs → AllByRecursion Q (flat_map f xs)
all_flat_map f P Q w [] h = tt
all_flat_map f P Q w (x ∷ xs) h = all_append Q (f x) (flat_map f xs) (w x h.0) (all_flat_map f P Q w xs h.1)

-- ---- a test

pub all_of_test : {X : Type 0} (p : X → Bool) (xs : List X) → list_all p xs ≡ true → AllByRecursion (λ x. p x ≡ true) xs
all_of_test p [] h = tt
all_of_test p (x ∷ xs) h = let parts = and_parts (p x) (list_all p xs) h in (parts.0, all_of_test p xs parts.1)

pub test_of_all : {X : Type 0} (p : X → Bool) (xs : List X) → AllByRecursion (λ x. p x ≡ true) xs → list_all p xs ≡ true
test_of_all p [] h = refl
test_of_all p (x ∷ xs) h = and_from (p x) (list_all p xs) h.0 (test_of_all p xs h.1)

-- of two lists together
pub all_joined : {X : Type 0} (p : X → Bool) (a b : List X) → list_all p a ≡ true → list_all p b ≡ true → list_all p (a ++ b) ≡ true
all_joined p [] b first second = second
all_joined p (x ∷ a) b first second =
    let parts = and_parts (p x) (list_all p a) first in
    and_from (p x) (list_all p (a ++ b)) parts.0 (all_joined p a b parts.1 second)

kept_too : {X : Type 0} (P : X → Type 0) (b : Bool) (x : X) (xs : List X) → P x → AllByRecursion P xs → AllByRecursion P (cond b (x ∷ xs) xs)
kept_too P true x xs h k = (h, k)
kept_too P false x xs h k = k

pub all_filter : {X : Type 0} (P : X → Type 0) (p : X → Bool) (xs : List X) → AllByRecursion P xs → AllByRecursion P (filter p xs)
all_filter P p [] h = tt
all_filter P p (x ∷ xs) h = kept_too P (p x) x (filter p xs) h.0 (all_filter P p xs h.1)

passed_too : {X : Type 0} (p : X → Bool) (b : Bool) (x : X) (xs : List X) → p x ≡ b → AllByRecursion (λ y. p y ≡ true) xs → AllByRecursion (λ y. p y ≡ true) (cond b (x ∷ xs) xs)
passed_too p true x xs e k = (e, k)
passed_too p false x xs e k = k

-- what a filter keeps passes its test
pub all_passed : {X : Type 0} (p : X → Bool) (xs : List X) → AllByRecursion (λ x. p x ≡ true) (filter p xs)
all_passed p [] = tt
all_passed p (x ∷ xs) = passed_too p (p x) x (filter p xs) refl (all_passed p xs)
