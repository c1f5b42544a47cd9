-- Two texts with a byte behind each: their own order decides, unless one is a front of the other.
use Rattle.std.proofs.Common.{ℕ, suc, ◌≡◌, ◌<◌, ◌≤◌, Bool, true, false, ◌&&◌, ◌==◌, cond, List, [], ◌∷◌, length, nat_eq, nat_lt, slice_index, refl, ap, sym, ◌∙◌, arith}
use Rattle.std.specs.declared.cmp.Ordering.{Ordering}
use Rattle.std.specs.declared.cmp.Ordering.TheVariants.{Less, Equal, Greater}
use Rattle.std.specs.Ordering.{nat_cmp, ordering_then}
use Rattle.std.specs.Cmp.Lexicographic.{slice_cmp}
use Rattle.std.specs.List.{starts_with}
use Rattle.rdf_terms.specs.Compare.{ended_cmp}
use Rattle.rdf_terms.specs.Fronts.{is_front, byte_behind}

-- bytes that differ decide; of equal ones the rest does
decides : (x y : ℕ) (o p : Ordering) → (x == y) ≡ false → ordering_then (nat_cmp x y) o ≡ ordering_then (nat_cmp x y) p
decides x y o p e = by (nat_lt x y)
  where
    by : (t : Bool) → ordering_then (cond t Less (cond (nat_eq x y) Equal Greater)) o ≡ ordering_then (cond t Less (cond (nat_eq x y) Equal Greater)) p
    by true = refl
    by false = let f : nat_eq x y ≡ false = grind (arith, e) in rw f refl

same_first : (x y : ℕ) (o : Ordering) → (x == y) ≡ true → ordering_then (nat_cmp x y) o ≡ o
same_first x y o e = let less : nat_lt x y ≡ false = grind (arith, e) in let eq : nat_eq x y ≡ true = grind (arith, e) in rw (less, eq) refl

order_step : (t : Bool) (end x y : ℕ) (xs ys : List ℕ) → (x == y) ≡ t
    → (is_front xs ys ≡ false → is_front ys xs ≡ false → ended_cmp end xs ys ≡ slice_cmp nat_cmp xs ys)
    → (t && is_front xs ys) ≡ false → (t && is_front ys xs) ≡ false
    → ordering_then (nat_cmp x y) (ended_cmp end xs ys) ≡ ordering_then (nat_cmp x y) (slice_cmp nat_cmp xs ys)
order_step true end x y xs ys e ih f g = ap (λ (o : Ordering). ordering_then (nat_cmp x y) o) (ih f g)
order_step false end x y xs ys e ih f g = decides x y _ _ e

swapped : (x y : ℕ) → (y == x) ≡ (x == y)
swapped x y = grind arith

pub by_order : (end : ℕ) (xs ys : List ℕ) → is_front xs ys ≡ false → is_front ys xs ≡ false → ended_cmp end xs ys ≡ slice_cmp nat_cmp xs ys
by_order end [] [] f g = refl
by_order end [] (y ∷ ys) f g = cc
by_order end (x ∷ xs) [] f g = cc
by_order end (x ∷ xs) (y ∷ ys) f g = order_step (x == y) end x y xs ys refl (by_order end xs ys) f (ap (λ (b : Bool). b && is_front ys xs) (sym (swapped x y)) ∙ g)

first_step : (t : Bool) (end x y : ℕ) (xs ys : List ℕ) → (x == y) ≡ t
    → (is_front xs ys ≡ true → ended_cmp end xs ys ≡ ordering_then (nat_cmp end (byte_behind xs ys)) Less)
    → (t && is_front xs ys) ≡ true
    → ordering_then (nat_cmp x y) (ended_cmp end xs ys) ≡ ordering_then (nat_cmp end (byte_behind xs ys)) Less
first_step true end x y xs ys e ih f = same_first x y _ e ∙ ih f
first_step false end x y xs ys e ih f = cc

pub by_first : (end : ℕ) (xs ys : List ℕ) → is_front xs ys ≡ true → ended_cmp end xs ys ≡ ordering_then (nat_cmp end (byte_behind xs ys)) Less
by_first end xs [] f = cc
by_first end [] (y ∷ ys) f = refl
by_first end (x ∷ xs) (y ∷ ys) f = first_step (x == y) end x y xs ys refl (by_first end xs ys) f

second_step : (t : Bool) (end x y : ℕ) (xs ys : List ℕ) → (x == y) ≡ t
    → (is_front ys xs ≡ true → ended_cmp end xs ys ≡ ordering_then (nat_cmp (byte_behind ys xs) end) Greater)
    → (t && is_front ys xs) ≡ true
    → ordering_then (nat_cmp x y) (ended_cmp end xs ys) ≡ ordering_then (nat_cmp (byte_behind ys xs) end) Greater
second_step true end x y xs ys e ih f = same_first x y _ e ∙ ih f
second_step false end x y xs ys e ih f = cc

pub by_second : (end : ℕ) (xs ys : List ℕ) → is_front ys xs ≡ true → ended_cmp end xs ys ≡ ordering_then (nat_cmp (byte_behind ys xs) end) Greater
by_second end [] ys f = cc
by_second end (x ∷ xs) [] f = refl
by_second end (x ∷ xs) (y ∷ ys) f = second_step (x == y) end x y xs ys refl (by_second end xs ys) (ap (λ (b : Bool). b && is_front ys xs) (sym (swapped x y)) ∙ f)

swap_and : (p q r : Bool) → (p && (q && r)) ≡ (q && (p && r))
swap_and true true r = refl
swap_and true false r = refl
swap_and false true r = refl
swap_and false false r = refl

suc_less : (m n : ℕ) → nat_lt (suc m) (suc n) ≡ nat_lt m n
suc_less m n = grind arith

zero_less : (n : ℕ) → nat_lt 0 (suc n) ≡ true
zero_less n = grind arith

none_less : (n : ℕ) → nat_lt n 0 ≡ false
none_less n = grind arith

pub front_is : (xs ys : List ℕ) → (nat_lt (length xs) (length ys) && starts_with nat_eq ys xs) ≡ is_front xs ys
front_is [] [] = refl
front_is [] (y ∷ ys) = rw (zero_less (length ys)) refl
front_is (x ∷ xs) [] = rw (none_less (length (x ∷ xs))) refl
front_is (x ∷ xs) (y ∷ ys) =
    ap (λ (b : Bool). b && (nat_eq x y && starts_with nat_eq ys xs)) (suc_less (length xs) (length ys))
    ∙ swap_and (nat_lt (length xs) (length ys)) (nat_eq x y) (starts_with nat_eq ys xs)
    ∙ ap (λ (b : Bool). nat_eq x y && b) (front_is xs ys)

pub front_short : (xs ys : List ℕ) → length xs < length ys → starts_with nat_eq ys xs ≡ is_front xs ys
front_short xs ys h = let e : nat_lt (length xs) (length ys) ≡ true = grind (arith, h) in sym (ap (λ (b : Bool). b && starts_with nat_eq ys xs) e) ∙ front_is xs ys

pub front_long : (xs ys : List ℕ) → length ys ≤ length xs → is_front xs ys ≡ false
front_long xs ys h = let e : nat_lt (length xs) (length ys) ≡ false = grind (arith, h) in sym (front_is xs ys) ∙ ap (λ (b : Bool). b && starts_with nat_eq ys xs) e

pub behind_is : (xs ys : List ℕ) → is_front xs ys ≡ true → slice_index ys (length xs) ≡ byte_behind xs ys
behind_is xs [] f = cc
behind_is [] (y ∷ ys) f = refl
behind_is (x ∷ xs) (y ∷ ys) f = behind_is xs ys (tail_front (x == y) (is_front xs ys) f)
  where
    tail_front : (s t : Bool) → (s && t) ≡ true → t ≡ true
    tail_front true t h = h
    tail_front false t h = cc
