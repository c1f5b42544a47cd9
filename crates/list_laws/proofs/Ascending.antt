-- Strictly ascending lists, their parts and their images.
use Rattle.std.proofs.Common.{ℕ, ◌≡◌, ◌≢◌, ◌+◌, ◌<◌, Bool, true, false, cond, refl, List, [], ◌∷◌, zero, suc, sym, ap, subst, ◌∙◌, length, get_or, take, drop, map, arith}
use Rattle.std.specs.List.{AllByRecursion, IsDistinct, filter}
use Rattle.std.specs.List.Sorted.{IsStrictlySortedBy, IsSorted, IsSortedBy}
use Rattle.std.specs.declared.cmp.Ordering.{Ordering}
use Rattle.std.specs.declared.cmp.Ordering.TheVariants.{Less, Equal, Greater}
use Rattle.std.specs.Ordering.{is_lt, is_eq, eq_by_cmp, ordering_reverse, ordering_then}
use Rattle.std.specs.Cmp.{IsTotalOrder}
use Rattle.std.proofs.lemmas.Bool.{true≢false}
use Rattle.std.proofs.lemmas.Cmp.{tied_itself}
use Rattle.std.proofs.lemmas.List.Elements.{All-from_recursion, recursion_from_All, All-take}
use Rattle.std.proofs.lemmas.List.Sorted.{sorted_far, ranks_by}
use Rattle.list_laws.proofs.Each.{all_map, all_unmap, all_on, all_filter}

-- ---- orderings

pub less_not_equal : Less ≡ Equal → ⊥
less_not_equal e = cc

pub greater_not_equal : Greater ≡ Equal → ⊥
greater_not_equal e = cc

pub less_not_greater : Less ≡ Greater → ⊥
less_not_greater e = cc

pub is_equal : (o : Ordering) → is_eq o ≡ true → o ≡ Equal
is_equal Less e = absurd (true≢false (sym e))
is_equal Equal e = refl
is_equal Greater e = absurd (true≢false (sym e))

pub then_equal : (a b : Ordering) → ordering_then a b ≡ Equal → (a ≡ Equal) × (b ≡ Equal)
then_equal Less b e = absurd (less_not_equal e)
then_equal Equal b e = (refl, e)
then_equal Greater b e = absurd (greater_not_equal e)

pub then_three : (a b c : Ordering) → ordering_then a (ordering_then b c) ≡ Equal → (a ≡ Equal) × (b ≡ Equal) × (c ≡ Equal)
then_three a b c e = let p = then_equal a (ordering_then b c) e in let q = then_equal b c p.1 in (p.0, q.0, q.1)

-- ---- two places

-- an earlier element is below a later one
pub pair_less : {K : Type 0} (R : K → K → Ordering) (xs : List K) → IsStrictlySortedBy R xs → (i j : ℕ) (d e : K) → i < j → j < length xs → R (get_or xs i d) (get_or xs j e) ≡ Less
unfolding IsStrictlySortedBy
pair_less R [] s i j d e l m = absurd (omega arith)
pair_less R (x ∷ xs) s i zero d e l m = absurd (omega arith)
pair_less R (x ∷ xs) s zero (suc j) d e l m = All-from_recursion (λ y. R x y ≡ Less) xs s.0 j e (omega arith)
pair_less R (x ∷ xs) s (suc i) (suc j) d e l m = pair_less R xs s.1 i j d e (omega arith) (omega arith)

-- an element stands at one place alone
pub apart : {K : Type 0} {R : K → K → Ordering} (o : IsTotalOrder R) (xs : List K) → IsStrictlySortedBy R xs → (i j : ℕ) (d e : K) → i < j → j < length xs → get_or xs i d ≢ get_or xs j e
apart {K} {R} o xs s i j d e l m same =
    less_not_equal (sym (pair_less R xs s i j d e l m) ∙ subst (λ y. R (get_or xs i d) y ≡ Equal) same (tied_itself o (get_or xs i d)))

-- what a search asks of the list
pub sorted_keys : {K X : Type 0} {R : K → K → Ordering} (o : IsTotalOrder R) (key : X → K) (xs : List X) →
    ((i j : ℕ) (d e : X) → i < j → j < length xs → R (key (get_or xs i d)) (key (get_or xs j e)) ≡ Less) →
    IsSortedBy (λ a b. is_lt (R (key a) (key b))) xs
sorted_keys o key xs s k d l m =
    ap is_lt (o.antisymm (key (get_or xs (k + 1) d)) (key (get_or xs k d)) ∙ ap ordering_reverse (s k (k + 1) d d (omega arith) m))

-- ---- sorted and distinct is strictly ascending

distinct_pair : {X : Type 0} (e : X → X → Bool) (xs : List X) → IsDistinct e xs → (i j : ℕ) (d : X) → i < j → j < length xs → e (get_or xs i d) (get_or xs j d) ≡ false
unfolding IsDistinct
distinct_pair e [] s i j d l m = absurd (omega arith)
distinct_pair e (x ∷ xs) s i zero d l m = absurd (omega arith)
distinct_pair e (x ∷ xs) s zero (suc j) d l m = All-from_recursion (λ y. e x y ≡ false) xs s.0 j d (omega arith)
distinct_pair e (x ∷ xs) s (suc i) (suc j) d l m = distinct_pair e xs s.1 i j d (omega arith) (omega arith)

strict_pairs : {X : Type 0} (R : X → X → Ordering) (xs : List X) → ((i j : ℕ) (d : X) → i < j → j < length xs → R (get_or xs i d) (get_or xs j d) ≡ Less) → IsStrictlySortedBy R xs
unfolding IsStrictlySortedBy
strict_pairs R [] h = tt
strict_pairs R (x ∷ xs) h = (recursion_from_All (λ y. R x y ≡ Less) xs (λ k d l. h 0 (suc k) d (omega arith) (omega arith)), strict_pairs R xs (λ i j d l m. h (suc i) (suc j) d (omega arith) (omega arith)))

must_be_less : (o p : Ordering) → o ≡ ordering_reverse p → is_lt p ≡ false → is_eq o ≡ false → o ≡ Less
must_be_less o Less e h k = absurd (true≢false h)
must_be_less o Equal e h k = absurd (true≢false (sym (ap is_eq e) ∙ k))
must_be_less o Greater e h k = e

pub strict_from : {X : Type 0} {R : X → X → Ordering} (o : IsTotalOrder R) (xs : List X) → IsSorted R xs → IsDistinct (eq_by_cmp R) xs → IsStrictlySortedBy R xs
strict_from {X} {R} o xs s apart = strict_pairs R xs (λ i j d l m.
    must_be_less (R (get_or xs i d) (get_or xs j d)) (R (get_or xs j d) (get_or xs i d)) (o.antisymm (get_or xs i d) (get_or xs j d))
    (sorted_far (λ x y. is_lt (R x y)) (ranks_by o (λ (x : X). x)) xs s i j d (omega arith) m) (distinct_pair (eq_by_cmp R) xs apart i j d l m))

-- ---- parts

pub strict_drop : {X : Type 0} (R : X → X → Ordering) (n : ℕ) (xs : List X) → IsStrictlySortedBy R xs → IsStrictlySortedBy R (drop n xs)
unfolding IsStrictlySortedBy
strict_drop R zero xs s = s
strict_drop R (suc n) [] s = tt
strict_drop R (suc n) (x ∷ xs) s = strict_drop R n xs s.1

pub strict_take : {X : Type 0} (R : X → X → Ordering) (n : ℕ) (xs : List X) → IsStrictlySortedBy R xs → IsStrictlySortedBy R (take n xs)
unfolding IsStrictlySortedBy
strict_take R zero xs s = tt
strict_take R (suc n) [] s = tt
strict_take {X} R (suc n) (x ∷ xs) s = (recursion_from_All (λ y. R x y ≡ Less) (take n xs) (All-take (λ y. R x y ≡ Less) n xs (All-from_recursion (λ y. R x y ≡ Less) xs s.0)), strict_take R n xs s.1)

-- ---- images

pub ascending_map : {X Y : Type 0} (f : X → Y) (R : Y → Y → Ordering) (xs : List X) → IsStrictlySortedBy (λ x y. R (f x) (f y)) xs → IsStrictlySortedBy R (map f xs)
unfolding IsStrictlySortedBy
ascending_map f R [] h = tt
ascending_map f R (x ∷ xs) h = (all_map f (λ y. R (f x) y ≡ Less) xs h.0, ascending_map f R xs h.1)

pub ascending_unmap : {X Y : Type 0} (f : X → Y) (R : Y → Y → Ordering) (xs : List X) → IsStrictlySortedBy R (map f xs) → IsStrictlySortedBy (λ x y. R (f x) (f y)) xs
unfolding IsStrictlySortedBy
ascending_unmap f R [] h = tt
ascending_unmap f R (x ∷ xs) h = (all_unmap f (λ y. R (f x) y ≡ Less) xs h.0, ascending_unmap f R xs h.1)

pub strict_on : {X Y : Type 0} (f : X → Y) (R : Y → Y → Ordering) (S : X → X → Ordering) (P : X → Type 0) → ((x y : X) → P x → P y → S x y ≡ R (f x) (f y)) → (xs : List X) → AllByRecursion P xs →
    IsStrictlySortedBy S xs → IsStrictlySortedBy R (map f xs)
unfolding IsStrictlySortedBy
strict_on f R S P w [] p s = tt
strict_on f R S P w (x ∷ xs) p s = (all_on f (λ y. R (f x) y ≡ Less) P (λ y. S x y ≡ Less) (λ y q e. sym (w x y p.0 q) ∙ e) xs p.1 s.0, strict_on f R S P w xs p.1 s.1)

-- ---- what a filter keeps

kept_strict : {X : Type 0} (R : X → X → Ordering) (b : Bool) (x : X) (xs : List X) → AllByRecursion (λ y. R x y ≡ Less) xs → IsStrictlySortedBy R xs → IsStrictlySortedBy R (cond b (x ∷ xs) xs)
unfolding IsStrictlySortedBy
kept_strict R true x xs below s = (below, s)
kept_strict R false x xs below s = s

pub strict_filter : {X : Type 0} (R : X → X → Ordering) (p : X → Bool) (xs : List X) → IsStrictlySortedBy R xs → IsStrictlySortedBy R (filter p xs)
unfolding IsStrictlySortedBy
strict_filter R p [] s = tt
strict_filter R p (x ∷ xs) s = kept_strict R (p x) x (filter p xs) (all_filter (λ y. R x y ≡ Less) p xs s.0) (strict_filter R p xs s.1)
