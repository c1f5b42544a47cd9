-- Lists of which one element changes, up to order, and how often numbers stand in a list.
use Rattle.std.proofs.Common.{ℕ, ◌≡◌, ◌+◌, ◌-◌, ◌<◌, cond, Bool, true, false, List, [], ◌∷◌, ◌++◌, length, get_or, set, take, drop, suc, refl, ap, ap₂, arith}
use Rattle.std.specs.Prelude.{◌==◌}
use Rattle.std.specs.List.{All, Contains, flat_map, count_by, remove}
use Rattle.std.specs.List.Sorted.{IsPermutation}
use Rattle.std.proofs.lemmas.Bool.Decides.{nat_tests}
use Rattle.std.proofs.lemmas.List.{set_split, take-set, drop-set-lt}
use Rattle.std.proofs.lemmas.List.Elements.{All-nil, All-head, All-tail, All-cons, All-weaker, All-contains, All-contains_itself}
use Rattle.std.proofs.lemmas.List.Sorted.{IsPermutation-refl, IsPermutation-sym, IsPermutation-trans, IsPermutation-cons, IsPermutation-middle, IsPermutation-append_left, IsPermutation-to_front, All-permutation, sum_by-IsPermutation, length_permutation}
use Rattle.list_laws.proofs.Lists.{count_cons}
use Rattle.list_laws.proofs.Orders.{same, flat_map_IsPermutation}
use Rattle.joint_pages.proofs.Places.{split-there}

-- ---- one element and the others

module _ {X : Type 0} where
  pub at-place : (xs : List X) (place : ℕ) (x : X) → place < length xs → x ≡ get_or xs place x → IsPermutation xs (x ∷ remove xs place)
  at-place xs place x h e = IsPermutation-trans _ _ _ (same _ _ (split-there xs place x h e)) (IsPermutation-middle (take place xs) x (drop (suc place) xs))

  -- another one in its place
  pub set-place : (xs : List X) (place : ℕ) (y : X) → place < length xs → IsPermutation (set xs place y) (y ∷ remove xs place)
  set-place xs place y h = IsPermutation-trans _ _ _ (same _ _ (set_split xs place y h)) (IsPermutation-middle (take place xs) y (drop (suc place) xs))

  pub removed-set : (xs : List X) (place : ℕ) (y : X) → remove (set xs place y) place ≡ remove xs place
  removed-set xs place y = ap₂ (λ (a b : List X). a ++ b) (take-set xs place y) (drop-set-lt (suc place) xs place y (omega arith))

  pub one-of-all : (P : X → Type 0) (old others : List X) (x : X) → IsPermutation old (x ∷ others) → All P old → P x
  one-of-all P old others x was all = All-head P x others (All-permutation P old (x ∷ others) was all)

  pub others-of-all : (P : X → Type 0) (old others : List X) (x : X) → IsPermutation old (x ∷ others) → All P old → All P others
  others-of-all P old others x was all = All-tail P x others (All-permutation P old (x ∷ others) was all)

  pub all-with-one : (P : X → Type 0) (new others : List X) (y : X) → IsPermutation new (y ∷ others) → P y → All P others → All P new
  all-with-one P new others y now p all = All-permutation P (y ∷ others) new (IsPermutation-sym _ _ now) (All-cons P y others p all)

  pub all-changed : (P : X → Type 0) (old new others : List X) (x y : X) → IsPermutation old (x ∷ others) → IsPermutation new (y ∷ others) → (P x → P y) → All P old → All P new
  all-changed P old new others x y was now f all = all-with-one P new others y now (f (one-of-all P old others x was all)) (others-of-all P old others x was all)

  pub all-left : (P : X → Type 0) (old new others : List X) (x : X) → IsPermutation old (x ∷ others) → IsPermutation new others → All P old → All P new
  all-left P old new others x was now all = All-permutation P others new (IsPermutation-sym _ _ now) (others-of-all P old others x was all)

  pub all-of-two : (P Q R : X → Type 0) → ((x : X) → P x → Q x → R x) → (xs : List X) → All P xs → All Q xs → All R xs
  all-of-two P Q R f [] p q = All-nil R
  all-of-two P Q R f (x ∷ xs) p q = All-cons R x xs (f x (All-head P x xs p) (All-head Q x xs q)) (all-of-two P Q R f xs (All-tail P x xs p) (All-tail Q x xs q))

  pub all-among : (P : X → Type 0) (xs ys : List X) → ((y : X) → Contains ys y → Contains xs y) → All P xs → All P ys
  all-among P xs ys f all = All-weaker (Contains ys) P (λ y h. All-contains P xs y all (f y h)) ys (All-contains_itself ys)

  pub front-none : (xs ys : List X) → xs ++ ys ≡ [] → xs ≡ []
  front-none [] ys e = refl
  front-none (x ∷ xs) ys e = cc

module _ {X A : Type 0} (f : X → List A) where
  -- the parts of a list by the elements of another, of which one changes
  pub parts-keep : (old new others : List X) (x y : X) → IsPermutation old (x ∷ others) → IsPermutation new (y ∷ others) → IsPermutation (f x) (f y) → IsPermutation (flat_map f old) (flat_map f new)
  parts-keep old new others x y was now h =
      IsPermutation-trans _ _ _ (flat_map_IsPermutation f old (x ∷ others) was)
      (IsPermutation-trans _ _ _ (IsPermutation-append_left (flat_map f others) (f x) (f y) h) (IsPermutation-sym _ _ (flat_map_IsPermutation f new (y ∷ others) now)))

  -- one part is no more
  pub parts-lose : (old new others : List X) (x y : X) (a : A) → IsPermutation old (x ∷ others) → IsPermutation new (y ∷ others) → IsPermutation (f x) (a ∷ f y) → IsPermutation (flat_map f old) (a ∷ flat_map f new)
  parts-lose old new others x y a was now h =
      IsPermutation-trans _ _ _ (flat_map_IsPermutation f old (x ∷ others) was)
      (IsPermutation-trans _ _ _ (IsPermutation-append_left (flat_map f others) (f x) (a ∷ f y) h) (IsPermutation-cons a _ _ (IsPermutation-sym _ _ (flat_map_IsPermutation f new (y ∷ others) now))))

  -- the element is no more, which had that part alone
  pub parts-end : (old new others : List X) (x : X) (part : List A) → IsPermutation old (x ∷ others) → IsPermutation new others → IsPermutation (f x) part → IsPermutation (flat_map f old) (part ++ flat_map f new)
  parts-end old new others x part was now h =
      let left : IsPermutation (part ++ flat_map f others) (part ++ flat_map f new) = behind part (flat_map f others) (flat_map f new) (IsPermutation-sym _ _ (flat_map_IsPermutation f new others now)) in
      IsPermutation-trans _ _ _ (flat_map_IsPermutation f old (x ∷ others) was) (IsPermutation-trans _ _ _ (IsPermutation-append_left (flat_map f others) (f x) part h) left) where
        behind : (part xs ys : List A) → IsPermutation xs ys → IsPermutation (part ++ xs) (part ++ ys)
        behind [] xs ys p = p
        behind (a ∷ part) xs ys p = IsPermutation-cons a _ _ (behind part xs ys p)

  -- one more element
  pub parts-more : (old : List X) (y : X) → IsPermutation (flat_map f (old ++ y ∷ [])) (f y ++ flat_map f old)
  parts-more old y = flat_map_IsPermutation f (old ++ y ∷ []) (y ∷ old) (IsPermutation-to_front old y)

-- ---- how often a number stands in a list

-- as `times` of the specs
abbrev often : ℕ → List ℕ → ℕ
often n ns = count_by (λ m. m == n) ns

pub often-turned : (n : ℕ) (xs ys : List ℕ) → IsPermutation xs ys → often n ys ≡ often n xs
often-turned n xs ys h = sum_by-IsPermutation (λ m. cond (m == n) 1 0) xs ys h

abbrev one-if : Bool → ℕ
one-if b = cond b 1 0

own : (n : ℕ) → one-if (n == n) ≡ 1
own n = ap one-if (is n) where
  is : (n : ℕ) → (n == n) ≡ true
  is n = grind (arith, nat_tests)

-- a number that stands among others stands there once or more
pub stands-often : (n : ℕ) (xs ys : List ℕ) → IsPermutation xs (n ∷ ys) → 0 < often n xs
stands-often n xs ys h =
    let all : often n (n ∷ ys) ≡ often n xs = often-turned n xs (n ∷ ys) h in
    let one : often n (n ∷ ys) ≡ cond (n == n) 1 0 + often n ys = count_cons (λ m. m == n) n ys in
    let is = own n in
    omega (arith, all, one, is)

not-one : (n x : ℕ) → (x ≡ n → ⊥) → one-if (x == n) ≡ 0
not-one n x h = ap one-if (is n x h) where
  is : (n x : ℕ) → (x ≡ n → ⊥) → (x == n) ≡ false
  is n x h = by (x == n) refl where
    by : (b : Bool) → (x == n) ≡ b → b ≡ false
    by true e = let same : x ≡ n = grind (arith, nat_tests) in absurd (h same)
    by false e = refl

-- one that does not, never
pub never-stands : (n : ℕ) (xs : List ℕ) → All (λ x. x ≡ n → ⊥) xs → often n xs ≡ 0
never-stands n [] all = refl
never-stands n (x ∷ xs) all =
    let one : often n (x ∷ xs) ≡ cond (x == n) 1 0 + often n xs = count_cons (λ m. m == n) x xs in
    let head = not-one n x (All-head (λ y. y ≡ n → ⊥) x xs all) in
    let more = never-stands n xs (All-tail (λ y. y ≡ n → ⊥) x xs all) in
    omega (arith, one, head, more)

-- a list in which no number stands has none
pub none-stands : (xs : List ℕ) → ((n : ℕ) → often n xs ≡ 0) → xs ≡ []
none-stands [] h = refl
none-stands (x ∷ xs) h = let some = stands-often x (x ∷ xs) xs (IsPermutation-refl (x ∷ xs)) in let no = h x in absurd (omega (arith, some, no))

-- the same number comes to both
pub same-more : (x n : ℕ) (xs xs' ys ys' : List ℕ) → IsPermutation xs' (x ∷ xs) → IsPermutation ys' (x ∷ ys) → often n xs ≡ often n ys → often n xs' ≡ often n ys'
same-more x n xs xs' ys ys' h k e =
    let one : often n (x ∷ xs) ≡ cond (x == n) 1 0 + often n xs = count_cons (λ m. m == n) x xs in
    let two : often n (x ∷ ys) ≡ cond (x == n) 1 0 + often n ys = count_cons (λ m. m == n) x ys in
    let three : often n (x ∷ xs) ≡ often n xs' = often-turned n xs' (x ∷ xs) h in
    let four : often n (x ∷ ys) ≡ often n ys' = often-turned n ys' (x ∷ ys) k in
    omega (arith, one, two, three, four, e)

-- the same number goes from both
pub same-less : (x n : ℕ) (xs xs' ys ys' : List ℕ) → IsPermutation xs (x ∷ xs') → IsPermutation ys (x ∷ ys') → often n xs ≡ often n ys → often n xs' ≡ often n ys'
same-less x n xs xs' ys ys' h k e =
    let one : often n (x ∷ xs') ≡ cond (x == n) 1 0 + often n xs' = count_cons (λ m. m == n) x xs' in
    let two : often n (x ∷ ys') ≡ cond (x == n) 1 0 + often n ys' = count_cons (λ m. m == n) x ys' in
    let three : often n (x ∷ xs') ≡ often n xs = often-turned n xs (x ∷ xs') h in
    let four : often n (x ∷ ys') ≡ often n ys = often-turned n ys (x ∷ ys') k in
    omega (arith, one, two, three, four, e)

-- a number more, or less, is counted
pub count-more : (t n : ℕ) (xs ys : List ℕ) → IsPermutation ys (t ∷ xs) → n ≡ length xs → n + 1 ≡ length ys
count-more t n xs ys h e = let long = length_permutation ys (t ∷ xs) h in omega (arith, long, e)

pub count-less : (t n : ℕ) (xs ys : List ℕ) → IsPermutation xs (t ∷ ys) → n ≡ length xs → n - 1 ≡ length ys
count-less t n xs ys h e = let long = length_permutation xs (t ∷ ys) h in omega (arith, long, e)
