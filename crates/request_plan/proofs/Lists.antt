-- Lists of lists, in one, and lists that are mapped.
use Rattle.std.proofs.Common.{ℕ, ◌≡◌, ◌+◌, ◌<◌, List, [], ◌∷◌, ◌++◌, length, map, take, get_or, refl, ap, sym, ◌∙◌, arith}
use Rattle.std.specs.List.{flat_map, All}
use Rattle.std.specs.List.Sorted.{IsPermutation}
use Rattle.std.proofs.lemmas.List.{length-map, map_more}
use Rattle.std.proofs.lemmas.List.Concat.{flat_map-append}
use Rattle.std.proofs.lemmas.List.Elements.{All-nil, All-head, All-tail, All-append}
use Rattle.std.proofs.lemmas.List.Sorted.{length_permutation}

pub flat_map-flat_map : {X Y A : Type 0} (f : X → List Y) (g : Y → List A) (xs : List X) → flat_map g (flat_map f xs) ≡ flat_map (λ x. flat_map g (f x)) xs
flat_map-flat_map f g [] = refl
flat_map-flat_map f g (x ∷ xs) = flat_map-append g (f x) (flat_map f xs) ∙ ap (λ l. flat_map g (f x) ++ l) (flat_map-flat_map f g xs)

pub nil_of : {A : Type 0} (xs ys : List A) → IsPermutation xs ys → ys ≡ [] → xs ≡ []
nil_of xs ys h e = empty xs (sym (length_permutation xs ys h) ∙ ap length e) where
  empty : {A : Type 0} (zs : List A) → length zs ≡ 0 → zs ≡ []
  empty [] e = refl
  empty (z ∷ zs) e = absurd (omega (arith, e))

-- what each makes holds
pub all-flat_map : {X Y : Type 0} (Q : X → Type 0) (P : Y → Type 0) (f : X → List Y) (xs : List X) → All Q xs → ((x : X) → Q x → All P (f x)) → All P (flat_map f xs)
all-flat_map Q P f [] a h = All-nil P
all-flat_map Q P f (x ∷ xs) a h = All-append P (f x) (flat_map f xs) (h x (All-head Q x xs a)) (all-flat_map Q P f xs (All-tail Q x xs a) h)

-- one item more of a list is mapped
pub mapped-more : {X Y : Type 0} (f : X → Y) (xs : List X) (i : ℕ) (x : X) (had new : List Y)
    → i < length xs → x ≡ get_or xs i x → had ≡ map f (take i xs) → new ≡ had ++ f x ∷ [] → new ≡ map f (take (i + 1) xs)
mapped-more f xs i x had new below is before e =
    e ∙ ap (λ l. l ++ f x ∷ []) before ∙ ap (λ y. map f (take i xs) ++ f y ∷ []) is ∙ sym (map_more f xs i x below)

-- lists that are one when they are mapped are as long
pub mapped-length : {X Y : Type 0} (f : X → Y) (xs ys : List X) → map f xs ≡ map f ys → length xs ≡ length ys
mapped-length f xs ys e = sym (length-map xs f) ∙ ap length e ∙ length-map ys f
