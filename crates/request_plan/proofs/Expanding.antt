-- What triples make of the rows of a block, one after another.
use Rattle.std.proofs.Common.{ℕ, ◌≡◌, ◌+◌, ◌<◌, ◌≤◌, List, [], ◌∷◌, ◌++◌, length, drop, take, get_or, ap, sym, subst, ◌∙◌, append_assoc, append-nil}
use Rattle.std.specs.List.{flat_map, All}
use Rattle.std.proofs.lemmas.List.{take_more, take_all}
use Rattle.std.proofs.lemmas.List.Concat.{flat_map-append}
use Rattle.std.proofs.lemmas.List.Elements.{All-nil, All-head, All-tail, All-get_or}
use Rattle.bgp_core.specs.Solutions.{Places}

-- what holds of all rows of a block holds of the first, and of each other
pub first-has : (P : Places → Type 0) (block : List Places) (first : Places) → All P block → block ≡ first ∷ drop 1 block → P first
first-has P block first a e = All-head P first (drop 1 block) (subst (λ (l : List Places). All P l) e a)

behind-have : (P : Places → Type 0) (block : List Places) → All P block → All P (drop 1 block)
behind-have P [] a = All-nil P
behind-have P (x ∷ xs) a = All-tail P x xs a

pub other-has : (P : Places → Type 0) (block others : List Places) (i : ℕ) (row : Places) → All P block → others ≡ drop 1 block → i < length others → row ≡ get_or others i row → P row
other-has P block others i row a e h is = subst P (sym is) (All-get_or P others i row h (subst (λ (l : List Places). All P l) (sym e) (behind-have P block a)))

-- what the first row and the others make is what the block makes
pub block-made : (f : Places → List Places) (block : List Places) (first : Places) (old one all : List Places) → block ≡ first ∷ drop 1 block → one ≡ old ++ f first → all ≡ one ++ flat_map f (drop 1 block) → all ≡ old ++ flat_map f block
block-made f block first old one all e h g =
    g ∙ ap (λ (l : List Places). l ++ flat_map f (drop 1 block)) h ∙ append_assoc old (f first) (flat_map f (drop 1 block)) ∙ ap (λ (l : List Places). old ++ flat_map f l) (sym e)

-- one more of a list, after those before it
pub flat-more : {X Y : Type 0} (f : X → List Y) (start old new : List Y) (xs : List X) (i : ℕ) (x : X) → i < length xs → x ≡ get_or xs i x → old ≡ start ++ flat_map f (take i xs) → new ≡ old ++ f x → new ≡ start ++ flat_map f (take (i + 1) xs)
flat-more {X = X} {Y = Y} f start old new xs i x h at so more =
    let whole : flat_map f (take (i + 1) xs) ≡ flat_map f (take i xs) ++ (f x ++ []) =
    ap (λ (l : List X). flat_map f l) (take_more xs i x h) ∙ flat_map-append f (take i xs) (get_or xs i x ∷ []) ∙ ap (λ (y : X). flat_map f (take i xs) ++ (f y ++ [])) (sym at) in
    more ∙ ap (λ (l : List Y). l ++ f x) so ∙ append_assoc start (flat_map f (take i xs)) (f x)
    ∙ ap (λ (l : List Y). start ++ l) (ap (λ (l : List Y). flat_map f (take i xs) ++ l) (sym (append-nil (f x))) ∙ sym whole)

-- all of a list
pub flat-all : {X Y : Type 0} (f : X → List Y) (start old : List Y) (xs : List X) (i : ℕ) → length xs ≤ i → old ≡ start ++ flat_map f (take i xs) → old ≡ start ++ flat_map f xs
flat-all {X = X} f start old xs i h so = so ∙ ap (λ (l : List X). start ++ flat_map f l) (take_all i xs h)
