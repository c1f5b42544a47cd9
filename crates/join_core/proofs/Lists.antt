-- Lists of lists, in one.
use Rattle.std.proofs.Common.{List, [], ◌∷◌, ◌++◌}
use Rattle.std.specs.List.{flat_map, All}
use Rattle.std.proofs.lemmas.List.Elements.{All-nil, All-cons, All-head, All-tail}

-- what holds of all holds of the front and of the rest
pub front : {X : Type 0} (P : X → Type 0) (xs ys : List X) → All P (xs ++ ys) → All P xs × All P ys
front P [] ys a = (All-nil P, a)
front P (x ∷ xs) ys a = let more = front P xs ys (All-tail P x (xs ++ ys) a) in (All-cons P x xs (All-head P x (xs ++ ys) a) more.0, more.1)

-- what holds of all members of the lists holds of those of each
pub all-parts : {X : Type 0} (P : X → Type 0) (lists : List (List X)) → All P (flat_map (λ l. l) lists) → All (All P) lists
all-parts P [] a = All-nil (All P)
all-parts P (l ∷ lists) a = let parts = front P l (flat_map (λ x. x) lists) a in All-cons (All P) l lists parts.0 (all-parts P lists parts.1)

pub both-all : {X : Type 0} (P Q : X → Type 0) (xs : List X) → All P xs → All Q xs → All (λ x. P x × Q x) xs
both-all P Q [] a b = All-nil (λ x. P x × Q x)
both-all P Q (x ∷ xs) a b = All-cons (λ y. P y × Q y) x xs (All-head P x xs a, All-head Q x xs b) (both-all P Q xs (All-tail P x xs a) (All-tail Q x xs b))
