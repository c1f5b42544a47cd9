-- The solutions of patterns in another order are the same in another order.
use Rattle.std.proofs.Common.{ℕ, ◌≡◌, ◌<◌, List, [], ◌∷◌, ◌++◌, length, get_or, Option, Some, None, Bool, true, false, cond, refl, ap, sym, subst, ◌∙◌, append_assoc}
use Rattle.std.specs.List.{flat_map, remove, filter}
use Rattle.std.specs.List.Sorted.{IsPermutation}
use Rattle.list_laws.proofs.Orders.{same, front, along, flat_map_each}
use Rattle.rdf_terms.specs.declared.term.Triple.{Triple}
use Rattle.bgp_core.specs.declared.pattern.Pattern.{Pattern}
use Rattle.bgp_core.specs.Solutions.{Places, extended, extension, rows_from, solutions}
use Rattle.std.proofs.lemmas.List.Sorted.{IsPermutation-refl, IsPermutation-trans, IsPermutation-append_right, IsPermutation-remove}
use Rattle.bgp_core.proofs.Swaps.{extension-Commute}
use Rattle.bgp_core.proofs.Orders.{from-each}

pub flat_map-same : {X A : Type 0} (f g : X → List A) (xs : List X) → ((x : X) → f x ≡ g x) → flat_map f xs ≡ flat_map g xs
flat_map-same f g [] h = refl
flat_map-same f g (x ∷ xs) h = let e : f x ≡ g x = h x in let r : flat_map f xs ≡ flat_map g xs = flat_map-same f g xs h in cc

pub flat_map-nothing : {X A : Type 0} (xs : List X) → [] ≡ flat_map {X = X} {A = A} (λ x. []) xs
flat_map-nothing [] = refl
flat_map-nothing (x ∷ xs) = flat_map-nothing xs

-- (a ++ b) ++ (c ++ d) and (a ++ c) ++ (b ++ d)
pub crossed : {A : Type 0} (a b c d : List A) → IsPermutation ((a ++ b) ++ (c ++ d)) ((a ++ c) ++ (b ++ d))
crossed a b c d =
    subst (λ l. IsPermutation l ((a ++ c) ++ (b ++ d))) (sym (append_assoc a b (c ++ d)))
    (subst (λ l. IsPermutation (a ++ (b ++ (c ++ d))) l) (sym (append_assoc a c (b ++ d)))
    (IsPermutation-append_right a (b ++ (c ++ d)) (c ++ (b ++ d)) (front b c d)))

pub flat_map-both : {X A : Type 0} (f g : X → List A) (xs : List X) → IsPermutation (flat_map f xs ++ flat_map g xs) (flat_map (λ x. f x ++ g x) xs)
flat_map-both f g [] = IsPermutation-refl _
flat_map-both f g (x ∷ xs) = IsPermutation-trans _ _ _ (crossed (f x) (flat_map f xs) (g x) (flat_map g xs)) (IsPermutation-append_right (f x ++ g x) _ _ (flat_map-both f g xs))

-- two loops may be turned round
pub turned : {X Y A : Type 0} (f : X → Y → List A) (xs : List X) (ys : List Y) → IsPermutation (flat_map (λ x. flat_map (f x) ys) xs) (flat_map (λ y. flat_map (λ x. f x y) xs) ys)
turned f [] ys = same _ _ (flat_map-nothing ys)
turned f (x ∷ xs) ys = IsPermutation-trans _ _ _ (IsPermutation-append_right (flat_map (f x) ys) _ _ (turned f xs ys)) (flat_map-both (f x) (λ y. flat_map (λ z. f z y) xs) ys)

from-extended : {A : Type 0} (o : Option Places) (g : Places → Option Places) (k : Places → List A) → rows_from (extended o g) k ≡ rows_from o (λ r. rows_from (g r) k)
from-extended None g k = refl
from-extended (Some r) g k = refl

from-flat_map : {Y A : Type 0} (o : Option Places) (h : Places → Y → List A) (ys : List Y) → rows_from o (λ r. flat_map (h r) ys) ≡ flat_map (λ s. rows_from o (λ r. h r s)) ys
from-flat_map None h ys = flat_map-nothing ys
from-flat_map (Some r) h ys = refl

one_pair : {A : Type 0} (p q : Pattern) (row : Places) (k : Places → List A) (t s : Triple) → rows_from (extension p row t) (λ r. rows_from (extension q r s) k) ≡ rows_from (extension q row s) (λ r. rows_from (extension p r t) k)
one_pair p q row k t s = sym (from-extended (extension p row t) (λ r. extension q r s) k) ∙ ap (λ (o : Option Places). rows_from o k) (extension-Commute p q t s row) ∙ from-extended (extension q row s) (λ r. extension p r t) k

-- one pattern over some triples, then another over others
pub two_patterns : {A : Type 0} (p q : Pattern) (ts ss : List Triple) (k : Places → List A) (row : Places) →
    IsPermutation (flat_map (λ t. rows_from (extension p row t) (λ r. flat_map (λ s. rows_from (extension q r s) k) ss)) ts) (flat_map (λ s. rows_from (extension q row s) (λ r. flat_map (λ t. rows_from (extension p r t) k) ts)) ss)
two_patterns p q ts ss k row =
    let one = flat_map-same (λ t. rows_from (extension p row t) (λ r. flat_map (λ s. rows_from (extension q r s) k) ss)) (λ t. flat_map (λ s. rows_from (extension p row t) (λ r. rows_from (extension q r s) k)) ss) ts (λ t. from-flat_map (extension p row t) (λ r s. rows_from (extension q r s) k) ss) in
    let two = turned (λ t s. rows_from (extension p row t) (λ r. rows_from (extension q r s) k)) ts ss in
    let three = flat_map-same (λ s. flat_map (λ t. rows_from (extension p row t) (λ r. rows_from (extension q r s) k)) ts) (λ s. rows_from (extension q row s) (λ r. flat_map (λ t. rows_from (extension p r t) k) ts)) ss
    (λ s. flat_map-same (λ t. rows_from (extension p row t) (λ r. rows_from (extension q r s) k)) (λ t. rows_from (extension q row s) (λ r. rows_from (extension p r t) k)) ts (λ t. one_pair p q row k t s) ∙ sym (from-flat_map (extension q row s) (λ r t. rows_from (extension p r t) k) ts)) in
    IsPermutation-trans _ _ _ (same _ _ one) (IsPermutation-trans _ _ _ two (same _ _ three))

-- the first two patterns may be exchanged
exchanged : (ts : List Triple) (p q : Pattern) (ps : List Pattern) (row : Places) → IsPermutation (solutions ts (p ∷ q ∷ ps) row) (solutions ts (q ∷ p ∷ ps) row)
exchanged ts p q ps row = two_patterns p q ts ts (solutions ts ps) row

-- the first pattern stays, and the others give the same rows
below : (ts : List Triple) (p : Pattern) (ps qs : List Pattern) (row : Places) → ((r : Places) → IsPermutation (solutions ts ps r) (solutions ts qs r)) → IsPermutation (solutions ts (p ∷ ps) row) (solutions ts (p ∷ qs) row)
below ts p ps qs row h = flat_map_each (λ t. rows_from (extension p row t) (solutions ts ps)) (λ t. rows_from (extension p row t) (solutions ts qs)) ts (λ t. from-each (extension p row t) (solutions ts ps) (solutions ts qs) h)

pub solutions-patterns : (ts : List Triple) (ps qs : List Pattern) (row : Places) → IsPermutation ps qs → IsPermutation (solutions ts ps row) (solutions ts qs row)
solutions-patterns ts ps qs row p = along (λ l m. (r : Places) → IsPermutation (solutions ts l r) (solutions ts m r))
    (λ l r. IsPermutation-refl (solutions ts l r))
    (λ x l m h r. below ts x l m r h)
    (λ x y l r. exchanged ts x y l r)
    (λ l m n h k r. IsPermutation-trans (solutions ts l r) (solutions ts m r) (solutions ts n r) (h r) (k r))
    ps qs p row

-- pattern number i may be taken first
pub solutions-first : (ts : List Triple) (ps : List Pattern) (i : ℕ) (p : Pattern) (row : Places) → i < length ps → p ≡ get_or ps i p → IsPermutation (solutions ts ps row) (flat_map (λ t. rows_from (extension p row t) (solutions ts (remove ps i))) ts)
solutions-first ts ps i p row h e = solutions-patterns ts ps (p ∷ remove ps i) row (IsPermutation-remove ps i p h e)

-- triples that give nothing may be left out
kept_or_not : {X A : Type 0} (f : X → List A) (b : Bool) (x : X) (ys xs : List X) → (b ≡ false → f x ≡ []) → flat_map f ys ≡ flat_map f xs → flat_map f (cond b (x ∷ ys) ys) ≡ f x ++ flat_map f xs
kept_or_not f true x ys xs h e = ap (λ l. f x ++ l) e
kept_or_not f false x ys xs h e = let none : f x ≡ [] = h refl in rw none e

pub flat_map-filter : {X A : Type 0} (f : X → List A) (m : X → Bool) (xs : List X) → ((x : X) → m x ≡ false → f x ≡ []) → flat_map f (filter m xs) ≡ flat_map f xs
flat_map-filter f m [] h = refl
flat_map-filter f m (x ∷ xs) h = kept_or_not f (m x) x (filter m xs) xs (h x) (flat_map-filter f m xs h)
