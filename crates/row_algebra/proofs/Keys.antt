-- Keys of rows: equal keys, and rows that are compatible.
use Rattle.std.proofs.Common.{Bor, ℕ, zero, suc, ◌≡◌, ◌⊎◌, inl, inr, Bool, true, false, ◌&&◌, if◌then◌else◌, List, [], ◌∷◌, ◌++◌, length, map, Option, Some, None, refl, ap, sym, subst, ◌∙◌, arith, append-nil}
use Rattle.std.specs.Prelude.{is_some, option_copied}
use Rattle.std.specs.Option.{option_cmp}
use Rattle.std.specs.Ordering.{is_eq, ordering_then}
use Rattle.std.specs.declared.cmp.Ordering.{Ordering}
use Rattle.std.specs.declared.cmp.Ordering.TheVariants.{Less, Equal, Greater}
use Rattle.std.specs.Cmp.Lexicographic.{slice_cmp}
use Rattle.std.specs.List.{AllByRecursion, Contains}
use Rattle.std.proofs.lemmas.Bool.{and_from, and_parts, true≢false, false≢true}
use Rattle.list_laws.proofs.Each.{all_so, all_more}
use Rattle.list_laws.proofs.Members.{head_or_tail, none_in}
use Rattle.list_laws.proofs.Lists.{cons_same}
use Rattle.list_laws.proofs.Tests.{and_first, and_second, same_truth}
use Rattle.rdf_terms.specs.Order.{term_order}
use Rattle.rdf_terms.specs.OrderLaws.{term_ties}
use Rattle.rdf_terms.specs.EqualityLaws.{term_decides}
use Rattle.rdf_terms.specs.declared.term.Term.{Term}
use Rattle.bgp_core.specs.Solutions.{Places, term_at}
use Rattle.bgp_core.specs.Merging.{compatible, MergingIsUnion}
use Rattle.row_algebra.specs.Algebra.{merge, place_eq, row_eq, BindsOnly}
use Rattle.row_algebra.specs.Finding.{key_of, BindsAll, all_bind, shared_name}

-- ---- equality of rows

place_same : (o p : Option Term) → place_eq o p ≡ true → o ≡ p
place_same None None h = refl
place_same None (Some u) h = absurd (false≢true h)
place_same (Some t) None h = absurd (false≢true h)
place_same (Some t) (Some u) h = ap (λ (x : Term). let y : Option Term = Some x in y) ((term_decides t u).0 h)

place_self : (o : Option Term) → place_eq o o ≡ true
place_self None = refl
place_self (Some t) = (term_decides t t).1 refl

pub row_same : (r s : Places) → row_eq r s ≡ true → r ≡ s
row_same [] [] h = refl
row_same [] (p ∷ s) h = absurd (false≢true h)
row_same (o ∷ r) [] h = absurd (false≢true h)
row_same (o ∷ r) (p ∷ s) h = cons_same o p r s (place_same o p (and_parts (place_eq o p) (row_eq r s) h).0) (row_same r s (and_parts (place_eq o p) (row_eq r s) h).1)

pub row_self : (r : Places) → row_eq r r ≡ true
row_self [] = refl
row_self (o ∷ r) = and_from (place_eq o o) (row_eq r r) (place_self o) (row_self r)

-- ---- the order of keys

then_equal : (o p : Ordering) → is_eq (ordering_then o p) ≡ (is_eq o && is_eq p)
then_equal Less p = refl
then_equal Equal p = refl
then_equal Greater p = refl

place_tie : (x y : Option (Bor Term)) → is_eq (option_cmp (λ a b. term_order a.now b.now) x y) ≡ place_eq (option_copied x) (option_copied y)
place_tie None None = refl
place_tie None (Some b) = refl
place_tie (Some a) None = refl
place_tie (Some a) (Some b) = sym (term_ties a.now b.now)

-- keys are equal in their order exactly where their terms are the same
pub keys_tie : (xs ys : List (Option (Bor Term))) → is_eq (slice_cmp (option_cmp (λ a b. term_order a.now b.now)) xs ys) ≡ row_eq (map option_copied xs) (map option_copied ys)
keys_tie [] [] = refl
keys_tie [] (y ∷ ys) = refl
keys_tie (x ∷ xs) [] = refl
keys_tie (x ∷ xs) (y ∷ ys) =
    then_equal (option_cmp (λ a b. term_order a.now b.now) x y) (slice_cmp (option_cmp (λ a b. term_order a.now b.now)) xs ys) ∙
    ap (λ (b : Bool). b && is_eq (slice_cmp (option_cmp (λ a b. term_order a.now b.now)) xs ys)) (place_tie x y) ∙
    ap (λ (b : Bool). place_eq (option_copied x) (option_copied y) && b) (keys_tie xs ys)

-- ---- names that all rows bind

pub all_rows_bind : (names : List ℕ) (rows : List Places) → AllByRecursion (λ n. all_bind n rows ≡ true) names → AllByRecursion (BindsAll names) rows
all_rows_bind names [] h = tt
all_rows_bind names (r ∷ rows) h = (
  all_so (λ n. all_bind n (r ∷ rows) ≡ true) (λ n. is_some (term_at r n) ≡ true) (λ n e. and_first (is_some (term_at r n)) (all_bind n rows) e) names h,
  all_rows_bind names rows (all_so (λ n. all_bind n (r ∷ rows) ≡ true) (λ n. all_bind n rows ≡ true) (λ n e. and_second (is_some (term_at r n)) (all_bind n rows) e) names h),
)

-- one name more
shared_by : (a b : Bool) (left right : List Places) (names new : List ℕ) (n : ℕ) → all_bind n left ≡ a → all_bind n right ≡ b → AllByRecursion (λ m. all_bind m left ≡ true) names → AllByRecursion (λ m. all_bind m right ≡ true) names → new ≡ names ++ (if a && b then n ∷ [] else [])
    → AllByRecursion (λ m. all_bind m left ≡ true) new × AllByRecursion (λ m. all_bind m right ≡ true) new
shared_by true true left right names new n e f h g is =
    (subst (AllByRecursion (λ m. all_bind m left ≡ true)) (sym is) (all_more (λ m. all_bind m left ≡ true) names n h e), subst (AllByRecursion (λ m. all_bind m right ≡ true)) (sym is) (all_more (λ m. all_bind m right ≡ true) names n g f))
shared_by true false left right names new n e f h g is =
    let same : names ≡ new = sym (append-nil names) ∙ sym is in (subst (AllByRecursion (λ m. all_bind m left ≡ true)) same h, subst (AllByRecursion (λ m. all_bind m right ≡ true)) same g)
shared_by false b left right names new n e f h g is =
    let same : names ≡ new = sym (append-nil names) ∙ sym is in (subst (AllByRecursion (λ m. all_bind m left ≡ true)) same h, subst (AllByRecursion (λ m. all_bind m right ≡ true)) same g)

pub shared_more : (left right : List Places) (names new : List ℕ) (n : ℕ) → AllByRecursion (λ m. all_bind m left ≡ true) names → AllByRecursion (λ m. all_bind m right ≡ true) names → new ≡ names ++ shared_name left right n
    → AllByRecursion (λ m. all_bind m left ≡ true) new × AllByRecursion (λ m. all_bind m right ≡ true) new
shared_more left right names new n h g is = shared_by (all_bind n left) (all_bind n right) left right names new n refl refl h g is

one_place : (o p : Option Term) → is_some o ≡ true → is_some p ≡ true → ((t u : Term) → o ≡ Some t → p ≡ Some u → t ≡ u) → place_eq o p ≡ true
one_place None p a b h = absurd (false≢true a)
one_place (Some t) None a b h = absurd (false≢true b)
one_place (Some t) (Some u) a b h = (term_decides t u).1 (h t u refl refl)

-- compatible rows that bind the names have one key
one_key : (u : MergingIsUnion) (names : List ℕ) (l r : Places) → BindsAll names l → BindsAll names r → compatible l r ≡ true → row_eq (key_of names l) (key_of names r) ≡ true
one_key u [] l r a b e = refl
one_key u (n ∷ names) l r a b e =
    and_from (place_eq (term_at l n) (term_at r n)) (row_eq (key_of names l) (key_of names r))
    (one_place (term_at l n) (term_at r n) a.0 b.0 ((u.agreeing l r).0 e n))
    (one_key u names l r a.1 b.1 e)

-- rows with different keys give nothing
pub apart : (u : MergingIsUnion) (names : List ℕ) (l r : Places) → BindsAll names l → BindsAll names r → row_eq (key_of names l) (key_of names r) ≡ false → merge l r ≡ []
apart u names l r a b differ = by (compatible l r) refl
  where
    by : (x : Bool) → compatible l r ≡ x → merge l r ≡ []
    by true e = absurd (true≢false (sym (one_key u names l r a b e) ∙ differ))
    by false e = rw e refl

-- ---- rows that bind no other name

same_rows : (r s : Places) → length r ≡ length s → ((n : ℕ) → term_at r n ≡ term_at s n) → r ≡ s
same_rows [] [] e h = refl
same_rows [] (p ∷ s) e h = absurd (omega (arith, e))
same_rows (o ∷ r) [] e h = absurd (omega (arith, e))
same_rows (o ∷ r) (p ∷ s) e h = cons_same o p r s (h zero) (same_rows r s (omega (arith, e)) (λ n. h (suc n)))

key_at : (names : List ℕ) (r s : Places) (n : ℕ) → Contains names n → row_eq (key_of names r) (key_of names s) ≡ true → term_at r n ≡ term_at s n
key_at [] r s n h e = absurd (none_in n h)
key_at (m ∷ names) r s n h e =
    let both = and_parts (place_eq (term_at r m) (term_at s m)) (row_eq (key_of names r) (key_of names s)) e in
    by (head_or_tail m n names h) (place_same (term_at r m) (term_at s m) both.0) (λ more. key_at names r s n more both.1)
  where
    by : (m ≡ n) ⊎ Contains names n → term_at r m ≡ term_at s m → (Contains names n → term_at r n ≡ term_at s n) → term_at r n ≡ term_at s n
    by (inl is) here later = subst (λ k. term_at r k ≡ term_at s k) is here
    by (inr more) here later = later more

by_names : (o p : Option Term) → ((t : Term) → o ≡ Some t → o ≡ p) → ((t : Term) → p ≡ Some t → o ≡ p) → o ≡ p
by_names None None f g = refl
by_names None (Some u) f g = g u refl
by_names (Some t) p f g = f t refl

-- their keys are equal exactly where they are
pub key_decides : (names : List ℕ) (r s : Places) → length r ≡ length s → BindsOnly names r → BindsOnly names s → row_eq (key_of names r) (key_of names s) ≡ row_eq r s
key_decides names r s long a b =
    same_truth (row_eq (key_of names r) (key_of names s)) (row_eq r s)
    (λ e. subst (λ (x : Places). row_eq r x ≡ true) (same_rows r s long (λ n. by_names (term_at r n) (term_at s n) (λ t h. key_at names r s n (a n (t, h)) e) (λ t h. key_at names r s n (b n (t, h)) e))) (row_self r))
    (λ e. subst (λ (x : Places). row_eq (key_of names r) (key_of names x) ≡ true) (row_same r s e) (row_self (key_of names r)))
