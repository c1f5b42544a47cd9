-- Rows put together, place by place and by the pairs of their bound names.
use Rattle.std.proofs.Common.{ℕ, zero, suc, ◌≡◌, ◌<◌, ◌≤◌, ◌+◌, ◌⊎◌, inl, inr, nat_eq, Bool, true, false, if◌then◌else◌, List, [], ◌∷◌, ◌++◌, length, Option, Some, None, get_or, refl, ap, sym, subst, ◌∙◌, arith}
use Rattle.std.specs.Prelude.{nat_lt, ◌↔◌}
use Rattle.std.specs.List.{Contains}
use Rattle.std.proofs.lemmas.Bool.{and_from, and_parts, cases_lt, true≢false}
use Rattle.list_laws.proofs.Options.{none_not_some, some_not_none, some_same}
use Rattle.list_laws.proofs.Lists.{cons_same}
use Rattle.list_laws.proofs.Members.{at_head, in_tail, head_or_tail, none_in, one_of, contains_one, in_flat_map, from_flat_map}
use Rattle.list_laws.proofs.Tests.{same_truth}
use Rattle.rdf_terms.specs.Same.{term_eq}
use Rattle.rdf_terms.specs.declared.term.Term.{Term}
use Rattle.rdf_terms.proofs.Equality.{term_same, term_self}
use Rattle.bgp_core.specs.Solutions.{Places, term_at}
use Rattle.bgp_core.specs.Rows.{term_in, places_from}
use Rattle.bgp_core.specs.Merging.{agree_at, compatible, either, merged, if_kept, kept, Binds, MergingIsUnion}
use Rattle.bgp_core.specs.Pairs.{all_agree, unless_bound, unbound_in, pair_if, kept_pairs, name_if, names_below}
use Rattle.bgp_core.proofs.Places.{places-length, at-within, term-beyond}

-- ---- place by place

agrees_none : (o : Option Term) → agree_at o None ≡ true
agrees_none None = refl
agrees_none (Some t) = refl

either_none : (o : Option Term) → o ≡ either o None
either_none None = refl
either_none (Some t) = refl

pub kept_none : (b : Bool) → None ≡ if_kept b None
kept_none true = refl
kept_none false = refl

compatible_at : (r s : Places) → compatible r s ≡ true → (n : ℕ) → agree_at (term_at r n) (term_at s n) ≡ true
compatible_at [] s h n = refl
compatible_at (o ∷ r) [] h n = agrees_none (term_at (o ∷ r) n)
compatible_at (o ∷ r) (p ∷ s) h zero = (and_parts (agree_at o p) (compatible r s) h).0
compatible_at (o ∷ r) (p ∷ s) h (suc n) = compatible_at r s (and_parts (agree_at o p) (compatible r s) h).1 n

compatible_from : (r s : Places) → ((n : ℕ) → agree_at (term_at r n) (term_at s n) ≡ true) → compatible r s ≡ true
compatible_from [] s h = refl
compatible_from (o ∷ r) [] h = refl
compatible_from (o ∷ r) (p ∷ s) h = and_from (agree_at o p) (compatible r s) (h zero) (compatible_from r s (λ n. h (suc n)))

merged_at : (r s : Places) (n : ℕ) → term_at (merged r s) n ≡ either (term_at r n) (term_at s n)
merged_at [] s n = refl
merged_at (o ∷ r) [] n = either_none (term_at (o ∷ r) n)
merged_at (o ∷ r) (p ∷ s) zero = refl
merged_at (o ∷ r) (p ∷ s) (suc n) = merged_at r s n

pub merged_length : (r s : Places) → length r ≡ length s → length (merged r s) ≡ length r
merged_length [] s h = sym h
merged_length (o ∷ r) [] h = refl
merged_length (o ∷ r) (p ∷ s) h = let e : length (merged r s) ≡ length r = merged_length r s (omega (arith, h)) in omega (arith, e)

pub kept_at : (flags : List Bool) (r : Places) (n : ℕ) → term_at (kept flags r) n ≡ if_kept (get_or flags n true) (term_at r n)
kept_at [] r n = refl
kept_at (b ∷ flags) [] n = kept_none (get_or (b ∷ flags) n true)
kept_at (b ∷ flags) (o ∷ r) zero = refl
kept_at (b ∷ flags) (o ∷ r) (suc n) = kept_at flags r n

pub kept_length : (flags : List Bool) (r : Places) → length (kept flags r) ≡ length r
kept_length [] r = refl
kept_length (b ∷ flags) [] = refl
kept_length (b ∷ flags) (o ∷ r) = let e : length (kept flags r) ≡ length r = kept_length flags r in omega (arith, e)

-- ---- the law

one_term : (o p : Option Term) (t u : Term) → agree_at o p ≡ true → o ≡ Some t → p ≡ Some u → t ≡ u
one_term None p t u h a b = absurd (none_not_some a)
one_term (Some x) None t u h a b = absurd (none_not_some b)
one_term (Some x) (Some y) t u h a b = sym (some_same a) ∙ term_same x y h ∙ some_same b

agrees : (o p : Option Term) → ((t u : Term) → o ≡ Some t → p ≡ Some u → t ≡ u) → agree_at o p ≡ true
agrees None p h = refl
agrees (Some t) None h = refl
agrees (Some t) (Some u) h = subst (λ (x : Term). term_eq t x ≡ true) (h t u refl refl) (term_self t)

pub merging-union : MergingIsUnion
merging-union = record {
  agreeing = λ r s. (
    λ h n t u a b. one_term (term_at r n) (term_at s n) t u (compatible_at r s h n) a b,
    λ h. compatible_from r s (λ n. agrees (term_at r n) (term_at s n) (h n)),
  );
  union = merged_at;
}

-- ---- rows by their pairs

-- a row is the places of pairs that have its terms
same_places : (i n : ℕ) (bs : List (ℕ × Term)) (row : Places) → length row ≡ n → ((k : ℕ) → k < n → term_in (i + k) bs ≡ term_at row k) → places_from i n bs ≡ row
same_places i zero bs [] e h = refl
same_places i zero bs (o ∷ row) e h = absurd (omega (arith, e))
same_places i (suc n) bs [] e h = absurd (omega (arith, e))
same_places i (suc n) bs (o ∷ row) e h =
    let here : i ≡ i + 0 = omega arith in
    let one : term_in i bs ≡ o = ap (λ m. term_in m bs) here ∙ h 0 (omega arith) in
    let rest : places_from (suc i) n bs ≡ row = same_places (suc i) n bs row (omega (arith, e)) (λ k below.
    let there : suc i + k ≡ i + suc k = omega arith in
    ap (λ m. term_in m bs) there ∙ h (suc k) (omega (arith, below))) in
    cons_same (term_in i bs) o (places_from (suc i) n bs) row one rest

row_is : (n : ℕ) (bs : List (ℕ × Term)) (row : Places) → length row ≡ n → ((k : ℕ) → k < n → term_in k bs ≡ term_at row k) → places_from 0 n bs ≡ row
row_is n bs row e h = same_places 0 n bs row e (λ k below.
    let here : 0 + k ≡ k = omega arith in
    ap (λ m. term_in m bs) here ∙ h k below)

row_length : (n : ℕ) (bs : List (ℕ × Term)) (row : Places) → places_from 0 n bs ≡ row → length row ≡ n
row_length n bs row seen = sym (ap length seen) ∙ places-length 0 n bs

-- a name that a row binds is among its pairs, and has a place
bound_in : (n : ℕ) (bs : List (ℕ × Term)) (row : Places) (k : ℕ) (t : Term) → places_from 0 n bs ≡ row → term_at row k ≡ Some t → (k < n) × (term_in k bs ≡ Some t)
bound_in n bs row k t seen e = by (cases_lt k n)
  where
    by : (k < n) ⊎ (n ≤ k) → (k < n) × (term_in k bs ≡ Some t)
    by (inl below) = (below, at-within n bs row k seen below ∙ e)
    by (inr past) = absurd (none_not_some (sym (term-beyond n bs k past) ∙ ap (λ (r : Places). term_at r k) seen ∙ e))

-- a name among two lists of pairs, the first before the second
either_if : (x : Bool) (t : Term) (p q c : Option Term) → p ≡ either q c → (if x then Some t else p) ≡ either (if x then Some t else q) c
either_if true t p q c e = refl
either_if false t p q c e = e

append_in : (bs cs : List (ℕ × Term)) (k : ℕ) → term_in k (bs ++ cs) ≡ either (term_in k bs) (term_in k cs)
append_in [] cs k = refl
append_in (b ∷ bs) cs k = either_if (nat_eq b.0 k) b.1 (term_in k (bs ++ cs)) (term_in k bs) (term_in k cs) (append_in bs cs k)

same_name : (a b : ℕ) → nat_eq a b ≡ true → a ≡ b
same_name a b e = grind (arith, e)

-- ---- compatible by the pairs of one side

all_from : (r s : Places) (bs : List (ℕ × Term)) → ((n : ℕ) → agree_at (term_at r n) (term_at s n) ≡ true) → all_agree r s bs ≡ true
all_from r s [] h = refl
all_from r s (b ∷ bs) h = and_from (agree_at (term_at r b.0) (term_at s b.0)) (all_agree r s bs) (h b.0) (all_from r s bs h)

agrees_at : (r s : Places) (bs : List (ℕ × Term)) (k : ℕ) (t : Term) → all_agree r s bs ≡ true → term_in k bs ≡ Some t → agree_at (term_at r k) (term_at s k) ≡ true
agrees_at r s [] k t h e = absurd (none_not_some e)
agrees_at r s (b ∷ bs) k t h e =
    let parts = and_parts (agree_at (term_at r b.0) (term_at s b.0)) (all_agree r s bs) h in
    by (nat_eq b.0 k) refl e parts.0 (agrees_at r s bs k t parts.1)
  where
    by : (x : Bool) → nat_eq b.0 k ≡ x → (if x then Some b.1 else term_in k bs) ≡ Some t → agree_at (term_at r b.0) (term_at s b.0) ≡ true → (term_in k bs ≡ Some t → agree_at (term_at r k) (term_at s k) ≡ true) → agree_at (term_at r k) (term_at s k) ≡ true
    by true is f here later = subst (λ m. agree_at (term_at r m) (term_at s m) ≡ true) (same_name b.0 k is) here
    by false is f here later = later f

everywhere : (n : ℕ) (bs : List (ℕ × Term)) (r s : Places) → places_from 0 n bs ≡ s → all_agree r s bs ≡ true → (k : ℕ) → agree_at (term_at r k) (term_at s k) ≡ true
everywhere n bs r s seen h k = by (term_at s k) refl
  where
    by : (o : Option Term) → term_at s k ≡ o → agree_at (term_at r k) (term_at s k) ≡ true
    by None e = rw e (agrees_none (term_at r k))
    by (Some t) e = agrees_at r s bs k t h (bound_in n bs s k t seen e).1

pub compatible-is : (n : ℕ) (bs : List (ℕ × Term)) (r s : Places) → places_from 0 n bs ≡ s → all_agree r s bs ≡ compatible r s
compatible-is n bs r s seen =
    same_truth (all_agree r s bs) (compatible r s)
    (λ h. compatible_from r s (everywhere n bs r s seen h))
    (λ h. all_from r s bs (compatible_at r s h))

-- ---- the union of two rows

unbound_one : (x : Bool) (o : Option Term) (c : ℕ × Term) (k : ℕ) → nat_eq c.0 k ≡ x → (x ≡ true → o ≡ None) → term_in k (unless_bound o c) ≡ (if x then Some c.1 else None)
unbound_one true None c k e h = rw e refl
unbound_one true (Some t) c k e h = absurd (some_not_none (h refl))
unbound_one false None c k e h = rw e refl
unbound_one false (Some t) c k e h = refl

either_one : (x : Bool) (t : Term) (o : Option Term) → either (if x then Some t else None) o ≡ (if x then Some t else o)
either_one true t o = refl
either_one false t o = refl

-- a name that the row does not bind
unbound_at : (r : Places) (cs : List (ℕ × Term)) (k : ℕ) → term_at r k ≡ None → term_in k (unbound_in r cs) ≡ term_in k cs
unbound_at r [] k h = refl
unbound_at r (c ∷ cs) k h =
    append_in (unless_bound (term_at r c.0) c) (unbound_in r cs) k ∙
    ap (λ (o : Option Term). either o (term_in k (unbound_in r cs))) (unbound_one (nat_eq c.0 k) (term_at r c.0) c k refl (λ e. subst (λ m. term_at r m ≡ None) (sym (same_name c.0 k e)) h)) ∙
    ap (λ (o : Option Term). either (if nat_eq c.0 k then Some c.1 else None) o) (unbound_at r cs k h) ∙
    either_one (nat_eq c.0 k) c.1 (term_in k cs)

merged_pairs : (n : ℕ) (bs cs : List (ℕ × Term)) (r : Places) (k : ℕ) → places_from 0 n bs ≡ r → k < n → term_in k (bs ++ unbound_in r cs) ≡ either (term_in k bs) (term_in k cs)
merged_pairs n bs cs r k seen below = append_in bs (unbound_in r cs) k ∙ rest (term_in k bs) refl
  where
    rest : (o : Option Term) → term_in k bs ≡ o → either (term_in k bs) (term_in k (unbound_in r cs)) ≡ either (term_in k bs) (term_in k cs)
    rest None e = ap (either (term_in k bs)) (unbound_at r cs k (sym (at-within n bs r k seen below) ∙ e))
    rest (Some t) e = rw e refl

pub merged-is : (n m : ℕ) (bs cs after : List (ℕ × Term)) (r s : Places) → places_from 0 n bs ≡ r → places_from 0 m cs ≡ s → length r ≡ length s → after ≡ bs ++ unbound_in r cs → places_from 0 n after ≡ merged r s
merged-is n m bs cs after r s left right long e =
    let width : length r ≡ n = row_length n bs r left in
    let other : length s ≡ m = row_length m cs s right in
    ap (places_from 0 n) e ∙ row_is n (bs ++ unbound_in r cs) (merged r s) (merged_length r s long ∙ width) (λ k below.
    merged_pairs n bs cs r k left below ∙
    ap (λ (o : Option Term). either o (term_in k cs)) (at-within n bs r k left below) ∙
    ap (either (term_at r k)) (at-within m cs s k right (omega (arith, below, width, other, long))) ∙
    sym (merged_at r s k))

-- ---- a row with some names alone

kept_one : (x f g : Bool) (b : ℕ × Term) (k : ℕ) (rest : Option Term) → nat_eq b.0 k ≡ x → (x ≡ true → f ≡ g) → either (term_in k (pair_if f b)) (if_kept g rest) ≡ if_kept g (if x then Some b.1 else rest)
kept_one true true true b k rest e h = rw e refl
kept_one true true false b k rest e h = absurd (true≢false (h refl))
kept_one true false true b k rest e h = absurd (true≢false (sym (h refl)))
kept_one true false false b k rest e h = refl
kept_one false true true b k rest e h = rw e refl
kept_one false true false b k rest e h = rw e refl
kept_one false false true b k rest e h = refl
kept_one false false false b k rest e h = refl

kept_pairs_in : (flags : List Bool) (bs : List (ℕ × Term)) (k : ℕ) → term_in k (kept_pairs flags bs) ≡ if_kept (get_or flags k true) (term_in k bs)
kept_pairs_in flags [] k = kept_none (get_or flags k true)
kept_pairs_in flags (b ∷ bs) k =
    append_in (pair_if (get_or flags b.0 true) b) (kept_pairs flags bs) k ∙
    ap (either (term_in k (pair_if (get_or flags b.0 true) b))) (kept_pairs_in flags bs k) ∙
    kept_one (nat_eq b.0 k) (get_or flags b.0 true) (get_or flags k true) b k (term_in k bs) refl (λ e. ap (λ m. get_or flags m true) (same_name b.0 k e))

pub kept-is : (n : ℕ) (flags : List Bool) (bs after : List (ℕ × Term)) (r : Places) → places_from 0 n bs ≡ r → after ≡ kept_pairs flags bs → places_from 0 n after ≡ kept flags r
kept-is n flags bs after r seen e =
    ap (places_from 0 n) e ∙ row_is n (kept_pairs flags bs) (kept flags r) (kept_length flags r ∙ row_length n bs r seen) (λ k below.
    kept_pairs_in flags bs k ∙
    ap (if_kept (get_or flags k true)) (at-within n bs r k seen below) ∙
    sym (kept_at flags r k))

-- ---- the names of a row

-- the first pair of a name has it
in_pairs : (bs : List (ℕ × Term)) (k : ℕ) (t : Term) → term_in k bs ≡ Some t → (b : ℕ × Term) × Contains bs b × (b.0 ≡ k)
in_pairs [] k t e = absurd (none_not_some e)
in_pairs (b ∷ bs) k t e = by (nat_eq b.0 k) refl e (in_pairs bs k t)
  where
    by : (x : Bool) → nat_eq b.0 k ≡ x → (if x then Some b.1 else term_in k bs) ≡ Some t → (term_in k bs ≡ Some t → (c : ℕ × Term) × Contains bs c × (c.0 ≡ k)) → (c : ℕ × Term) × Contains (b ∷ bs) c × (c.0 ≡ k)
    by true is f later = (b, at_head b bs, same_name b.0 k is)
    by false is f later = let found = later f in (found.0, in_tail b found.0 bs found.1, found.2)

first_or : (x : Bool) (t : Term) (o : Option Term) → (u : Term) × (o ≡ Some u) → (u : Term) × ((if x then Some t else o) ≡ Some u)
first_or true t o h = (t, refl)
first_or false t o h = h

from_pairs : (bs : List (ℕ × Term)) (b : ℕ × Term) → Contains bs b → (t : Term) × (term_in b.0 bs ≡ Some t)
from_pairs [] b h = absurd (none_in b h)
from_pairs (c ∷ cs) b h = by (head_or_tail c b cs h) (from_pairs cs b)
  where
    by : (c ≡ b) ⊎ Contains cs b → (Contains cs b → (t : Term) × (term_in b.0 cs ≡ Some t)) → (t : Term) × (term_in b.0 (c ∷ cs) ≡ Some t)
    by (inl is) later = (c.1, let same : c.0 ≡ b.0 = ap (λ (x : ℕ × Term). x.0) is in let test : nat_eq c.0 b.0 ≡ true = grind (arith, same) in rw test refl)
    by (inr more) later = first_or (nat_eq c.0 b.0) c.1 (term_in b.0 cs) (later more)

in_name_if : (x : Bool) (n : ℕ) → x ≡ true → Contains (name_if x n) n
in_name_if true n e = contains_one n n refl
in_name_if false n e = absurd (true≢false (sym e))

from_name_if : (x : Bool) (n k : ℕ) → Contains (name_if x n) k → (x ≡ true) × (n ≡ k)
from_name_if true n k h = (refl, one_of n k h)
from_name_if false n k h = absurd (none_in k h)

pub names-are : (n : ℕ) (bs : List (ℕ × Term)) (r : Places) (names : List ℕ) → places_from 0 n bs ≡ r → names ≡ names_below n bs → (k : ℕ) → Contains names k ↔ Binds r k
names-are n bs r names seen e k = (λ h. binds (subst (λ (l : List ℕ). Contains l k) e h), λ h. subst (λ (l : List ℕ). Contains l k) (sym e) (named h))
  where
    binds : Contains (names_below n bs) k → Binds r k
    binds h =
        let found = from_flat_map (λ (b : ℕ × Term). name_if (nat_lt b.0 n) b.0) bs k h in
        let is = from_name_if (nat_lt found.0.0 n) found.0.0 k found.2 in
        let below : found.0.0 < n = grind (arith, is.0) in
        let there = from_pairs bs found.0 found.1 in
        (there.0, subst (λ m. term_at r m ≡ Some there.0) is.1 (sym (at-within n bs r found.0.0 seen below) ∙ there.1))

    named : Binds r k → Contains (names_below n bs) k
    named h =
        let at = bound_in n bs r k h.0 seen h.1 in
        let found = in_pairs bs k h.0 at.1 in
        let below : found.0.0 < n = omega (arith, at.0, found.2) in
        let test : nat_lt found.0.0 n ≡ true = grind (arith, below) in
        subst (Contains (names_below n bs)) found.2 (in_flat_map (λ (b : ℕ × Term). name_if (nat_lt b.0 n) b.0) bs found.0 found.0.0 found.1 (in_name_if (nat_lt found.0.0 n) found.0.0 test))
