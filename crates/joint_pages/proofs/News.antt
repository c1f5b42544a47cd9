-- Triples that are new, over sets in which the same stand.
use Rattle.std.proofs.Common.{◌≡◌, Bool, true, false, ◌||◌, if◌then◌else◌, List, [], ◌∷◌, ◌++◌, refl, ap, sym, subst, ◌∙◌, append_assoc}
use Rattle.std.specs.List.{list_any}
use Rattle.std.specs.List.Sorted.{IsStrictlySortedBy}
use Rattle.std.specs.Ordering.{ordering_reverse}
use Rattle.std.specs.declared.cmp.Ordering.{Ordering}
use Rattle.std.specs.declared.cmp.Ordering.TheVariants.{Less, Equal, Greater}
use Rattle.std.proofs.lemmas.List.Elements.{Contains-append_right}
use Rattle.list_laws.proofs.Lists.{any_snoc}
use Rattle.list_laws.proofs.Members.{at_head}
use Rattle.list_laws.proofs.Told.{all_in}
use Rattle.rdf_terms.specs.declared.term.Triple.{Triple}
use Rattle.rdf_terms.specs.Fragments.{put_by, put, sorted}
use Rattle.rdf_terms.specs.Order.{triple_order}
use Rattle.rdf_terms.specs.OrderLaws.{triple_total, triple_equal}
use Rattle.rdf_terms.specs.Same.{triple_eq}
use Rattle.rdf_terms.proofs.Equality.{eq_same}
use Rattle.bgp_core.specs.Solutions.{unless_before, distinct_after}
use Rattle.joint_pages.specs.Joined.{added}

-- the triple stands among these
abbrev pub Stands : List Triple → Triple → Bool
Stands set u = list_any (λ s. triple_eq s u) set

-- ---- what stands in a set with one more

twice : (a b : Bool) → (a || b) ≡ (a || (a || b))
twice true b = refl
twice false b = refl

turned : (a b c : Bool) → (a || (b || c)) ≡ (b || (a || c))
turned true true c = refl
turned true false c = refl
turned false true c = refl
turned false false c = refl

pub any-put : (t u : Triple) (set : List Triple) → Stands (put triple_order t set) u ≡ (triple_eq t u || Stands set u)
any-put t u [] = refl
any-put t u (y ∷ ys) = by (triple_order t y) refl (any-put t u ys) where
  by : (o : Ordering) → triple_order t y ≡ o → Stands (put triple_order t ys) u ≡ (triple_eq t u || Stands ys u) → Stands (put_by o t y ys (put triple_order t ys)) u ≡ (triple_eq t u || (triple_eq y u || Stands ys u))
  by Less e h = refl
  by Equal e h = subst (λ (x : Triple). (triple_eq y u || Stands ys u) ≡ (triple_eq x u || (triple_eq y u || Stands ys u))) (sym ((triple_equal t y).0 e)) (twice (triple_eq y u) (Stands ys u))
  by Greater e h = ap (λ (b : Bool). triple_eq y u || b) h ∙ turned (triple_eq y u) (triple_eq t u) (Stands ys u)

pub any-sorted : (xs : List Triple) (u : Triple) → Stands (sorted triple_order xs) u ≡ Stands xs u
any-sorted [] u = refl
any-sorted (x ∷ xs) u = any-put x u (sorted triple_order xs) ∙ ap (λ (b : Bool). triple_eq x u || b) (any-sorted xs u)

-- one that stands among them adds nothing
absorbed : (set : List Triple) (t u : Triple) → Stands set t ≡ true → (triple_eq t u || Stands set u) ≡ Stands set u
absorbed set t u h = by (triple_eq t u) refl where
  by : (b : Bool) → triple_eq t u ≡ b → (b || Stands set u) ≡ Stands set u
  by true e = sym (subst (λ (x : Triple). Stands set x ≡ true) (eq_same t u e) h)
  by false e = refl

-- what stands in the set with a triple put in, unless it stands there, stands in the list with it behind
one-more : (set : List Triple) (t u : Triple) → Stands (added set (unless_before set t)) u ≡ Stands (set ++ t ∷ []) u
one-more set t u = by (Stands set t) refl where
  by : (b : Bool) → Stands set t ≡ b → Stands (added set (if b then [] else t ∷ [])) u ≡ Stands (set ++ t ∷ []) u
  by true e = sym (absorbed set t u e) ∙ sym (any_snoc (λ s. triple_eq s u) set t)
  by false e = any-put t u set ∙ sym (any_snoc (λ s. triple_eq s u) set t)

-- ---- what is new

-- over lists in which the same stand, the same is new
pub distinct-same : (a b ts : List Triple) → ((u : Triple) → Stands a u ≡ Stands b u) → distinct_after a ts ≡ distinct_after b ts
distinct-same a b [] h = refl
distinct-same a b (t ∷ ts) h =
    ap (λ (x : Bool). (if x then [] else t ∷ []) ++ distinct_after (a ++ t ∷ []) ts) (h t)
    ∙ ap (λ (l : List Triple). unless_before b t ++ l) (distinct-same (a ++ t ∷ []) (b ++ t ∷ []) ts (λ u. any_snoc (λ s. triple_eq s u) a t ∙ ap (λ (x : Bool). triple_eq t u || x) (h u) ∙ sym (any_snoc (λ s. triple_eq s u) b t)))

pub added-append : (set xs ys : List Triple) → added set (xs ++ ys) ≡ added (added set xs) ys
added-append set [] ys = refl
added-append set (x ∷ xs) ys = added-append (put triple_order x set) xs ys

-- one triple, and then those behind it
pub new-one : (set : List Triple) (t : Triple) (ts : List Triple) → distinct_after set (t ∷ ts) ≡ unless_before set t ++ distinct_after (added set (unless_before set t)) ts
new-one set t ts = ap (λ (l : List Triple). unless_before set t ++ l) (distinct-same (set ++ t ∷ []) (added set (unless_before set t)) ts (λ u. sym (one-more set t u)))

-- one list, and then the other
pub new-append : (set xs ys : List Triple) → distinct_after set (xs ++ ys) ≡ distinct_after set xs ++ distinct_after (added set (distinct_after set xs)) ys
new-append set [] ys = refl
new-append set (x ∷ xs) ys =
    let one = unless_before set x in
    let after = added set one in
    let more = distinct_after after xs in
    new-one set x (xs ++ ys) ∙ ap (λ (l : List Triple). one ++ l) (new-append after xs ys) ∙ sym (append_assoc one more (distinct_after (added after more) ys))
    ∙ ap (λ (l : List Triple). (one ++ more) ++ distinct_after l ys) (sym (added-append set one more)) ∙ ap (λ (l : List Triple). l ++ distinct_after (added set l) ys) (sym (new-one set x xs))

-- ---- sets in their order

-- the last of an ascending list is put behind the others
pub put-last : (xs : List Triple) (t : Triple) (rest : List Triple) → IsStrictlySortedBy triple_order (xs ++ t ∷ rest) → put triple_order t xs ≡ xs ++ t ∷ []
unfolding IsStrictlySortedBy
put-last [] t rest s = refl
put-last (x ∷ xs) t rest s = by (triple_order t x) less (put-last xs t rest s.1) where
  less : triple_order t x ≡ Greater
  less = triple_total.antisymm t x ∙ ap ordering_reverse (all_in (λ u. triple_order x u ≡ Less) (xs ++ t ∷ rest) t s.0 (Contains-append_right xs (t ∷ rest) t (at_head t rest)))

  by : (o : Ordering) → o ≡ Greater → put triple_order t xs ≡ xs ++ t ∷ [] → put_by o t x xs (put triple_order t xs) ≡ x ∷ xs ++ t ∷ []
  by Less e more = cc
  by Equal e more = cc
  by Greater e more = ap (λ (l : List Triple). x ∷ l) more

-- a set that is copied, one triple after another
pub copied : (copy copy' left rest set : List Triple) (t : Triple) → copy' ≡ put triple_order t copy → left ≡ t ∷ rest → copy ++ left ≡ set → IsStrictlySortedBy triple_order set → copy' ++ rest ≡ set
copied copy copy' left rest set t e f g s =
    let all : copy ++ t ∷ rest ≡ set = ap (λ (l : List Triple). copy ++ l) (sym f) ∙ g in
    let last = put-last copy t rest (subst (λ (l : List Triple). IsStrictlySortedBy triple_order l) (sym all) s) in
    ap (λ (l : List Triple). l ++ rest) (e ∙ last) ∙ append_assoc copy (t ∷ []) rest ∙ all
