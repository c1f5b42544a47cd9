-- The definition's program gives a fragment, and it is the only one.
use Rattle.std.proofs.Common.{ℕ, zero, suc, ◌<◌, ◌≡◌, ◌⊎◌, inl, inr, Bool, true, false, ◌&&◌, List, [], ◌∷◌, length, get_or, refl, ap, sym, subst, ◌∙◌, arith}
use Rattle.std.specs.Bool.{Decides}
use Rattle.std.specs.List.{AllByRecursion, Contains, filter}
use Rattle.std.specs.List.Sorted.{IsStrictlySortedBy}
use Rattle.std.specs.Cmp.{IsTotalOrder}
use Rattle.std.proofs.lemmas.Cmp.{on_total, then_total}
use Rattle.std.specs.declared.cmp.Ordering.{Ordering}
use Rattle.std.specs.declared.cmp.Ordering.TheVariants.{Less, Equal, Greater}
use Rattle.std.specs.Ordering.{ordering_reverse}
use Rattle.list_laws.proofs.Ascending.{then_three}
use Rattle.list_laws.proofs.Members.{all_from, in_filter, from_filter, passed_filter}
use Rattle.list_laws.proofs.Told.{all_in, one_list}
use Rattle.rdf_terms.specs.declared.term.Term.{Term}
use Rattle.rdf_terms.specs.declared.term.Triple.{Triple}
use Rattle.rdf_terms.specs.declared.slots.Slot.{Slot}
use Rattle.rdf_terms.specs.declared.slots.Slot.TheVariants.{Any, Fixed}
use Rattle.rdf_terms.specs.declared.slots.Slots.{Slots}
use Rattle.rdf_terms.specs.EqualityLaws.{both, term_decides, same_triple}
use Rattle.rdf_terms.specs.Order.{term_order}
use Rattle.rdf_terms.specs.OrderLaws.{term_total, term_equal, triple_total, triple_equal}
use Rattle.rdf_terms.specs.Slots.{MatchesSlot, Matches, matches_slot, matches, pos_order, osp_order, is_fixed, order_by, order_of}
use Rattle.rdf_terms.specs.Fragments.{IsFragment, put_by, put, sorted, fragment}

-- ---- elements by recursion

abbrev IsIn : Triple → List Triple → Type 0
IsIn t [] = ⊥
IsIn t (x ∷ xs) = (x ≡ t) ⊎ IsIn t xs

past : (k : ℕ) → k < 0 → ⊥
past k h = omega (arith, h)

in_place : (xs : List Triple) (t : Triple) (k : ℕ) → k < length xs → get_or xs k t ≡ t → IsIn t xs
in_place [] t k h e = past k h
in_place (x ∷ xs) t zero h e = inl e
in_place (x ∷ xs) t (suc k) h e = inr (in_place xs t k (omega (arith, h)) e)

is_in : (xs : List Triple) (t : Triple) → Contains xs t → IsIn t xs
is_in xs t c = in_place xs t c.0 c.1 c.2

contains : (xs : List Triple) (t : Triple) → IsIn t xs → Contains xs t
contains [] t h = absurd h
contains (x ∷ xs) t (inl e) = (zero, omega arith, e)
contains (x ∷ xs) t (inr h) = let c = contains xs t h in (suc c.0, omega (arith, c.1), c.2)

holds_in : (P : Triple → Type 0) (xs : List Triple) (t : Triple) → AllByRecursion P xs → IsIn t xs → P t
holds_in P xs t a h = all_in P xs t a (contains xs t h)

holds_from : (P : Triple → Type 0) (xs : List Triple) → ((t : Triple) → IsIn t xs → P t) → AllByRecursion P xs
holds_from P xs f = all_from P xs (λ t c. f t (is_in xs t c))

-- ---- under an order that tells triples apart

module _ (R : Triple → Triple → Ordering) (o : IsTotalOrder R) (tells : (a b : Triple) → R a b ≡ Equal → a ≡ b) where
  put_in : (x : Triple) (xs : List Triple) (t : Triple) → IsIn t (put R x xs) → (x ≡ t) ⊎ IsIn t xs
  put_in x [] t h = h
  put_in x (y ∷ ys) t h = by_order (put_in x ys t) (R x y) h
    where
      turn : (x ≡ t) ⊎ IsIn t ys → (x ≡ t) ⊎ IsIn t (y ∷ ys)
      turn (inl e) = inl e
      turn (inr k) = inr (inr k)

      by_more : (IsIn t (put R x ys) → (x ≡ t) ⊎ IsIn t ys) → (y ≡ t) ⊎ IsIn t (put R x ys) → (x ≡ t) ⊎ IsIn t (y ∷ ys)
      by_more again (inl e) = inr (inl e)
      by_more again (inr k) = turn (again k)

      by_order : (IsIn t (put R x ys) → (x ≡ t) ⊎ IsIn t ys) → (r : Ordering) → IsIn t (put_by r x y ys (put R x ys)) → (x ≡ t) ⊎ IsIn t (y ∷ ys)
      by_order again Less k = k
      by_order again Equal k = inr k
      by_order again Greater k = by_more again k

  put_has : (x : Triple) (xs : List Triple) (t : Triple) → (x ≡ t) ⊎ IsIn t xs → IsIn t (put R x xs)
  put_has x [] t h = h
  put_has x (y ∷ ys) t h = by_order (put_has x ys t) (R x y) refl h
    where
      by_equal : x ≡ y → (x ≡ t) ⊎ IsIn t (y ∷ ys) → IsIn t (y ∷ ys)
      by_equal e (inl k) = inl (sym e ∙ k)
      by_equal e (inr k) = k

      by_more : ((x ≡ t) ⊎ IsIn t ys → IsIn t (put R x ys)) → (x ≡ t) ⊎ IsIn t (y ∷ ys) → IsIn t (y ∷ put R x ys)
      by_more again (inl e) = inr (again (inl e))
      by_more again (inr (inl e)) = inl e
      by_more again (inr (inr k)) = inr (again (inr k))

      by_order : ((x ≡ t) ⊎ IsIn t ys → IsIn t (put R x ys)) → (r : Ordering) → R x y ≡ r → (x ≡ t) ⊎ IsIn t (y ∷ ys) → IsIn t (put_by r x y ys (put R x ys))
      by_order again Less e k = k
      by_order again Equal e k = by_equal (tells x y e) k
      by_order again Greater e k = by_more again k

  put_sorted : (x : Triple) (xs : List Triple) → IsStrictlySortedBy R xs → IsStrictlySortedBy R (put R x xs)
  unfolding IsStrictlySortedBy
  put_sorted x [] s = (tt, tt)
  put_sorted x (y ∷ ys) s = by_order (put_sorted x ys s.1) (R x y) refl
    where
      later : (t : Triple) → R y x ≡ Less → (x ≡ t) ⊎ IsIn t ys → R y t ≡ Less
      later t e (inl k) = subst (λ (u : Triple). R y u ≡ Less) k e
      later t e (inr k) = holds_in (λ u. R y u ≡ Less) ys t s.0 k

      by_order : IsStrictlySortedBy R (put R x ys) → (r : Ordering) → R x y ≡ r → IsStrictlySortedBy R (put_by r x y ys (put R x ys))
      by_order again Less e = ((e, holds_from (λ u. R x u ≡ Less) ys (λ t h. o.trans x y t e (holds_in (λ u. R y u ≡ Less) ys t s.0 h))), s)
      by_order again Equal e = s
      by_order again Greater e =
          let back : R y x ≡ Less = o.antisymm y x ∙ ap ordering_reverse e in
          (holds_from (λ u. R y u ≡ Less) (put R x ys) (λ t h. later t back (put_in x ys t h)), again)

  sorted_sorted : (xs : List Triple) → IsStrictlySortedBy R (sorted R xs)
  unfolding IsStrictlySortedBy
  sorted_sorted [] = tt
  sorted_sorted (x ∷ xs) = put_sorted x (sorted R xs) (sorted_sorted xs)

  sorted_in : (xs : List Triple) (t : Triple) → IsIn t (sorted R xs) → IsIn t xs
  sorted_in [] t h = h
  sorted_in (x ∷ xs) t h = turn (sorted_in xs t) (put_in x (sorted R xs) t h)
    where
      turn : (IsIn t (sorted R xs) → IsIn t xs) → (x ≡ t) ⊎ IsIn t (sorted R xs) → (x ≡ t) ⊎ IsIn t xs
      turn again (inl e) = inl e
      turn again (inr k) = inr (again k)

  sorted_has : (xs : List Triple) (t : Triple) → IsIn t xs → IsIn t (sorted R xs)
  sorted_has [] t h = h
  sorted_has (x ∷ xs) t (inl e) = put_has x (sorted R xs) t (inl e)
  sorted_has (x ∷ xs) t (inr h) = put_has x (sorted R xs) t (inr (sorted_has xs t h))

-- ---- the test of slots

slot_decides : (s : Slot) (t : Term) → Decides (matches_slot s t) (MatchesSlot s t)
slot_decides Any t = ((λ h. tt), (λ h. refl))
slot_decides (Fixed f) t = term_decides f t

pub matches_decides : (slots : Slots) (t : Triple) → Decides (matches slots t) (Matches slots t)
matches_decides slots t =
    let d = both (matches_slot slots.subject t.subject) (matches_slot slots.predicate t.predicate && matches_slot slots.object t.object) (slot_decides slots.subject t.subject)
    (both (matches_slot slots.predicate t.predicate) (matches_slot slots.object t.object) (slot_decides slots.predicate t.predicate) (slot_decides slots.object t.object)) in
    ((λ h. let q = d.0 h in record { subject = q.0; predicate = q.1.0; object = q.1.1 }), (λ m. d.1 (m.subject, (m.predicate, m.object))))

-- ---- the orders of fragments

subjects_total : IsTotalOrder (λ (a b : Triple). term_order a.subject b.subject)
subjects_total = on_total (λ (t : Triple). t.subject) term_total

predicates_total : IsTotalOrder (λ (a b : Triple). term_order a.predicate b.predicate)
predicates_total = on_total (λ (t : Triple). t.predicate) term_total

objects_total : IsTotalOrder (λ (a b : Triple). term_order a.object b.object)
objects_total = on_total (λ (t : Triple). t.object) term_total

pos_total : IsTotalOrder pos_order
pos_total = then_total predicates_total (then_total objects_total subjects_total)

osp_total : IsTotalOrder osp_order
osp_total = then_total objects_total (then_total subjects_total predicates_total)

pos_tells : (a b : Triple) → pos_order a b ≡ Equal → a ≡ b
pos_tells a b h =
    let u = then_three (term_order a.predicate b.predicate) (term_order a.object b.object) (term_order a.subject b.subject) h in
    same_triple a b ((term_equal a.subject b.subject).0 u.2) ((term_equal a.predicate b.predicate).0 u.0) ((term_equal a.object b.object).0 u.1)

osp_tells : (a b : Triple) → osp_order a b ≡ Equal → a ≡ b
osp_tells a b h =
    let u = then_three (term_order a.object b.object) (term_order a.subject b.subject) (term_order a.predicate b.predicate) h in
    same_triple a b ((term_equal a.subject b.subject).0 u.1) ((term_equal a.predicate b.predicate).0 u.2) ((term_equal a.object b.object).0 u.0)

by_total : (s p o : Bool) → IsTotalOrder (order_by s p o)
by_total false false false = triple_total
by_total true false false = triple_total
by_total true true false = triple_total
by_total true true true = triple_total
by_total false true false = pos_total
by_total false true true = pos_total
by_total false false true = osp_total
by_total true false true = osp_total

by_tells : (s p o : Bool) (a b : Triple) → order_by s p o a b ≡ Equal → a ≡ b
by_tells false false false a b h = (triple_equal a b).0 h
by_tells true false false a b h = (triple_equal a b).0 h
by_tells true true false a b h = (triple_equal a b).0 h
by_tells true true true a b h = (triple_equal a b).0 h
by_tells false true false a b h = pos_tells a b h
by_tells false true true a b h = pos_tells a b h
by_tells false false true a b h = osp_tells a b h
by_tells true false true a b h = osp_tells a b h

pub order_of_total : (slots : Slots) → IsTotalOrder (order_of slots)
order_of_total slots = by_total (is_fixed slots.subject) (is_fixed slots.predicate) (is_fixed slots.object)

pub order_of_tells : (slots : Slots) (a b : Triple) → order_of slots a b ≡ Equal → a ≡ b
order_of_tells slots = by_tells (is_fixed slots.subject) (is_fixed slots.predicate) (is_fixed slots.object)

-- ---- fragments

pub fragment_is : (triples : List Triple) (slots : Slots) → IsFragment triples slots (fragment triples slots)
unfolding fragment
fragment_is triples slots = record { ascending = sorted_sorted R o tells found; members = λ t. (inside t, outside t) }
  where
    R : Triple → Triple → Ordering
    R = order_of slots

    found : List Triple
    found = filter (matches slots) triples

    o : IsTotalOrder R
    o = order_of_total slots

    tells : (a b : Triple) → R a b ≡ Equal → a ≡ b
    tells = order_of_tells slots

    inside : (t : Triple) → Contains (sorted R found) t → Contains triples t × Matches slots t
    inside t c =
        let kept = contains found t (sorted_in R o tells found t (is_in (sorted R found) t c)) in
        (from_filter (matches slots) triples t kept, (matches_decides slots t).0 (passed_filter (matches slots) triples t kept))

    outside : (t : Triple) → Contains triples t × Matches slots t → Contains (sorted R found) t
    outside t q = contains (sorted R found) t (sorted_has R o tells found t (is_in found t (in_filter (matches slots) triples t ((matches_decides slots t).1 q.1) q.0)))

-- two fragments of the same triples and slots
pub fragments_same : (triples : List Triple) (slots : Slots) (xs ys : List Triple) → IsFragment triples slots xs → IsFragment triples slots ys → xs ≡ ys
fragments_same triples slots xs ys f g =
    one_list (order_of_total slots) xs ys f.ascending g.ascending (λ t h. (g.members t).1 ((f.members t).0 h)) (λ t h. (f.members t).1 ((g.members t).0 h))

pub fragment_only : (triples : List Triple) (slots : Slots) (items : List Triple) → IsFragment triples slots items → items ≡ fragment triples slots
fragment_only triples slots items f = fragments_same triples slots items (fragment triples slots) f (fragment_is triples slots)
