-- How many triples patterns match of which no two match one triple.
use Rattle.std.proofs.Common.{ℕ, suc, ◌≡◌, ◌+◌, ◌-◌, ◌^◌, ◌<◌, ◌==◌, ◌&&◌, ◌||◌, Bool, true, false, not, cond, List, [], ◌∷◌, length, min, Option, Some, None, refl, sym, ap, subst, ◌∙◌, ⊎_elim, length-append, arith}
use Rattle.std.specs.Bool.{one_answer}
use Rattle.std.specs.Cmp.{IsTotalOrder}
use Rattle.std.specs.List.{AllByRecursion, AllPairs, Contains, IsDistinct, filter}
use Rattle.std.specs.List.Sorted.{IsStrictlySortedBy}
use Rattle.std.specs.declared.cmp.Ordering.{Ordering}
use Rattle.std.specs.declared.cmp.Ordering.TheVariants.{Less, Equal}
use Rattle.std.proofs.lemmas.Bool.{or_cases, false≢true}
use Rattle.std.proofs.lemmas.Bool.Decides.{Decides-eqb}
use Rattle.std.proofs.lemmas.Cmp.{tied_itself}
use Rattle.std.proofs.lemmas.List.Elements.{recursion_from_All}
use Rattle.std.proofs.lemmas.List.Concat.{flat_map-cons}
use Rattle.std.proofs.lemmas.List.Sums.{count_by-le-length, length-filter}
use Rattle.std.proofs.lemmas.Map.Made.{length-from_same_keys, is_member-Decides}
use Rattle.list_laws.proofs.Ascending.{less_not_equal, strict_filter}
use Rattle.list_laws.proofs.Each.{all_so}
use Rattle.list_laws.proofs.Members.{from_filter, in_filter, passed_filter}
use Rattle.rdf_terms.specs.declared.term.Term.{Term}
use Rattle.rdf_terms.specs.declared.term.Triple.{Triple}
use Rattle.rdf_terms.specs.declared.slots.Slots.{Slots}
use Rattle.rdf_terms.specs.EqualityLaws.{term_decides, triple_decides, triple_equiv}
use Rattle.rdf_terms.specs.Order.{term_order, triple_order}
use Rattle.rdf_terms.specs.OrderLaws.{triple_total}
use Rattle.rdf_terms.specs.Same.{triple_eq}
use Rattle.rdf_terms.specs.Slots.{matches, matches_slot, order_of}
use Rattle.rdf_terms.specs.Fragments.{fragment}
use Rattle.rdf_terms.proofs.FragmentLaws.{fragment_is, matches_decides, order_of_total}
use Rattle.triple_table.specs.declared.ids.IdPattern.{IdPattern}
use Rattle.triple_table.specs.Stored.{Stored, IsIdOrOpen, IsIdPattern, slot_at, slots_at, term_at, triples_in}
use Rattle.triple_table.proofs.Ranks.{same_rank}
use Rattle.restricted_pages.specs.Patterns.{AreWithin, are_apart, differ, gathered, left_of, matches_pattern}
use Rattle.restricted_pages.proofs.Bools.{place_by_place, second_false, third_false}

-- ---- ascending lists with the same triples

differs : {R : Triple → Triple → Ordering} (o : IsTotalOrder R) (x y : Triple) → R x y ≡ Less → triple_eq x y ≡ false
differs {R} o x y less = by (triple_eq x y) refl
  where
    by : (b : Bool) → triple_eq x y ≡ b → b ≡ false
    by true e = absurd (less_not_equal (sym less ∙ subst (λ z. R x z ≡ Equal) ((triple_decides x y).0 e) (tied_itself o x)))
    by false e = refl

distinct : {R : Triple → Triple → Ordering} (o : IsTotalOrder R) (xs : List Triple) → IsStrictlySortedBy R xs → IsDistinct triple_eq xs
unfolding IsStrictlySortedBy IsDistinct
distinct o [] s = tt
distinct {R} o (x ∷ xs) s = (all_so (λ y. R x y ≡ Less) (λ y. triple_eq x y ≡ false) (differs o x) xs s.0, distinct o xs s.1)

-- as many as pass the test, in whatever order
length_is : {R : Triple → Triple → Ordering} (o : IsTotalOrder R) (triples zs : List Triple) (p : Triple → Bool) → IsStrictlySortedBy triple_order triples → IsStrictlySortedBy R zs →
    ((t : Triple) → Contains zs t → Contains triples t × (p t ≡ true)) → ((t : Triple) → Contains triples t → p t ≡ true → Contains zs t) → length zs ≡ length (filter p triples)
length_is o triples zs p ascend s f g =
    length-from_same_keys triple_equiv zs (filter p triples) (distinct o zs s) (distinct triple_total (filter p triples) (strict_filter triple_order p triples ascend)) (λ t.
    let d = is_member-Decides triple_decides (filter p triples) t in
    one_answer _ _ (is_member-Decides triple_decides zs t)
    ((λ h. let c = d.0 h in g t (from_filter p triples t c) (passed_filter p triples t c)), (λ h. let r = f t h in d.1 (in_filter p triples t r.1 r.0))))

-- ---- two tests that no triple passes both

one_length : (p q : Bool) (t : Triple) (xs ys zs : List Triple) → (p && q) ≡ false → length zs ≡ length xs + length ys → length (cond (p || q) (t ∷ zs) zs) ≡ length (cond p (t ∷ xs) xs) + length (cond q (t ∷ ys) ys)
one_length true true t xs ys zs h e = absurd (false≢true (sym h))
one_length true false t xs ys zs h e = omega (arith, e)
one_length false true t xs ys zs h e = omega (arith, e)
one_length false false t xs ys zs h e = e

or_length : (p q : Triple → Bool) → ((t : Triple) → (p t && q t) ≡ false) → (xs : List Triple) → length (filter (λ t. p t || q t) xs) ≡ length (filter p xs) + length (filter q xs)
or_length p q h [] = refl
or_length p q h (t ∷ xs) = one_length (p t) (q t) t (filter p xs) (filter q xs) (filter (λ u. p u || q u) xs) (h t) (or_length p q h xs)

-- ---- patterns that are apart

module _ (s : Stored) (ascend : IsStrictlySortedBy term_order s.terms) where
  not_both : (a b : ℕ) → a < length s.terms → b < length s.terms → not (a == b) ≡ true → (t : Term) → (matches_slot (slot_at s.terms (Some a)) t && matches_slot (slot_at s.terms (Some b)) t) ≡ false
  not_both a b i j h t = by (matches_slot (slot_at s.terms (Some a)) t) (matches_slot (slot_at s.terms (Some b)) t) refl refl
    where
      by : (p q : Bool) → matches_slot (slot_at s.terms (Some a)) t ≡ p → matches_slot (slot_at s.terms (Some b)) t ≡ q → (p && q) ≡ false
      by true true e f =
          let same : a ≡ b = same_rank s.terms ascend a b i j ((term_decides (term_at s.terms a) t).0 e ∙ sym ((term_decides (term_at s.terms b) t).0 f)) in
          absurd (false≢true (ap not (sym ((Decides-eqb a b).1 same)) ∙ h))
      by true false e f = refl
      by false q e f = refl

  slots_apart : (a b : Option ℕ) → IsIdOrOpen s.terms a → IsIdOrOpen s.terms b → differ a b ≡ true → (t : Term) → (matches_slot (slot_at s.terms a) t && matches_slot (slot_at s.terms b) t) ≡ false
  slots_apart None None i j h t = absurd (false≢true h)
  slots_apart None (Some b) i j h t = absurd (false≢true h)
  slots_apart (Some a) None i j h t = absurd (false≢true h)
  slots_apart (Some a) (Some b) i j h t = not_both a b i j h t

  patterns_apart : (p q : IdPattern) → IsIdPattern s p → IsIdPattern s q → are_apart p q ≡ true → (t : Triple) → (matches (slots_at s p) t && matches (slots_at s q) t) ≡ false
  patterns_apart p q i j h t =
      place_by_place (matches_slot (slot_at s.terms p.subject) t.subject) (matches_slot (slot_at s.terms p.predicate) t.predicate) (matches_slot (slot_at s.terms p.object) t.object)
      (matches_slot (slot_at s.terms q.subject) t.subject) (matches_slot (slot_at s.terms q.predicate) t.predicate) (matches_slot (slot_at s.terms q.object) t.object)
      ∙ ⊎_elim (λ d. ap (λ b. b && (predicate && object)) (slots_apart p.subject q.subject i.subject j.subject d t.subject))
      (λ e. ⊎_elim (λ d. ap (λ b. subject && (b && object)) (slots_apart p.predicate q.predicate i.predicate j.predicate d t.predicate) ∙ second_false subject object)
      (λ d. ap (λ b. subject && (predicate && b)) (slots_apart p.object q.object i.object j.object d t.object) ∙ third_false subject predicate)
      (or_cases (differ p.predicate q.predicate) (differ p.object q.object) e)) (or_cases (differ p.subject q.subject) (differ p.predicate q.predicate || differ p.object q.object) h)
    where
      subject : Bool
      subject = matches_slot (slot_at s.terms p.subject) t.subject && matches_slot (slot_at s.terms q.subject) t.subject

      predicate : Bool
      predicate = matches_slot (slot_at s.terms p.predicate) t.predicate && matches_slot (slot_at s.terms q.predicate) t.predicate

      object : Bool
      object = matches_slot (slot_at s.terms p.object) t.object && matches_slot (slot_at s.terms q.object) t.object

  none_of : (b r m : Bool) → (b && m) ≡ false → (b && r) ≡ false → (b && (m || r)) ≡ false
  none_of true r true h k = h
  none_of true r false h k = k
  none_of false r m h k = refl

  apart_from_all : (p : IdPattern) → IsIdPattern s p → (ps : List IdPattern) → AllByRecursion (IsIdPattern s) ps → AllByRecursion (λ q. are_apart p q ≡ true) ps → (t : Triple) → (matches (slots_at s p) t && matches_pattern s ps t) ≡ false
  apart_from_all p i [] j h t = elim (matches (slots_at s p) t) as (λ b. (b && false) ≡ false) [ true ↦ refl | false ↦ refl ]
  apart_from_all p i (q ∷ ps) j h t = none_of (matches (slots_at s p) t) (matches_pattern s ps t) (matches (slots_at s q) t) (patterns_apart p q i j.0 h.0 t) (apart_from_all p i ps j.1 h.1 t)

  -- ---- their triples

  module _ (data_set : IsStrictlySortedBy triple_order (triples_in s)) where
    fragment_length : (slots : Slots) → length (fragment (triples_in s) slots) ≡ length (filter (matches slots) (triples_in s))
    fragment_length slots =
        let f = fragment_is (triples_in s) slots in
        length_is (order_of_total slots) (triples_in s) (fragment (triples_in s) slots) (matches slots) data_set f.ascending
        (λ t h. let m = (f.members t).0 h in (m.0, (matches_decides slots t).1 m.1)) (λ t h e. (f.members t).1 (h, (matches_decides slots t).0 e))

    pairs_tail : (p : IdPattern) (ps : List IdPattern) → AllPairs (λ p q. are_apart p q ≡ true) (p ∷ ps) → AllPairs (λ p q. are_apart p q ≡ true) ps
    pairs_tail p ps h = λ i j d l m. h (suc i) (suc j) d (omega arith) (omega arith)

    pairs_head : (p : IdPattern) (ps : List IdPattern) → AllPairs (λ p q. are_apart p q ≡ true) (p ∷ ps) → AllByRecursion (λ q. are_apart p q ≡ true) ps
    pairs_head p ps h = recursion_from_All (λ q. are_apart p q ≡ true) ps (λ k d l. h 0 (suc k) d (omega arith) (omega arith))

    sum_is : (ps : List IdPattern) → AllByRecursion (IsIdPattern s) ps → AllPairs (λ p q. are_apart p q ≡ true) ps → length (gathered s ps) ≡ length (filter (matches_pattern s ps) (triples_in s))
    sum_is [] i h = sym (none (triples_in s))
      where
        none : (xs : List Triple) → length (filter (matches_pattern s []) xs) ≡ 0
        none [] = refl
        none (x ∷ xs) = none xs
    sum_is (p ∷ ps) i h =
        ap length (flat_map-cons (λ q. fragment (triples_in s) (slots_at s q)) p ps) ∙ length-append (fragment (triples_in s) (slots_at s p)) (gathered s ps)
        ∙ both (length (fragment (triples_in s) (slots_at s p))) (length (gathered s ps)) _ _ (fragment_length (slots_at s p)) (sum_is ps i.1 (pairs_tail p ps h))
        ∙ sym (or_length (matches (slots_at s p)) (matches_pattern s ps) (apart_from_all p i.0 ps i.1 (pairs_head p ps h)) (triples_in s))
      where
        both : (a b c d : ℕ) → a ≡ c → b ≡ d → a + b ≡ c + d
        both a b c d e f = omega (arith, e, f)

    left_length : (slots : Slots) (ps : List IdPattern) → AreWithin s slots ps → length (left_of s slots ps) ≡ length (filter (matches_pattern s ps) (triples_in s))
    left_length slots ps w =
        let f = fragment_is (triples_in s) slots in
        length_is (order_of_total slots) (triples_in s) (left_of s slots ps) (matches_pattern s ps) data_set (strict_filter (order_of slots) (matches_pattern s ps) (fragment (triples_in s) slots) f.ascending)
        (λ t h. (((f.members t).0 (from_filter (matches_pattern s ps) (fragment (triples_in s) slots) t h)).0, passed_filter (matches_pattern s ps) (fragment (triples_in s) slots) t h))
        (λ t h e. in_filter (matches_pattern s ps) (fragment (triples_in s) slots) t e ((f.members t).1 (h, (matches_decides slots t).0 (w.within t h e))))

    -- what they match together, where their number can be told
    pub disjoint_count : (slots : Slots) (ps : List IdPattern) → AreWithin s slots ps → AllPairs (λ p q. are_apart p q ≡ true) ps → (total : ℕ) → total ≡ min (length (gathered s ps)) (2 ^ 64 - 1) → length (triples_in s) < 2 ^ 64 → total ≡ length (left_of s slots ps)
    disjoint_count slots ps w h total e small =
        let same = sum_is ps (recursion_from_All (IsIdPattern s) ps w.ids) h in let left = left_length slots ps w in
        let passed = length-filter (matches_pattern s ps) (triples_in s) in let few = count_by-le-length (matches_pattern s ps) (triples_in s) in
        omega (arith, e, same, left, passed, few, small)
