-- The part of an ordered list that has one key.
use Rattle.std.proofs.Common.{ℕ, ◌≡◌, ◌-◌, ◌<◌, ◌≤◌, Bool, true, false, List, [], ◌∷◌, refl, sym, ap, subst, ◌∙◌, length, get_or, take, drop, arith, ltb}
use Rattle.std.specs.Prelude.{◌≢◌}
use Rattle.std.specs.Borrow.{Bor}
use Rattle.std.specs.List.{Contains}
use Rattle.std.specs.List.Sorted.{IsStrictlySortedBy, IsPartitionedBy}
use Rattle.std.specs.declared.cmp.Ordering.{Ordering}
use Rattle.std.specs.declared.cmp.Ordering.TheVariants.{Less, Equal, Greater}
use Rattle.std.specs.Ordering.{ordering_then}
use Rattle.std.specs.Cmp.{IsTotalOrder}
use Rattle.std.proofs.lemmas.Cmp.{alike_right, on_total, then_total}
use Rattle.list_laws.proofs.Ascending.{ascending_unmap, less_not_greater, pair_less, strict_drop, strict_on, strict_take, then_equal}
use Rattle.list_laws.proofs.Members.{Contains-map, all_from, from_map}
use Rattle.list_laws.proofs.Places.{any_default, between, in_between}
use Rattle.list_laws.proofs.Tests.{not_both_ways}
use Rattle.rdf_terms.specs.declared.term.Term.{Term}
use Rattle.rdf_terms.specs.declared.term.Triple.{Triple}
use Rattle.control_triples.specs.Ranges.{length_order, length_triple_order, pair_order, is_before, goes_before, is_triple_before}
use Rattle.control_triples.specs.LengthLaws.{length_total, length_equal, length_triple_total, length_triple_equal}
use Rattle.control_triples.specs.Parts.{borrowed_triples, objects_in, triple}

-- ---- an element before another goes before a bound where that one does

module _ {K : Type 0} {R : K → K → Ordering} (o : IsTotalOrder R) (w : Bool) (a b c : K) where
  before_by : (p q : Ordering) → R a b ≡ p → R b c ≡ q → p ≢ Greater → is_before w q ≡ true → is_before w (R a c) ≡ true
  before_by Greater q e f not h = absurd (not refl)
  before_by Equal q e f not h = ap (is_before w) (o.congr a b c e ∙ f) ∙ h
  before_by Less Less e f not h = ap (is_before w) (o.trans a b c e f)
  before_by Less Equal e f not h = ap (is_before w) (sym (alike_right o b c a f) ∙ e)
  before_by Less Greater e f not h = absurd (cc)

  pub before_too : R a b ≢ Greater → is_before w (R b c) ≡ true → is_before w (R a c) ≡ true
  before_too not h = before_by (R a b) (R b c) refl refl not h

pub partitioned : {X K : Type 0} {R : K → K → Ordering} (o : IsTotalOrder R) (key : X → K) (xs : List X) (w : Bool) (bound : K) →
    ((i j : ℕ) (d : X) → i < j → j < length xs → R (key (get_or xs i d)) (key (get_or xs j d)) ≢ Greater) → IsPartitionedBy (λ x. is_before w (R (key x) bound)) xs
partitioned {X} {K} {R} o key xs w bound rises i j d l m h = by (ltb i j) refl
  where
    by : (b : Bool) → ltb i j ≡ b → is_before w (R (key (get_or xs i d)) bound) ≡ true
    by true t = before_too o w (key (get_or xs i d)) (key (get_or xs j d)) bound (rises i j d (grind (arith, t)) m) h
    by false t = let same : j ≡ i = grind (arith, t, l) in subst (λ k. is_before w (R (key (get_or xs k d)) bound) ≡ true) same h

-- ---- what stands between two places

equal_by : (o : Ordering) → is_before false o ≡ false → is_before true o ≡ true → o ≡ Equal
equal_by Less h k = absurd (cc)
equal_by Equal h k = refl
equal_by Greater h k = absurd (cc)

module _ {X : Type 0} (c : X → Ordering) (xs : List X) (from to : ℕ) (low : from ≤ length xs) (high : to ≤ length xs)
    (from_before : (k : ℕ) (d : X) → k < from → is_before false (c (get_or xs k d)) ≡ true)
    (from_behind : (k : ℕ) (d : X) → from ≤ k → k < length xs → is_before false (c (get_or xs k d)) ≡ false)
    (to_before : (k : ℕ) (d : X) → k < to → is_before true (c (get_or xs k d)) ≡ true)
    (to_behind : (k : ℕ) (d : X) → to ≤ k → k < length xs → is_before true (c (get_or xs k d)) ≡ false) where
  pub in_part : (x : X) → Contains (take (to - from) (drop from xs)) x → Contains xs x × (c x ≡ Equal)
  in_part x h =
      let r = in_between xs from to x high h in
      let a = r.1 in let b = r.2 in
      let inside : r.0 < length xs = omega (arith, b, high) in
      ((r.0, inside, r.3), equal_by (c x) (subst (λ y. is_before false (c y) ≡ false) r.3 (from_behind r.0 x r.1 inside)) (subst (λ y. is_before true (c y) ≡ true) r.3 (to_before r.0 x r.2)))

  pub part_in : (x : X) → Contains xs x → c x ≡ Equal → Contains (take (to - from) (drop from xs)) x
  part_in x h e = between xs from to h.0 x (lower (ltb h.0 from) refl) (upper (ltb h.0 to) refl) high h.2
    where
      lower : (b : Bool) → ltb h.0 from ≡ b → from ≤ h.0
      lower true t = absurd (not_both_ways _ (subst (λ y. is_before false (c y) ≡ true) h.2 (from_before h.0 x (grind (arith, t)))) (ap (is_before false) e))
      lower false t = grind (arith, t)

      upper : (b : Bool) → ltb h.0 to ≡ b → h.0 < to
      upper true t = grind (arith, t)
      upper false t = absurd (not_both_ways _ (ap (is_before true) e) (subst (λ y. is_before true (c y) ≡ false) h.2 (to_behind h.0 x (grind (arith, t)) h.1)))

  less_before : (o : Ordering) → is_before false o ≡ true → is_before true o ≡ true
  less_before Less h = refl
  less_before Equal h = refl
  less_before Greater h = h

  -- the ends of the part are in order
  in_order_at : X → from ≤ to
  in_order_at d = by (ltb to from) refl
    where
      by : (b : Bool) → ltb to from ≡ b → from ≤ to
      by true t =
          let below : to < from = grind (arith, t) in
          absurd (not_both_ways _ (less_before (c (get_or xs to d)) (from_before to d below)) (to_behind to d (omega arith) (omega (arith, below, low))))
      by false t = grind (arith, t)

  pub in_order : from ≤ to
  in_order = by xs refl
    where
      by : (ys : List X) → ys ≡ xs → from ≤ to
      by [] e = let none : length xs ≡ 0 = ap length (sym e) in omega (arith, none, low)
      by (y ∷ ys) e = in_order_at y

-- ---- control triples

pub pair_total : IsTotalOrder pair_order
pair_total = then_total (on_total (λ (t : Triple). t.subject) length_total) (on_total (λ (t : Triple). t.predicate) length_total)

not_greater : (s p o : Ordering) → ordering_then s (ordering_then p o) ≡ Less → ordering_then s p ≢ Greater
not_greater Less p o h e = less_not_greater e
not_greater Equal Less o h e = less_not_greater e
not_greater Equal Equal o h e = let x : Equal ≡ Greater = e in cc
not_greater Equal Greater o h e = let x : Greater ≡ Less = h in cc
not_greater Greater p o h e = let x : Greater ≡ Less = h in cc

pub triples_parted : (xs : List (Bor Triple)) (w : Bool) (subject predicate : Term) → IsStrictlySortedBy length_triple_order (borrowed_triples xs) → IsPartitionedBy (λ (t : Bor Triple). goes_before w subject predicate t.now) xs
triples_parted xs w subject predicate s =
    partitioned pair_total (λ (t : Bor Triple). t.now) xs w (triple subject predicate subject)
    (λ i j d l m. not_greater (length_order (get_or xs i d).now.subject (get_or xs j d).now.subject) (length_order (get_or xs i d).now.predicate (get_or xs j d).now.predicate) (length_order (get_or xs i d).now.object (get_or xs j d).now.object)
    (pair_less (λ (x y : Bor Triple). length_triple_order x.now y.now) xs (ascending_unmap (λ (t : Bor Triple). t.now) length_triple_order xs s) i j d d l m))

same_pair : (t : Triple) (s p : Term) → ordering_then (length_order t.subject s) (length_order t.predicate p) ≡ Equal → (t.subject ≡ s) × (t.predicate ≡ p)
same_pair t s p h = let e = then_equal _ _ h in ((length_equal t.subject s).0 e.0, (length_equal t.predicate p).0 e.1)

pair_tied : (t : Triple) (s p o : Term) → t ≡ triple s p o → ordering_then (length_order t.subject s) (length_order t.predicate p) ≡ Equal
pair_tied t s p o e =
    let a : length_order t.subject s ≡ Equal = (length_equal t.subject s).1 (ap (λ (x : Triple). x.subject) e) in
    let b : length_order t.predicate p ≡ Equal = (length_equal t.predicate p).1 (ap (λ (x : Triple). x.predicate) e) in
    rw (a, b) refl

same_triple : (t : Triple) (s p o : Term) → t.subject ≡ s → t.predicate ≡ p → t.object ≡ o → t ≡ triple s p o
same_triple t s p o e f h = λ i. record { subject = e i; predicate = f i; object = h i }

both_tied : (a b : Triple) (s p : Term) → (a.subject ≡ s) × (a.predicate ≡ p) → (b.subject ≡ s) × (b.predicate ≡ p) → length_triple_order a b ≡ length_order a.object b.object
both_tied a b s p e f =
    let x : length_order a.subject b.subject ≡ Equal = (length_equal a.subject b.subject).1 (e.0 ∙ sym f.0) in
    let y : length_order a.predicate b.predicate ≡ Equal = (length_equal a.predicate b.predicate).1 (e.1 ∙ sym f.1) in
    ap (λ (o : Ordering). ordering_then o (ordering_then (length_order a.predicate b.predicate) (length_order a.object b.object))) x ∙ ap (λ (o : Ordering). ordering_then o (length_order a.object b.object)) y

module _ (xs : List (Bor Triple)) (s p : Term) (sorted : IsStrictlySortedBy length_triple_order (borrowed_triples xs)) (from to : ℕ) (low : from ≤ length xs) (high : to ≤ length xs)
    (from_before : (k : ℕ) (d : Bor Triple) → k < from → goes_before false s p (get_or xs k d).now ≡ true)
    (from_behind : (k : ℕ) (d : Bor Triple) → from ≤ k → k < length xs → goes_before false s p (get_or xs k d).now ≡ false)
    (to_before : (k : ℕ) (d : Bor Triple) → k < to → goes_before true s p (get_or xs k d).now ≡ true)
    (to_behind : (k : ℕ) (d : Bor Triple) → to ≤ k → k < length xs → goes_before true s p (get_or xs k d).now ≡ false) where
  inside : (t : Bor Triple) → Contains (take (to - from) (drop from xs)) t → Contains xs t × ((t.now.subject ≡ s) × (t.now.predicate ≡ p))
  inside t h =
      let r = in_part (λ (t : Bor Triple). ordering_then (length_order t.now.subject s) (length_order t.now.predicate p)) xs from to low high from_before from_behind to_before to_behind t h in
      (r.0, same_pair t.now s p r.1)

  pub range_has : (o : Term) → Contains (objects_in (take (to - from) (drop from xs))) o → Contains (borrowed_triples xs) (triple s p o)
  range_has o h =
      let found = from_map (λ (t : Bor Triple). t.now.object) (take (to - from) (drop from xs)) o h in
      let t = found.0 in
      let r = inside t found.1 in
      subst (λ (x : Triple). Contains (borrowed_triples xs) x) (same_triple t.now s p o r.1.0 r.1.1 found.2) (Contains-map (λ (t : Bor Triple). t.now) xs t r.0)

  pub has_range : (o : Term) → Contains (borrowed_triples xs) (triple s p o) → Contains (objects_in (take (to - from) (drop from xs))) o
  has_range o h =
      let found = from_map (λ (t : Bor Triple). t.now) xs (triple s p o) h in
      let t = found.0 in
      let there = part_in (λ (t : Bor Triple). ordering_then (length_order t.now.subject s) (length_order t.now.predicate p)) xs from to low high from_before from_behind to_before to_behind t found.1 (pair_tied t.now s p o found.2) in
      subst (λ (x : Term). Contains (objects_in (take (to - from) (drop from xs))) x) (ap (λ (x : Triple). x.object) found.2) (Contains-map (λ (t : Bor Triple). t.now.object) (take (to - from) (drop from xs)) t there)

  pub range_ascends : IsStrictlySortedBy length_order (objects_in (take (to - from) (drop from xs)))
  range_ascends =
      strict_on (λ (t : Bor Triple). t.now.object) length_order (λ (x y : Bor Triple). length_triple_order x.now y.now) (λ (t : Bor Triple). (t.now.subject ≡ s) × (t.now.predicate ≡ p))
      (λ x y e f. both_tied x.now y.now s p e f) (take (to - from) (drop from xs))
      (all_from (λ (t : Bor Triple). (t.now.subject ≡ s) × (t.now.predicate ≡ p)) (take (to - from) (drop from xs)) (λ t h. (inside t h).1))
      (strict_take (λ (x y : Bor Triple). length_triple_order x.now y.now) (to - from) (drop from xs) (strict_drop (λ (x y : Bor Triple). length_triple_order x.now y.now) from xs (ascending_unmap (λ (t : Bor Triple). t.now) length_triple_order xs sorted)))

  pub range_in_order : from ≤ to
  range_in_order = in_order (λ (t : Bor Triple). ordering_then (length_order t.now.subject s) (length_order t.now.predicate p)) xs from to low high from_before from_behind to_before to_behind

-- ---- one triple of the list

pub triples_before : (xs : List (Bor Triple)) (t : Triple) → IsStrictlySortedBy length_triple_order (borrowed_triples xs) → IsPartitionedBy (λ (x : Bor Triple). is_triple_before t x.now) xs
triples_before xs t s =
    partitioned length_triple_total (λ (x : Bor Triple). x.now) xs false t
    (λ i j d l m e. less_not_greater (sym (pair_less (λ (x y : Bor Triple). length_triple_order x.now y.now) xs (ascending_unmap (λ (x : Bor Triple). x.now) length_triple_order xs s) i j d d l m) ∙ e))

module _ (xs : List (Bor Triple)) (t : Triple) (place : ℕ) (s : IsStrictlySortedBy length_triple_order (borrowed_triples xs))
    (before : (k : ℕ) (d : Bor Triple) → k < place → is_triple_before t (get_or xs k d).now ≡ true)
    (behind : (k : ℕ) (d : Bor Triple) → place ≤ k → k < length xs → is_triple_before t (get_or xs k d).now ≡ false) where
  not_below : (k : ℕ) (x : Bor Triple) → get_or xs k x ≡ x → x.now ≡ t → place ≤ k
  not_below k x at same = by (ltb k place) refl
    where
      tied : is_triple_before t x.now ≡ false
      tied = ap (is_before false) ((length_triple_equal x.now t).1 same)

      by : (b : Bool) → ltb k place ≡ b → place ≤ k
      by true e = absurd (not_both_ways _ (subst (λ (y : Bor Triple). is_triple_before t y.now ≡ true) at (before k x (grind (arith, e)))) tied)
      by false e = grind (arith, e)

  not_above : (k : ℕ) (x : Bor Triple) → k < length xs → place ≤ k → get_or xs k x ≡ x → x.now ≡ t → k ≡ place
  not_above k x l low at same = by (ltb place k) refl
    where
      less : place < k → is_triple_before t (get_or xs place x).now ≡ true
      less m =
          ap (is_before false) (ap (λ (y : Triple). length_triple_order (get_or xs place x).now y) (sym (ap (λ (y : Bor Triple). y.now) at ∙ same))
          ∙ pair_less (λ (y z : Bor Triple). length_triple_order y.now z.now) xs (ascending_unmap (λ (y : Bor Triple). y.now) length_triple_order xs s) place k x x m l)

      by : (b : Bool) → ltb place k ≡ b → k ≡ place
      by true e = let m : place < k = grind (arith, e) in absurd (not_both_ways _ (less m) (behind place x (omega arith) (omega (arith, m, l))))
      by false e = let m : k ≤ place = grind (arith, e) in omega (arith, m, low)

  -- the triple stands at the place of the search, if anywhere
  pub triple_at : Contains (borrowed_triples xs) t → (place < length xs) × ((d : Bor Triple) → (get_or xs place d).now ≡ t)
  triple_at h =
      let found = from_map (λ (x : Bor Triple). x.now) xs t h in
      let x = found.0 in
      let k = found.1.0 in
      let low = not_below k x found.1.2 found.2 in
      let here = not_above k x found.1.1 low found.1.2 found.2 in
      let l : place < length xs = subst (λ n. n < length xs) here found.1.1 in
      (l, λ d. ap (λ (y : Bor Triple). y.now) (any_default xs place d x l ∙ subst (λ n. get_or xs n x ≡ x) here found.1.2) ∙ found.2)

pub at_place : (xs : List (Bor Triple)) (n : ℕ) (d : Bor Triple) (t : Triple) → n < length xs → (get_or xs n d).now ≡ t → Contains (borrowed_triples xs) t
at_place xs n d t l e =
    subst (λ (x : Triple). Contains (borrowed_triples xs) x) e (Contains-map (λ (x : Bor Triple). x.now) xs (get_or xs n d) (n, l, any_default xs n (get_or xs n d) d l))
