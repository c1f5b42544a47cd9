-- Several worlds together are a world: that of the union of their triples.
use Rattle.std.proofs.Common.{ℕ, zero, suc, ◌≡◌, ◌+◌, ◌<◌, ◌≤◌, ◌^◌, ◌⊎◌, inl, inr, nat_lt, ◌&&◌, Bool, true, false, if◌then◌else◌, List, [], ◌∷◌, ◌++◌, length, map, refl, ap, sym, subst, ◌∙◌, arith, append-nil, append_assoc, ⊎_elim}
use Rattle.std.specs.List.{filter, flat_map, list_any, All, Contains}
use Rattle.std.specs.List.Sorted.{IsPermutation, IsStrictlySortedBy}
use Rattle.std.specs.Ordering.{is_eq}
use Rattle.std.specs.declared.cmp.Ordering.TheVariants.{Equal}
use Rattle.std.proofs.lemmas.Bool.{and_from, and_parts, cases_lt}
use Rattle.std.proofs.lemmas.Bool.Decides.{nat_tests}
use Rattle.std.proofs.lemmas.List.Elements.{All-nil, All-cons, All-head, All-tail, All-contains, Contains-append_left, Contains-append_right, Contains-append_cases}
use Rattle.std.proofs.lemmas.List.Kept.{IsStrictlySortedBy-filter}
use Rattle.std.proofs.lemmas.List.Sorted.{IsPermutation-sym, Contains-permutation}
use Rattle.list_laws.proofs.Members.{at_head, in_tail, head_or_tail, none_in, in_filter, from_filter, in_flat_map, from_flat_map, Contains-map, from_map, any_of, some_of}
use Rattle.list_laws.proofs.Told.{one_list}
use Rattle.rdf_terms.specs.declared.term.Triple.{Triple}
use Rattle.rdf_terms.specs.declared.slots.Slots.{Slots}
use Rattle.rdf_terms.specs.Fragments.{sorted}
use Rattle.rdf_terms.specs.Order.{triple_order}
use Rattle.rdf_terms.specs.OrderLaws.{triple_total, triple_equal, triple_ties}
use Rattle.rdf_terms.specs.Same.{triple_eq}
use Rattle.rdf_terms.specs.Selections.{Selection, all_of}
use Rattle.rdf_terms.specs.Slots.{matches}
use Rattle.rdf_terms.specs.Valid.{IsValidTriple}
use Rattle.rdf_terms.proofs.Selected.{sorted_is, ascends, no_slots}
use Rattle.rdf_terms.proofs.Equality.{eq_same}
use Rattle.bgp_core.specs.Solutions.{distinct_after}
use Rattle.request_plan.specs.Worlds.{World, IsWorld, numbers, items_after}
use Rattle.plan_laws.specs.JointWorlds.{WorldsAreJoined, union, joint_count, joint_last, items_at, all_items, taken_before, joint_items, holds, joint_keeps, several_world}
use Rattle.request_plan.proofs.Pages.{items-first}
use Rattle.plan_laws.proofs.Servers.{Apart, AllApart, sorted-turned}

-- ---- triples in their order, each once

pub from-sorted : (xs : List Triple) (t : Triple) → Contains (sorted triple_order xs) t → Contains xs t
from-sorted xs t h = (((sorted_is xs).members t).0 h).0

pub in-sorted : (xs : List Triple) (t : Triple) → Contains xs t → Contains (sorted triple_order xs) t
in-sorted xs t h = ((sorted_is xs).members t).1 (h, record { subject = tt; predicate = tt; object = tt })

-- data in their order are the union of themselves alone
pub one-union : (set : List Triple) → IsStrictlySortedBy triple_order set → union (set ∷ []) ≡ set
unfolding union
one-union set up =
    ap (λ (l : List Triple). sorted triple_order l) (append-nil set)
    ∙ one_list triple_total (sorted triple_order set) set (ascends set) up (λ t m. from-sorted set t m) (λ t m. in-sorted set t m)

-- ---- triples, each once

abbrev Stands : List Triple → Triple → Bool
Stands before t = list_any (λ s. triple_eq s t) before

eq-itself : (t : Triple) → triple_eq t t ≡ true
eq-itself t = triple_ties t t ∙ ap is_eq ((triple_equal t t).1 refl)

in-stands : (before : List Triple) (t : Triple) → Contains before t → Stands before t ≡ true
in-stands before t h = any_of (λ s. triple_eq s t) before t h (eq-itself t)

stands-in : (before : List Triple) (t : Triple) → Stands before t ≡ true → Contains before t
stands-in before t h = let r = some_of (λ s. triple_eq s t) before h in subst (λ (x : Triple). Contains before x) (eq_same r.0 t r.2) r.1

-- those that are new were among all
pub from-after : (before ts : List Triple) (t : Triple) → Contains (distinct_after before ts) t → Contains ts t
from-after before [] t h = h
from-after before (x ∷ xs) t h = by (λ m. in_tail x t xs (from-after (before ++ x ∷ []) xs t m)) (Stands before x) h where
  by : (Contains (distinct_after (before ++ x ∷ []) xs) t → Contains (x ∷ xs) t) → (b : Bool) → Contains ((if b then [] else x ∷ []) ++ distinct_after (before ++ x ∷ []) xs) t → Contains (x ∷ xs) t
  by more true k = more k
  by more false k = ⊎_elim (λ (e : x ≡ t). subst (λ (y : Triple). Contains (x ∷ xs) y) e (at_head x xs)) more (head_or_tail x t (distinct_after (before ++ x ∷ []) xs) k)

-- none of them stands before
new-alone : (before ts : List Triple) (t : Triple) → Contains (distinct_after before ts) t → Contains before t → ⊥
new-alone before [] t h k = none_in t h
new-alone before (x ∷ xs) t h k = by (λ m. new-alone (before ++ x ∷ []) xs t m (Contains-append_left before (x ∷ []) t k)) (Stands before x) refl h where
  here : Stands before x ≡ false → x ≡ t → ⊥
  here e s = let one = in-stands before x (subst (λ (y : Triple). Contains before y) (sym s) k) in cc

  by : (Contains (distinct_after (before ++ x ∷ []) xs) t → ⊥) → (b : Bool) → Stands before x ≡ b → Contains ((if b then [] else x ∷ []) ++ distinct_after (before ++ x ∷ []) xs) t → ⊥
  by later true e m = later m
  by later false e m = ⊎_elim (here e) later (head_or_tail x t (distinct_after (before ++ x ∷ []) xs) m)

-- a list and what is new of it, one step on
module _ (before xs : List Triple) (x t : Triple) where
  abbrev IsLater : Type 0
  IsLater = Contains (distinct_after (before ++ x ∷ []) xs) t

  abbrev IsNew : Bool → Type 0
  IsNew b = Contains ((if b then [] else x ∷ []) ++ distinct_after (before ++ x ∷ []) xs) t

  split-before : Contains (before ++ x ∷ []) t → Contains before t ⊎ (x ≡ t)
  split-before c = ⊎_elim (λ (k : Contains before t). inl k) (λ (k : Contains (x ∷ []) t). inr (⊎_elim (λ (e : x ≡ t). e) (λ (n : Contains [] t). absurd (none_in t n)) (head_or_tail x t [] k))) (Contains-append_cases before (x ∷ []) t c)

  is-later : (b : Bool) → IsLater → IsNew b
  is-later true m = m
  is-later false m = in_tail x t (distinct_after (before ++ x ∷ []) xs) m

  is-first : (b : Bool) → Stands before x ≡ b → Contains before t ⊎ (x ≡ t) → Contains before t ⊎ IsNew b
  is-first b e (inl k) = inl k
  is-first true e (inr s) = inl (subst (λ (y : Triple). Contains before y) s (stands-in before x e))
  is-first false e (inr s) = inr (subst (λ (y : Triple). Contains (x ∷ distinct_after (before ++ x ∷ []) xs) y) s (at_head x (distinct_after (before ++ x ∷ []) xs)))

  one-step : (b : Bool) → Stands before x ≡ b → (Contains xs t → Contains (before ++ x ∷ []) t ⊎ IsLater) → Contains (x ∷ xs) t → Contains before t ⊎ IsNew b
  one-step b e more h = ⊎_elim (λ (q : x ≡ t). is-first b e (inr q)) (λ (m : Contains xs t). ⊎_elim (λ (c : Contains (before ++ x ∷ []) t). is-first b e (split-before c)) (λ (l : IsLater). inr (is-later b l)) (more m)) (head_or_tail x t xs h)

-- each of all stands before or is among them
pub in-after : (before ts : List Triple) (t : Triple) → Contains ts t → Contains before t ⊎ Contains (distinct_after before ts) t
in-after before [] t h = absurd (none_in t h)
in-after before (x ∷ xs) t h = one-step before xs x t (Stands before x) refl (λ m. in-after (before ++ x ∷ []) xs t m) h

-- lists without a repeat
apart-from : (x : Triple) (ys : List Triple) → (Contains ys x → ⊥) → Apart triple_order x ys
apart-from x [] h = All-nil (λ y. triple_order x y ≡ Equal → ⊥)
apart-from x (y ∷ ys) h =
    All-cons (λ z. triple_order x z ≡ Equal → ⊥) y ys (λ e. h (subst (λ (z : Triple). Contains (y ∷ ys) z) (sym ((triple_equal x y).0 e)) (at_head y ys))) (apart-from x ys (λ m. h (in_tail y x ys m)))

new-apart : (before ts : List Triple) → AllApart triple_order (distinct_after before ts)
new-apart before [] = tt
new-apart before (x ∷ xs) = by (new-apart (before ++ x ∷ []) xs) (Stands before x) where
  by : AllApart triple_order (distinct_after (before ++ x ∷ []) xs) → (b : Bool) → AllApart triple_order ((if b then [] else x ∷ []) ++ distinct_after (before ++ x ∷ []) xs)
  by more true = more
  by more false = (apart-from x (distinct_after (before ++ x ∷ []) xs) (λ m. new-alone (before ++ x ∷ []) xs x m (Contains-append_right before (x ∷ []) x (at_head x []))), more)

apart-join : (xs ys : List Triple) → AllApart triple_order xs → AllApart triple_order ys → ((t : Triple) → Contains xs t → Contains ys t → ⊥) → AllApart triple_order (xs ++ ys)
apart-join [] ys a b h = b
apart-join (x ∷ xs) ys a b h = (apart-from x (xs ++ ys) both, apart-join xs ys a.1 b (λ t m n. h t (in_tail x t xs m) n)) where
  own : (zs : List Triple) → Apart triple_order x zs → Contains zs x → ⊥
  own zs p m = All-contains (λ y. triple_order x y ≡ Equal → ⊥) zs x p m ((triple_equal x x).1 refl)

  both : Contains (xs ++ ys) x → ⊥
  both m = ⊎_elim (own xs a.0) (h x (at_head x xs)) (Contains-append_cases xs ys x m)

-- two lists without a repeat and with the same triples, of which one ascends, hold each as often
told : (xs ys : List Triple) → AllApart triple_order xs → IsStrictlySortedBy triple_order ys → ((t : Triple) → Contains xs t → Contains ys t) → ((t : Triple) → Contains ys t → Contains xs t) → IsPermutation ys xs
told xs ys a s f g =
    let same : sorted triple_order xs ≡ ys = one_list triple_total (sorted triple_order xs) ys (ascends xs) s (λ t m. f t (from-sorted xs t m)) (λ t m. in-sorted xs t (g t m)) in
    IsPermutation-sym xs ys (subst (λ (l : List Triple). IsPermutation xs l) same (sorted-turned triple_order xs a))

-- ---- the pages of all worlds

module _ (worlds : List World) (s : Selection) where
  taken-apart : (k : ℕ) → AllApart triple_order (taken_before worlds s k)
  taken-apart zero = tt
  taken-apart (suc k) = apart-join (taken_before worlds s k) (joint_items worlds s k) (taken-apart k) (new-apart (taken_before worlds s k) (all_items worlds s k)) (λ t m n. new-alone (taken_before worlds s k) (all_items worlds s k) t n m)

  from-taken : (k : ℕ) (t : Triple) → Contains (taken_before worlds s k) t → (i : ℕ) × (i < k) × Contains (all_items worlds s i) t
  from-taken zero t h = absurd (none_in t h)
  from-taken (suc k) t h =
      ⊎_elim (λ (m : Contains (taken_before worlds s k) t). let r = from-taken k t m in (r.0, omega (arith, r.1), r.2)) (λ (m : Contains (joint_items worlds s k) t). (k, omega arith, from-after (taken_before worlds s k) (all_items worlds s k) t m))
      (Contains-append_cases (taken_before worlds s k) (joint_items worlds s k) t h)

  in-taken : (k i : ℕ) (t : Triple) → i < k → Contains (all_items worlds s i) t → Contains (taken_before worlds s k) t
  in-taken zero i t h m = absurd (omega (arith, h))
  in-taken (suc k) i t h m = ⊎_elim (λ (l : i < k). Contains-append_left (taken_before worlds s k) (joint_items worlds s k) t (in-taken k i t l m)) late (cases_lt i k) where
    late : k ≤ i → Contains (taken_before worlds s (suc k)) t
    late l =
        let e : i ≡ k = omega (arith, h, l) in
        ⊎_elim (λ (n : Contains (taken_before worlds s k) t). Contains-append_left (taken_before worlds s k) (joint_items worlds s k) t n) (λ (n : Contains (joint_items worlds s k) t). Contains-append_right (taken_before worlds s k) (joint_items worlds s k) t n)
        (in-after (taken_before worlds s k) (all_items worlds s k) t (subst (λ n. Contains (all_items worlds s n) t) e m))

  from-zero : (n : ℕ) → 0 + n ≡ n
  from-zero n = omega arith

  numbers-last : (a n : ℕ) → numbers a (suc n) ≡ numbers a n ++ (a + n) ∷ []
  numbers-last a zero = let e : a ≡ a + 0 = omega arith in ap (λ i. i ∷ []) e
  numbers-last a (suc n) = let e : suc a + n ≡ a + suc n = omega arith in ap (λ l. a ∷ l) (numbers-last (suc a) n ∙ ap (λ i. numbers (suc a) n ++ i ∷ []) e)

  flat-last : (f : ℕ → List Triple) (ns : List ℕ) (n : ℕ) → flat_map f (ns ++ n ∷ []) ≡ flat_map f ns ++ f n
  flat-last f [] n = append-nil (f n)
  flat-last f (m ∷ ns) n = ap (λ l. f m ++ l) (flat-last f ns n) ∙ sym (append_assoc (f m) (flat_map f ns) (f n))

  -- the joint pages, one after another, are what was taken
  pages-are : (n : ℕ) → flat_map (joint_items worlds s) (numbers 0 n) ≡ taken_before worlds s n
  pages-are zero = refl
  pages-are (suc n) = ap (λ l. flat_map (joint_items worlds s) l) (numbers-last 0 n ∙ ap (λ i. numbers 0 n ++ i ∷ []) (from-zero n)) ∙ flat-last (joint_items worlds s) (numbers 0 n) n ∙ ap (λ l. l ++ joint_items worlds s n) (pages-are n)

  pub items-are : items_after (several_world worlds) s 0 ≡ taken_before worlds s (joint_last worlds s)
  items-are = items-first (several_world worlds) s ∙ pages-are (joint_last worlds s)

-- what stands on pages stands on one of them
part-of : (f : ℕ → List Triple) (a n : ℕ) (t : Triple) → Contains (flat_map f (numbers a n)) t → (k : ℕ) × (k < a + n) × Contains (f k) t
part-of f a zero t h = absurd (none_in t h)
part-of f a (suc n) t h =
    ⊎_elim (λ (m : Contains (f a) t). (a, omega arith, m)) (λ (m : Contains (flat_map f (numbers (suc a) n)) t). let r = part-of f (suc a) n t m in (r.0, omega (arith, r.1), r.2)) (Contains-append_cases (f a) (flat_map f (numbers (suc a) n)) t h)

of-part : (f : ℕ → List Triple) (a n k : ℕ) (t : Triple) → a ≤ k → k < a + n → Contains (f k) t → Contains (flat_map f (numbers a n)) t
of-part f a zero k t low high m = absurd (omega (arith, low, high))
of-part f a (suc n) k t low high m = ⊎_elim (λ (l : a < k). Contains-append_right (f a) (flat_map f (numbers (suc a) n)) t (of-part f (suc a) n k t (omega (arith, l)) (omega (arith, high)) m)) here (cases_lt a k) where
  here : k ≤ a → Contains (flat_map f (numbers a (suc n))) t
  here l = let e : k ≡ a = omega (arith, low, l) in Contains-append_left (f a) (flat_map f (numbers (suc a) n)) t (subst (λ i. Contains (f i) t) e m)

last-least : (worlds : List World) (s : Selection) (w : World) → Contains worlds w → w.last s ≤ joint_last worlds s
last-least [] s w h = absurd (none_in w h)
last-least (v ∷ worlds) s w h = ⊎_elim (λ (e : v ≡ w). let l : v.last s ≡ w.last s = ap (λ (x : World). x.last s) e in omega (arith, l)) (λ (m : Contains worlds w). let l = last-least worlds s w m in omega (arith, l)) (head_or_tail v w worlds h)

at-if : (s : Selection) (k : ℕ) (w : World) (t : Triple) (b : Bool) → nat_lt k (w.last s) ≡ b → Contains (if b then w.items s k else []) t → (k < w.last s) × Contains (w.items s k) t
at-if s k w t true e h = (grind (arith, nat_tests), h)
at-if s k w t false e h = absurd (none_in t h)

if-at : (s : Selection) (k : ℕ) (w : World) (t : Triple) (b : Bool) → nat_lt k (w.last s) ≡ b → k < w.last s → Contains (w.items s k) t → Contains (if b then w.items s k else []) t
if-at s k w t true e l h = h
if-at s k w t false e l h = absurd (grind (arith, nat_tests))

abbrev pub triples-in : List World → List (List Triple)
triples-in worlds = map (λ w. w.triples) worlds

abbrev AreWorlds : List World → Type 0
AreWorlds worlds = All IsWorld worlds

-- ---- what is kept

kept-by : (worlds : List World) (rows : List Slots) (t : Triple) (w : World) → Contains worlds w → holds w t ≡ true → w.keeps rows t ≡ true → joint_keeps worlds rows t ≡ true
kept-by worlds rows t w m h k =
    ap (λ (b : Bool). if b then list_any (λ v. holds v t && v.keeps rows t) worlds else true) (any_of (λ v. holds v t) worlds w m h)
    ∙ any_of (λ v. holds v t && v.keeps rows t) worlds w m (and_from (holds w t) (w.keeps rows t) h k)

keeper : (worlds : List World) (rows : List Slots) (t : Triple) (w : World) → Contains worlds w → holds w t ≡ true → joint_keeps worlds rows t ≡ true → (v : World) × Contains worlds v × (holds v t ≡ true) × (v.keeps rows t ≡ true)
keeper worlds rows t w m h k =
    let any = sym (ap (λ (b : Bool). if b then list_any (λ v. holds v t && v.keeps rows t) worlds else true) (any_of (λ v. holds v t) worlds w m h)) ∙ k in
    let r = some_of (λ v. holds v t && v.keeps rows t) worlds any in
    let e = and_parts (holds r.0 t) (r.0.keeps rows t) r.2 in
    (r.0, r.1, e.0, e.1)

kept-where : (worlds : List World) (rows : List Slots) (t : Triple) → ((w : World) → Contains worlds w → w.keeps rows t ≡ true) → (b : Bool) → list_any (λ w. holds w t) worlds ≡ b → joint_keeps worlds rows t ≡ true
kept-where worlds rows t each false e = ap (λ (b : Bool). if b then list_any (λ w. holds w t && w.keeps rows t) worlds else true) e
kept-where worlds rows t each true e = let r = some_of (λ w. holds w t) worlds e in kept-by worlds rows t r.0 r.1 r.2 (each r.0 r.1)

module _ (worlds : List World) (are : AreWorlds worlds) (s : Selection) where
  abbrev joint : List Triple
  joint = taken_before worlds s (joint_last worlds s)

  world-is : (w : World) → Contains worlds w → IsWorld w
  world-is w m = All-contains IsWorld worlds w are m

  -- the matching triples that a world keeps, and that are kept together
  abbrev kept : World → Triple → Bool
  kept w t = matches s.slots t && w.keeps s.rows t

  abbrev all-kept : Triple → Bool
  all-kept t = matches s.slots t && joint_keeps worlds s.rows t

  -- a triple of the joint pages is one of the matching triples that a world keeps
  from-joint : (t : Triple) → Contains joint t → (w : World) × Contains worlds w × Contains (filter (kept w) w.triples) t
  from-joint t h =
      let r = from-taken worlds s (joint_last worlds s) t h in
      let v = from_flat_map (items_at s r.0) worlds t r.2 in
      let p = at-if s r.0 v.0 t (nat_lt r.0 (v.0.last s)) refl v.2 in
      let stands : Contains (items_after v.0 s 0) t = subst (λ (l : List Triple). Contains l t) (sym (items-first v.0 s)) (of-part (v.0.items s) 0 (v.0.last s) r.0 t (omega arith) (omega (arith, p.0)) p.1) in
      (v.0, v.1, Contains-permutation (items_after v.0 s 0) (filter (kept v.0) v.0.triples) t (IsPermutation-sym (filter (kept v.0) v.0.triples) (items_after v.0 s 0) ((world-is v.0 v.1).fragments s)) stands)

  in-joint : (w : World) (t : Triple) → Contains worlds w → Contains (filter (kept w) w.triples) t → Contains joint t
  in-joint w t m h =
      let stands = subst (λ (l : List Triple). Contains l t) (items-first w s) (Contains-permutation (filter (kept w) w.triples) (items_after w s 0) t ((world-is w m).fragments s) h) in
      let p = part-of (w.items s) 0 (w.last s) t stands in
      let most = last-least worlds s w m in
      let low : p.0 < w.last s = omega (arith, p.1) in
      in-taken worlds s (joint_last worlds s) p.0 t (omega (arith, low, most)) (in_flat_map (items_at s p.0) worlds w t m (if-at s p.0 w t (nat_lt p.0 (w.last s)) refl low p.2))

  from-union : (t : Triple) → Contains (union (triples-in worlds)) t → (w : World) × Contains worlds w × Contains w.triples t
  unfolding union
  from-union t h =
      let all = from-sorted (flat_map (λ set. set) (triples-in worlds)) t h in
      let v = from_flat_map (λ (set : List Triple). set) (triples-in worlds) t all in
      let r = from_map (λ (w : World). w.triples) worlds v.0 v.1 in
      (r.0, r.1, subst (λ (l : List Triple). Contains l t) (sym r.2) v.2)

  in-union : (w : World) (t : Triple) → Contains worlds w → Contains w.triples t → Contains (union (triples-in worlds)) t
  unfolding union
  in-union w t m h = in-sorted (flat_map (λ set. set) (triples-in worlds)) t (in_flat_map (λ (set : List Triple). set) (triples-in worlds) w.triples t (Contains-map (λ (x : World). x.triples) worlds w m) h)

  passes : (p : Triple → Bool) (xs : List Triple) (t : Triple) → Contains (filter p xs) t → p t ≡ true
  passes p [] t h = absurd (none_in t h)
  passes p (x ∷ xs) t h = by (λ m. passes p xs t m) (p x) refl h where
    by : (Contains (filter p xs) t → p t ≡ true) → (b : Bool) → p x ≡ b → Contains (if b then x ∷ filter p xs else filter p xs) t → p t ≡ true
    by more true e k = ⊎_elim (λ (q : x ≡ t). ap p (sym q) ∙ e) more (head_or_tail x t (filter p xs) k)
    by more false e k = more k

  union-ascends : IsStrictlySortedBy triple_order (filter all-kept (union (triples-in worlds)))
  unfolding union
  union-ascends = IsStrictlySortedBy-filter triple_order all-kept (sorted triple_order (flat_map (λ set. set) (triples-in worlds))) (ascends (flat_map (λ set. set) (triples-in worlds)))

  -- the joint pages hold the matching triples of the union
  pub joint-turned : IsPermutation (filter all-kept (union (triples-in worlds))) joint
  joint-turned = told joint (filter all-kept (union (triples-in worlds))) (taken-apart worlds s (joint_last worlds s)) union-ascends
      (λ t m.
      let r = from-joint t m in
      let there = from_filter (kept r.0) r.0.triples t r.2 in
      let e = and_parts (matches s.slots t) (r.0.keeps s.rows t) (passes (kept r.0) r.0.triples t r.2) in
      in_filter all-kept (union (triples-in worlds)) t (and_from (matches s.slots t) (joint_keeps worlds s.rows t) e.0 (kept-by worlds s.rows t r.0 r.1 (in-stands r.0.triples t there) e.1)) (in-union r.0 t r.1 there))
      (λ t m.
      let r = from-union t (from_filter all-kept (union (triples-in worlds)) t m) in
      let e = and_parts (matches s.slots t) (joint_keeps worlds s.rows t) (passes all-kept (union (triples-in worlds)) t m) in
      let v = keeper worlds s.rows t r.0 r.1 (in-stands r.0.triples t r.2) e.1 in
      in-joint v.0 t v.1 (in_filter (kept v.0) v.0.triples t (and_from (matches s.slots t) (v.0.keeps s.rows t) e.0 v.3) (stands-in v.0.triples t v.2)))

-- ---- the world

no-member : (xs : List Triple) → ((t : Triple) → Contains xs t → ⊥) → xs ≡ []
no-member [] h = refl
no-member (x ∷ xs) h = absurd (h x (at_head x xs))

some-last : (worlds : List World) → AreWorlds worlds → 0 < length worlds → (s : Selection) → 0 < joint_last worlds s
some-last [] are some s = absurd (omega (arith, some))
some-last (w ∷ worlds) are some s = let h = (All-head IsWorld w worlds are).some s in omega (arith, h)

few-last : (worlds : List World) → AreWorlds worlds → (s : Selection) → joint_last worlds s < 2 ^ 64
few-last [] are s = omega arith
few-last (w ∷ worlds) are s = let h = (All-head IsWorld w worlds are).few s in let k = few-last worlds (All-tail IsWorld w worlds are) s in omega (arith, h, k)

count-none : (worlds : List World) (s : Selection) (w : World) → joint_count worlds s ≡ 0 → Contains worlds w → w.count s ≡ 0
count-none [] s w e m = absurd (none_in w m)
count-none (v ∷ worlds) s w e m = ⊎_elim (λ (q : v ≡ w). let l : v.count s ≡ w.count s = ap (λ (x : World). x.count s) q in omega (arith, e, l)) (λ (n : Contains worlds w). count-none worlds s w (omega (arith, e)) n) (head_or_tail v w worlds m)

last-most : (worlds : List World) (s : Selection) → ((w : World) → Contains worlds w → w.last s ≤ 1) → joint_last worlds s ≤ 1
last-most [] s h = omega arith
last-most (w ∷ worlds) s h = let one = h w (at_head w worlds) in let more = last-most worlds s (λ v m. h v (in_tail w v worlds m)) in omega (arith, one, more)

none-at : (worlds : List World) (s : Selection) (k : ℕ) → ((w : World) → Contains worlds w → w.items s k ≡ []) → all_items worlds s k ≡ []
none-at [] s k h = refl
none-at (w ∷ worlds) s k h = by (none-at worlds s k (λ v m. h v (in_tail w v worlds m))) (nat_lt k (w.last s)) where
  by : all_items worlds s k ≡ [] → (b : Bool) → (if b then w.items s k else []) ++ all_items worlds s k ≡ []
  by more true = ap (λ l. l ++ all_items worlds s k) (h w (at_head w worlds)) ∙ more
  by more false = more

all-valid : (worlds : List World) → AreWorlds worlds → (xs : List Triple) → ((t : Triple) → Contains xs t → (w : World) × Contains worlds w × Contains w.triples t) → All IsValidTriple xs
all-valid worlds are [] h = All-nil IsValidTriple
all-valid worlds are (x ∷ xs) h =
    let r = h x (at_head x xs) in
    All-cons IsValidTriple x xs (All-contains IsValidTriple r.0.triples x (All-contains IsWorld worlds r.0 are r.1).valid r.2) (all-valid worlds are xs (λ t m. h t (in_tail x t xs m)))

several-is-world : (worlds : List World) → AreWorlds worlds → 0 < length worlds → IsWorld (several_world worlds)
several-is-world worlds are some = record {
  fragments = λ s. subst (λ (l : List Triple). IsPermutation (filter (λ t. matches s.slots t && joint_keeps worlds s.rows t) (union (map (λ w. w.triples) worlds))) l) (sym (items-are worlds s)) (joint-turned worlds are s);
  keeps_all = λ t. kept-where worlds [] t (λ w m. (All-contains IsWorld worlds w are m).keeps_all t) (list_any (λ w. holds w t) worlds) refl;
  keeps_rows = λ rows t e. kept-where worlds rows t (λ w m. (All-contains IsWorld worlds w are m).keeps_rows rows t e) (list_any (λ w. holds w t) worlds) refl;
  block = (omega arith, omega arith);
  some = some-last worlds are some;
  few = few-last worlds are;
  alone = λ s e.
      let most = last-most worlds s (λ w m. let one = (All-contains IsWorld worlds w are m).alone s (count-none worlds s w e m) in omega (arith, one)) in
      let least = some-last worlds are some s in
      omega (arith, most, least);
  none = λ s e. ap (λ l. distinct_after [] l) (none-at worlds s 0 (λ w m. (All-contains IsWorld worlds w are m).none s (count-none worlds s w e m)));
  unasked = λ s e. items-are worlds s ∙ no-member (taken_before worlds s (joint_last worlds s)) (λ t m.
      let r = from-joint worlds are s t m in
      let stands = Contains-permutation (filter (λ u. matches s.slots u && r.0.keeps s.rows u) r.0.triples) (items_after r.0 s 0) t ((All-contains IsWorld worlds r.0 are r.1).fragments s) r.2 in
      none_in t (subst (λ (l : List Triple). Contains l t) ((All-contains IsWorld worlds r.0 are r.1).unasked s e) stands));
  valid = all-valid worlds are (union (map (λ w. w.triples) worlds)) (λ t m. from-union worlds are (all_of no_slots) t m);
}

pub joint-is-world : WorldsAreJoined
joint-is-world [] are some = several-is-world [] are some
joint-is-world (w ∷ []) are some = All-head IsWorld w [] are
joint-is-world (w ∷ v ∷ worlds) are some = several-is-world (w ∷ v ∷ worlds) are some
