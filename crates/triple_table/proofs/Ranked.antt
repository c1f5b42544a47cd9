-- Terms in their order, each once, and the ranks of places.
use Rattle.std.proofs.Common.{ℕ, ◌≡◌, ◌≢◌, ◌+◌, ◌-◌, ◌<◌, ◌≤◌, Bool, true, false, eqb, ltb, Result, Ok, Err, List, [], ◌∷◌, ◌++◌, refl, sym, ap, subst, ◌∙◌, zero, suc, length, get_or, set, take, map, arith, length-set, All}
use Rattle.std.specs.Prelude.{IfOk}
use Rattle.std.specs.Borrow.{Bor}
use Rattle.std.specs.List.{Contains, filter_map}
use Rattle.std.specs.List.Sorted.{IsPermutation, IsSortedBy, IsStrictlySortedBy}
use Rattle.std.specs.declared.cmp.Ordering.{Ordering}
use Rattle.std.specs.declared.cmp.Ordering.TheVariants.{Less, Equal, Greater}
use Rattle.std.specs.Cmp.{IsTotalOrder}
use Rattle.std.specs.Ordering.{is_lt, ordering_reverse}
use Rattle.std.proofs.lemmas.Bool.{true≢false}
use Rattle.std.proofs.lemmas.List.{take_more, take_all, map-append, length-map, get_or-map, get_or_default}
use Rattle.std.proofs.lemmas.List.Elements.{All-contains, All-from_recursion, All-get_or, All-map, All-push, All-weaker, Contains-append_left, Contains-append_right, Contains-get_or, recursion_from_All}
use Rattle.std.proofs.lemmas.List.Sorted.{All-permutation, Contains-permutation, IsPermutation-map}
use Rattle.list_laws.proofs.Ascending.{pair_less}
use Rattle.list_laws.proofs.Members.{Contains-map, at_head, from_map, none_in}
use Rattle.rdf_terms.specs.declared.term.Term.{Term}
use Rattle.rdf_terms.specs.declared.term.Term.TheVariants.{Iri}
use Rattle.rdf_terms.specs.declared.term.Triple.{Triple}
use Rattle.rdf_terms.specs.Order.{term_order}
use Rattle.rdf_terms.specs.OrderLaws.{term_total, term_equal}
use Rattle.triple_table.specs.declared.gather.Places.{Places}
use Rattle.triple_table.specs.declared.ids.IdTriple.{IdTriple}
use Rattle.triple_table.specs.declared.ranking.Entry.{Entry}
use Rattle.triple_table.specs.Genid.{skolem, skolem_triple}
use Rattle.triple_table.specs.Ranking.{borrowed_terms, genid_of, ids_of, placed, AreEntries, AreRanked, Gathers, HasRanks, IsEntry, IsGathered, IsPlaced, IsRank, Keeps, SameMembers, StandsAt}
use Rattle.triple_table.specs.Served.{terms_of}
use Rattle.triple_table.specs.Stored.{term_at, triple_at, IsIdTriple, IsRanking}
use Rattle.triple_table.proofs.Gathered.{map_same, same_more, same_trans}

-- ---- one more element above the last

pub strict_push : {X : Type 0} {R : X → X → Ordering} (o : IsTotalOrder R) (xs : List X) (x : X) → IsStrictlySortedBy R xs → ((n : ℕ) (d : X) → n + 1 ≡ length xs → R (get_or xs n d) x ≡ Less) → IsStrictlySortedBy R (xs ++ x ∷ [])
unfolding IsStrictlySortedBy
strict_push o [] x s h = (tt, tt)
strict_push {X} {R} o (y ∷ ys) x s h = (
  recursion_from_All (λ z. R y z ≡ Less) (ys ++ x ∷ []) (All-push (λ z. R y z ≡ Less) ys x (All-from_recursion (λ z. R y z ≡ Less) ys s.0) (first ys s (h (length ys) y (omega arith)))),
  strict_push o ys x s.1 (λ n d l. h (suc n) d (omega (arith, l))),
)
  where
    first : (ys : List X) → IsStrictlySortedBy R (y ∷ ys) → R (get_or (y ∷ ys) (length ys) y) x ≡ Less → R y x ≡ Less
    first [] s l = l
    first (z ∷ zs) s l = o.trans y (get_or (z ∷ zs) (length zs) y) x (pair_less R (y ∷ z ∷ zs) s 0 (suc (length zs)) y y (omega arith) (omega arith)) l

not_less : (o : Ordering) (p : Ordering) → o ≡ ordering_reverse p → is_lt p ≡ false → o ≢ Equal → o ≡ Less
not_less o Less e h n = absurd (true≢false h)
not_less o Equal e h n = absurd (n e)
not_less o Greater e h n = e

pub above_last : (xs : List Term) (x : Term) → ((n : ℕ) → n + 1 ≡ length xs → term_at xs n ≢ x) → IsStrictlySortedBy term_order xs → ((n : ℕ) → n + 1 ≡ length xs → is_lt (term_order x (term_at xs n)) ≡ false) →
    IsStrictlySortedBy term_order (xs ++ x ∷ [])
above_last xs x differs s above =
    strict_push term_total xs x s (λ n d l.
    subst (λ (y : Term). term_order y x ≡ Less) (get_or_default xs n (Iri []) d (omega (arith, l)))
    (not_less (term_order (term_at xs n) x) (term_order x (term_at xs n)) (term_total.antisymm (term_at xs n) x) (above n l) (λ e. differs n l ((term_equal (term_at xs n) x).0 e))))

pub pushed_ascends : (old new : List (Bor Term)) (b : Bor Term) → new ≡ old ++ b ∷ [] → ((n : ℕ) → n + 1 ≡ length (borrowed_terms old) → term_at (borrowed_terms old) n ≢ b.now) → IsStrictlySortedBy term_order (borrowed_terms old) →
    ((n : ℕ) → n + 1 ≡ length (borrowed_terms old) → is_lt (term_order b.now (term_at (borrowed_terms old) n)) ≡ false) → IsStrictlySortedBy term_order (borrowed_terms new)
pushed_ascends old new b e differs s above =
    subst (IsStrictlySortedBy term_order) (sym (ap borrowed_terms e ∙ map-append (λ (t : Bor Term). t.now) old (b ∷ []))) (above_last (borrowed_terms old) b.now differs s above)

-- ---- the last term

pub last_is : (xs : List (Bor Term)) (x : Bor Term) → (length xs ≡ 0 → ⊥) → (n : ℕ) → n + 1 ≡ length (borrowed_terms xs) → term_at (borrowed_terms xs) n ≡ (get_or xs (length xs - 1) x).now
last_is xs x some n m =
    let e = length-map xs (λ (t : Bor Term). t.now) in
    let here : n ≡ length xs - 1 = omega (arith, e, m) in
    get_or-map (λ (t : Bor Term). t.now) xs n x (Iri []) (omega (arith, e, m)) ∙ ap (λ k. (get_or xs k x).now) here

pub some_terms : (xs : List (Bor Term)) → (length xs ≡ 0 → ⊥) → 0 < length (borrowed_terms xs)
some_terms xs some = let e = length-map xs (λ (t : Bor Term). t.now) in omega (arith, e, some)

pub held_last : (xs : List (Bor Term)) (held : ℕ) (t : Term) → held ≡ length xs → 0 < length (borrowed_terms xs) → ((n : ℕ) → n + 1 ≡ length (borrowed_terms xs) → term_at (borrowed_terms xs) n ≡ t) → StandsAt (borrowed_terms xs) (held - 1) t
held_last xs held t h some at =
    let e = length-map xs (λ (b : Bor Term). b.now) in
    record { within = omega (arith, e, h, some); is = at (held - 1) (omega (arith, e, h, some)) }

-- ---- entries

pub is_entry : (terms : List (Bor Term)) (i : ℕ) (x : Bor Term) (e : Entry) → i < length terms → e.term.now ≡ (get_or terms i x).now → e.place ≡ i → IsEntry (borrowed_terms terms) e
is_entry terms i x e l t p = record {
  within = simp length-map (subst (λ k. k < length terms) (sym p) l);
  is = ap (term_at (borrowed_terms terms)) p ∙ get_or-map (λ (b : Bor Term). b.now) terms i x (Iri []) l ∙ sym t;
}

pub all_more : (old new : List Entry) (e : Entry) (i : ℕ) → new ≡ old ++ e ∷ [] → e.place ≡ i → ((k : ℕ) → k < i → Contains (map (λ (e : Entry). e.place) old) k) → (k : ℕ) → k < i + 1 → Contains (map (λ (e : Entry). e.place) new) k
all_more old new e i n p h k l =
    subst (λ (xs : List ℕ). Contains xs k) (sym (ap (map (λ (e : Entry). e.place)) n ∙ map-append (λ (e : Entry). e.place) old (e ∷ []))) (by (ltb k i) refl)
  where
    by : (b : Bool) → ltb k i ≡ b → Contains (map (λ (e : Entry). e.place) old ++ e.place ∷ []) k
    by true t = Contains-append_left (map (λ (e : Entry). e.place) old) (e.place ∷ []) k (h k (grind (arith, t)))
    by false t =
        let same : e.place ≡ k = grind (arith, t, l, p) in
        Contains-append_right (map (λ (e : Entry). e.place) old) (e.place ∷ []) k (subst (λ n. Contains (e.place ∷ []) n) same (at_head e.place []))

pub entries_moved : (terms : List Term) (xs ys : List Entry) → IsPermutation xs ys → AreEntries terms xs → AreEntries terms ys
entries_moved terms xs ys moved h = record {
  each = All-permutation (IsEntry terms) xs ys moved h.each;
  all = λ k l. Contains-permutation (map (λ (e : Entry). e.place) xs) (map (λ (e : Entry). e.place) ys) k (IsPermutation-map (λ (e : Entry). e.place) xs ys moved) (h.all k l);
}

-- ---- the ranks of the first entries

pub record AreRankedTo (terms : List Term) (entries : List Entry) (i : ℕ) (ranked : List Term) (ranks : List ℕ) : Type 0 where
  pub ascending : IsStrictlySortedBy term_order ranked
  pub members : SameMembers ranked (map (λ (e : Entry). e.term.now) (take i entries))
  pub last : (j n : ℕ) (d : Entry) → j + 1 ≡ i → n + 1 ≡ length ranked → term_at ranked n ≡ (get_or entries j d).term.now
  pub each : (j : ℕ) (d : Entry) → j < i → IsRank terms ranked ranks (get_or entries j d).place
  pub len : length ranks ≡ length terms

ascends_none : IsStrictlySortedBy term_order []
unfolding IsStrictlySortedBy
ascends_none = tt

pub ranked_none : (terms : List Term) (entries : List Entry) (ranked : List Term) (ranks : List ℕ) → ranked ≡ [] → length ranks ≡ length terms → AreRankedTo terms entries 0 ranked ranks
ranked_none terms entries ranked ranks e l = subst (λ xs. AreRankedTo terms entries 0 xs ranks) (sym e) record {
  ascending = ascends_none;
  members = λ x. (λ h. h, λ h. h);
  last = λ j n d k m. absurd (omega (arith, k));
  each = λ j d k. absurd (omega (arith, k));
  len = l;
}

pub ranks_at : (terms : List Term) (entries : List Entry) (i : ℕ) (e : Entry) (ranks : List ℕ) → All (IsEntry terms) entries → i < length entries → e ≡ get_or entries i e → (len : ℕ) → len ≡ length ranks → length ranks ≡ length terms → e.place < len
ranks_at terms entries i e ranks each l is len ok same =
    let within = (subst (IsEntry terms) (sym is) (All-get_or (IsEntry terms) entries i e l each)).within in
    omega (arith, within, ok, same)

rank_kept : (terms old new : List Term) (ranks : List ℕ) (k : ℕ) → Keeps old new → IsRank terms old ranks k → IsRank terms new ranks k
rank_kept terms old new ranks k keeps h = record {
  within = let a = keeps.longer in let b = h.within in omega (arith, a, b);
  is = keeps.same (get_or ranks k 0) h.within ∙ h.is;
}

set_there : (xs : List ℕ) (i v d : ℕ) → i < length xs → get_or (set xs i v) i d ≡ v
set_there [] i v d l = absurd (omega arith)
set_there (x ∷ xs) zero v d l = refl
set_there (x ∷ xs) (suc i) v d l = set_there xs i v d (omega arith)

set_other : (xs : List ℕ) (i k v d : ℕ) → k ≢ i → get_or (set xs i v) k d ≡ get_or xs k d
set_other [] i k v d n = refl
set_other (x ∷ xs) zero zero v d n = absurd (n refl)
set_other (x ∷ xs) zero (suc k) v d n = refl
set_other (x ∷ xs) (suc i) zero v d n = refl
set_other (x ∷ xs) (suc i) (suc k) v d n = set_other xs i k v d (λ e. n (ap suc e))

pub rank_set : (terms ranked : List Term) (ranks : List ℕ) (e : Entry) (r : ℕ) → length ranks ≡ length terms → IsEntry terms e → StandsAt ranked r e.term.now → (k : ℕ) → (eqb k e.place ≡ false → IsRank terms ranked ranks k) → IsRank terms ranked (set ranks e.place r) k
rank_set terms ranked ranks e r len entry at k h = by (eqb k e.place) refl
  where
    by : (b : Bool) → eqb k e.place ≡ b → IsRank terms ranked (set ranks e.place r) k
    by true t =
        let same : k ≡ e.place = grind (arith, t) in
        let inside : e.place < length ranks = let w = entry.within in omega (arith, w, len) in
        let is : get_or (set ranks e.place r) k 0 ≡ r = ap (λ i. get_or (set ranks e.place r) i 0) same ∙ set_there ranks e.place r 0 inside in
        record {
          within = subst (λ n. n < length ranked) (sym is) at.within;
          is = ap (term_at ranked) is ∙ at.is ∙ sym entry.is ∙ ap (term_at terms) (sym same);
        }
    by false t =
        let is : get_or (set ranks e.place r) k 0 ≡ get_or ranks k 0 = set_other ranks e.place k r 0 (λ same. grind (arith, t, same)) in
        let old = h t in
        record { within = subst (λ n. n < length ranked) (sym is) old.within; is = ap (term_at ranked) is ∙ old.is }

module _ (terms : List Term) (entries : List Entry) (each : All (IsEntry terms) entries) (sorted : IsSortedBy (λ a b. is_lt (term_order a.term.now b.term.now)) entries) (i : ℕ) (l : i < length entries) (old : List Term) (ranks : List ℕ)
    (h : AreRankedTo terms entries i old ranks) where
  -- the next term is not below the last
  pub not_below : (e : Entry) → e ≡ get_or entries i e → (n : ℕ) → n + 1 ≡ length old → is_lt (term_order e.term.now (term_at old n)) ≡ false
  not_below e is n m = by i refl
    where
      by : (j : ℕ) → j ≡ i → is_lt (term_order e.term.now (term_at old n)) ≡ false
      by zero z =
          let held : Contains old (term_at old n) = Contains-get_or old n (Iri []) (omega (arith, m)) in
          absurd (none_in (term_at old n) (subst (λ k. Contains (map (λ (x : Entry). x.term.now) (take k entries)) (term_at old n)) (sym z) ((h.members (term_at old n)).0 held)))
      by (suc j) z =
          let next : j + 1 ≡ i = omega (arith, z) in
          subst (λ (y : Term). is_lt (term_order e.term.now y) ≡ false) (sym (h.last j n e next m))
          (subst (λ (x : Entry). is_lt (term_order x.term.now (get_or entries j e).term.now) ≡ false) (ap (λ k. get_or entries k e) next ∙ sym is) (sorted j e (omega arith) (omega (arith, next, l))))

  pub ranked_more : (e : Entry) (new : List Term) (r : ℕ) → e ≡ get_or entries i e → Gathers old new e.term.now r → r + 1 ≡ length new → IsStrictlySortedBy term_order new → AreRankedTo terms entries (i + 1) new (set ranks e.place r)
  ranked_more e new r is g last s = record {
    ascending = s;
    members = subst (SameMembers new) (sym (ap (map (λ (x : Entry). x.term.now)) (take_more entries i e l ∙ ap (λ y. take i entries ++ y ∷ []) (sym is)) ∙ map-append (λ (x : Entry). x.term.now) (take i entries) (e ∷ [])))
        (same_trans new (old ++ e.term.now ∷ []) (map (λ (x : Entry). x.term.now) (take i entries) ++ e.term.now ∷ []) g.members (same_more old (map (λ (x : Entry). x.term.now) (take i entries)) (e.term.now ∷ []) h.members));
    last = λ j n d k m.
        let there : n ≡ r = omega (arith, m, last) in
        let here : i ≡ j = omega (arith, k) in
        ap (term_at new) there ∙ g.at.is ∙ ap (λ (x : Entry). x.term.now) (is ∙ get_or_default entries i e d l ∙ ap (λ k. get_or entries k d) here);
    each = λ j d k. rank_set terms new ranks e r h.len entry g.at (get_or entries j d).place (λ n. rank_kept terms old new ranks (get_or entries j d).place g.keeps (h.each j d (before j d k n)));
    len = length-set ranks e.place r ∙ h.len;
  }
    where
      entry : IsEntry terms e
      entry = subst (IsEntry terms) (sym is) (All-get_or (IsEntry terms) entries i e l each)

      before : (j : ℕ) (d : Entry) → j < i + 1 → eqb (get_or entries j d).place e.place ≡ false → j < i
      before j d k n = by (ltb j i) refl
        where
          by : (b : Bool) → ltb j i ≡ b → j < i
          by true t = grind (arith, t)
          by false t =
              let here : i ≡ j = grind (arith, t, k) in
              let same : (get_or entries j d).place ≡ e.place = ap (λ (x : Entry). x.place) (ap (λ k. get_or entries k d) (sym here) ∙ get_or_default entries i d e l ∙ sym is) in
              absurd (grind (arith, n, same))

pub ranked_all : (terms : List Term) (entries : List Entry) (i : ℕ) (ranked : List Term) (ranks : List ℕ) → AreEntries terms entries → length entries ≤ i → AreRankedTo terms entries i ranked ranks → AreRanked terms ranked ranks
ranked_all terms entries i ranked ranks entry past h = record {
  ascending = h.ascending;
  members = same_trans ranked (map (λ (e : Entry). e.term.now) entries) terms (subst (λ (xs : List Entry). SameMembers ranked (map (λ (e : Entry). e.term.now) xs)) (take_all _ _ past) h.members) (λ t. (there t, back t));
  len = h.len;
  each = λ k l. let at = from_map (λ (e : Entry). e.place) entries k (entry.all k l) in rank_at k at.0 at.1 at.2;
}
  where
    there : (t : Term) → Contains (map (λ (e : Entry). e.term.now) entries) t → Contains terms t
    there t c =
        let e = from_map (λ (e : Entry). e.term.now) entries t c in
        let is = All-contains (IsEntry terms) entries e.0 entry.each e.1 in
        subst (Contains terms) (is.is ∙ e.2) (Contains-get_or terms e.0.place (Iri []) is.within)

    back : (t : Term) → Contains terms t → Contains (map (λ (e : Entry). e.term.now) entries) t
    back t c =
        let e = from_map (λ (e : Entry). e.place) entries c.0 (entry.all c.0 c.1) in
        let is = All-contains (IsEntry terms) entries e.0 entry.each e.1 in
        let same : e.0.term.now ≡ t = sym is.is ∙ ap (term_at terms) e.2 ∙ get_or_default terms c.0 (Iri []) t c.1 ∙ c.2 in
        subst (Contains (map (λ (e : Entry). e.term.now) entries)) same (Contains-map (λ (e : Entry). e.term.now) entries e.0 e.1)

    rank_at : (k : ℕ) (e : Entry) → Contains entries e → e.place ≡ k → IsRank terms ranked ranks k
    rank_at k e c p =
        subst (IsRank terms ranked ranks) (ap (λ (x : Entry). x.place) c.2 ∙ p) (h.each c.0 e (let m = c.1 in omega (arith, m, past)))

-- ---- triples by ranks

pub few_copies : (terms : List Term) (slice items : List (Bor Term)) (len most : ℕ) → terms ≡ borrowed_terms slice → slice ≡ items → len ≡ length items → len ≤ most → length terms ≤ most
few_copies terms slice items len most e v ok l =
    let same : length terms ≡ length items = ap length (e ∙ ap borrowed_terms v) ∙ length-map items (λ (t : Bor Term). t.now) in
    omega (arith, same, ok, l)

module _ (authority : List ℕ) (triples : List Triple) (terms ranked : List Term) (places : List Places) (ranks : List ℕ) (g : IsGathered triples terms places) (r : AreRanked (map (skolem authority) terms) ranked ranks) where
  len : length ranks ≡ length terms
  len = r.len ∙ length-map terms (skolem authority)

  in_map : (k : ℕ) → k < length terms → k < length (map (skolem authority) terms)
  in_map k l = let e = length-map terms (skolem authority) in omega (arith, e, l)

  term_is : (k : ℕ) → k < length terms → term_at ranked (get_or ranks k 0) ≡ skolem authority (term_at terms k)
  term_is k l = (r.each k (in_map k l)).is ∙ get_or-map (skolem authority) terms k (Iri []) (Iri []) l

  triple_is : (p : Places) → IsPlaced terms p → triple_at ranked (ids_of ranks p) ≡ skolem_triple authority (placed terms p)
  triple_is p h =
      let d = term_is p.subject h.subject in let e = term_is p.predicate h.predicate in let f = term_is p.object h.object in
      λ i. record { subject = d i; predicate = e i; object = f i }

  map_map : {X Y Z : Type 0} (f : Y → Z) (k : X → Y) (xs : List X) → map f (map k xs) ≡ map (λ x. f (k x)) xs
  map_map f k [] = refl
  map_map f k (x ∷ xs) = let e = map_map f k xs in cc

  pub triples_are : map (triple_at ranked) (map (ids_of ranks) places) ≡ map (skolem_triple authority) triples
  triples_are =
      map_map (triple_at ranked) (ids_of ranks) places
      ∙ map_same (λ p. triple_at ranked (ids_of ranks p)) (λ p. skolem_triple authority (placed terms p)) (IsPlaced terms) triple_is places g.each
      ∙ sym (map_map (skolem_triple authority) (placed terms) places) ∙ ap (map (skolem_triple authority)) g.are

  ids_are : (p : Places) → IsPlaced terms p → IsIdTriple ranked (ids_of ranks p)
  ids_are p h = record {
    subject = (r.each p.subject (in_map p.subject h.subject)).within;
    predicate = (r.each p.predicate (in_map p.predicate h.predicate)).within;
    object = (r.each p.object (in_map p.object h.object)).within;
  }

  pub all_ids : All (IsIdTriple ranked) (map (ids_of ranks) places)
  all_ids = All-map (IsIdTriple ranked) (ids_of ranks) places (All-weaker (IsPlaced terms) (λ p. IsIdTriple ranked (ids_of ranks p)) ids_are places g.each)

  pub all_ranks : All (HasRanks ranks) places
  all_ranks = All-weaker (IsPlaced terms) (HasRanks ranks) (λ p h. let a = h.subject in let b = h.predicate in let c = h.object in record { subject = omega (arith, len, a); predicate = omega (arith, len, b); object = omega (arith, len, c) }) places g.each

  pub ranks_within : All (λ rank. rank < length ranked) ranks
  ranks_within = λ k d l.
      subst (λ n. n < length ranked) (get_or_default ranks k 0 d l) (r.each k (in_map k (omega (arith, len, l)))).within

  terms_served : (ts : List Triple) → terms_of (map (skolem_triple authority) ts) ≡ map (skolem authority) (terms_of ts)
  terms_served [] = refl
  terms_served (t ∷ ts) = ap (λ rest. skolem authority t.subject ∷ skolem authority t.predicate ∷ skolem authority t.object ∷ rest) (terms_served ts)

  mapped : (xs ys : List Term) → SameMembers xs ys → (t : Term) → Contains (map (skolem authority) xs) t → Contains (map (skolem authority) ys) t
  mapped xs ys h t c = let x = from_map (skolem authority) xs t c in subst (Contains (map (skolem authority) ys)) x.2 (Contains-map (skolem authority) ys x.0 ((h x.0).0 x.1))

  turned : (xs ys : List Term) → SameMembers xs ys → SameMembers ys xs
  turned xs ys h t = ((h t).1, (h t).0)

  pub is_ranking : IsRanking (map (skolem_triple authority) triples) ranked
  is_ranking = record {
    ascending = r.ascending;
    members = λ t. (
      λ c. subst (λ (xs : List Term). Contains xs t) (sym (terms_served triples)) (mapped terms (terms_of triples) g.members t ((r.members t).0 c)),
      λ c. (r.members t).1 (mapped (terms_of triples) terms (turned terms (terms_of triples) g.members) t (subst (λ (xs : List Term). Contains xs t) (terms_served triples) c)),
    );
  }

-- ---- from the parts of a call

pub if_ok_both : {A E : Type 0} (r : Result A E) (P Q S : A → Type 0) → IfOk r P → IfOk r Q → ((x : A) → P x → Q x → S x) → IfOk r S
if_ok_both (Ok x) P Q S p q f = f x p q
if_ok_both (Err e) P Q S p q f = tt

pub served_ranked : (authority : List ℕ) (terms one two served four : List (Bor Term)) (genids three ranked : List Term) (ranks : List ℕ) → genids ≡ filter_map (genid_of authority) (borrowed_terms one) → one ≡ terms → two ≡ terms → three ≡ genids →
    ((a : List ℕ) → three ≡ filter_map (genid_of a) (borrowed_terms two) → borrowed_terms served ≡ map (skolem a) (borrowed_terms two)) → four ≡ served → AreRanked (borrowed_terms four) ranked ranks →
    AreRanked (map (skolem authority) (borrowed_terms terms)) ranked ranks
served_ranked authority terms one two served four genids three ranked ranks g o t h s f r =
    subst (λ (xs : List Term). AreRanked xs ranked ranks)
    (ap borrowed_terms f ∙ s authority (h ∙ g ∙ ap (λ (xs : List (Bor Term)). filter_map (genid_of authority) (borrowed_terms xs)) (o ∙ sym t)) ∙ ap (λ (xs : List (Bor Term)). map (skolem authority) (borrowed_terms xs)) t) r

pub ids_moved : (P : List Term → List IdTriple → Type 0) (terms others : List Term) (ids : List IdTriple) (ranks : List ℕ) (places those : List Places) → terms ≡ others → ids ≡ map (ids_of ranks) those → those ≡ places →
    P others (map (ids_of ranks) places) → P terms ids
ids_moved P terms others ids ranks places those e i p h =
    subst (λ (t : List Term). P t ids) (sym e) (subst (P others) (sym (i ∙ ap (map (ids_of ranks)) p)) h)
