-- A range lists the fragment.
use Rattle.std.proofs.Common.{ℕ, ◌≡◌, ◌+◌, ◌-◌, ◌*◌, ◌^◌, ◌<◌, ◌≤◌, Bool, true, false, ltb, leb, suc, List, refl, sym, ap, subst, ◌∙◌, length, get_or, take, drop, map, arith, Option, Some, None}
use Rattle.std.specs.List.{Contains}
use Rattle.std.specs.List.Sorted.{IsStrictlySortedBy}
use Rattle.std.proofs.lemmas.Bool.{true≢false}
use Rattle.std.proofs.lemmas.List.{length-map, get_or-map, get_or-drop, get_or-take}
use Rattle.std.proofs.lemmas.List.Elements.{Contains-get_or, recursion_from_All, All-take, All-drop, All-contains}
use Rattle.std.proofs.Math.Nat.{pow-suc}
use Rattle.list_laws.proofs.Ascending.{strict_drop, strict_on, strict_take}
use Rattle.list_laws.proofs.Members.{Contains-map, from_map}
use Rattle.list_laws.proofs.Places.{between, between_len, in_between}
use Rattle.rdf_terms.specs.declared.term.Term.{Term}
use Rattle.rdf_terms.specs.declared.term.Triple.{Triple}
use Rattle.rdf_terms.specs.Order.{term_order}
use Rattle.rdf_terms.specs.declared.slots.Slots.{Slots}
use Rattle.rdf_terms.specs.Slots.{MatchesSlot, Matches}
use Rattle.rdf_terms.specs.Fragments.{IsFragment}
use Rattle.triple_table.specs.declared.ids.Row.{Row}
use Rattle.triple_table.specs.declared.ids.IdTriple.{IdTriple}
use Rattle.triple_table.specs.declared.ids.IdPattern.{IdPattern}
use Rattle.triple_table.specs.declared.ids.Order.{Order}
use Rattle.triple_table.specs.declared.ids.Order.TheVariants.{Spo, Pos, Osp}
use Rattle.triple_table.specs.declared.ids.Range.{Range}
use Rattle.triple_table.specs.Rows.{key, row_order, row_of, id_triple_of, order_for, order_by, bound_of, goes_before}
use Rattle.triple_table.specs.Stored.{Stored, IsStored, IsOrdered, IsRange, IsIdPattern, IsIdTriple, IsIdOrOpen, term_at, triple_at, triples_by, triples_in, rows_in, listed, slot_at, slots_at}
use Rattle.triple_table.proofs.Bounds.{IsSmall, not_before, is_not_before, up_to, is_up_to}
use Rattle.triple_table.proofs.Patterns.{FitsId, IsSmallId, MatchesIds, pattern, from_bounds, to_bounds, bound_small}
use Rattle.triple_table.proofs.Ranks.{same_rank, rows_cmp, triples_cmp, kind_is}

-- ---- ids and terms

fits_slot : (terms : List Term) (o : Option ℕ) (x : ℕ) → FitsId o x → MatchesSlot (slot_at terms o) (term_at terms x)
fits_slot terms None x h = tt
fits_slot terms (Some y) x h = ap (term_at terms) h

slot_fits : (terms : List Term) → IsStrictlySortedBy term_order terms → (o : Option ℕ) (x : ℕ) → IsIdOrOpen terms o → x < length terms → MatchesSlot (slot_at terms o) (term_at terms x) → FitsId o x
slot_fits terms s None x i l h = tt
slot_fits terms s (Some y) x i l h = same_rank terms s y x i l h

small_id : (terms : List Term) → length terms < 2 ^ 32 → (o : Option ℕ) → IsIdOrOpen terms o → IsSmallId o
small_id terms w None i = tt
small_id terms w (Some y) i = omega (arith, w, i)

small_row : (terms : List Term) → length terms < 2 ^ 32 → (o : Order) (r : Row) → IsIdTriple terms (id_triple_of o r) → IsSmall r
small_row terms w Spo r h = let a = h.subject in let b = h.predicate in let c = h.object in record { first = omega (arith, w, a); second = omega (arith, w, b); third = omega (arith, w, c) }
small_row terms w Pos r h = let a = h.subject in let b = h.predicate in let c = h.object in record { first = omega (arith, w, b); second = omega (arith, w, c); third = omega (arith, w, a) }
small_row terms w Osp r h = let a = h.subject in let b = h.predicate in let c = h.object in record { first = omega (arith, w, c); second = omega (arith, w, a); third = omega (arith, w, b) }

-- the triple of a row, and its row again
pub there_back : (o : Order) (r : Row) → row_of o (id_triple_of o r) ≡ r
there_back Spo r = refl
there_back Pos r = refl
there_back Osp r = refl

pub back_there : (o : Order) (t : IdTriple) → id_triple_of o (row_of o t) ≡ t
back_there Spo t = refl
back_there Pos t = refl
back_there Osp t = refl

bounds_in_order : (a b c : Option ℕ) → key (bound_of (pattern a b c) 0) ≤ key (bound_of (pattern a b c) 4294967295)
unfolding key
bounds_in_order None None None = omega arith
bounds_in_order (Some x) None None = omega arith
bounds_in_order None (Some y) None = omega arith
bounds_in_order None None (Some z) = omega arith
bounds_in_order (Some x) (Some y) None = omega arith
bounds_in_order None (Some y) (Some z) = omega arith
bounds_in_order (Some x) None (Some z) = omega arith
bounds_in_order (Some x) (Some y) (Some z) = omega arith

module _ (s : Stored) (small : length s.terms < 2 ^ 32) (terms_ascend : IsStrictlySortedBy term_order s.terms) (a b c : Option ℕ) (ids : IsIdPattern s (pattern a b c)) (rows : List Row)
    (ordered : IsOrdered s (order_by a b c) rows) (spo : IsOrdered s Spo s.spo) (from to : ℕ) (within : to ≤ length rows)
    (from_before : (k : ℕ) (d : Row) → k < from → goes_before false (row_order (get_or rows k d) (bound_of (pattern a b c) 0)) ≡ true)
    (from_behind : (k : ℕ) (d : Row) → from ≤ k → k < length rows → goes_before false (row_order (get_or rows k d) (bound_of (pattern a b c) 0)) ≡ false)
    (to_before : (k : ℕ) (d : Row) → k < to → goes_before true (row_order (get_or rows k d) (bound_of (pattern a b c) 4294967295)) ≡ true)
    (to_behind : (k : ℕ) (d : Row) → to ≤ k → k < length rows → goes_before true (row_order (get_or rows k d) (bound_of (pattern a b c) 4294967295)) ≡ false) where
  low_small : IsSmall (bound_of (pattern a b c) 0)
  low_small = bound_small a b c 0 (omega arith) (small_id s.terms small a ids.subject) (small_id s.terms small b ids.predicate) (small_id s.terms small c ids.object)

  high_small : IsSmall (bound_of (pattern a b c) 4294967295)
  high_small = bound_small a b c 4294967295 (omega arith) (small_id s.terms small a ids.subject) (small_id s.terms small b ids.predicate) (small_id s.terms small c ids.object)

  row_ids : (r : Row) → Contains rows r → IsIdTriple s.terms (id_triple_of (order_by a b c) r)
  row_ids r h = All-contains (λ (row : Row). IsIdTriple s.terms (id_triple_of (order_by a b c) row)) rows r ordered.ids h

  row_small : (r : Row) → Contains rows r → IsSmall r
  row_small r h = small_row s.terms small (order_by a b c) r (row_ids r h)

  -- the row at a place of the range matches
  place_matches : (j : ℕ) (r : Row) → from ≤ j → j < to → get_or rows j r ≡ r → MatchesIds a b c (id_triple_of (order_by a b c) r)
  place_matches j r l m e =
      let inside : j < length rows = omega (arith, m, within) in
      let is_small = row_small r (j, inside, e) in
      from_bounds a b c r (small_id s.terms small a ids.subject) (small_id s.terms small b ids.predicate) (small_id s.terms small c ids.object) is_small
      (not_before r (bound_of (pattern a b c) 0) is_small low_small (subst (λ x. goes_before false (row_order x (bound_of (pattern a b c) 0)) ≡ false) e (from_behind j r l inside)))
      (up_to r (bound_of (pattern a b c) 4294967295) is_small high_small (subst (λ x. goes_before true (row_order x (bound_of (pattern a b c) 4294967295)) ≡ true) e (to_before j r m)))

  -- a row that matches stands in the range
  match_place : (j : ℕ) (r : Row) → j < length rows → get_or rows j r ≡ r → MatchesIds a b c (id_triple_of (order_by a b c) r) → (from ≤ j) × (j < to)
  match_place j r inside e h = (lower (ltb j from) refl, upper (ltb j to) refl)
    where
      is_small : IsSmall r
      is_small = row_small r (j, inside, e)

      sides : (key (bound_of (pattern a b c) 0) ≤ key r) × (key r ≤ key (bound_of (pattern a b c) 4294967295))
      sides = to_bounds a b c r is_small h

      lower : (t : Bool) → ltb j from ≡ t → from ≤ j
      lower true t = absurd (true≢false (sym (subst (λ x. goes_before false (row_order x (bound_of (pattern a b c) 0)) ≡ true) e (from_before j r (grind (arith, t)))) ∙ is_not_before r (bound_of (pattern a b c) 0) is_small low_small sides.0))
      lower false t = grind (arith, t)

      upper : (t : Bool) → ltb j to ≡ t → j < to
      upper true t = grind (arith, t)
      upper false t = absurd (true≢false (sym (is_up_to r (bound_of (pattern a b c) 4294967295) is_small high_small sides.1) ∙ subst (λ x. goes_before true (row_order x (bound_of (pattern a b c) 4294967295)) ≡ false) e (to_behind j r (grind (arith, t)) inside)))

  made : Row → Triple
  made row = triple_at s.terms (id_triple_of (order_by a b c) row)

  part : List Row
  part = take (to - from) (drop from rows)

  slots : Slots
  slots = slots_at s (pattern a b c)

  -- a listed triple is of the table, and matches
  there : (t : Triple) → Contains (map made part) t → Contains (triples_in s) t × Matches slots t
  unfolding made part slots
  there t h =
      let row = from_map made part t h in
      let at = in_between rows from to row.0 within row.1 in
      let j = at.0 in let l = at.2 in
      let inside : j < length rows = omega (arith, l, within) in
      let fits = place_matches j row.0 at.1 at.2 at.3 in
      let ids_of : IdTriple = id_triple_of (order_by a b c) row.0 in
      let in_spo : Contains s.spo (row_of Spo ids_of) = (ordered.members ids_of).0 (subst (Contains rows) (sym (there_back (order_by a b c) row.0)) (j, inside, at.3)) in (
        subst (Contains (triples_in s)) row.2 (Contains-map (λ (r : Row). triple_at s.terms (id_triple_of Spo r)) s.spo (row_of Spo ids_of) in_spo),
        subst (Matches slots) row.2 record {
          subject = fits_slot s.terms a ids_of.subject fits.subject;
          predicate = fits_slot s.terms b ids_of.predicate fits.predicate;
          object = fits_slot s.terms c ids_of.object fits.object;
        },
      )

  -- a triple of the table that matches is listed
  back : (t : Triple) → Contains (triples_in s) t × Matches slots t → Contains (map made part) t
  unfolding made part slots
  back t h =
      let row = from_map (λ (r : Row). triple_at s.terms (id_triple_of Spo r)) s.spo t h.0 in
      let ids_of : IdTriple = id_triple_of Spo row.0 in
      let id_facts = All-contains (λ (r : Row). IsIdTriple s.terms (id_triple_of Spo r)) s.spo row.0 spo.ids row.1 in
      let held : Contains rows (row_of (order_by a b c) ids_of) = (ordered.members ids_of).1 row.1 in
      let matching = subst (Matches slots) (sym row.2) h.1 in
      let fits : MatchesIds a b c ids_of = record {
        subject = slot_fits s.terms terms_ascend a ids_of.subject ids.subject id_facts.subject matching.subject;
        predicate = slot_fits s.terms terms_ascend b ids_of.predicate ids.predicate id_facts.predicate matching.predicate;
        object = slot_fits s.terms terms_ascend c ids_of.object ids.object id_facts.object matching.object;
      } in
      let at = match_place held.0 (row_of (order_by a b c) ids_of) held.1 held.2 (subst (MatchesIds a b c) (sym (back_there (order_by a b c) ids_of)) fits) in
      let found = Contains-map made part (row_of (order_by a b c) ids_of) (between rows from to held.0 (row_of (order_by a b c) ids_of) at.0 at.1 within held.2) in
      subst (Contains (map made part)) (ap (triple_at s.terms) (back_there (order_by a b c) ids_of) ∙ row.2) found

  ascending : IsStrictlySortedBy (triples_cmp (order_by a b c)) (map made part)
  unfolding made part
  ascending =
      strict_on made (triples_cmp (order_by a b c)) row_order (λ (row : Row). IsIdTriple s.terms (id_triple_of (order_by a b c) row)) (rows_cmp s.terms terms_ascend (order_by a b c)) part
      (recursion_from_All (λ (row : Row). IsIdTriple s.terms (id_triple_of (order_by a b c) row)) part (All-take (λ (row : Row). IsIdTriple s.terms (id_triple_of (order_by a b c) row)) (to - from) (drop from rows) (All-drop (λ (row : Row). IsIdTriple s.terms (id_triple_of (order_by a b c) row)) from rows ordered.ids)))
      (strict_take row_order (to - from) (drop from rows) (strict_drop row_order from rows ordered.ascending))

  pub fragment_of_part : IsFragment (triples_in s) (slots_at s (pattern a b c)) (triples_by s.terms (order_by a b c) (take (to - from) (drop from rows)))
  unfolding made part slots
  fragment_of_part = record {
    ascending = subst (λ cmp. IsStrictlySortedBy cmp (map made part)) (sym (kind_is s.terms a b c)) ascending;
    members = λ t. (there t, back t);
  }

  -- no row is before the lower bound and behind the upper one
  crossed : (r : Row) → Contains rows r → goes_before false (row_order r (bound_of (pattern a b c) 0)) ≡ true → goes_before true (row_order r (bound_of (pattern a b c) 4294967295)) ≡ false → ⊥
  crossed r held low high = by (leb (key (bound_of (pattern a b c) 0)) (key r)) refl
    where
      is_small : IsSmall r
      is_small = row_small r held

      by : (t : Bool) → leb (key (bound_of (pattern a b c) 0)) (key r) ≡ t → ⊥
      by true t = true≢false (sym low ∙ is_not_before r (bound_of (pattern a b c) 0) is_small low_small (grind (arith, t)))
      by false t =
          let wide = bounds_in_order a b c in
          true≢false (sym (is_up_to r (bound_of (pattern a b c) 4294967295) is_small high_small (grind (arith, t, wide))) ∙ high)

  -- the places are in order
  pub places_in_order : from ≤ length rows → from ≤ to
  places_in_order inside = by (ltb to from) refl
    where
      r : Row
      r = get_or rows to record { first = 0; second = 0; third = 0 }

      by : (t : Bool) → ltb to from ≡ t → from ≤ to
      by false t = grind (arith, t)
      by true t =
          let less : to < from = grind (arith, t) in
          absurd (crossed r (Contains-get_or rows to record { first = 0; second = 0; third = 0 } (omega (arith, less, inside)))
          (from_before to record { first = 0; second = 0; third = 0 } less) (to_behind to record { first = 0; second = 0; third = 0 } (omega arith) (omega (arith, less, inside))))

-- ---- counts

pub stored_len : (s : Stored) (o : Order) (rows : List Row) → IsOrdered s o rows → length rows ≡ length (triples_in s)
stored_len s o rows h = h.len ∙ sym (length-map s.spo (λ (r : Row). triple_at s.terms (id_triple_of Spo r)))

pub listed_len : (s : Stored) (r : Range) → IsOrdered s r.order (rows_in s r.order) → IsRange s r → length (listed s r) ≡ r.to - r.from
listed_len s r h w =
    let last = w.within in
    length-map (take (r.to - r.from) (drop r.from (rows_in s r.order))) (λ (row : Row). triple_at s.terms (id_triple_of r.order row))
    ∙ between_len (rows_in s r.order) r.from r.to w.order (subst (λ n. r.to ≤ n) (sym (stored_len s r.order (rows_in s r.order) h)) last)

pub listed_at : (s : Stored) (r : Range) (i : ℕ) (row : Row) (d : Triple) → IsOrdered s r.order (rows_in s r.order) → IsRange s r → i < r.to - r.from → ((e : Row) → get_or (rows_in s r.order) (r.from + i) e ≡ row) →
    get_or (listed s r) i d ≡ triple_at s.terms (id_triple_of r.order row)
listed_at s r i row d h w l at =
    let last = w.within in
    let size = between_len (rows_in s r.order) r.from r.to w.order (subst (λ n. r.to ≤ n) (sym (stored_len s r.order (rows_in s r.order) h)) last) in
    get_or-map (λ (x : Row). triple_at s.terms (id_triple_of r.order x)) (take (r.to - r.from) (drop r.from (rows_in s r.order))) i row d (rw size l)
    ∙ ap (λ (x : Row). triple_at s.terms (id_triple_of r.order x)) (get_or-take (r.to - r.from) (drop r.from (rows_in s r.order)) i row l ∙ get_or-drop r.from (rows_in s r.order) i row ∙ at row)

-- the ids of a row of a table
pub row_is_of : (s : Stored) (o : Order) (rows : List Row) (k : ℕ) (row : Row) → IsOrdered s o rows → k < length rows → ((e : Row) → get_or rows k e ≡ row) → IsIdTriple s.terms (id_triple_of o row)
row_is_of s o rows k row h l at = All-contains (λ (r : Row). IsIdTriple s.terms (id_triple_of o r)) rows row h.ids (k, l, at row)

-- ---- binary digits of the number of terms

pub digits_of_terms : (terms triples digits : ℕ) → terms ≤ 3 * triples → triples < 2 ^ digits → terms < 2 ^ (digits + 2)
digits_of_terms terms triples digits h l =
    let e : 2 ^ (digits + 2) ≡ 2 ^ digits * 4 = ap (λ k. 2 ^ k) (omega arith) ∙ pow-suc 2 (suc digits) ∙ ap (λ k. k * 2) (pow-suc 2 digits) ∙ omega arith in
    omega (arith, h, l, e)

-- ---- the two places that a search finds

-- the places before and behind a bound
pub record FoundPlace (w : Bool) (rows : List Row) (bound : Row) (place : ℕ) : Type 0 where
  pub within : place ≤ length rows
  pub before : (k : ℕ) (d : Row) → k < place → goes_before w (row_order (get_or rows k d) bound) ≡ true
  pub behind : (k : ℕ) (d : Row) → place ≤ k → k < length rows → goes_before w (row_order (get_or rows k d) bound) ≡ false

found_fragment : (s : Stored) (h : IsStored s) (p : IdPattern) (ids : IsIdPattern s p) (rows : List Row) → IsOrdered s (order_for p) rows → (from to : ℕ) → FoundPlace false rows (bound_of p 0) from → FoundPlace true rows (bound_of p 4294967295) to →
    IsFragment (triples_in s) (slots_at s p) (triples_by s.terms (order_for p) (take (to - from) (drop from rows)))
found_fragment s h p ids rows ordered from to low high =
    fragment_of_part s h.small h.ranking.ascending p.subject p.predicate p.object ids rows ordered (h.rows Spo) from to high.within low.before low.behind high.before high.behind

found_order : (s : Stored) (h : IsStored s) (p : IdPattern) (ids : IsIdPattern s p) (rows : List Row) → IsOrdered s (order_for p) rows → (from to : ℕ) → FoundPlace false rows (bound_of p 0) from → FoundPlace true rows (bound_of p 4294967295) to → from ≤ to
found_order s h p ids rows ordered from to low high =
    places_in_order s h.small h.ranking.ascending p.subject p.predicate p.object ids rows ordered (h.rows Spo) from to high.within low.before low.behind high.before high.behind low.within

module _ (s : Stored) (h : IsStored s) (p : IdPattern) (ids : IsIdPattern s p) (o : Order) (rows : List Row) (low high : Row) (from to : ℕ) (is_order : o ≡ order_for p) (is_low : low ≡ bound_of p 0) (is_high : high ≡ bound_of p 4294967295)
    (is_rows : rows ≡ rows_in s o) (ordered : IsOrdered s o rows) (below : FoundPlace false rows low from) (above : FoundPlace true rows high to) where
  ordered_for : IsOrdered s (order_for p) rows
  ordered_for = subst (λ x. IsOrdered s x rows) is_order ordered

  below_for : FoundPlace false rows (bound_of p 0) from
  below_for = subst (λ b. FoundPlace false rows b from) is_low below

  above_for : FoundPlace true rows (bound_of p 4294967295) to
  above_for = subst (λ b. FoundPlace true rows b to) is_high above

  pub range_is_range : IsRange s record { order = o; from = from; to = to }
  range_is_range = record {
    order = found_order s h p ids rows ordered_for from to below_for above_for;
    within = subst (λ n. to ≤ n) (stored_len s o rows ordered) above.within;
  }

  pub range_is_fragment : IsFragment (triples_in s) (slots_at s p) (listed s record { order = o; from = from; to = to })
  range_is_fragment =
      subst (λ x. IsFragment (triples_in s) (slots_at s p) (triples_by s.terms x (take (to - from) (drop from (rows_in s o))))) (sym is_order)
      (subst (λ rs. IsFragment (triples_in s) (slots_at s p) (triples_by s.terms (order_for p) (take (to - from) (drop from rs)))) is_rows (found_fragment s h p ids rows ordered_for from to below_for above_for))
