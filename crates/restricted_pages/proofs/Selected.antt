-- What the patterns leave is what the rows select, page by page.
use Rattle.std.proofs.Common.{ℕ, ◌≡◌, ◌-◌, ◌*◌, ◌≤◌, ◌&&◌, Bool, true, false, cond, List, [], ◌∷◌, map, take, drop, length, All, Option, Some, None, Result, Ok, Err, refl, sym, ap, subst, ◌∙◌, arith}
use Rattle.std.specs.Prelude.{◌↔◌, IfOk}
use Rattle.std.specs.List.{AllByRecursion, Contains, filter}
use Rattle.std.specs.List.Sorted.{IsStrictlySortedBy}
use Rattle.std.proofs.lemmas.List.{drop-map, length-map, take-map}
use Rattle.std.proofs.lemmas.List.Elements.{All-drop, All-from_recursion, All-take}
use Rattle.list_laws.proofs.Ascending.{strict_filter, strict_on}
use Rattle.list_laws.proofs.Members.{Contains-map, all_from, any_of, from_filter, from_flat_map, from_map, in_filter, in_flat_map, passed_filter, some_of}
use Rattle.list_laws.proofs.Tests.{and_first}
use Rattle.list_laws.proofs.Told.{one_list}
use Rattle.rdf_terms.specs.declared.term.Term.{Term}
use Rattle.rdf_terms.specs.declared.term.Triple.{Triple}
use Rattle.rdf_terms.specs.declared.slots.Slots.{Slots}
use Rattle.rdf_terms.specs.Order.{term_order}
use Rattle.rdf_terms.specs.Slots.{is_fixed, matches, order_by, order_of}
use Rattle.rdf_terms.specs.Fragments.{IsFragment, fragment, last_page_of}
use Rattle.rdf_terms.specs.Selections.{matches_one, restricted, selected}
use Rattle.rdf_terms.proofs.FragmentLaws.{fragment_is, matches_decides, order_of_total}
use Rattle.tpf_base.specs.declared.OutOfMemory.{OutOfMemory}
use Rattle.triple_table.specs.declared.ids.IdTriple.{IdTriple}
use Rattle.triple_table.specs.declared.ids.IdPattern.{IdPattern}
use Rattle.triple_table.specs.declared.ids.Order.{Order}
use Rattle.triple_table.specs.declared.ids.Order.TheVariants.{Spo, Pos, Osp}
use Rattle.triple_table.specs.Rows.{row_of}
use Rattle.triple_table.specs.Stored.{Stored, IsIdTriple, slots_at, triple_at, triples_in}
use Rattle.triple_table.proofs.Ranks.{rows_cmp, triples_cmp}
use Rattle.restricted_pages.specs.declared.page.RestrictedPage.{RestrictedPage}
use Rattle.restricted_pages.specs.Pages.{IsSelectedAnswer, IsSelectedNumber, chosen}
use Rattle.restricted_pages.specs.Patterns.{ArePatternsOf, AreWithin, IsNumber, IsPageOf, IsPageOfList, gathered, ids_order, kind_of, left_of, matches_pattern, order_for_slots}

-- ---- what rows select

restricted_is : (rows : List Slots) (items : List Triple) → 1 ≤ length rows → restricted rows items ≡ filter (matches_one rows) items
restricted_is [] items some = absurd (omega arith)
restricted_is (row ∷ rows) items some = refl

filter_same : (p q : Triple → Bool) (xs : List Triple) → AllByRecursion (λ t. p t ≡ q t) xs → filter p xs ≡ filter q xs
filter_same p q [] h = refl
filter_same p q (x ∷ xs) h = ap (λ b. cond b (x ∷ filter p xs) (filter p xs)) h.0 ∙ ap (λ ys. cond (q x) (x ∷ ys) ys) (filter_same p q xs h.1)

pub within : (s : Stored) (slots : Slots) (rows : List Slots) (ps : List IdPattern) → ArePatternsOf s slots rows ps → AreWithin s slots ps
within s slots rows ps h = record { ids = h.ids; within = λ t held e. and_first (matches slots t) (matches_one rows t) (h.same t held ∙ e) }

pub left_is : (s : Stored) (slots : Slots) (rows : List Slots) (ps : List IdPattern) → 1 ≤ length rows → ArePatternsOf s slots rows ps → left_of s slots ps ≡ selected (triples_in s) (chosen slots rows)
left_is s slots rows ps some h =
    sym (restricted_is rows (fragment (triples_in s) slots) some ∙ filter_same (matches_one rows) (matches_pattern s ps) (fragment (triples_in s) slots) (all_from (λ t. matches_one rows t ≡ matches_pattern s ps t) (fragment (triples_in s) slots) same))
  where
    same : (t : Triple) → Contains (fragment (triples_in s) slots) t → matches_one rows t ≡ matches_pattern s ps t
    same t c =
        let m = ((fragment_is (triples_in s) slots).members t).0 c in
        ap (λ b. b && matches_one rows t) (sym ((matches_decides slots t).1 m.1)) ∙ h.same t m.0

-- ---- the list of the patterns' triples in the order of the fragment

kind_cmp : (s p o : Bool) → order_by s p o ≡ triples_cmp (kind_of s p o)
kind_cmp false false false = refl
kind_cmp true false false = refl
kind_cmp true true false = refl
kind_cmp true true true = refl
kind_cmp false true false = refl
kind_cmp false true true = refl
kind_cmp false false true = refl
kind_cmp true false true = refl

ids_cmp : (terms : List Term) → IsStrictlySortedBy term_order terms → (o : Order) (x y : IdTriple) → IsIdTriple terms x → IsIdTriple terms y → ids_order o x y ≡ triples_cmp o (triple_at terms x) (triple_at terms y)
ids_cmp terms ascend Spo x y h k = rows_cmp terms ascend Spo (row_of Spo x) (row_of Spo y) h k
ids_cmp terms ascend Pos x y h k = rows_cmp terms ascend Pos (row_of Pos x) (row_of Pos y) h k
ids_cmp terms ascend Osp x y h k = rows_cmp terms ascend Osp (row_of Osp x) (row_of Osp y) h k

module _ (s : Stored) (ascend : IsStrictlySortedBy term_order s.terms) (slots : Slots) (ps : List IdPattern) (w : AreWithin s slots ps) (raw ids : List IdTriple) (each : (t : IdTriple) → Contains raw t → IsIdTriple s.terms t)
    (are : map (triple_at s.terms) raw ≡ gathered s ps) (same : (t : IdTriple) → Contains ids t ↔ Contains raw t) where
  f : IsFragment (triples_in s) slots (fragment (triples_in s) slots)
  f = fragment_is (triples_in s) slots

  ids_are : AllByRecursion (IsIdTriple s.terms) ids
  ids_are = all_from (IsIdTriple s.terms) ids (λ t h. each t ((same t).0 h))

  pub ids_valid : All (IsIdTriple s.terms) ids
  ids_valid = All-from_recursion (IsIdTriple s.terms) ids ids_are

  ascending : IsStrictlySortedBy (ids_order (order_for_slots slots)) ids → IsStrictlySortedBy (order_of slots) (map (triple_at s.terms) ids)
  ascending h =
      subst (λ cmp. IsStrictlySortedBy cmp (map (triple_at s.terms) ids)) (sym (kind_cmp (is_fixed slots.subject) (is_fixed slots.predicate) (is_fixed slots.object)))
      (strict_on (triple_at s.terms) (triples_cmp (order_for_slots slots)) (ids_order (order_for_slots slots)) (IsIdTriple s.terms) (ids_cmp s.terms ascend (order_for_slots slots)) ids ids_are h)

  there : (t : Triple) → Contains (map (triple_at s.terms) ids) t → Contains (left_of s slots ps) t
  there t h =
      let x = from_map (triple_at s.terms) ids t h in
      let in_all = subst (λ (l : List Triple). Contains l t) are (subst (Contains (map (triple_at s.terms) raw)) x.2 (Contains-map (triple_at s.terms) raw x.0 ((same x.0).0 x.1))) in
      let at = from_flat_map (λ (p : IdPattern). fragment (triples_in s) (slots_at s p)) ps t in_all in
      let m = ((fragment_is (triples_in s) (slots_at s at.0)).members t).0 at.2 in
      let passes = any_of (λ (r : Slots). matches r t) (map (slots_at s) ps) (slots_at s at.0) (Contains-map (slots_at s) ps at.0 at.1) ((matches_decides (slots_at s at.0) t).1 m.1) in
      in_filter (matches_pattern s ps) (fragment (triples_in s) slots) t passes ((f.members t).1 (m.0, (matches_decides slots t).0 (w.within t m.0 passes)))

  back : (t : Triple) → Contains (left_of s slots ps) t → Contains (map (triple_at s.terms) ids) t
  back t h =
      let held = ((f.members t).0 (from_filter (matches_pattern s ps) (fragment (triples_in s) slots) t h)).0 in
      let row = some_of (λ (r : Slots). matches r t) (map (slots_at s) ps) (passed_filter (matches_pattern s ps) (fragment (triples_in s) slots) t h) in
      let p = from_map (slots_at s) ps row.0 row.1 in
      let fits = subst (λ (r : Slots). matches r t ≡ true) (sym p.2) row.2 in
      let in_one = ((fragment_is (triples_in s) (slots_at s p.0)).members t).1 (held, (matches_decides (slots_at s p.0) t).0 fits) in
      let in_all = in_flat_map (λ (q : IdPattern). fragment (triples_in s) (slots_at s q)) ps p.0 t p.1 in_one in
      let x = from_map (triple_at s.terms) raw t (subst (λ (l : List Triple). Contains l t) (sym are) in_all) in
      subst (Contains (map (triple_at s.terms) ids)) x.2 (Contains-map (triple_at s.terms) ids x.0 ((same x.0).1 x.1))

  pub listed_is : IsStrictlySortedBy (ids_order (order_for_slots slots)) ids → map (triple_at s.terms) ids ≡ left_of s slots ps
  listed_is h = one_list (order_of_total slots) (map (triple_at s.terms) ids) (left_of s slots ps) (ascending h) (strict_filter (order_of slots) (matches_pattern s ps) (fragment (triples_in s) slots) f.ascending) there back

-- ---- pages

module _ (s : Stored) (slots : Slots) (rows : List Slots) (k size : ℕ) where
  number : (count : ℕ) → count ≡ length (selected (triples_in s) (chosen slots rows)) → IsNumber count k size → IsSelectedNumber s slots rows k size
  number count e h = record { first = h.first; last = subst (λ n. k ≤ last_page_of n size) e h.last }

  not_number : (count : ℕ) → count ≡ length (selected (triples_in s) (chosen slots rows)) → (IsNumber count k size → ⊥) → IsSelectedNumber s slots rows k size → ⊥
  not_number count e never h = never record { first = h.first; last = subst (λ n. k ≤ last_page_of n size) (sym e) h.last }

  -- of a list
  pub page_of_list : (ids : List IdTriple) → All (IsIdTriple s.terms) ids → map (triple_at s.terms) ids ≡ selected (triples_in s) (chosen slots rows) → (r : Result (Option RestrictedPage) OutOfMemory) →
      IfOk r (λ page. IsPageOfList ids k size page) → IfOk r (λ page. IsSelectedAnswer s slots rows k size page)
  page_of_list ids each are (Err e) h = tt
  page_of_list ids each are (Ok None) h = not_number (length ids) (sym (length-map ids (triple_at s.terms)) ∙ ap length are) h
  page_of_list ids each are (Ok (Some page)) h =
      let n = (k - 1) * size in let count : length ids ≡ length (selected (triples_in s) (chosen slots rows)) = sym (length-map ids (triple_at s.terms)) ∙ ap length are in (
        number (length ids) count h.0,
        record {
          ids = subst (λ (l : List IdTriple). All (IsIdTriple s.terms) l) (sym h.1) (All-take (IsIdTriple s.terms) size (drop n ids) (All-drop (IsIdTriple s.terms) n ids each));
          triples = ap (map (triple_at s.terms)) h.1 ∙ sym (take-map (triple_at s.terms) size (drop n ids)) ∙ ap (take size) (sym (drop-map (triple_at s.terms) n ids)) ∙ ap (λ l. take size (drop n l)) are;
          count = h.2 ∙ count;
        },
      )

  -- of a scan
  pub page_of_scan : (left : List Triple) (count : ℕ) → left ≡ selected (triples_in s) (chosen slots rows) → count ≡ length left → (r : Result (Option RestrictedPage) OutOfMemory) →
      IfOk r (λ page. IsPageOf s left count k size page) → IfOk r (λ page. IsSelectedAnswer s slots rows k size page)
  page_of_scan left count are counts (Err e) h = tt
  page_of_scan left count are counts (Ok None) h = not_number count (counts ∙ ap length are) h
  page_of_scan left count are counts (Ok (Some page)) h = (
    number count (counts ∙ ap length are) h.0,
    record {
      ids = h.1.each;
      triples = h.1.are ∙ ap (λ l. take size (drop ((k - 1) * size) l)) are;
      count = h.2 ∙ counts ∙ ap length are;
    },
  )
