-- What the building of a table makes of triples, terms and sorted rows.
use Rattle.std.proofs.Common.{ℕ, ◌≡◌, ◌+◌, ◌*◌, ◌^◌, ◌<◌, ◌≤◌, Bool, true, false, List, [], ◌∷◌, refl, sym, ap, subst, ◌∙◌, length, get_or, map, arith, ⊎_elim, All}
use Rattle.std.specs.Prelude.{◌↔◌}
use Rattle.std.specs.List.{Contains, AllByRecursion, IsDistinct}
use Rattle.std.specs.List.Sorted.{IsStrictlySortedBy, IsSorted, IsSortedByKey, IsPermutation}
use Rattle.std.specs.declared.cmp.Ordering.TheVariants.{Less, Equal}
use Rattle.std.specs.Ordering.{is_lt, nat_cmp, eq_by_cmp}
use Rattle.std.proofs.lemmas.Cmp.{eq_by_cmp_equiv, tied_itself}
use Rattle.std.proofs.lemmas.Map.Keys.{IsDistinct-IsPermutation}
use Rattle.std.proofs.lemmas.List.{length-map}
use Rattle.std.proofs.lemmas.List.Elements.{All-from_recursion, All-get_or, recursion_from_All, All-map, All-weaker, All-contains, Contains-get_or}
use Rattle.std.proofs.lemmas.List.Sorted.{All-permutation, Contains-permutation, IsPermutation-sym, length_permutation}
use Rattle.list_laws.proofs.Tests.{is_less, is_greater}
use Rattle.list_laws.proofs.Ascending.{greater_not_equal, is_equal, less_not_equal, strict_from, strict_on, then_equal}
use Rattle.list_laws.proofs.Members.{Contains-map, at_head, from_flat_map, from_map, in_flat_map, in_tail}
use Rattle.rdf_terms.specs.declared.term.Term.{Term}
use Rattle.rdf_terms.specs.declared.term.Triple.{Triple}
use Rattle.rdf_terms.specs.Order.{triple_order}
use Rattle.rdf_terms.specs.OrderLaws.{triple_total}
use Rattle.rdf_terms.specs.Triples.{IsDataSet, IsGroundTriple}
use Rattle.triple_table.specs.declared.ids.Row.{Row}
use Rattle.triple_table.specs.declared.ids.IdTriple.{IdTriple}
use Rattle.triple_table.specs.declared.ids.Order.{Order}
use Rattle.triple_table.specs.declared.ids.Order.TheVariants.{Spo, Pos, Osp}
use Rattle.triple_table.specs.Rows.{key, row_order, row_of, id_triple_of}
use Rattle.triple_table.specs.Served.{terms_in, terms_of}
use Rattle.triple_table.specs.Stored.{Stored, IsStored, IsOrdered, IsRanking, IsIdTriple, triple_at, triples_in, rows_in}
use Rattle.triple_table.proofs.Bounds.{key_cmp, three_ways, IsSmall}
use Rattle.triple_table.proofs.Ranges.{back_there}
use Rattle.triple_table.proofs.Ranks.{rows_cmp}
use Rattle.triple_table.proofs.RowOrder.{row_total}

-- ---- rows of distinct triples are distinct

number_same : (x y : ℕ) → nat_cmp x y ≡ Equal → x ≡ y
number_same x y h =
    ⊎_elim (λ l. absurd (less_not_equal (sym (is_less x y l) ∙ h))) (λ r. ⊎_elim (λ e. e) (λ l. absurd (greater_not_equal (sym (is_greater x y l) ∙ h))) r) (three_ways x y)

pub same_row : (r q : Row) → row_order r q ≡ Equal → r ≡ q
same_row r q h =
    let first = then_equal _ _ h in let second = then_equal _ _ first.1 in
    let e : r.first ≡ q.first = number_same _ _ first.0 in
    let f : r.second ≡ q.second = number_same _ _ second.0 in
    let g : r.third ≡ q.third = number_same _ _ second.1 in
    λ i. record { first = e i; second = f i; third = g i }

pub same_triple : (o : Order) (x y : IdTriple) → row_of o x ≡ row_of o y → x ≡ y
same_triple o x y e = sym (back_there o x) ∙ ap (id_triple_of o) e ∙ back_there o y

apart_rows : (terms : List Term) (o : Order) (x y : IdTriple) → triple_order (triple_at terms x) (triple_at terms y) ≡ Less → eq_by_cmp row_order (row_of o x) (row_of o y) ≡ false
apart_rows terms o x y h = by (eq_by_cmp row_order (row_of o x) (row_of o y)) refl
  where
    by : (b : Bool) → eq_by_cmp row_order (row_of o x) (row_of o y) ≡ b → b ≡ false
    by false e = refl
    by true e =
        let same : x ≡ y = same_triple o x y (same_row _ _ (is_equal _ e)) in
        absurd (less_not_equal (sym h ∙ subst (λ z. triple_order (triple_at terms x) (triple_at terms z) ≡ Equal) same (tied_itself triple_total (triple_at terms x))))

apart_all : (terms : List Term) (o : Order) (x : IdTriple) (xs : List IdTriple) → AllByRecursion (λ b. triple_order (triple_at terms x) b ≡ Less) (map (triple_at terms) xs) → AllByRecursion (λ r. eq_by_cmp row_order (row_of o x) r ≡ false) (map (row_of o) xs)
apart_all terms o x [] h = tt
apart_all terms o x (y ∷ xs) h = (apart_rows terms o x y h.0, apart_all terms o x xs h.1)

distinct_rows : (terms : List Term) (o : Order) (xs : List IdTriple) → IsStrictlySortedBy triple_order (map (triple_at terms) xs) → IsDistinct (eq_by_cmp row_order) (map (row_of o) xs)
unfolding IsDistinct IsStrictlySortedBy
distinct_rows terms o [] s = tt
distinct_rows terms o (x ∷ xs) s = (apart_all terms o x xs s.0, distinct_rows terms o xs s.1)

-- ---- terms of the same triples

pub same_terms : (xs ys : List Triple) → ((t : Triple) → Contains xs t → Contains ys t) → (term : Term) → Contains (terms_of xs) term → Contains (terms_of ys) term
same_terms xs ys h term c = let r = from_flat_map terms_in xs term c in in_flat_map terms_in ys r.0 term (h r.0 r.1) r.2

pub term_held : (triples : List Triple) (terms : List Term) → IsRanking triples terms → (t : Triple) → Contains triples t → (term : Term) → Contains (terms_in t) term → Contains terms term
term_held triples terms r t h term k = (r.members term).1 (in_flat_map terms_in triples t term h k)

pub subject_in : (t : Triple) → Contains (terms_in t) t.subject
subject_in t = at_head t.subject (t.predicate ∷ t.object ∷ [])

pub predicate_in : (t : Triple) → Contains (terms_in t) t.predicate
predicate_in t = in_tail t.subject t.predicate (t.predicate ∷ t.object ∷ []) (at_head t.predicate (t.object ∷ []))

pub object_in : (t : Triple) → Contains (terms_in t) t.object
object_in t = in_tail t.subject t.object (t.predicate ∷ t.object ∷ []) (in_tail t.predicate t.object (t.object ∷ []) (at_head t.object []))

-- ---- the stored table

module _ (triples : List Triple) (data_set : IsDataSet triples) (terms : List Term) (ranking : IsRanking triples terms) (few : length terms ≤ 3 * length triples) (small : length terms < 2 ^ 32)
    (ids : List IdTriple) (each : All (IsIdTriple terms) ids) (are : map (triple_at terms) ids ≡ triples) (spo pos osp : List Row)
    (spo_moved : IsPermutation (map (row_of Spo) ids) spo) (spo_sorted : IsSorted row_order spo)
    (pos_moved : IsPermutation (map (row_of Pos) ids) pos) (pos_sorted : IsSorted row_order pos)
    (osp_moved : IsPermutation (map (row_of Osp) ids) osp) (osp_sorted : IsSorted row_order osp) where
  s : Stored
  s = record { terms = terms; spo = spo; pos = pos; osp = osp }

  moved_to : (o : Order) (rows : List Row) → IsPermutation (map (row_of o) ids) rows → (t : IdTriple) → Contains rows (row_of o t) ↔ Contains ids t
  moved_to o rows moved t = (
    λ h. let x = from_map (row_of o) ids (row_of o t) (Contains-permutation rows (map (row_of o) ids) (row_of o t) (IsPermutation-sym (map (row_of o) ids) rows moved) h) in subst (Contains ids) (same_triple o x.0 t x.2) x.1,
    λ h. Contains-permutation (map (row_of o) ids) rows (row_of o t) moved (Contains-map (row_of o) ids t h),
  )

  ordered : (o : Order) (rows : List Row) → IsPermutation (map (row_of o) ids) rows → IsSorted row_order rows → IsOrdered s o rows
  unfolding s
  ordered o rows moved sorted = record {
    ascending = strict_from row_total rows sorted (IsDistinct-IsPermutation (eq_by_cmp row_order) (eq_by_cmp_equiv row_total).symm (map (row_of o) ids) rows moved (distinct_rows terms o ids (subst (IsStrictlySortedBy triple_order) (sym are) data_set.ascending)));
    ids = All-permutation (λ (row : Row). IsIdTriple terms (id_triple_of o row)) (map (row_of o) ids) rows moved
        (All-map (λ (row : Row). IsIdTriple terms (id_triple_of o row)) (row_of o) ids (All-weaker (IsIdTriple terms) (λ t. IsIdTriple terms (id_triple_of o (row_of o t))) (λ t h. subst (IsIdTriple terms) (sym (back_there o t)) h) ids each));
    members = λ t. (λ h. (moved_to Spo spo spo_moved t).1 ((moved_to o rows moved t).0 h), λ h. (moved_to o rows moved t).1 ((moved_to Spo spo spo_moved t).0 h));
    len = length_permutation (map (row_of o) ids) rows moved ∙ length-map ids (row_of o) ∙ sym (length_permutation (map (row_of Spo) ids) spo spo_moved ∙ length-map ids (row_of Spo));
  }

  rows_are : (o : Order) → IsOrdered s o (rows_in s o)
  unfolding s
  rows_are Spo = ordered Spo spo spo_moved spo_sorted
  rows_are Pos = ordered Pos pos pos_moved pos_sorted
  rows_are Osp = ordered Osp osp osp_moved osp_sorted

  there : (t : Triple) → Contains (triples_in s) t → Contains triples t
  unfolding s
  there t h =
      let row = from_map (λ (r : Row). triple_at terms (id_triple_of Spo r)) spo t h in
      let held = (moved_to Spo spo spo_moved (id_triple_of Spo row.0)).0 row.1 in
      subst (Contains triples) row.2 (subst (λ xs. Contains xs (triple_at terms (id_triple_of Spo row.0))) are (Contains-map (triple_at terms) ids (id_triple_of Spo row.0) held))

  back : (t : Triple) → Contains triples t → Contains (triples_in s) t
  unfolding s
  back t h =
      let id = from_map (triple_at terms) ids t (subst (λ xs. Contains xs t) (sym are) h) in
      subst (Contains (triples_in s)) id.2 (Contains-map (λ (r : Row). triple_at terms (id_triple_of Spo r)) spo (row_of Spo id.0) ((moved_to Spo spo spo_moved id.0).1 id.1))

  pub built_members : (t : Triple) → Contains (triples_in record { terms = terms; spo = spo; pos = pos; osp = osp }) t ↔ Contains triples t
  unfolding s
  built_members t = (there t, back t)

  spo_len : length spo ≡ length triples
  spo_len = length_permutation (map (row_of Spo) ids) spo spo_moved ∙ length-map ids (row_of Spo) ∙ sym (length-map ids (triple_at terms)) ∙ ap length are

  pub built_size : length (triples_in record { terms = terms; spo = spo; pos = pos; osp = osp }) ≡ length triples
  built_size = length-map spo (λ (r : Row). triple_at terms (id_triple_of Spo r)) ∙ spo_len

  pub is_stored : IsStored record { terms = terms; spo = spo; pos = pos; osp = osp }
  unfolding s
  is_stored = record {
    data_set = record {
      ascending = strict_on (λ (r : Row). triple_at terms (id_triple_of Spo r)) triple_order row_order (λ (r : Row). IsIdTriple terms (id_triple_of Spo r)) (rows_cmp terms ranking.ascending Spo) spo
          (recursion_from_All (λ (r : Row). IsIdTriple terms (id_triple_of Spo r)) spo (rows_are Spo).ids) (rows_are Spo).ascending;
      classes = recursion_from_All IsGroundTriple (triples_in s) (λ k d l. All-contains IsGroundTriple triples (get_or (triples_in s) k d) (All-from_recursion IsGroundTriple triples data_set.classes) (there (get_or (triples_in s) k d) (Contains-get_or (triples_in s) k d l)));
    };
    ranking = record {
      ascending = ranking.ascending;
      members = λ term. (λ h. same_terms triples (triples_in s) back term ((ranking.members term).0 h), λ h. (ranking.members term).1 (same_terms (triples_in s) triples there term h));
    };
    few = let e = spo_len in omega (arith, few, e);
    small = small;
    rows = rows_are;
  }

  pub stored_data : IsDataSet (triples_in record { terms = terms; spo = spo; pos = pos; osp = osp })
  stored_data = is_stored.data_set

  pub stored_ranking : IsRanking (triples_in record { terms = terms; spo = spo; pos = pos; osp = osp }) terms
  stored_ranking = is_stored.ranking

-- ---- rows sorted as numbers

small_of : (terms : List Term) → length terms < 2 ^ 32 → (o : Order) (t : IdTriple) → IsIdTriple terms t → IsSmall (row_of o t)
small_of terms small Spo t h = let a = h.subject in let b = h.predicate in let c = h.object in record { first = omega (arith, small, a); second = omega (arith, small, b); third = omega (arith, small, c) }
small_of terms small Pos t h = let a = h.subject in let b = h.predicate in let c = h.object in record { first = omega (arith, small, b); second = omega (arith, small, c); third = omega (arith, small, a) }
small_of terms small Osp t h = let a = h.subject in let b = h.predicate in let c = h.object in record { first = omega (arith, small, c); second = omega (arith, small, a); third = omega (arith, small, b) }

by_key : (rows : List Row) → All IsSmall rows → IsSortedByKey key nat_cmp rows → IsSorted row_order rows
by_key rows small s k d l m =
    let next = All-get_or IsSmall rows (k + 1) d m small in let here = All-get_or IsSmall rows k d (omega (arith, m)) small in
    ap is_lt (key_cmp (get_or rows (k + 1) d) (get_or rows k d) next here) ∙ s k d l m

pub rows_sorted : (terms : List Term) → length terms < 2 ^ 32 → (o : Order) (ids : List IdTriple) (rows : List Row) → All (IsIdTriple terms) ids → IsPermutation (map (row_of o) ids) rows → IsSortedByKey key nat_cmp rows → IsSorted row_order rows
rows_sorted terms small o ids rows each moved s =
    by_key rows (All-permutation IsSmall (map (row_of o) ids) rows moved (All-map IsSmall (row_of o) ids (All-weaker (IsIdTriple terms) (λ t. IsSmall (row_of o t)) (small_of terms small o) ids each))) s

-- the same of triples by ids
pub ids_sorted : (terms : List Term) → length terms < 2 ^ 32 → (ids : List IdTriple) → All (IsIdTriple terms) ids → IsSortedByKey (λ (t : IdTriple). key (row_of Spo t)) nat_cmp ids → IsSorted (λ (x y : IdTriple). row_order (row_of Spo x) (row_of Spo y)) ids
ids_sorted terms small ids each s k d l m =
    let next = small_of terms small Spo (get_or ids (k + 1) d) (All-get_or (IsIdTriple terms) ids (k + 1) d m each) in
    let here = small_of terms small Spo (get_or ids k d) (All-get_or (IsIdTriple terms) ids k d (omega (arith, m)) each) in
    ap is_lt (key_cmp (row_of Spo (get_or ids (k + 1) d)) (row_of Spo (get_or ids k d)) next here) ∙ s k d l m
