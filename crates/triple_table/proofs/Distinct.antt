-- Triples by ids, each once.
use Rattle.std.proofs.Common.{ℕ, nat_eq, ◌&&◌, ◌≡◌, ◌*◌, ◌^◌, ◌<◌, ◌≤◌, Bool, true, List, [], ◌∷◌, refl, sym, ap, subst, ◌∙◌, length, get_or, map, arith, All, inl, inr, Ok, Err}
use Rattle.std.specs.Prelude.{Result, IfOk}
use Rattle.std.specs.List.{Contains, AllByRecursion}
use Rattle.std.specs.List.Retain.{IsFiltered, DiffersFromLast}
use Rattle.std.specs.List.Sorted.{IsStrictlySortedBy, IsSortedByKey, IsPermutation}
use Rattle.std.specs.Cmp.{IsTotalOrder, unsigned_ties}
use Rattle.std.specs.Cmp.Derive.{tie, on_tied, then_tied}
use Rattle.std.specs.declared.cmp.Ordering.{Ordering}
use Rattle.std.specs.Bool.{Decides}
use Rattle.std.specs.Ordering.{nat_cmp, ordering_then, eq_by_cmp, is_eq}
use Rattle.std.proofs.lemmas.Cmp.{nat_cmp_total, on_total, then_total, eq_by_cmp_equiv}
use Rattle.std.proofs.lemmas.List.{length-map}
use Rattle.std.proofs.lemmas.List.Elements.{recursion_from_All, All-contains, Contains-get_or}
use Rattle.std.proofs.lemmas.List.Sorted.{All-permutation}
use Rattle.std.proofs.lemmas.Map.Keys.{IsDistinct-from_sorted}
use Rattle.std.proofs.lemmas.Map.Made.{length-le_from_is_member, is_member-Decides}
use Rattle.list_laws.proofs.Ascending.{is_equal, strict_on}
use Rattle.list_laws.proofs.Members.{Contains-map, deduped_ascends, from_deduped, from_map, in_deduped}
use Rattle.rdf_terms.specs.declared.term.Term.{Term}
use Rattle.rdf_terms.specs.declared.term.Triple.{Triple}
use Rattle.rdf_terms.specs.declared.slots.Slot.TheVariants.{Any}
use Rattle.rdf_terms.specs.declared.slots.Slots.{Slots}
use Rattle.rdf_terms.specs.Order.{term_order, triple_order}
use Rattle.rdf_terms.specs.OrderLaws.{term_total, term_equal}
use Rattle.rdf_terms.specs.Triples.{IsDataSet, IsGroundTriple}
use Rattle.rdf_terms.specs.Fragments.{fragment}
use Rattle.rdf_terms.proofs.FragmentLaws.{fragment_is}
use Rattle.triple_table.specs.declared.ids.IdTriple.{IdTriple}
use Rattle.triple_table.specs.declared.ids.Order.TheVariants.{Spo}
use Rattle.triple_table.specs.Rows.{key, row_of}
use Rattle.triple_table.specs.Genid.{skolem_triple}
use Rattle.triple_table.specs.Ranking.{SameMembers, HoldsMore}
use Rattle.triple_table.specs.Served.{terms_of, Clashes, IsServed}
use Rattle.triple_table.specs.Stored.{IsRanking, IsIdTriple, PassesMost, triple_at}
use Rattle.triple_table.proofs.Built.{ids_sorted, same_terms, same_row, same_triple}
use Rattle.triple_table.proofs.Ranks.{rows_cmp}

-- the order of triples by ids
abbrev pub id_order : IdTriple → IdTriple → Ordering
id_order a b = ordering_then (nat_cmp a.subject b.subject) (ordering_then (nat_cmp a.predicate b.predicate) (nat_cmp a.object b.object))

pub id_total : IsTotalOrder id_order
id_total = then_total (on_total (λ (t : IdTriple). t.subject) nat_cmp_total) (then_total (on_total (λ (t : IdTriple). t.predicate) nat_cmp_total) (on_total (λ (t : IdTriple). t.object) nat_cmp_total))

module _ (terms : List Term) (ascend : IsStrictlySortedBy term_order terms) where
  pub ids_ascend : (ids : List IdTriple) → All (IsIdTriple terms) ids → IsStrictlySortedBy id_order ids → IsStrictlySortedBy triple_order (map (triple_at terms) ids)
  ids_ascend ids each s = strict_on (triple_at terms) triple_order id_order (IsIdTriple terms) (λ x y h k. rows_cmp terms ascend Spo (row_of Spo x) (row_of Spo y) h k) ids (recursion_from_All (IsIdTriple terms) ids each) s

pub id_ties : (x y : IdTriple) → (nat_eq x.subject y.subject && (nat_eq x.predicate y.predicate && nat_eq x.object y.object)) ≡ eq_by_cmp id_order x y
id_ties = (then_tied (on_tied (λ (t : IdTriple). t.subject) (tie nat_cmp unsigned_ties)) (then_tied (on_tied (λ (t : IdTriple). t.predicate) (tie nat_cmp unsigned_ties)) (on_tied (λ (t : IdTriple). t.object) (tie nat_cmp unsigned_ties)))).ties

-- ---- a sort and a dedup

module _ {E : IdTriple → IdTriple → Bool} (ties : (x y : IdTriple) → E x y ≡ eq_by_cmp id_order x y) (terms : List Term) (xs ys zs : List IdTriple)
    (moved : IsPermutation xs ys) (kept : IsFiltered (DiffersFromLast E) [] ys zs) where
  pub left_ids : All (IsIdTriple terms) xs → All (IsIdTriple terms) zs
  left_ids each = λ k d l. All-contains (IsIdTriple terms) xs (get_or zs k d) each (from_deduped id_total ties xs ys zs moved kept (get_or zs k d) (Contains-get_or zs k d l))

  pub left_ascend : length terms < 2 ^ 32 → IsStrictlySortedBy term_order terms → All (IsIdTriple terms) xs → IsSortedByKey (λ (t : IdTriple). key (row_of Spo t)) nat_cmp ys → IsStrictlySortedBy triple_order (map (triple_at terms) zs)
  left_ascend small ascend each s =
      ids_ascend terms ascend zs (left_ids each) (deduped_ascends id_total ties xs ys zs moved kept (ids_sorted terms small ys (All-permutation (IsIdTriple terms) xs ys moved each) s))

  id_same : (x y : IdTriple) → E x y ≡ true → x ≡ y
  id_same x y h = same_triple Spo x y (same_row (row_of Spo x) (row_of Spo y) (is_equal (id_order x y) (sym (ties x y) ∙ h)))

  there : (t : Triple) → Contains (map (triple_at terms) zs) t → Contains (map (triple_at terms) xs) t
  there t h =
      let x = from_map (triple_at terms) zs t h in
      subst (Contains (map (triple_at terms) xs)) x.2 (Contains-map (triple_at terms) xs x.0 (from_deduped id_total ties xs ys zs moved kept x.0 x.1))

  back : (t : Triple) → Contains (map (triple_at terms) xs) t → Contains (map (triple_at terms) zs) t
  back t h =
      let x = from_map (triple_at terms) xs t h in
      let left = in_deduped id_total ties xs ys zs moved kept x.0 x.1 in
      subst (Contains (map (triple_at terms) zs)) (ap (triple_at terms) (sym (id_same x.0 left.1 left.4)) ∙ x.2) (Contains-map (triple_at terms) zs left.1 (left.0, left.2, left.3))

  pub left_members : SameMembers (map (triple_at terms) zs) (map (triple_at terms) xs)
  left_members t = (there t, back t)

-- ---- the terms are at most three times the triples

terms_len : (triples : List Triple) → length (terms_of triples) ≡ 3 * length triples
terms_len [] = refl
terms_len (t ∷ ts) = let e = terms_len ts in omega (arith, e)

term_decided : (a b : Term) → Decides (eq_by_cmp term_order a b) (a ≡ b)
term_decided a b = (λ h. (term_equal a b).0 (is_equal _ h), λ e. ap is_eq ((term_equal a b).1 e))

pub terms_few : (triples : List Triple) (terms : List Term) → IsRanking triples terms → length terms ≤ 3 * length triples
terms_few triples terms r =
    let some : length terms ≤ length (terms_of triples) = length-le_from_is_member (eq_by_cmp_equiv term_total) terms (terms_of triples) (IsDistinct-from_sorted term_order terms r.ascending) (λ q m.
    (is_member-Decides term_decided (terms_of triples) q).1 ((r.members q).0 ((is_member-Decides term_decided terms q).0 m))) in
    let e = terms_len triples in omega (arith, some, e)

pub few_of : (terms : List Term) (ids : List IdTriple) → length terms ≤ 3 * length ids → length terms ≤ 3 * length (map (triple_at terms) ids)
few_of terms ids few = let e = length-map ids (triple_at terms) in omega (arith, few, e)

pub few_ids : (terms : List Term) (ids : List IdTriple) → IsRanking (map (triple_at terms) ids) terms → length terms ≤ 3 * length ids
few_ids terms ids r = let few = terms_few (map (triple_at terms) ids) terms r in let e = length-map ids (triple_at terms) in omega (arith, few, e)

-- ---- data that hold the same triples

ground_all : (raw triples : List Triple) → ((t : Triple) → Contains raw t → IsGroundTriple t) → SameMembers triples raw → AllByRecursion IsGroundTriple triples
ground_all raw triples ground same = recursion_from_All IsGroundTriple triples (λ k d l. ground (get_or triples k d) ((same (get_or triples k d)).0 (Contains-get_or triples k d l)))

pub data_of : (raw triples : List Triple) → ((t : Triple) → Contains raw t → IsGroundTriple t) → IsStrictlySortedBy triple_order triples → SameMembers triples raw → IsDataSet triples
data_of raw triples ground s same = record { ascending = s; classes = ground_all raw triples ground same }

pub ranking_of : (raw triples : List Triple) (terms : List Term) → IsRanking raw terms → SameMembers triples raw → IsRanking triples terms
ranking_of raw triples terms r same = record {
  ascending = r.ascending;
  members = λ term. (λ h. same_terms raw triples (λ t. (same t).1) term ((r.members term).0 h), λ h. (r.members term).1 (same_terms triples raw (λ t. (same t).0) term h));
}

-- ---- more than so many

any_slots : Slots
any_slots = record { subject = Any; predicate = Any; object = Any }

pub more_terms : (most : ℕ) (raw : List Triple) (terms : List Term) → ((t : Triple) → Contains raw t → IsGroundTriple t) → IsRanking raw terms → most < length terms → HoldsMore most raw
unfolding any_slots
more_terms most raw terms ground r more =
    let is = fragment_is raw any_slots in
    let same : SameMembers (fragment raw any_slots) raw = λ t. (λ h. ((is.members t).0 h).0, λ h. (is.members t).1 (h, record { subject = tt; predicate = tt; object = tt })) in
    record {
      distinct = fragment raw any_slots;
      terms = terms;
      data_set = data_of raw (fragment raw any_slots) ground is.ascending same;
      members = same;
      ranking = ranking_of raw (fragment raw any_slots) terms r same;
      passes = inr more;
    }

pub more_triples : (most : ℕ) (raw triples : List Triple) (terms : List Term) → ((t : Triple) → Contains raw t → IsGroundTriple t) → IsRanking raw terms → IsStrictlySortedBy triple_order triples → SameMembers triples raw → most < length triples → HoldsMore most raw
more_triples most raw triples terms ground r s same more = record {
  distinct = triples;
  terms = terms;
  data_set = data_of raw triples ground s same;
  members = same;
  ranking = ranking_of raw triples terms r same;
  passes = inl more;
}

pub passes_most : (most : ℕ) (authority : List ℕ) (chosen raw : List Triple) → ((label : List ℕ) → ¬ (Clashes authority chosen label)) → ((triples : List Triple) → IsDataSet triples → SameMembers triples raw → IsServed authority chosen triples) → HoldsMore most raw → PassesMost most authority chosen
passes_most most authority chosen raw free served h = record {
  unclashed = free;
  triples = h.distinct;
  terms = h.terms;
  served = served h.distinct h.data_set h.members;
  ranking = h.ranking;
  passes = h.passes;
}

-- ---- what is served

pub served_by : (authority : List ℕ) (chosen raw triples : List Triple) → raw ≡ map (skolem_triple authority) chosen → IsDataSet triples → SameMembers triples raw → IsServed authority chosen triples
served_by authority chosen raw triples e d same = record { data_set = d; members = subst (SameMembers triples) e same }

pub both_ok : {T F : Type 0} {P Q R : T → Type 0} (r : Result T F) → ((x : T) → P x → Q x → R x) → IfOk r P → IfOk r Q → IfOk r R
both_ok (Ok x) f p q = f x p q
both_ok (Err e) f p q = tt
