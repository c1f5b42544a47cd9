-- A list that ascends has no repeats.
use Rattle.std.proofs.Common.{◌≡◌, Bool, true, false, not, List, [], ◌∷◌, refl, sym, ◌∙◌, ap}
use Rattle.std.specs.Prelude.{is_none}
use Rattle.std.specs.List.{AllByRecursion, filter, list_all}
use Rattle.std.specs.List.Sorted.{IsStrictlySortedBy}
use Rattle.std.specs.Cmp.{IsTotalOrder}
use Rattle.std.specs.Ordering.{is_lt}
use Rattle.std.specs.declared.cmp.Ordering.{Ordering}
use Rattle.std.specs.declared.cmp.Ordering.TheVariants.{Less, Equal, Greater}
use Rattle.std.proofs.lemmas.Bool.{and_parts, true≢false}
use Rattle.std.proofs.lemmas.Cmp.{on_total, then_total, tied_itself}
use Rattle.list_laws.proofs.Ascending.{less_not_equal}
use Rattle.list_laws.proofs.Each.{all_so, all_of_test}
use Rattle.rdf_terms.specs.declared.term.Triple.{Triple}
use Rattle.rdf_terms.specs.declared.term.Quad.{Quad}
use Rattle.rdf_terms.specs.OrderLaws.{term_total, triple_total}
use Rattle.rdf_terms.specs.Same.{triple_eq}
use Rattle.rdf_terms.specs.EqualityLaws.{triple_decides}
use Rattle.control_triples.specs.Contents.{firsts, page_triples}
use Rattle.control_reader.specs.Ascending.{triples_of, page_order, climbs, ascends}

-- ---- lists without repeats

abbrev AreDistinct : List Triple → Type 0
AreDistinct [] = Unit {0}
AreDistinct (t ∷ ts) = AllByRecursion (λ s. not (triple_eq t s) ≡ true) ts × AreDistinct ts

all_pass : {X : Type 0} (test : X → Bool) (xs : List X) → AllByRecursion (λ x. test x ≡ true) xs → filter test xs ≡ xs
all_pass test [] h = refl
all_pass test (x ∷ xs) h = rw (h.0, all_pass test xs h.1) refl

firsts_same : (ts : List Triple) → AreDistinct ts → firsts ts ≡ ts
firsts_same [] h = refl
firsts_same (t ∷ ts) h = rw (firsts_same ts h.1, all_pass (λ s. not (triple_eq t s)) ts h.0) refl

-- ---- ascending lists

module _ (R : Triple → Triple → Ordering) (o : IsTotalOrder R) where
  differs : (t s : Triple) → R t s ≡ Less → not (triple_eq t s) ≡ true
  differs t s less =
      let go : (b : Bool) → triple_eq t s ≡ b → not b ≡ true =
      λ b. elim b as (λ v. triple_eq t s ≡ v → not v ≡ true) [
        | true ↦ λ same. absurd (less_not_equal (sym less ∙ ap (λ (u : Triple). R t u) (sym ((triple_decides t s).0 same)) ∙ tied_itself o t))
        | false ↦ λ _. refl
      ] in
      go (triple_eq t s) refl

  ascending_distinct : (ts : List Triple) → IsStrictlySortedBy R ts → AreDistinct ts
  unfolding IsStrictlySortedBy
  ascending_distinct [] h = tt
  ascending_distinct (t ∷ ts) h = (all_so (λ s. R t s ≡ Less) (λ s. not (triple_eq t s) ≡ true) (λ s less. differs t s less) ts h.0, ascending_distinct ts h.1)

  -- each of them comes once
  pub ascending_firsts : (ts : List Triple) → IsStrictlySortedBy R ts → firsts ts ≡ ts
  ascending_firsts ts h = firsts_same ts (ascending_distinct ts h)

  -- ---- neighbours tell

  is_less : (r : Ordering) → is_lt r ≡ true → r ≡ Less
  is_less Less h = refl
  is_less Equal h = absurd (true≢false (sym h))
  is_less Greater h = absurd (true≢false (sym h))

  climbs_strictly : (t : Triple) (quads : List Quad) → climbs R t quads ≡ true → IsStrictlySortedBy R (t ∷ triples_of quads)
  unfolding IsStrictlySortedBy
  climbs_strictly t [] h = (tt, tt)
  climbs_strictly t (q ∷ quads) h =
      let parts = and_parts (is_lt (R t q.triple)) (climbs R q.triple quads) h in
      let less = is_less (R t q.triple) parts.0 in
      let rest = climbs_strictly q.triple quads parts.1 in
      ((less, all_so (λ s. R q.triple s ≡ Less) (λ s. R t s ≡ Less) (λ s more. o.trans t q.triple s less more) (triples_of quads) rest.0), rest)

  ascends_strictly : (quads : List Quad) → ascends R quads ≡ true → IsStrictlySortedBy R (triples_of quads)
  unfolding IsStrictlySortedBy
  ascends_strictly [] h = tt
  ascends_strictly (q ∷ quads) h = climbs_strictly q.triple quads h

-- ---- in the orders of fragments

page_total : (predicate_first : Bool) → IsTotalOrder (page_order predicate_first)
page_total true = then_total (on_total (λ (t : Triple). t.predicate) term_total) (then_total (on_total (λ (t : Triple). t.object) term_total) (on_total (λ (t : Triple). t.subject) term_total))
page_total false = triple_total

-- the triples of quads that ascend come once
pub in_order : (predicate_first : Bool) (quads : List Quad) → ascends (page_order predicate_first) quads ≡ true → firsts (triples_of quads) ≡ triples_of quads
in_order predicate_first quads h =
    let R = page_order predicate_first in
    let o = page_total predicate_first in
    ascending_firsts R o (triples_of quads) (ascends_strictly R o quads h)

-- where all quads stand in the default graph, and no triple comes twice, the page has the triples of all
pub all_taken : (quads : List Quad) → list_all (λ (q : Quad). is_none q.graph) quads ≡ true → firsts (triples_of quads) ≡ triples_of quads → triples_of quads ≡ page_triples quads
all_taken quads default once =
    sym (ap (λ (l : List Quad). firsts (triples_of l)) (all_pass (λ (q : Quad). is_none q.graph) quads (all_of_test (λ (q : Quad). is_none q.graph) quads default)) ∙ once)
