-- A data set has its own triples as its distinct ones.
use Rattle.std.proofs.Common.{◌≡◌, false, List, [], ◌∷◌, ◌++◌, refl, ap, ◌∙◌}
use Rattle.std.specs.declared.cmp.Ordering.TheVariants.{Less}
use Rattle.std.specs.Ordering.{is_eq}
use Rattle.std.specs.List.{AllByRecursion, list_any}
use Rattle.std.specs.List.Sorted.{IsStrictlySortedBy}
use Rattle.list_laws.proofs.Lists.{any_snoc}
use Rattle.rdf_terms.specs.Same.{triple_eq}
use Rattle.rdf_terms.specs.Order.{triple_order}
use Rattle.rdf_terms.specs.OrderLaws.{triple_ties}
use Rattle.rdf_terms.specs.declared.term.Triple.{Triple}
use Rattle.bgp_core.specs.Solutions.{unless_before, distinct_after}

less_differ : (s t : Triple) → triple_order s t ≡ Less → triple_eq s t ≡ false
less_differ s t e = triple_ties s t ∙ ap is_eq e

none_more : (before ts : List Triple) (t : Triple) → AllByRecursion (λ y. list_any (λ s. triple_eq s y) before ≡ false) ts → AllByRecursion (λ y. triple_order t y ≡ Less) ts → AllByRecursion (λ y. list_any (λ s. triple_eq s y) (before ++ t ∷ []) ≡ false) ts
none_more before [] t h a = tt
none_more before (y ∷ ts) t (h, hs) (a, rest) =
    (any_snoc (λ s. triple_eq s y) before t ∙ rw (less_differ t y a, h) refl, none_more before ts t hs rest)

alone : (before : List Triple) (t : Triple) → list_any (λ s. triple_eq s t) before ≡ false → unless_before before t ≡ t ∷ []
alone before t h = rw h refl

pub distinct_after-sorted : (before ts : List Triple) → AllByRecursion (λ y. list_any (λ s. triple_eq s y) before ≡ false) ts → IsStrictlySortedBy triple_order ts → distinct_after before ts ≡ ts
unfolding IsStrictlySortedBy
distinct_after-sorted before [] h s = refl
distinct_after-sorted before (t ∷ ts) (h, hs) (a, s) =
    ap (λ (l : List Triple). l ++ distinct_after (before ++ t ∷ []) ts) (alone before t h) ∙ ap (λ (l : List Triple). t ∷ l) (distinct_after-sorted (before ++ t ∷ []) ts (none_more before ts t hs a) s)

pub none_stands : (ts : List Triple) → AllByRecursion (λ y. list_any (λ s. triple_eq s y) [] ≡ false) ts
none_stands [] = tt
none_stands (t ∷ ts) = (refl, none_stands ts)
