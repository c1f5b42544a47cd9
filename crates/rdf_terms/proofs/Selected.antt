-- Triples in their order, and how many are selected.
use Rattle.std.proofs.Common.{suc, ◌≡◌, ◌≤◌, List, [], ◌∷◌, length, refl, ap, subst, arith}
use Rattle.std.specs.List.{filter}
use Rattle.std.specs.List.Sorted.{IsStrictlySortedBy}
use Rattle.std.specs.declared.cmp.Ordering.{Ordering}
use Rattle.std.specs.declared.cmp.Ordering.TheVariants.{Less, Equal, Greater}
use Rattle.list_laws.proofs.Lists.{filter_length}
use Rattle.rdf_terms.specs.declared.term.Triple.{Triple}
use Rattle.rdf_terms.specs.declared.slots.Slot.TheVariants.{Any}
use Rattle.rdf_terms.specs.declared.slots.Slots.{Slots}
use Rattle.rdf_terms.specs.Fragments.{IsFragment, put_by, put, sorted, fragment}
use Rattle.rdf_terms.specs.Order.{triple_order}
use Rattle.rdf_terms.specs.Selections.{Selection, matches_one, restricted, selected}
use Rattle.rdf_terms.specs.Slots.{matches, order_of}
use Rattle.rdf_terms.proofs.FragmentLaws.{fragment_is}

-- ---- the fragment of which no slot is fixed

abbrev pub no_slots : Slots
no_slots = record { subject = Any; predicate = Any; object = Any }

pub every : (xs : List Triple) → filter (matches no_slots) xs ≡ xs
every [] = refl
every (x ∷ xs) = ap (λ (l : List Triple). x ∷ l) (every xs)

-- the list in its order is that
pub sorted_is : (xs : List Triple) → IsFragment xs no_slots (sorted triple_order xs)
unfolding fragment
sorted_is xs = subst (λ (l : List Triple). IsFragment xs no_slots (sorted triple_order l)) (every xs) (fragment_is xs no_slots)

pub ascends : (xs : List Triple) → IsStrictlySortedBy triple_order (sorted triple_order xs)
ascends xs = (sorted_is xs).ascending

-- ---- lengths

pub put_length : (order : Triple → Triple → Ordering) (x : Triple) (ys : List Triple) → length (put order x ys) ≤ suc (length ys)
put_length order x [] = omega arith
put_length order x (y ∷ ys) = by (order x y) (put_length order x ys)
  where
    by : (o : Ordering) → length (put order x ys) ≤ suc (length ys) → length (put_by o x y ys (put order x ys)) ≤ suc (suc (length ys))
    by Less h = omega arith
    by Equal h = omega arith
    by Greater h = omega (arith, h)

pub sorted_length : (order : Triple → Triple → Ordering) (xs : List Triple) → length (sorted order xs) ≤ length xs
sorted_length order [] = omega arith
sorted_length order (x ∷ xs) = omega (arith, put_length order x (sorted order xs), sorted_length order xs)

pub fragment_length : (triples : List Triple) (slots : Slots) → length (fragment triples slots) ≤ length triples
unfolding fragment
fragment_length triples slots = omega (arith, sorted_length (order_of slots) (filter (matches slots) triples), filter_length (matches slots) triples)

pub restricted_length : (rows : List Slots) (items : List Triple) → length (restricted rows items) ≤ length items
restricted_length [] items = omega arith
restricted_length (row ∷ rows) items = filter_length (matches_one (row ∷ rows)) items

pub selected_length : (triples : List Triple) (s : Selection) → length (selected triples s) ≤ length triples
selected_length triples s = omega (arith, fragment_length triples s.slots, restricted_length s.rows (fragment triples s.slots))
