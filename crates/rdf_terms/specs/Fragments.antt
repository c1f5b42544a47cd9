-- Fragments and their pages (Triple Pattern Fragments, "Fragments" and "Paging").
use Rattle.std.specs.Prelude.{◌↔◌, ℕ, ◌+◌, ◌-◌, ◌*◌, ◌/◌, max, List, [], ◌∷◌, take, drop, length}
use Rattle.std.specs.List.{filter, Contains}
use Rattle.std.specs.List.Sorted.{IsStrictlySortedBy}
use Rattle.std.specs.declared.cmp.Ordering.{Ordering}
use Rattle.std.specs.declared.cmp.Ordering.TheVariants.{Less, Equal, Greater}
use Rattle.rdf_terms.specs.declared.term.Triple.{Triple}
use Rattle.rdf_terms.specs.declared.slots.Slots.{Slots}
use Rattle.rdf_terms.specs.Slots.{Matches, matches, order_of}

-- a list that holds exactly the matching triples, each once, in the order of the slots
pub record IsFragment (triples : List Triple) (slots : Slots) (items : List Triple) : Type 0 where
  pub ascending : IsStrictlySortedBy (order_of slots) items
  pub members : (t : Triple) → Contains items t ↔ (Contains triples t × Matches slots t)

-- x at its place in an ascending list, unless it stands there
abbrev pub put_by : Ordering → Triple → Triple → List Triple → List Triple → List Triple
put_by Less x y ys more = x ∷ y ∷ ys
put_by Equal x y ys more = y ∷ ys
put_by Greater x y ys more = y ∷ more

abbrev pub put : (Triple → Triple → Ordering) → Triple → List Triple → List Triple
put order x [] = x ∷ []
put order x (y ∷ ys) = put_by (order x y) x y ys (put order x ys)

-- the triples in an order, each once
abbrev pub sorted : (Triple → Triple → Ordering) → List Triple → List Triple
sorted order [] = []
sorted order (x ∷ xs) = put order x (sorted order xs)

-- the one list that `IsFragment` allows
unfoldable pub fragment : List Triple → Slots → List Triple
fragment triples slots = sorted (order_of slots) (filter (matches slots) triples)

-- ---- pages of `size` items, of which the first has the number 1

-- the last page of a fragment of `count` triples: the count divided by the size, rounded up, and at least 1
abbrev pub last_page_of : ℕ → ℕ → ℕ
last_page_of count size = max 1 ((count + (size - 1)) / size)

abbrev pub last_page : List Triple → Slots → ℕ → ℕ
last_page triples slots size = last_page_of (length (fragment triples slots)) size

-- the items from (k - 1) * size up to k * size
abbrev pub page_of : List Triple → Slots → ℕ → ℕ → List Triple
page_of triples slots k size = take size (drop ((k - 1) * size) (fragment triples slots))
