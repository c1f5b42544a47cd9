-- What rows leave of slots, by the ids of a table. Serves the contracts inside the crate alone.
use Rattle.std.specs.Prelude.{ℕ, ◌≡◌, ◌+◌, ◌-◌, ◌*◌, ◌≤◌, ◌&&◌, ◌||◌, ◌==◌, ◌++◌, Bool, true, false, not, List, [], ◌∷◌, map, length, take, drop, Option, Some, None, All, slice_index_or}
use Rattle.std.specs.List.{Contains, filter, flat_map}
use Rattle.std.specs.declared.cmp.Ordering.{Ordering}
use Rattle.rdf_terms.specs.declared.term.Term.{Term}
use Rattle.rdf_terms.specs.declared.term.Triple.{Triple}
use Rattle.rdf_terms.specs.declared.slots.Slot.{Slot}
use Rattle.rdf_terms.specs.declared.slots.Slots.{Slots}
use Rattle.rdf_terms.specs.Slots.{matches, matches_slot, is_fixed}
use Rattle.rdf_terms.specs.Fragments.{fragment, last_page_of}
use Rattle.rdf_terms.specs.Selections.{matches_one}
use Rattle.triple_table.specs.declared.ids.IdTriple.{IdTriple}
use Rattle.triple_table.specs.declared.ids.IdPattern.{IdPattern}
use Rattle.triple_table.specs.declared.ids.Order.{Order}
use Rattle.triple_table.specs.declared.ids.Range.{Range}
use Rattle.triple_table.specs.declared.ids.Order.TheVariants.{Spo, Pos, Osp}
use Rattle.triple_table.specs.Rows.{row_order, row_of}
use Rattle.triple_table.specs.Served.{terms_of}
use Rattle.triple_table.specs.Stored.{Stored, IsIdOrOpen, IsIdPattern, IsIdTriple, held_terms, listed, slot_at, slots_at, triple_at, triples_in}
use Rattle.restricted_pages.specs.declared.page.RestrictedPage.{RestrictedPage}
use Rattle.restricted_pages.specs.declared.scan.Part.{Part}
use Rattle.restricted_pages.specs.Pages.{triples_at}

-- ---- what a row leaves of slots

-- no term stands in both slots
abbrev pub NoneStands : Slot → Slot → Type 0
NoneStands slot row = (t : Term) → (matches_slot slot t && matches_slot row t) ≡ false

-- a term stands in both slots exactly where it stands in the third
abbrev pub StandsInBoth : Slot → Slot → Slot → Type 0
StandsInBoth slot row both = (t : Term) → (matches_slot slot t && matches_slot row t) ≡ matches_slot both t

-- what both slots leave, by ids, or that no term of the table stands in both
abbrev pub IsJoinedId : Stored → Slot → Slot → Option (Option ℕ) → Type 0
IsJoinedId s slot row None =
    (t : Term) → Contains (terms_of (triples_in s)) t → (matches_slot slot t && matches_slot row t) ≡ false
IsJoinedId s slot row (Some id) = IsIdOrOpen (held_terms s) id × StandsInBoth slot row (slot_at (held_terms s) id)

-- what slots and a row leave, by ids, or that no triple of the table matches both
abbrev pub IsJoined : Stored → Slots → Slots → Option IdPattern → Type 0
IsJoined s slots row None = (t : Triple) → Contains (triples_in s) t → (matches slots t && matches row t) ≡ false
IsJoined s slots row (Some p) =
    IsIdPattern s p × ((t : Triple) → (matches slots t && matches row t) ≡ matches (slots_at s p) t)

-- the triple matches at least one of the patterns
abbrev pub matches_pattern : Stored → List IdPattern → Triple → Bool
matches_pattern s patterns t = matches_one (map (slots_at s) patterns) t

-- a triple of the table matches the slots and one of the rows exactly where it matches one of the patterns
pub record ArePatternsOf (s : Stored) (slots : Slots) (rows : List Slots) (patterns : List IdPattern) : Type 0 where
  pub ids : All (IsIdPattern s) patterns
  pub same : (t : Triple) → Contains (triples_in s) t
      → (matches slots t && matches_one rows t) ≡ matches_pattern s patterns t

-- the patterns of some rows, and those of one row more
abbrev pub AddsRow : Option IdPattern → List IdPattern → List IdPattern → Type 0
AddsRow joined old new =
    (s : Stored) (slots row : Slots) (rows : List Slots) → IsJoined s slots row joined
    → ArePatternsOf s slots rows old → ArePatternsOf s slots (rows ++ row ∷ []) new

-- patterns that match triples of the fragment of the slots alone
pub record AreWithin (s : Stored) (slots : Slots) (patterns : List IdPattern) : Type 0 where
  pub ids : All (IsIdPattern s) patterns
  pub within : (t : Triple) → Contains (triples_in s) t → matches_pattern s patterns t ≡ true → matches slots t ≡ true

-- what the patterns leave of the fragment of the slots, in its order
abbrev pub left_of : Stored → Slots → List IdPattern → List Triple
left_of s slots patterns = filter (matches_pattern s patterns) (fragment (triples_in s) slots)

-- what they leave of a range
abbrev pub found : Stored → Range → List IdPattern → List Triple
found s range patterns = filter (matches_pattern s patterns) (listed s range)

-- ---- the same by ids

-- the id may stand at this place of a pattern
abbrev pub fits_id : Option ℕ → ℕ → Bool
fits_id None id = true
fits_id (Some wanted) id = wanted == id

abbrev pub fits : IdPattern → IdTriple → Bool
fits p t = fits_id p.subject t.subject && (fits_id p.predicate t.predicate && fits_id p.object t.object)

-- no id may stand at both places
abbrev pub differ : Option ℕ → Option ℕ → Bool
differ None None = false
differ None (Some b) = false
differ (Some a) None = false
differ (Some a) (Some b) = not (a == b)

-- no triple can match both patterns
abbrev pub are_apart : IdPattern → IdPattern → Bool
are_apart p q = differ p.subject q.subject || (differ p.predicate q.predicate || differ p.object q.object)

-- the triple at a place of these, by ids, or that it matches none of the patterns
abbrev pub IsMatchAt : Stored → List IdPattern → List Triple → ℕ → Option IdTriple → Type 0
IsMatchAt s patterns items i None = (d : Triple) → matches_pattern s patterns (slice_index_or items i d) ≡ false
IsMatchAt s patterns items i (Some t) =
    IsIdTriple (held_terms s) t
    × ((d : Triple) → slice_index_or items i d ≡ triple_at (held_terms s) t)
    × (matches_pattern s patterns (triple_at (held_terms s) t) ≡ true)

-- ---- the triples of the patterns

-- pattern by pattern
abbrev pub gathered : Stored → List IdPattern → List Triple
gathered s patterns = flat_map (λ p. fragment (triples_in s) (slots_at s p)) patterns

-- the order of the table for slots of which the subject, the predicate and the object are fixed or not
abbrev pub kind_of : Bool → Bool → Bool → Order
kind_of false false false = Spo
kind_of true false false = Spo
kind_of true true false = Spo
kind_of true true true = Spo
kind_of false true false = Pos
kind_of false true true = Pos
kind_of false false true = Osp
kind_of true false true = Osp

abbrev pub order_for_slots : Slots → Order
order_for_slots slots = kind_of (is_fixed slots.subject) (is_fixed slots.predicate) (is_fixed slots.object)

-- triples by ids in an order of the table
abbrev pub ids_order : Order → IdTriple → IdTriple → Ordering
ids_order order a b = row_order (row_of order a) (row_of order b)

-- the ids by which an order compares, the first first
abbrev pub ids_in : Order → IdTriple → ℕ × ℕ × ℕ
ids_in order t = let row = row_of order t in (row.first, row.second, row.third)

-- ---- pages

-- k is the number of a page of so many triples
pub record IsNumber (count k size : ℕ) : Type 0 where
  pub first : 1 ≤ k
  pub last : k ≤ last_page_of count size

-- the place of the first triple of page k of so many, or that there is no such page
abbrev pub IsStart : ℕ → ℕ → ℕ → Option ℕ → Type 0
IsStart count k size None = IsNumber count k size → ⊥
IsStart count k size (Some start) = IsNumber count k size × (start ≡ (k - 1) * size) × (start ≤ count)

-- page k of a list, or that there is no such page
abbrev pub IsPageOfList : List IdTriple → ℕ → ℕ → Option RestrictedPage → Type 0
IsPageOfList ids k size None = IsNumber (length ids) k size → ⊥
IsPageOfList ids k size (Some page) =
    IsNumber (length ids) k size
    × (page.triples.items ≡ take size (drop ((k - 1) * size) ids))
    × (page.count ≡ length ids)

-- ids of the table, which are those of these triples one by one
pub record AreIdsOf (s : Stored) (ids : List IdTriple) (triples : List Triple) : Type 0 where
  pub each : All (IsIdTriple (held_terms s)) ids
  pub are : triples_at s ids ≡ triples

-- ids behind others, which are those of these triples
abbrev pub Pushes : Stored → List IdTriple → List IdTriple → List Triple → Type 0
Pushes s old new items = AreIdsOf s new (triples_at s old ++ items)

-- the triples behind so many, at most `size`
abbrev pub cut : ℕ → ℕ → List Triple → List Triple
cut before size items = take size (drop before items)

-- page k of so many triples, by ids, or that there is no such page
abbrev pub IsPageOf : Stored → List Triple → ℕ → ℕ → ℕ → Option RestrictedPage → Type 0
IsPageOf s items count k size None = IsNumber count k size → ⊥
IsPageOf s items count k size (Some page) =
    IsNumber count k size
    × AreIdsOf s page.triples.items (cut ((k - 1) * size) size items)
    × (page.count ≡ count)

-- the number of some triples, where it is known
abbrev pub IsKnown : Option ℕ → ℕ → Type 0
IsKnown None number = Unit {0}
IsKnown (Some known) number = known ≡ number

-- what a walk found of a range: the triples of a page, and where it went to the end how many there are
pub record IsWalked (s : Stored) (range : Range) (patterns : List IdPattern) (before size : ℕ) (to_end : Bool)
    (part : Part) : Type 0 where
  pub page : AreIdsOf s part.triples.items (cut before size (found s range patterns))
  pub count : to_end ≡ true → part.count ≡ length (found s range patterns)

-- page k of what the patterns leave of a range, by ids, or that there is no such page
abbrev pub IsPageFound : Stored → Range → List IdPattern → ℕ → ℕ → Option RestrictedPage → Type 0
IsPageFound s range patterns k size page =
    IsPageOf s (found s range patterns) (length (found s range patterns)) k size page

-- what a part will hold, where these triples follow that match
abbrev pub filled : List Term → Part → List Triple → List Triple
filled terms part next = map (triple_at terms) part.triples.items ++ take part.room (drop part.before next)

-- a part before and after the next triple that matches
pub record TakesNext (triple : IdTriple) (old new : Part) : Type 0 where
  pub counts : new.count ≡ old.count + 1
  pub ids : (terms : List Term) → All (IsIdTriple terms) old.triples.items → IsIdTriple terms triple
      → All (IsIdTriple terms) new.triples.items
  pub fills : (terms : List Term) (next : List Triple)
      → filled terms new next ≡ filled terms old (triple_at terms triple ∷ next)
