-- What a triple pattern of a fragment matches (Triple Pattern Fragments, "Fragments").
use Rattle.std.specs.Prelude.{◌≡◌, Bool, true, false, ◌&&◌, ⊤}
use Rattle.std.specs.declared.cmp.Ordering.{Ordering}
use Rattle.std.specs.Ordering.{ordering_then}
use Rattle.rdf_terms.specs.declared.term.Term.{Term}
use Rattle.rdf_terms.specs.declared.term.Triple.{Triple}
use Rattle.rdf_terms.specs.declared.slots.Slot.{Slot}
use Rattle.rdf_terms.specs.declared.slots.Slot.TheVariants.{Any, Fixed}
use Rattle.rdf_terms.specs.declared.slots.Slots.{Slots}
use Rattle.rdf_terms.specs.Same.{term_eq}
use Rattle.rdf_terms.specs.Order.{term_order, triple_order}

-- a fixed place equals the term
abbrev pub MatchesSlot : Slot → Term → Type 0
MatchesSlot Any t = ⊤
MatchesSlot (Fixed f) t = f ≡ t

-- each fixed place equals the triple's term
pub record Matches (slots : Slots) (t : Triple) : Type 0 where
  pub subject : MatchesSlot slots.subject t.subject
  pub predicate : MatchesSlot slots.predicate t.predicate
  pub object : MatchesSlot slots.object t.object

-- the same as a test
abbrev pub matches_slot : Slot → Term → Bool
matches_slot Any t = true
matches_slot (Fixed f) t = term_eq f t

abbrev pub matches : Slots → Triple → Bool
matches slots t = matches_slot slots.subject t.subject && (matches_slot slots.predicate t.predicate && matches_slot slots.object t.object)

-- ---- the order of a fragment, by the fixed places

-- predicate, object, subject
abbrev pub pos_order : Triple → Triple → Ordering
pos_order a b = ordering_then (term_order a.predicate b.predicate) (ordering_then (term_order a.object b.object) (term_order a.subject b.subject))

-- object, subject, predicate
abbrev pub osp_order : Triple → Triple → Ordering
osp_order a b = ordering_then (term_order a.object b.object) (ordering_then (term_order a.subject b.subject) (term_order a.predicate b.predicate))

abbrev pub is_fixed : Slot → Bool
is_fixed Any = false
is_fixed (Fixed f) = true

-- the order for slots of which the subject, the predicate and the object are fixed or not
abbrev pub order_by : Bool → Bool → Bool → Triple → Triple → Ordering
order_by false false false = triple_order
order_by true false false = triple_order
order_by true true false = triple_order
order_by true true true = triple_order
order_by false true false = pos_order
order_by false true true = pos_order
order_by false false true = osp_order
order_by true false true = osp_order

abbrev pub order_of : Slots → Triple → Triple → Ordering
order_of slots = order_by (is_fixed slots.subject) (is_fixed slots.predicate) (is_fixed slots.object)
