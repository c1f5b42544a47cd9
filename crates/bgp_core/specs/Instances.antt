-- A pattern under a row: what it asks for.
use Rattle.std.specs.Prelude.{Option, Some, None}
use Rattle.rdf_terms.specs.declared.term.Term.{Term}
use Rattle.rdf_terms.specs.declared.slots.Slot.{Slot}
use Rattle.rdf_terms.specs.declared.slots.Slot.TheVariants as slots
use Rattle.rdf_terms.specs.declared.slots.Slots.{Slots}
use Rattle.bgp_core.specs.declared.pattern.Part.{Part}
use Rattle.bgp_core.specs.declared.pattern.Part.TheVariants.{Fixed, Name}
use Rattle.bgp_core.specs.declared.pattern.Pattern.{Pattern}
use Rattle.bgp_core.specs.Solutions.{Places, term_at}

abbrev pub slot_of : Option Term → Slot
slot_of None = slots.Any
slot_of (Some t) = slots.Fixed t

-- a fixed part, or a name that is bound, is fixed; a name that is not bound is free
abbrev pub slot : Places → Part → Slot
slot row (Fixed t) = slots.Fixed t
slot row (Name n) = slot_of (term_at row n)

-- the pattern with the bound names filled in
abbrev pub instance : Pattern → Places → Slots
instance p row = record { subject = slot row p.subject; predicate = slot row p.predicate; object = slot row p.object }

-- what a row binds of a part: nothing of one that is fixed already
abbrev pub bound_slot : Places → Part → Slot
bound_slot row (Fixed t) = slots.Any
bound_slot row (Name n) = slot_of (term_at row n)

-- what a row binds in a pattern
abbrev pub bound_places : Pattern → Places → Slots
bound_places p row = record {
  subject = bound_slot row p.subject;
  predicate = bound_slot row p.predicate;
  object = bound_slot row p.object;
}
