-- What can be asked for has no blank node.
use Rattle.std.proofs.Common.{◌≡◌, ◌&&◌, true, List, [], ◌∷◌}
use Rattle.std.specs.List.{list_all, AllByRecursion}
use Rattle.std.proofs.lemmas.Bool.{and_parts}
use Rattle.rdf_terms.specs.declared.slots.Slot.{Slot}
use Rattle.rdf_terms.specs.declared.slots.Slot.TheVariants.{Any, Fixed}
use Rattle.rdf_terms.specs.declared.slots.Slots.{Slots}
use Rattle.rdf_terms.specs.Askable.{is_iri_term, is_iri_or_literal, slot_allows, askable}
use Rattle.rdf_terms.proofs.Asked.{iri_not_blank, object_not_blank}
use Rattle.template_fill.specs.Forms.{HasNoBlank, HasNoBlankSlot}

iri-slot : (s : Slot) → slot_allows is_iri_term s ≡ true → HasNoBlankSlot s
iri-slot Any h = tt
iri-slot (Fixed t) h = iri_not_blank t h

other-slot : (s : Slot) → slot_allows is_iri_or_literal s ≡ true → HasNoBlankSlot s
other-slot Any h = tt
other-slot (Fixed t) h = object_not_blank t h

pub asked-no-blank : (s : Slots) → askable s ≡ true → HasNoBlank s
asked-no-blank s h =
    let first = and_parts (slot_allows is_iri_term s.subject) (slot_allows is_iri_term s.predicate && slot_allows is_iri_or_literal s.object) h in
    let rest = and_parts (slot_allows is_iri_term s.predicate) (slot_allows is_iri_or_literal s.object) first.1 in
    record { subject = iri-slot s.subject first.0; predicate = iri-slot s.predicate rest.0; object = other-slot s.object rest.1 }

pub rows-no-blank : (rows : List Slots) → list_all askable rows ≡ true → AllByRecursion HasNoBlank rows
rows-no-blank [] h = tt
rows-no-blank (s ∷ rows) h = let b = and_parts (askable s) (list_all askable rows) h in (asked-no-blank s b.0, rows-no-blank rows b.1)
