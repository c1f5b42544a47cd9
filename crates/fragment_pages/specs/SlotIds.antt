-- Slots by the ids of a table.
use Rattle.std.specs.Prelude.{ℕ, ◌≡◌, Option, Some, None}
use Rattle.std.specs.List.{Contains}
use Rattle.rdf_terms.specs.declared.slots.Slot.{Slot}
use Rattle.rdf_terms.specs.declared.slots.Slot.TheVariants.{Any, Fixed}
use Rattle.rdf_terms.specs.declared.slots.Slots.{Slots}
use Rattle.rdf_terms.specs.declared.term.Triple.{Triple}
use Rattle.rdf_terms.specs.Slots.{Matches}
use Rattle.triple_table.specs.declared.ids.IdPattern.{IdPattern}
use Rattle.triple_table.specs.Served.{terms_of}
use Rattle.triple_table.specs.Stored.{Stored, triples_in, held_terms, IsIdOrOpen, IsIdPattern, slot_at, slots_at}

-- the id of a slot, or that no triple holds its term
abbrev pub IsSlotId : Stored → Slot → Option (Option ℕ) → Type 0
IsSlotId s Any None = ⊥
IsSlotId s (Fixed term) None = Contains (terms_of (triples_in s)) term → ⊥
IsSlotId s slot (Some id) = IsIdOrOpen (held_terms s) id × (slot_at (held_terms s) id ≡ slot)

-- the pattern of slots, or that no triple matches them
abbrev pub IsPatternOf : Stored → Slots → Option IdPattern → Type 0
IsPatternOf s slots None = (t : Triple) → Contains (triples_in s) t → Matches slots t → ⊥
IsPatternOf s slots (Some p) = IsIdPattern s p × (slots_at s p ≡ slots)
