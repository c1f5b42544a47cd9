-- What can be asked for: terms and slots without blank nodes.
use Rattle.std.specs.Prelude.{⊤}
use Rattle.rdf_terms.specs.declared.term.Term.{Term}
use Rattle.rdf_terms.specs.declared.slots.Slot.{Slot}
use Rattle.rdf_terms.specs.declared.slots.Slot.TheVariants.{Any, Fixed}
use Rattle.rdf_terms.specs.declared.slots.Slots.{Slots}
use Rattle.rdf_terms.specs.Valid.{IsValidTerm, IsNotBlank}

-- a slot that is free, or fixed to a valid term
abbrev pub IsValidSlot : Slot → Type 0
IsValidSlot Any = ⊤
IsValidSlot (Fixed term) = IsValidTerm term

pub record AreValid (slots : Slots) : Type 0 where
  pub subject : IsValidSlot slots.subject
  pub predicate : IsValidSlot slots.predicate
  pub object : IsValidSlot slots.object

-- a valid term that is no blank node
pub record IsKeptTerm (term : Term) : Type 0 where
  pub not_blank : IsNotBlank term
  pub valid : IsValidTerm term

-- a slot that is free, or fixed to such a term
abbrev pub IsKeptSlot : Slot → Type 0
IsKeptSlot Any = ⊤
IsKeptSlot (Fixed term) = IsKeptTerm term

pub record AreKept (slots : Slots) : Type 0 where
  pub subject : IsKeptSlot slots.subject
  pub predicate : IsKeptSlot slots.predicate
  pub object : IsKeptSlot slots.object
