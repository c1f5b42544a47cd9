-- What stands in both slots, with the term replaced by its id.
use Rattle.std.proofs.Common.{sym, ap, ◌∙◌}
use Rattle.rdf_terms.specs.declared.term.Term.{Term}
use Rattle.rdf_terms.specs.declared.slots.Slot.{Slot}
use Rattle.rdf_terms.specs.declared.slots.Slot.TheVariants.{Fixed}
use Rattle.rdf_terms.specs.Slots.{matches_slot}
use Rattle.restricted_pages.proofs.Joins.{not_held}
use Rattle.restricted_pages.proofs.patterns.joined_id.Goals as goal

pub returns-in-None : goal.returns-in-None
returns-in-None g c = λ t held. c.in-None.ensures t

pub returns-in-Some-Any : goal.returns-in-Some-Any
returns-in-Some-Any g c = (tt, λ t. c.in-Some-Any.ensures t ∙ ap (λ (x : Slot). matches_slot x t) c.in-Some-Any.field-0-is)

pub returns-in-Some : goal.returns-in-Some
returns-in-Some g c = (c.in-Some.ensures.id.0, λ t. c.in-Some-Fixed.ensures t ∙ ap (λ (x : Slot). matches_slot x t) c.in-Some-Fixed.field-0-is ∙ ap (λ (x : Term). matches_slot (Fixed x) t) (sym c.in-Some.ensures.id.1))

pub returns-in-None-id : goal.returns-in-None-id
returns-in-None-id g c = λ t held. c.in-Some-Fixed.ensures t ∙ ap (λ (x : Slot). matches_slot x t) c.in-Some-Fixed.field-0-is ∙ not_held _ c.in-Some-Fixed.term t c.in-None-id.ensures.id held
