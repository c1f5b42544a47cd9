-- The slots that a server of fragments is asked for: a triple that it has can stand in them (RDF 1.1 Concepts, 3.1; no blank node is served).
use Rattle.std.specs.Prelude.{◌≡◌, Bool, true, false, ◌&&◌, List, []}
use Rattle.std.specs.List.{AllByRecursion}
use Rattle.rdf_terms.specs.declared.term.Term.{Term}
use Rattle.rdf_terms.specs.declared.term.Term.TheVariants.{Iri, Blank, Literal}
use Rattle.rdf_terms.specs.declared.slots.Slot.{Slot}
use Rattle.rdf_terms.specs.declared.slots.Slot.TheVariants.{Any, Fixed}
use Rattle.rdf_terms.specs.declared.slots.Slots.{Slots}
use Rattle.rdf_terms.specs.declared.term.Triple.{Triple}
use Rattle.rdf_terms.specs.Triples.{IsGroundTriple}
use Rattle.rdf_terms.specs.Fragments.{fragment}
use Rattle.rdf_terms.specs.Kept.{AreValid, AreKept}

abbrev pub is_iri_term : Term → Bool
is_iri_term (Iri text) = true
is_iri_term (Blank label) = false
is_iri_term (Literal form kind) = false

abbrev pub is_iri_or_literal : Term → Bool
is_iri_or_literal (Iri text) = true
is_iri_or_literal (Blank label) = false
is_iri_or_literal (Literal form kind) = true

-- a free place, or one fixed to a term that passes the test
abbrev pub slot_allows : (Term → Bool) → Slot → Bool
slot_allows test Any = true
slot_allows test (Fixed term) = test term

-- no subject but an IRI, no predicate but an IRI, and no blank node as object
abbrev pub askable : Slots → Bool
askable slots = slot_allows is_iri_term slots.subject && (slot_allows is_iri_term slots.predicate && slot_allows is_iri_or_literal slots.object)

-- ---- the laws

-- slots that are asked for and have valid terms are kept
abbrev pub AskableAreKept : Type 0
AskableAreKept = (slots : Slots) → askable slots ≡ true → AreValid slots → AreKept slots

-- other slots match no triple of a data set, so their fragment is empty
abbrev pub UnaskedMatchNothing : Type 0
UnaskedMatchNothing = (triples : List Triple) (slots : Slots) → askable slots ≡ false → AllByRecursion IsGroundTriple triples → fragment triples slots ≡ []
