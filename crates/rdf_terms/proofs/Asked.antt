-- Slots that a server is asked for, and the others.
use Rattle.std.proofs.Common.{◌≡◌, Bool, true, false, List, [], ◌∷◌, refl, sym, ◌∙◌, ap}
use Rattle.std.specs.List.{AllByRecursion, filter}
use Rattle.list_laws.proofs.Tests.{all_three, and_first, and_second}
use Rattle.rdf_terms.specs.declared.term.Term.{Term}
use Rattle.rdf_terms.specs.declared.term.Term.TheVariants.{Iri, Blank, Literal}
use Rattle.rdf_terms.specs.declared.term.Triple.{Triple}
use Rattle.rdf_terms.specs.declared.slots.Slot.{Slot}
use Rattle.rdf_terms.specs.declared.slots.Slot.TheVariants.{Any, Fixed}
use Rattle.rdf_terms.specs.declared.slots.Slots.{Slots}
use Rattle.rdf_terms.specs.Triples.{IsIri, IsIriOrLiteral, IsGroundTriple}
use Rattle.rdf_terms.specs.Slots.{matches_slot, matches, order_of}
use Rattle.rdf_terms.specs.Same.{term_eq}
use Rattle.rdf_terms.specs.Fragments.{sorted, fragment}
use Rattle.rdf_terms.specs.Valid.{IsNotBlank}
use Rattle.rdf_terms.specs.Kept.{IsValidSlot, IsKeptSlot}
use Rattle.rdf_terms.specs.Askable.{is_iri_term, is_iri_or_literal, slot_allows, askable, AskableAreKept, UnaskedMatchNothing}

-- ---- kept slots

pub iri_not_blank : (term : Term) → is_iri_term term ≡ true → IsNotBlank term
iri_not_blank (Iri text) is = tt
iri_not_blank (Blank label) is = absurd (cc)
iri_not_blank (Literal form kind) is = tt

pub object_not_blank : (term : Term) → is_iri_or_literal term ≡ true → IsNotBlank term
object_not_blank (Iri text) is = tt
object_not_blank (Blank label) is = absurd (cc)
object_not_blank (Literal form kind) is = tt

kept_slot : (test : Term → Bool) → ((term : Term) → test term ≡ true → IsNotBlank term) → (slot : Slot) → slot_allows test slot ≡ true → IsValidSlot slot → IsKeptSlot slot
kept_slot test rule Any is valid = tt
kept_slot test rule (Fixed term) is valid = record { not_blank = rule term is; valid = valid }

pub askable_are_kept : AskableAreKept
askable_are_kept slots is valid =
    let subject = and_first (slot_allows is_iri_term slots.subject) _ is in
    let behind = and_second (slot_allows is_iri_term slots.subject) _ is in
    record {
      subject = kept_slot is_iri_term iri_not_blank slots.subject subject valid.subject;
      predicate = kept_slot is_iri_term iri_not_blank slots.predicate (and_first (slot_allows is_iri_term slots.predicate) _ behind) valid.predicate;
      object = kept_slot is_iri_or_literal object_not_blank slots.object (and_second (slot_allows is_iri_term slots.predicate) _ behind) valid.object;
    }

-- ---- other slots

-- what matches a term of a class passes the test of that class
abbrev Allows : (Term → Type 0) → (Term → Bool) → Type 0
Allows IsClass test = (fixed term : Term) → term_eq fixed term ≡ true → IsClass term → test fixed ≡ true

iri_allows : Allows IsIri is_iri_term
iri_allows (Iri a) (Iri b) same class = refl
iri_allows (Blank a) (Iri b) same class = absurd (cc)
iri_allows (Literal a k) (Iri b) same class = absurd (cc)
iri_allows fixed (Blank b) same class = absurd class
iri_allows fixed (Literal b k) same class = absurd class

object_allows : Allows IsIriOrLiteral is_iri_or_literal
object_allows (Iri a) term same class = refl
object_allows (Literal a k) term same class = refl
object_allows (Blank a) (Iri b) same class = absurd (cc)
object_allows (Blank a) (Literal b k) same class = absurd (cc)
object_allows (Blank a) (Blank b) same class = absurd class

slot_matched : (IsClass : Term → Type 0) (test : Term → Bool) → Allows IsClass test → (slot : Slot) (term : Term) → matches_slot slot term ≡ true → IsClass term → slot_allows test slot ≡ true
slot_matched IsClass test rule Any term same class = refl
slot_matched IsClass test rule (Fixed fixed) term same class = rule fixed term same class

matched : (slots : Slots) (t : Triple) → matches slots t ≡ true → IsGroundTriple t → askable slots ≡ true
matched slots t same ground =
    let behind = and_second (matches_slot slots.subject t.subject) _ same in
    all_three (slot_allows is_iri_term slots.subject) (slot_allows is_iri_term slots.predicate) (slot_allows is_iri_or_literal slots.object)
    (slot_matched IsIri is_iri_term iri_allows slots.subject t.subject (and_first (matches_slot slots.subject t.subject) _ same) ground.subject)
    (slot_matched IsIri is_iri_term iri_allows slots.predicate t.predicate (and_first (matches_slot slots.predicate t.predicate) _ behind) ground.predicate)
    (slot_matched IsIriOrLiteral is_iri_or_literal object_allows slots.object t.object (and_second (matches_slot slots.predicate t.predicate) _ behind) ground.object)

unmatched : (slots : Slots) (t : Triple) → askable slots ≡ false → IsGroundTriple t → matches slots t ≡ false
unmatched slots t barred ground =
    let go : (v : Bool) → matches slots t ≡ v → v ≡ false =
    λ v. elim v as (λ w. matches slots t ≡ w → w ≡ false) [
      | true ↦ λ same. sym (matched slots t same ground) ∙ barred
      | false ↦ λ _. refl
    ] in
    go (matches slots t) refl

none_matched : (triples : List Triple) (slots : Slots) → askable slots ≡ false → AllByRecursion IsGroundTriple triples → filter (matches slots) triples ≡ []
none_matched [] slots barred ground = refl
none_matched (t ∷ triples) slots barred ground = rw (unmatched slots t barred ground.0) (none_matched triples slots barred ground.1)

pub unasked_match_nothing : UnaskedMatchNothing
unfolding fragment
unasked_match_nothing triples slots barred ground = ap (sorted (order_of slots)) (none_matched triples slots barred ground)
