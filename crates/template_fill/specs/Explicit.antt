-- The explicit form of a term, and the slot that a text stands for (Triple Pattern Fragments; Hydra, ExplicitRepresentation).
use Rattle.std.specs.Prelude.{ℕ, ◌≡◌, ◌+◌, ◌≤◌, ◌==◌, List, [], ◌∷◌, ◌++◌, length, Option, Some, None, Result, Ok, Err, if◌then◌else◌}
use Rattle.std.specs.Option.{option_map}
use Rattle.std.specs.Str.{IsUtf8}
pub use Rattle.list_laws.specs.Options.{first_of}
use Rattle.rdf_terms.specs.Iri.{is_iri}
use Rattle.rdf_terms.specs.Tag.{is_tag, lower}
use Rattle.rdf_terms.specs.Kinds.{typed_kind}
use Rattle.rdf_terms.specs.Datatype.{is_lang_string}
use Rattle.rdf_terms.specs.Canon.{canonical_term}
use Rattle.rdf_terms.specs.Sizes.{term_size}
use Rattle.rdf_terms.specs.Valid.{IsValidTerm}
use Rattle.rdf_terms.specs.Kept.{IsKeptTerm}
use Rattle.rdf_terms.specs.declared.term.Term.{Term}
use Rattle.rdf_terms.specs.declared.term.Term.TheVariants.{Iri, Blank, Literal}
use Rattle.rdf_terms.specs.declared.term.Kind.{Kind}
use Rattle.rdf_terms.specs.declared.term.Kind.TheVariants.{Plain, Typed, Tagged}
use Rattle.rdf_terms.specs.declared.slots.Slot.{Slot}
use Rattle.rdf_terms.specs.declared.slots.Slot.TheVariants.{Any, Fixed}
use Rattle.template_fill.specs.declared.fault.ValueFault.{ValueFault}
use Rattle.template_fill.specs.declared.fault.ValueFault.TheVariants as faults

-- what follows the second quote of a literal
abbrev pub suffix : Kind → List ℕ
suffix Plain = []
suffix (Typed datatype) = 94 ∷ 94 ∷ datatype
suffix (Tagged tag) = 64 ∷ tag

-- an IRI as it is; a literal in quotes, its form without escapes; a blank node has no form
abbrev pub explicit_form : Term → List ℕ
explicit_form (Iri text) = text
explicit_form (Blank label) = []
explicit_form (Literal form kind) = 34 ∷ (form ++ 34 ∷ suffix kind)

-- what stands before the last x, and what stands after it
abbrev pub cut_last : ℕ → List ℕ → Option (List ℕ × List ℕ)
cut_last x [] = None
cut_last x (b ∷ bytes) = first_of (option_map (λ p. (b ∷ p.0, p.1)) (cut_last x bytes)) (if b == x then Some ([], bytes) else None)

abbrev pub tagged_literal : List ℕ → List ℕ → Result Term ValueFault
tagged_literal form tag = if is_tag tag then Ok (Literal form (Tagged (lower tag))) else Err faults.Suffix

abbrev pub typed_literal : List ℕ → List ℕ → Result Term ValueFault
typed_literal form iri = if is_lang_string iri then Err faults.LangString else (if is_iri iri then Ok (Literal form (typed_kind iri)) else Err faults.Suffix)

-- what stands after the first ^ of a suffix
abbrev pub marked_literal : List ℕ → List ℕ → Result Term ValueFault
marked_literal form [] = Err faults.Suffix
marked_literal form (b ∷ iri) = if b == 94 then typed_literal form iri else Err faults.Suffix

-- the literal with this form and what follows its last quote: nothing, @ and a tag, or ^^ and a datatype
abbrev pub suffixed_literal : List ℕ → List ℕ → Result Term ValueFault
suffixed_literal form [] = Ok (Literal form Plain)
suffixed_literal form (b ∷ rest) = if b == 64 then tagged_literal form rest else (if b == 94 then marked_literal form rest else Err faults.Suffix)

abbrev pub cut_literal : Option (List ℕ × List ℕ) → Result Term ValueFault
cut_literal None = Err faults.Quote
cut_literal (Some p) = suffixed_literal p.0 p.1

-- the literal that a text is after its first quote; the last quote closes
unfoldable pub read_literal : List ℕ → Result Term ValueFault
read_literal text = cut_literal (cut_last 34 text)

abbrev pub read_iri : List ℕ → Result Term ValueFault
read_iri text = if is_iri text then Ok (Iri text) else Err faults.Iri

abbrev pub fixed : Result Term ValueFault → Result Slot ValueFault
fixed (Ok term) = Ok (Fixed term)
fixed (Err fault) = Err fault

-- nothing and a variable leave the place free
abbrev pub slot_of : List ℕ → Result Slot ValueFault
slot_of [] = Ok Any
slot_of (b ∷ rest) = if b == 63 then Ok Any else (if b == 34 then fixed (read_literal rest) else fixed (read_iri (b ∷ rest)))

-- a call's answer is the wanted one, or it found no memory
abbrev pub Gives : {A : Type 0} → Result A ValueFault → Result A ValueFault → Type 0
Gives (Ok x) wanted = wanted ≡ Ok x
Gives (Err faults.OutOfMemory) wanted = Unit {0}
Gives (Err fault) wanted = wanted ≡ Err fault

-- ---- the laws

-- the slot of the explicit form of a term is that term fixed, for an IRI and for a literal
abbrev pub ReadsBack : Type 0
ReadsBack = (term : Term) → IsKeptTerm term → slot_of (explicit_form term) ≡ Ok (Fixed term)

-- the explicit form of a valid term is UTF-8
abbrev pub FormsAreText : Type 0
FormsAreText = (term : Term) → IsValidTerm term → IsUtf8 (explicit_form term)

-- the explicit form has at most four bytes more than the texts of the term, and no more than its canonical text
pub record FormsAreShort : Type 0 where
  pub texts : (term : Term) → length (explicit_form term) ≤ term_size term + 4
  pub canonical : (term : Term) → length (explicit_form term) ≤ length (canonical_term term)
