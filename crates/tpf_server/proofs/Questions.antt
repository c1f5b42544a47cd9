-- What the parameters ask for.
use Rattle.std.proofs.Common.{◌≡◌, ℕ, Bool, true, false, List, [], ◌∷◌, Option, Some, None, Result, Ok, Err, refl, ap, ◌∙◌, if◌then◌else◌}
use Rattle.std.specs.Prelude.{codes, IfSome, ◌==◌}
use Rattle.rdf_terms.specs.Iri.{is_iri}
use Rattle.rdf_terms.specs.Tag.{is_tag, lower}
use Rattle.rdf_terms.specs.Kinds.{typed_kind}
use Rattle.rdf_terms.specs.Datatype.{is_lang_string}
use Rattle.rdf_terms.specs.declared.term.Term.{Term}
use Rattle.rdf_terms.specs.declared.term.Term.TheVariants.{Iri, Literal}
use Rattle.rdf_terms.specs.declared.term.Kind.TheVariants.{Tagged}
use Rattle.rdf_terms.specs.declared.slots.Slot.{Slot}
use Rattle.rdf_terms.specs.declared.slots.Slot.TheVariants.{Any}
use Rattle.rdf_terms.specs.declared.slots.Slots.{Slots}
use Rattle.template_fill.specs.declared.fault.ValueFault.{ValueFault}
use Rattle.template_fill.specs.declared.fault.ValueFault.TheVariants as faults
use Rattle.template_fill.specs.ReadAddress.{◌>>=◌}
use Rattle.template_fill.specs.Forms.{HasNoBlank, HasNoBlankSlot}
use Rattle.rdf_terms.specs.Valid.{IsNotBlank}
use Rattle.template_fill.specs.Explicit.{slot_of, fixed, read_literal, read_iri, cut_literal, cut_last, suffixed_literal, marked_literal, typed_literal, tagged_literal}
use Rattle.template_fill.specs.Rows.{accepted}
use Rattle.template_fill.specs.Answers.{Question, asked_by, one_value, page_number, rows_under, slot_under, values_under}
use Rattle.tpf_server.specs.declared.parameters.Values.{Values}
use Rattle.tpf_server.specs.declared.parameters.Values.TheVariants.{Absent, One, Several}
use Rattle.tpf_server.specs.declared.parameters.Parameters.{Parameters}
use Rattle.tpf_server.specs.Parameters.{found, found_in, page_in, question_in, rows_found, rows_in, slot_in, slots_in}

-- ---- the question of the gathered values is that of the pairs

slot_is : (values : List (List ℕ)) → slot_in (found values) ≡ one_value values >>= (λ (value : List ℕ). accepted (slot_of value))
slot_is [] = refl
slot_is (value ∷ []) = refl
slot_is (value ∷ other ∷ more) = refl

page_is : (values : List (List ℕ)) → page_in (found values) ≡ one_value values >>= page_number
page_is [] = refl
page_is (value ∷ []) = refl
page_is (value ∷ other ∷ more) = refl

rows_are : (rows : Option (List Slots)) → rows_in (rows_found rows) ≡ rows
rows_are None = refl
rows_are (Some rows) = refl

abbrev in_turn : Option Slot → Option Slot → Option Slot → Option (List Slots) → Option ℕ → Option Question
in_turn s p o r k = do
  subject ← s
  predicate ← p
  object ← o
  rows ← r
  page ← k
  Some (record { selection = record { slots = record { subject = subject; predicate = predicate; object = object }; rows = rows }; page = page })

abbrev pub slots_first : Option Slot → Option Slot → Option Slot → Option Slots
slots_first s p o = do
  subject ← s
  predicate ← p
  object ← o
  Some (record { subject = subject; predicate = predicate; object = object })

abbrev pub with_page : Option Slots → Option (List Slots) → Option ℕ → Option Question
with_page slots r k = do
  s ← slots
  rows ← r
  page ← k
  Some (record { selection = record { slots = s; rows = rows }; page = page })

same_turn : (s p o : Option Slot) (r : Option (List Slots)) (k : Option ℕ) → with_page (slots_first s p o) r k ≡ in_turn s p o r k
same_turn None p o r k = refl
same_turn (Some s) None o r k = refl
same_turn (Some s) (Some p) None r k = refl
same_turn (Some s) (Some p) (Some o) r k = refl

pub question_is : (reads : Bool) (pairs : List (List ℕ × List ℕ)) → question_in (found_in reads pairs) ≡ asked_by reads pairs
unfolding found_in
question_is reads pairs =
    let vs = values_under (codes "subject") pairs in
    let vp = values_under (codes "predicate") pairs in
    let vo = values_under (codes "object") pairs in
    let vk = values_under (codes "page") pairs in
    let rows = rows_under reads pairs in
    same_turn (slot_in (found vs)) (slot_in (found vp)) (slot_in (found vo)) (rows_in (rows_found rows)) (page_in (found vk))
    ∙ ap (λ (s : Option Slot). in_turn s (slot_in (found vp)) (slot_in (found vo)) (rows_in (rows_found rows)) (page_in (found vk))) (slot_is vs)
    ∙ ap (λ (p : Option Slot). in_turn (slot_under (codes "subject") pairs) p (slot_in (found vo)) (rows_in (rows_found rows)) (page_in (found vk))) (slot_is vp)
    ∙ ap (λ (o : Option Slot). in_turn (slot_under (codes "subject") pairs) (slot_under (codes "predicate") pairs) o (rows_in (rows_found rows)) (page_in (found vk))) (slot_is vo)
    ∙ ap (λ (r : Option (List Slots)). in_turn (slot_under (codes "subject") pairs) (slot_under (codes "predicate") pairs) (slot_under (codes "object") pairs) r (page_in (found vk))) (rows_are rows)
    ∙ ap (λ (k : Option ℕ). in_turn (slot_under (codes "subject") pairs) (slot_under (codes "predicate") pairs) (slot_under (codes "object") pairs) rows k) (page_is vk)

-- ---- no blank node is asked for

abbrev NoBlankTerm : Result Term ValueFault → Type 0
NoBlankTerm (Ok term) = IsNotBlank term
NoBlankTerm (Err fault) = Unit {0}

abbrev NoBlankRead : Result Slot ValueFault → Type 0
NoBlankRead (Ok slot) = HasNoBlankSlot slot
NoBlankRead (Err fault) = Unit {0}

either : (b : Bool) (x y : Result Term ValueFault) → NoBlankTerm x → NoBlankTerm y → NoBlankTerm (if b then x else y)
either true x y p q = p
either false x y p q = q

either_slot : (b : Bool) (x y : Result Slot ValueFault) → NoBlankRead x → NoBlankRead y → NoBlankRead (if b then x else y)
either_slot true x y p q = p
either_slot false x y p q = q

typed_fits : (form iri : List ℕ) → NoBlankTerm (typed_literal form iri)
typed_fits form iri = either (is_lang_string iri) (Err faults.LangString) (if is_iri iri then Ok (Literal form (typed_kind iri)) else Err faults.Suffix) tt (either (is_iri iri) (Ok (Literal form (typed_kind iri))) (Err faults.Suffix) tt tt)

marked_fits : (form rest : List ℕ) → NoBlankTerm (marked_literal form rest)
marked_fits form [] = tt
marked_fits form (b ∷ iri) = either (b == 94) (typed_literal form iri) (Err faults.Suffix) (typed_fits form iri) tt

suffixed_fits : (form rest : List ℕ) → NoBlankTerm (suffixed_literal form rest)
suffixed_fits form [] = tt
suffixed_fits form (b ∷ rest) =
    either (b == 64) (tagged_literal form rest) (if b == 94 then marked_literal form rest else Err faults.Suffix)
    (either (is_tag rest) (Ok (Literal form (Tagged (lower rest)))) (Err faults.Suffix) tt tt)
    (either (b == 94) (marked_literal form rest) (Err faults.Suffix) (marked_fits form rest) tt)

cut_fits : (cut : Option (List ℕ × List ℕ)) → NoBlankTerm (cut_literal cut)
cut_fits None = tt
cut_fits (Some p) = suffixed_fits p.0 p.1

literal_fits : (text : List ℕ) → NoBlankTerm (read_literal text)
unfolding read_literal
literal_fits text = cut_fits (cut_last 34 text)

fixed_fits : (r : Result Term ValueFault) → NoBlankTerm r → NoBlankRead (fixed r)
fixed_fits (Ok term) h = h
fixed_fits (Err fault) h = tt

pub slot_fits : (text : List ℕ) → NoBlankRead (slot_of text)
slot_fits [] = tt
slot_fits (b ∷ rest) =
    either_slot (b == 63) (Ok Any) (if b == 34 then fixed (read_literal rest) else fixed (read_iri (b ∷ rest))) tt
    (either_slot (b == 34) (fixed (read_literal rest)) (fixed (read_iri (b ∷ rest)))
    (fixed_fits (read_literal rest) (literal_fits rest))
    (fixed_fits (read_iri (b ∷ rest)) (either (is_iri (b ∷ rest)) (Ok (Iri (b ∷ rest))) (Err faults.Iri) tt tt)))

pub accepted_fits : (r : Result Slot ValueFault) → NoBlankRead r → IfSome (accepted r) HasNoBlankSlot
accepted_fits (Ok slot) h = h
accepted_fits (Err fault) h = tt

in_fits : (v : Values) → IfSome (slot_in v) HasNoBlankSlot
in_fits Absent = tt
in_fits (One text) = accepted_fits (slot_of text) (slot_fits text)
in_fits Several = tt

pub all_fit : (s p o : Option Slot) → IfSome s HasNoBlankSlot → IfSome p HasNoBlankSlot → IfSome o HasNoBlankSlot → IfSome (slots_first s p o) HasNoBlank
all_fit None p o hs hp ho = tt
all_fit (Some s) None o hs hp ho = tt
all_fit (Some s) (Some p) None hs hp ho = tt
all_fit (Some s) (Some p) (Some o) hs hp ho = record { subject = hs; predicate = hp; object = ho }

pub slots_fit : (p : Parameters) → IfSome (slots_in p) HasNoBlank
slots_fit p = all_fit (slot_in p.subject) (slot_in p.predicate) (slot_in p.object) (in_fits p.subject) (in_fits p.predicate) (in_fits p.object)
