-- What holds of the terms of a row, of a pattern and of triples holds of the slots that the pattern asks for under the row, and of the row that a triple extends.
use Rattle.std.proofs.Common.{ℕ, ◌≡◌, ◌⊎◌, inl, inr, Option, Some, None, slice_get, refl, sym, subst, ◌∙◌}
use Rattle.std.proofs.lemmas.Bool.{cases_eq}
use Rattle.rdf_terms.specs.declared.term.Term.{Term}
use Rattle.rdf_terms.specs.declared.term.Triple.{Triple}
use Rattle.rdf_terms.specs.declared.slots.Slot.{Slot}
use Rattle.rdf_terms.specs.declared.slots.Slot.TheVariants as slots
use Rattle.rdf_terms.specs.declared.slots.Slots.{Slots}
use Rattle.bgp_core.specs.declared.pattern.Part.{Part}
use Rattle.bgp_core.specs.declared.pattern.Part.TheVariants.{Fixed, Name}
use Rattle.bgp_core.specs.declared.pattern.Pattern.{Pattern}
use Rattle.bgp_core.specs.Solutions.{Places, joined, extension}
use Rattle.bgp_core.specs.Instances.{slot_of, slot, instance}
use Rattle.bgp_core.specs.Extends.{Becomes, IsNameOf}
use Rattle.bgp_core.proofs.Extending.{extension-some}

-- each term that is bound
pub record Binds (P : Term → Type 0) (row : Places) : Type 0 where
  pub each : (n : ℕ) (t : Term) → slice_get row n ≡ Some (Some t) → P t

pub record HasTerms (P : Term → Type 0) (t : Triple) : Type 0 where
  pub subject : P t.subject
  pub predicate : P t.predicate
  pub object : P t.object

abbrev pub IsPart : (Term → Type 0) → Part → Type 0
IsPart P (Fixed t) = P t
IsPart P (Name n) = Unit {0}

pub record HasParts (P : Term → Type 0) (p : Pattern) : Type 0 where
  pub subject : IsPart P p.subject
  pub predicate : IsPart P p.predicate
  pub object : IsPart P p.object

abbrev pub IsSlot : (Term → Type 0) → Slot → Type 0
IsSlot P slots.Any = Unit {0}
IsSlot P (slots.Fixed t) = P t

pub record HasSlots (P : Term → Type 0) (s : Slots) : Type 0 where
  pub subject : IsSlot P s.subject
  pub predicate : IsSlot P s.predicate
  pub object : IsSlot P s.object

module _ (P : Term → Type 0) where
  -- ---- slots

  name_slot : (row : Places) (n : ℕ) (o : Option (Option Term)) → slice_get row n ≡ o → Binds P row → IsSlot P (slot_of (joined o))
  name_slot row n None e h = tt
  name_slot row n (Some None) e h = tt
  name_slot row n (Some (Some t)) e h = h.each n t e

  part_slot : (row : Places) (part : Part) → IsPart P part → Binds P row → IsSlot P (slot row part)
  part_slot row (Fixed t) v h = v
  part_slot row (Name n) v h = name_slot row n (slice_get row n) refl h

  pub instance_slots : (p : Pattern) (row : Places) → HasParts P p → Binds P row → HasSlots P (instance p row)
  instance_slots p row v h = record { subject = part_slot row p.subject v.subject h; predicate = part_slot row p.predicate v.predicate h; object = part_slot row p.object v.object h }

  -- ---- rows

  name_or_not : (n : ℕ) (part : Part) → IsNameOf n part ⊎ (IsNameOf n part → ⊥)
  name_or_not n (Fixed t) = inr (λ h. h)
  name_or_not n (Name m) = cases_eq m n

  named : (new : Places) (n : ℕ) (t : Term) (part : Part) (s : Term) → Becomes new part s → IsNameOf n part → slice_get new n ≡ Some (Some t) → s ≡ t
  named new n t (Fixed u) s b h at = absurd h
  named new n t (Name m) s b h at =
      let there : slice_get new n ≡ Some (Some s) = subst (λ (k : ℕ). slice_get new k ≡ Some (Some s)) h b in
      cc

  pub extended_binds : (p : Pattern) (row : Places) (t : Triple) (new : Places) → extension p row t ≡ Some new → Binds P row → HasTerms P t → Binds P new
  extended_binds p row t new e h ok =
      let x = extension-some p row t new e in
      record {
        each = λ n u at. elim (name_or_not n p.subject) [
          | inl i ↦ subst P (named new n u p.subject t.subject x.subject i at) ok.subject
          | inr a ↦ elim (name_or_not n p.predicate) [
            | inl i ↦ subst P (named new n u p.predicate t.predicate x.predicate i at) ok.predicate
            | inr b ↦ elim (name_or_not n p.object) [
              | inl i ↦ subst P (named new n u p.object t.object x.object i at) ok.object
              | inr c ↦ h.each n u (sym (x.grows.others n (λ i. elim i [ inl y ↦ a y | inr z ↦ elim z [ inl y ↦ b y | inr y ↦ c y ] ])) ∙ at)
            ]
          ]
        ];
      }
