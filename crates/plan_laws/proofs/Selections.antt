-- The selections for which a plan asks: kept, and not long.
use Rattle.std.proofs.Common.{ℕ, ◌≡◌, ◌<◌, ◌≤◌, Bool, true, false, List, [], ◌∷◌, ◌++◌, length, ap, arith, length-append}
use Rattle.std.specs.List.{All, AllByRecursion, list_all}
use Rattle.std.proofs.lemmas.List.Elements.{All-head, All-weaker}
use Rattle.list_laws.proofs.Tests.{and_first, and_second}
use Rattle.tpf_base.specs.Addresses.{Address, target_of}
use Rattle.rdf_terms.specs.declared.term.Term.{Term}
use Rattle.rdf_terms.specs.declared.term.Triple.{Triple}
use Rattle.rdf_terms.specs.declared.slots.Slot.{Slot}
use Rattle.rdf_terms.specs.declared.slots.Slot.TheVariants as slots
use Rattle.rdf_terms.specs.declared.slots.Slots.{Slots}
use Rattle.rdf_terms.specs.declared.limits.TheConstants.{MOST_ROWS}
use Rattle.rdf_terms.specs.Askable.{askable, AskableAreKept}
use Rattle.rdf_terms.specs.Kept.{AreValid, AreKept}
use Rattle.rdf_terms.specs.Selections.{Selection, IsKeptSelection, IsValidSelection, all_of}
use Rattle.rdf_terms.specs.Valid.{IsValidTerm}
use Rattle.template_fill.specs.Answers.{read_as}
use Rattle.template_fill.specs.Authorities.{address_of_page}
use Rattle.template_fill.specs.Explicit.{explicit_form}
use Rattle.template_fill.specs.Metadata.{Config}
use Rattle.template_fill.specs.Pages.{selection_text, page_mark, page_pair}
use Rattle.template_fill.proofs.Addresses.{target-parts}
use Rattle.bgp_core.specs.declared.pattern.Part.{Part}
use Rattle.bgp_core.specs.declared.pattern.Part.TheVariants.{Fixed, Name}
use Rattle.bgp_core.specs.declared.pattern.Pattern.{Pattern}
use Rattle.bgp_core.specs.Solutions.{Places}
use Rattle.bgp_core.specs.Instances.{instance}
use Rattle.bgp_core.specs.Queries.{IsValidPart, IsValidPattern}
use Rattle.request_plan.specs.declared.block.TheConstants.{LONGEST_TARGET}
use Rattle.request_plan.specs.Blocks.{selection_for, is_askable}
use Rattle.request_plan.specs.Plans.{IsValidRow}
use Rattle.request_plan.specs.Worlds.{cut_of}
use Rattle.request_plan.proofs.Asked.{selection-askable, selection-valid}
use Rattle.plan_laws.specs.Servers.{server_world}
use Rattle.plan_laws.proofs.Lengths.{IsShortSlot, AreShort, IsShort, fragment_short, passed_short}
use Rattle.plan_laws.proofs.Slots.{Binds, IsPart, HasParts, IsSlot, HasSlots, instance_slots}

-- a valid term whose explicit form is not long
abbrev pub IsGood : Term → Type 0
IsGood term = IsValidTerm term × (length (explicit_form term) ≤ 262208)

-- what may be asked for, and what stands of it in an address is not long
pub record IsGoodSelection (s : Selection) : Type 0 where
  pub kept : IsKeptSelection s
  pub short : IsShort s

-- ---- kept

all_kept : AskableAreKept → (rows : List Slots) → list_all askable rows ≡ true → AllByRecursion AreValid rows → AllByRecursion AreKept rows
all_kept kept [] asked valid = tt
all_kept kept (row ∷ rows) asked valid = (kept row (and_first (askable row) (list_all askable rows) asked) valid.0, all_kept kept rows (and_second (askable row) (list_all askable rows) asked) valid.1)

pub selection_kept : AskableAreKept → (s : Selection) → is_askable s ≡ true → IsValidSelection s → IsKeptSelection s
selection_kept kept s asked valid = record {
  slots = kept s.slots (and_second (list_all askable s.rows) (askable s.slots) asked) valid.slots;
  rows = all_kept kept s.rows (and_first (list_all askable s.rows) (askable s.slots) asked) valid.rows;
  few = valid.few;
}

part_valid : (part : Part) → IsPart IsGood part → IsValidPart part
part_valid (Fixed t) h = h.0
part_valid (Name n) h = tt

pattern_valid : (p : Pattern) → HasParts IsGood p → IsValidPattern p
pattern_valid p h = record { subject = part_valid p.subject h.subject; predicate = part_valid p.predicate h.predicate; object = part_valid p.object h.object }

-- ---- not long

slot_short : (s : Slot) → IsSlot IsGood s → IsShortSlot 262208 s
slot_short slots.Any h = tt
slot_short (slots.Fixed t) h = h.1

slots_short : (s : Slots) → HasSlots IsGood s → AreShort 262208 s
slots_short s h = record { subject = slot_short s.subject h.subject; predicate = slot_short s.predicate h.predicate; object = slot_short s.object h.object }

-- what stands of a selection is no longer than the target of its first page
text_in_target : (base : Address) (s : Selection) → length (selection_text s) ≤ length (target_of (address_of_page base s 1))
unfolding address_of_page
text_in_target base s =
    let more = selection_text s ++ page_pair (page_mark (selection_text s)) 1 in
    omega (arith, ap length (target-parts (target_of base ++ more)), length-append (target_of base) more, length-append (selection_text s) (page_pair (page_mark (selection_text s)) 1))

row_short : (p : Pattern) (row : Places) → HasParts IsGood p → Binds IsGood row → IsShort (all_of (instance p row))
row_short p row h b = fragment_short (instance p row) (slots_short (instance p row) (instance_slots IsGood p row h b))

short_for : (block : ℕ) (triples : List Triple) (config : Config) (p : Pattern) (rows : List Places) → HasParts IsGood p → 0 < length rows → All (Binds IsGood) rows
    → (1 < length rows → (cut_of (server_world block triples config)).target (selection_for p rows) ≤ LONGEST_TARGET) → IsShort (selection_for p rows)
short_for block triples config p [] h some binds short = absurd (omega (arith, some))
short_for block triples config p (row ∷ []) h some binds short = row_short p row h (All-head (Binds IsGood) row [] binds)
short_for block triples config p (row ∷ other ∷ rows) h some binds short = record {
  short = let least = short (omega arith) in omega (arith, least, text_in_target config.base (selection_for p (row ∷ other ∷ rows)));
}

-- ---- the selection of a block

kept_for : AskableAreKept → (p : Pattern) (rows : List Places) → HasParts IsGood p → 0 < length rows → All (Binds IsGood) rows → All (λ row. askable (instance p row) ≡ true) rows → length rows ≤ MOST_ROWS → IsKeptSelection (selection_for p rows)
kept_for kept p rows h some binds asked few =
    selection_kept kept (selection_for p rows) (selection-askable p rows some asked) (selection-valid p rows (pattern_valid p h) (All-weaker (Binds IsGood) IsValidRow (λ row b n t e. (b.each n t e).0) rows binds) few)

pub good_for : AskableAreKept → (block : ℕ) (triples : List Triple) (config : Config) (p : Pattern) (rows : List Places) → HasParts IsGood p → 0 < length rows → All (Binds IsGood) rows → All (λ row. askable (instance p row) ≡ true) rows → length rows ≤ MOST_ROWS
    → (1 < length rows → (cut_of (server_world block triples config)).target (selection_for p rows) ≤ LONGEST_TARGET) → IsGoodSelection (selection_for p rows)
good_for kept block triples config p rows h some binds asked few short = record { kept = kept_for kept p rows h some binds asked few; short = short_for block triples config p rows h some binds short }

-- and that of one row alone
pub good_alone : AskableAreKept → (p : Pattern) (rows : List Places) → HasParts IsGood p → 0 < length rows → All (Binds IsGood) rows → All (λ row. askable (instance p row) ≡ true) rows → length rows ≤ 1 → IsGoodSelection (selection_for p rows)
good_alone kept p [] h some binds asked few = absurd (omega (arith, some))
good_alone kept p (row ∷ []) h some binds asked few = record {
  kept = kept_for kept p (row ∷ []) h some binds asked (omega arith);
  short = row_short p row h (All-head (Binds IsGood) row [] binds);
}
good_alone kept p (row ∷ other ∷ rows) h some binds asked few = absurd (omega (arith, few))

pub good_passed : (rows : Bool) (s : Selection) → IsGoodSelection s → IsGoodSelection (read_as rows s)
good_passed true s h = h
good_passed false s h = record { kept = record { slots = h.kept.slots; rows = tt; few = omega arith }; short = passed_short false s h.short }
