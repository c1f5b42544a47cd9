-- Blocks of rows: what they ask for, and how rows are cut into them (bindings-restricted Triple Pattern Fragments, brTPF).
use Rattle.std.specs.Prelude.{ℕ, zero, suc, ◌≤◌, ◌&&◌, Bool, true, false, min, nat_le, List, [], ◌∷◌, ◌++◌, length, map, take, drop, Option, Some, None, if◌then◌else◌}
use Rattle.std.specs.List.{list_all, list_any}
use Rattle.rdf_terms.specs.declared.slots.Slot.{Slot}
use Rattle.rdf_terms.specs.declared.slots.Slot.TheVariants.{Any, Fixed}
use Rattle.rdf_terms.specs.declared.slots.Slots.{Slots}
use Rattle.rdf_terms.specs.Same.{term_eq}
use Rattle.rdf_terms.specs.declared.limits.TheConstants.{MOST_ROWS}
use Rattle.rdf_terms.specs.Askable.{askable}
use Rattle.rdf_terms.specs.Selections.{Selection, all_of}
use Rattle.tpf_base.specs.Addresses.{Address, target_of}
use Rattle.template_fill.specs.ReadAddress.{read_address}
use Rattle.template_fill.specs.declared.form.Form.{Form}
use Rattle.template_fill.specs.Forms.{selection_form_text}
use Rattle.bgp_core.specs.declared.pattern.Pattern.{Pattern}
use Rattle.bgp_core.specs.Solutions.{Places}
use Rattle.bgp_core.specs.Instances.{instance, bound_places}
use Rattle.request_plan.specs.declared.block.TheConstants.{LONGEST_TARGET}
use Rattle.request_plan.specs.declared.block.Cut.{Cut as FormsAndSize}

-- ---- what a block asks a pattern for

abbrev pub slot_eq : Slot → Slot → Bool
slot_eq Any Any = true
slot_eq Any (Fixed u) = false
slot_eq (Fixed t) Any = false
slot_eq (Fixed t) (Fixed u) = term_eq t u

abbrev pub slots_eq : Slots → Slots → Bool
slots_eq a b = slot_eq a.subject b.subject && (slot_eq a.predicate b.predicate && slot_eq a.object b.object)

-- those that do not stand before, each once
abbrev pub distinct_behind : List Slots → List Slots → List Slots
distinct_behind before [] = []
distinct_behind before (s ∷ ss) = if list_any (λ other. slots_eq other s) before then distinct_behind before ss else s ∷ distinct_behind (before ++ s ∷ []) ss

-- each once, in the order of their first places
abbrev pub distinct_slots : List Slots → List Slots
distinct_slots ss = distinct_behind [] ss

-- under one row the instance of the pattern; under several the pattern alone, restricted by what each of the rows binds in it
abbrev pub selection_for : Pattern → List Places → Selection
selection_for p [] = all_of (instance p [])
selection_for p (row ∷ []) = all_of (instance p row)
selection_for p (row ∷ other ∷ rows) = record { slots = instance p []; rows = distinct_slots (map (bound_places p) (row ∷ other ∷ rows)) }

-- a server can be asked for the slots, and for those of each row
abbrev pub is_askable : Selection → Bool
is_askable s = list_all askable s.rows && askable s.slots

-- ---- how rows are cut

-- row by row, or more rows at once, but no more than an address may have
abbrev pub IsBlockSize : ℕ → Type 0
IsBlockSize n = (1 ≤ n) × (n ≤ MOST_ROWS)

-- the most rows of a block, and how many bytes the target of a selection's first page has
pub record Cut : Type 0 where
  pub most : ℕ
  pub target : Selection → ℕ

-- what these rows ask of each pattern has a target of at most so many bytes
abbrev pub all_fit : Cut → List Pattern → List Places → Bool
all_fit cut ps rows = list_all (λ p. nat_le (cut.target (selection_for p rows)) LONGEST_TARGET) ps

-- the most rows at the front that fit, of at most so many, and at least one
abbrev pub longest_front : Cut → List Pattern → List Places → ℕ → ℕ
longest_front cut ps rows zero = 1
longest_front cut ps rows (suc zero) = 1
longest_front cut ps rows (suc (suc n)) = if all_fit cut ps (take (suc (suc n)) rows) then suc (suc n) else longest_front cut ps rows (suc n)

abbrev pub block_length : Cut → List Pattern → List Places → ℕ
block_length cut ps rows = longest_front cut ps rows (min cut.most (length rows))

abbrev pub blocks_for : Cut → List Pattern → ℕ → List Places → List (List Places)
blocks_for cut ps zero rows = []
blocks_for cut ps (suc n) [] = []
blocks_for cut ps (suc n) (row ∷ rows) =
    take (block_length cut ps (row ∷ rows)) (row ∷ rows) ∷ blocks_for cut ps n (drop (block_length cut ps (row ∷ rows)) (row ∷ rows))

-- The rows cut from the front into blocks, each the longest of at most so many rows whose targets are short, and of at least one
-- row.
abbrev pub blocks : Cut → List Pattern → List Places → List (List Places)
blocks cut ps rows = blocks_for cut ps (length rows) rows

-- ---- targets

-- how many bytes the target of an address has, if there is one
abbrev pub target_length : Option Address → ℕ
target_length None = 0
target_length (Some address) = length (target_of address)

-- how many bytes the target of the first of some addresses has
abbrev pub first_target : List Address → ℕ
first_target [] = 0
first_target (address ∷ addresses) = length (target_of address)

-- blocks of at most so many rows, whose targets are those under a form
abbrev pub form_cut : Form → ℕ → Cut
form_cut form most = record { most = most; target = λ s. target_length (read_address (selection_form_text form s)) }

-- of several forms those under the first
abbrev pub forms_cut : List Form → ℕ → Cut
forms_cut [] most = record { most = most; target = λ s. 0 }
forms_cut (form ∷ forms) most = form_cut form most

-- how rows are cut, by the forms and the most rows of a block
abbrev pub cut_by : FormsAndSize → Cut
cut_by cut = forms_cut cut.forms cut.block
