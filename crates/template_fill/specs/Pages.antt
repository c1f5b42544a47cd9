-- The addresses of a fragment's pages (Triple Pattern Fragments, "Pages"; RFC 6570).
use Rattle.std.specs.Prelude.{ℕ, ◌≡◌, ◌==◌, List, Option, Some, None, [], ◌∷◌, ◌++◌, codes, if◌then◌else◌}
use Rattle.rdf_terms.specs.declared.slots.Slots.{Slots}
use Rattle.rdf_terms.specs.declared.slots.Slot.{Slot}
use Rattle.rdf_terms.specs.declared.slots.Slot.TheVariants.{Any, Fixed}
use Rattle.rdf_terms.specs.Selections.{Selection, all_of}
use Rattle.template_fill.specs.Explicit.{explicit_form}
use Rattle.tpf_base.specs.Addresses.{Address, IsAddress, address_text}
use Rattle.tpf_base.specs.Decimals.{decimal_text}
use Rattle.template_fill.specs.Templates.{Template, pairs_text, expansion}
use Rattle.template_fill.specs.declared.part.Operator.TheVariants.{Query}
use Rattle.template_fill.specs.Forms.{filled, rows_behind}
use Rattle.template_fill.specs.Rows.{rows_text}

-- the names of the three places
abbrev pub place_names : List (List ℕ)
place_names = codes "subject" ∷ codes "predicate" ∷ codes "object" ∷ []

-- the server's template: the base and {?subject,predicate,object}
abbrev pub server_template : Address → Template
server_template base = record { start = base; parts = record { operator = Query; names = place_names; literal = [] } ∷ [] }

abbrev pub template_text : Address → List ℕ
template_text base = address_text base ++ codes "{?subject,predicate,object}"

-- the explicit form of a fixed place
abbrev pub slot_text : Slot → Option (List ℕ)
slot_text Any = None
slot_text (Fixed term) = Some (explicit_form term)

-- what the expansion writes of the fixed places
unfoldable pub places_text : Slots → List ℕ
places_text slots = pairs_text 63 place_names (filled (codes "subject") (codes "predicate") (codes "object") slots)

-- & where something was written before, and ? else
abbrev pub page_mark : List ℕ → ℕ
page_mark [] = 63
page_mark (b ∷ written) = 38

-- the number of a page above 1
abbrev pub page_pair : ℕ → ℕ → List ℕ
page_pair mark k = if k == 1 then [] else mark ∷ (codes "page=" ++ decimal_text k)

-- some text, and the rows behind it
abbrev pub text_with_rows : List ℕ → List Slots → List ℕ
text_with_rows written [] = written
text_with_rows written (row ∷ rows) = written ++ rows_text (page_mark written) (row ∷ rows)

-- what stands of a selection behind the base: the fixed places, and then the rows
unfoldable pub selection_text : Selection → List ℕ
selection_text s = text_with_rows (places_text s.slots) s.rows

-- page k of a selection: the template's expansion with the fixed places, the rows, and the page above 1
unfoldable pub page_address : Address → Selection → ℕ → List ℕ
page_address base s k = address_text base ++ (selection_text s ++ page_pair (page_mark (selection_text s)) k)

-- page 1 of a fragment has the address that the server's template expands to
abbrev pub FirstPageIsExpansion : Type 0
FirstPageIsExpansion = (base : Address) (slots : Slots) → page_address base (all_of slots) 1 ≡ expansion (server_template base) (filled (codes "subject") (codes "predicate") (codes "object") slots)

-- and page 1 of a selection has it with the rows behind it, where the base has no query
abbrev pub FirstPageHasRows : Type 0
FirstPageHasRows =
    (base : Address) (s : Selection) → IsAddress (address_text base) base → base.query ≡ None
    → page_address base s 1 ≡ rows_behind (expansion (server_template base) (filled (codes "subject") (codes "predicate") (codes "object") s.slots)) s.rows
