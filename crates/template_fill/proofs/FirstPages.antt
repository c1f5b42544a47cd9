-- The first page's address as the expansion of the server's template, with the rows behind it.
use Rattle.std.proofs.Common.{◌≡◌, ℕ, List, [], ◌∷◌, ◌++◌, true, false, ◌==◌, ◌||◌, cond, Bool, Option, None, refl, sym, ap, ◌∙◌, append_assoc, append-nil, arith}
use Rattle.std.specs.Prelude.{codes}
use Rattle.std.specs.List.{list_any}
use Rattle.std.proofs.lemmas.List.Folds.{list_any-append}
use Rattle.std.proofs.lemmas.Bool.Decides.{nat_tests}
use Rattle.rdf_terms.specs.declared.slots.Slots.{Slots}
use Rattle.tpf_base.specs.Addresses.{Address, is_path_byte, address_text, authority_text, query_text, target_of}
use Rattle.template_fill.specs.Rows.{rows_text}
use Rattle.template_fill.specs.Templates.{expansion}
use Rattle.template_fill.specs.Forms.{filled, mark_behind, rows_behind}
use Rattle.template_fill.specs.Pages.{FirstPageHasRows, places_text, selection_text, page_mark, page_address, server_template}
use Rattle.template_fill.proofs.Addresses.{unmarked, unmarked-authority}
use Rattle.template_fill.proofs.Authorities.{is_normal}
use Rattle.template_fill.proofs.PageTexts.{first_page}
use Rattle.template_fill.proofs.Questions.{IsBase, base_path, path_bytes, places_written, places_marked}
use Rattle.template_fill.proofs.Written.{marked}

pub unmarked-path : (b : ℕ) → is_path_byte b ≡ true → (b == 63) ≡ false
unmarked-path b own = grind (arith, nat_tests)

base_text : (base : Address) (more : List ℕ) → base.query ≡ None → address_text base ++ more ≡ codes "http://" ++ (authority_text base.host base.port ++ (base.path ++ more))
base_text base more none =
    ap (λ (query : Option (List ℕ)). (codes "http://" ++ (authority_text base.host base.port ++ (base.path ++ query_text query))) ++ more) none
    ∙ ap (λ (path : List ℕ). (codes "http://" ++ (authority_text base.host base.port ++ path)) ++ more) (append-nil base.path)
    ∙ ap (λ (rest : List ℕ). codes "http://" ++ rest) (append_assoc (authority_text base.host base.port) base.path more)

-- the text of a base with more behind it has a ? where the rest has one
base_marks : (base : Address) (more : List ℕ) → IsBase base → list_any (λ b. b == 63) (address_text base ++ more) ≡ list_any (λ b. b == 63) more
base_marks base more is =
    ap (list_any (λ b. b == 63)) (base_text base more is.no_query)
    ∙ list_any-append (λ b. b == 63) (authority_text base.host base.port) (base.path ++ more)
    ∙ ap (λ (front : Bool). front || list_any (λ b. b == 63) (base.path ++ more)) (unmarked-authority base.host (target_of base) base.port (is_normal is.text base is.address))
    ∙ list_any-append (λ b. b == 63) base.path more
    ∙ ap (λ (front : Bool). front || list_any (λ b. b == 63) more) (unmarked is_path_byte unmarked-path base.path (path_bytes base.path (base_path base is)))

-- the mark behind the places
marked_mark : (text : List ℕ) (pairs : List (List ℕ × List ℕ)) → text ≡ marked 63 pairs → cond (list_any (λ b. b == 63) text) 38 63 ≡ page_mark text
marked_mark text [] is = rw is refl
marked_mark text (pair ∷ pairs) is = rw is refl

places_are_marked : (slots : Slots) → places_text slots ≡ marked 63 (places_written slots [])
places_are_marked slots = sym (append-nil (places_text slots)) ∙ places_marked slots [] [] refl

pub mark_is : (base : Address) (slots : Slots) → IsBase base → mark_behind (address_text base ++ places_text slots) ≡ page_mark (places_text slots)
mark_is base slots is =
    ap (λ (has : Bool). cond has 38 63) (base_marks base (places_text slots) is)
    ∙ marked_mark (places_text slots) (places_written slots []) (places_are_marked slots)

expanded : (base : Address) (slots : Slots) → expansion (server_template base) (filled (codes "subject") (codes "predicate") (codes "object") slots) ≡ address_text base ++ places_text slots
unfolding expansion places_text
expanded base slots = ap (λ tail. address_text base ++ tail) (append-nil (places_text slots ++ []) ∙ append-nil (places_text slots))

behind : (base : Address) (slots row : Slots) (rows : List Slots) → IsBase base
    → address_text base ++ ((places_text slots ++ rows_text (page_mark (places_text slots)) (row ∷ rows)) ++ []) ≡ rows_behind (address_text base ++ places_text slots) (row ∷ rows)
behind base slots row rows is =
    let places = places_text slots in
    ap (λ tail. address_text base ++ tail) (append-nil (places ++ rows_text (page_mark places) (row ∷ rows)))
    ∙ sym (append_assoc (address_text base) places (rows_text (page_mark places) (row ∷ rows)))
    ∙ ap (λ (mark : ℕ). (address_text base ++ places) ++ rows_text mark (row ∷ rows)) (sym (mark_is base slots is))

with_rows : (base : Address) (slots : Slots) (rows : List Slots) → IsBase base
    → page_address base (record { slots = slots; rows = rows }) 1 ≡ rows_behind (expansion (server_template base) (filled (codes "subject") (codes "predicate") (codes "object") slots)) rows
unfolding page_address selection_text
with_rows base slots [] is = first_page base slots
with_rows base slots (row ∷ rows) is = behind base slots row rows is ∙ ap (λ (text : List ℕ). rows_behind text (row ∷ rows)) (sym (expanded base slots))

pub first_page_rows : FirstPageHasRows
first_page_rows base s address none = with_rows base s.slots s.rows (record { text = address_text base; address = address; no_query = none })
