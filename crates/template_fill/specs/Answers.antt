-- The answer to a request head (Triple Pattern Fragments, "Controls" and "Paging"; RFC 9110, 9.3, 15.3, 15.5 and 15.6).
use Rattle.std.specs.Prelude.{ℕ, ◌≡◌, ◌≤◌, Bool, true, false, ◌&&◌, not, nat_le, List, [], ◌∷◌, ◌++◌, map, filter, codes, bytes_eq, Option, Some, None, unwrap_or, if◌then◌else◌}
use Rattle.std.specs.List.{list_all}
use Rattle.std.specs.Char.{is_ascii_digit}
use Rattle.std.specs.Str.Parse.{digits_value}
use Rattle.std.specs.Str.Lossy.{utf8_lossy}
use Rattle.form_urlencoded.specs.Form.{raw_pairs, decode}
use Rattle.tpf_base.specs.Addresses.{Address, IsAddress, target_of}
use Rattle.tpf_base.specs.HttpHeads.{Request}
use Rattle.tpf_base.specs.Decimals.{decimal_text}
use Rattle.tpf_base.specs.Marks.{Mark, Served, Failed, Starved, version_at}
use Rattle.rdf_terms.specs.declared.term.Triple.{Triple}
use Rattle.rdf_terms.specs.declared.slots.Slot.{Slot}
use Rattle.rdf_terms.specs.declared.slots.Slots.{Slots}
use Rattle.rdf_terms.specs.Selections.{Selection, IsKeptSelection, selected_last}
use Rattle.template_fill.specs.HttpAnswer.{Answer, NQuads, refusal, text_answer}
use Rattle.template_fill.specs.ReadAddress.{path_of, query_of, when, ◌>>=◌}
use Rattle.template_fill.specs.Explicit.{slot_of}
use Rattle.template_fill.specs.Rows.{accepted, few_rows_of}
use Rattle.template_fill.specs.Metadata.{Config}
use Rattle.template_fill.specs.Configurations.{IsConfig}
use Rattle.template_fill.specs.Pages.{page_address}
use Rattle.template_fill.specs.Bodies.{version_of, page_body}

-- ---- what is asked for

-- a selection, and a page of it
pub record Question : Type 0 where
  pub selection : Selection
  pub page : ℕ

-- a name or a value as it is read: `+` is a space, a bad escape stays, what is not UTF-8 becomes U+FFFD
abbrev pub form_text : List ℕ → List ℕ
form_text bytes = utf8_lossy (decode bytes)

-- the names and values of a target's query part (URL Standard, 5.1)
unfoldable pub parameters : List ℕ → List (List ℕ × List ℕ)
parameters target = map (λ p. (form_text p.0, form_text p.1)) (raw_pairs (unwrap_or (query_of target) []))

-- the values given under a name
abbrev pub values_under : List ℕ → List (List ℕ × List ℕ) → List (List ℕ)
values_under name pairs = map (λ p. p.1) (filter (λ p. bytes_eq p.0 name) pairs)

-- the one value, which is empty where none is given; None for more than one
abbrev pub one_value : List (List ℕ) → Option (List ℕ)
one_value [] = Some []
one_value (value ∷ []) = Some value
one_value (value ∷ other ∷ more) = None

-- the slot of the one value under a name
abbrev pub slot_under : List ℕ → List (List ℕ × List ℕ) → Option Slot
slot_under name pairs = one_value (values_under name pairs) >>= (λ value. accepted (slot_of value))

-- digits of a number above 0; page 1 where there are none
abbrev pub page_number : List ℕ → Option ℕ
page_number [] = Some 1
page_number (b ∷ digits) =
    when (list_all is_ascii_digit (b ∷ digits) && nat_le 1 (digits_value 10 (b ∷ digits))) (digits_value 10 (b ∷ digits))

-- the rows that are given, in their order, where rows are read: None for too many, or where a value is no row; elsewhere they are passed over
abbrev pub rows_under : Bool → List (List ℕ × List ℕ) → Option (List Slots)
rows_under false pairs = Some []
rows_under true pairs = few_rows_of (values_under (codes "row") pairs)

-- what parameters ask for; None where they give a place or the page twice, a value that is no slot, too many rows, a value that is no row, or no number of a page
abbrev pub asked_by : Bool → List (List ℕ × List ℕ) → Option Question
asked_by reads_rows pairs = do
  subject ← slot_under (codes "subject") pairs
  predicate ← slot_under (codes "predicate") pairs
  object ← slot_under (codes "object") pairs
  rows ← rows_under reads_rows pairs
  page ← one_value (values_under (codes "page") pairs) >>= page_number
  Some (record { selection = record { slots = record { subject = subject; predicate = predicate; object = object }; rows = rows }; page = page })

-- what a target asks for, where rows are read or passed over
unfoldable pub question_of : Bool → List ℕ → Option Question
question_of reads_rows target = asked_by reads_rows (parameters target)

-- ---- answers over a version

-- the page that is asked for, or that it is past the last
abbrev pub page_answer : List (List Triple) → ℕ → Config → Question → Answer
page_answer history version config question =
    if nat_le question.page (selected_last (version_of history version) question.selection config.page_size)
    then record { status = 200; media_type = NQuads; body = page_body history version config question.selection question.page }
    else refusal 404

abbrev pub answer_if : List (List Triple) → ℕ → Config → Option Question → Answer
answer_if history version config None = refusal 400
answer_if history version config (Some question) = page_answer history version config question

-- GET and HEAD
abbrev pub is_read : List ℕ → Bool
is_read method = if bytes_eq method (codes "GET") then true else bytes_eq method (codes "HEAD")

-- the first that applies: another method than GET and HEAD; another path than the base's; parameters that ask for nothing; a page past the last; the page
unfoldable pub version_answer : List (List Triple) → ℕ → Config → Request → Answer
version_answer history version config request =
    if not (is_read request.method) then refusal 405
    else (if not (bytes_eq (path_of request.target) config.base.path) then refusal 404
    else answer_if history version config (question_of config.rows request.target))

-- ---- reloads

abbrev pub is_path_of_reload : Option (List ℕ) → List ℕ → Bool
is_path_of_reload None path = false
is_path_of_reload (Some reload) path = bytes_eq path reload

-- a request on the path of a reload by another method than GET and HEAD
unfoldable pub is_reload : Config → Request → Bool
is_reload config request = not (is_read request.method) && is_path_of_reload config.reload (path_of request.target)

-- the version that the data have from here on; or that they could not be read, or that memory was wanting
unfoldable pub reload_answer : Mark → Answer
reload_answer (Served version) = text_answer 200 (codes "version " ++ decimal_text version ++ 10 ∷ [])
reload_answer (Failed version) = refusal 500
reload_answer (Starved version) = refusal 503

-- a reload request is answered by how the reload went, each other request over the version of its mark
unfoldable pub answer_to : List (List Triple) → Mark → Config → Request → Answer
answer_to history mark config request =
    if is_reload config request then reload_answer mark else version_answer history (version_at mark) config request

-- ---- the law

-- what is read of a selection, where rows are read or passed over
abbrev pub read_as : Bool → Selection → Selection
read_as true s = s
read_as false s = record s { rows = [] }

-- the target asks for this page of a selection, on the path of the base
pub record AsksFor (config : Config) (s : Selection) (k : ℕ) (target : List ℕ) : Type 0 where
  pub path : path_of target ≡ config.base.path
  pub question : question_of config.rows target ≡ Some (record { selection = s; page = k })

-- the address of a page asks for that page, as far as rows are read
abbrev pub ReadsAddress : Type 0
ReadsAddress =
    (config : Config) (s : Selection) (k : ℕ) (address : Address) → IsConfig config → IsKeptSelection s → 1 ≤ k
    → IsAddress (page_address config.base s k) address → AsksFor config (read_as config.rows s) k (target_of address)
