-- The parameters of a target as they are gathered.
use Rattle.std.specs.Prelude.{ℕ, ◌≡◌, ◌≤◌, ◌^◌, ◌&&◌, Bool, nat_le, List, [], ◌∷◌, ◌++◌, length, map, codes, bytes_eq, Option, Some, None, if◌then◌else◌}
use Rattle.rdf_terms.specs.declared.slots.Slot.{Slot}
use Rattle.rdf_terms.specs.declared.slots.Slot.TheVariants.{Any}
use Rattle.rdf_terms.specs.declared.slots.Slots.{Slots}
use Rattle.rdf_terms.specs.declared.limits.TheConstants.{MOST_ROWS}
use Rattle.template_fill.specs.ReadAddress.{◌>>=◌}
use Rattle.template_fill.specs.Explicit.{slot_of}
use Rattle.template_fill.specs.Rows.{accepted, row_of}
use Rattle.template_fill.specs.Answers.{Question, form_text, page_number, rows_under, values_under}
use Rattle.tpf_server.specs.declared.parameters.Values.{Values}
use Rattle.tpf_server.specs.declared.parameters.Values.TheVariants.{Absent, One, Several}
use Rattle.tpf_server.specs.declared.rows.RowValues.{RowValues}
use Rattle.tpf_server.specs.declared.rows.RowValues.TheVariants as row_values
use Rattle.tpf_server.specs.declared.parameters.Parameters.{Parameters}
use Rattle.tpf_server.specs.declared.parameters.PageNumber.{PageNumber}
use Rattle.tpf_server.specs.declared.parameters.PageNumber.TheVariants.{Number, Beyond, Refused}

-- a pair as it is read
abbrev pub decoded_pair : List ℕ × List ℕ → List ℕ × List ℕ
decoded_pair p = (form_text p.0, form_text p.1)

abbrev pub decoded : List (List ℕ × List ℕ) → List (List ℕ × List ℕ)
decoded pairs = map decoded_pair pairs

-- the values of one name
abbrev pub found : List (List ℕ) → Values
found [] = Absent
found (value ∷ []) = One value
found (value ∷ other ∷ more) = Several

-- with one more value
abbrev pub noted : Values → List ℕ → Values
noted Absent value = One value
noted (One first) value = Several
noted Several value = Several

-- with the value of a pair of the wanted name
abbrev pub noted_if : List ℕ → List ℕ → List ℕ → Values → Values
noted_if wanted name value values = if bytes_eq name wanted then noted values value else values

-- rows as they were read, or that they are refused
abbrev pub rows_found : Option (List Slots) → RowValues
rows_found None = row_values.Refused
rows_found (Some rows) = row_values.Read rows

abbrev pub rows_in : RowValues → Option (List Slots)
rows_in (row_values.Read rows) = Some rows
rows_in row_values.Refused = None

-- with one more row, if its value is one
abbrev pub row_added : List Slots → Option Slots → RowValues
row_added rows None = row_values.Refused
row_added rows (Some row) = row_values.Read (rows ++ row ∷ [])

-- with one more value, unless that is one too many
abbrev pub row_noted : RowValues → List ℕ → RowValues
row_noted (row_values.Read rows) value = if nat_le MOST_ROWS (length rows) then row_values.Refused else row_added rows (row_of value)
row_noted row_values.Refused value = row_values.Refused

-- with the value of a pair of the name of rows, where they are read
abbrev pub row_noted_if : Bool → List ℕ → List ℕ → RowValues → RowValues
row_noted_if reads_rows name value rows = if reads_rows && bytes_eq name (codes "row") then row_noted rows value else rows

-- the values of the four names, and the rows
unfoldable pub found_in : Bool → List (List ℕ × List ℕ) → Parameters
found_in reads_rows pairs = record {
  subject = found (values_under (codes "subject") pairs);
  predicate = found (values_under (codes "predicate") pairs);
  object = found (values_under (codes "object") pairs);
  page = found (values_under (codes "page") pairs);
  rows = rows_found (rows_under reads_rows pairs);
}

-- with one more pair
unfoldable pub noted_pair : Bool → Parameters → List ℕ × List ℕ → Parameters
noted_pair reads_rows p pair = record {
  subject = noted_if (codes "subject") pair.0 pair.1 p.subject;
  predicate = noted_if (codes "predicate") pair.0 pair.1 p.predicate;
  object = noted_if (codes "object") pair.0 pair.1 p.object;
  page = noted_if (codes "page") pair.0 pair.1 p.page;
  rows = row_noted_if reads_rows pair.0 pair.1 p.rows;
}

-- the slot that the values of a name give
abbrev pub slot_in : Values → Option Slot
slot_in Absent = Some Any
slot_in (One text) = accepted (slot_of text)
slot_in Several = None

abbrev pub slots_in : Parameters → Option Slots
slots_in p = do
  subject ← slot_in p.subject
  predicate ← slot_in p.predicate
  object ← slot_in p.object
  Some (record { subject = subject; predicate = predicate; object = object })

-- the page that the values of its name give
abbrev pub page_in : Values → Option ℕ
page_in Absent = Some 1
page_in (One text) = page_number text
page_in Several = None

-- the number is told as it is, as one of more than 64 bits, or as none
abbrev pub IsPage : Option ℕ → PageNumber → Type 0
IsPage page (Number n) = (page ≡ Some n) × (1 ≤ n)
IsPage page Beyond = (n : ℕ) × ((page ≡ Some n) × (2 ^ 64 ≤ n))
IsPage page Refused = page ≡ None

-- what the parameters ask for
abbrev pub question_in : Parameters → Option Question
question_in p = do
  slots ← slots_in p
  rows ← rows_in p.rows
  page ← page_in p.page
  Some (record { selection = record { slots = slots; rows = rows }; page = page })
