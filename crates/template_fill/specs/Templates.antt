-- URI templates of two operators: {?names} and {&names} (RFC 6570, 2 and 3.2.8, 3.2.9).
use Rattle.std.specs.Prelude.{ℕ, Bool, false, ◌==◌, ◌&&◌, ◌||◌, List, [], ◌∷◌, ◌++◌, Option, Some, None, if◌then◌else◌}
use Rattle.std.specs.List.{list_all, list_any, slice_split, flat_map}
use Rattle.std.specs.Char.{is_ascii_alphanumeric}
use Rattle.std.specs.Str.{bytes_eq}
use Rattle.tpf_base.specs.Addresses.{Address, is_address_byte, address_text}
use Rattle.template_fill.specs.ReadAddress.{Spelled, read_spelled, normal, when, ◌>>=◌}
use Rattle.template_fill.specs.Values.{encoded_value}
use Rattle.template_fill.specs.declared.part.Operator.{Operator}
use Rattle.template_fill.specs.declared.part.Operator.TheVariants.{Query, Continuation}
use Rattle.template_fill.specs.declared.value.Value.{Value}

-- an expression, and the text that follows it
pub record Part : Type 0 where
  pub operator : Operator
  pub names : List (List ℕ)
  pub literal : List ℕ

-- the address before the first expression, and the expressions
pub record Template : Type 0 where
  pub start : Address
  pub parts : List Part

-- ALPHA / DIGIT / "_"
abbrev pub is_name_byte : ℕ → Bool
is_name_byte b = is_ascii_alphanumeric b || (b == 95)

abbrev pub is_word : List ℕ → Bool
is_word [] = false
is_word (b ∷ bytes) = list_all is_name_byte (b ∷ bytes)

-- words with single dots between them
unfoldable pub is_name : List ℕ → Bool
is_name name = list_all is_word (slice_split (λ b. b == 46) name)

-- ? and &
abbrev pub operator_of : ℕ → Option Operator
operator_of b = if b == 63 then Some Query else (if b == 38 then Some Continuation else None)

-- what stands before the first x, and what stands after it, if there is one
abbrev pub before : ℕ → List ℕ → List ℕ
before x [] = []
before x (b ∷ bytes) = if b == x then [] else b ∷ before x bytes

abbrev pub after : ℕ → List ℕ → Option (List ℕ)
after x [] = None
after x (b ∷ bytes) = if b == x then Some bytes else after x bytes

-- the names between commas
unfoldable pub names_of : List ℕ → Option (List (List ℕ))
names_of text = when (list_all is_name (slice_split (λ b. b == 44) text)) (slice_split (λ b. b == 44) text)

-- what follows a {: an operator, what stands before the }, and a text of an address
unfoldable pub shape_of : List ℕ → Option (Operator × List ℕ × List ℕ)
shape_of [] = None
shape_of (b ∷ bytes) = do
  operator ← operator_of b
  literal ← after 125 bytes
  when (list_all is_address_byte literal) (operator, before 125 bytes, literal)

unfoldable pub part_of : List ℕ → Option Part
part_of bytes = do
  shape ← shape_of bytes
  names ← names_of shape.1
  Some (record { operator = shape.0; names = names; literal = shape.2 })

-- what a part keeps
abbrev pub is_part : List (List ℕ) → List ℕ → Bool
is_part names literal = list_all (list_all is_address_byte) names && list_all is_address_byte literal

abbrev pub parts_of : List (List ℕ) → Option (List Part)
parts_of [] = Some []
parts_of (section ∷ sections) = do
  part ← part_of section
  parts ← parts_of sections
  Some (part ∷ parts)

-- the sections that follow a cut
abbrev pub sections_after : ℕ → Option (List ℕ) → List (List ℕ)
sections_after x None = []
sections_after x (Some bytes) = slice_split (λ b. b == x) bytes

abbrev pub begins_with_slash : List ℕ → Bool
begins_with_slash [] = false
begins_with_slash (b ∷ rest) = b == 47

-- an address whose path is written
unfoldable pub start_of : List ℕ → Option Spelled
start_of text = do
  spelled ← read_spelled text
  when (begins_with_slash spelled.rest) spelled

-- the template that a text is; None where it is none
unfoldable pub read_template : List ℕ → Option Template
read_template text = do
  start ← start_of (before 123 text)
  parts ← parts_of (sections_after 123 (after 123 text))
  Some (record { start = normal start; parts = parts })

-- ---- expansion

-- the text of the first value with this name
abbrev pub value_of : List ℕ → List Value → Option (List ℕ)
value_of name [] = None
value_of name (value ∷ values) = if bytes_eq value.name name then Some value.text else value_of name values

-- what an expression writes first (RFC 6570, 3.2.8 and 3.2.9)
abbrev pub first_mark : Operator → ℕ
first_mark Query = 63
first_mark Continuation = 38

-- a name and its value after a mark; nothing where there is none
abbrev pub pair_text : ℕ → List ℕ → Option (List ℕ) → List ℕ
pair_text mark name None = []
pair_text mark name (Some text) = mark ∷ (name ++ 61 ∷ encoded_value text)

-- the mark of the next pair
abbrev pub next_mark : ℕ → Option (List ℕ) → ℕ
next_mark mark None = mark
next_mark mark (Some text) = 38

-- each name that has a value: the first after the mark, the others after &
abbrev pub pairs_text : ℕ → List (List ℕ) → List Value → List ℕ
pairs_text mark [] values = []
pairs_text mark (name ∷ names) values = pair_text mark name (value_of name values) ++ pairs_text (next_mark mark (value_of name values)) names values

-- an expression filled, and what follows it
abbrev pub part_text : List Value → Part → List ℕ
part_text values part = pairs_text (first_mark part.operator) part.names values ++ part.literal

-- a template filled with values
unfoldable pub expansion : Template → List Value → List ℕ
expansion template values = address_text template.start ++ flat_map (part_text values) template.parts

-- an expression of the template has this name
abbrev pub has_name : Template → List ℕ → Bool
has_name template name = list_any (λ part. list_any (λ own. bytes_eq own name) part.names) template.parts
