-- The names of a query: variables, labels of blank nodes and anonymous nodes, numbered by their first place.
use Rattle.std.specs.Prelude.{ℕ, ◌+◌, Bool, false, ◌&&◌, ◌==◌, List, [], ◌∷◌, ◌++◌, length, codes, Option, Some, None, if◌then◌else◌}
use Rattle.std.specs.Option.{unwrap_or, is_some}
use Rattle.std.specs.List.{position_from}
use Rattle.std.specs.Str.{bytes_eq}
use Rattle.query_words.specs.declared.word.Value.{Value}
use Rattle.query_words.specs.declared.word.Value.TheVariants.{Variable, Label, Anonymous}

-- the text of an anonymous node
unfoldable pub anonymous : List ℕ
anonymous = codes "_:[]"

-- the text of a token that is a name
abbrev pub name_text : Value → Option (List ℕ)
name_text (Variable t) = Some t
name_text (Label t) = Some t
name_text Anonymous = Some anonymous
name_text _ = None

-- the number of a text among the names; an anonymous node is none of those before
abbrev pub place_of : List (List ℕ) → List ℕ → Option ℕ
place_of names t = if bytes_eq t anonymous then None else position_from (bytes_eq t) 0 names

-- the number that a name has or takes
abbrev pub number : List (List ℕ) → List ℕ → ℕ
number names t = unwrap_or (place_of names t) (length names)

-- the names with one more, if it is new
abbrev pub with_text : List (List ℕ) → List ℕ → List (List ℕ)
with_text names t = if is_some (place_of names t) then names else names ++ t ∷ []

-- the names with that of a token, if it is one
abbrev pub with_name : List (List ℕ) → Option (List ℕ) → List (List ℕ)
with_name names None = names
with_name names (Some t) = with_text names t

-- the text of a blank node of a query begins with `_:`
abbrev pub is_blank_name : List ℕ → Bool
is_blank_name [] = false
is_blank_name (a ∷ []) = false
is_blank_name (a ∷ b ∷ cs) = (a == 95) && (b == 58)

-- the numbers of those names that are variables, counted from n
abbrev pub variable_numbers : ℕ → List (List ℕ) → List ℕ
variable_numbers n [] = []
variable_numbers n (t ∷ ts) = if is_blank_name t then variable_numbers (n + 1) ts else n ∷ variable_numbers (n + 1) ts
