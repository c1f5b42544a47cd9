-- How the words after a command's name are taken apart.
-- An option is --name and its value, as one word with = or as two; a flag is --name; the other words are the positionals, in their order. -- ends the options: all words after it are positionals. Before it a word of two or more characters that begins with - is an option or a flag of the command, written whole, and a value that is a word of its own does not begin with -. Nothing is given twice.
use Rattle.std.specs.Prelude.{ℕ, Bool, false, ◌==◌, List, [], ◌∷◌, Option, Some, None, find, codes, if◌then◌else◌}
use Rattle.std.specs.List.{list_any, before_first, after_first}
use Rattle.std.specs.Option.{option_map}
use Rattle.std.specs.Str.{bytes_eq}

abbrev pub Text : Type 0
Text = List ℕ

-- what may stand after the name of a command: the names of its positionals, of its options and of its flags
pub record Form : Type 0 where
  pub positionals : List Text
  pub options : List Text
  pub flags : List Text

abbrev pub is_among : Text → List Text → Bool
is_among name names = list_any (λ n. bytes_eq n name) names

-- what a word is where an option may stand: --; an option or a flag by its name, with the value that stands behind = if there is one; another word that begins with - and has more characters; or none of these
pub data Kind : Type 0 where
  ends : Kind
  option : Text → Option Text → Kind
  refused : Kind
  plain : Kind

abbrev pub is_equals : ℕ → Bool
is_equals b = b == 61

abbrev pub after_dashes : Text → Kind
after_dashes [] = ends
after_dashes (b ∷ rest) = if list_any is_equals (b ∷ rest) then option (before_first is_equals (b ∷ rest)) (Some (after_first is_equals (b ∷ rest))) else option (b ∷ rest) None

abbrev pub after_dash : Text → Kind
after_dash [] = plain
after_dash (b ∷ rest) = if b == 45 then after_dashes rest else refused

abbrev pub kind_of : Text → Kind
kind_of [] = plain
kind_of (b ∷ rest) = if b == 45 then after_dash rest else plain

abbrev pub begins_with_dash : Text → Bool
begins_with_dash [] = false
begins_with_dash (b ∷ rest) = b == 45

-- what words give: values under the names of their arguments, in the order of the words
abbrev pub Given : Type 0
Given = List (Text × Text)

abbrev pub is_given : Text → Given → Bool
is_given name given = list_any (λ g. bytes_eq g.0 name) given

-- a value before what the words behind it give, in which the name does not come again
abbrev pub with_value : Text → Text → Option Given → Option Given
with_value name value None = None
with_value name value (Some given) = if is_given name given then None else Some ((name, value) ∷ given)

-- what words behind -- give, where these positionals may come
abbrev pub all_positionals : List Text → List Text → Option Given
all_positionals [] names = Some []
all_positionals (word ∷ words) [] = None
all_positionals (word ∷ words) (name ∷ names) = with_value name word (all_positionals words names)

-- what the words that follow give, where these positionals may come, and the value of this option comes next
abbrev pub Rest : Type 0
Rest = List Text → Option Text → Option Given

abbrev pub positional_met : List Text → Text → Rest → Option Given
positional_met [] word rest = None
positional_met (name ∷ names) word rest = with_value name word (rest names None)

abbrev pub option_met : Form → Text → Option Text → List Text → Rest → Option Given
option_met form name (Some value) names rest = if is_among name form.options then with_value name value (rest names None) else None
option_met form name None names rest = if is_among name form.options then rest names (Some name) else (if is_among name form.flags then with_value name (codes "true") (rest names None) else None)

abbrev pub kind_met : Form → Kind → Text → List Text → List Text → Rest → Option Given
kind_met form ends word words names rest = all_positionals words names
kind_met form (option name value) word words names rest = option_met form name value names rest
kind_met form refused word words names rest = None
kind_met form plain word words names rest = positional_met names word rest

abbrev pub word_met : Form → Option Text → Text → List Text → List Text → Rest → Option Given
word_met form None word words names rest = kind_met form (kind_of word) word words names rest
word_met form (Some name) word words names rest = if begins_with_dash word then None else with_value name word (rest names None)

abbrev pub words_end : Option Text → Option Given
words_end None = Some []
words_end (Some name) = None

-- what words give, where these positionals may come, and the value of this option comes next; None where they are refused
unfoldable pub given_by : Form → List Text → Rest
given_by form [] names waiting = words_end waiting
given_by form (word ∷ words) names waiting = word_met form waiting word words names (given_by form words)

-- the value of each argument, by its name, where it has one; a flag is true where it is given, and else false
abbrev pub Values : Type 0
Values = Text → Option Text

abbrev pub value_in : Text → Given → Option Text
value_in name given = option_map (λ g. g.1) (find (λ g. bytes_eq g.0 name) given)

abbrev pub values_of : Form → Given → Values
values_of form given name = if is_given name given then value_in name given else (if is_among name form.flags then Some (codes "false") else None)

-- the arguments in the words after a command's name, or None where they are refused
abbrev pub arguments : Form → List Text → Option Values
arguments form words = option_map (values_of form) (given_by form words form.positionals None)
