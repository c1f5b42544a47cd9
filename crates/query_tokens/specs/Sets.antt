-- The classes of characters as letters of regular expressions, and the sets of classes that SPARQL's productions name.
use Rattle.std.specs.Prelude.{ℕ, Bool, not, List, [], ◌∷◌, ◌++◌, map, filter}
use Rattle.regular_expressions.specs.Regular.{is_among}
use Rattle.query_tokens.specs.declared.class.Class.{Class}
use Rattle.query_tokens.specs.declared.class.Class.TheVariants.{Space, LineEnd, Hash, Less, Greater, Quote, Apostrophe, Backslash, OpenBrace, CloseBrace, Caret, Unsafe, VariableMark, Underscore, Colon, Dot, Semicolon, Comma, Star, OpenBracket, CloseBracket, At, Plus, Minus, Percent, Escaped, Digit, LetterE, Hex, Letter, Base, Extending, Other}

-- the letter of a class
abbrev pub code : Class → ℕ
code Space = 0
code LineEnd = 1
code Hash = 2
code Less = 3
code Greater = 4
code Quote = 5
code Apostrophe = 6
code Backslash = 7
code OpenBrace = 8
code CloseBrace = 9
code Caret = 10
code Unsafe = 11
code VariableMark = 12
code Underscore = 13
code Colon = 14
code Dot = 15
code Semicolon = 16
code Comma = 17
code Star = 18
code OpenBracket = 19
code CloseBracket = 20
code At = 21
code Plus = 22
code Minus = 23
code Percent = 24
code Escaped = 25
code Digit = 26
code LetterE = 27
code Hex = 28
code Letter = 29
code Base = 30
code Extending = 31
code Other = 32

-- all classes, in the order of their letters
abbrev pub all_classes : List Class
all_classes = Space ∷ LineEnd ∷ Hash ∷ Less ∷ Greater ∷ Quote ∷ Apostrophe ∷ Backslash ∷ OpenBrace ∷ CloseBrace ∷ Caret ∷ Unsafe ∷ VariableMark ∷ Underscore ∷ Colon ∷ Dot ∷ Semicolon ∷ Comma ∷ Star ∷ OpenBracket ∷ CloseBracket ∷ At ∷ Plus ∷ Minus ∷ Percent ∷ Escaped ∷ Digit ∷ LetterE ∷ Hex ∷ Letter ∷ Base ∷ Extending ∷ Other ∷ []

-- the class is in the set
abbrev pub is_in : List Class → Class → Bool
is_in set k = is_among (map code set) (code k)

-- all classes but these
abbrev pub all_but : List Class → List Class
all_but set = filter (λ k. not (is_in set k)) all_classes

-- [162] WS: space, tab, line feed, carriage return
abbrev pub white : List Class
white = Space ∷ LineEnd ∷ []

-- A to Z, a to z
abbrev pub letter : List Class
letter = LetterE ∷ Hex ∷ Letter ∷ []

-- ASCII letters and digits
abbrev pub letter_or_digit : List Class
letter_or_digit = letter ++ Digit ∷ []

-- [164] PN_CHARS_BASE
abbrev pub base : List Class
base = letter ++ Base ∷ []

-- [165] PN_CHARS_U or a digit: how a name of a variable [166] and a label [142] begin
abbrev pub name_start : List Class
name_start = base ++ Underscore ∷ Digit ∷ []

-- what follows in a name of a variable [166]: PN_CHARS but '-'
abbrev pub variable_char : List Class
variable_char = name_start ++ Extending ∷ []

-- [167] PN_CHARS
abbrev pub name_char : List Class
name_char = variable_char ++ Minus ∷ []

-- PN_CHARS or '.', as in [142] and [168]
abbrev pub name_char_or_dot : List Class
name_char_or_dot = name_char ++ Dot ∷ []

-- PN_CHARS_U, ':' or a digit, as a local part [169] begins
abbrev pub local_start : List Class
local_start = name_start ++ Colon ∷ []

-- PN_CHARS or ':', as a local part [169] ends
abbrev pub local_char : List Class
local_char = name_char ++ Colon ∷ []

-- PN_CHARS, '.' or ':', as a local part [169] goes on
abbrev pub local_char_or_dot : List Class
local_char_or_dot = local_char ++ Dot ∷ []

-- [172] HEX
abbrev pub hex : List Class
hex = Digit ∷ LetterE ∷ Hex ∷ []

-- '+' or '-'
abbrev pub plus_or_minus : List Class
plus_or_minus = Plus ∷ Minus ∷ []

-- what may follow the backslash of [173] PN_LOCAL_ESC
abbrev pub escaped : List Class
escaped = Underscore ∷ Escaped ∷ Dot ∷ Minus ∷ VariableMark ∷ Apostrophe ∷ Star ∷ Plus ∷ Comma ∷ Semicolon ∷ Hash ∷ At ∷ Percent ∷ []

-- what an IRI [139] may hold as it is
abbrev pub iri_char : List Class
iri_char = all_but (Space ∷ LineEnd ∷ Less ∷ Greater ∷ Quote ∷ Backslash ∷ OpenBrace ∷ CloseBrace ∷ Caret ∷ Unsafe ∷ [])

-- what a line may hold, and so a comment (section 19.4)
abbrev pub line_char : List Class
line_char = all_but (LineEnd ∷ [])

-- what a string in quotation marks [157] may hold as it is
abbrev pub quoted_char : List Class
quoted_char = all_but (LineEnd ∷ Quote ∷ Backslash ∷ [])

-- what a string in apostrophes [156] may hold as it is
abbrev pub apostrophed_char : List Class
apostrophed_char = all_but (LineEnd ∷ Apostrophe ∷ Backslash ∷ [])
