-- The tokens of SPARQL 1.1, section 19.8, as regular expressions over the classes of characters. Each production stands with its number.
use Rattle.std.specs.Prelude.{ℕ, ◌≤◌, List, [], ◌∷◌, map, take, length}
use Rattle.regular_expressions.specs.Regular.{Regular, one_of, many, Matches}
use Rattle.regular_expressions.specs.Combinators.{◌·◌, ◌∣◌, maybe, some}
use Rattle.query_tokens.specs.Classes.{class_of}
use Rattle.query_tokens.specs.Sets.{code, white, letter, letter_or_digit, base, name_start, variable_char, name_char, name_char_or_dot, local_start, local_char, local_char_or_dot, hex, plus_or_minus, escaped, iri_char, line_char, quoted_char, apostrophed_char}
use Rattle.query_tokens.specs.declared.class.Class.{Class}
use Rattle.query_tokens.specs.declared.class.Class.TheVariants as classes
use Rattle.query_tokens.specs.declared.kind.PieceKind.{PieceKind}
use Rattle.query_tokens.specs.declared.kind.PieceKind.TheVariants as kinds

-- a character of a set of classes
abbrev pub any : List Class → Regular
any set = one_of (map code set)

-- a character of a class
abbrev pub a : Class → Regular
a k = any (k ∷ [])

-- [139] IRIREF, with a backslash before what may be a numeric escape (section 19.2)
abbrev pub iri : Regular
iri = a classes.Less · many (any iri_char ∣ a classes.Backslash · any iri_char) · a classes.Greater

-- how the rest of PN_PREFIX [168] and of a label [142] goes on: it does not end in '.'
abbrev pub name_tail : Regular
name_tail = maybe (many (any name_char_or_dot) · any name_char)

-- [140] PNAME_NS, with [168] PN_PREFIX
abbrev pub prefix : Regular
prefix = maybe (any base · name_tail) · a classes.Colon

-- [171] PERCENT
abbrev pub percent : Regular
percent = a classes.Percent · any hex · any hex

-- [173] PN_LOCAL_ESC
abbrev pub local_escape : Regular
local_escape = a classes.Backslash · any escaped

-- [169] PN_LOCAL, with [170] PLX
abbrev pub local : Regular
local = (any local_start ∣ percent ∣ local_escape) · maybe (many (any local_char_or_dot ∣ percent ∣ local_escape) · (any local_char ∣ percent ∣ local_escape))

-- [157] STRING_LITERAL2 and [156] STRING_LITERAL1, with a backslash before what may be ECHAR [160] or a numeric escape (section 19.2)
abbrev pub string : Regular
string = a classes.Quote · many (any quoted_char ∣ a classes.Backslash · any line_char) · a classes.Quote ∣ a classes.Apostrophe · many (any apostrophed_char ∣ a classes.Backslash · any line_char) · a classes.Apostrophe

-- '+' or '-', or nothing: the signs of [149] to [154]
abbrev pub sign : Regular
sign = maybe (any plus_or_minus)

-- 0 to 9
abbrev pub digit : Regular
digit = a classes.Digit

-- [155] EXPONENT
abbrev pub exponent : Regular
exponent = a classes.LetterE · sign · some digit

-- what each kind of piece looks like: WS [162]; a comment (section 19.4); IRIREF; PNAME_NS; PNAME_LN [141]; VAR1 [143], VAR2 [144] with VARNAME [166]; BLANK_NODE_LABEL [142]; ANON [163]; a string; LANGTAG [145]; INTEGER [146], DECIMAL [147] and DOUBLE [148] with the signed ones [149] to [154]; a word, as the keywords are; the marks
unfoldable pub form : PieceKind → Regular
form kinds.White = some (any white)
form kinds.Comment = a classes.Hash · many (any line_char)
form kinds.Iri = iri
form kinds.Prefix = prefix
form kinds.Prefixed = prefix · local
form kinds.Variable = a classes.VariableMark · any name_start · many (any variable_char)
form kinds.Blank = a classes.Underscore · a classes.Colon · any name_start · name_tail
form kinds.Anonymous = a classes.OpenBracket · many (any white) · a classes.CloseBracket
form kinds.Str = string
form kinds.Tag = a classes.At · some (any letter) · many (a classes.Minus · some (any letter_or_digit))
form kinds.Integer = sign · some digit
form kinds.Decimal = sign · many digit · a classes.Dot · some digit
form kinds.Double = sign · (some digit · maybe (a classes.Dot · many digit) ∣ a classes.Dot · some digit) · exponent
form kinds.Word = some (any letter)
form kinds.OpenBrace = a classes.OpenBrace
form kinds.CloseBrace = a classes.CloseBrace
form kinds.Dot = a classes.Dot
form kinds.Semicolon = a classes.Semicolon
form kinds.Comma = a classes.Comma
form kinds.Star = a classes.Star
form kinds.Carets = a classes.Caret · a classes.Caret

-- the letters of a text
abbrev pub letters : List ℕ → List ℕ
letters cs = map (λ c. code (class_of c)) cs

-- these characters have the form of this kind
abbrev pub IsToken : PieceKind → List ℕ → Type 0
IsToken k cs = Matches (form k) (letters cs)

-- the first n of these characters have this form, and no longer front has any form
pub record IsLongest (cs : List ℕ) (k : PieceKind) (n : ℕ) : Type 0 where
  pub within : n ≤ length cs
  pub is : IsToken k (take n cs)
  pub longest : (j : PieceKind) (m : ℕ) → m ≤ length cs → IsToken j (take m cs) → m ≤ n

-- no front of these characters has any form
abbrev pub NoToken : List ℕ → Type 0
NoToken cs = (j : PieceKind) (m : ℕ) → m ≤ length cs → IsToken j (take m cs) → ⊥
