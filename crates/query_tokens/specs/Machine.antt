-- The machine that stands inside a token: where it goes with a class of characters, and which token it has read. It serves the reader and the proofs alone.
use Rattle.std.specs.Prelude.{ℕ, Bool, true, false, List, [], ◌∷◌, Option, Some, None, if◌then◌else◌}
use Rattle.query_tokens.specs.declared.class.Class.{Class}
use Rattle.query_tokens.specs.declared.class.Class.TheVariants as classes
use Rattle.query_tokens.specs.declared.kind.PieceKind.{PieceKind}
use Rattle.query_tokens.specs.declared.kind.PieceKind.TheVariants as kinds
use Rattle.query_tokens.specs.declared.machine.State.{State}
use Rattle.query_tokens.specs.declared.machine.State.TheVariants.{Start, White, Comment, IriItems, Quoted, Apostrophed, OpenBrace, CloseBrace, Caret, VariableMark, Underscore, Prefix, Dot, Semicolon, Comma, Star, OpenBracket, At, Sign, Digits, Word, Name, Iri, IriEscape, Str, QuotedEscape, ApostrophedEscape, Carets, Variable, LabelStart, LocalFirstEscape, Local, LocalFirstPercent, Fraction, Anonymous, Tag, SignDot, DigitsDot, Exponent, NameDots, Label, LocalEscape, LocalDots, LocalPercent, LocalFirstPercentHex, TagMinus, ExponentSign, ExponentDigits, LabelDots, LocalPercentHex, TagMore}
use Rattle.query_tokens.specs.Sets.{is_in, apostrophed_char, escaped, hex, iri_char, letter, letter_or_digit, line_char, local_char, local_start, name_char, name_start, plus_or_minus, quoted_char, variable_char, white}

-- from a state, with a class of a set, to a state
abbrev pub edges : State → List (List Class × State)
edges Start = (classes.Hash ∷ [], Comment) ∷ (classes.Less ∷ [], IriItems) ∷ (classes.Quote ∷ [], Quoted) ∷ (classes.Apostrophe ∷ [], Apostrophed) ∷ (classes.OpenBrace ∷ [], OpenBrace) ∷ (classes.CloseBrace ∷ [], CloseBrace) ∷ (classes.Caret ∷ [], Caret) ∷ (classes.VariableMark ∷ [], VariableMark) ∷ (classes.Underscore ∷ [], Underscore) ∷ (classes.Colon ∷ [], Prefix) ∷ (classes.Dot ∷ [], Dot) ∷ (classes.Semicolon ∷ [], Semicolon) ∷ (classes.Comma ∷ [], Comma) ∷ (classes.Star ∷ [], Star) ∷ (classes.OpenBracket ∷ [], OpenBracket) ∷ (classes.At ∷ [], At) ∷ (classes.Digit ∷ [], Digits) ∷ (classes.Base ∷ [], Name) ∷ (white, White) ∷ (plus_or_minus, Sign) ∷ (letter, Word) ∷ []
edges White = (white, White) ∷ []
edges Comment = (line_char, Comment) ∷ []
edges IriItems = (classes.Greater ∷ [], Iri) ∷ (classes.Backslash ∷ [], IriEscape) ∷ (iri_char, IriItems) ∷ []
edges Quoted = (classes.Quote ∷ [], Str) ∷ (classes.Backslash ∷ [], QuotedEscape) ∷ (quoted_char, Quoted) ∷ []
edges Apostrophed = (classes.Apostrophe ∷ [], Str) ∷ (classes.Backslash ∷ [], ApostrophedEscape) ∷ (apostrophed_char, Apostrophed) ∷ []
edges OpenBrace = []
edges CloseBrace = []
edges Caret = (classes.Caret ∷ [], Carets) ∷ []
edges VariableMark = (name_start, Variable) ∷ []
edges Underscore = (classes.Colon ∷ [], LabelStart) ∷ []
edges Prefix = (classes.Backslash ∷ [], LocalFirstEscape) ∷ (classes.Percent ∷ [], LocalFirstPercent) ∷ (local_start, Local) ∷ []
edges Dot = (classes.Digit ∷ [], Fraction) ∷ []
edges Semicolon = []
edges Comma = []
edges Star = []
edges OpenBracket = (classes.CloseBracket ∷ [], Anonymous) ∷ (white, OpenBracket) ∷ []
edges At = (letter, Tag) ∷ []
edges Sign = (classes.Dot ∷ [], SignDot) ∷ (classes.Digit ∷ [], Digits) ∷ []
edges Digits = (classes.Dot ∷ [], DigitsDot) ∷ (classes.Digit ∷ [], Digits) ∷ (classes.LetterE ∷ [], Exponent) ∷ []
edges Word = (classes.Colon ∷ [], Prefix) ∷ (classes.Dot ∷ [], NameDots) ∷ (letter, Word) ∷ (name_char, Name) ∷ []
edges Name = (name_char, Name) ∷ (classes.Dot ∷ [], NameDots) ∷ (classes.Colon ∷ [], Prefix) ∷ []
edges Iri = []
edges IriEscape = (iri_char, IriItems) ∷ []
edges Str = []
edges QuotedEscape = (line_char, Quoted) ∷ []
edges ApostrophedEscape = (line_char, Apostrophed) ∷ []
edges Carets = []
edges Variable = (variable_char, Variable) ∷ []
edges LabelStart = (name_start, Label) ∷ []
edges LocalFirstEscape = (escaped, Local) ∷ []
edges Local = (classes.Backslash ∷ [], LocalEscape) ∷ (classes.Dot ∷ [], LocalDots) ∷ (classes.Percent ∷ [], LocalPercent) ∷ (local_char, Local) ∷ []
edges LocalFirstPercent = (hex, LocalFirstPercentHex) ∷ []
edges Fraction = (classes.Digit ∷ [], Fraction) ∷ (classes.LetterE ∷ [], Exponent) ∷ []
edges Anonymous = []
edges Tag = (classes.Minus ∷ [], TagMinus) ∷ (letter, Tag) ∷ []
edges SignDot = (classes.Digit ∷ [], Fraction) ∷ []
edges DigitsDot = (classes.Digit ∷ [], Fraction) ∷ (classes.LetterE ∷ [], Exponent) ∷ []
edges Exponent = (classes.Digit ∷ [], ExponentDigits) ∷ (plus_or_minus, ExponentSign) ∷ []
edges NameDots = (name_char, Name) ∷ (classes.Dot ∷ [], NameDots) ∷ []
edges Label = (classes.Dot ∷ [], LabelDots) ∷ (name_char, Label) ∷ []
edges LocalEscape = (escaped, Local) ∷ []
edges LocalDots = (classes.Backslash ∷ [], LocalEscape) ∷ (classes.Dot ∷ [], LocalDots) ∷ (classes.Percent ∷ [], LocalPercent) ∷ (local_char, Local) ∷ []
edges LocalPercent = (hex, LocalPercentHex) ∷ []
edges LocalFirstPercentHex = (hex, Local) ∷ []
edges TagMinus = (letter_or_digit, TagMore) ∷ []
edges ExponentSign = (classes.Digit ∷ [], ExponentDigits) ∷ []
edges ExponentDigits = (classes.Digit ∷ [], ExponentDigits) ∷ []
edges LabelDots = (classes.Dot ∷ [], LabelDots) ∷ (name_char, Label) ∷ []
edges LocalPercentHex = (hex, Local) ∷ []
edges TagMore = (classes.Minus ∷ [], TagMinus) ∷ (letter_or_digit, TagMore) ∷ []

-- the end of the first edge whose set has the class
abbrev pub taken : List (List Class × State) → Class → Option State
taken [] k = None
taken (e ∷ es) k = if is_in e.0 k then Some e.1 else taken es k

-- the state after one more character of a class, where there is one
abbrev pub next : State → Class → Option State
next s k = taken (edges s) k

-- inside an IRI or a string
abbrev pub is_enclosed : State → Bool
is_enclosed IriItems = true
is_enclosed IriEscape = true
is_enclosed Quoted = true
is_enclosed QuotedEscape = true
is_enclosed Apostrophed = true
is_enclosed ApostrophedEscape = true
is_enclosed _ = false

-- inside a word, and inside the name of a variable, a blank node's label or a language tag
abbrev pub is_in_name : State → Bool
is_in_name Word = true
is_in_name Name = true
is_in_name NameDots = true
is_in_name Variable = true
is_in_name LabelStart = true
is_in_name Label = true
is_in_name LabelDots = true
is_in_name Tag = true
is_in_name TagMinus = true
is_in_name TagMore = true
is_in_name _ = false

-- inside a number, past its first character
abbrev pub is_in_number : State → Bool
is_in_number Sign = true
is_in_number Digits = true
is_in_number SignDot = true
is_in_number DigitsDot = true
is_in_number Fraction = true
is_in_number Exponent = true
is_in_number ExponentSign = true
is_in_number ExponentDigits = true
is_in_number _ = false

-- behind the colon of a prefix, where a local part is read
abbrev pub is_in_local : State → Bool
is_in_local Prefix = true
is_in_local LocalFirstEscape = true
is_in_local LocalFirstPercent = true
is_in_local LocalFirstPercentHex = true
is_in_local Local = true
is_in_local LocalDots = true
is_in_local LocalEscape = true
is_in_local LocalPercent = true
is_in_local LocalPercentHex = true
is_in_local _ = false

-- the token that has just been read, where the state ends one
abbrev pub kind_at : State → Option PieceKind
kind_at White = Some kinds.White
kind_at Comment = Some kinds.Comment
kind_at OpenBrace = Some kinds.OpenBrace
kind_at CloseBrace = Some kinds.CloseBrace
kind_at Prefix = Some kinds.Prefix
kind_at Dot = Some kinds.Dot
kind_at Semicolon = Some kinds.Semicolon
kind_at Comma = Some kinds.Comma
kind_at Star = Some kinds.Star
kind_at Digits = Some kinds.Integer
kind_at Word = Some kinds.Word
kind_at Iri = Some kinds.Iri
kind_at Str = Some kinds.Str
kind_at Carets = Some kinds.Carets
kind_at Variable = Some kinds.Variable
kind_at Local = Some kinds.Prefixed
kind_at Fraction = Some kinds.Decimal
kind_at Anonymous = Some kinds.Anonymous
kind_at Tag = Some kinds.Tag
kind_at Label = Some kinds.Blank
kind_at ExponentDigits = Some kinds.Double
kind_at TagMore = Some kinds.Tag
kind_at _ = None

-- the longest token so far, after n characters
abbrev pub better : Option (PieceKind × ℕ) → Option PieceKind → ℕ → Option (PieceKind × ℕ)
better best None n = best
better best (Some k) n = Some (k, n)
