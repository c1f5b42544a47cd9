-- The tokens of a query, each with what it says.
use Rattle.std.specs.Prelude.{ℕ, Bool, true, false, List, map, take, drop, codes, if◌then◌else◌}
use Rattle.std.specs.Str.{bytes_eq, encode_utf8_all}
use Rattle.query_tokens.specs.declared.kind.PieceKind.{PieceKind}
use Rattle.query_tokens.specs.declared.kind.PieceKind.TheVariants as pieces
use Rattle.query_tokens.specs.declared.piece.Piece.{Piece}
use Rattle.query_grammar.specs.declared.kind.Kind.{Kind}
use Rattle.query_grammar.specs.declared.kind.Kind.TheVariants as kinds
use Rattle.query_words.specs.declared.word.Value.{Value}
use Rattle.query_words.specs.declared.word.Value.TheVariants as values
use Rattle.query_words.specs.declared.word.Word.{Word}
use Rattle.query_words.specs.Texts.{same_word, resolved_text, prefix_text, local_text}

-- PREFIX, SELECT, WHERE, true, false, DISTINCT, OPTIONAL and UNION in any case, and `a` in lower case alone
unfoldable pub word_value : List ℕ → Value
word_value cs = if same_word (codes "prefix") cs then values.PrefixWord else (if same_word (codes "select") cs then values.SelectWord else (if same_word (codes "where") cs then values.WhereWord else (if same_word (codes "true") cs then values.True else (if same_word (codes "false") cs then values.False else (if bytes_eq cs (codes "a") then values.TypeWord else (if same_word (codes "distinct") cs then values.DistinctWord else (if same_word (codes "optional") cs then values.OptionalWord else (if same_word (codes "union") cs then values.UnionWord else values.OtherWord))))))))

abbrev pub is_number : PieceKind → Bool
is_number pieces.Integer = true
is_number pieces.Decimal = true
is_number pieces.Double = true
is_number _ = false

-- it says more than which word or mark it is
abbrev pub has_text : PieceKind → Bool
has_text pieces.Iri = true
has_text pieces.Prefix = true
has_text pieces.Prefixed = true
has_text pieces.Variable = true
has_text pieces.Blank = true
has_text pieces.Str = true
has_text pieces.Tag = true
has_text kind = is_number kind

-- what a token of a kind says, by its characters
unfoldable pub value_of : PieceKind → List ℕ → Value
value_of pieces.White cs = values.OtherWord
value_of pieces.Comment cs = values.OtherWord
value_of pieces.Iri cs = values.Iri (resolved_text cs)
value_of pieces.Prefix cs = values.Prefix (prefix_text cs)
value_of pieces.Prefixed cs = values.Prefixed (prefix_text cs) (local_text cs)
value_of pieces.Variable cs = values.Variable (encode_utf8_all (drop 1 cs))
value_of pieces.Blank cs = values.Label (encode_utf8_all cs)
value_of pieces.Anonymous cs = values.Anonymous
value_of pieces.Str cs = values.Str (resolved_text cs)
value_of pieces.Tag cs = values.Tag (encode_utf8_all (drop 1 cs))
value_of pieces.Integer cs = values.Integer (encode_utf8_all cs)
value_of pieces.Decimal cs = values.Decimal (encode_utf8_all cs)
value_of pieces.Double cs = values.Double (encode_utf8_all cs)
value_of pieces.Word cs = word_value cs
value_of pieces.OpenBrace cs = values.OpenBrace
value_of pieces.CloseBrace cs = values.CloseBrace
value_of pieces.Dot cs = values.Dot
value_of pieces.Semicolon cs = values.Semicolon
value_of pieces.Comma cs = values.Comma
value_of pieces.Star cs = values.Star
value_of pieces.Carets cs = values.Carets

-- a token of the text, with what it says and the place of its first byte
abbrev pub word_of : List ℕ → Piece → Word
word_of cs t = record { at = t.at; value = value_of t.kind (take t.len (drop t.place cs)) }

-- the tokens of the text, each with what it says
abbrev pub words_of : List ℕ → List Piece → List Word
words_of cs ts = map (word_of cs) ts

-- what the grammar sees of a token
abbrev pub kind_of : Value → Kind
kind_of (values.Iri t) = kinds.Iri
kind_of (values.Prefix n) = kinds.Prefix
kind_of (values.Prefixed n l) = kinds.Prefixed
kind_of (values.Variable t) = kinds.Variable
kind_of (values.Label t) = kinds.Blank
kind_of values.Anonymous = kinds.Anonymous
kind_of (values.Str t) = kinds.Str
kind_of (values.Tag t) = kinds.Tag
kind_of (values.Integer t) = kinds.Number
kind_of (values.Decimal t) = kinds.Number
kind_of (values.Double t) = kinds.Number
kind_of values.PrefixWord = kinds.PrefixWord
kind_of values.SelectWord = kinds.SelectWord
kind_of values.WhereWord = kinds.WhereWord
kind_of values.True = kinds.TrueWord
kind_of values.False = kinds.FalseWord
kind_of values.TypeWord = kinds.TypeWord
kind_of values.DistinctWord = kinds.DistinctWord
kind_of values.OptionalWord = kinds.OptionalWord
kind_of values.UnionWord = kinds.UnionWord
kind_of values.OtherWord = kinds.OtherWord
kind_of values.OpenBrace = kinds.OpenBrace
kind_of values.CloseBrace = kinds.CloseBrace
kind_of values.Dot = kinds.Dot
kind_of values.Semicolon = kinds.Semicolon
kind_of values.Comma = kinds.Comma
kind_of values.Star = kinds.Star
kind_of values.Carets = kinds.Carets

-- what the grammar sees of the tokens
abbrev pub kinds_of : List Word → List Kind
kinds_of ws = map (λ w. kind_of w.value) ws
