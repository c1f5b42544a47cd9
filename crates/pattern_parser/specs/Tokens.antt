-- The tokens of a text, with the places of their bytes.
use Rattle.std.specs.Prelude.{ℕ, ◌≡◌, ◌≤◌, List, map, length}
use Rattle.std.specs.Str.{chars, IsUtf8}
use Rattle.query_tokens.specs.declared.kind.PieceKind.{PieceKind}
use Rattle.query_tokens.specs.declared.kind.PieceKind.TheVariants as pieces
use Rattle.query_tokens.specs.declared.piece.Piece.{Piece}
use Rattle.query_tokens.specs.declared.piece.TheConstants.{LONGEST_QUERY}
use Rattle.query_tokens.specs.Pieces.{AreTokens}
use Rattle.pattern_parser.specs.declared.token.Token.{Token}
use Rattle.pattern_parser.specs.declared.token.TokenKind.{TokenKind}
use Rattle.pattern_parser.specs.declared.token.TokenKind.TheVariants as kinds

-- the kind of a token; the marks are one kind
abbrev pub token_kind : PieceKind → TokenKind
token_kind pieces.Iri = kinds.Iri
token_kind pieces.Prefix = kinds.Prefix
token_kind pieces.Prefixed = kinds.Prefixed
token_kind pieces.Variable = kinds.Variable
token_kind pieces.Blank = kinds.Blank
token_kind pieces.Anonymous = kinds.Anonymous
token_kind pieces.Str = kinds.Str
token_kind pieces.Tag = kinds.Tag
token_kind pieces.Integer = kinds.Integer
token_kind pieces.Decimal = kinds.Decimal
token_kind pieces.Double = kinds.Double
token_kind pieces.Word = kinds.Word
token_kind _ = kinds.Mark

-- the places of a token's bytes, and its kind
abbrev pub token_of : Piece → Token
token_of p = record { at = p.at; to = p.to; kind = token_kind p.kind }

-- the text is UTF-8 and not too long, and these are its tokens
pub record IsTokenList (text : List ℕ) (ts : List Token) : Type 0 where
  pub short : length text ≤ LONGEST_QUERY
  pub utf8 : IsUtf8 text
  pub tokens : List Piece
  pub are : AreTokens (chars text) tokens
  pub is : ts ≡ map token_of tokens
