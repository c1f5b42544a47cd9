-- The pieces of a text: at each place the longest token, white space or comment.
use Rattle.std.specs.Prelude.{ℕ, ◌≡◌, ◌⊎◌, ◌+◌, ◌<◌, ◌≤◌, Bool, true, false, List, [], ◌∷◌, ◌++◌, take, drop, length, if◌then◌else◌}
use Rattle.std.specs.Str.{encode_utf8_all}
use Rattle.query_tokens.specs.declared.kind.PieceKind.{PieceKind}
use Rattle.query_tokens.specs.declared.kind.PieceKind.TheVariants.{White, Comment}
use Rattle.query_tokens.specs.declared.piece.Piece.{Piece}
use Rattle.query_tokens.specs.Escapes.{IsPiece, NoPiece}

-- the first n characters are these pieces one after another, each the longest token at its place, with good escapes
abbrev pub Covers : List ℕ → List (PieceKind × ℕ) → ℕ → Type 0
Covers cs [] n = n ≡ 0
Covers cs (p ∷ ps) n = IsPiece cs p.0 p.1 × (m : ℕ) × (n ≡ p.1 + m) × Covers (drop p.1 cs) ps m

-- white space and comments, which are no tokens
abbrev pub is_gap : PieceKind → Bool
is_gap White = true
is_gap Comment = true
is_gap _ = false

-- how many bytes of UTF-8 the first n characters have
abbrev pub byte_place : List ℕ → ℕ → ℕ
byte_place cs n = length (encode_utf8_all (take n cs))

-- the token at a place, with the places of its bytes, or nothing
abbrev pub placed_one : List ℕ → ℕ → PieceKind → ℕ → List Piece
placed_one cs place kind len = if is_gap kind then [] else record { kind = kind; place = place; len = len; at = byte_place cs place; to = byte_place cs (place + len) } ∷ []

-- the tokens of these pieces, from a place on
abbrev pub placed : List ℕ → ℕ → List (PieceKind × ℕ) → List Piece
placed cs place [] = []
placed cs place (p ∷ ps) = placed_one cs place p.0 p.1 ++ placed cs (place + p.1) ps

-- the text is these tokens, with white space and comments between
pub record AreTokens (cs : List ℕ) (ts : List Piece) : Type 0 where
  pub pieces : List (PieceKind × ℕ)
  pub cover : Covers cs pieces (length cs)
  pub are : ts ≡ placed cs 0 pieces

-- n is the first place that begins no token, no white space and no comment
pub record IsTokenFault (cs : List ℕ) (n : ℕ) : Type 0 where
  pub pieces : List (PieceKind × ℕ)
  pub cover : Covers cs pieces n
  pub within : n < length cs
  pub none : NoPiece (drop n cs)

-- the token lies within the text, and its characters and bytes are in order
pub record Fits (cs : List ℕ) (t : Piece) : Type 0 where
  pub within : t.place + t.len ≤ length cs
  pub at : t.at ≡ byte_place cs t.place
  pub to : t.to ≡ byte_place cs (t.place + t.len)

-- a text has exactly one of the two: one list of tokens, or one first fault
pub record OneReading : Type 0 where
  pub some : (cs : List ℕ) → ((ts : List Piece) × AreTokens cs ts) ⊎ ((n : ℕ) × IsTokenFault cs n)
  pub tokens : (cs : List ℕ) (a b : List Piece) → AreTokens cs a → AreTokens cs b → a ≡ b
  pub faults : (cs : List ℕ) (m n : ℕ) → IsTokenFault cs m → IsTokenFault cs n → m ≡ n
  pub apart : (cs : List ℕ) (ts : List Piece) (n : ℕ) → AreTokens cs ts → IsTokenFault cs n → ⊥
