-- A text has tokens, or a first place that begins none.
use Rattle.std.proofs.Common.{ℕ, zero, suc, ◌≡◌, ◌+◌, ◌<◌, ◌≤◌, ◌⊎◌, inl, inr, Bool, true, false, List, [], ◌∷◌, refl, subst, take, drop, length, arith, length-drop}
use Rattle.std.proofs.lemmas.List.{drop-drop}
use Rattle.regular_expressions.specs.Regular.{MatchingIsDecided}
use Rattle.regular_expressions.proofs.Decide.{IsGreatest, greatest_or_none}
use Rattle.query_tokens.specs.declared.kind.PieceKind.{PieceKind}
use Rattle.query_tokens.specs.declared.piece.Piece.{Piece}
use Rattle.query_tokens.specs.Forms.{form, letters, IsToken, IsLongest, NoToken}
use Rattle.query_tokens.specs.Escapes.{IsPiece, NoPiece, has_good_escapes}
use Rattle.query_tokens.specs.Pieces.{Covers, placed, AreTokens, IsTokenFault}
use Rattle.query_tokens.proofs.Follows.{all_kinds}
use Rattle.query_tokens.proofs.Ends.{IsIn, in_all}
use Rattle.query_tokens.proofs.Pieces.{not_empty, bad}

-- ---- at one place

-- these characters are a token of some kind
abbrev SomeToken : List ℕ → Type 0
SomeToken w = (k : PieceKind) × IsToken k w

token_of : MatchingIsDecided → (ks : List PieceKind) (w : List ℕ) → SomeToken w ⊎ ((k : PieceKind) → IsIn k ks → IsToken k w → ⊥)
token_of decided [] w = inr (λ k i t. i)
token_of decided (j ∷ js) w = pick (decided (form j) (letters w)) (token_of decided js w)
  where
    neither : (IsToken j w → ⊥) → ((k : PieceKind) → IsIn k js → IsToken k w → ⊥) → (k : PieceKind) → (k ≡ j) ⊎ IsIn k js → IsToken k w → ⊥
    neither f g k (inl e) t = f (subst (λ (i : PieceKind). IsToken i w) e t)
    neither f g k (inr i) t = g k i t

    pick : IsToken j w ⊎ (IsToken j w → ⊥) → SomeToken w ⊎ ((k : PieceKind) → IsIn k js → IsToken k w → ⊥) → SomeToken w ⊎ ((k : PieceKind) → (k ≡ j) ⊎ IsIn k js → IsToken k w → ⊥)
    pick (inl t) r = inl (j, t)
    pick (inr f) (inl t) = inl t
    pick (inr f) (inr g) = inr (λ k i t. neither f g k i t)

decide_token : MatchingIsDecided → (w : List ℕ) → SomeToken w ⊎ (SomeToken w → ⊥)
decide_token decided w = pick (token_of decided all_kinds w)
  where
    pick : SomeToken w ⊎ ((k : PieceKind) → IsIn k all_kinds → IsToken k w → ⊥) → SomeToken w ⊎ (SomeToken w → ⊥)
    pick (inl t) = inl t
    pick (inr none) = inr (λ t. none t.0 (in_all t.0) t.1)

longest_or_none : MatchingIsDecided → (cs : List ℕ) → ((k : PieceKind) × (n : ℕ) × IsLongest cs k n) ⊎ NoToken cs
longest_or_none decided cs = pick (greatest_or_none front (λ n. decide_token decided (take n cs)) (length cs))
  where
    front : ℕ → Type 0
    front n = SomeToken (take n cs)

    pick : ((n : ℕ) × IsGreatest front (length cs) n) ⊎ ((n : ℕ) → n ≤ length cs → front n → ⊥) → ((k : PieceKind) × (n : ℕ) × IsLongest cs k n) ⊎ NoToken cs
    pick (inl g) = inl (g.1.is.0, g.0, record { within = g.1.within; is = g.1.is.1; longest = λ j m h t. g.1.greatest m h (j, t) })
    pick (inr none) = inr (λ j m h t. none m h (j, t))

piece_or_none : MatchingIsDecided → (cs : List ℕ) → ((k : PieceKind) × (n : ℕ) × IsPiece cs k n) ⊎ NoPiece cs
piece_or_none decided cs = pick (longest_or_none decided cs)
  where
    good : (k : PieceKind) (n : ℕ) (b : Bool) → IsLongest cs k n → has_good_escapes k (take n cs) ≡ b → ((k : PieceKind) × (n : ℕ) × IsPiece cs k n) ⊎ NoPiece cs
    good k n true l e = inl (k, n, (l, e))
    good k n false l e = inr (bad cs k n l e)

    pick : ((k : PieceKind) × (n : ℕ) × IsLongest cs k n) ⊎ NoToken cs → ((k : PieceKind) × (n : ℕ) × IsPiece cs k n) ⊎ NoPiece cs
    pick (inl l) = good l.0 l.1 (has_good_escapes l.0 (take l.1 cs)) l.2 refl
    pick (inr none) = inr (λ k n p. none k n p.0.within p.0.is)

-- ---- one place after another

-- pieces cover the first n characters, and at n begins none
abbrev StopsAt : List ℕ → List (PieceKind × ℕ) → ℕ → Type 0
StopsAt cs ps n = Covers cs ps n × (n < length cs) × NoPiece (drop n cs)

abbrev Walked : List ℕ → Type 0
Walked cs = ((ps : List (PieceKind × ℕ)) × Covers cs ps (length cs)) ⊎ ((ps : List (PieceKind × ℕ)) × (n : ℕ) × StopsAt cs ps n)

piece_before : (cs : List ℕ) (k : PieceKind) (len : ℕ) → IsPiece cs k len → Walked (drop len cs) → Walked cs
piece_before cs k len p (inl w) =
    let size = length-drop len cs in
    let within = p.0.within in
    inl ((k, len) ∷ w.0, (p, length (drop len cs), omega arith, w.1))
piece_before cs k len p (inr s) =
    let size = length-drop len cs in
    let within = p.0.within in
    let below = s.2.1 in
    inr ((k, len) ∷ s.0, len + s.1, ((p, s.1, refl, s.2.0), omega arith, subst NoPiece (drop-drop s.1 len cs) s.2.2))

walked : MatchingIsDecided → (fuel : ℕ) (cs : List ℕ) → length cs ≤ fuel → Walked cs
walked decided fuel [] h = inl ([], refl)
walked decided zero (c ∷ cs) h = absurd (omega arith)
walked decided (suc fuel) (c ∷ cs) h = pick (piece_or_none decided (c ∷ cs)) (λ n more. walked decided fuel (drop n (c ∷ cs)) (shorter n more))
  where
    shorter : (n : ℕ) → 0 < n → length (drop n (c ∷ cs)) ≤ fuel
    shorter n more = let size = length-drop n (c ∷ cs) in omega arith

    pick : ((k : PieceKind) × (n : ℕ) × IsPiece (c ∷ cs) k n) ⊎ NoPiece (c ∷ cs) → ((n : ℕ) → 0 < n → Walked (drop n (c ∷ cs))) → Walked (c ∷ cs)
    pick (inl p) walk = piece_before (c ∷ cs) p.0 p.1 p.2 (walk p.1 (not_empty (c ∷ cs) p.0 p.1 p.2.0))
    pick (inr none) walk = inr ([], 0, (refl, omega arith, none))

pub some_reading : MatchingIsDecided → (cs : List ℕ) → ((ts : List Piece) × AreTokens cs ts) ⊎ ((n : ℕ) × IsTokenFault cs n)
some_reading decided cs = pick (walked decided (length cs) cs (omega arith))
  where
    pick : Walked cs → ((ts : List Piece) × AreTokens cs ts) ⊎ ((n : ℕ) × IsTokenFault cs n)
    pick (inl w) = inl (placed cs 0 w.0, record { pieces = w.0; cover = w.1; are = refl })
    pick (inr s) = inr (s.1, record { pieces = s.0; cover = s.2.0; within = s.2.1; none = s.2.2 })
