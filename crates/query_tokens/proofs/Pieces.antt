-- The pieces of a text, one after another.
use Rattle.std.proofs.Common.{ℕ, if◌then◌else◌, zero, suc, ◌≡◌, ◌+◌, ◌<◌, ◌≤◌, Bool, true, false, List, [], ◌∷◌, ◌++◌, Some, refl, sym, ap, subst, ◌∙◌, take, drop, length, arith, append_assoc, length-drop}
use Rattle.std.proofs.lemmas.List.{append-nil, drop-drop}
use Rattle.std.specs.List.{All}
use Rattle.std.proofs.lemmas.List.Elements.{All-append, All-nil, All-cons}
use Rattle.query_tokens.specs.declared.kind.PieceKind.{PieceKind}
use Rattle.query_tokens.specs.declared.machine.State.TheVariants.{Start}
use Rattle.query_tokens.specs.declared.piece.Piece.{Piece}
use Rattle.query_tokens.specs.Machine.{kind_at}
use Rattle.query_tokens.specs.Forms.{IsToken, IsLongest}
use Rattle.query_tokens.specs.Escapes.{IsPiece, NoPiece, has_good_escapes}
use Rattle.query_tokens.specs.Pieces.{is_gap, byte_place, Covers, placed, placed_one, Fits, AreTokens, IsTokenFault}
use Rattle.query_tokens.proofs.Ends.{token-ends}
use Rattle.query_tokens.proofs.Best.{no_start}
use Rattle.query_tokens.proofs.OneKind.{one_kind}

-- what the loop keeps: the first n characters are pieces, and these are their tokens
pub record Front (cs : List ℕ) (n : ℕ) (ts : List Piece) : Type 0 where
  pub pieces : List (PieceKind × ℕ)
  pub cover : Covers cs pieces n
  pub within : n ≤ length cs
  pub are : ts ≡ placed cs 0 pieces

pub not_empty : (cs : List ℕ) (k : PieceKind) (n : ℕ) → IsLongest cs k n → 0 < n
not_empty cs k zero l = absurd (none (token-ends cs 0 Start k (no_start cs) l.is))
  where
    none : kind_at Start ≡ Some k → ⊥
    none e = cc
not_empty cs k (suc n) l = omega arith

cover_more : (cs : List ℕ) (ps : List (PieceKind × ℕ)) (n : ℕ) (k : PieceKind) (len : ℕ) → Covers cs ps n → IsPiece (drop n cs) k len → Covers cs (ps ++ (k, len) ∷ []) (n + len)
cover_more cs [] n k len c l =
    let here : IsPiece cs k len = subst (λ (m : ℕ). IsPiece (drop m cs) k len) c l in
    (here, 0, omega arith, refl)
cover_more cs (p ∷ ps) n k len c l =
    let e : n ≡ p.1 + c.1 = c.2 in
    let there : drop n cs ≡ drop c.1 (drop p.1 cs) = ap (λ (m : ℕ). drop m cs) e ∙ sym (drop-drop c.1 p.1 cs) in
    (c.0, c.1 + len, omega arith, cover_more (drop p.1 cs) ps c.1 k len c.3 (subst (λ (l : List ℕ). IsPiece l k len) there l))

placed_more : (whole : List ℕ) (at n : ℕ) (cs : List ℕ) (ps : List (PieceKind × ℕ)) (k : PieceKind) (len : ℕ) → Covers cs ps n → placed whole at (ps ++ (k, len) ∷ []) ≡ placed whole at ps ++ placed_one whole (at + n) k len
placed_more whole at n cs [] k len c =
    let e : at + n ≡ at = omega arith in
    let right : placed_one whole at k len ++ [] ≡ placed_one whole at k len = append-nil (placed_one whole at k len) in
    right ∙ ap (λ (m : ℕ). placed_one whole m k len) (sym e)
placed_more whole at n cs (p ∷ ps) k len c =
    let e : at + p.1 + c.1 ≡ at + n = omega (arith, c.2) in
    ap (λ (l : List Piece). placed_one whole at p.0 p.1 ++ l) (placed_more whole (at + p.1) c.1 (drop p.1 cs) ps k len c.3 ∙ ap (λ (m : ℕ). placed whole (at + p.1) ps ++ placed_one whole m k len) e) ∙ sym (append_assoc (placed_one whole at p.0 p.1) (placed whole (at + p.1) ps) (placed_one whole (at + n) k len))

pub one_more : (cs rest : List ℕ) (n : ℕ) (old new : List Piece) (k : PieceKind) (len : ℕ) → rest ≡ drop n cs → Front cs n old → IsPiece rest k len → new ≡ old ++ placed_one cs n k len → Front cs (n + len) new
one_more cs rest n old new k len e f l are =
    let here : IsPiece (drop n cs) k len = subst (λ (r : List ℕ). IsPiece r k len) e l in
    let w = here.0.within in
    let d = length-drop n cs in
    let b = f.within in
    let from_zero : n ≡ 0 + n = omega arith in
    record {
      pieces = f.pieces ++ (k, len) ∷ [];
      cover = cover_more cs f.pieces n k len f.cover here;
      within = omega arith;
      are = are ∙ ap (λ (l : List Piece). l ++ placed_one cs n k len) f.are ∙ ap (λ (m : ℕ). placed cs 0 f.pieces ++ placed_one cs m k len) from_zero ∙ sym (placed_more cs 0 n cs f.pieces k len f.cover);
    }

-- ---- one reading

same_len : (cs : List ℕ) (j k : PieceKind) (m n : ℕ) → IsLongest cs j m → IsLongest cs k n → m ≡ n
same_len cs j k m n a b =
    let x = b.longest j m a.within a.is in
    let y = a.longest k n b.within b.is in
    omega arith

same_kinds : (cs : List ℕ) (j k : PieceKind) (m n : ℕ) → IsLongest cs j m → IsLongest cs k n → j ≡ k
same_kinds cs j k m n a b = one_kind (take n cs) j k (subst (λ (i : ℕ). IsToken j (take i cs)) (same_len cs j k m n a b) a.is) b.is

pair_same : (j k : PieceKind) (m n : ℕ) → j ≡ k → m ≡ n → ◌≡◌ {A = PieceKind × ℕ} (j, m) (k, n)
pair_same j k m n a b = cc

covers_same : (cs : List ℕ) (ps qs : List (PieceKind × ℕ)) (n : ℕ) → Covers cs ps n → Covers cs qs n → ps ≡ qs
covers_same cs [] [] n a b = refl
covers_same cs [] (q ∷ qs) n a b = let h = not_empty cs q.0 q.1 b.0.0 in absurd (omega (arith, b.2))
covers_same cs (p ∷ ps) [] n a b = let h = not_empty cs p.0 p.1 a.0.0 in absurd (omega (arith, a.2))
covers_same cs (p ∷ ps) (q ∷ qs) n a b =
    let len : p.1 ≡ q.1 = same_len cs p.0 q.0 p.1 q.1 a.0.0 b.0.0 in
    let kind : p.0 ≡ q.0 = same_kinds cs p.0 q.0 p.1 q.1 a.0.0 b.0.0 in
    let more : b.1 ≡ a.1 = omega (arith, a.2, b.2) in
    let there : Covers (drop p.1 cs) qs a.1 = subst (λ (m : ℕ). Covers (drop p.1 cs) qs m) more (subst (λ (m : ℕ). Covers (drop m cs) qs b.1) (sym len) b.3) in
    let rest : ps ≡ qs = covers_same (drop p.1 cs) ps qs a.1 a.3 there in
    let one : ◌≡◌ {A = PieceKind × ℕ} p q = pair_same p.0 q.0 p.1 q.1 kind len in
    cc

pub one_tokens : (cs : List ℕ) (a b : List Piece) → AreTokens cs a → AreTokens cs b → a ≡ b
one_tokens cs a b x y = x.are ∙ ap (placed cs 0) (covers_same cs x.pieces y.pieces (length cs) x.cover y.cover) ∙ sym y.are

-- where pieces cover a longer front too, some piece begins at the end of the shorter
not_past : (cs : List ℕ) (ps qs : List (PieceKind × ℕ)) (m n : ℕ) → Covers cs ps m → NoPiece (drop m cs) → Covers cs qs n → n ≤ m
not_past cs [] [] m n a none b = omega arith
not_past cs [] (q ∷ qs) m n a none b =
    absurd ((subst (λ (i : ℕ). NoPiece (drop i cs)) a none) q.0 q.1 b.0)
not_past cs (p ∷ ps) [] m n a none b = omega arith
not_past cs (p ∷ ps) (q ∷ qs) m n a none b =
    let len : p.1 ≡ q.1 = same_len cs p.0 q.0 p.1 q.1 a.0.0 b.0.0 in
    let e : m ≡ p.1 + a.1 = a.2 in
    let there : drop m cs ≡ drop a.1 (drop p.1 cs) = ap (λ (m : ℕ). drop m cs) e ∙ sym (drop-drop a.1 p.1 cs) in
    let rest : Covers (drop p.1 cs) qs b.1 = subst (λ (m : ℕ). Covers (drop m cs) qs b.1) (sym len) b.3 in
    let ih = not_past (drop p.1 cs) ps qs a.1 b.1 a.3 (subst NoPiece there none) rest in
    omega (arith, a.2, b.2)

pub one_fault : (cs : List ℕ) (m n : ℕ) → IsTokenFault cs m → IsTokenFault cs n → m ≡ n
one_fault cs m n a b =
    let x = not_past cs a.pieces b.pieces m n a.cover a.none b.cover in
    let y = not_past cs b.pieces a.pieces n m b.cover b.none a.cover in
    omega arith

pub apart : (cs : List ℕ) (ts : List Piece) (n : ℕ) → AreTokens cs ts → IsTokenFault cs n → ⊥
apart cs ts n t f =
    let x = not_past cs f.pieces t.pieces n (length cs) f.cover f.none t.cover in
    let w = f.within in
    omega arith

-- ---- each token lies within the text

one_fits : (whole : List ℕ) (at : ℕ) (k : PieceKind) (len : ℕ) → at + len ≤ length whole → All (Fits whole) (placed_one whole at k len)
one_fits whole at k len h = pick (is_gap k)
  where
    piece : Piece
    piece = record { kind = k; place = at; len = len; at = byte_place whole at; to = byte_place whole (at + len) }

    one : All (Fits whole) (piece ∷ [])
    one = All-cons (Fits whole) piece [] (record { within = h; at = refl; to = refl }) (All-nil (Fits whole))

    pick : (b : Bool) → All (Fits whole) (if b then [] else piece ∷ [])
    pick true = All-nil (Fits whole)
    pick false = one

all_fit : (whole : List ℕ) (at n : ℕ) (cs : List ℕ) (ps : List (PieceKind × ℕ)) → Covers cs ps n → at + n ≤ length whole → All (Fits whole) (placed whole at ps)
all_fit whole at n cs [] c h = All-nil (Fits whole)
all_fit whole at n cs (p ∷ ps) c h =
    All-append (Fits whole) (placed_one whole at p.0 p.1) (placed whole (at + p.1) ps) (one_fits whole at p.0 p.1 (omega (arith, c.2))) (all_fit whole (at + p.1) c.1 (drop p.1 cs) ps c.3 (omega (arith, c.2)))

pub fitting : (cs : List ℕ) (n : ℕ) (ts : List Piece) → Front cs n ts → All (Fits cs) ts
fitting cs n ts f = let w = f.within in subst (All (Fits cs)) (sym f.are) (all_fit cs 0 n cs f.pieces f.cover (omega arith))

-- ---- a bad escape

pub bad : (cs : List ℕ) (k : PieceKind) (n : ℕ) → IsLongest cs k n → has_good_escapes k (take n cs) ≡ false → NoPiece cs
bad cs k n l b = λ j m h.
    let len : m ≡ n = same_len cs j k m n h.0 l in
    let kind : j ≡ k = same_kinds cs j k m n h.0 l in
    let good : has_good_escapes k (take n cs) ≡ true = subst (λ (i : ℕ). has_good_escapes k (take i cs) ≡ true) len (subst (λ (i : PieceKind). has_good_escapes i (take m cs) ≡ true) kind h.1) in
    differ good
  where
    differ : has_good_escapes k (take n cs) ≡ true → ⊥
    differ g = cc

-- a token with the places of its bytes
pub placed_is : (cs : List ℕ) (n : ℕ) (k : PieceKind) (len at to : ℕ) → at ≡ byte_place cs n → to ≡ byte_place cs (n + len) → (if is_gap k then [] else record { kind = k; place = n; len = len; at = at; to = to } ∷ []) ≡ placed_one cs n k len
placed_is cs n k len at to e f = rw (e, f) refl
