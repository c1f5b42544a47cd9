-- Parts of UTF-8 that are cut at ASCII bytes.
use Rattle.std.proofs.Common.{ℕ, zero, suc, ◌≡◌, ◌+◌, ◌<◌, ◌≤◌, List, [], ◌∷◌, ◌++◌, length, take, get_or, refl, sym, subst, arith, length-append}
use Rattle.std.specs.Str.{IsUtf8, IsAscii}
use Rattle.std.proofs.lemmas.List.{take_at, drop_at}
use Rattle.list_laws.proofs.Lists.{behind_mark}
use Rattle.std.proofs.lemmas.Str.{IsUtf8-take, IsUtf8-drop, IsCharBoundary-before_ascii, IsCharBoundary-after_ascii, IsCharBoundary-from_take, IsUtf8-from_ascii}

at_end : (xs ys : List ℕ) (b : ℕ) → get_or (xs ++ b ∷ ys) (length xs) 0 ≡ b
at_end [] ys b = refl
at_end (x ∷ xs) ys b = at_end xs ys b

within : (xs ys : List ℕ) (b : ℕ) → length xs < length (xs ++ b ∷ ys)
within xs ys b = omega (arith, length-append xs (b ∷ ys))

-- what stands before an ASCII byte, and what stands after it
pub before_ascii : (xs ys : List ℕ) (b : ℕ) → b < 128 → IsUtf8 (xs ++ b ∷ ys) → IsUtf8 xs
before_ascii xs ys b h u =
    let low : get_or (xs ++ b ∷ ys) (length xs) 0 < 128 = subst (λ (k : ℕ). k < 128) (sym (at_end xs ys b)) h in
    subst (λ (l : List ℕ). IsUtf8 l) (take_at xs (b ∷ ys) (length xs) refl) (IsUtf8-take (xs ++ b ∷ ys) (length xs) u (IsCharBoundary-before_ascii (xs ++ b ∷ ys) (length xs) (within xs ys b) low))

pub after_ascii : (xs ys : List ℕ) (b : ℕ) → b < 128 → IsUtf8 (xs ++ b ∷ ys) → IsUtf8 ys
after_ascii xs ys b h u =
    let low : get_or (xs ++ b ∷ ys) (length xs) 0 < 128 = subst (λ (k : ℕ). k < 128) (sym (at_end xs ys b)) h in
    subst (λ (l : List ℕ). IsUtf8 l) (behind_mark xs ys b) (IsUtf8-drop (xs ++ b ∷ ys) (length xs + 1) u (IsCharBoundary-after_ascii (xs ++ b ∷ ys) (length xs) u (within xs ys b) low))

-- what follows a text
pub after_text : (xs ys : List ℕ) → IsUtf8 xs → IsUtf8 (xs ++ ys) → IsUtf8 ys
after_text xs ys v u =
    let front : IsUtf8 (take (length xs) (xs ++ ys)) = subst (λ (l : List ℕ). IsUtf8 l) (sym (take_at xs ys (length xs) refl)) v in
    let le : length xs ≤ length (xs ++ ys) = omega (arith, length-append xs ys) in
    subst (λ (l : List ℕ). IsUtf8 l) (drop_at xs ys (length xs) refl) (IsUtf8-drop (xs ++ ys) (length xs) u (IsCharBoundary-from_take (xs ++ ys) (length xs) u le front))

-- an ASCII byte
pub one_ascii : (b : ℕ) → b < 128 → IsUtf8 (b ∷ [])
one_ascii b h = IsUtf8-from_ascii (b ∷ []) (each b h)
  where
    each : (b : ℕ) → b < 128 → IsAscii (b ∷ [])
    each b h zero = h
    each b h (suc i) = omega arith
