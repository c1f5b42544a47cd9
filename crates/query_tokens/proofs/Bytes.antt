-- How many bytes the characters of a text have.
use Rattle.std.proofs.Common.{ℕ, zero, suc, zero-add, ◌≡◌, ◌+◌, ◌*◌, ◌<◌, ◌≤◌, List, [], ◌∷◌, ◌++◌, refl, sym, ap, ◌∙◌, take, drop, length, get_or, arith, length-append}
use Rattle.std.specs.Char.{len_utf8}
use Rattle.std.specs.Str.{encode_utf8_all}
use Rattle.std.proofs.lemmas.List.{take_more, append-nil}
use Rattle.std.proofs.Math.Utf8.{encode}
use Rattle.std.proofs.lemmas.Str.{encodes-append, length-encode, len_utf8_bounds}
use Rattle.query_tokens.specs.Pieces.{byte_place}

pub record Counted (xs : List ℕ) (i place : ℕ) : Type 0 where
  pub is : place ≡ length (encode_utf8_all (take i xs))
  pub few : place ≤ 4 * i

pub count_more : (xs : List ℕ) (i place c : ℕ) → i < length xs → c ≡ get_or xs i c → Counted xs i place → Counted xs (i + 1) (place + len_utf8 c)
count_more xs i place c below at h =
    let split : take (i + 1) xs ≡ take i xs ++ c ∷ [] = take_more xs i c below ∙ ap (λ (x : ℕ). take i xs ++ x ∷ []) (sym at) in
    let bytes : encode_utf8_all (take (i + 1) xs) ≡ encode_utf8_all (take i xs) ++ encode_utf8_all (c ∷ []) = ap encode_utf8_all split ∙ encodes-append (take i xs) (c ∷ []) in
    let one : length (encode_utf8_all (c ∷ [])) ≡ len_utf8 c = ap length (append-nil (encode c)) ∙ length-encode c in
    let sum : length (encode_utf8_all (take (i + 1) xs)) ≡ length (encode_utf8_all (take i xs)) + length (encode_utf8_all (c ∷ [])) = ap length bytes ∙ length-append (encode_utf8_all (take i xs)) (encode_utf8_all (c ∷ [])) in
    let few = h.few in
    let is = h.is in
    let bound = len_utf8_bounds c in
    record { is = omega arith; few = omega arith }

take_none : (n : ℕ) → take {A = ℕ} n [] ≡ []
take_none zero = refl
take_none (suc n) = refl

take_both : (xs : List ℕ) (m n : ℕ) → take (m + n) xs ≡ take m xs ++ take n (drop m xs)
take_both xs zero n = ap (λ (k : ℕ). take k xs) (zero-add n)
take_both [] (suc m) n = take_none (suc m + n) ∙ sym (take_none n)
take_both (x ∷ xs) (suc m) n =
    let e : suc m + n ≡ suc (m + n) = omega arith in
    ap (λ (k : ℕ). take k (x ∷ xs)) e ∙ ap (λ (l : List ℕ). x ∷ l) (take_both xs m n)

-- the bytes before a place and those of the characters that follow it
pub byte_place-add : (xs : List ℕ) (m n : ℕ) → byte_place xs (m + n) ≡ byte_place xs m + length (encode_utf8_all (take n (drop m xs)))
byte_place-add xs m n = ap (λ (l : List ℕ). length (encode_utf8_all l)) (take_both xs m n) ∙ ap length (encodes-append (take m xs) (take n (drop m xs))) ∙ length-append (encode_utf8_all (take m xs)) (encode_utf8_all (take n (drop m xs)))

-- the place of the byte past some characters, by what they have
pub to_is : (xs w : List ℕ) (place len at bytes : ℕ) → at ≡ byte_place xs place → w ≡ take len (drop place xs) → bytes ≡ length (encode_utf8_all w) → at + bytes ≡ byte_place xs (place + len)
to_is xs w place len at bytes e f g =
    let there : bytes ≡ length (encode_utf8_all (take len (drop place xs))) = g ∙ ap (λ (l : List ℕ). length (encode_utf8_all l)) f in
    let all = byte_place-add xs place len in
    omega (arith, all, there, e)
