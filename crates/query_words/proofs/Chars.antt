-- Characters, their bytes, and words in any case.
use Rattle.std.proofs.Common.{ℕ, ◌≡◌, ◌<◌, ◌≤◌, true, false, List, sym, ap, subst, ◌∙◌, map, take, length, get_or, arith}
use Rattle.std.specs.Char.{to_ascii_lowercase}
use Rattle.std.specs.Str.{bytes_eq, chars, IsUtf8}
use Rattle.std.proofs.lemmas.List.{take_all}
use Rattle.std.proofs.Math.ListN.{get_or-map}
use Rattle.std.proofs.lemmas.Str.{length-le-encodes, encodes-chars}
use Rattle.std.proofs.lemmas.Slice.Eq.{bytes_eq-Decides}
use Rattle.std.proofs.lemmas.Bool.{false_from_ne_true}
use Rattle.list_laws.proofs.Places.{any_default}
use Rattle.query_words.specs.Texts.{same_word}

-- the first i characters are those of the word, in any case
pub record SameSoFar (word text : List ℕ) (i : ℕ) : Type 0 where
  pub same : map to_ascii_lowercase (take i text) ≡ take i word

pub same_all : (word text : List ℕ) (i : ℕ) → length text ≤ i → length word ≤ i → SameSoFar word text i → same_word word text ≡ true
unfolding same_word
same_all word text i a b h =
    let e : map to_ascii_lowercase text ≡ word = ap (map to_ascii_lowercase) (sym (take_all i text a)) ∙ h.same ∙ take_all i word b in
    (bytes_eq-Decides (map to_ascii_lowercase text) word).1 e

pub differ_at : (word text : List ℕ) (i c d : ℕ) → i < length text → length word ≡ length text → c ≡ get_or text i c → (to_ascii_lowercase c ≡ get_or word i d → ⊥) → same_word word text ≡ false
unfolding same_word
differ_at word text i c d below long at h =
    false_from_ne_true (bytes_eq (map to_ascii_lowercase text) word) (λ e.
    let same : map to_ascii_lowercase text ≡ word = (bytes_eq-Decides (map to_ascii_lowercase text) word).0 e in
    let there : get_or word i (to_ascii_lowercase c) ≡ to_ascii_lowercase (get_or text i c) = ap (λ (l : List ℕ). get_or l i (to_ascii_lowercase c)) (sym same) ∙ get_or-map to_ascii_lowercase text i c in
    let under : i < length word = omega arith in
    h (ap to_ascii_lowercase at ∙ sym there ∙ any_default word i (to_ascii_lowercase c) d under))

-- a text has no more characters than bytes
pub no_more_chars : (bs cs : List ℕ) (n : ℕ) → IsUtf8 bs → cs ≡ chars bs → length bs ≤ n → length cs ≤ n
no_more_chars bs cs n u e h =
    let a : length (chars bs) ≤ length bs = subst (λ (l : List ℕ). length (chars bs) ≤ length l) (encodes-chars bs u) (length-le-encodes (chars bs)) in
    let b : length cs ≡ length (chars bs) = ap length e in
    omega arith
