-- Names and values as they are written in an address, read again.
use Rattle.std.proofs.Common.{◌≡◌, ◌≢◌, ℕ, ◌+◌, ◌/◌, ◌<◌, List, [], ◌∷◌, ◌++◌, true, false, cond, ltb, length, Option, Some, None, refl, sym, ap, ◌∙◌, subst, arith, append-nil, length-append, All}
use Rattle.std.specs.List.{AllByRecursion}
use Rattle.std.specs.Str.{IsUtf8}
use Rattle.std.specs.Str.Lossy.{utf8_lossy}
use Rattle.std.proofs.lemmas.Bool.{cond_both, false≢true}
use Rattle.std.proofs.lemmas.Bool.Decides.{nat_tests}
use Rattle.std.proofs.lemmas.Str.{utf8_lossy-IsUtf8}
use Rattle.std.proofs.lemmas.List.Elements.{All-nil, All-cons, All-append}
use Rattle.list_laws.proofs.Tests.{and_first, and_second}
use lib.Utf8.{scalar, scalars, next, encode, encodes}
use Rattle.percent_encoding.specs.Percent.{percent_decode}
use Rattle.percent_encoding.specs.AsciiSet.{should_percent_encode}
use Rattle.percent_encoding.proofs.PercentLemmas.{IsByte, All-percent_encode, round_trip}
use Rattle.form_urlencoded.specs.Form.{raw_pairs, split_pair, split_once, decode}
use Rattle.form_urlencoded.proofs.FormLemmas.{map-plus_to_space, raw_pairs-nil, raw_pairs_first, split_once_before_at, split_once_after_at, split_once_before_none, split_once_after_none}
use Rattle.template_fill.specs.Values.{encoded_value}
use Rattle.template_fill.specs.Answers.{form_text}
use Rattle.template_fill.specs.declared.value.TheConstants.{VALUE}
use Rattle.template_fill.proofs.Values.{same_text}

-- ---- bytes of a text

encode_bytes : (c : ℕ) → c < 1114112 → All IsByte (encode c)
unfolding encode
encode_bytes c small =
    let none = All-nil IsByte in
    let last : next c < 256 = omega arith in
    let third : next (c / 64) < 256 = omega arith in
    let second : next (c / 4096) < 256 = omega arith in
    cond_both (ltb c 128) (c ∷ []) (cond (ltb c 2048) ((192 + c / 64) ∷ next c ∷ []) (cond (ltb c 65536) ((224 + c / 4096) ∷ next (c / 64) ∷ next c ∷ []) ((240 + c / 262144) ∷ next (c / 4096) ∷ next (c / 64) ∷ next c ∷ []))) (All IsByte)
    (λ below. All-cons IsByte c [] (grind (arith, nat_tests)) none)
    (λ _. cond_both (ltb c 2048) ((192 + c / 64) ∷ next c ∷ []) (cond (ltb c 65536) ((224 + c / 4096) ∷ next (c / 64) ∷ next c ∷ []) ((240 + c / 262144) ∷ next (c / 4096) ∷ next (c / 64) ∷ next c ∷ [])) (All IsByte)
    (λ below. All-cons IsByte (192 + c / 64) (next c ∷ []) (grind (arith, nat_tests)) (All-cons IsByte (next c) [] last none))
    (λ _. cond_both (ltb c 65536) ((224 + c / 4096) ∷ next (c / 64) ∷ next c ∷ []) ((240 + c / 262144) ∷ next (c / 4096) ∷ next (c / 64) ∷ next c ∷ []) (All IsByte)
    (λ below. All-cons IsByte (224 + c / 4096) (next (c / 64) ∷ next c ∷ []) (grind (arith, nat_tests)) (All-cons IsByte (next (c / 64)) (next c ∷ []) third (All-cons IsByte (next c) [] last none)))
    (λ _. All-cons IsByte (240 + c / 262144) (next (c / 4096) ∷ next (c / 64) ∷ next c ∷ []) (omega arith) (All-cons IsByte (next (c / 4096)) (next (c / 64) ∷ next c ∷ []) second (All-cons IsByte (next (c / 64)) (next c ∷ []) third (All-cons IsByte (next c) [] last none))))))

scalar_below : (c : ℕ) → scalar c ≡ true → c < 1114112
scalar_below c is = grind (arith, nat_tests)

encodes_bytes : (cs : List ℕ) → scalars cs ≡ true → All IsByte (encodes cs)
encodes_bytes [] is = All-nil IsByte
encodes_bytes (c ∷ cs) is =
    All-append IsByte (encode c) (encodes cs) (encode_bytes c (scalar_below c (and_first (scalar c) (scalars cs) is))) (encodes_bytes cs (and_second (scalar c) (scalars cs) is))

pub utf8_bytes : (text : List ℕ) → IsUtf8 text → All IsByte text
utf8_bytes text is = subst (All IsByte) is.1.1 (encodes_bytes is.0 is.1.0)

-- ---- values

-- no byte that is encoded stands for itself
apart : (mark b : ℕ) → should_percent_encode VALUE mark ≡ true → should_percent_encode VALUE b ≡ false → b ≢ mark
apart mark b own is same = false≢true (sym is ∙ ap (should_percent_encode VALUE) same ∙ own)

pub plus_apart : (text : List ℕ) → All IsByte text → All (λ b. b ≢ 43) (encoded_value text)
unfolding should_percent_encode
plus_apart text small =
    subst (All (λ b. b ≢ 43)) (same_text text small) (All-percent_encode (λ b. b ≢ 43) VALUE text (λ b is. apart 43 b refl is) (λ b digit same. grind arith))

pub ampersand_apart : (text : List ℕ) → All IsByte text → All (λ b. b ≢ 38) (encoded_value text)
unfolding should_percent_encode
ampersand_apart text small =
    subst (All (λ b. b ≢ 38)) (same_text text small) (All-percent_encode (λ b. b ≢ 38) VALUE text (λ b is. apart 38 b refl is) (λ b digit same. grind arith))

decode_value : (text : List ℕ) → All IsByte text → decode (encoded_value text) ≡ text
unfolding should_percent_encode
decode_value text small =
    ap (λ (bytes : List ℕ). percent_decode bytes) (map-plus_to_space (encoded_value text) (plus_apart text small))
    ∙ ap (λ (bytes : List ℕ). percent_decode bytes) (sym (same_text text small))
    ∙ round_trip VALUE text refl small

-- a value that is written is read as it was
pub value_reads : (text : List ℕ) → IsUtf8 text → form_text (encoded_value text) ≡ text
value_reads text is = ap utf8_lossy (decode_value text (utf8_bytes text is)) ∙ utf8_lossy-IsUtf8 text is

-- ---- pairs

-- the name, =, and the value as it is written
abbrev pub pair_bytes : List ℕ × List ℕ → List ℕ
pair_bytes pair = pair.0 ++ 61 ∷ pair.1

-- pairs, the first after this mark and each other after &
abbrev pub marked : ℕ → List (List ℕ × List ℕ) → List ℕ
marked mark [] = []
marked mark (pair ∷ pairs) = mark ∷ (pair_bytes pair ++ marked 38 pairs)

-- what follows the first mark, where there is one
abbrev pub behind_mark : List (List ℕ × List ℕ) → Option (List ℕ)
behind_mark [] = None
behind_mark (pair ∷ pairs) = Some (pair_bytes pair ++ marked 38 pairs)

-- neither part is cut
pub record IsWhole (pair : List ℕ × List ℕ) : Type 0 where
  pub name : All (λ b. b ≢ 38) pair.0
  pub equals : All (λ b. b ≢ 61) pair.0
  pub value : All (λ b. b ≢ 38) pair.1

no_ampersand : (pair : List ℕ × List ℕ) → IsWhole pair → All (λ b. b ≢ 38) (pair_bytes pair)
no_ampersand pair whole =
    All-append (λ b. b ≢ 38) pair.0 (61 ∷ pair.1) whole.name (All-cons (λ b. b ≢ 38) 61 pair.1 (λ same. omega arith) whole.value)

pair_splits : (pair : List ℕ × List ℕ) → IsWhole pair → split_pair (pair_bytes pair) ≡ pair
pair_splits pair whole = λ i. (split_once_before_at 61 pair.0 pair.1 whole.equals i, split_once_after_at 61 pair.0 pair.1 whole.equals i)

some_bytes : (pair : List ℕ × List ℕ) → 0 < length (pair_bytes pair)
some_bytes pair = simp length-append (omega arith)

first_pair : (bytes rest : List ℕ) (pair : List ℕ × List ℕ) → IsWhole pair → (split_once 38 bytes).0 ≡ pair_bytes pair → (split_once 38 bytes).1 ≡ rest → raw_pairs bytes ≡ pair ∷ raw_pairs rest
first_pair bytes rest pair whole front behind =
    raw_pairs_first bytes (subst (λ (x : List ℕ). 0 < length x) (sym front) (some_bytes pair))
    ∙ (λ i. (ap split_pair front ∙ pair_splits pair whole) i ∷ raw_pairs (behind i))

-- the pairs of what follows the first mark
pub pairs_read : (pair : List ℕ × List ℕ) (pairs : List (List ℕ × List ℕ)) → IsWhole pair → AllByRecursion IsWhole pairs → raw_pairs (pair_bytes pair ++ marked 38 pairs) ≡ pair ∷ pairs
pairs_read pair [] whole others =
    let none = no_ampersand pair whole in
    ap raw_pairs (append-nil (pair_bytes pair))
    ∙ first_pair (pair_bytes pair) [] pair whole (split_once_before_none 38 (pair_bytes pair) none) (split_once_after_none 38 (pair_bytes pair) none)
    ∙ ap (λ (more : List (List ℕ × List ℕ)). pair ∷ more) raw_pairs-nil
pairs_read pair (other ∷ pairs) whole others =
    let none = no_ampersand pair whole in
    let rest : List ℕ = pair_bytes other ++ marked 38 pairs in
    first_pair (pair_bytes pair ++ 38 ∷ rest) rest pair whole (split_once_before_at 38 (pair_bytes pair) rest none) (split_once_after_at 38 (pair_bytes pair) rest none)
    ∙ ap (λ (more : List (List ℕ × List ℕ)). pair ∷ more) (pairs_read other pairs others.0 others.1)
