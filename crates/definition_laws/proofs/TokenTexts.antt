-- What the texts of tokens hold: a local part only what an IRI may hold, and a tag a tag.
use Rattle.std.proofs.Common.{ℕ, zero, suc, ◌≡◌, ◌+◌, ◌/◌, ◌%◌, ◌<◌, ◌≤◌, ◌⊎◌, inl, inr, Bool, true, false, cond, not, ◌&&◌, ◌||◌, ◌==◌, nat_lt, nat_le, nat_eq, if◌then◌else◌, List, [], ◌∷◌, ◌++◌, map, drop, ltb, refl, sym, ap, subst, ◌∙◌, arith}
use Rattle.std.specs.List.{list_all}
use Rattle.std.specs.Char.{encode_utf8}
use Rattle.std.specs.Str.{encode_utf8_all}
use Rattle.std.proofs.lemmas.Bool.{and_parts, or_cases, not-true}
use Rattle.list_laws.proofs.Each.{all_joined}
use Rattle.list_laws.proofs.Lists.{tails}
use Rattle.list_laws.proofs.Tests.{all_below, from_all_below, implied, not_both_ways}
use Rattle.regular_expressions.specs.Regular.{is_among, joined, Matches, Each}
use Rattle.rdf_terms.specs.Iri.{is_iri_byte, is_letter}
use Rattle.rdf_terms.specs.Tag.{is_letter_or_digit, may_stand, is_tag, runs_tag}
use Rattle.rdf_terms.proofs.Iris.{high_byte}
use Rattle.rdf_terms.proofs.Tags.{runs_is_tag}
use Rattle.query_tokens.specs.declared.class.Class.{Class}
use Rattle.query_tokens.specs.declared.class.Class.TheVariants as classes
use Rattle.query_tokens.specs.declared.kind.PieceKind.TheVariants as pieces
use Rattle.query_tokens.specs.Classes.{class_of, letter_class, mark_class, wide_class, is_wide_base, is_extending}
use Rattle.query_tokens.specs.Sets.{code, letter, letter_or_digit}
use Rattle.regular_expressions.specs.Combinators.{◌·◌, some}
use Rattle.query_tokens.specs.Forms.{form, any, a, letters, IsToken}
use Rattle.query_words.specs.Texts.{unescaped, local_text, colon}
use Rattle.pattern_parser.proofs.Splits.{only, only_all, among_passes}

-- ---- characters past ASCII

not_letter : (c : ℕ) → 128 ≤ c → is_letter c ≡ false
not_letter c h = grind (arith, h)

wide : (c : ℕ) → 128 ≤ c → class_of c ≡ wide_class c
unfolding class_of
wide c h =
    let x : is_letter c ≡ false = not_letter c h in
    let y : (nat_le 48 c && nat_le c 57) ≡ false = grind (arith, h) in
    let z : nat_le 128 c ≡ true = grind (arith, h) in
    rw (x, y, z) refl

-- ---- bytes of an IRI

abbrev AllIri : List ℕ → Type 0
AllIri bs = list_all is_iri_byte bs ≡ true

all_cons : (b : ℕ) (bs : List ℕ) → is_iri_byte b ≡ true → AllIri bs → AllIri (b ∷ bs)
all_cons b bs h k = rw (h, k) refl

all_high : (b : ℕ) (bs : List ℕ) → 128 ≤ b → AllIri bs → AllIri (b ∷ bs)
all_high b bs h k = all_cons b bs (high_byte b h) k

cond_when : (b : Bool) (x y : List ℕ) → AllIri x → AllIri y → AllIri (cond b x y)
cond_when true x y h k = h
cond_when false x y h k = k

two_bytes : (a b : ℕ) → AllIri ((192 + a) ∷ (128 + b) ∷ [])
two_bytes a b = all_high (192 + a) ((128 + b) ∷ []) (omega arith) (all_high (128 + b) [] (omega arith) refl)

three_bytes : (a b d : ℕ) → AllIri ((224 + a) ∷ (128 + b) ∷ (128 + d) ∷ [])
three_bytes a b d = all_high (224 + a) ((128 + b) ∷ (128 + d) ∷ []) (omega arith) (two_more b d)
  where
    two_more : (b d : ℕ) → AllIri ((128 + b) ∷ (128 + d) ∷ [])
    two_more b d = all_high (128 + b) ((128 + d) ∷ []) (omega arith) (all_high (128 + d) [] (omega arith) refl)

four_bytes : (a b d e : ℕ) → AllIri ((240 + a) ∷ (128 + b) ∷ (128 + d) ∷ (128 + e) ∷ [])
four_bytes a b d e = all_high (240 + a) ((128 + b) ∷ (128 + d) ∷ (128 + e) ∷ []) (omega arith) (all_high (128 + b) ((128 + d) ∷ (128 + e) ∷ []) (omega arith) (all_high (128 + d) ((128 + e) ∷ []) (omega arith) (all_high (128 + e) [] (omega arith) refl)))

all_encoded : (c : ℕ) → is_iri_byte c ≡ true → AllIri (encode_utf8 c)
unfolding encode_utf8
all_encoded c h =
    cond_when (nat_lt c 128) (c ∷ []) _ (all_cons c [] h refl)
    (cond_when (nat_lt c 2048) _ _ (two_bytes (c / 64) (c % 64))
    (cond_when (nat_lt c 65536) _ _ (three_bytes (c / 4096) ((c / 64) % 64) (c % 64))
    (four_bytes (c / 262144) ((c / 4096) % 64) ((c / 64) % 64) (c % 64))))

-- ---- a local part

-- not a class of which an IRI may hold no character, but for the backslash
abbrev is_fine : ℕ → Bool
is_fine j = not (is_among (0 ∷ 1 ∷ 3 ∷ 4 ∷ 5 ∷ 8 ∷ 9 ∷ 10 ∷ 11 ∷ []) j)

abbrev iri_or : ℕ → Bool
iri_or c = is_iri_byte c || ((c == 92) || not (is_fine (code (class_of c))))

low_iri : all_below 128 iri_or ≡ true
unfolding all_below class_of letter_class mark_class
low_iri = refl

char_iri : (c : ℕ) → (c == 92) ≡ false → is_fine (code (class_of c)) ≡ true → is_iri_byte c ≡ true
char_iri c e f = by (ltb c 128) refl
  where
    of_cases : (p q r : Bool) → (p || (q || not r)) ≡ true → q ≡ false → r ≡ true → p ≡ true
    of_cases true q r h a b = refl
    of_cases false true r h a b = cc
    of_cases false false true h a b = cc
    of_cases false false false h a b = cc

    by : (b : Bool) → ltb c 128 ≡ b → is_iri_byte c ≡ true
    by true t = of_cases (is_iri_byte c) (c == 92) (is_fine (code (class_of c))) (from_all_below 128 iri_or low_iri c (grind (arith, t))) e f
    by false t = high_byte c (grind (arith, t))

drop_fine : (p : ℕ → Bool) (n : ℕ) (cs : List ℕ) → list_all p (letters cs) ≡ true → list_all p (letters (drop n cs)) ≡ true
drop_fine p zero cs h = h
drop_fine p (suc n) [] h = h
drop_fine p (suc n) (c ∷ cs) h = drop_fine p n cs (and_parts (p (code (class_of c))) (list_all p (letters cs)) h).1

unescaped_iri : (cs : List ℕ) → list_all is_fine (letters cs) ≡ true → AllIri (encode_utf8_all (unescaped cs))
unescaped_iri [] h = refl
unescaped_iri (c ∷ cs) h =
    let p = and_parts (is_fine (code (class_of c))) (list_all is_fine (letters cs)) h in
    by (c == 92) refl p.0 (unescaped_iri cs p.1)
  where
    by : (b : Bool) → (c == 92) ≡ b → is_fine (code (class_of c)) ≡ true → AllIri (encode_utf8_all (unescaped cs)) → AllIri (encode_utf8_all (unescaped (c ∷ cs)))
    by true e f r =
        let out : unescaped (c ∷ cs) ≡ unescaped cs = rw e refl in
        subst (λ (l : List ℕ). AllIri (encode_utf8_all l)) (sym out) r
    by false e f r =
        let out : unescaped (c ∷ cs) ≡ c ∷ unescaped cs = rw e refl in
        subst (λ (l : List ℕ). AllIri (encode_utf8_all l)) (sym out) (all_joined is_iri_byte (encode_utf8 c) (encode_utf8_all (unescaped cs)) (all_encoded c (char_iri c e f)) r)

name_fine : only is_fine (form pieces.Prefixed) ≡ true
unfolding form
name_fine = refl

-- the local part of a prefixed name holds only what an IRI may hold
pub local_iri : (cs : List ℕ) → IsToken pieces.Prefixed cs → AllIri (local_text cs)
local_iri cs m =
    unescaped_iri (drop (colon cs + 1) cs) (drop_fine is_fine (colon cs + 1) cs (only_all is_fine (form pieces.Prefixed) name_fine (letters cs) m))

-- ---- a tag

-- what may stand in its first part, and in a later one
abbrev set_of : Bool → List Class
set_of true = letter
set_of false = letter_or_digit

abbrev stands : Bool → ℕ → Bool
stands f j = is_among (map code (set_of f)) j

-- a tag from left to right, over the classes of its characters
abbrev run : Bool → Bool → List ℕ → Bool
run f h [] = h
run f h (j ∷ w) = if j == 23 then h && run false false w else (stands f j && run f true w)

no_minus : (f : Bool) (j : ℕ) → stands f j ≡ true → (j == 23) ≡ false
no_minus true j h = not-true (j == 23) (among_passes (λ i. not (i == 23)) (map code letter) j refl h)
no_minus false j h = not-true (j == 23) (among_passes (λ i. not (i == 23)) (map code letter_or_digit) j refl h)

run_one : (f h : Bool) (k : ℕ) (w : List ℕ) → stands f k ≡ true → run f h (k ∷ w) ≡ run f true w
run_one f h k w s = rw (no_minus f k s, s) refl

run_many : (f : Bool) (us : List (List ℕ)) → Each (Matches (any (set_of f))) us → (rest : List ℕ) → run f true (joined us ++ rest) ≡ run f true rest
run_many f [] m rest = refl
run_many f (u ∷ us) m rest =
    let k = m.0.0 in
    ap (λ (l : List ℕ). run f true ((l ++ joined us) ++ rest)) m.0.2 ∙ run_one f true k (joined us ++ rest) m.0.1 ∙ run_many f us m.1 rest

run_some : (f h : Bool) (u rest : List ℕ) → Matches (some (any (set_of f))) u → run f h (u ++ rest) ≡ run f true rest
run_some f h u rest m =
    let k = m.2.0 in
    let us = m.3.0 in
    let there : u ≡ k ∷ joined us = m.4 ∙ ap (λ (l : List ℕ). l ++ m.1) m.2.2 ∙ ap (λ (l : List ℕ). k ∷ l) m.3.2 in
    ap (λ (l : List ℕ). run f h (l ++ rest)) there ∙ run_one f h k (joined us ++ rest) m.2.1 ∙ run_many f us m.3.1 rest

is_minus : (k : ℕ) → is_among (23 ∷ []) k ≡ true → (k == 23) ≡ true
is_minus k h = pick (or_cases (nat_eq 23 k) false h)
  where
    pick : (nat_eq 23 k ≡ true) ⊎ (false ≡ true) → (k == 23) ≡ true
    pick (inl e) = grind (arith, e)
    pick (inr e) = cc

run_groups : (f : Bool) (us : List (List ℕ)) → Each (Matches (a classes.Minus · some (any letter_or_digit))) us → run f true (joined us) ≡ true
run_groups f [] m = refl
run_groups f (u ∷ us) m =
    let k = m.0.2.0 in
    let y = m.0.1 in
    let there : u ≡ k ∷ y = m.0.4 ∙ ap (λ (l : List ℕ). l ++ y) m.0.2.2 in
    let minus : run f true (k ∷ (y ++ joined us)) ≡ run false false (y ++ joined us) = rw (is_minus k m.0.2.1) refl in
    ap (λ (l : List ℕ). run f true (l ++ joined us)) there ∙ minus ∙ run_some false false y (joined us) m.0.3 ∙ run_groups false us m.1

tag_run : (w : List ℕ) → Matches (form pieces.Tag) w → (k : ℕ) × (v : List ℕ) × (w ≡ k ∷ v) × (run true false v ≡ true)
unfolding form
tag_run w m =
    let k = m.2.2.0 in
    let z = m.2.1 in
    let us = m.3.0 in
    let front : m.0 ≡ k ∷ z = m.2.4 ∙ ap (λ (l : List ℕ). l ++ z) m.2.2.2 in
    let all : w ≡ k ∷ (z ++ joined us) = m.4 ∙ ap (λ (l : List ℕ). l ++ m.1) front ∙ ap (λ (l : List ℕ). k ∷ (z ++ l)) m.3.2 in
    (k, z ++ joined us, all, run_some true false z (joined us) m.2.3 ∙ run_groups true us m.3.1)

-- the classes of ASCII say which characters may stand in a tag
abbrev same : Bool → Bool → Bool
same true b = b
same false b = not b

abbrev agrees : ℕ → Bool
agrees c = same (code (class_of c) == 23) (c == 45) && ((not (stands true (code (class_of c))) || is_letter c) && (not (stands false (code (class_of c))) || is_letter_or_digit c))

low_tag : all_below 128 agrees ≡ true
unfolding all_below class_of letter_class mark_class
low_tag = refl

wide_code : (P : ℕ → Type 0) (c : ℕ) → P 30 → P 31 → P 32 → P (code (wide_class c))
wide_code P c x y z = pick (is_wide_base c) (is_extending c)
  where
    pick : (b d : Bool) → P (code (if b then classes.Base else (if d then classes.Extending else classes.Other)))
    pick true d = x
    pick false true = y
    pick false false = z

high_no_minus : (c : ℕ) → 128 ≤ c → (code (class_of c) == 23) ≡ false
high_no_minus c h = ap (λ (k : Class). code k == 23) (wide c h) ∙ wide_code (λ (j : ℕ). (j == 23) ≡ false) c refl refl refl

high_no_stand : (f : Bool) (c : ℕ) → 128 ≤ c → stands f (code (class_of c)) ≡ false
high_no_stand true c h = ap (λ (k : Class). stands true (code k)) (wide c h) ∙ wide_code (λ (j : ℕ). stands true j ≡ false) c refl refl refl
high_no_stand false c h = ap (λ (k : Class). stands false (code k)) (wide c h) ∙ wide_code (λ (j : ℕ). stands false j ≡ false) c refl refl refl

one_byte : (c : ℕ) → c < 128 → encode_utf8 c ≡ c ∷ []
unfolding encode_utf8
one_byte c h = let t : nat_lt c 128 ≡ true = grind (arith, h) in rw t refl

same_is : (p q b : Bool) → same p q ≡ true → p ≡ b → q ≡ b
same_is true q b h e = h ∙ e
same_is false q b h e = not-true q h ∙ e

tag_minus : (c : ℕ) (b : Bool) → c < 128 → (code (class_of c) == 23) ≡ b → (c == 45) ≡ b
tag_minus c b l e =
    let j = code (class_of c) in
    let h = and_parts (same (j == 23) (c == 45)) ((not (stands true j) || is_letter c) && (not (stands false j) || is_letter_or_digit c)) (from_all_below 128 agrees low_tag c l) in
    same_is (j == 23) (c == 45) b h.0 e

tag_stands : (f : Bool) (c : ℕ) → c < 128 → stands f (code (class_of c)) ≡ true → may_stand f c ≡ true
tag_stands f c l e =
    let j = code (class_of c) in
    let h = and_parts (same (j == 23) (c == 45)) ((not (stands true j) || is_letter c) && (not (stands false j) || is_letter_or_digit c)) (from_all_below 128 agrees low_tag c l) in
    let p = and_parts (not (stands true j) || is_letter c) (not (stands false j) || is_letter_or_digit c) h.1 in
    pick f p.0 p.1 e
  where
    pick : (f : Bool) → (not (stands true (code (class_of c))) || is_letter c) ≡ true → (not (stands false (code (class_of c))) || is_letter_or_digit c) ≡ true → stands f (code (class_of c)) ≡ true → may_stand f c ≡ true
    pick true x y e = implied (stands true (code (class_of c))) (is_letter c) x e
    pick false x y e = implied (stands false (code (class_of c))) (is_letter_or_digit c) y e

low_char : (f : Bool) (c : ℕ) (b : Bool) → (code (class_of c) == 23) ≡ b → (b ≡ false → stands f (code (class_of c)) ≡ true) → c < 128
low_char f c b e s = by (ltb c 128) refl
  where
    high : (b : Bool) → (code (class_of c) == 23) ≡ b → (b ≡ false → stands f (code (class_of c)) ≡ true) → 128 ≤ c → ⊥
    high true e s h = not_both_ways (code (class_of c) == 23) e (high_no_minus c h)
    high false e s h = not_both_ways (stands f (code (class_of c))) (s refl) (high_no_stand f c h)

    by : (t : Bool) → ltb c 128 ≡ t → c < 128
    by true t = grind (arith, t)
    by false t = absurd (high b e s (grind (arith, t)))

text_run : (f h : Bool) (cs : List ℕ) → run f h (letters cs) ≡ true → runs_tag f h (encode_utf8_all cs) ≡ true
text_run f h [] e = e
text_run f h (c ∷ cs) e = by (λ k. text_run false false cs k) (λ k. text_run f true cs k) (code (class_of c) == 23) refl e
  where
    by : (run false false (letters cs) ≡ true → runs_tag false false (encode_utf8_all cs) ≡ true) → (run f true (letters cs) ≡ true → runs_tag f true (encode_utf8_all cs) ≡ true) → (b : Bool) → (code (class_of c) == 23) ≡ b → (if b then h && run false false (letters cs) else (stands f (code (class_of c)) && run f true (letters cs))) ≡ true → runs_tag f h (encode_utf8_all (c ∷ cs)) ≡ true
    by later more true t r =
        let p = and_parts h (run false false (letters cs)) r in
        let low : c < 128 = low_char f c true t (λ x. absurd (not_both_ways true refl x)) in
        ap (λ (l : List ℕ). runs_tag f h (l ++ encode_utf8_all cs)) (one_byte c low) ∙ rw (tag_minus c true low t, p.0, later p.1) refl
    by later more false t r =
        let p = and_parts (stands f (code (class_of c))) (run f true (letters cs)) r in
        let low : c < 128 = low_char f c false t (λ x. p.0) in
        ap (λ (l : List ℕ). runs_tag f h (l ++ encode_utf8_all cs)) (one_byte c low) ∙ rw (tag_minus c false low t, tag_stands f c low p.0, more p.1) refl

-- a tag without its mark is a tag
pub tag_is : (cs : List ℕ) → IsToken pieces.Tag cs → is_tag (encode_utf8_all (drop 1 cs)) ≡ true
tag_is cs m = let r = tag_run (letters cs) m in sym (runs_is_tag (encode_utf8_all (drop 1 cs))) ∙ text_run true false (drop 1 cs) (first cs r.0 r.1 r.2 r.3)
  where
    none : (k : ℕ) (v : List ℕ) → [] ≡ k ∷ v → ⊥
    none k v e = cc

    first : (cs : List ℕ) (k : ℕ) (v : List ℕ) → letters cs ≡ k ∷ v → run true false v ≡ true → run true false (letters (drop 1 cs)) ≡ true
    first [] k v e r = absurd (none k v e)
    first (c ∷ cs) k v e r = ap (run true false) (tails (code (class_of c)) k (letters cs) v e) ∙ r
