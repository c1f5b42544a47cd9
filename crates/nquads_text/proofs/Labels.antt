-- Labels and tags: the reader and the grammar agree.
use Rattle.std.proofs.Common.{ℕ, suc, ◌≡◌, ◌+◌, ◌-◌, ◌/◌, ◌%◌, ◌<◌, ◌≤◌, Bool, cond, if◌then◌else◌, true, false, not, ◌&&◌, ◌||◌, List, [], ◌∷◌, ◌++◌, length, take, drop, slice_index, Some, nat_eq, nat_lt, nat_le, refl, ap, sym, subst, ◌∙◌, arith, append_assoc, length-append}
use Rattle.std.specs.List.{list_all}
use Rattle.std.specs.Char.{encode_utf8}
use Rattle.std.specs.Str.{IsUtf8, is_utf8, chars, encode_utf8_all}
use Rattle.std.proofs.lemmas.List.{take_at, drop_at, length-take}
use Rattle.std.proofs.lemmas.Str.{IsUtf8-from_is_utf8, encodes-chars}
use Rattle.std.proofs.lemmas.Bool.{and_parts, not-true}
use Rattle.list_laws.proofs.Options.{bind_some, when_some}
use Rattle.list_laws.specs.Options.{when, ◌>>=◌}
use Rattle.rdf_terms.specs.Iri.{is_digit, is_between}
use Rattle.rdf_terms.specs.Label.{is_label, is_base, is_label_char, begins_label, are_label_chars, ends_in_dot}
use Rattle.rdf_terms.specs.Tag.{is_tag}
use Rattle.nquads_text.specs.Scan.{opened, is_label_byte, label_len, is_tag_byte, tag_len}
use Rattle.nquads_text.specs.Raw.{label_part, tag_part}
use Rattle.nquads_text.specs.Grammar.{ReadsLabel, ReadsTag}
use Rattle.nquads_text.proofs.TagTexts.{tag_bytes}
use Rattle.nquads_text.proofs.Items.{opened_some, take_drop}

-- ---- what a label is made of

pub record LabelParts (bytes : List ℕ) : Type 0 where
  pub utf8 : IsUtf8 bytes
  pub begins : begins_label (chars bytes) ≡ true
  pub each : are_label_chars (chars bytes) ≡ true
  pub last : ends_in_dot bytes ≡ false

pub label_parts : (bytes : List ℕ) → is_label bytes ≡ true → LabelParts bytes
unfolding is_label
label_parts bytes h =
    let a = and_parts ((is_utf8 bytes && begins_label (chars bytes)) && are_label_chars (chars bytes)) (not (ends_in_dot bytes)) h in
    let b = and_parts (is_utf8 bytes && begins_label (chars bytes)) (are_label_chars (chars bytes)) a.0 in
    let d = and_parts (is_utf8 bytes) (begins_label (chars bytes)) b.0 in
    record { utf8 = IsUtf8-from_is_utf8 bytes d.0; begins = d.1; each = b.1; last = not-true (ends_in_dot bytes) a.1 }

-- a byte of a run that may be a label
abbrev pub is_run_byte : ℕ → Bool
is_run_byte b = is_label_byte b || nat_eq b 46

abbrev pub all_run : List ℕ → Type 0
all_run bs = list_all is_run_byte bs ≡ true

run_append : (xs ys : List ℕ) → all_run xs → all_run ys → all_run (xs ++ ys)
run_append [] ys h k = k
run_append (x ∷ xs) ys h k = let p = and_parts (is_run_byte x) (list_all is_run_byte xs) h in rw (p.0, run_append xs ys p.1 k) refl

run_cons : (b : ℕ) (bs : List ℕ) → is_run_byte b ≡ true → all_run bs → all_run (b ∷ bs)
run_cons b bs h k = rw (h, k) refl

high_run : (b : ℕ) → 128 ≤ b → is_run_byte b ≡ true
high_run b h = grind arith

run_high : (b : ℕ) (bs : List ℕ) → 128 ≤ b → all_run bs → all_run (b ∷ bs)
run_high b bs h k = run_cons b bs (high_run b h) k

cond_run : (b : Bool) (x y : List ℕ) → all_run x → all_run y → all_run (cond b x y)
cond_run true x y h k = h
cond_run false x y h k = k

two_bytes : (a b : ℕ) → all_run ((192 + a) ∷ (128 + b) ∷ [])
two_bytes a b = run_high (192 + a) ((128 + b) ∷ []) (omega arith) (run_high (128 + b) [] (omega arith) refl)

three_bytes : (a b d : ℕ) → all_run ((224 + a) ∷ (128 + b) ∷ (128 + d) ∷ [])
three_bytes a b d = run_high (224 + a) ((128 + b) ∷ (128 + d) ∷ []) (omega arith) (run_high (128 + b) ((128 + d) ∷ []) (omega arith) (run_high (128 + d) [] (omega arith) refl))

four_bytes : (a b d e : ℕ) → all_run ((240 + a) ∷ (128 + b) ∷ (128 + d) ∷ (128 + e) ∷ [])
four_bytes a b d e = run_high (240 + a) ((128 + b) ∷ (128 + d) ∷ (128 + e) ∷ []) (omega arith) (run_high (128 + b) ((128 + d) ∷ (128 + e) ∷ []) (omega arith) (run_high (128 + d) ((128 + e) ∷ []) (omega arith) (run_high (128 + e) [] (omega arith) refl)))

-- a test that only bytes of runs pass
abbrev Runs : ℕ → Bool → Type 0
Runs c test = test ≡ true → is_run_byte c ≡ true

if_or : (c : ℕ) {a b : Bool} → Runs c a → Runs c b → Runs c (a || b)
if_or c {a} {b} f g h = by a f h
  where
    by : (a : Bool) → Runs c a → (a || b) ≡ true → is_run_byte c ≡ true
    by true f h = f refl
    by false f h = g h

range_run : (low high c : ℕ) → 128 ≤ low → Runs c (is_between low high c)
range_run low high c h k = high_run c (let le = and_parts (nat_le low c) (nat_le c high) k in reaches low c h le.0)
  where
    reaches : (low c : ℕ) → 128 ≤ low → nat_le low c ≡ true → 128 ≤ c
    reaches low c h k = grind (arith, h, k)

upper_run : (c : ℕ) → Runs c (is_between 65 90 c)
upper_run c h = grind (arith, h)

lower_run : (c : ℕ) → Runs c (is_between 97 122 c)
lower_run c h = grind (arith, h)

digit_run : (c : ℕ) → Runs c (is_digit c)
digit_run c h = grind (arith, h)

other_run : (c : ℕ) → (Runs c (nat_eq c 95) × Runs c (nat_eq c 58)) × (Runs c (nat_eq c 45) × Runs c (nat_eq c 46))
other_run c = ((λ h. grind (arith, h), λ h. grind (arith, h)), (λ h. grind (arith, h), λ h. grind (arith, h)))

middle_run : (c : ℕ) → Runs c (nat_eq c 0xB7)
middle_run c h = high_run c (grind (arith, h))

base_run : (c : ℕ) → Runs c (is_base c)
base_run c = if_or c (if_or c (if_or c (if_or c (if_or c (if_or c (if_or c (if_or c (if_or c (if_or c (if_or c (if_or c (if_or c (upper_run c) (lower_run c)) (range_run 0xC0 0xD6 c (omega arith))) (range_run 0xD8 0xF6 c (omega arith))) (range_run 0xF8 0x2FF c (omega arith))) (range_run 0x370 0x37D c (omega arith))) (range_run 0x37F 0x1FFF c (omega arith))) (range_run 0x200C 0x200D c (omega arith))) (range_run 0x2070 0x218F c (omega arith))) (range_run 0x2C00 0x2FEF c (omega arith))) (range_run 0x3001 0xD7FF c (omega arith))) (range_run 0xF900 0xFDCF c (omega arith))) (range_run 0xFDF0 0xFFFD c (omega arith))) (range_run 0x10000 0xEFFFF c (omega arith))

char_run : (c : ℕ) → Runs c (is_label_char c || nat_eq c 46)
char_run c =
    if_or c (if_or c (if_or c (if_or c (if_or c (if_or c (if_or c (if_or c (base_run c) (other_run c).0.0) (other_run c).0.1) (other_run c).1.0) (digit_run c)) (middle_run c)) (range_run 0x300 0x36F c (omega arith))) (range_run 0x203F 0x2040 c (omega arith))) (other_run c).1.1

encoded_run : (c : ℕ) → (is_label_char c || nat_eq c 46) ≡ true → all_run (encode_utf8 c)
unfolding encode_utf8
encoded_run c h =
    cond_run (nat_lt c 128) (c ∷ []) _ (run_cons c [] (char_run c h) refl)
    (cond_run (nat_lt c 2048) _ _ (two_bytes (c / 64) (c % 64))
    (cond_run (nat_lt c 65536) _ _ (three_bytes (c / 4096) ((c / 64) % 64) (c % 64))
    (four_bytes (c / 262144) ((c / 4096) % 64) ((c / 64) % 64) (c % 64))))

chars_run : (cs : List ℕ) → are_label_chars cs ≡ true → all_run (encode_utf8_all cs)
chars_run [] h = refl
chars_run (c ∷ cs) h =
    let p = and_parts (is_label_char c || nat_eq c 46) (are_label_chars cs) h in
    run_append (encode_utf8 c) (encode_utf8_all cs) (encoded_run c p.0) (chars_run cs p.1)

pub label_run : (bytes : List ℕ) → LabelParts bytes → all_run bytes
label_run bytes p = subst (λ (l : List ℕ). all_run l) (encodes-chars bytes p.utf8) (chars_run (chars bytes) p.each)

no_label : LabelParts [] → ⊥
unfolding chars
no_label p = cc

-- ---- how far a label reaches

last_more : (b c : ℕ) (cs : List ℕ) → ends_in_dot (b ∷ c ∷ cs) ≡ ends_in_dot (c ∷ cs)
last_more b c cs =
    let e : length (b ∷ c ∷ cs) - 1 ≡ suc (length cs) = omega arith in
    let f : length (c ∷ cs) - 1 ≡ length cs = omega arith in
    ap (λ (k : ℕ). nat_eq (slice_index (b ∷ c ∷ cs) k) 46) e ∙ sym (ap (λ (k : ℕ). nat_eq (slice_index (c ∷ cs) k) 46) f)

label_byte : (x y : Bool) → (x || y) ≡ true → y ≡ false → x ≡ true
label_byte true y h k = refl
label_byte false y h k = cc

run_on : (dot : Bool) (b e i : ℕ) (rest : List ℕ) (m : ℕ) → nat_eq b 46 ≡ dot → is_run_byte b ≡ true → ((x : ℕ) → label_len x (i + 1) rest ≡ m) → label_len e i (b ∷ rest) ≡ m
run_on true b e i rest m d h k = rw d (k e)
run_on false b e i rest m d h k = let l : is_label_byte b ≡ true = label_byte (is_label_byte b) (nat_eq b 46) h d in rw (d, l) (k (i + 1))

run_len : (bs r : List ℕ) (e i : ℕ) → all_run bs → 0 < length bs → ends_in_dot bs ≡ false → label_len e i (bs ++ r) ≡ label_len (i + length bs) (i + length bs) r
run_len [] r e i h l d = absurd (omega arith)
run_len (b ∷ []) r e i h l d =
    let p = and_parts (is_run_byte b) true h in
    let no_dot : nat_eq b 46 ≡ false = d in
    let one : is_label_byte b ≡ true = label_byte (is_label_byte b) (nat_eq b 46) p.0 no_dot in
    rw (no_dot, one) refl
run_len (b ∷ c ∷ cs) r e i h l d =
    let p = and_parts (is_run_byte b) (list_all is_run_byte (c ∷ cs)) h in
    let place : (i + 1) + length (c ∷ cs) ≡ i + length (b ∷ c ∷ cs) = omega arith in
    let whole : (x : ℕ) → label_len x (i + 1) ((c ∷ cs) ++ r) ≡ label_len (i + length (b ∷ c ∷ cs)) (i + length (b ∷ c ∷ cs)) r = λ x. run_len (c ∷ cs) r x (i + 1) p.1 (omega arith) (sym (last_more b c cs) ∙ d) ∙ ap (λ (k : ℕ). label_len k k r) place in
    run_on (nat_eq b 46) b e i ((c ∷ cs) ++ r) (label_len (i + length (b ∷ c ∷ cs)) (i + length (b ∷ c ∷ cs)) r) refl p.0 whole

-- a run of label bytes goes no further here
abbrev pub Stops : List ℕ → Type 0
Stops rest = (e i : ℕ) → label_len e i rest ≡ e

some_bytes : (bytes : List ℕ) → LabelParts bytes → 0 < length bytes
some_bytes [] p = absurd (no_label p)
some_bytes (b ∷ bs) p = omega arith

pub label_at : (bytes label rest : List ℕ) → ReadsLabel bytes label rest → Stops rest → label_part bytes ≡ Some (label, rest)
unfolding label_part
label_at bytes label rest r s =
    let parts = label_parts label r.is_one in
    let n : label_len 0 0 (label ++ rest) ≡ 0 + length label = run_len label rest 0 0 (label_run label parts) (some_bytes label parts) parts.last ∙ s (0 + length label) (0 + length label) in
    let n_is : label_len 0 0 (label ++ rest) ≡ length label = n ∙ (let same : 0 + length label ≡ length label = omega arith in same) in
    let front : take (length label) (label ++ rest) ≡ label = take_at label rest (length label) refl in
    let back : drop (length label) (label ++ rest) ≡ rest = drop_at label rest (length label) refl in
    let one : is_label label ≡ true = r.is_one in
    let at : label_part (95 ∷ 58 ∷ (label ++ rest)) ≡ Some (label, rest) = rw (n_is, front, back, one) refl in
    subst (λ (l : List ℕ). label_part l ≡ Some (label, rest)) (sym r.written) at

len_bounds : (bs : List ℕ) (e i : ℕ) → e ≤ i → (e ≤ label_len e i bs) × (label_len e i bs ≤ i + length bs)
len_bounds [] e i h = (omega arith, omega arith)
len_bounds (b ∷ bs) e i h = by (nat_eq b 46) (is_label_byte b) (len_bounds bs e (i + 1) (omega arith)) (len_bounds bs (i + 1) (i + 1) (omega arith))
  where
    by : (dot run : Bool) → (e ≤ label_len e (i + 1) bs) × (label_len e (i + 1) bs ≤ (i + 1) + length bs) → (i + 1 ≤ label_len (i + 1) (i + 1) bs) × (label_len (i + 1) (i + 1) bs ≤ (i + 1) + length bs)
        → (e ≤ (if dot then label_len e (i + 1) bs else (if run then label_len (i + 1) (i + 1) bs else e))) × ((if dot then label_len e (i + 1) bs else (if run then label_len (i + 1) (i + 1) bs else e)) ≤ i + length (b ∷ bs))
    by true run p q = (p.0, omega arith)
    by false true p q = (omega arith, omega arith)
    by false false p q = (omega arith, omega arith)

none_left : (xs : List ℕ) → length xs ≤ 0 → xs ≡ []
none_left [] h = refl
none_left (x ∷ xs) h = absurd (omega arith)

no_longer : (inside label more later : List ℕ) → inside ≡ (label ++ more) ++ later → length label ≡ label_len 0 0 inside → is_label (label ++ more) ≡ true → more ≡ []
no_longer inside label more later e l h =
    let parts = label_parts (label ++ more) h in
    let size : ℕ = length (label ++ more) in
    let n : label_len 0 0 ((label ++ more) ++ later) ≡ label_len (0 + length (label ++ more)) (0 + length (label ++ more)) later = run_len (label ++ more) later 0 0 (label_run (label ++ more) parts) (some_bytes (label ++ more) parts) parts.last in
    let least = len_bounds later (0 + length (label ++ more)) (0 + length (label ++ more)) (omega arith) in
    let here : label_len 0 0 inside ≡ label_len (0 + length (label ++ more)) (0 + length (label ++ more)) later = ap (λ (k : List ℕ). label_len 0 0 k) e ∙ n in
    none_left more (omega (arith, least.0, here, l, length-append label more))

pub label_some : (bytes : List ℕ) (p : List ℕ × List ℕ) → label_part bytes ≡ Some p → ReadsLabel bytes p.0 p.1
unfolding label_part
label_some bytes p e =
    let a = bind_some (opened 95 bytes) (λ (colon : List ℕ). opened 58 colon >>= λ inside. when (is_label (take (label_len 0 0 inside) inside)) (let r : List ℕ × List ℕ = (take (label_len 0 0 inside) inside, drop (label_len 0 0 inside) inside) in r)) p e in
    let b = bind_some (opened 58 a.0) (λ (inside : List ℕ). when (is_label (take (label_len 0 0 inside) inside)) (let r : List ℕ × List ℕ = (take (label_len 0 0 inside) inside, drop (label_len 0 0 inside) inside) in r)) p a.2 in
    let inside : List ℕ = b.0 in
    let n : ℕ = label_len 0 0 b.0 in
    let w = when_some (is_label (take (label_len 0 0 b.0) b.0)) (let r : List ℕ × List ℕ = (take (label_len 0 0 b.0) b.0, drop (label_len 0 0 b.0) b.0) in r) p b.2 in
    let cut : b.0 ≡ take (label_len 0 0 b.0) b.0 ++ drop (label_len 0 0 b.0) b.0 = take_drop (label_len 0 0 b.0) b.0 in
    let size : length (take (label_len 0 0 b.0) b.0) ≡ label_len 0 0 b.0 = omega (arith, length-take (label_len 0 0 b.0) b.0, (len_bounds b.0 0 0 (omega arith)).1) in
    subst (λ (q : List ℕ × List ℕ). ReadsLabel bytes q.0 q.1) w.1 (record {
      written = opened_some 95 bytes a.0 a.1 ∙ ap (λ (l : List ℕ). 95 ∷ l) (opened_some 58 a.0 b.0 b.1 ∙ ap (λ (l : List ℕ). 58 ∷ l) cut);
      is_one = w.0;
      longest = λ more later f h. no_longer b.0 (take (label_len 0 0 b.0) b.0) more later (cut ∙ ap (λ (l : List ℕ). take (label_len 0 0 b.0) b.0 ++ l) f ∙ sym (append_assoc (take (label_len 0 0 b.0) b.0) more later)) size h;
    })

-- ---- tags

tag_run : (tag rest : List ℕ) (i : ℕ) → list_all is_tag_byte tag ≡ true → tag_len i (tag ++ rest) ≡ tag_len (i + length tag) rest
tag_run [] rest i h = let same : i ≡ i + 0 = omega arith in ap (λ (k : ℕ). tag_len k rest) same
tag_run (b ∷ tag) rest i h =
    let p = and_parts (is_tag_byte b) (list_all is_tag_byte tag) h in
    let place : (i + 1) + length tag ≡ i + length (b ∷ tag) = omega arith in
    let more : tag_len (i + 1) (tag ++ rest) ≡ tag_len (i + length (b ∷ tag)) rest = tag_run tag rest (i + 1) p.1 ∙ ap (λ (k : ℕ). tag_len k rest) place in
    rw p.0 more

-- no byte of a tag stands at the front
abbrev pub begins_no_tag : List ℕ → Bool
begins_no_tag [] = true
begins_no_tag (b ∷ bs) = not (is_tag_byte b)

tag_stops : (rest : List ℕ) (i : ℕ) → begins_no_tag rest ≡ true → tag_len i rest ≡ i
tag_stops [] i h = refl
tag_stops (b ∷ bs) i h = let none : is_tag_byte b ≡ false = not-true (is_tag_byte b) h in rw none refl

pub tag_at : (bytes tag rest : List ℕ) → ReadsTag bytes tag rest → begins_no_tag rest ≡ true → tag_part bytes ≡ Some (tag, rest)
unfolding tag_part
tag_at bytes tag rest r s =
    let n_is : tag_len 0 (tag ++ rest) ≡ length tag = tag_run tag rest 0 (tag_bytes tag r.1) ∙ tag_stops rest (0 + length tag) s ∙ (let same : 0 + length tag ≡ length tag = omega arith in same) in
    let front : take (length tag) (tag ++ rest) ≡ tag = take_at tag rest (length tag) refl in
    let back : drop (length tag) (tag ++ rest) ≡ rest = drop_at tag rest (length tag) refl in
    let one : is_tag tag ≡ true = r.1 in
    let at : tag_part (64 ∷ (tag ++ rest)) ≡ Some (tag, rest) = rw (n_is, front, back, one) refl in
    subst (λ (l : List ℕ). tag_part l ≡ Some (tag, rest)) (sym r.0) at

pub tag_some : (bytes : List ℕ) (p : List ℕ × List ℕ) → tag_part bytes ≡ Some p → ReadsTag bytes p.0 p.1
unfolding tag_part
tag_some bytes p e =
    let a = bind_some (opened 64 bytes) (λ (inside : List ℕ). when (is_tag (take (tag_len 0 inside) inside)) (let r : List ℕ × List ℕ = (take (tag_len 0 inside) inside, drop (tag_len 0 inside) inside) in r)) p e in
    let w = when_some (is_tag (take (tag_len 0 a.0) a.0)) (let r : List ℕ × List ℕ = (take (tag_len 0 a.0) a.0, drop (tag_len 0 a.0) a.0) in r) p a.2 in
    subst (λ (q : List ℕ × List ℕ). ReadsTag bytes q.0 q.1) w.1 (opened_some 64 bytes a.0 a.1 ∙ ap (λ (l : List ℕ). 64 ∷ l) (take_drop (tag_len 0 a.0) a.0), w.0)
