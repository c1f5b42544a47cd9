-- The text that items mean: of UTF-8, and in an IRI of bytes that an IRI may hold.
use Rattle.std.proofs.Common.{ℕ, ◌≡◌, ◌+◌, ◌/◌, ◌%◌, ◌<◌, ◌≤◌, ◌⊎◌, inl, inr, Bool, cond, if◌then◌else◌, true, false, not, ◌||◌, List, [], ◌∷◌, ◌++◌, Some, nat_eq, nat_lt, refl, ap, sym, subst, ◌∙◌, arith, append_assoc}
use Rattle.std.specs.List.{list_all}
use Rattle.std.specs.Char.{encode_utf8, IsScalar}
use Rattle.std.specs.Str.{IsUtf8}
use Rattle.std.proofs.lemmas.Str.{IsUtf8-append, IsUtf8-encode}
use Rattle.std.proofs.lemmas.Bool.{and_parts}
use Rattle.std.proofs.lemmas.Option.{same_Some}
use Rattle.list_laws.proofs.Each.{all_joined}
use Rattle.list_laws.proofs.Options.{bind_some, when_some}
use Rattle.list_laws.specs.Options.{◌>>=◌}
use Rattle.rdf_terms.specs.Iri.{is_iri_byte}
use Rattle.rdf_terms.proofs.Iris.{high_byte}
use Rattle.nquads_text.specs.Grammar.{is_hex, is_short_escape, IsNumeric, IsIriItem, all_of, Each}
use Rattle.nquads_text.specs.Meaning.{short_value, hex_value, is_scalar, is_nameable, named, item_value, items_value, IsItem, MeansText}
use Rattle.nquads_text.proofs.Utf8.{before_ascii, after_ascii, one_ascii}

-- ---- UTF-8

scalar_is : (c : ℕ) → is_scalar c ≡ true → IsScalar c
scalar_is c h = grind (arith, h)

short_low : (b : ℕ) → is_short_escape b ≡ true → (b < 128) × (short_value b < 128)
short_low b h = (grind (arith, h), grind (arith, h))

hex_low : (b : ℕ) → is_hex b ≡ true → b < 128
hex_low b h = grind (arith, h)

after_digits : (digits bs : List ℕ) → list_all is_hex digits ≡ true → IsUtf8 (digits ++ bs) → IsUtf8 bs
after_digits [] bs h u = u
after_digits (d ∷ digits) bs h u =
    let p = and_parts (is_hex d) (list_all is_hex digits) h in
    after_digits digits bs p.1 (after_ascii [] (digits ++ bs) d (hex_low d p.0) u)

-- an item is a byte; or an escape, whose value is a text and whose bytes are ASCII
pub record IsEscape (iri : Bool) (item : List ℕ) : Type 0 where
  pub cut : (out bs : List ℕ) → IsUtf8 (out ++ (item ++ bs)) → IsUtf8 out × IsUtf8 bs
  pub value : (text : List ℕ) → item_value iri item ≡ Some text → IsUtf8 text

abbrev Kinds : Bool → List ℕ → Type 0
Kinds iri item = ((b : ℕ) × (item ≡ b ∷ [])) ⊎ IsEscape iri item

named_text : (iri : Bool) (c : ℕ) (text : List ℕ) → named iri c ≡ Some text → IsUtf8 text
named_text iri c text e =
    let w = when_some (is_nameable iri c) (encode_utf8 c) text e in
    let good = and_parts (is_scalar c) (not iri || is_iri_byte c) w.0 in
    subst (λ (l : List ℕ). IsUtf8 l) w.1 (IsUtf8-encode c (scalar_is c good.0))

cut_escape : (c : ℕ) (digits out bs : List ℕ) → c < 128 → list_all is_hex digits ≡ true → IsUtf8 (out ++ (92 ∷ c ∷ (digits ++ bs))) → IsUtf8 out × IsUtf8 bs
cut_escape c digits out bs h d u =
    let back : 92 < 128 = omega arith in
    (before_ascii out (c ∷ (digits ++ bs)) 92 back u, after_digits digits bs d (after_ascii [] (digits ++ bs) c h (after_ascii out (c ∷ (digits ++ bs)) 92 back u)))

numeric_kind : (iri : Bool) (item : List ℕ) → IsNumeric item → IsEscape iri item
numeric_kind iri item (digits, inl four) = subst (λ (l : List ℕ). IsEscape iri l) (sym four.0) (record { cut = λ out bs u. cut_escape 117 digits out bs (omega arith) four.1.each u; value = λ text e. named_text iri (hex_value 0 digits) text e })
numeric_kind iri item (digits, inr eight) = subst (λ (l : List ℕ). IsEscape iri l) (sym eight.0) (record { cut = λ out bs u. cut_escape 85 digits out bs (omega arith) eight.1.each u; value = λ text e. named_text iri (hex_value 0 digits) text e })

short_text : (k : Bool) (iri : Bool) (x v : ℕ) (text : List ℕ) → v < 128 → k ≡ false → (if k then named iri x else Some (v ∷ [])) ≡ Some text → IsUtf8 text
short_text true iri x v text h e f = cc
short_text false iri x v text h e f = subst (λ (l : List ℕ). IsUtf8 l) (same_Some (v ∷ []) text f) (one_ascii v h)

no_digits : (b : ℕ) → is_short_escape b ≡ true → (nat_eq b 117 || nat_eq b 85) ≡ false
no_digits b h = grind (arith, h)

short_kind : (iri : Bool) (b : ℕ) → is_short_escape b ≡ true → IsEscape iri (92 ∷ b ∷ [])
short_kind iri b h = record { cut = λ out bs u. cut_escape b [] out bs (short_low b h).0 refl u; value = λ text e. short_text (nat_eq b 117 || nat_eq b 85) iri 0 (short_value b) text (short_low b h).1 (no_digits b h) e }

kind_of : (iri : Bool) (item : List ℕ) → IsItem iri item → Kinds iri item
kind_of true item (inl plain) = inl (plain.0, plain.1)
kind_of true item (inr numeric) = inr (numeric_kind true item numeric)
kind_of false item (inl plain) = inl (plain.0, plain.1)
kind_of false item (inr (inl short)) = inr (subst (λ (l : List ℕ). IsEscape false l) (sym short.1) (short_kind false short.0 short.2))
kind_of false item (inr (inr numeric)) = inr (numeric_kind false item numeric)

abbrev Grows : Bool → List (List ℕ) → Type 0
Grows iri items = (out text : List ℕ) → IsUtf8 (out ++ all_of items) → items_value iri items ≡ Some text → IsUtf8 (out ++ text)

grows_by : (iri : Bool) (item : List ℕ) (items : List (List ℕ)) (out text more : List ℕ) → Grows iri items → Kinds iri item → IsUtf8 (out ++ (item ++ all_of items)) → item_value iri item ≡ Some text → items_value iri items ≡ Some more → IsUtf8 (out ++ (text ++ more))
grows_by iri item items out text more ih (inl byte) u e f =
    let value : Some (byte.0 ∷ []) ≡ Some text = ap (λ (l : List ℕ). item_value iri l) (sym byte.1) ∙ e in
    let same : byte.0 ∷ [] ≡ text = same_Some (byte.0 ∷ []) text value in
    let there : IsUtf8 (out ++ ((byte.0 ∷ []) ++ all_of items)) = subst (λ (l : List ℕ). IsUtf8 (out ++ (l ++ all_of items))) byte.1 u in
    let here : IsUtf8 ((out ++ byte.0 ∷ []) ++ all_of items) = subst (λ (l : List ℕ). IsUtf8 l) (sym (append_assoc out (byte.0 ∷ []) (all_of items))) there in
    let grown : IsUtf8 ((out ++ byte.0 ∷ []) ++ more) = ih (out ++ byte.0 ∷ []) more here f in
    subst (λ (l : List ℕ). IsUtf8 (out ++ (l ++ more))) same (subst (λ (l : List ℕ). IsUtf8 l) (append_assoc out (byte.0 ∷ []) more) grown)
grows_by iri item items out text more ih (inr escape) u e f =
    let p = escape.cut out (all_of items) u in
    IsUtf8-append out (text ++ more) p.0 (IsUtf8-append text more (escape.value text e) (ih [] more p.1 f))

grows : (iri : Bool) (items : List (List ℕ)) → Each (IsItem iri) items → Grows iri items
grows iri [] h out text u e = subst (λ (l : List ℕ). IsUtf8 (out ++ l)) (same_Some [] text e) u
grows iri (item ∷ items) h out text u e =
    let a = bind_some (item_value iri item) (λ (t : List ℕ). items_value iri items >>= λ m. Some (t ++ m)) text e in
    let b = bind_some (items_value iri items) (λ (m : List ℕ). Some (a.0 ++ m)) text a.2 in
    subst (λ (l : List ℕ). IsUtf8 (out ++ l)) (same_Some (a.0 ++ b.0) text b.2) (grows_by iri item items out a.0 b.0 (grows iri items h.1) (kind_of iri item h.0) u a.1 b.1)

pub text_utf8 : (iri : Bool) (bytes text : List ℕ) → IsUtf8 bytes → MeansText iri bytes text → IsUtf8 text
text_utf8 iri bytes text u m = grows iri m.0 m.1 [] text (subst (λ (l : List ℕ). IsUtf8 l) m.2 u) m.3

-- ---- bytes of IRIs

abbrev all_iri : List ℕ → Type 0
all_iri bs = list_all is_iri_byte bs ≡ true

all_one : (b : ℕ) → is_iri_byte b ≡ true → all_iri (b ∷ [])
all_one b h = rw h refl

all_cons : (b : ℕ) (bs : List ℕ) → is_iri_byte b ≡ true → all_iri bs → all_iri (b ∷ bs)
all_cons b bs h k = rw (h, k) refl

cond_when : (b : Bool) (x y : List ℕ) → all_iri x → all_iri y → all_iri (cond b x y)
cond_when true x y h k = h
cond_when false x y h k = k

all_high : (b : ℕ) (bs : List ℕ) → 128 ≤ b → all_iri bs → all_iri (b ∷ bs)
all_high b bs h k = all_cons b bs (high_byte b h) k

two_bytes : (a b : ℕ) → all_iri ((192 + a) ∷ (128 + b) ∷ [])
two_bytes a b = all_high (192 + a) ((128 + b) ∷ []) (omega arith) (all_high (128 + b) [] (omega arith) refl)

three_bytes : (a b d : ℕ) → all_iri ((224 + a) ∷ (128 + b) ∷ (128 + d) ∷ [])
three_bytes a b d = all_high (224 + a) ((128 + b) ∷ (128 + d) ∷ []) (omega arith) (all_high (128 + b) ((128 + d) ∷ []) (omega arith) (all_high (128 + d) [] (omega arith) refl))

four_bytes : (a b d e : ℕ) → all_iri ((240 + a) ∷ (128 + b) ∷ (128 + d) ∷ (128 + e) ∷ [])
four_bytes a b d e = all_high (240 + a) ((128 + b) ∷ (128 + d) ∷ (128 + e) ∷ []) (omega arith) (all_high (128 + b) ((128 + d) ∷ (128 + e) ∷ []) (omega arith) (all_high (128 + d) ((128 + e) ∷ []) (omega arith) (all_high (128 + e) [] (omega arith) refl)))

all_encoded : (c : ℕ) → is_iri_byte c ≡ true → all_iri (encode_utf8 c)
unfolding encode_utf8
all_encoded c h =
    cond_when (nat_lt c 128) (c ∷ []) _ (all_one c h)
    (cond_when (nat_lt c 2048) _ _ (two_bytes (c / 64) (c % 64))
    (cond_when (nat_lt c 65536) _ _ (three_bytes (c / 4096) ((c / 64) % 64) (c % 64))
    (four_bytes (c / 262144) ((c / 4096) % 64) ((c / 64) % 64) (c % 64))))

named_iri : (c : ℕ) (text : List ℕ) → named true c ≡ Some text → all_iri text
named_iri c text e =
    let w = when_some (is_nameable true c) (encode_utf8 c) text e in
    let good = and_parts (is_scalar c) (is_iri_byte c) w.0 in
    subst (λ (l : List ℕ). all_iri l) w.1 (all_encoded c good.1)

item_iri : (item text : List ℕ) → IsIriItem item → item_value true item ≡ Some text → all_iri text
item_iri item text (inl plain) e =
    let value : Some (plain.0 ∷ []) ≡ Some text = ap (λ (l : List ℕ). item_value true l) (sym plain.1) ∙ e in
    subst (λ (l : List ℕ). all_iri l) (same_Some (plain.0 ∷ []) text value) (all_one plain.0 plain.2)
item_iri item text (inr (digits, inl four)) e = named_iri (hex_value 0 digits) text (ap (λ (l : List ℕ). item_value true l) (sym four.0) ∙ e)
item_iri item text (inr (digits, inr eight)) e = named_iri (hex_value 0 digits) text (ap (λ (l : List ℕ). item_value true l) (sym eight.0) ∙ e)

items_iri : (items : List (List ℕ)) (text : List ℕ) → Each IsIriItem items → items_value true items ≡ Some text → all_iri text
items_iri [] text h e = subst (λ (l : List ℕ). all_iri l) (same_Some [] text e) refl
items_iri (item ∷ items) text h e =
    let a = bind_some (item_value true item) (λ (t : List ℕ). items_value true items >>= λ m. Some (t ++ m)) text e in
    let b = bind_some (items_value true items) (λ (m : List ℕ). Some (a.0 ++ m)) text a.2 in
    subst (λ (l : List ℕ). all_iri l) (same_Some (a.0 ++ b.0) text b.2) (all_joined is_iri_byte a.0 b.0 (item_iri item a.0 h.0 a.1) (items_iri items b.0 h.1 b.1))

pub text_iri : (bytes text : List ℕ) → MeansText true bytes text → list_all is_iri_byte text ≡ true
text_iri bytes text m = items_iri m.0 text m.1 m.3
