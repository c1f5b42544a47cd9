-- The machine that resolves escapes gives what the items mean.
use Rattle.std.proofs.Common.{ℕ, ◌≡◌, ◌+◌, ◌*◌, ◌-◌, ◌<◌, ◌≤◌, ◌⊎◌, inl, inr, min, Bool, if◌then◌else◌, true, false, List, [], ◌∷◌, ◌++◌, length, Option, Some, None, nat_eq, refl, ap, sym, subst, ◌∙◌, arith, append_assoc, append-nil}
use Rattle.std.specs.Char.{encode_utf8, digit_value}
use Rattle.list_laws.specs.Options.{when, ◌>>=◌}
use Rattle.rdf_terms.specs.Iri.{is_iri_byte}
use Rattle.nquads_text.specs.declared.scan.Awaits.{Awaits}
use Rattle.nquads_text.specs.declared.scan.Awaits.TheVariants.{Item, Escape, Digits}
use Rattle.nquads_text.specs.Scan.{digits_left}
use Rattle.nquads_text.specs.Grammar.{is_form_byte, is_short_escape, AreDigits, IsNumeric, all_of, Each, AreItems}
use Rattle.nquads_text.specs.Meaning.{hex_value, is_scalar, is_nameable, named, item_value, items_value, IsItem, MeansText, HasBadEscape}
use Rattle.nquads_text.specs.Escape.{Resolving, more_digits, with_named, resolve_from, resolved}
use Rattle.nquads_text.proofs.Items.{some_left}

-- ---- digits

abbrev capped_value : ℕ → List ℕ → ℕ
capped_value v [] = v
capped_value v (digit ∷ digits) = capped_value (more_digits v digit) digits

more_capped : (v d : ℕ) → min (min v 0x110000 * 16 + d) 0x110000 ≡ min (v * 16 + d) 0x110000
more_capped v d = omega arith

capped : (digits : List ℕ) (v : ℕ) → capped_value (min v 0x110000) digits ≡ min (hex_value v digits) 0x110000
capped [] v = refl
capped (digit ∷ digits) v = ap (λ (w : ℕ). capped_value w digits) (more_capped v (digit_value digit)) ∙ capped digits (v * 16 + digit_value digit)

abbrev Found : Type 0
Found = Option (List ℕ)

-- what follows a character that an escape names
abbrev then_on : Bool → List ℕ → List ℕ → ℕ → Found
then_on iri bs out c = with_named iri out c >>= λ t. resolve_from iri t.0 t.1 t.2 bs

one_digit : (one : Bool) (iri : Bool) (out bs : List ℕ) (more w : ℕ) → one ≡ true → ((if one then with_named iri out w else (let r : Option Resolving = Some (out, Digits (more - 1), w) in r)) >>= λ t. resolve_from iri t.0 t.1 t.2 bs) ≡ then_on iri bs out w
one_digit true iri out bs more w e = refl
one_digit false iri out bs more w e = cc

next_digit : (one : Bool) (iri : Bool) (out bs : List ℕ) (more w : ℕ) → one ≡ false → ((if one then with_named iri out w else (let r : Option Resolving = Some (out, Digits (more - 1), w) in r)) >>= λ t. resolve_from iri t.0 t.1 t.2 bs) ≡ resolve_from iri out (Digits (more - 1)) w bs
next_digit true iri out bs more w e = cc
next_digit false iri out bs more w e = refl

digits_step : (digits : List ℕ) (iri : Bool) (out bs : List ℕ) (more v : ℕ) → length digits ≡ more + 1 → resolve_from iri out (Digits more) v (digits ++ bs) ≡ then_on iri bs out (capped_value v digits)
digits_step [] iri out bs more v e = absurd (omega (arith, e))
digits_step (d ∷ []) iri out bs more v e =
    let one : nat_eq more 0 ≡ true = grind (arith, e) in
    one_digit (nat_eq more 0) iri out bs more (more_digits v d) one
digits_step (d ∷ c ∷ digits) iri out bs more v e =
    let some : nat_eq more 0 ≡ false = grind (arith, e) in
    next_digit (nat_eq more 0) iri out (c ∷ (digits ++ bs)) more (more_digits v d) some ∙ digits_step (c ∷ digits) iri out bs (more - 1) (more_digits v d) (omega (arith, e))

-- ---- names

abbrev goes_on : Bool → List ℕ → List ℕ → Found → Found
goes_on iri out bs o = o >>= λ t. resolve_from iri (out ++ t) Item 0 bs

same_name : (k : Bool) (iri : Bool) (out bs text : List ℕ) → (when k (let r : Resolving = (out ++ text, Item, 0) in r) >>= λ t. resolve_from iri t.0 t.1 t.2 bs) ≡ goes_on iri out bs (when k text)
same_name true iri out bs text = refl
same_name false iri out bs text = refl

no_name : (iri : Bool) (c : ℕ) → 0x110000 ≤ c → is_nameable iri c ≡ false
no_name iri c h = let none : is_scalar c ≡ false = grind arith in rw none refl

below_or_not : (c : ℕ) → (c < 0x110000) ⊎ (0x110000 ≤ c)
below_or_not c = grind arith

name_by : (iri : Bool) (out bs : List ℕ) (c : ℕ) → (c < 0x110000) ⊎ (0x110000 ≤ c) → then_on iri bs out (min c 0x110000) ≡ goes_on iri out bs (named iri c)
name_by iri out bs c (inl h) =
    let same : min c 0x110000 ≡ c = omega arith in
    ap (λ (x : ℕ). then_on iri bs out x) same ∙ same_name (is_nameable iri c) iri out bs (encode_utf8 c)
name_by iri out bs c (inr h) =
    let same : min c 0x110000 ≡ 0x110000 = omega arith in
    let none : is_nameable iri c ≡ false = no_name iri c h in
    let none_there : is_nameable iri 0x110000 ≡ false = no_name iri 0x110000 (omega arith) in
    ap (λ (x : ℕ). then_on iri bs out x) same
    ∙ ap (λ (k : Bool). when k (let r : Resolving = (out ++ encode_utf8 0x110000, Item, 0) in r) >>= λ t. resolve_from iri t.0 t.1 t.2 bs) none_there
    ∙ ap (λ (k : Bool). goes_on iri out bs (when k (encode_utf8 c))) (sym none)

-- ---- items

abbrev Steps : Bool → List ℕ → Type 0
Steps iri item = (out bs : List ℕ) → resolve_from iri out Item 0 (item ++ bs) ≡ goes_on iri out bs (item_value iri item)

plain_by : (k : Bool) (iri : Bool) (out bs : List ℕ) (b : ℕ) → k ≡ false → ((if k then Some (let r : Resolving = (out, Escape, 0) in r) else Some (out ++ b ∷ [], Item, 0)) >>= λ t. resolve_from iri t.0 t.1 t.2 bs) ≡ resolve_from iri (out ++ b ∷ []) Item 0 bs
plain_by true iri out bs b e = cc
plain_by false iri out bs b e = refl

plain_step : (iri : Bool) (b : ℕ) → nat_eq b 92 ≡ false → Steps iri (b ∷ [])
plain_step iri b h out bs = plain_by (nat_eq b 92) iri out bs b h

-- \u and four digits, or \U and eight
abbrev Which : ℕ → ℕ → Type 0
Which c n = ((nat_eq c 117 ≡ true) × (n ≡ 4)) ⊎ ((nat_eq c 117 ≡ false) × (nat_eq c 85 ≡ true) × (n ≡ 8))

which_some : (c n : ℕ) → Which c n → 0 < n
which_some c n (inl four) = omega (arith, four.1)
which_some c n (inr eight) = omega (arith, eight.2)

begun : (iri : Bool) (out bs : List ℕ) (c n : ℕ) → Which c n → resolve_from iri out Item 0 (92 ∷ c ∷ bs) ≡ resolve_from iri out (digits_left n) 0 bs
begun iri out bs c n (inl four) = rw (four.0, four.1) refl
begun iri out bs c n (inr eight) = rw (eight.0, eight.1, eight.2) refl

named_is : (iri : Bool) (digits : List ℕ) (c n : ℕ) → Which c n → named iri (hex_value 0 digits) ≡ item_value iri (92 ∷ c ∷ digits)
named_is iri digits c n (inl four) = rw four.0 refl
named_is iri digits c n (inr eight) = rw (eight.0, eight.1) refl

digits_item : (iri : Bool) (c n : ℕ) (digits : List ℕ) → Which c n → AreDigits n digits → Steps iri (92 ∷ c ∷ digits)
digits_item iri c n digits which d out bs =
    let some : 0 < n = which_some c n which in
    begun iri out (digits ++ bs) c n which
    ∙ ap (λ (s : Awaits). resolve_from iri out s 0 (digits ++ bs)) (some_left n some)
    ∙ digits_step digits iri out bs (n - 1) 0 (omega (arith, d.count, some))
    ∙ ap (λ (x : ℕ). then_on iri bs out x) (capped digits 0)
    ∙ name_by iri out bs (hex_value 0 digits) (below_or_not (hex_value 0 digits))
    ∙ ap (λ (o : Found). goes_on iri out bs o) (named_is iri digits c n which)

numeric_step : (iri : Bool) (item : List ℕ) → IsNumeric item → Steps iri item
numeric_step iri item (digits, inl four) = subst (λ (l : List ℕ). Steps iri l) (sym four.0) (digits_item iri 117 4 digits (inl (refl, refl)) four.1)
numeric_step iri item (digits, inr eight) = subst (λ (l : List ℕ). Steps iri l) (sym eight.0) (digits_item iri 85 8 digits (inr (refl, refl, refl)) eight.1)

short_not : (b : ℕ) → is_short_escape b ≡ true → (nat_eq b 117 ≡ false) × (nat_eq b 85 ≡ false)
short_not b h = (grind (arith, h), grind (arith, h))

short_step : (iri : Bool) (b : ℕ) → is_short_escape b ≡ true → Steps iri (92 ∷ b ∷ [])
short_step iri b h out bs =
    let p = short_not b h in
    let u : nat_eq b 117 ≡ false = p.0 in
    let v : nat_eq b 85 ≡ false = p.1 in
    rw (u, v) refl

pub no_back_iri : (b : ℕ) → is_iri_byte b ≡ true → nat_eq b 92 ≡ false
no_back_iri b h = grind (arith, h)

pub no_back_form : (b : ℕ) → is_form_byte b ≡ true → nat_eq b 92 ≡ false
no_back_form b h = grind (arith, h)

item_step : (iri : Bool) (item : List ℕ) → IsItem iri item → Steps iri item
item_step true item (inl plain) = subst (λ (l : List ℕ). Steps true l) (sym plain.1) (plain_step true plain.0 (no_back_iri plain.0 plain.2))
item_step true item (inr numeric) = numeric_step true item numeric
item_step false item (inl plain) = subst (λ (l : List ℕ). Steps false l) (sym plain.1) (plain_step false plain.0 (no_back_form plain.0 plain.2))
item_step false item (inr (inl short)) = subst (λ (l : List ℕ). Steps false l) (sym short.1) (short_step false short.0 short.2)
item_step false item (inr (inr numeric)) = numeric_step false item numeric

-- ---- texts

glue : (o p : Found) (r : List ℕ → Found) (out : List ℕ) → ((t : List ℕ) → r t ≡ (p >>= λ m. Some ((out ++ t) ++ m))) → (o >>= r) ≡ ((o >>= λ t. p >>= λ m. Some (t ++ m)) >>= λ t. Some (out ++ t))
glue None p r out h = refl
glue (Some t) None r out h = h t
glue (Some t) (Some m) r out h = h t ∙ ap (λ (l : List ℕ). Some l) (append_assoc out t m)

items_step : (iri : Bool) (items : List (List ℕ)) (out : List ℕ) → Each (IsItem iri) items → resolve_from iri out Item 0 (all_of items) ≡ (items_value iri items >>= λ t. Some (out ++ t))
items_step iri [] out h = ap (λ (l : List ℕ). Some l) (sym (append-nil out))
items_step iri (item ∷ items) out h =
    item_step iri item h.0 out (all_of items)
    ∙ glue (item_value iri item) (items_value iri items) (λ t. resolve_from iri (out ++ t) Item 0 (all_of items)) out (λ t. items_step iri items (out ++ t) h.1)

as_it_is : (o : Found) → (o >>= λ t. Some ([] ++ t)) ≡ o
as_it_is None = refl
as_it_is (Some t) = refl

pub resolved_items : (iri : Bool) (bytes : List ℕ) (items : List (List ℕ)) → Each (IsItem iri) items → bytes ≡ all_of items → resolved iri bytes ≡ items_value iri items
unfolding resolved
resolved_items iri bytes items h e = ap (λ (l : List ℕ). resolve_from iri [] Item 0 l) e ∙ items_step iri items [] h ∙ as_it_is (items_value iri items)

pub means_resolved : (iri : Bool) (bytes text : List ℕ) → MeansText iri bytes text → resolved iri bytes ≡ Some text
means_resolved iri bytes text m = resolved_items iri bytes m.0 m.1 m.2 ∙ m.3

pub resolved_means : (iri : Bool) (bytes text : List ℕ) → AreItems (IsItem iri) bytes → resolved iri bytes ≡ Some text → MeansText iri bytes text
resolved_means iri bytes text a e = (a.0, a.1, a.2, sym (resolved_items iri bytes a.0 a.1 a.2) ∙ e)

pub bad_resolved : (iri : Bool) (bytes : List ℕ) → HasBadEscape iri bytes → resolved iri bytes ≡ None
bad_resolved iri bytes m = resolved_items iri bytes m.0 m.1 m.2 ∙ m.3

pub resolved_bad : (iri : Bool) (bytes : List ℕ) → AreItems (IsItem iri) bytes → resolved iri bytes ≡ None → HasBadEscape iri bytes
resolved_bad iri bytes a e = (a.0, a.1, a.2, sym (resolved_items iri bytes a.0 a.1 a.2) ∙ e)
