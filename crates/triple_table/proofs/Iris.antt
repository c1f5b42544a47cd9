-- The IRI of a blank node is an IRI.
use Rattle.std.proofs.Common.{ℕ, ◌≡◌, ◌+◌, ◌^◌, ◌/◌, ◌%◌, ◌<◌, Bool, true, false, cond, List, [], ◌∷◌, ◌++◌, refl, sym, ◌∙◌, subst, ltb, length, arith}
use Rattle.std.specs.Prelude.{nat_le, ◌&&◌, ◌||◌, ◌==◌, not, codes, if◌then◌else◌}
use Rattle.std.specs.List.{list_all}
use Rattle.std.specs.Str.{chars, IsUtf8, str_to_ascii_lowercase}
use Rattle.std.specs.Fmt.{decimal}
use Rattle.std.specs.Char.{to_ascii_lowercase, digit_value}
use Rattle.std.specs.Str.Parse.{AllDigits}
use Rattle.std.proofs.lemmas.List.Folds.{list_all-append, list_all-map}
use Rattle.std.proofs.lemmas.Fmt.{decimal_is_IsNumeral}
use Rattle.std.proofs.lemmas.Str.{encodes-chars}
use Rattle.std.proofs.lemmas.Bool.{and_from, and_parts}
use lib.Utf8.{encode, encodes}
use Rattle.list_laws.proofs.Tests.{all_below, from_all_below, implied}
use Rattle.rdf_terms.specs.Iri.{is_iri, is_iri_byte, has_scheme}
use Rattle.rdf_terms.specs.Label.{is_label, is_label_char, are_label_chars}
use Rattle.rdf_terms.proofs.Iris.{high_byte}
use Rattle.tpf_base.specs.Addresses.{IsAuthority, is_host, is_host_byte, is_port}
use Rattle.tpf_base.proofs.AddressBytes.{host_below}
use Rattle.triple_table.specs.Genid.{genid}

-- a test that is weaker at each element
all_weaker : (p q : ℕ → Bool) → ((b : ℕ) → p b ≡ true → q b ≡ true) → (bs : List ℕ) → list_all p bs ≡ true → list_all q bs ≡ true
all_weaker p q w [] e = refl
all_weaker p q w (b ∷ bs) e = let parts = and_parts (p b) (list_all p bs) e in and_from (q b) (list_all q bs) (w b parts.0) (all_weaker p q w bs parts.1)

low_of : (c : ℕ) → ltb c 128 ≡ true → c < 128
low_of c h = grind (arith, h)

host_byte : (b : ℕ) → is_host_byte b ≡ true → is_iri_byte (to_ascii_lowercase b) ≡ true
unfolding all_below
host_byte b h = implied _ _ (from_all_below 128 (λ b. not (is_host_byte b) || is_iri_byte (to_ascii_lowercase b)) refl b (host_below b h)) h

digit_byte : (b : ℕ) → digit_value b < 10 → is_iri_byte b ≡ true
digit_byte b h = grind (arith, h)

digits_bytes : (bs : List ℕ) → AllDigits 10 bs → list_all is_iri_byte bs ≡ true
digits_bytes [] h = refl
digits_bytes (b ∷ bs) h = and_from (is_iri_byte b) (list_all is_iri_byte bs) (digit_byte b h.0) (digits_bytes bs h.1)

label_byte : (c : ℕ) → ltb c 128 ≡ true → (is_label_char c || (c == 46)) ≡ true → is_iri_byte c ≡ true
unfolding all_below
label_byte c l h =
    implied _ _ (from_all_below 128 (λ c. not (is_label_char c || (c == 46)) || is_iri_byte c) refl c (low_of c l)) h

-- the bytes of a character
char_bytes : (a b d : Bool) (c : ℕ) → ltb c 128 ≡ a → (is_label_char c || (c == 46)) ≡ true →
    list_all is_iri_byte (cond a (c ∷ []) (cond b ((192 + c / 64) ∷ (128 + c % 64) ∷ []) (cond d ((224 + c / 4096) ∷ (128 + (c / 64) % 64) ∷ (128 + c % 64) ∷ []) ((240 + c / 262144) ∷ (128 + (c / 4096) % 64) ∷ (128 + (c / 64) % 64) ∷ (128 + c % 64) ∷ [])))) ≡ true
char_bytes true b d c l h = rw (label_byte c l h) refl
char_bytes false true d c l h = rw (high_byte (192 + c / 64) (omega arith), high_byte (128 + c % 64) (omega arith)) refl
char_bytes false false true c l h = rw (high_byte (224 + c / 4096) (omega arith), high_byte (128 + (c / 64) % 64) (omega arith), high_byte (128 + c % 64) (omega arith)) refl
char_bytes false false false c l h = rw (high_byte (240 + c / 262144) (omega arith), high_byte (128 + (c / 4096) % 64) (omega arith), high_byte (128 + (c / 64) % 64) (omega arith), high_byte (128 + c % 64) (omega arith)) refl

encode_bytes : (c : ℕ) → (is_label_char c || (c == 46)) ≡ true → list_all is_iri_byte (encode c) ≡ true
unfolding encode
encode_bytes c h = char_bytes (ltb c 128) (ltb c 2048) (ltb c 65536) c refl h

encodes_bytes : (cs : List ℕ) → are_label_chars cs ≡ true → list_all is_iri_byte (encodes cs) ≡ true
encodes_bytes [] h = refl
encodes_bytes (c ∷ cs) h =
    let parts = and_parts (is_label_char c || (c == 46)) (are_label_chars cs) h in
    list_all-append is_iri_byte (encode c) (encodes cs) ∙ and_from _ _ (encode_bytes c parts.0) (encodes_bytes cs parts.1)

pub label_bytes : (label : List ℕ) → is_label label ≡ true → IsUtf8 label → list_all is_iri_byte label ≡ true
unfolding is_label
label_bytes label h u =
    let three = (and_parts _ _ h).0 in
    let are = (and_parts _ _ three).1 in
    subst (λ bs. list_all is_iri_byte bs ≡ true) (encodes-chars label u) (encodes_bytes (chars label) are)

authority_bytes : (b : Bool) (host : List ℕ) (port : ℕ) → is_host host ≡ true → is_port port ≡ true →
    list_all is_iri_byte (if b then str_to_ascii_lowercase host else (str_to_ascii_lowercase host ++ codes ":" ++ decimal port)) ≡ true
authority_bytes b host port h p = by b
  where
    lower : list_all is_iri_byte (str_to_ascii_lowercase host) ≡ true
    lower = list_all-map is_iri_byte to_ascii_lowercase host ∙ all_weaker is_host_byte (λ b. is_iri_byte (to_ascii_lowercase b)) host_byte host (and_parts (nat_le 1 (length host) && nat_le (length host) 255) (list_all is_host_byte host) h).1

    small : port < 2 ^ 64
    small = let high : nat_le port 65535 ≡ true = (and_parts (nat_le 1 port) (nat_le port 65535) p).1 in grind (arith, high)

    by : (b : Bool) → list_all is_iri_byte (if b then str_to_ascii_lowercase host else (str_to_ascii_lowercase host ++ codes ":" ++ decimal port)) ≡ true
    by true = lower
    by false =
        list_all-append is_iri_byte (str_to_ascii_lowercase host ++ codes ":") (decimal port)
        ∙ and_from _ _ (list_all-append is_iri_byte (str_to_ascii_lowercase host) (codes ":") ∙ and_from _ _ lower refl)
        (digits_bytes (decimal port) (decimal_is_IsNumeral port small).0.1)

pub authority_all : (authority : List ℕ) → IsAuthority authority → list_all is_iri_byte authority ≡ true
authority_all authority a =
    subst (λ bs. list_all is_iri_byte bs ≡ true) (sym a.is_text) (authority_bytes (a.port == 80) a.host a.port a.is_host a.is_port)

pub genid_is_iri : (authority label : List ℕ) → IsAuthority authority → is_label label ≡ true → IsUtf8 label → is_iri (genid authority label) ≡ true
genid_is_iri authority label a l u =
    and_from (list_all is_iri_byte (genid authority label)) (has_scheme (genid authority label))
    (list_all-append is_iri_byte (codes "http://" ++ authority ++ codes "/.well-known/genid/") label
    ∙ and_from _ _
    (list_all-append is_iri_byte (codes "http://" ++ authority) (codes "/.well-known/genid/")
    ∙ and_from _ _ (list_all-append is_iri_byte (codes "http://") authority ∙ authority_all authority a) refl)
    (label_bytes label l u))
    refl
