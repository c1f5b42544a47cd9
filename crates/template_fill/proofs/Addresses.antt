-- Addresses in their normal form.
use Rattle.std.proofs.Common.{◌≡◌, ℕ, ◌+◌, ◌-◌, ◌^◌, ◌<◌, ◌≤◌, List, [], ◌∷◌, ◌++◌, Bool, true, false, not, ◌==◌, ◌&&◌, ◌||◌, cond, nat_lt, nat_le, Some, length, take, drop, map, refl, sym, ◌∙◌, ap, subst, arith, inl, inr, append_assoc, append-nil, length-drop, take_all}
use Rattle.std.specs.Prelude.{codes, decimal, is_some}
use Rattle.std.specs.List.{list_all, list_any}
use Rattle.std.specs.Char.{is_ascii, is_ascii_digit, is_ascii_uppercase, to_ascii_lowercase}
use Rattle.std.specs.Str.{str_to_ascii_lowercase, IsUtf8}
use Rattle.std.proofs.lemmas.List.{length-map}
use Rattle.std.proofs.lemmas.List.Folds.{list_any-append, list_all-append}
use Rattle.std.proofs.lemmas.Bool.Decides.{nat_tests}
use Rattle.std.proofs.lemmas.Bool.{agree_below_at, and_from}
use Rattle.rdf_terms.proofs.Iris.{digit_iri}
use Rattle.tpf_base.proofs.AddressBytes.{host_below}
use Rattle.list_laws.proofs.Bytes.{ascii_list, digit_ascii}
use Rattle.rdf_terms.specs.Iri.{is_iri, is_iri_byte}
use Rattle.std.proofs.lemmas.Fmt.{decimal_is_IsNumeral}
use Rattle.std.proofs.lemmas.Str.{IsUtf8-from_ascii}
use Rattle.std.proofs.lemmas.Str.Parse.{digit_from_value}
use Rattle.std.specs.Str.Parse.{AllDigits}
use Rattle.std.proofs.Math.Seq.{drop-append_seam, take-append_seam, drop-append-add}
use Rattle.list_laws.proofs.Tests.{implied, and_first, and_second}
use Rattle.tpf_base.specs.Addresses.{Address, IsAddress, IsPortTyped, is_host_byte, is_host, is_address_byte, is_path_byte, is_query_part, authority_text, query_text, target_of, address_text}
use Rattle.tpf_base.specs.declared.limits.TheConstants.{HIGHEST_PORT}
use Rattle.template_fill.specs.ReadAddress.{IsSpelled, Spelled, is_rest, rooted, path_of, query_of, with_target, normal}
use Rattle.template_fill.specs.WebAddress.{IsNormal, IsKept, is_lower, port_text, kept_address, kept_host, kept_target, Extends}
use Rattle.template_fill.specs.Authorities.{ShareAuthority}
use Rattle.template_fill.proofs.Passing.{list_all-wider}

-- ---- tests

below_127 : (b : ℕ) → nat_lt b 127 ≡ true → is_ascii b ≡ true
below_127 b h = grind (arith, nat_tests)

pub is_ascii-address : (b : ℕ) → is_address_byte b ≡ true → is_ascii b ≡ true
is_ascii-address b h = below_127 b (and_second (nat_lt 32 b) (nat_lt b 127) (and_first (nat_lt 32 b && nat_lt b 127) _ h))

pub is_ascii-host : (b : ℕ) → is_host_byte b ≡ true → is_ascii b ≡ true
is_ascii-host b h = grind (arith, nat_tests)

pub is_host_byte-lower : (b : ℕ) → is_host_byte b ≡ true → is_host_byte (to_ascii_lowercase b) ≡ true
is_host_byte-lower b h = grind (arith, nat_tests)

pub not_upper-lower : (b : ℕ) → not (is_ascii_uppercase (to_ascii_lowercase b)) ≡ true
not_upper-lower b = grind (arith, nat_tests)

pub lower-not_upper : (b : ℕ) → not (is_ascii_uppercase b) ≡ true → to_ascii_lowercase b ≡ b
lower-not_upper b h = grind (arith, nat_tests)

-- ---- targets

-- a target is its path and its query
pub target-parts : (target : List ℕ) → path_of target ++ query_text (query_of target) ≡ target
target-parts [] = refl
target-parts (b ∷ rest) =
    let go : (t : Bool) → (b == 63) ≡ t → cond t [] (b ∷ path_of rest) ++ query_text (cond t (Some rest) (query_of rest)) ≡ b ∷ rest =
    λ t. elim t as (λ v. (b == 63) ≡ v → cond v [] (b ∷ path_of rest) ++ query_text (cond v (Some rest) (query_of rest)) ≡ b ∷ rest) [
      | true ↦ λ yes. grind (arith, nat_tests)
      | false ↦ λ _. ap (λ bytes. b ∷ bytes) (target-parts rest)
    ] in
    go (b == 63) refl

pub is_path_byte-path : (rest : List ℕ) → list_all is_address_byte rest ≡ true → list_all is_path_byte (path_of rest) ≡ true
is_path_byte-path [] all = refl
is_path_byte-path (b ∷ rest) all =
    let more = is_path_byte-path rest (and_second (is_address_byte b) _ all) in
    let own = and_first (is_address_byte b) _ all in
    let go : (t : Bool) → (b == 63) ≡ t → list_all is_path_byte (cond t [] (b ∷ path_of rest)) ≡ true =
    λ t. elim t as (λ v. (b == 63) ≡ v → list_all is_path_byte (cond v [] (b ∷ path_of rest)) ≡ true) [
      | true ↦ λ _. refl
      | false ↦ λ no. and_from (is_path_byte b) _ (and_from (is_address_byte b) (not (b == 63)) own (ap not no)) more
    ] in
    go (b == 63) refl

pub is_query_part-query : (rest : List ℕ) → list_all is_address_byte rest ≡ true → is_query_part (query_of rest) ≡ true
is_query_part-query [] all = refl
is_query_part-query (b ∷ rest) all =
    let tail = and_second (is_address_byte b) _ all in
    let more = is_query_part-query rest tail in
    elim (b == 63) as (λ v. is_query_part (cond v (Some rest) (query_of rest)) ≡ true) [ true ↦ tail | false ↦ more ]

-- the target after an authority
pub record IsRooted (target : List ℕ) : Type 0 where
  pub after_slash : List ℕ
  pub slash : target ≡ 47 ∷ after_slash
  pub bytes : list_all is_address_byte after_slash ≡ true

pub is_rooted : (rest : List ℕ) → is_rest rest ≡ true → IsRooted (rooted rest)
is_rooted [] h = record { after_slash = []; slash = refl; bytes = refl }
is_rooted (b ∷ rest) h =
    let mark = and_first ((b == 47) || (b == 63)) _ h in
    let bytes = and_second ((b == 47) || (b == 63)) _ h in
    let go : (t : Bool) → (b == 47) ≡ t → IsRooted (cond t (b ∷ rest) (47 ∷ b ∷ rest)) =
    λ t. elim t as (λ v. (b == 47) ≡ v → IsRooted (cond v (b ∷ rest) (47 ∷ b ∷ rest))) [
      | true ↦ λ yes. let is : b ≡ 47 = grind (arith, nat_tests) in record { after_slash = rest; slash = ap (λ x. x ∷ rest) is; bytes = bytes }
      | false ↦ λ no. let is : b ≡ 63 = grind (arith, nat_tests) in record { after_slash = b ∷ rest; slash = refl; bytes = and_from (is_address_byte b) _ (ap is_address_byte is) bytes }
    ] in
    go (b == 47) refl

-- ---- hosts

pub is_lower-same : (host : List ℕ) → is_lower host ≡ true → str_to_ascii_lowercase host ≡ host
is_lower-same [] h = refl
is_lower-same (b ∷ host) h = rw (lower-not_upper b (and_first (not (is_ascii_uppercase b)) _ h), is_lower-same host (and_second (not (is_ascii_uppercase b)) _ h)) refl

pub is_lower-lower : (host : List ℕ) → is_lower (str_to_ascii_lowercase host) ≡ true
is_lower-lower [] = refl
is_lower-lower (b ∷ host) = and_from (not (is_ascii_uppercase (to_ascii_lowercase b))) _ (not_upper-lower b) (is_lower-lower host)

all_host-lower : (host : List ℕ) → list_all is_host_byte host ≡ true → list_all is_host_byte (str_to_ascii_lowercase host) ≡ true
all_host-lower [] h = refl
all_host-lower (b ∷ host) h = and_from (is_host_byte (to_ascii_lowercase b)) _ (is_host_byte-lower b (and_first (is_host_byte b) _ h)) (all_host-lower host (and_second (is_host_byte b) _ h))

pub is_host-lower : (host : List ℕ) → is_host host ≡ true → is_host (str_to_ascii_lowercase host) ≡ true
is_host-lower host h = rw length-map (and_from (nat_le 1 (length host) && nat_le (length host) 255) _ (and_first (nat_le 1 (length host) && nat_le (length host) 255) _ h) (all_host-lower host (and_second (nat_le 1 (length host) && nat_le (length host) 255) _ h)))

pub all_host : (host : List ℕ) → is_host host ≡ true → list_all is_host_byte host ≡ true
all_host host h = and_second (nat_le 1 (length host) && nat_le (length host) 255) _ h

-- ---- ports

pub authority-port : (host : List ℕ) (port : ℕ) → authority_text host port ≡ host ++ port_text port
authority-port host port = elim (port == 80) as (λ v. cond v host (host ++ codes ":" ++ decimal port) ≡ host ++ cond v [] (codes ":" ++ decimal port)) [
  | true ↦ sym (append-nil host)
  | false ↦ append_assoc host (codes ":") (decimal port)
]

pub is_port_typed : (port : ℕ) → 0 < port → port ≤ HIGHEST_PORT → IsPortTyped (port_text port) port
is_port_typed port low high =
    let go : (t : Bool) → (port == 80) ≡ t → IsPortTyped (cond t [] (codes ":" ++ decimal port)) port =
    λ t. elim t as (λ v. (port == 80) ≡ v → IsPortTyped (cond v [] (codes ":" ++ decimal port)) port) [
      | true ↦ λ yes. inl (refl, grind (arith, nat_tests))
      | false ↦ λ _. inr (refl, and_from (nat_le 1 port) (nat_le port HIGHEST_PORT) (grind (arith, nat_tests)) (grind (arith, nat_tests)))
    ] in
    go (port == 80) refl

-- ---- whole addresses

pub text-parts : (host target : List ℕ) (port : ℕ) → address_text (with_target host port target) ≡ codes "http://" ++ (authority_text host port ++ target)
text-parts host target port =
    ap (λ rest. codes "http://" ++ (authority_text host port ++ rest)) (target-parts target)

pub four : (a b c d : List ℕ) → a ++ (b ++ (c ++ d)) ≡ ((a ++ b) ++ c) ++ d
four a b c d = sym (append_assoc (a ++ b) c d ∙ append_assoc a b (c ++ d))

pub not_empty : (b : ℕ) (bytes : List ℕ) → (length (b ∷ bytes) == 0) ≡ false
not_empty b bytes = grind (arith, nat_tests)

-- an address in its normal form is read from its text
pub normal_is_address : (host target : List ℕ) (port : ℕ) → IsNormal host port target → IsAddress (codes "http://" ++ (authority_text host port ++ target)) (with_target host port target)
normal_is_address host target port n =
    let path : path_of target ≡ 47 ∷ path_of n.after_slash = ap path_of n.slash in
    record {
      typed_host = host;
      typed_port = port_text port;
      typed_path = path_of target;
      is_text =
          ap (λ rest. codes "http://" ++ rest) (ap (λ front. front ++ target) (authority-port host port) ∙ append_assoc host (port_text port) target ∙ ap (λ rest. host ++ (port_text port ++ rest)) (sym (target-parts target)) ∙ four host (port_text port) (path_of target) (query_text (query_of target)));
      host = n.is_host;
      host_kept = sym (is_lower-same host n.lower);
      port = is_port_typed port n.low n.high;
      path = rw path (is_path_byte-path n.after_slash n.bytes);
      path_kept = rw (path, not_empty 47 (path_of n.after_slash)) refl;
      query = rw n.slash (is_query_part-query n.after_slash n.bytes);
    }

-- ---- what is kept

pub kept_text : (bytes : List ℕ) (host_len authority_len port : ℕ) (a : Address) → IsKept bytes host_len authority_len port → kept_address bytes host_len authority_len port ≡ a → bytes ≡ address_text a
kept_text bytes host_len authority_len port a kept is =
    rw (← is) (kept.text ∙ sym (text-parts (kept_host bytes host_len) (kept_target bytes authority_len) port))

pub kept_is_address : (bytes : List ℕ) (host_len authority_len port : ℕ) (a : Address) → IsKept bytes host_len authority_len port → kept_address bytes host_len authority_len port ≡ a → IsAddress bytes a
kept_is_address bytes host_len authority_len port a kept is =
    let own = normal_is_address (kept_host bytes host_len) (kept_target bytes authority_len) port kept.normal in
    subst (λ (x : Address). IsAddress bytes x) is (subst (λ (x : List ℕ). IsAddress x (kept_address bytes host_len authority_len port)) (sym kept.text) own)

pub kept_target_of : (bytes part : List ℕ) (host_len authority_len port : ℕ) (a : Address) → kept_address bytes host_len authority_len port ≡ a → part ≡ take (length bytes - (7 + authority_len)) (drop (7 + authority_len) bytes) → part ≡ target_of a
kept_target_of bytes part host_len authority_len port a is cut =
    let all = take_all (length bytes - (7 + authority_len)) (drop (7 + authority_len) bytes) (simp length-drop (omega arith)) in
    rw (← is) (cut ∙ all ∙ sym (target-parts (kept_target bytes authority_len)))

-- ---- ASCII

pub utf8-ascii : (bytes : List ℕ) → list_all is_ascii bytes ≡ true → IsUtf8 bytes
utf8-ascii bytes all =
    IsUtf8-from_ascii bytes (ascii_list bytes all)

pub ascii-rest : (rest : List ℕ) → is_rest rest ≡ true → list_all is_ascii rest ≡ true
ascii-rest [] h = refl
ascii-rest (b ∷ rest) h =
    let mark = and_first ((b == 47) || (b == 63)) _ h in
    let bytes = and_second ((b == 47) || (b == 63)) _ h in
    and_from (is_ascii b) _ (grind (arith, nat_tests)) (list_all-wider is_address_byte is_ascii is_ascii-address rest bytes)

pub all_digits : (digits : List ℕ) → AllDigits 10 digits → list_all is_ascii_digit digits ≡ true
all_digits [] h = refl
all_digits (d ∷ digits) h =
    let range = digit_from_value d h.0 in
    let low : 48 ≤ d = range.0 in
    let high : d ≤ 57 = range.1 in
    and_from (is_ascii_digit d) _ (grind (arith, nat_tests)) (all_digits digits h.1)

pub all_digits-decimal : (n : ℕ) → n < 2 ^ 64 → list_all is_ascii_digit (decimal n) ≡ true
all_digits-decimal n small = all_digits (decimal n) ((decimal_is_IsNumeral n small).0).1

ascii-port_text : (port : ℕ) → port ≤ HIGHEST_PORT → list_all is_ascii (port_text port) ≡ true
ascii-port_text port high = elim (port == 80) as (λ v. list_all is_ascii (cond v [] (codes ":" ++ decimal port)) ≡ true) [
  | true ↦ refl
  | false ↦ list_all-wider is_ascii_digit is_ascii digit_ascii (decimal port) (all_digits-decimal port (omega arith))
]

ascii-whole : (host target : List ℕ) (port : ℕ) → IsNormal host port target → list_all is_ascii (codes "http://" ++ (authority_text host port ++ target)) ≡ true
ascii-whole host target port n =
    let own = list_all-wider is_host_byte is_ascii is_ascii-host host (all_host host n.is_host) in
    let number = ascii-port_text port n.high in
    let rest : list_all is_ascii target ≡ true = rw n.slash (list_all-wider is_address_byte is_ascii is_ascii-address n.after_slash n.bytes) in
    rw (authority-port host port, list_all-append is_ascii (host ++ port_text port) target, list_all-append is_ascii host (port_text port), own, number, rest) refl

-- ---- keeping

is_kept : (bytes host target : List ℕ) (host_len authority_len port : ℕ) → kept_host bytes host_len ≡ host → kept_target bytes authority_len ≡ target → IsNormal host port target → bytes ≡ codes "http://" ++ (authority_text host port ++ target) → host_len ≡ length host → authority_len ≡ length (authority_text host port) → IsKept bytes host_len authority_len port
is_kept bytes host target host_len authority_len port hosts targets n is hl al =
    record {
      normal = rw (hosts, targets) n;
      text = rw (hosts, targets) is;
      host = rw hosts hl;
      ascii = rw is (ascii-whole host target port n);
      authority = rw hosts al;
    }

-- the text of an address in its normal form can be kept
pub keeps : (bytes host target : List ℕ) (host_len authority_len port : ℕ) → IsNormal host port target → bytes ≡ codes "http://" ++ (authority_text host port ++ target) → host_len ≡ length host → authority_len ≡ length (authority_text host port) → IsKept bytes host_len authority_len port × (kept_address bytes host_len authority_len port ≡ with_target host port target)
keeps bytes host target host_len authority_len port n is hl al =
    let hosts : kept_host bytes host_len ≡ host =
    rw (is, hl) (ap (λ front. take (length host) (front ++ target)) (authority-port host port) ∙ ap (take (length host)) (append_assoc host (port_text port) target) ∙ take-append_seam host (port_text port ++ target)) in
    let targets : kept_target bytes authority_len ≡ target =
    rw (is, al) (drop-append-add (codes "http://") (authority_text host port ++ target) (length (authority_text host port)) ∙ drop-append_seam (authority_text host port) target) in
    (is_kept bytes host target host_len authority_len port hosts targets n is hl al, rw (hosts, targets) refl)

pub normal-spelled : (s : Spelled) → IsSpelled s → IsNormal (str_to_ascii_lowercase s.host) s.port (rooted s.rest)
normal-spelled s h =
    let root = is_rooted s.rest h.rest in
    record { is_host = is_host-lower s.host h.host; lower = is_lower-lower s.host; low = h.low; high = h.high; after_slash = root.after_slash; slash = root.slash; bytes = root.bytes }

-- the text that is made of the parts
pub made : (s : Spelled) (a b c d : List ℕ) → IsSpelled s → a ≡ codes "http://" → b ≡ a ++ map to_ascii_lowercase s.host → c ≡ b ++ port_text s.port → d ≡ c ++ rooted s.rest → IsKept d (length s.host) (length c - 7) s.port × (kept_address d (length s.host) (length c - 7) s.port ≡ normal s)
made s a b c d h ea eb ec ed =
    let host = str_to_ascii_lowercase s.host in
    let front : c ≡ codes "http://" ++ authority_text host s.port = rw (ec, eb, ea, authority-port host s.port) refl in
    keeps d host (rooted s.rest) (length s.host) (length c - 7) s.port (normal-spelled s h) (rw (ed, front) refl) (sym (length-map s.host to_ascii_lowercase)) (rw front (omega arith))

-- more characters of a target
pub extended_as : (bytes longer : List ℕ) (host_len authority_len port : ℕ) (a : Address) → IsKept bytes host_len authority_len port → kept_address bytes host_len authority_len port ≡ a → (e : Extends a longer) → IsKept longer host_len authority_len port × (kept_address longer host_len authority_len port ≡ with_target (kept_host bytes host_len) port (kept_target bytes authority_len ++ e.more))
extended_as bytes longer host_len authority_len port a kept is e =
    let host = kept_host bytes host_len in
    let target = kept_target bytes authority_len in
    let n = kept.normal in
    let more : IsNormal host port (target ++ e.more) = record {
      is_host = n.is_host;
      lower = n.lower;
      low = n.low;
      high = n.high;
      after_slash = n.after_slash ++ e.more;
      slash = ap (λ front. front ++ e.more) n.slash;
      bytes = rw (list_all-append is_address_byte n.after_slash e.more, n.bytes) e.bytes;
    } in
    let text : longer ≡ codes "http://" ++ (authority_text host port ++ (target ++ e.more)) =
    e.is_text ∙ ap (λ front. front ++ e.more) (sym (kept_text bytes host_len authority_len port a kept is) ∙ kept.text) ∙ ap (λ rest. codes "http://" ++ rest) (append_assoc (authority_text host port) target e.more) in
    keeps longer host (target ++ e.more) host_len authority_len port more text kept.host kept.authority

pub extended : (bytes longer : List ℕ) (host_len authority_len port : ℕ) (a : Address) → IsKept bytes host_len authority_len port → kept_address bytes host_len authority_len port ≡ a → Extends a longer → IsKept longer host_len authority_len port
extended bytes longer host_len authority_len port a kept is e = (extended_as bytes longer host_len authority_len port a kept is e).0

-- the host and the port stay
pub extended_shares : (bytes longer : List ℕ) (host_len authority_len port : ℕ) (a : Address) → IsKept bytes host_len authority_len port → kept_address bytes host_len authority_len port ≡ a → Extends a longer → ShareAuthority a (kept_address longer host_len authority_len port)
extended_shares bytes longer host_len authority_len port a kept is e =
    let same = (extended_as bytes longer host_len authority_len port a kept is e).1 in
    record { host = ap (λ (x : Address). x.host) same ∙ ap (λ (x : Address). x.host) is; port = ap (λ (x : Address). x.port) same ∙ ap (λ (x : Address). x.port) is }

-- ---- IRIs

address-below : (b : ℕ) → is_address_byte b ≡ true → b < 128
address-below b h = grind (arith, nat_tests, is_ascii-address b h)

pub iri_byte-address : (b : ℕ) → is_address_byte b ≡ true → is_iri_byte b ≡ true
iri_byte-address b h = implied (is_address_byte b) (is_iri_byte b) (agree_below_at (λ x. not (is_address_byte x) || is_iri_byte x) (λ _. true) 128 b refl (address-below b h)) h

iri_byte-host : (b : ℕ) → is_host_byte b ≡ true → is_iri_byte b ≡ true
iri_byte-host b h = implied (is_host_byte b) (is_iri_byte b) (agree_below_at (λ x. not (is_host_byte x) || is_iri_byte x) (λ _. true) 128 b refl (host_below b h)) h

iri-port_text : (port : ℕ) → port ≤ HIGHEST_PORT → list_all is_iri_byte (port_text port) ≡ true
iri-port_text port high = elim (port == 80) as (λ v. list_all is_iri_byte (cond v [] (codes ":" ++ decimal port)) ≡ true) [
  | true ↦ refl
  | false ↦ list_all-wider is_ascii_digit is_iri_byte digit_iri (decimal port) (all_digits-decimal port (omega arith))
]

iri-bytes : (host target : List ℕ) (port : ℕ) → IsNormal host port target → list_all is_iri_byte (authority_text host port ++ target) ≡ true
iri-bytes host target port n =
    let own = list_all-wider is_host_byte is_iri_byte iri_byte-host host (all_host host n.is_host) in
    let number = iri-port_text port n.high in
    let rest : list_all is_iri_byte target ≡ true = rw n.slash (list_all-wider is_address_byte is_iri_byte iri_byte-address n.after_slash n.bytes) in
    rw (authority-port host port, list_all-append is_iri_byte (host ++ port_text port) target, list_all-append is_iri_byte host (port_text port), own, number, rest) refl

http-iri : (rest : List ℕ) → list_all is_iri_byte rest ≡ true → is_iri (codes "http://" ++ rest) ≡ true
http-iri rest all = and_from (list_all is_iri_byte rest) true all refl

-- the text of an address is an IRI
pub kept_iri : (bytes : List ℕ) (host_len authority_len port : ℕ) → IsKept bytes host_len authority_len port → is_iri bytes ≡ true
kept_iri bytes host_len authority_len port kept =
    subst (λ (x : List ℕ). is_iri x ≡ true) (sym kept.text) (http-iri (authority_text (kept_host bytes host_len) port ++ kept_target bytes authority_len) (iri-bytes (kept_host bytes host_len) (kept_target bytes authority_len) port kept.normal))

-- an address has a query where its target holds a ?
pub query-some : (target : List ℕ) → list_any (λ b. b == 63) target ≡ is_some (query_of target)
query-some [] = refl
query-some (b ∷ target) = rw (query-some target) (elim (b == 63) as (λ v. v || is_some (query_of target) ≡ is_some (cond v (Some target) (query_of target))) [ true ↦ refl | false ↦ refl ])

pub query_part : (bytes part : List ℕ) (host_len authority_len port : ℕ) (a : Address) → kept_address bytes host_len authority_len port ≡ a → part ≡ take (length bytes - (7 + authority_len)) (drop (7 + authority_len) bytes) → list_any (λ b. b == 63) part ≡ is_some a.query
query_part bytes part host_len authority_len port a is cut =
    let all = take_all (length bytes - (7 + authority_len)) (drop (7 + authority_len) bytes) (simp length-drop (omega arith)) in
    rw (← is, cut, all) (query-some (kept_target bytes authority_len))

-- nothing before the target holds a ?
pub unmarked : (p : ℕ → Bool) → ((b : ℕ) → p b ≡ true → (b == 63) ≡ false) → (bytes : List ℕ) → list_all p bytes ≡ true → list_any (λ b. b == 63) bytes ≡ false
unmarked p apart [] all = refl
unmarked p apart (b ∷ bytes) all = rw (apart b (and_first (p b) _ all), unmarked p apart bytes (and_second (p b) _ all)) refl

pub unmarked-host : (b : ℕ) → is_host_byte b ≡ true → (b == 63) ≡ false
unmarked-host b h = grind (arith, nat_tests)

pub unmarked-digit : (b : ℕ) → is_ascii_digit b ≡ true → (b == 63) ≡ false
unmarked-digit b h = grind (arith, nat_tests)

pub unmarked-port : (port : ℕ) → port ≤ HIGHEST_PORT → list_any (λ b. b == 63) (port_text port) ≡ false
unmarked-port port high = elim (port == 80) as (λ v. list_any (λ b. b == 63) (cond v [] (codes ":" ++ decimal port)) ≡ false) [
  | true ↦ refl
  | false ↦ unmarked is_ascii_digit unmarked-digit (decimal port) (all_digits-decimal port (omega arith))
]

pub unmarked-authority : (host target : List ℕ) (port : ℕ) → IsNormal host port target → list_any (λ b. b == 63) (authority_text host port) ≡ false
unmarked-authority host target port n =
    let own = unmarked is_host_byte unmarked-host host (all_host host n.is_host) in
    rw (authority-port host port, list_any-append (λ b. b == 63) host (port_text port), own) (unmarked-port port n.high)

-- so an address has a query where its text holds a ?
pub query_in_text : (bytes part : List ℕ) (host_len authority_len port : ℕ) (a : Address) → IsKept bytes host_len authority_len port → kept_address bytes host_len authority_len port ≡ a → part ≡ take (length bytes - (7 + authority_len)) (drop (7 + authority_len) bytes) → list_any (λ b. b == 63) part ≡ list_any (λ b. b == 63) (address_text a)
query_in_text bytes part host_len authority_len port a kept is cut =
    let host = kept_host bytes host_len in
    let target = kept_target bytes authority_len in
    let all = take_all (length bytes - (7 + authority_len)) (drop (7 + authority_len) bytes) (simp length-drop (omega arith)) in
    let whole : list_any (λ b. b == 63) bytes ≡ list_any (λ b. b == 63) target =
    ap (list_any (λ b. b == 63)) kept.text ∙ list_any-append (λ b. b == 63) (authority_text host port) target ∙ ap (λ (front : Bool). front || list_any (λ b. b == 63) target) (unmarked-authority host target port kept.normal) in
    ap (list_any (λ b. b == 63)) (cut ∙ all) ∙ sym whole ∙ ap (list_any (λ b. b == 63)) (kept_text bytes host_len authority_len port a kept is)
