-- The bytes of authorities and targets.
use Rattle.std.proofs.Common.{◌≡◌, ℕ, ◌<◌, Bool, true, false, not, ◌==◌, List, [], ◌∷◌, ◌++◌, length, refl, ap, if◌then◌else◌, ◌∙◌, arith, Option, cond}
use Rattle.std.specs.Prelude.{◌&&◌, ◌^◌, codes, decimal, nat_lt, nat_le, IsUtf8}
use Rattle.std.specs.Char.{is_ascii, is_ascii_digit}
use Rattle.std.specs.List.{list_all}
use Rattle.std.proofs.lemmas.Bool.Decides.{nat_tests}
use Rattle.std.proofs.lemmas.Bool.{and_parts, and_from}
use Rattle.std.proofs.lemmas.List.Folds.{list_all-append}
use Rattle.std.proofs.lemmas.List.Elements.{All-nil, All-cons}
use Rattle.httparse.specs.Grammar.{AllPass, is_value_byte, is_uri_byte}
use Rattle.tpf_base.proofs.AddressBytes.{address_bytes, port_below, query_bytes}
use Rattle.tpf_base.specs.Addresses.{Address, IsAddress, is_host, is_host_byte, is_address_byte, is_path_byte, is_path, is_query_part, query_text, authority_text, authority_of, target_of}
use Rattle.tpf_base.specs.HttpHeads.{are_visible}
use Rattle.template_fill.proofs.Addresses.{IsRooted, authority-port, all_host, is_host-lower, all_digits-decimal, utf8-ascii}
use Rattle.template_fill.proofs.Passing.{list_all-wider}
use Rattle.template_fill.specs.WebAddress.{port_text}
use Rattle.http_ends.specs.Requests.{is_plain, IsPlain, parts_of}

-- visible ASCII
abbrev pub is_seen : ℕ → Bool
is_seen b = nat_lt 32 b && nat_lt b 127

pub passes : (test : ℕ → Bool) (bs : List ℕ) → list_all test bs ≡ true → AllPass test bs
passes test [] all = All-nil (λ v. test v ≡ true)
passes test (b ∷ bs) all = let parts = and_parts (test b) (list_all test bs) all in All-cons (λ v. test v ≡ true) b bs parts.0 (passes test bs parts.1)

plain_byte : (b : ℕ) → is_seen b ≡ true → is_plain b ≡ true
plain_byte b h = grind (arith, nat_tests)

value_byte : (b : ℕ) → is_seen b ≡ true → is_value_byte b ≡ true
value_byte b h = grind (arith, nat_tests)

uri_byte : (b : ℕ) → is_seen b ≡ true → is_uri_byte b ≡ true
uri_byte b h = grind (arith, nat_tests)

ascii_byte : (b : ℕ) → is_seen b ≡ true → is_ascii b ≡ true
ascii_byte b h = grind (arith, nat_tests)

host_byte : (b : ℕ) → is_host_byte b ≡ true → is_seen b ≡ true
host_byte b h = grind (arith, nat_tests)

pub seen_digit : (b : ℕ) → is_ascii_digit b ≡ true → is_seen b ≡ true
seen_digit b h = grind (arith, nat_tests)

pub value_digit : (b : ℕ) → is_ascii_digit b ≡ true → is_value_byte b ≡ true
value_digit b h = grind (arith, nat_tests)

address_byte : (b : ℕ) → is_address_byte b ≡ true → is_seen b ≡ true
address_byte b h = (and_parts (nat_lt 32 b && nat_lt b 127) _ h).0

visible_byte : (b : ℕ) → is_address_byte b ≡ true → (nat_le 33 b && (nat_le b 126 && not (b == 35))) ≡ true
visible_byte b h = grind (arith, nat_tests)

pub plain : (bs : List ℕ) → list_all is_seen bs ≡ true → list_all is_plain bs ≡ true
plain = list_all-wider is_seen is_plain plain_byte

pub value : (bs : List ℕ) → list_all is_seen bs ≡ true → list_all is_value_byte bs ≡ true
value = list_all-wider is_seen is_value_byte value_byte

pub uri : (bs : List ℕ) → list_all is_seen bs ≡ true → list_all is_uri_byte bs ≡ true
uri = list_all-wider is_seen is_uri_byte uri_byte

pub text : (bs : List ℕ) → list_all is_seen bs ≡ true → IsUtf8 bs
text bs all = utf8-ascii bs (list_all-wider is_seen is_ascii ascii_byte bs all)

pub seen_digits : (n : ℕ) → n < 2 ^ 64 → list_all is_seen (decimal n) ≡ true
seen_digits n small = list_all-wider is_ascii_digit is_seen seen_digit (decimal n) (all_digits-decimal n small)

-- ---- of an address

seen_port : (port : ℕ) → port < 65536 → list_all is_seen (port_text port) ≡ true
seen_port port high = elim (port == 80) as (λ v. list_all is_seen (cond v [] (codes ":" ++ decimal port)) ≡ true) [
  | true ↦ refl
  | false ↦ seen_digits port (omega arith)
]

seen_authority : (host : List ℕ) (port : ℕ) → is_host host ≡ true → port < 65536 → list_all is_seen (authority_text host port) ≡ true
seen_authority host port is high =
    ap (list_all is_seen) (authority-port host port) ∙ list_all-append is_seen host (port_text port)
    ∙ and_from (list_all is_seen host) (list_all is_seen (port_text port)) (list_all-wider is_host_byte is_seen host_byte host (all_host host is)) (seen_port port high)

pub authority_seen : (bytes : List ℕ) (address : Address) → IsAddress bytes address → list_all is_seen (authority_of address) ≡ true
authority_seen bytes address is =
    let host : is_host address.host ≡ true = ap is_host is.host_kept ∙ is_host-lower is.typed_host is.host in
    seen_authority address.host address.port host (port_below is.typed_port address.port is.port)

target_parts : (typed path : List ℕ) (query : Option (List ℕ)) → is_path typed ≡ true → path ≡ (if length typed == 0 then codes "/" else typed) → is_query_part query ≡ true
    → IsRooted (path ++ query_text query)
target_parts [] path query h is own =
    record { after_slash = query_text query; slash = ap (λ (p : List ℕ). p ++ query_text query) is; bytes = query_bytes query own }
target_parts (b ∷ rest) path query h is own =
    let parts = and_parts (b == 47) (list_all is_path_byte rest) h in
    let first : b ≡ 47 = grind (arith, nat_tests) in
    let whole : path ≡ b ∷ rest = is ∙ ap (λ (v : Bool). if v then codes "/" else b ∷ rest) (some b rest) in
    record {
      after_slash = rest ++ query_text query;
      slash = ap (λ (p : List ℕ). p ++ query_text query) whole ∙ ap (λ (x : ℕ). x ∷ (rest ++ query_text query)) first;
      bytes = list_all-append is_address_byte rest (query_text query)
          ∙ and_from (list_all is_address_byte rest) (list_all is_address_byte (query_text query)) (address_bytes rest parts.1) (query_bytes query own);
    }
  where
    some : (b : ℕ) (rest : List ℕ) → (length (b ∷ rest) == 0) ≡ false
    some b rest = grind (arith, nat_tests)

pub target_rooted : (bytes : List ℕ) (address : Address) → IsAddress bytes address → IsRooted (target_of address)
target_rooted bytes address is = target_parts is.typed_path address.path address.query is.path is.path_kept is.query

pub rooted_seen : (target : List ℕ) → IsRooted target → list_all is_seen target ≡ true
rooted_seen target rooted = ap (list_all is_seen) rooted.slash ∙ list_all-wider is_address_byte is_seen address_byte rooted.after_slash rooted.bytes

pub rooted_visible : (after : List ℕ) → list_all is_address_byte after ≡ true → are_visible (47 ∷ after) ≡ true
unfolding are_visible
rooted_visible after all = list_all-wider is_address_byte (λ b. nat_le 33 b && (nat_le b 126 && not (b == 35))) visible_byte after all

pub address_plain : (bytes : List ℕ) (address : Address) → IsAddress bytes address → IsPlain (parts_of address)
address_plain bytes address is = record {
  authority = plain (authority_of address) (authority_seen bytes address is);
  target = plain (target_of address) (rooted_seen (target_of address) (target_rooted bytes address is));
}
