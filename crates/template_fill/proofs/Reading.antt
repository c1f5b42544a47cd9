-- The reader of addresses reads what an address is, and nothing else.
use Rattle.std.proofs.Common.{◌≡◌, ℕ, ◌^◌, ◌<◌, ◌≤◌, List, [], ◌∷◌, ◌++◌, Bool, true, false, not, ◌==◌, ◌||◌, cond, nat_le, Some, None, Option, length, get_or, refl, sym, ◌∙◌, ap, subst, arith, inl, inr, one-add}
use Rattle.std.specs.Prelude.{codes, decimal}
use Rattle.std.specs.List.{list_all, prefix_len}
use Rattle.std.specs.Char.{is_ascii_digit}
use Rattle.std.specs.Str.Parse.{digits_value}
use Rattle.std.proofs.lemmas.List.Folds.{list_all-append}
use Rattle.std.proofs.lemmas.Bool.Decides.{nat_tests}
use Rattle.std.proofs.lemmas.Fmt.{decimal_is_IsNumeral, first_decimal}
use Rattle.std.proofs.Math.Seq.{drop-append_seam, take-append_seam}
use Rattle.tpf_base.proofs.AddressBytes.{address_bytes, query_bytes}
use Rattle.list_laws.proofs.Tests.{and_first, and_second}
use Rattle.tpf_base.specs.Addresses.{Address, IsAddress, IsPortTyped, is_host_byte, is_host, is_address_byte, is_path_byte, is_path, is_query_part, is_port, query_text}
use Rattle.tpf_base.specs.declared.limits.TheConstants.{HIGHEST_PORT}
use Rattle.template_fill.specs.ReadAddress.{Spells, after_scheme, is_port_text, port_part, is_rest, rooted, path_of, query_of, Spelled, IsSpelled, read_spelled, normal, read_address}
use Rattle.template_fill.proofs.Addresses.{target-parts, all_digits-decimal, all_host, is_path_byte-path, is_query_part-query, not_empty, four}
use Rattle.template_fill.specs.WebAddress.{IsNoAddress}
use Rattle.std.specs.Option.{option_map}
use Rattle.std.proofs.lemmas.Bool.{and_from, not-true}

-- ---- fronts

-- the longest front of what is a passing list and something that begins otherwise
pub prefix_len-front : (p : ℕ → Bool) (xs ys : List ℕ) → list_all p xs ≡ true → prefix_len p ys ≡ 0 → prefix_len p (xs ++ ys) ≡ length xs
prefix_len-front p [] ys all none = none
prefix_len-front p (x ∷ xs) ys all none =
    rw (and_first (p x) _ all, prefix_len-front p xs ys (and_second (p x) _ all) none) (one-add (length xs))

-- ---- what a complete address is read as

pub after_scheme-of : (rest : List ℕ) → after_scheme (codes "http://" ++ rest) ≡ Some rest
unfolding after_scheme
after_scheme-of rest = refl

-- what may follow the authority begins with no byte of a host or a port
pub record IsTail (tail : List ℕ) : Type 0 where
  pub rest : is_rest tail ≡ true
  pub host : prefix_len is_host_byte tail ≡ 0
  pub digit : prefix_len is_ascii_digit tail ≡ 0

pub is_tail : (path : List ℕ) (query : Option (List ℕ)) → is_path path ≡ true → is_query_part query ≡ true → IsTail (path ++ query_text query)
is_tail [] None p q = record { rest = refl; host = refl; digit = refl }
is_tail [] (Some query) p q = record { rest = q; host = refl; digit = refl }
is_tail (b ∷ path) query p q =
    let slash : b ≡ 47 = grind (arith, nat_tests, and_first (b == 47) _ p) in
    let bytes : list_all is_address_byte (path ++ query_text query) ≡ true =
    rw (list_all-append is_address_byte path (query_text query), address_bytes path (and_second (b == 47) _ p)) (query_bytes query q) in
    rw slash (record { rest = bytes; host = refl; digit = refl })

-- the path and the query of what follows an authority
pub parts-target : (path : List ℕ) (query : Option (List ℕ)) → list_all is_path_byte path ≡ true → (path_of (path ++ query_text query) ≡ path) × (query_of (path ++ query_text query) ≡ query)
parts-target [] None all = (refl, refl)
parts-target [] (Some query) all = (refl, refl)
parts-target (b ∷ path) query all =
    let more = parts-target path query (and_second (is_path_byte b) _ all) in
    let own = and_second (is_address_byte b) (not (b == 63)) (and_first (is_path_byte b) _ all) in
    let no : (b == 63) ≡ false = not-true (b == 63) own in
    (rw (no, more.0) refl, rw (no, more.1) refl)

-- ---- ports

port_text_of : (digits : List ℕ) → 48 < get_or digits 0 0 → digits_value 10 digits ≤ HIGHEST_PORT → is_port_text digits ≡ true
port_text_of [] first small = absurd (omega arith)
port_text_of (b ∷ digits) first small = and_from (not (b == 48)) _ (grind (arith, nat_tests)) (grind (arith, nat_tests))

pub is_port_text-decimal : (port : ℕ) → is_port port ≡ true → is_port_text (decimal port) ≡ true
is_port_text-decimal port h =
    let low : 0 < port = grind (arith, nat_tests, and_first (nat_le 1 port) _ h) in
    let high : port ≤ HIGHEST_PORT = grind (arith, nat_tests, and_second (nat_le 1 port) _ h) in
    let small : port < 2 ^ 64 = omega arith in
    let numeral = decimal_is_IsNumeral port small in
    port_text_of (decimal port) (first_decimal port low small) (rw numeral.1 high)

no_port : (tail : List ℕ) → IsTail tail → port_part tail ≡ Some (80, tail)
unfolding port_part
no_port [] t = refl
no_port (b ∷ tail) t =
    let mark = and_first ((b == 47) || (b == 63)) _ t.rest in
    let other : (b == 58) ≡ false = grind (arith, nat_tests) in
    rw other refl

with_port : (port : ℕ) (tail : List ℕ) → is_port port ≡ true → IsTail tail → port_part (58 ∷ (decimal port ++ tail)) ≡ Some (port, tail)
unfolding port_part
with_port port tail h t =
    let high : port ≤ HIGHEST_PORT = grind (arith, nat_tests, and_second (nat_le 1 port) _ h) in
    let small : port < 2 ^ 64 = omega arith in
    let len = prefix_len-front is_ascii_digit (decimal port) tail (all_digits-decimal port small) t.digit in
    let value = (decimal_is_IsNumeral port small).1 in
    rw (len, take-append_seam (decimal port) tail, drop-append_seam (decimal port) tail, is_port_text-decimal port h, value) refl

pub port_part-of : (typed tail : List ℕ) (port : ℕ) → IsPortTyped typed port → IsTail tail → port_part (typed ++ tail) ≡ Some (port, tail)
unfolding port_part
port_part-of typed tail port (inl h) t = rw (h.0, h.1) (no_port tail t)
port_part-of typed tail port (inr h) t = rw h.0 (with_port port tail h.1 t)

-- ---- the rest of an address

pub record SplitsRest (rest : List ℕ) : Type 0 where
  pub path : is_path (path_of rest) ≡ true
  pub path_kept : path_of (rooted rest) ≡ cond (length (path_of rest) == 0) (codes "/") (path_of rest)
  pub query : is_query_part (query_of (rooted rest)) ≡ true
  pub query_kept : query_of (rooted rest) ≡ query_of rest

slash_rest : (rest : List ℕ) → list_all is_address_byte rest ≡ true → SplitsRest (47 ∷ rest)
slash_rest rest all = record {
  path = is_path_byte-path rest all;
  path_kept = rw (not_empty 47 (path_of rest)) refl;
  query = is_query_part-query rest all;
  query_kept = refl;
}

query_rest : (rest : List ℕ) → list_all is_address_byte rest ≡ true → SplitsRest (63 ∷ rest)
query_rest rest all = record { path = refl; path_kept = refl; query = all; query_kept = refl }

pub splits_rest : (rest : List ℕ) → is_rest rest ≡ true → SplitsRest rest
splits_rest [] h = record { path = refl; path_kept = refl; query = refl; query_kept = refl }
splits_rest (b ∷ rest) h =
    let mark = and_first ((b == 47) || (b == 63)) _ h in
    let all = and_second ((b == 47) || (b == 63)) _ h in
    let go : (t : Bool) → (b == 47) ≡ t → SplitsRest (b ∷ rest) =
    λ t. elim t as (λ v. (b == 47) ≡ v → SplitsRest (b ∷ rest)) [
      | true ↦ λ yes. let is : 47 ≡ b = grind (arith, nat_tests) in subst (λ (x : ℕ). SplitsRest (x ∷ rest)) is (slash_rest rest all)
      | false ↦ λ no. let is : 63 ≡ b = grind (arith, nat_tests) in subst (λ (x : ℕ). SplitsRest (x ∷ rest)) is (query_rest rest all)
    ] in
    go (b == 47) refl

-- what is spelled is the address of the text
pub spells_is_address : (text : List ℕ) (s : Spelled) → IsSpelled s → Spells text s → IsAddress text (normal s)
spells_is_address text s h spells =
    let rest = splits_rest s.rest h.rest in
    record {
      typed_host = s.host;
      typed_port = spells.typed_port;
      typed_path = path_of s.rest;
      is_text = spells.is_text ∙ ap (λ more. codes "http://" ++ (s.host ++ (spells.typed_port ++ more))) (sym (target-parts s.rest)) ∙ ap (λ more. codes "http://" ++ more) (four s.host spells.typed_port (path_of s.rest) (query_text (query_of s.rest))) ∙ ap (λ query. codes "http://" ++ (((s.host ++ spells.typed_port) ++ path_of s.rest) ++ query_text query)) (sym rest.query_kept);
      host = h.host;
      host_kept = refl;
      port = spells.port;
      path = rest.path;
      path_kept = rest.path_kept;
      query = rest.query;
    }

-- ---- completeness

pub address-eq : (a : Address) (host : List ℕ) (port : ℕ) (path : List ℕ) (query : Option (List ℕ)) → host ≡ a.host → port ≡ a.port → path ≡ a.path → query ≡ a.query → record { host = host; port = port; path = path; query = query } ≡ a
address-eq a host port path query eh ep ea eq = rw (eh, ep, ea, eq) refl

pub record RootsPath (typed : List ℕ) (asked : Option (List ℕ)) : Type 0 where
  pub path : path_of (rooted (typed ++ query_text asked)) ≡ cond (length typed == 0) (codes "/") typed
  pub query : query_of (rooted (typed ++ query_text asked)) ≡ asked

roots_slash : (path : List ℕ) (query : Option (List ℕ)) → list_all is_path_byte path ≡ true → RootsPath (47 ∷ path) query
roots_slash path query all =
    let parts = parts-target path query all in
    record { path = rw (parts.0, not_empty 47 path) refl; query = parts.1 }

pub roots_path : (path : List ℕ) (query : Option (List ℕ)) → is_path path ≡ true → RootsPath path query
roots_path [] None h = record { path = refl; query = refl }
roots_path [] (Some query) h = record { path = refl; query = refl }
roots_path (b ∷ path) query h =
    let is : 47 ≡ b = grind (arith, nat_tests, and_first (b == 47) _ h) in
    subst (λ (x : ℕ). RootsPath (x ∷ path) query) is (roots_slash path query (and_second (b == 47) _ h))

pub no_host_front : (typed tail : List ℕ) (port : ℕ) → IsPortTyped typed port → IsTail tail → prefix_len is_host_byte (typed ++ tail) ≡ 0
no_host_front typed tail port (inl h) t = rw h.0 t.host
no_host_front typed tail port (inr h) t = rw h.0 refl

pub read_of : (host typed tail : List ℕ) (port : ℕ) → is_host host ≡ true → IsPortTyped typed port → IsTail tail → read_spelled (codes "http://" ++ (host ++ (typed ++ tail))) ≡ Some (record { host = host; port = port; rest = tail })
unfolding read_spelled
read_of host typed tail port h p t =
    let len = prefix_len-front is_host_byte host (typed ++ tail) (all_host host h) (no_host_front typed tail port p t) in
    rw (after_scheme-of (host ++ (typed ++ tail)), len, take-append_seam host (typed ++ tail), h, drop-append_seam host (typed ++ tail), port_part-of typed tail port p t, t.rest) refl

-- the reader reads each address
pub reads_address : (text : List ℕ) (a : Address) → IsAddress text a → read_address text ≡ Some a
reads_address text a r =
    let tail = is_tail r.typed_path a.query r.path r.query in
    let is : text ≡ codes "http://" ++ (r.typed_host ++ (r.typed_port ++ (r.typed_path ++ query_text a.query))) =
    r.is_text ∙ ap (λ more. codes "http://" ++ more) (sym (four r.typed_host r.typed_port r.typed_path (query_text a.query))) in
    let read = read_of r.typed_host r.typed_port (r.typed_path ++ query_text a.query) a.port r.host r.port tail in
    let roots = roots_path r.typed_path a.query r.path in
    rw (is, read) (ap Some (address-eq a _ _ _ _ (sym r.host_kept) refl (roots.path ∙ sym r.path_kept) roots.query))

-- a text has one address
pub one_address : (text : List ℕ) (a b : Address) → IsAddress text a → IsAddress text b → a ≡ b
one_address text a b ra rb = let first = reads_address text a ra in let second = reads_address text b rb in cc

none_some : (text : List ℕ) (a : Address) → read_spelled text ≡ None → read_address text ≡ Some a → ⊥
none_some text a none read = let same : option_map normal None ≡ Some a = sym (ap (option_map normal) none) ∙ read in cc

pub no_address : (text : List ℕ) → read_spelled text ≡ None → IsNoAddress text
no_address text none a r = let read = reads_address text a r in none_some text a none read
