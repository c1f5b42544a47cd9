-- The bytes of an address and of its parts, and its port.
use Rattle.std.proofs.Common.{ℕ, ◌≡◌, ◌<◌, ◌≤◌, true, not, ◌==◌, List, [], ◌∷◌, Option, Some, None, nat_le, inl, inr, refl, arith}
use Rattle.std.specs.List.{list_all}
use Rattle.std.proofs.lemmas.Bool.{and_from, leb-true}
use Rattle.std.proofs.lemmas.Bool.Decides.{nat_tests}
use Rattle.list_laws.proofs.Tests.{and_first, and_second}
use Rattle.tpf_base.specs.declared.limits.TheConstants.{HIGHEST_PORT}
use Rattle.tpf_base.specs.Addresses.{is_host_byte, is_address_byte, is_path_byte, is_query_part, query_text, IsPortTyped}

pub host_below : (b : ℕ) → is_host_byte b ≡ true → b < 128
host_below b h = grind (arith, nat_tests)

pub address_bytes : (path : List ℕ) → list_all is_path_byte path ≡ true → list_all is_address_byte path ≡ true
address_bytes [] all = refl
address_bytes (b ∷ path) all =
    and_from (is_address_byte b) (list_all is_address_byte path)
    (and_first (is_address_byte b) (not (b == 63)) (and_first (is_path_byte b) (list_all is_path_byte path) all))
    (address_bytes path (and_second (is_path_byte b) (list_all is_path_byte path) all))

pub query_bytes : (query : Option (List ℕ)) → is_query_part query ≡ true → list_all is_address_byte (query_text query) ≡ true
query_bytes None is = refl
query_bytes (Some query) is = is

pub port_below : (typed : List ℕ) (port : ℕ) → IsPortTyped typed port → port < 65536
port_below typed port (inl (none, is)) = omega (arith, is)
port_below typed port (inr (some, is)) = let most : port ≤ 65535 = leb-true port HIGHEST_PORT (and_second (nat_le 1 port) (nat_le port HIGHEST_PORT) is) in omega (arith, most)
