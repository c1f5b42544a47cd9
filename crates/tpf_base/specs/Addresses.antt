-- Web addresses: the http URIs of this profile (RFC 3986 3, RFC 9110 4.2.1), as lists of bytes.
use Rattle.std.specs.Prelude.{ℕ, ◌≡◌, ◌⊎◌, Bool, true, not, ◌==◌, ◌&&◌, ◌||◌, nat_lt, nat_le, List, [], ◌∷◌, ◌++◌, length, Option, Some, None, if◌then◌else◌, codes, decimal}
use Rattle.std.specs.Char.{is_ascii_alphanumeric}
use Rattle.std.specs.Str.{str_to_ascii_lowercase}
use Rattle.std.specs.List.{list_all, list_any}
use Rattle.tpf_base.specs.declared.limits.TheConstants.{HIGHEST_PORT}

-- an ASCII letter, a digit, - or .
abbrev pub is_host_byte : ℕ → Bool
is_host_byte b = is_ascii_alphanumeric b || (b == 45) || (b == 46)

-- 1 to 255 letters, digits, - and .
abbrev pub is_host : List ℕ → Bool
is_host host = nat_le 1 (length host) && nat_le (length host) 255 && list_all is_host_byte host

-- the characters U+0021 to U+007E but # " < > \ ^ ` { | }
abbrev pub is_address_byte : ℕ → Bool
is_address_byte b = nat_lt 32 b && nat_lt b 127 && not (list_any (λ c. b == c) (codes "#\"<>\\^`{|}"))

-- the same without ?
abbrev pub is_path_byte : ℕ → Bool
is_path_byte b = is_address_byte b && not (b == 63)

-- a path is empty or begins with /
abbrev pub is_path : List ℕ → Bool
is_path [] = true
is_path (b ∷ rest) = (b == 47) && list_all is_path_byte rest

-- what may follow the ? of an address, where it has one
abbrev pub is_query_part : Option (List ℕ) → Bool
is_query_part None = true
is_query_part (Some query) = list_all is_address_byte query

-- a port is 1 to HIGHEST_PORT
abbrev pub is_port : ℕ → Bool
is_port port = nat_le 1 port && nat_le port HIGHEST_PORT

-- an address by its parts, as they stand once it was read
pub record Address : Type 0 where
  pub host : List ℕ
  pub port : ℕ
  pub path : List ℕ
  pub query : Option (List ℕ)

-- host, or host:port unless the port is 80
abbrev pub authority_text : List ℕ → ℕ → List ℕ
authority_text host port = if port == 80 then host else (host ++ codes ":" ++ decimal port)

abbrev pub authority_of : Address → List ℕ
authority_of address = authority_text address.host address.port

-- ? and the query, or nothing
abbrev pub query_text : Option (List ℕ) → List ℕ
query_text None = []
query_text (Some query) = 63 ∷ query

-- path with query: what a request asks for (RFC 9112 3.2.1)
abbrev pub target_of : Address → List ℕ
target_of address = address.path ++ query_text address.query

-- the normal text of an address
abbrev pub address_text : Address → List ℕ
address_text address = codes "http://" ++ authority_of address ++ target_of address

-- no port, which means 80, or a colon and 1 to HIGHEST_PORT in digits without a leading zero
abbrev pub IsPortTyped : List ℕ → ℕ → Type 0
IsPortTyped typed port = ((typed ≡ []) × (port ≡ 80)) ⊎ ((typed ≡ codes ":" ++ decimal port) × (is_port port ≡ true))

-- The text is an address with these parts. As it is typed the host may have letters in upper case, the port 80 may stand, and the path may be empty, which means /.
pub record IsAddress (text : List ℕ) (address : Address) : Type 0 where
  pub typed_host : List ℕ
  pub typed_port : List ℕ
  pub typed_path : List ℕ
  pub is_text : text ≡ codes "http://" ++ typed_host ++ typed_port ++ typed_path ++ query_text address.query
  pub host : is_host typed_host ≡ true
  pub host_kept : address.host ≡ str_to_ascii_lowercase typed_host
  pub port : IsPortTyped typed_port address.port
  pub path : is_path typed_path ≡ true
  pub path_kept : address.path ≡ (if length typed_path == 0 then codes "/" else typed_path)
  pub query : is_query_part address.query ≡ true

-- the text is the authority of some address
pub record IsAuthority (text : List ℕ) : Type 0 where
  pub host : List ℕ
  pub port : ℕ
  pub is_text : text ≡ authority_text (str_to_ascii_lowercase host) port
  pub is_host : is_host host ≡ true
  pub is_port : is_port port ≡ true
