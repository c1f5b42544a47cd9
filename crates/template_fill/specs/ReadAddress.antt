-- Reading an address from the left: a function that gives the address of a text, or nothing.
use Rattle.std.specs.Prelude.{ℕ, ◌≡◌, ◌<◌, ◌≤◌, Bool, true, false, not, ◌==◌, ◌&&◌, ◌||◌, nat_eq, nat_le, List, [], ◌∷◌, ◌++◌, length, drop, codes, Option, Some, None, if◌then◌else◌, decimal}
use Rattle.std.specs.List.{list_all, take_while, starts_with}
use Rattle.std.specs.Option.{option_map}
use Rattle.std.specs.Char.{is_ascii_digit}
use Rattle.std.specs.Str.{str_to_ascii_lowercase}
use Rattle.std.specs.Str.Parse.{digits_value}
pub use Rattle.list_laws.specs.Options.{◌>>=◌, when}
use Rattle.tpf_base.specs.Addresses.{Address, IsPortTyped, is_host_byte, is_host, is_address_byte}
use Rattle.tpf_base.specs.declared.limits.TheConstants.{HIGHEST_PORT}

-- what stands after http://
unfoldable pub after_scheme : List ℕ → Option (List ℕ)
after_scheme text = when (starts_with nat_eq text (codes "http://")) (drop 7 text)

-- digits without a leading zero, up to HIGHEST_PORT
abbrev pub is_port_text : List ℕ → Bool
is_port_text [] = false
is_port_text (b ∷ digits) = not (b == 48) && nat_le (digits_value 10 (b ∷ digits)) HIGHEST_PORT

-- what stands after an x at the front
abbrev pub opened : ℕ → List ℕ → Option (List ℕ)
opened x [] = None
opened x (b ∷ bytes) = if b == x then Some bytes else None

-- the port of the digits at the front, and what follows them
abbrev pub port_digits : List ℕ → Option (ℕ × List ℕ)
port_digits bytes = let digits = take_while is_ascii_digit bytes in when (is_port_text digits) (digits_value 10 digits, drop (length digits) bytes)

abbrev pub port_after : List ℕ → Option (List ℕ) → Option (ℕ × List ℕ)
port_after bytes None = Some (80, bytes)
port_after bytes (Some digits) = port_digits digits

-- the port after a host, 80 where none is written, and what follows it
unfoldable pub port_part : List ℕ → Option (ℕ × List ℕ)
port_part bytes = port_after bytes (opened 58 bytes)

-- what may follow the authority: nothing, or a path or a query with its mark
abbrev pub is_rest : List ℕ → Bool
is_rest [] = true
is_rest (b ∷ rest) = ((b == 47) || (b == 63)) && list_all is_address_byte rest

-- the target; an empty path is /
abbrev pub rooted : List ℕ → List ℕ
rooted [] = 47 ∷ []
rooted (b ∷ rest) = if b == 47 then b ∷ rest else 47 ∷ b ∷ rest

-- a target's path, and its query
abbrev pub path_of : List ℕ → List ℕ
path_of [] = []
path_of (b ∷ rest) = if b == 63 then [] else b ∷ path_of rest

abbrev pub query_of : List ℕ → Option (List ℕ)
query_of [] = None
query_of (b ∷ rest) = if b == 63 then Some rest else query_of rest

-- the parts of an address as they are written
pub record Spelled : Type 0 where
  pub host : List ℕ
  pub port : ℕ
  pub rest : List ℕ

-- parts that an address has
pub record IsSpelled (s : Spelled) : Type 0 where
  pub host : is_host s.host ≡ true
  pub low : 0 < s.port
  pub high : s.port ≤ HIGHEST_PORT
  pub rest : is_rest s.rest ≡ true

-- the text is the scheme, the host, a port as it is written, and the rest
pub record Spells (text : List ℕ) (s : Spelled) : Type 0 where
  pub typed_port : List ℕ
  pub is_text : text ≡ codes "http://" ++ (s.host ++ (typed_port ++ s.rest))
  pub port : IsPortTyped typed_port s.port

-- bytes are a port as it is written, and a rest
pub record SpellsPort (bytes : List ℕ) (port : ℕ) (rest : List ℕ) : Type 0 where
  pub typed_port : List ℕ
  pub is_bytes : bytes ≡ typed_port ++ rest
  pub typed : IsPortTyped typed_port port
  pub low : 0 < port
  pub high : port ≤ HIGHEST_PORT

-- bytes are the digits of a port, and a rest
pub record SpellsDigits (bytes : List ℕ) (port : ℕ) (rest : List ℕ) : Type 0 where
  pub is_bytes : bytes ≡ decimal port ++ rest
  pub low : 0 < port
  pub high : port ≤ HIGHEST_PORT

-- the longest host, the port, and all that follows; None where the text is no address
unfoldable pub read_spelled : List ℕ → Option Spelled
read_spelled text = do
  after ← after_scheme text
  host ← when (is_host (take_while is_host_byte after)) (take_while is_host_byte after)
  p ← port_part (drop (length host) after)
  when (is_rest p.1) (record { host = host; port = p.0; rest = p.1 })

-- the address with this authority and target
abbrev pub with_target : List ℕ → ℕ → List ℕ → Address
with_target host port target = record { host = host; port = port; path = path_of target; query = query_of target }

-- the address with these parts, the host in lower case
abbrev pub normal : Spelled → Address
normal s = with_target (str_to_ascii_lowercase s.host) s.port (rooted s.rest)

-- the address that a text is; None where it is none
abbrev pub read_address : List ℕ → Option Address
read_address text = option_map normal (read_spelled text)
