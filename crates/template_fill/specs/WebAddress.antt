-- An address as it is kept: its text in the normal form, and where the host and the authority end in it.
use Rattle.std.specs.Prelude.{ℕ, ◌≡◌, ◌+◌, ◌<◌, ◌≤◌, Bool, true, not, ◌==◌, List, [], ◌∷◌, codes, ◌++◌, length, take, drop, decimal, if◌then◌else◌}
use Rattle.std.specs.List.{list_all}
use Rattle.std.specs.Char.{is_ascii, is_ascii_uppercase}
use Rattle.tpf_base.specs.Addresses.{Address, IsAddress, authority_text, address_text, is_address_byte, is_host}
use Rattle.tpf_base.specs.declared.limits.TheConstants.{HIGHEST_PORT}
use Rattle.template_fill.specs.ReadAddress.{with_target}

-- what is kept
abbrev pub kept_host : List ℕ → ℕ → List ℕ
kept_host text host_len = take host_len (drop 7 text)

abbrev pub kept_target : List ℕ → ℕ → List ℕ
kept_target text authority_len = drop (7 + authority_len) text

abbrev pub kept_address : List ℕ → ℕ → ℕ → ℕ → Address
kept_address text host_len authority_len port = with_target (kept_host text host_len) port (kept_target text authority_len)

-- a host in lower case
abbrev pub is_lower : List ℕ → Bool
is_lower host = list_all (λ b. not (is_ascii_uppercase b)) host

-- the parts of an address in its normal form
pub record IsNormal (host : List ℕ) (port : ℕ) (target : List ℕ) : Type 0 where
  pub is_host : is_host host ≡ true
  pub lower : is_lower host ≡ true
  pub low : 0 < port
  pub high : port ≤ HIGHEST_PORT
  pub after_slash : List ℕ
  pub slash : target ≡ 47 ∷ after_slash
  pub bytes : list_all is_address_byte after_slash ≡ true

pub record IsKept (bytes : List ℕ) (host_len authority_len port : ℕ) : Type 0 where
  pub normal : IsNormal (kept_host bytes host_len) port (kept_target bytes authority_len)
  pub text : bytes ≡ codes "http://" ++ (authority_text (kept_host bytes host_len) port ++ kept_target bytes authority_len)
  pub host : host_len ≡ length (kept_host bytes host_len)
  pub ascii : list_all is_ascii bytes ≡ true
  pub authority : authority_len ≡ length (authority_text (kept_host bytes host_len) port)

-- : and the port, unless that is 80
abbrev pub port_text : ℕ → List ℕ
port_text port = if port == 80 then [] else codes ":" ++ decimal port

-- the text is no address, whatever the parts
abbrev pub IsNoAddress : List ℕ → Type 0
IsNoAddress text = (a : Address) → IsAddress text a → ⊥

-- a text is one address at most
abbrev pub OneAddress : Type 0
OneAddress = (text : List ℕ) (a b : Address) → IsAddress text a → IsAddress text b → a ≡ b

-- the text is that of the address and more characters of a target
pub record Extends (a : Address) (text : List ℕ) : Type 0 where
  pub more : List ℕ
  pub is_text : text ≡ address_text a ++ more
  pub bytes : list_all is_address_byte more ≡ true
