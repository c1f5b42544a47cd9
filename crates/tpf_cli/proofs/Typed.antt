-- The text of an address that was read is not much longer than what was read: 255 characters of a host, 6 of a port, and the / of an empty path.
use Rattle.std.proofs.Common.{ℕ, ◌≡◌, ◌==◌, ◌+◌, ◌<◌, ◌≤◌, ◌++◌, ◌&&◌, nat_le, Bool, true, false, List, [], ◌∷◌, length, drop, codes, decimal, Option, Some, None, if◌then◌else◌, refl, ap, subst, arith, length-append}
use Rattle.std.specs.Char.{is_ascii_digit, to_ascii_lowercase}
use Rattle.std.specs.List.{list_all, take_while}
use Rattle.std.specs.Str.{str_to_ascii_lowercase}
use Rattle.std.specs.Str.Parse.{digits_value}
use Rattle.std.proofs.lemmas.Bool.{and_parts}
use Rattle.std.proofs.lemmas.Fmt.{length-decimal-le}
use Rattle.std.proofs.lemmas.List.{length-drop, length-map}
use Rattle.list_laws.proofs.Options.{when_some, bind_some, map_some}
use Rattle.tpf_base.specs.Addresses.{Address, address_text, authority_text, is_host, is_host_byte}
use Rattle.template_fill.specs.ReadAddress.{Spelled, ◌>>=◌, when, after_scheme, is_port_text, is_rest, normal, opened, port_after, port_part, read_address, read_spelled, rooted}
use Rattle.template_fill.proofs.Addresses.{target-parts}
use Rattle.template_fill.proofs.Ports.{above_first}
use Rattle.plan_laws.proofs.Starts.{text_length}

-- ---- the parts of an address

host_length : (host : List ℕ) → is_host host ≡ true → length host ≤ 255
host_length host h =
    let within = (and_parts (nat_le 1 (length host) && nat_le (length host) 255) (list_all is_host_byte host) h).0 in
    let high = (and_parts (nat_le 1 (length host)) (nat_le (length host) 255) within).1 in
    grind (arith, high)

authority_length : (host : List ℕ) (port : ℕ) → port < 65536 → length (authority_text host port) ≤ length host + 6
authority_length host port low = by (port == 80)
  where
    digits : length (decimal port) ≤ 5
    digits = length-decimal-le 5 port (omega arith) (omega arith) (omega arith)

    by : (b : Bool) → length (if b then host else (host ++ codes ":" ++ decimal port)) ≤ length host + 6
    by true = omega arith
    by false = omega (arith, digits, length-append (host ++ codes ":") (decimal port), length-append host (codes ":"))

rooted_length : (rest : List ℕ) → length (rooted rest) ≤ length rest + 1
rooted_length [] = omega arith
rooted_length (b ∷ rest) = by (b == 47)
  where
    by : (t : Bool) → length (if t then b ∷ rest else 47 ∷ b ∷ rest) ≤ length (b ∷ rest) + 1
    by true = omega arith
    by false = omega arith

-- ---- what is read

-- a port and what follows it
record HasPort (bytes : List ℕ) (p : ℕ × List ℕ) : Type 0 where
  high : p.0 < 65536
  rest : length p.1 ≤ length bytes

opened_length : (x : ℕ) (bytes rest : List ℕ) → opened x bytes ≡ Some rest → length rest ≤ length bytes
opened_length x [] rest h = absurd cc
opened_length x (b ∷ bytes) rest h = by (b == x) h
  where
    by : (t : Bool) → (if t then Some bytes else None) ≡ Some rest → length rest ≤ length (b ∷ bytes)
    by true e = let same : bytes ≡ rest = cc in omega (arith, ap length same)
    by false e = absurd cc

port_read : (bytes : List ℕ) (p : ℕ × List ℕ) → port_part bytes ≡ Some p → HasPort bytes p
unfolding port_part
port_read bytes p h = go (opened 58 bytes) refl h
  where
    go : (o : Option (List ℕ)) → opened 58 bytes ≡ o → port_after bytes o ≡ Some p → HasPort bytes p
    go None e h = let same : (80, bytes) ≡ p = cc in subst (HasPort bytes) same (record { high = omega arith; rest = omega arith })
    go (Some text) e h =
        let digits = take_while is_ascii_digit text in
        let w = when_some (is_port_text digits) (digits_value 10 digits, drop (length digits) text) p h in
        subst (HasPort bytes) w.1 (record { high = (let fits = (above_first digits w.0).2 in omega (arith, fits)); rest = omega (arith, opened_length 58 bytes text e, length-drop (length digits) text) })

abbrev spelled_with : List ℕ → ℕ → List ℕ → Spelled
spelled_with host port rest = record { host = host; port = port; rest = rest }

-- the parts of a text of so many bytes
record HasParts (n : ℕ) (s : Spelled) : Type 0 where
  host : length s.host ≤ 255
  port : s.port < 65536
  rest : length s.rest ≤ n

same_parts : (n : ℕ) (one other : Spelled) → one ≡ other → HasParts n one → HasParts n other
same_parts n one other is h = subst (HasParts n) is h

spelled_parts : (text : List ℕ) (s : Spelled) → read_spelled text ≡ Some s → HasParts (length text) s
unfolding read_spelled after_scheme
spelled_parts text s h =
    let a = bind_some (after_scheme text) (λ rest. when (is_host (take_while is_host_byte rest)) (take_while is_host_byte rest) >>= (λ host. port_part (drop (length host) rest) >>= (λ p. when (is_rest p.1) (spelled_with host p.0 p.1)))) s h in
    let n = bind_some (when (is_host (take_while is_host_byte a.0)) (take_while is_host_byte a.0)) (λ host. port_part (drop (length host) a.0) >>= (λ p. when (is_rest p.1) (spelled_with host p.0 p.1))) s a.2 in
    let own = when_some (is_host (take_while is_host_byte a.0)) (take_while is_host_byte a.0) n.0 n.1 in
    let p = bind_some (port_part (drop (length n.0) a.0)) (λ p. when (is_rest p.1) (spelled_with n.0 p.0 p.1)) s n.2 in
    let port = port_read (drop (length n.0) a.0) p.0 p.1 in
    let r = when_some (is_rest p.0.1) (spelled_with n.0 p.0.0 p.0.1) s p.2 in
    same_parts (length text) (spelled_with n.0 p.0.0 p.0.1) s r.1 (record {
      host = host_length n.0 (subst (λ (xs : List ℕ). is_host xs ≡ true) own.1 own.0);
      port = port.high;
      rest = let shorter = port.rest in omega (arith, shorter, length-drop (length n.0) a.0, after_length a.0 a.1);
    })
  where
    after_length : (after : List ℕ) → after_scheme text ≡ Some after → length after ≤ length text
    after_length after e = let w = when_some _ (drop 7 text) after e in omega (arith, length-drop 7 text, ap length w.1)

normal_length : (n : ℕ) (s : Spelled) → HasParts n s → length (address_text (normal s)) ≤ n + 269
normal_length n s h =
    let own = text_length (normal s) in
    let target = ap length (target-parts (rooted s.rest)) in
    let host = length-map s.host to_ascii_lowercase in
    let authority = authority_length (str_to_ascii_lowercase s.host) s.port h.port in
    omega (arith, own, target, host, authority, rooted_length s.rest, h.host, h.rest)

pub read_length : (text : List ℕ) (url : Address) → read_address text ≡ Some url → length (address_text url) ≤ length text + 269
read_length text url read =
    let s = map_some normal (read_spelled text) url read in
    subst (λ (a : Address). length (address_text a) ≤ length text + 269) s.2 (normal_length (length text) s.0 (spelled_parts text s.0 s.1))
