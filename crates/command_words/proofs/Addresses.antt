-- A text is read as an address exactly where it is one.
use Rattle.std.proofs.Common.{ℕ, ◌≡◌, ◌∙◌, ◌≤◌, sym, ap, subst, refl, codes, zero, suc, true, nat_eq, nat_le, List, [], ◌∷◌, ◌++◌, length, take, drop, Option, Some, None, arith, take-append-drop}
use Rattle.std.specs.List.{list_all, starts_with, take_while}
use Rattle.std.specs.Option.{option_map}
use Rattle.std.specs.Char.{is_ascii_digit}
use Rattle.std.specs.Str.Parse.{digits_value}
use Rattle.std.proofs.lemmas.List.{take_all}
use Rattle.std.proofs.lemmas.Slice.Eq.{bytes_eq-Decides}
use Rattle.std.proofs.lemmas.Bool.Decides.{nat_tests}
use Rattle.list_laws.proofs.Lists.{some_digits}
use Rattle.list_laws.proofs.Options.{bind_some, when_some}
use Rattle.tpf_base.specs.Addresses.{IsAddress, is_host_byte, is_host}
use Rattle.template_fill.specs.WebAddress.{IsNoAddress}
use Rattle.template_fill.specs.ReadAddress.{Spelled, IsSpelled, Spells, SpellsPort, ◌>>=◌, when, after_scheme, is_port_text, is_rest, normal, opened, port_after, port_part, read_address, read_spelled}
use Rattle.command_words.specs.declared.limits.TheConstants.{LONGEST_TYPED}
use Rattle.command_words.specs.Commands.{url_of}
use Rattle.template_fill.proofs.Passing.{list_all-front}
use Rattle.template_fill.proofs.Ports.{above_first, positive, spells_digits, spells_no_port, spells_port}
use Rattle.template_fill.proofs.Reading.{spells_is_address}
use Rattle.template_fill.proofs.ReadTemplates.{spelled_with}

cut : (n : ℕ) (xs : List ℕ) → take n xs ++ drop (length (take n xs)) xs ≡ xs
cut zero xs = refl
cut (suc n) [] = refl
cut (suc n) (x ∷ xs) = ap (λ (ys : List ℕ). x ∷ ys) (cut n xs)

same_front : (n : ℕ) (xs : List ℕ) → take n xs ≡ take (length (take n xs)) xs
same_front zero xs = refl
same_front (suc n) [] = refl
same_front (suc n) (x ∷ xs) = ap (λ (ys : List ℕ). x ∷ ys) (same_front n xs)

begins_with : (xs front : List ℕ) → starts_with nat_eq xs front ≡ true → xs ≡ front ++ drop (length front) xs
begins_with xs front e =
    let same : front ≡ take (length front) xs = (bytes_eq-Decides front (take (length front) xs)).0 e in
    sym (take-append-drop (length front) xs) ∙ ap (λ (ys : List ℕ). ys ++ drop (length front) xs) (sym same)

after_text : (text after : List ℕ) → after_scheme text ≡ Some after → text ≡ codes "http://" ++ after
unfolding after_scheme
after_text text after h =
    let w = when_some (starts_with nat_eq text (codes "http://")) (drop 7 text) after h in
    begins_with text (codes "http://") w.0 ∙ ap (λ (rest : List ℕ). codes "http://" ++ rest) w.1

digits_spell : (text digits : List ℕ) → digits ≡ take (length digits) text → list_all is_ascii_digit digits ≡ true → is_port_text digits ≡ true → (bytes : List ℕ) → opened 58 bytes ≡ Some text → SpellsPort bytes (digits_value 10 digits) (drop (length digits) text)
digits_spell text digits front all port bytes h =
    let first = above_first digits port in
    let whole : length digits ≤ length digits = omega arith in
    let low = positive digits (digits_value 10 digits) (length digits) all (some_digits digits first.1) first.0 whole (ap (digits_value 10) (sym (take_all (length digits) digits whole))) in
    spells_port bytes text (drop (length digits) text) (digits_value 10 digits) h (spells_digits text digits (drop (length digits) text) (digits_value 10 digits) (length digits) front refl all port low refl)

port_spells : (bytes : List ℕ) (p : ℕ × List ℕ) → port_part bytes ≡ Some p → SpellsPort bytes p.0 p.1
unfolding port_part
port_spells bytes p h = go (opened 58 bytes) refl h
  where
    go : (o : Option (List ℕ)) → opened 58 bytes ≡ o → port_after bytes o ≡ Some p → SpellsPort bytes p.0 p.1
    go None e h = let same : (80, bytes) ≡ p = cc in subst (λ (q : ℕ × List ℕ). SpellsPort bytes q.0 q.1) same (spells_no_port bytes)
    go (Some text) e h =
        let w = when_some (is_port_text (take_while is_ascii_digit text)) (digits_value 10 (take_while is_ascii_digit text), drop (length (take_while is_ascii_digit text)) text) p h in
        subst (λ (q : ℕ × List ℕ). SpellsPort bytes q.0 q.1) w.1 (digits_spell text (take_while is_ascii_digit text) (same_front _ text) (list_all-front is_ascii_digit text) w.0 bytes e)

is_read : (text : List ℕ) (s : Spelled) → read_spelled text ≡ Some s → IsAddress text (normal s)
unfolding read_spelled
is_read text s h =
    let a = bind_some (after_scheme text) (λ rest. when (is_host (take_while is_host_byte rest)) (take_while is_host_byte rest) >>= (λ host. port_part (drop (length host) rest) >>= (λ p. when (is_rest p.1) (spelled_with host p.0 p.1)))) s h in
    let n = bind_some (when (is_host (take_while is_host_byte a.0)) (take_while is_host_byte a.0)) (λ host. port_part (drop (length host) a.0) >>= (λ p. when (is_rest p.1) (spelled_with host p.0 p.1))) s a.2 in
    let own = when_some (is_host (take_while is_host_byte a.0)) (take_while is_host_byte a.0) n.0 n.1 in
    let p = bind_some (port_part (drop (length n.0) a.0)) (λ p. when (is_rest p.1) (spelled_with n.0 p.0 p.1)) s n.2 in
    let port = port_spells (drop (length n.0) a.0) p.0 p.1 in
    let r = when_some (is_rest p.0.1) (spelled_with n.0 p.0.0 p.0.1) s p.2 in
    let host : is_host n.0 ≡ true = subst (λ (xs : List ℕ). is_host xs ≡ true) own.1 own.0 in
    let whole : n.0 ++ drop (length n.0) a.0 ≡ a.0 = subst (λ (xs : List ℕ). xs ++ drop (length xs) a.0 ≡ a.0) own.1 (cut _ a.0) in
    let spelled : Spells text (spelled_with n.0 p.0.0 p.0.1) = record {
      typed_port = port.typed_port;
      is_text = after_text text a.0 a.1 ∙ ap (λ (rest : List ℕ). codes "http://" ++ rest) (sym whole ∙ ap (λ (rest : List ℕ). n.0 ++ rest) port.is_bytes);
      port = port.typed;
    } in
    let kept : IsSpelled (spelled_with n.0 p.0.0 p.0.1) = record { host = host; low = port.low; high = port.high; rest = r.0 } in
    subst (λ (x : Spelled). IsAddress text (normal x)) r.1 (spells_is_address text (spelled_with n.0 p.0.0 p.0.1) kept spelled)

pub not_read : (text : List ℕ) → IsNoAddress text → read_address text ≡ None
not_read text none = go (read_spelled text) refl
  where
    go : (o : Option Spelled) → read_spelled text ≡ o → option_map normal o ≡ None
    go None e = refl
    go (Some s) e = absurd (none (normal s) (is_read text s e))

-- an address has at most LONGEST_TYPED bytes
pub short_url : (text : List ℕ) → length text ≤ LONGEST_TYPED → url_of text ≡ read_address text
short_url text short = let test : nat_le (length text) LONGEST_TYPED ≡ true = grind (arith, nat_tests) in rw test refl
