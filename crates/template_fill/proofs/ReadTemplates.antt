-- What a template keeps that was read from a text.
use Rattle.std.proofs.Common.{◌≡◌, ℕ, ◌<◌, ◌≤◌, List, [], ◌∷◌, Bool, true, length, drop, Option, Some, None, refl, sym, ap, subst, arith, take_all}
use Rattle.std.specs.List.{list_all, take_while}
use Rattle.std.specs.Char.{is_ascii_digit}
use Rattle.std.specs.Str.{str_to_ascii_lowercase}
use Rattle.std.specs.Str.Parse.{digits_value}
use Rattle.list_laws.proofs.Options.{when_some, bind_some}
use Rattle.list_laws.proofs.Lists.{some_digits}
use Rattle.tpf_base.specs.Addresses.{Address, IsAddress, is_host_byte, is_host, is_address_byte, address_text}
use Rattle.tpf_base.specs.declared.limits.TheConstants.{HIGHEST_PORT}
use Rattle.template_fill.specs.ReadAddress.{Spelled, IsSpelled, ◌>>=◌, when, after_scheme, opened, is_port_text, port_after, port_part, is_rest, rooted, read_spelled, normal}
use Rattle.template_fill.specs.declared.part.Operator.{Operator}
use Rattle.template_fill.specs.Templates.{Part, Template, is_part, operator_of, before, after, names_of, shape_of, part_of, parts_of, sections_after, begins_with_slash, start_of, read_template}
use Rattle.template_fill.specs.Authorities.{IsTemplate, TemplatesAreKept}
use Rattle.std.proofs.lemmas.Bool.{and_from}
use Rattle.template_fill.proofs.Addresses.{text-parts, normal_is_address, normal-spelled}
use Rattle.template_fill.proofs.Passing.{list_all-front}
use Rattle.template_fill.proofs.Ports.{above_first, positive}
use Rattle.template_fill.proofs.Sections.{part-kept}

-- ---- parts

shape_literal : (bytes : List ℕ) (shape : Operator × List ℕ × List ℕ) → shape_of bytes ≡ Some shape → list_all is_address_byte shape.2 ≡ true
unfolding shape_of
shape_literal [] shape h = absurd (cc)
shape_literal (b ∷ bytes) shape h =
    let o = bind_some (operator_of b) (λ operator. after 125 bytes >>= (λ literal. when (list_all is_address_byte literal) (operator, before 125 bytes, literal))) shape h in
    let l = bind_some (after 125 bytes) (λ literal. when (list_all is_address_byte literal) (o.0, before 125 bytes, literal)) shape o.2 in
    let w = when_some (list_all is_address_byte l.0) (o.0, before 125 bytes, l.0) shape l.2 in
    subst (λ (s : Operator × List ℕ × List ℕ). list_all is_address_byte s.2 ≡ true) w.1 w.0

abbrev part_with : Operator → List (List ℕ) → List ℕ → Part
part_with operator names literal = record { operator = operator; names = names; literal = literal }

same_part : (one other : Part) → Some one ≡ Some other → is_part one.names one.literal ≡ true → is_part other.names other.literal ≡ true
same_part one other is own = let same : one ≡ other = cc in subst (λ (part : Part). is_part part.names part.literal ≡ true) same own

part_is_kept : (bytes : List ℕ) (part : Part) → part_of bytes ≡ Some part → is_part part.names part.literal ≡ true
unfolding part_of
part_is_kept bytes part h =
    let s = bind_some (shape_of bytes) (λ shape. names_of shape.1 >>= (λ names. Some (part_with shape.0 names shape.2))) part h in
    let n = bind_some (names_of s.0.1) (λ names. Some (part_with s.0.0 names s.0.2)) part s.2 in
    same_part (part_with s.0.0 n.0 s.0.2) part n.2 (part-kept s.0.1 s.0.2 s.0.2 n.0 n.1 (shape_literal bytes s.0 s.1) refl)

abbrev all_parts : List Part → Bool
all_parts parts = list_all (λ part. is_part part.names part.literal) parts

same_parts : (one other : List Part) → Some one ≡ Some other → all_parts one ≡ true → all_parts other ≡ true
same_parts one other is own = let same : one ≡ other = cc in subst (λ (parts : List Part). all_parts parts ≡ true) same own

parts_are_kept : (sections : List (List ℕ)) (parts : List Part) → parts_of sections ≡ Some parts → all_parts parts ≡ true
parts_are_kept [] parts h = same_parts [] parts h refl
parts_are_kept (section ∷ sections) parts h =
    let p = bind_some (part_of section) (λ part. parts_of sections >>= (λ more. Some (part ∷ more))) parts h in
    let r = bind_some (parts_of sections) (λ more. Some (p.0 ∷ more)) parts p.2 in
    same_parts (p.0 ∷ r.0) parts r.2 (and_from (is_part p.0.names p.0.literal) (all_parts r.0) (part_is_kept section p.0 p.1) (parts_are_kept sections r.0 r.1))

-- ---- the start

text_bounds : (digits : List ℕ) → list_all is_ascii_digit digits ≡ true → is_port_text digits ≡ true → (0 < digits_value 10 digits) × (digits_value 10 digits ≤ HIGHEST_PORT)
text_bounds digits all text =
    let first = above_first digits text in
    let whole : length digits ≤ length digits = omega arith in
    (positive digits (digits_value 10 digits) (length digits) all (some_digits digits first.1) first.0 whole (ap (digits_value 10) (sym (take_all (length digits) digits whole))), first.2)

abbrev HasPort : ℕ × List ℕ → Type 0
HasPort p = (0 < p.0) × (p.0 ≤ HIGHEST_PORT)

same_port : (one other : ℕ × List ℕ) → Some one ≡ Some other → HasPort one → HasPort other
same_port one other is own = let same : one ≡ other = cc in subst HasPort same own

after_bounds : (bytes : List ℕ) (digits : Option (List ℕ)) (p : ℕ × List ℕ) → port_after bytes digits ≡ Some p → HasPort p
after_bounds bytes None p h = same_port (80, bytes) p h (omega arith, omega arith)
after_bounds bytes (Some text) p h =
    let digits = take_while is_ascii_digit text in
    let w = when_some (is_port_text digits) (digits_value 10 digits, drop (length digits) text) p h in
    subst HasPort w.1 (text_bounds digits (list_all-front is_ascii_digit text) w.0)

port_bounds : (bytes : List ℕ) (p : ℕ × List ℕ) → port_part bytes ≡ Some p → HasPort p
unfolding port_part
port_bounds bytes p h = after_bounds bytes (opened 58 bytes) p h

abbrev pub spelled_with : List ℕ → ℕ → List ℕ → Spelled
spelled_with host port rest = record { host = host; port = port; rest = rest }

host_kept : (one other : List ℕ) → is_host one ≡ true → one ≡ other → is_host other ≡ true
host_kept one other own same = rw (← same) own

same_spelled : (one other : Spelled) → one ≡ other → IsSpelled one → IsSpelled other
same_spelled one other same own = subst IsSpelled same own

spelled_is_kept : (text : List ℕ) (s : Spelled) → read_spelled text ≡ Some s → IsSpelled s
unfolding read_spelled
spelled_is_kept text s h =
    let a = bind_some (after_scheme text) (λ rest. when (is_host (take_while is_host_byte rest)) (take_while is_host_byte rest) >>= (λ host. port_part (drop (length host) rest) >>= (λ p. when (is_rest p.1) (spelled_with host p.0 p.1)))) s h in
    let n = bind_some (when (is_host (take_while is_host_byte a.0)) (take_while is_host_byte a.0)) (λ host. port_part (drop (length host) a.0) >>= (λ p. when (is_rest p.1) (spelled_with host p.0 p.1))) s a.2 in
    let own = when_some (is_host (take_while is_host_byte a.0)) (take_while is_host_byte a.0) n.0 n.1 in
    let p = bind_some (port_part (drop (length n.0) a.0)) (λ p. when (is_rest p.1) (spelled_with n.0 p.0 p.1)) s n.2 in
    let bounds = port_bounds (drop (length n.0) a.0) p.0 p.1 in
    let r = when_some (is_rest p.0.1) (spelled_with n.0 p.0.0 p.0.1) s p.2 in
    let host = host_kept (take_while is_host_byte a.0) n.0 own.0 own.1 in
    let kept : IsSpelled (spelled_with n.0 p.0.0 p.0.1) = record { host = host; low = bounds.0; high = bounds.1; rest = r.0 } in
    same_spelled (spelled_with n.0 p.0.0 p.0.1) s r.1 kept

normal_text : (s : Spelled) → IsSpelled s → IsAddress (address_text (normal s)) (normal s)
normal_text s h =
    let n = normal-spelled s h in
    subst (λ (text : List ℕ). IsAddress text (normal s)) (sym (text-parts (str_to_ascii_lowercase s.host) (rooted s.rest) s.port)) (normal_is_address (str_to_ascii_lowercase s.host) (rooted s.rest) s.port n)

start_is_kept : (text : List ℕ) (s : Spelled) → start_of text ≡ Some s → IsAddress (address_text (normal s)) (normal s)
unfolding start_of
start_is_kept text s h =
    let r = bind_some (read_spelled text) (λ spelled. when (begins_with_slash spelled.rest) spelled) s h in
    let w = when_some (begins_with_slash r.0.rest) r.0 s r.2 in
    normal_text s (subst IsSpelled w.1 (spelled_is_kept text r.0 r.1))

-- ---- the template

abbrev template_with : Address → List Part → Template
template_with start parts = record { start = start; parts = parts }

same_template : (one other : Template) → Some one ≡ Some other → IsTemplate one → IsTemplate other
same_template one other is own = let same : one ≡ other = cc in subst IsTemplate same own

pub templates_are_kept : TemplatesAreKept
unfolding read_template
templates_are_kept text template h =
    let s = bind_some (start_of (before 123 text)) (λ start. parts_of (sections_after 123 (after 123 text)) >>= (λ parts. Some (template_with (normal start) parts))) template h in
    let p = bind_some (parts_of (sections_after 123 (after 123 text))) (λ parts. Some (template_with (normal s.0) parts)) template s.2 in
    same_template (template_with (normal s.0) p.0) template p.2 (record { start = start_is_kept (before 123 text) s.0 s.1; parts = parts_are_kept (sections_after 123 (after 123 text)) p.0 p.1 })
