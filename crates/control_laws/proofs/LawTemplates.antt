-- The server's template is read from its text, and without values it is the base.
use Rattle.std.proofs.Common.{◌≡◌, ℕ, List, [], ◌∷◌, ◌++◌, Bool, true, false, ◌==◌, Some, Option, refl, sym, ◌∙◌, ap, arith, append-nil}
use Rattle.std.specs.Prelude.{codes}
use Rattle.std.specs.List.{list_all}
use Rattle.std.proofs.lemmas.Bool.Decides.{nat_tests}
use Rattle.list_laws.proofs.Tests.{and_first, and_second, equals_itself}
use Rattle.rdf_terms.specs.Iri.{is_iri_byte, has_scheme}
use Rattle.tpf_base.specs.Addresses.{Address, IsAddress, address_text, target_of}
use Rattle.template_fill.specs.ReadAddress.{Spelled, read_spelled, normal, with_target}
use Rattle.template_fill.specs.WebAddress.{IsNormal}
use Rattle.template_fill.specs.Templates.{Part, before, after, sections_after, parts_of, part_of, shape_of, names_of, is_name, begins_with_slash, start_of, read_template, expansion}
use Rattle.template_fill.specs.Pages.{server_template, template_text}
use Rattle.template_fill.proofs.Addresses.{is_lower-same}
use Rattle.template_fill.proofs.Authorities.{same_parts}
use Rattle.own_controls.proofs.Addresses.{base_normal, base_web}
use Rattle.control_laws.proofs.LawAddresses.{normal_spelled}

differs : (p : ℕ → Bool) (b x : ℕ) → p b ≡ true → p x ≡ false → (b == x) ≡ false
differs p b x passes fails =
    let go : (t : Bool) → (b == x) ≡ t → t ≡ false =
    λ t. elim t as (λ v. (b == x) ≡ v → v ≡ false) [
      | true ↦ λ same. let is : b ≡ x = grind (arith, nat_tests) in sym passes ∙ ap p is ∙ fails
      | false ↦ λ _. refl
    ] in
    go (b == x) refl

-- a text is cut at a byte that it has not
cut_at : (p : ℕ → Bool) (x : ℕ) → p x ≡ false → (text more : List ℕ) → list_all p text ≡ true → (before x (text ++ x ∷ more) ≡ text) × (after x (text ++ x ∷ more) ≡ Some more)
cut_at p x fails [] more all = (rw (equals_itself x) refl, rw (equals_itself x) refl)
cut_at p x fails (b ∷ text) more all =
    let rest = cut_at p x fails text more (and_second (p b) _ all) in
    let other = differs p b x (and_first (p b) _ all) fails in
    (rw (other, rest.0) refl, rw (other, rest.1) refl)

server_parts : (base : Address) → parts_of (sections_after 123 (Some (codes "?subject,predicate,object}"))) ≡ Some ((server_template base).parts)
unfolding part_of shape_of names_of is_name
server_parts base = refl

read_of_parts : (text start_text : List ℕ) (rest : Option (List ℕ)) (start : Spelled) (parts : List Part) → before 123 text ≡ start_text → after 123 text ≡ rest → start_of start_text ≡ Some start → parts_of (sections_after 123 rest) ≡ Some parts → read_template text ≡ Some (record { start = normal start; parts = parts })
unfolding read_template
read_of_parts text start_text rest start parts front back own more = rw (front, back, own, more) refl

start_is : (text : List ℕ) (s : Spelled) → read_spelled text ≡ Some s → begins_with_slash s.rest ≡ true → start_of text ≡ Some s
unfolding start_of
start_is text s read slash = rw (read, slash) refl

normal_same : (host target : List ℕ) (port : ℕ) → IsNormal host port target → normal (record { host = host; port = port; rest = target }) ≡ with_target host port target
normal_same host target port n = rw (is_lower-same host n.lower, n.slash) refl

template_at : (base start : Address) → start ≡ base → Some (record { start = start; parts = (server_template base).parts }) ≡ Some (server_template base)
template_at base start e = ap (λ (a : Address). Some (record { start = a; parts = (server_template base).parts })) e

pub template_reads : (base : Address) → IsAddress (address_text base) base → read_template (template_text base) ≡ Some (server_template base)
template_reads base h =
    let n = base_normal base h in
    let web = base_web base h in
    let cut = cut_at is_iri_byte 123 refl (address_text base) (codes "?subject,predicate,object}") (and_first (list_all is_iri_byte (address_text base)) (has_scheme (address_text base)) web.iri) in
    let slash : begins_with_slash (target_of base) ≡ true = ap begins_with_slash n.slash in
    let spelled = normal_spelled base.host (target_of base) base.port n in
    let start = start_is (address_text base) (record { host = base.host; port = base.port; rest = target_of base }) spelled slash in
    read_of_parts (template_text base) (address_text base) (Some (codes "?subject,predicate,object}")) (record { host = base.host; port = base.port; rest = target_of base }) (server_template base).parts cut.0 cut.1 start (server_parts base)
    ∙ template_at base _ (normal_same base.host (target_of base) base.port n ∙ same_parts (address_text base) base h)

pub home_is : (base : Address) → expansion (server_template base) [] ≡ address_text base
unfolding expansion
home_is base = append-nil (address_text base)
