-- The terms of a table are valid, and what is served is short.
use Rattle.std.proofs.Common.{ℕ, ◌≡◌, ◌+◌, ◌≤◌, Bool, true, false, List, [], ◌∷◌, ◌++◌, length, get_or, sym, subst, arith, All, ⊎_elim, length-append}
use Rattle.std.specs.Prelude.{◌&&◌, ◌==◌, nat_le, codes, if◌then◌else◌}
use Rattle.std.specs.List.{Contains, AllByRecursion, filter, list_all}
use Rattle.std.specs.Str.{str_to_ascii_lowercase}
use Rattle.std.specs.Char.{to_ascii_lowercase}
use Rattle.std.specs.Fmt.{decimal}
use Rattle.std.proofs.lemmas.Fmt.{length-decimal-le}
use Rattle.std.proofs.lemmas.List.{length-map}
use Rattle.std.proofs.lemmas.List.Elements.{recursion_from_All, All-contains, All-filter, Contains-get_or}
use Rattle.rdf_terms.specs.declared.term.Term.{Term}
use Rattle.rdf_terms.specs.declared.term.Term.TheVariants.{Iri, Blank, Literal}
use Rattle.rdf_terms.specs.declared.term.Triple.{Triple}
use Rattle.rdf_terms.specs.declared.term.Quad.{Quad}
use Rattle.rdf_terms.specs.Canon.{canonical_term}
use Rattle.rdf_terms.specs.Sizes.{IsShortTerm, IsShortTriple}
use Rattle.rdf_terms.specs.Valid.{IsValidTerm, IsValidTriple}
use Rattle.rdf_terms.proofs.Lengths.{canonical_len_is}
use Rattle.triple_table.specs.declared.choice.Choice.{Choice}
use Rattle.triple_table.specs.Chosen.{is_chosen, chosen}
use Rattle.triple_table.specs.Genid.{genid, skolem, skolem_triple}
use Rattle.triple_table.specs.Served.{terms_in}
use Rattle.triple_table.specs.Stored.{IsRanking}
use Rattle.tpf_base.specs.Addresses.{is_host, is_host_byte, is_port}
use Rattle.std.proofs.lemmas.Bool.{and_parts}
use Rattle.triple_table.specs.Short.{ServedAreShort, AuthoritiesAreShort}
use Rattle.triple_table.proofs.Built.{term_held, subject_in, predicate_in, object_in}
use Rattle.list_laws.proofs.Members.{from_flat_map, from_map, head_or_tail, none_in}

-- ---- valid

held_valid : (triples : List Triple) (terms : List Term) → IsRanking triples terms → All IsValidTerm terms → (t : Triple) → Contains triples t → (term : Term) → Contains (terms_in t) term → IsValidTerm term
held_valid triples terms r v t h term k = All-contains IsValidTerm terms term v (term_held triples terms r t h term k)

triple_valid : (triples : List Triple) (terms : List Term) → IsRanking triples terms → All IsValidTerm terms → (t : Triple) → Contains triples t → IsValidTriple t
triple_valid triples terms r v t h = record {
  subject = held_valid triples terms r v t h t.subject (subject_in t);
  predicate = held_valid triples terms r v t h t.predicate (predicate_in t);
  object = held_valid triples terms r v t h t.object (object_in t);
}

pub triples_are_valid : (triples : List Triple) (terms : List Term) → IsRanking triples terms → All IsValidTerm terms → AllByRecursion IsValidTriple triples
triples_are_valid triples terms r v = recursion_from_All IsValidTriple triples (λ k d l. triple_valid triples terms r v (get_or triples k d) (Contains-get_or triples k d l))

-- ---- short

genid_len : (authority label : List ℕ) → length (genid authority label) ≡ length authority + length label + 26
genid_len authority label =
    let whole = length-append (codes "http://" ++ authority ++ codes "/.well-known/genid/") label in
    let front = length-append (codes "http://" ++ authority) (codes "/.well-known/genid/") in
    let scheme = length-append (codes "http://") authority in
    omega (arith, whole, front, scheme)

term_short : (longest : ℕ) (authority : List ℕ) (x : Term) → length authority + 1052 ≤ longest → IsShortTerm longest x → length (canonical_term (skolem authority x)) ≤ longest
term_short longest authority (Iri text) l h = h.fits
term_short longest authority (Blank label) l h =
    let short : length label ≤ 1024 = h.label in
    omega (arith, canonical_len_is (Iri (genid authority label)), genid_len authority label, short)
term_short longest authority (Literal form kind) l h = h.fits

one_of : (t : Triple) (P : Term → Type 0) → P t.subject → P t.predicate → P t.object → (term : Term) → Contains (terms_in t) term → P term
one_of t P s p o term c =
    ⊎_elim (λ (e : t.subject ≡ term). subst P e s) (λ d.
    ⊎_elim (λ (e : t.predicate ≡ term). subst P e p) (λ f.
    ⊎_elim (λ (e : t.object ≡ term). subst P e o) (λ g. absurd (none_in term g)) (head_or_tail t.object term [] f))
    (head_or_tail t.predicate term (t.object ∷ []) d)) (head_or_tail t.subject term (t.predicate ∷ t.object ∷ []) c)

triple_short : (longest : ℕ) (authority : List ℕ) (t : Triple) → length authority + 1052 ≤ longest → IsShortTriple longest t → (term : Term) → Contains (terms_in (skolem_triple authority t)) term → length (canonical_term term) ≤ longest
triple_short longest authority t l h term c =
    one_of (skolem_triple authority t) (λ (x : Term). length (canonical_term x) ≤ longest)
    (term_short longest authority t.subject l h.subject) (term_short longest authority t.predicate l h.predicate) (term_short longest authority t.object l h.object) term c

chosen_short : (longest : ℕ) (choice : Choice) (quads : List Quad) → All (λ (q : Quad). IsShortTriple longest q.triple) quads → (t : Triple) → Contains (chosen choice quads) t → IsShortTriple longest t
chosen_short longest choice quads short t h =
    let quad = from_map (λ (q : Quad). q.triple) (filter (λ (q : Quad). is_chosen choice q.graph) quads) t h in
    let P : Quad → Type 0 = λ q. IsShortTriple longest q.triple in
    subst (IsShortTriple longest) quad.2 (All-contains P (filter (λ (q : Quad). is_chosen choice q.graph) quads) quad.0 (All-filter (λ (q : Quad). is_chosen choice q.graph) P quads short) quad.1)

pub served_are_short : ServedAreShort
served_are_short longest authority choice quads served l short s term c =
    let at = from_flat_map terms_in served term c in
    let before = from_map (skolem_triple authority) (chosen choice quads) at.0 ((s.members at.0).0 at.1) in
    triple_short longest authority before.0 l (chosen_short longest choice quads short before.0 before.1) term (subst (λ (t : Triple). Contains (terms_in t) term) (sym before.2) at.2)

-- ---- authorities

port_len : (port : ℕ) → is_port port ≡ true → length (decimal port) ≤ 5
port_len port h =
    let high : port ≤ 65535 = le_from (and_parts (nat_le 1 port) (nat_le port 65535) h).1 in
    length-decimal-le 5 port (omega arith) (omega arith) (omega arith)
  where
    le_from : nat_le port 65535 ≡ true → port ≤ 65535
    le_from e = grind (arith, e)

host_len : (host : List ℕ) → is_host host ≡ true → length (str_to_ascii_lowercase host) ≤ 255
host_len host h =
    let within = (and_parts (nat_le 1 (length host) && nat_le (length host) 255) (list_all is_host_byte host) h).0 in
    let high = (and_parts (nat_le 1 (length host)) (nat_le (length host) 255) within).1 in
    let low : length host ≤ 255 = grind (arith, high) in
    omega (arith, length-map host to_ascii_lowercase, low)

text_len : (b : Bool) (host port : List ℕ) → length host ≤ 255 → length port ≤ 5 → length (if b then host else (host ++ codes ":" ++ port)) ≤ 261
text_len true host port h p = omega arith
text_len false host port h p =
    let whole = length-append (host ++ codes ":") port in
    let front = length-append host (codes ":") in
    omega (arith, whole, front)

pub authorities_are_short : AuthoritiesAreShort
authorities_are_short authority a =
    subst (λ (l : List ℕ). length l ≤ 261) (sym a.is_text)
    (text_len (a.port == 80) (str_to_ascii_lowercase a.host) (decimal a.port) (host_len a.host a.is_host) (port_len a.port a.is_port))
