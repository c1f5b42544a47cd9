-- A text is read as the same quads under every limit that lets it pass.
use Rattle.std.proofs.Common.{◌≡◌, ℕ, ◌+◌, ◌≤◌, Bool, true, false, ◌||◌, nat_lt, List, [], ◌∷◌, length, Option, Some, None, if◌then◌else◌, refl, arith}
use Rattle.std.specs.List.{AllByRecursion}
use Rattle.std.proofs.lemmas.Bool.Decides.{nat_tests}
use Rattle.rdf_terms.specs.Canon.{canonical_term, canon}
use Rattle.rdf_terms.specs.declared.term.Term.{Term}
use Rattle.rdf_terms.specs.declared.term.Quad.{Quad}
use Rattle.nquads_text.specs.declared.fault.Why.TheVariants.{RelativeIri, LangString, TermTooLong}
use Rattle.nquads_text.specs.Faults.{is_relative, has_lang_string, has_long_label, is_too_long, graph_passes, some_term, fault_of}
use Rattle.nquads_text.specs.Quads.{IsReadableGraph, IsReadable}
use Rattle.nquads_text.specs.Reads.{ReadsLine, ReadsLines, Reads}
use Rattle.nquads_text.proofs.ReadLaws.{reads_text}
use Rattle.nquads_text.proofs.RoundTrip.{read_again}
use Rattle.own_controls.specs.Safe.{IsShortGraph, HasShortTerms}
use Rattle.own_controls.proofs.Readable.{IsSafeQuad, all_readable}

-- ---- a greater limit

or_left : (a b : Bool) → a || b ≡ false → a ≡ false
or_left true b h = h
or_left false b h = refl

or_right : (a b : Bool) → a || b ≡ false → b ≡ false
or_right true b h = absurd (cc)
or_right false b h = h

or_both : (a b : Bool) → a ≡ false → b ≡ false → a || b ≡ false
or_both true b e f = e
or_both false b e f = f

graph_fewer : (p q : Term → Bool) → ((t : Term) → p t ≡ false → q t ≡ false) → (graph : Option Term) → graph_passes p graph ≡ false → graph_passes q graph ≡ false
graph_fewer p q fewer None h = refl
graph_fewer p q fewer (Some graph) h = fewer graph h

some_fewer : (p q : Term → Bool) → ((t : Term) → p t ≡ false → q t ≡ false) → (x : Quad) → some_term p x ≡ false → some_term q x ≡ false
some_fewer p q fewer x h =
    let front = or_left (p x.triple.subject || p x.triple.predicate || p x.triple.object) (graph_passes p x.graph) h in
    let nodes = or_left (p x.triple.subject || p x.triple.predicate) (p x.triple.object) front in
    or_both (q x.triple.subject || q x.triple.predicate || q x.triple.object) (graph_passes q x.graph)
    (or_both (q x.triple.subject || q x.triple.predicate) (q x.triple.object)
    (or_both (q x.triple.subject) (q x.triple.predicate) (fewer x.triple.subject (or_left (p x.triple.subject) (p x.triple.predicate) nodes)) (fewer x.triple.predicate (or_right (p x.triple.subject) (p x.triple.predicate) nodes)))
    (fewer x.triple.object (or_right (p x.triple.subject || p x.triple.predicate) (p x.triple.object) front)))
    (graph_fewer p q fewer x.graph (or_right (p x.triple.subject || p x.triple.predicate || p x.triple.object) (graph_passes p x.graph) h))

below : (a b n : ℕ) → a ≤ b → nat_lt a n ≡ false → nat_lt b n ≡ false
below a b n more h = grind (arith, nat_tests)

short_enough : (a b : ℕ) → a ≤ b → (t : Term) → is_too_long a t ≡ false → is_too_long b t ≡ false
short_enough a b more t h =
    or_both (nat_lt b (length (canonical_term t))) (has_long_label t)
    (below a b (length (canonical_term t)) more (or_left (nat_lt a (length (canonical_term t))) (has_long_label t) h))
    (or_right (nat_lt a (length (canonical_term t))) (has_long_label t) h)

fewer_faults : (r l t u : Bool) → (t ≡ false → u ≡ false) → (if r then Some RelativeIri else (if l then Some LangString else (if t then Some TermTooLong else None))) ≡ None → (if r then Some RelativeIri else (if l then Some LangString else (if u then Some TermTooLong else None))) ≡ None
fewer_faults true l t u fewer h = h
fewer_faults false true t u fewer h = h
fewer_faults false false true u fewer h = absurd (cc)
fewer_faults false false false u fewer h = rw (fewer refl) refl

no_fault : (a b : ℕ) → a ≤ b → (q : Quad) → fault_of a q ≡ None → fault_of b q ≡ None
no_fault a b more q h = fewer_faults (some_term is_relative q) (some_term has_lang_string q) (some_term (is_too_long a) q) (some_term (is_too_long b) q) (some_fewer (is_too_long a) (is_too_long b) (short_enough a b more) q) h

line_more : (a b : ℕ) → a ≤ b → (line : List ℕ) (q : Option Quad) → ReadsLine a line q → ReadsLine b line q
line_more a b more line None h = h
line_more a b more line (Some q) h = (h.0, (h.1.0, h.1.1, h.1.2, no_fault a b more q h.1.3))

lines_more : (a b : ℕ) → a ≤ b → (lines : List (List ℕ)) (quads : List Quad) → ReadsLines a lines quads → ReadsLines b lines quads
lines_more a b more [] quads h = h
lines_more a b more (line ∷ lines) quads h = (h.0, h.1, line_more a b more line h.0 h.2, lines_more a b more lines h.1 h.3, h.4)

-- ---- a limit that is great enough

short_more : (a b : ℕ) → a ≤ b → (graph : Option Term) → IsShortGraph a graph → IsShortGraph b graph
short_more a b more None h = tt
short_more a b more (Some graph) h = omega arith

all_more : (a b : ℕ) → a ≤ b → (qs : List Quad) → AllByRecursion (HasShortTerms a) qs → AllByRecursion (HasShortTerms b) qs
all_more a b more [] h = tt
all_more a b more (q ∷ qs) h = (
  record { subject = omega (arith, h.0.subject); predicate = omega (arith, h.0.predicate); object = omega (arith, h.0.object); graph = short_more a b more q.graph h.0.graph },
  all_more a b more qs h.1,
)

abbrev graph_len : Option Term → ℕ
graph_len None = 0
graph_len (Some graph) = length (canonical_term graph)

graph_short : (graph : Option Term) → IsShortGraph (graph_len graph) graph
graph_short None = tt
graph_short (Some graph) = omega arith

limit_for : (qs : List Quad) → (longest : ℕ) × AllByRecursion (HasShortTerms longest) qs
limit_for [] = (0, tt)
limit_for (q ∷ qs) =
    let rest = limit_for qs in
    let own = length (canonical_term q.triple.subject) + length (canonical_term q.triple.predicate) + length (canonical_term q.triple.object) + graph_len q.graph in (
      rest.0 + own,
      (
        record { subject = omega arith; predicate = omega arith; object = omega arith; graph = short_more (graph_len q.graph) (rest.0 + own) (omega arith) q.graph (graph_short q.graph) },
        all_more rest.0 (rest.0 + own) (omega arith) qs rest.1,
      ),
    )

-- ---- one reading

one_reading : (bytes : List ℕ) (longest : ℕ) (one other : List Quad) → Reads bytes longest one → Reads bytes longest other → one ≡ other
one_reading bytes longest one other first second =
    let a = reads_text longest bytes one first in
    let b = reads_text longest bytes other second in
    cc

-- the text of safe quads is read as them, whatever the limit
pub only_reading : (longest : ℕ) (qs read : List Quad) → AllByRecursion IsSafeQuad qs → Reads (canon qs) longest read → read ≡ qs
only_reading longest qs read safe h =
    let limit = limit_for qs in
    let again = read_again limit.0 qs (all_readable limit.0 qs safe limit.1) in
    one_reading (canon qs) (longest + limit.0) read qs (lines_more longest (longest + limit.0) (omega arith) _ read h) (lines_more limit.0 (longest + limit.0) (omega arith) _ qs again)

-- ---- what was read is short

graph_read : (longest : ℕ) (graph : Option Term) → IsReadableGraph longest graph → IsShortGraph longest graph
graph_read longest None h = tt
graph_read longest (Some graph) h = h.fits

pub all_short : (longest : ℕ) (qs : List Quad) → AllByRecursion (IsReadable longest) qs → AllByRecursion (HasShortTerms longest) qs
all_short longest [] h = tt
all_short longest (q ∷ qs) h = (
  record { subject = h.0.subject.fits; predicate = h.0.predicate.fits; object = h.0.object.fits; graph = graph_read longest q.graph h.0.graph },
  all_short longest qs h.1,
)
