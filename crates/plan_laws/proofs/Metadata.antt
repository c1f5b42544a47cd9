-- The terms of what is said of a page are short where its addresses are.
use Rattle.std.proofs.Common.{ℕ, ◌≡◌, ◌+◌, ◌*◌, ◌<◌, ◌≤◌, ◌^◌, Bool, true, false, List, [], ◌∷◌, ◌++◌, map, length, codes, if◌then◌else◌, refl, arith, lit≤, length-append}
use Rattle.std.specs.List.{AllByRecursion}
use Rattle.list_laws.proofs.Each.{all_append}
use Rattle.tpf_base.specs.Decimals.{decimal_text}
use Rattle.tpf_base.proofs.DecimalTexts.{decimal_text-short}
use Rattle.rdf_terms.specs.declared.limits.TheConstants.{LONGEST_READ}
use Rattle.rdf_terms.specs.declared.term.Term.{Term}
use Rattle.rdf_terms.specs.declared.term.Term.TheVariants.{Iri, Blank}
use Rattle.rdf_terms.specs.declared.term.Kind.TheVariants.{Plain, Typed}
use Rattle.rdf_terms.specs.declared.term.Triple.{Triple}
use Rattle.rdf_terms.specs.declared.term.Quad.{Quad}
use Rattle.rdf_terms.specs.Kinds.{typed_kind}
use Rattle.rdf_terms.specs.Datatype.{is_xsd_string}
use Rattle.rdf_terms.specs.Canon.{is_marked, after_mark, canonical_byte, canonical_form, canonical_kind, canonical_term}
use Rattle.template_fill.specs.Metadata.{foaf, void, hydra, rdf, owl, plain, integer, statement, topic_quads, form_quads, mapping_quads, count_quads, link_quads, version_quads}
use Rattle.template_fill.specs.Bodies.{in_default_graph}
use Rattle.control_laws.specs.Law.{HasShortTerms}
use Rattle.control_laws.proofs.LawMetadata.{Parts, metadata}

-- ---- terms

pub record Fits (term : Term) : Type 0 where
  pub short : length (canonical_term term) ≤ LONGEST_READ

iri_fits : (text : List ℕ) → length text ≤ 4000000 → Fits (Iri text)
iri_fits text h = record { short = omega (arith, h, length-append text (62 ∷ [])) }

blank_fits : (label : List ℕ) → length label ≤ 4000000 → Fits (Blank label)
blank_fits label h = record { short = omega (arith, h) }

byte_short : (b : ℕ) → length (canonical_byte b) ≤ 2
byte_short b = by (is_marked b)
  where
    by : (t : Bool) → length (if t then 92 ∷ after_mark b ∷ [] else b ∷ []) ≤ 2
    by true = omega arith
    by false = omega arith

form_short : (form : List ℕ) → length (canonical_form form) ≤ 2 * length form
form_short [] = omega arith
form_short (b ∷ bytes) = omega (arith, byte_short b, form_short bytes, length-append (canonical_byte b) (canonical_form bytes))

plain_fits : (form : List ℕ) → 2 * length form ≤ 4000000 → Fits (plain form)
plain_fits form h = record { short = omega (arith, h, form_short form, length-append (canonical_form form) (34 ∷ [])) }

kind_short : (text : List ℕ) → length (canonical_kind (typed_kind text)) ≤ length text + 4
kind_short text = by (is_xsd_string text)
  where
    by : (t : Bool) → length (canonical_kind (if t then Plain else Typed text)) ≤ length text + 4
    by true = omega arith
    by false = omega (arith, length-append text (62 ∷ []))

digits_short : (n : ℕ) → n < 2 ^ 64 → length (decimal_text n) ≤ 20
digits_short n fits = decimal_text-short n 20 (omega arith) (omega (arith, fits))

integer_long : length (codes "http://www.w3.org/2001/XMLSchema#integer") ≡ 40
integer_long = refl

integer_fits : (n : ℕ) → n < 2 ^ 64 → Fits (integer n)
unfolding integer
integer_fits n fits = record {
  short = omega (
    arith,
    digits_short n fits,
    form_short (decimal_text n),
    kind_short (codes "http://www.w3.org/2001/XMLSchema#integer"),
    integer_long,
    length-append (canonical_form (decimal_text n)) (34 ∷ canonical_kind (typed_kind (codes "http://www.w3.org/2001/XMLSchema#integer"))),
  );
}

-- ---- quads

pub record AreFitting (quads : List Quad) : Type 0 where
  pub each : AllByRecursion (HasShortTerms LONGEST_READ) quads

pub joined : {xs ys : List Quad} → AreFitting xs → AreFitting ys → AreFitting (xs ++ ys)
joined {xs} {ys} h k = record { each = all_append (HasShortTerms LONGEST_READ) xs ys h.each k.each }

none : AreFitting []
none = record { each = tt }

-- a statement before others
one : {graph : List ℕ} {s p o : Term} {quads : List Quad} → Fits (Iri graph) → Fits s → Fits p → Fits o → AreFitting quads → AreFitting (statement graph s p o ∷ quads)
one g s p o more = record { each = (record { subject = s.short; predicate = p.short; object = o.short; graph = g.short }, more.each) }

-- ---- what is said of the page

-- texts of addresses, and numbers, that fit
pub record HasFittingTexts (m : Parts) : Type 0 where
  pub graph : length m.graph ≤ 4000000
  pub page : length m.page ≤ 4000000
  pub first : length m.first ≤ 4000000
  pub base : length m.base ≤ 3000000
  pub template : 2 * length m.template ≤ 4000000
  pub next : length m.next ≤ 4000000
  pub previous : length m.previous ≤ 4000000
  pub count : m.count < 2 ^ 64
  pub version : m.version < 2 ^ 64

data_set_long : length (codes "#dataset") ≡ 8
data_set_long = refl

data_set_fits : (base : List ℕ) → length base ≤ 3000000 → Fits (Iri (base ++ codes "#dataset"))
data_set_fits base h = iri_fits (base ++ codes "#dataset") (omega (arith, h, length-append base (codes "#dataset"), data_set_long))

topic_fits : (m : Parts) → HasFittingTexts m → AreFitting (topic_quads m.graph m.page m.first m.base)
unfolding foaf void hydra topic_quads
topic_fits m h =
    let graph = iri_fits m.graph h.graph in
    let data_set = data_set_fits m.base h.base in
    one graph graph (iri_fits (codes "http://xmlns.com/foaf/0.1/" ++ codes "primaryTopic") (lit≤ tt)) (iri_fits m.page h.page)
    (one graph data_set (iri_fits (codes "http://rdfs.org/ns/void#" ++ codes "subset") (lit≤ tt)) (iri_fits m.first h.first)
    (one graph data_set (iri_fits (codes "http://www.w3.org/ns/hydra/core#" ++ codes "search") (lit≤ tt)) (blank_fits (codes "form") (lit≤ tt)) none))

form_fits : (m : Parts) → HasFittingTexts m → AreFitting (form_quads m.graph m.template)
unfolding hydra form_quads
form_fits m h =
    let graph = iri_fits m.graph h.graph in
    one graph (blank_fits (codes "form") (lit≤ tt)) (iri_fits (codes "http://www.w3.org/ns/hydra/core#" ++ codes "template") (lit≤ tt)) (plain_fits m.template h.template)
    (one graph (blank_fits (codes "form") (lit≤ tt)) (iri_fits (codes "http://www.w3.org/ns/hydra/core#" ++ codes "variableRepresentation") (lit≤ tt)) (iri_fits (codes "http://www.w3.org/ns/hydra/core#" ++ codes "ExplicitRepresentation") (lit≤ tt)) none)

mapping_fits : (graph label name : List ℕ) → Fits (Iri graph) → Fits (Blank label) → Fits (plain name) → Fits (rdf name) → AreFitting (mapping_quads graph label name)
unfolding hydra mapping_quads
mapping_fits graph label name g own text property =
    one g (blank_fits (codes "form") (lit≤ tt)) (iri_fits (codes "http://www.w3.org/ns/hydra/core#" ++ codes "mapping") (lit≤ tt)) own
    (one g own (iri_fits (codes "http://www.w3.org/ns/hydra/core#" ++ codes "variable") (lit≤ tt)) text
    (one g own (iri_fits (codes "http://www.w3.org/ns/hydra/core#" ++ codes "property") (lit≤ tt)) property none))

count_fits : (m : Parts) → HasFittingTexts m → AreFitting (count_quads m.graph m.page m.first m.count)
unfolding void hydra count_quads
count_fits m h =
    let graph = iri_fits m.graph h.graph in
    let page = iri_fits m.page h.page in
    let first = iri_fits m.first h.first in
    let count = integer_fits m.count h.count in
    one graph first (iri_fits (codes "http://rdfs.org/ns/void#" ++ codes "subset") (lit≤ tt)) page
    (one graph page (iri_fits (codes "http://www.w3.org/ns/hydra/core#" ++ codes "totalItems") (lit≤ tt)) count
    (one graph page (iri_fits (codes "http://rdfs.org/ns/void#" ++ codes "triples") (lit≤ tt)) count
    (one graph page (iri_fits (codes "http://www.w3.org/ns/hydra/core#" ++ codes "first") (lit≤ tt)) first none)))

link_fits : (there : Bool) (graph page name target : List ℕ) → Fits (Iri graph) → Fits (Iri page) → Fits (hydra name) → Fits (Iri target) → AreFitting (link_quads there graph page name target)
unfolding link_quads
link_fits true graph page name target g own property other = one g own property other none
link_fits false graph page name target g own property other = none

version_fits : (m : Parts) → HasFittingTexts m → AreFitting (version_quads m.graph m.base m.version)
unfolding owl version_quads
version_fits m h =
    one (iri_fits m.graph h.graph) (data_set_fits m.base h.base) (iri_fits (codes "http://www.w3.org/2002/07/owl#" ++ codes "versionInfo") (lit≤ tt))
    (plain_fits (decimal_text m.version) (omega (arith, digits_short m.version h.version))) none

subject_fits : Fits (rdf (codes "subject"))
unfolding rdf
subject_fits = iri_fits (codes "http://www.w3.org/1999/02/22-rdf-syntax-ns#" ++ codes "subject") (lit≤ tt)

predicate_fits : Fits (rdf (codes "predicate"))
unfolding rdf
predicate_fits = iri_fits (codes "http://www.w3.org/1999/02/22-rdf-syntax-ns#" ++ codes "predicate") (lit≤ tt)

object_fits : Fits (rdf (codes "object"))
unfolding rdf
object_fits = iri_fits (codes "http://www.w3.org/1999/02/22-rdf-syntax-ns#" ++ codes "object") (lit≤ tt)

next_fits : Fits (hydra (codes "next"))
unfolding hydra
next_fits = iri_fits (codes "http://www.w3.org/ns/hydra/core#" ++ codes "next") (lit≤ tt)

previous_fits : Fits (hydra (codes "previous"))
unfolding hydra
previous_fits = iri_fits (codes "http://www.w3.org/ns/hydra/core#" ++ codes "previous") (lit≤ tt)

pub metadata_fits : (there back : Bool) (m : Parts) → HasFittingTexts m → AreFitting (metadata there back m)
unfolding metadata
metadata_fits there back m h =
    let graph = iri_fits m.graph h.graph in
    let page = iri_fits m.page h.page in
    let topic = joined (topic_fits m h) (form_fits m h) in
    let with_subject = joined topic (mapping_fits m.graph (codes "s") (codes "subject") graph (blank_fits (codes "s") (lit≤ tt)) (plain_fits (codes "subject") (lit≤ tt)) subject_fits) in
    let with_predicate = joined with_subject (mapping_fits m.graph (codes "p") (codes "predicate") graph (blank_fits (codes "p") (lit≤ tt)) (plain_fits (codes "predicate") (lit≤ tt)) predicate_fits) in
    let with_object = joined with_predicate (mapping_fits m.graph (codes "o") (codes "object") graph (blank_fits (codes "o") (lit≤ tt)) (plain_fits (codes "object") (lit≤ tt)) object_fits) in
    let with_count = joined with_object (count_fits m h) in
    let with_next = joined with_count (link_fits there m.graph m.page (codes "next") m.next graph page next_fits (iri_fits m.next h.next)) in
    let with_previous = joined with_next (link_fits back m.graph m.page (codes "previous") m.previous graph page previous_fits (iri_fits m.previous h.previous)) in
    joined with_previous (version_fits m h)

-- ---- the data

triple_fits : (t : Triple) → Fits t.subject → Fits t.predicate → Fits t.object → HasShortTerms LONGEST_READ (in_default_graph t)
triple_fits t s p o = record { subject = s.short; predicate = p.short; object = o.short; graph = tt }

-- a triple of short terms
pub record HasFittingTerms (t : Triple) : Type 0 where
  pub subject : Fits t.subject
  pub predicate : Fits t.predicate
  pub object : Fits t.object

pub data_fits : (ts : List Triple) → AllByRecursion HasFittingTerms ts → AreFitting (map in_default_graph ts)
data_fits [] h = none
data_fits (t ∷ ts) h = let rest = data_fits ts h.1 in record { each = (triple_fits t h.0.subject h.0.predicate h.0.object, rest.each) }
