-- The quads of a body are quads that text can give.
use Rattle.std.proofs.Common.{◌≡◌, ℕ, Bool, true, false, List, [], ◌∷◌, ◌++◌, map, Option, Some, None, refl, lit≤}
use Rattle.std.specs.Prelude.{codes}
use Rattle.std.specs.List.{AllByRecursion, list_all}
use Rattle.std.specs.Char.{is_ascii}
use Rattle.std.specs.Str.{chars, is_utf8}
use Rattle.std.proofs.lemmas.Str.{chars-IsAscii, is_utf8-from_IsUtf8}
use Rattle.list_laws.proofs.Each.{all_append}
use Rattle.list_laws.proofs.Bytes.{ascii_list}
use Rattle.rdf_terms.specs.Iri.{is_iri}
use Rattle.rdf_terms.specs.Label.{is_label, begins_label, are_label_chars, ends_in_dot}
use Rattle.rdf_terms.specs.Datatype.{xsd_string, lang_string}
use Rattle.rdf_terms.specs.Kinds.{typed_kind}
use Rattle.rdf_terms.specs.Triples.{IsIri, IsIriOrBlank, IsIriOrLiteral, IsGroundTriple, IsRdfQuad}
use Rattle.rdf_terms.specs.declared.term.Term.{Term}
use Rattle.rdf_terms.specs.declared.term.Term.TheVariants.{Iri, Blank, Literal}
use Rattle.rdf_terms.specs.declared.term.Triple.{Triple}
use Rattle.rdf_terms.specs.declared.term.Quad.{Quad}
use Rattle.rdf_terms.specs.Valid.{IsValidKind, IsValidTerm, IsValidTriple}
use Rattle.rdf_terms.specs.Sizes.{HasShortLabel}
use Rattle.nquads_text.specs.Quads.{IsReadableTerm, IsReadableGraph, IsReadable}
use Rattle.tpf_base.specs.Decimals.{decimal_text}
use Rattle.template_fill.specs.Metadata.{foaf, void, hydra, rdf, plain, integer, statement, topic_quads, form_quads, mapping_quads, count_quads, link_quads, version_quads, owl}
use Rattle.template_fill.specs.Bodies.{in_default_graph}
use Rattle.template_fill.proofs.Addresses.{utf8-ascii}
use Rattle.own_controls.specs.Safe.{IsWeb, HasSafeTexts, IsShort, IsShortGraph, HasShortTerms}
use Rattle.own_controls.proofs.Web.{web_more}
use Rattle.own_controls.proofs.Numbers.{number_utf8}
use Rattle.own_controls.specs.Metadata.{Parts, metadata}

-- ---- terms

-- a term that text can give, its length aside
pub record IsSafe (term : Term) : Type 0 where
  pub valid : IsValidTerm term
  pub label : HasShortLabel term

abbrev IsSafeGraph : Option Term → Type 0
IsSafeGraph None = Unit {0}
IsSafeGraph (Some graph) = IsSafe graph

pub record IsSafeQuad (q : Quad) : Type 0 where
  pub classes : IsRdfQuad q
  pub subject : IsSafe q.triple.subject
  pub predicate : IsSafe q.triple.predicate
  pub object : IsSafe q.triple.object
  pub graph : IsSafeGraph q.graph

safe_text : (text : List ℕ) → is_iri text ≡ true → list_all is_ascii text ≡ true → IsSafe (Iri text)
safe_text text iri ascii = record { valid = (iri, utf8-ascii text ascii); label = tt }

safe_web : (text : List ℕ) → IsWeb text → IsSafe (Iri text)
safe_web text h = safe_text text h.iri h.ascii

safe_plain : (form : List ℕ) → list_all is_ascii form ≡ true → IsSafe (plain form)
safe_plain form ascii = record { valid = (utf8-ascii form ascii, tt); label = tt }

integer_kind : IsValidKind (typed_kind (codes "http://www.w3.org/2001/XMLSchema#integer"))
unfolding xsd_string lang_string
integer_kind = (refl, utf8-ascii (codes "http://www.w3.org/2001/XMLSchema#integer") refl)

safe_integer : (n : ℕ) → IsSafe (integer n)
unfolding integer
safe_integer n = record { valid = (number_utf8 n, integer_kind); label = tt }

label_of : (bytes cs : List ℕ) → is_utf8 bytes ≡ true → chars bytes ≡ cs → begins_label cs ≡ true → are_label_chars cs ≡ true → ends_in_dot bytes ≡ false → is_label bytes ≡ true
unfolding is_label
label_of bytes cs text is first all dot = rw (text, is, first, all, dot) refl

-- a label of ASCII is its own characters
ascii_label : (bytes : List ℕ) → list_all is_ascii bytes ≡ true → begins_label bytes ≡ true → are_label_chars bytes ≡ true → ends_in_dot bytes ≡ false → is_label bytes ≡ true
ascii_label bytes ascii first all dot = label_of bytes bytes (is_utf8-from_IsUtf8 bytes (utf8-ascii bytes ascii)) (chars-IsAscii bytes (ascii_list bytes ascii)) first all dot

safe_form : IsSafe (Blank (codes "form"))
safe_form = record { valid = ascii_label (codes "form") refl refl refl refl; label = lit≤ tt }

safe_s : IsSafe (Blank (codes "s"))
safe_s = record { valid = ascii_label (codes "s") refl refl refl refl; label = lit≤ tt }

safe_p : IsSafe (Blank (codes "p"))
safe_p = record { valid = ascii_label (codes "p") refl refl refl refl; label = lit≤ tt }

safe_o : IsSafe (Blank (codes "o"))
safe_o = record { valid = ascii_label (codes "o") refl refl refl refl; label = lit≤ tt }

-- ---- lists

pub record AreSafe (qs : List Quad) : Type 0 where
  pub each : AllByRecursion IsSafeQuad qs

joined : {xs ys : List Quad} → AreSafe xs → AreSafe ys → AreSafe (xs ++ ys)
joined {xs} {ys} h k = record { each = all_append IsSafeQuad xs ys h.each k.each }

-- ---- a safe quad of short terms can be read

readable_term : (longest : ℕ) (term : Term) → IsSafe term → IsShort longest term → IsReadableTerm longest term
readable_term longest term safe short = record { valid = safe.valid; fits = short; label = safe.label }

readable_graph : (longest : ℕ) (graph : Option Term) → IsSafeGraph graph → IsShortGraph longest graph → IsReadableGraph longest graph
readable_graph longest None safe short = tt
readable_graph longest (Some graph) safe short = readable_term longest graph safe short

readable : (longest : ℕ) (q : Quad) → IsSafeQuad q → HasShortTerms longest q → IsReadable longest q
readable longest q safe short = record {
  classes = safe.classes;
  subject = readable_term longest q.triple.subject safe.subject short.subject;
  predicate = readable_term longest q.triple.predicate safe.predicate short.predicate;
  object = readable_term longest q.triple.object safe.object short.object;
  graph = readable_graph longest q.graph safe.graph short.graph;
}

pub all_readable : (longest : ℕ) (qs : List Quad) → AllByRecursion IsSafeQuad qs → AllByRecursion (HasShortTerms longest) qs → AllByRecursion (IsReadable longest) qs
all_readable longest [] safe short = tt
all_readable longest (q ∷ qs) safe short = (readable longest q safe.0 short.0, all_readable longest qs safe.1 short.1)

-- ---- the data

iri_label : (term : Term) → IsIri term → HasShortLabel term
iri_label (Iri text) h = tt
iri_label (Blank label) h = absurd h
iri_label (Literal form kind) h = tt

object_label : (term : Term) → IsIriOrLiteral term → HasShortLabel term
object_label (Iri text) h = tt
object_label (Blank label) h = absurd h
object_label (Literal form kind) h = tt

iri_or_blank : (term : Term) → IsIri term → IsIriOrBlank term
iri_or_blank (Iri text) h = tt
iri_or_blank (Blank label) h = tt
iri_or_blank (Literal form kind) h = absurd h

safe_triple : (t : Triple) → IsGroundTriple t → IsValidTriple t → IsSafeQuad (in_default_graph t)
safe_triple t classes valid = record {
  classes = record { triple = record { subject = iri_or_blank t.subject classes.subject; predicate = classes.predicate }; graph = tt };
  subject = record { valid = valid.subject; label = iri_label t.subject classes.subject };
  predicate = record { valid = valid.predicate; label = iri_label t.predicate classes.predicate };
  object = record { valid = valid.object; label = object_label t.object classes.object };
  graph = tt;
}

safe_data : (ts : List Triple) → AllByRecursion IsGroundTriple ts → AllByRecursion IsValidTriple ts → AllByRecursion IsSafeQuad (map in_default_graph ts)
safe_data [] classes valid = tt
safe_data (t ∷ ts) classes valid = (safe_triple t classes.0 valid.0, safe_data ts classes.1 valid.1)

-- ---- what is said of the page

safe_statement : (graph : List ℕ) (s p o : Term) → IsWeb graph → IsIriOrBlank s → IsIri p → IsSafe s → IsSafe p → IsSafe o → IsSafeQuad (statement graph s p o)
safe_statement graph s p o web node iri subject predicate object = record {
  classes = record { triple = record { subject = node; predicate = iri }; graph = tt };
  subject = subject;
  predicate = predicate;
  object = object;
  graph = safe_web graph web;
}

one : {q : Quad} {qs : List Quad} → IsSafeQuad q → AreSafe qs → AreSafe (q ∷ qs)
one h k = record { each = (h, k.each) }

none : AreSafe []
none = record { each = tt }

safe_topic : (m : Parts) → HasSafeTexts m → AreSafe (topic_quads m.graph m.page m.first m.base)
unfolding foaf void hydra topic_quads
safe_topic m h =
    let data_set = safe_web (m.base ++ codes "#dataset") (web_more m.base (codes "#dataset") h.base refl refl) in
    one (safe_statement m.graph (Iri m.graph) (foaf (codes "primaryTopic")) (Iri m.page) h.graph tt tt (safe_web m.graph h.graph) (safe_text _ refl refl) (safe_web m.page h.page))
    (one (safe_statement m.graph (Iri (m.base ++ codes "#dataset")) (void (codes "subset")) (Iri m.first) h.graph tt tt data_set (safe_text _ refl refl) (safe_web m.first h.first))
    (one (safe_statement m.graph (Iri (m.base ++ codes "#dataset")) (hydra (codes "search")) (Blank (codes "form")) h.graph tt tt data_set (safe_text _ refl refl) safe_form) none))

safe_form_quads : (m : Parts) → HasSafeTexts m → AreSafe (form_quads m.graph m.template)
unfolding hydra form_quads
safe_form_quads m h =
    one (safe_statement m.graph (Blank (codes "form")) (hydra (codes "template")) (plain m.template) h.graph tt tt safe_form (safe_text _ refl refl) (safe_plain m.template h.template))
    (one (safe_statement m.graph (Blank (codes "form")) (hydra (codes "variableRepresentation")) (hydra (codes "ExplicitRepresentation")) h.graph tt tt safe_form (safe_text _ refl refl) (safe_text _ refl refl)) none)

safe_mapping : (graph label name : List ℕ) → IsWeb graph → IsSafe (Blank label) → IsSafe (rdf name) → list_all is_ascii name ≡ true → AreSafe (mapping_quads graph label name)
unfolding hydra mapping_quads
safe_mapping graph label name web own property ascii =
    one (safe_statement graph (Blank (codes "form")) (hydra (codes "mapping")) (Blank label) web tt tt safe_form (safe_text _ refl refl) own)
    (one (safe_statement graph (Blank label) (hydra (codes "variable")) (plain name) web tt tt own (safe_text _ refl refl) (safe_plain name ascii))
    (one (safe_statement graph (Blank label) (hydra (codes "property")) (rdf name) web tt tt own (safe_text _ refl refl) property) none))

safe_count : (m : Parts) → HasSafeTexts m → AreSafe (count_quads m.graph m.page m.first m.count)
unfolding void hydra count_quads
safe_count m h =
    let page = safe_web m.page h.page in
    let first = safe_web m.first h.first in
    let count = safe_integer m.count in
    one (safe_statement m.graph (Iri m.first) (void (codes "subset")) (Iri m.page) h.graph tt tt first (safe_text _ refl refl) page)
    (one (safe_statement m.graph (Iri m.page) (hydra (codes "totalItems")) (integer m.count) h.graph tt tt page (safe_text _ refl refl) count)
    (one (safe_statement m.graph (Iri m.page) (void (codes "triples")) (integer m.count) h.graph tt tt page (safe_text _ refl refl) count)
    (one (safe_statement m.graph (Iri m.page) (hydra (codes "first")) (Iri m.first) h.graph tt tt page (safe_text _ refl refl) first) none)))

safe_link : (there : Bool) (graph page name target : List ℕ) → IsWeb graph → IsWeb page → IsWeb target → IsSafe (hydra name) → AreSafe (link_quads there graph page name target)
unfolding link_quads hydra
safe_link true graph page name target web own other property = one (safe_statement graph (Iri page) (hydra name) (Iri target) web tt tt (safe_web page own) property (safe_web target other)) none
safe_link false graph page name target web own other property = none

safe_number : (n : ℕ) → IsSafe (plain (decimal_text n))
safe_number n = record { valid = (number_utf8 n, tt); label = tt }

safe_version : (m : Parts) → HasSafeTexts m → AreSafe (version_quads m.graph m.base m.version)
unfolding owl version_quads
safe_version m h =
    let data_set = safe_web (m.base ++ codes "#dataset") (web_more m.base (codes "#dataset") h.base refl refl) in
    one (safe_statement m.graph (Iri (m.base ++ codes "#dataset")) (owl (codes "versionInfo")) (plain (decimal_text m.version)) h.graph tt tt data_set (safe_text _ refl refl) (safe_number m.version)) none

pub safe_metadata : (there back : Bool) (m : Parts) → HasSafeTexts m → AreSafe (metadata there back m)
unfolding metadata rdf hydra
safe_metadata there back m h =
    let topic = joined (safe_topic m h) (safe_form_quads m h) in
    let with_subject = joined topic (safe_mapping m.graph (codes "s") (codes "subject") h.graph safe_s (safe_text _ refl refl) refl) in
    let with_predicate = joined with_subject (safe_mapping m.graph (codes "p") (codes "predicate") h.graph safe_p (safe_text _ refl refl) refl) in
    let with_object = joined with_predicate (safe_mapping m.graph (codes "o") (codes "object") h.graph safe_o (safe_text _ refl refl) refl) in
    let with_count = joined with_object (safe_count m h) in
    let with_next = joined with_count (safe_link there m.graph m.page (codes "next") m.next h.graph h.page h.next (safe_text _ refl refl)) in
    let with_previous = joined with_next (safe_link back m.graph m.page (codes "previous") m.previous h.graph h.page h.previous (safe_text _ refl refl)) in
    joined with_previous (safe_version m h)

pub safe_body : (ts : List Triple) (there back : Bool) (m : Parts) → AllByRecursion IsGroundTriple ts → AllByRecursion IsValidTriple ts → HasSafeTexts m → AllByRecursion IsSafeQuad (map in_default_graph ts ++ metadata there back m)
safe_body ts there back m classes valid h = all_append IsSafeQuad (map in_default_graph ts) (metadata there back m) (safe_data ts classes valid) (safe_metadata there back m h).each
