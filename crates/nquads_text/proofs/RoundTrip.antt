-- Canonical text is read again as the quads that it was written from.
use Rattle.std.proofs.Common.{ℕ, ◌≡◌, ◌<◌, inl, inr, Bool, if◌then◌else◌, true, false, not, ◌&&◌, ◌||◌, nat_eq, nat_lt, List, [], ◌∷◌, ◌++◌, length, Option, Some, None, refl, ap, sym, subst, ◌∙◌, arith, append_assoc}
use Rattle.std.specs.List.{list_all, AllByRecursion}
use Rattle.std.specs.Option.{option_map}
use Rattle.std.specs.Str.{IsUtf8}
use Rattle.std.proofs.lemmas.Str.{IsUtf8-nil, IsUtf8-append}
use Rattle.std.proofs.lemmas.Bool.{and_parts, le-ltb, not-true, or_parts}
use Rattle.list_laws.proofs.Bytes.{cons_utf8}
use Rattle.rdf_terms.specs.Iri.{is_iri, is_iri_byte, has_scheme}
use Rattle.rdf_terms.specs.Label.{is_label}
use Rattle.rdf_terms.specs.Tag.{is_tag, is_lower_tag, is_upper, lower}
use Rattle.rdf_terms.specs.Datatype.{is_datatype, is_xsd_string, is_lang_string}
use Rattle.rdf_terms.specs.Canon.{is_marked, after_mark, canonical_byte, canonical_form, canonical_kind, canonical_term, canonical_graph, canonical_line, canon}
use Rattle.rdf_terms.specs.Triples.{IsIri, IsIriOrBlank, IsRdfGraph, IsRdfQuad}
use Rattle.rdf_terms.specs.declared.limits.TheConstants.{LONGEST_LABEL}
use Rattle.rdf_terms.specs.declared.term.Quad.{Quad}
use Rattle.rdf_terms.specs.declared.term.Term.{Term}
use Rattle.rdf_terms.specs.declared.term.Term.TheVariants.{Iri, Blank, Literal}
use Rattle.rdf_terms.specs.declared.term.Kind.{Kind}
use Rattle.rdf_terms.specs.declared.term.Kind.TheVariants.{Plain, Typed, Tagged}
use Rattle.rdf_terms.proofs.Tags.{lower_all}
use Rattle.nquads_text.specs.declared.fault.Why.TheVariants.{RelativeIri, LangString, TermTooLong}
use Rattle.nquads_text.specs.Grammar.{is_form_byte, is_short_escape, IsIriItem, IsFormItem, all_of, Each, AreItems, SkipsBlanks, ReadsKind, ReadsTerm, ReadsGraph, IsStatement}
use Rattle.nquads_text.specs.Meaning.{short_value, item_value, items_value, MeansText, MeansKind, MeansTerm, MeansGraph, MeansQuad}
use Rattle.nquads_text.specs.Faults.{is_relative, is_relative_kind, has_lang_string, is_lang_kind, has_long_label, is_too_long, graph_passes, some_term, fault_of}
use Rattle.rdf_terms.specs.Valid.{IsValidKind, IsValidTerm, IsValidGraph}
use Rattle.rdf_terms.specs.Sizes.{HasShortLabel}
use Rattle.nquads_text.specs.Quads.{IsReadableTerm, IsReadableGraph, IsReadable}
use Rattle.nquads_text.specs.Reads.{lines_of, ReadsLine, ReadsLines, Reads}
use Rattle.nquads_text.proofs.Utf8.{before_ascii, after_ascii, one_ascii}
use Rattle.nquads_text.proofs.TagTexts.{tag_text}
use Rattle.nquads_text.proofs.Labels.{label_parts, is_run_byte, label_run}
use Rattle.nquads_text.proofs.Statements.{made_quad}

-- ---- what the parts of a valid term keep

pub record IriParts (text : List ℕ) : Type 0 where
  pub each : list_all is_iri_byte text ≡ true
  pub scheme : has_scheme text ≡ true

iri_parts : (text : List ℕ) → is_iri text ≡ true → IriParts text
iri_parts text h = let p = and_parts (list_all is_iri_byte text) (has_scheme text) h in record { each = p.0; scheme = p.1 }

pub record DatatypeParts (text : List ℕ) : Type 0 where
  pub iri : IriParts text
  pub no_string : is_xsd_string text ≡ false
  pub no_lang : is_lang_string text ≡ false

datatype_parts : (text : List ℕ) → is_datatype text ≡ true → DatatypeParts text
datatype_parts text h =
    let p = and_parts (is_iri text && not (is_xsd_string text)) (not (is_lang_string text)) h in
    let q = and_parts (is_iri text) (not (is_xsd_string text)) p.0 in
    record { iri = iri_parts text q.0; no_string = not-true (is_xsd_string text) q.1; no_lang = not-true (is_lang_string text) p.1 }

pub record TagParts (tag : List ℕ) : Type 0 where
  pub is_one : is_tag tag ≡ true
  pub kept : lower tag ≡ tag

tag_parts : (tag : List ℕ) → is_lower_tag tag ≡ true → TagParts tag
unfolding is_lower_tag
tag_parts tag h = let p = and_parts (is_tag tag) (list_all (λ b. not (is_upper b)) tag) h in record { is_one = p.0; kept = lower_all tag p.1 }

-- ---- texts

singles : List ℕ → List (List ℕ)
singles [] = []
singles (b ∷ bs) = (b ∷ []) ∷ singles bs

singles_of : (text : List ℕ) → text ≡ all_of (singles text)
unfolding singles
singles_of [] = refl
singles_of (b ∷ text) = ap (λ (l : List ℕ). b ∷ l) (singles_of text)

singles_items : (text : List ℕ) → list_all is_iri_byte text ≡ true → Each IsIriItem (singles text)
unfolding singles
singles_items [] h = tt
singles_items (b ∷ text) h = let p = and_parts (is_iri_byte b) (list_all is_iri_byte text) h in (inl (b, refl, p.0), singles_items text p.1)

singles_value : (text : List ℕ) → items_value true (singles text) ≡ Some text
unfolding singles
singles_value [] = refl
singles_value (b ∷ text) = rw (singles_value text) refl

iri_items : (text : List ℕ) → IriParts text → AreItems IsIriItem text
iri_items text p = (singles text, singles_items text p.each, singles_of text)

iri_means : (text : List ℕ) → IriParts text → MeansText true text text
iri_means text p = (singles text, singles_items text p.each, singles_of text, singles_value text)

item_by : (k : Bool) (b : ℕ) → is_marked b ≡ k → IsFormItem (if k then 92 ∷ after_mark b ∷ [] else b ∷ [])
item_by true b h = let short : is_short_escape (after_mark b) ≡ true = grind (arith, h) in inr (inl (after_mark b, refl, short))
item_by false b h = let plain : is_form_byte b ≡ true = rw h refl in inl (b, refl, plain)

byte_items : List ℕ → List (List ℕ)
byte_items [] = []
byte_items (b ∷ bs) = canonical_byte b ∷ byte_items bs

bytes_of : (form : List ℕ) → canonical_form form ≡ all_of (byte_items form)
unfolding byte_items
bytes_of [] = refl
bytes_of (b ∷ form) = ap (λ (l : List ℕ). canonical_byte b ++ l) (bytes_of form)

bytes_each : (form : List ℕ) → Each IsFormItem (byte_items form)
unfolding byte_items
bytes_each [] = tt
bytes_each (b ∷ form) = (item_by (is_marked b) b refl, bytes_each form)

short_back : (b : ℕ) → is_marked b ≡ true → ((nat_eq (after_mark b) 117 || nat_eq (after_mark b) 85) ≡ false) × (short_value (after_mark b) ≡ b)
short_back b h = (grind (arith, h), grind (arith, h))

byte_value : (k : Bool) (b : ℕ) → is_marked b ≡ k → item_value false (if k then 92 ∷ after_mark b ∷ [] else b ∷ []) ≡ Some (b ∷ [])
byte_value true b h = let p = short_back b h in rw (p.0, p.1) refl
byte_value false b h = refl

bytes_value : (form : List ℕ) → items_value false (byte_items form) ≡ Some form
unfolding byte_items
bytes_value [] = refl
bytes_value (b ∷ form) = let v : item_value false (canonical_byte b) ≡ Some (b ∷ []) = byte_value (is_marked b) b refl in rw (v, bytes_value form) refl

form_items : (form : List ℕ) → AreItems IsFormItem (canonical_form form)
form_items form = (byte_items form, bytes_each form, bytes_of form)

form_means : (form : List ℕ) → MeansText false (canonical_form form) form
form_means form = (byte_items form, bytes_each form, bytes_of form, bytes_value form)

-- ---- terms as they are written

abbrev as_written : Term → Term
as_written (Iri text) = Iri text
as_written (Blank label) = Blank label
as_written (Literal form kind) = Literal (canonical_form form) kind

kind_means : (kind : Kind) → IsValidKind kind → MeansKind kind kind
kind_means Plain v = refl
kind_means (Typed datatype) v =
    let p = datatype_parts datatype v.0 in
    let none : is_xsd_string datatype ≡ false = p.no_string in
    (datatype, iri_means datatype p.iri, rw none refl)
kind_means (Tagged tag) v = ap (λ (t : List ℕ). Tagged t) (sym (tag_parts tag v).kept)

term_means : (term : Term) → IsValidTerm term → MeansTerm (as_written term) term
term_means (Iri text) v = (text, iri_means text (iri_parts text v.0), refl)
term_means (Blank label) v = refl
term_means (Literal form kind) v = (form, kind, form_means form, kind_means kind v.1, refl)

kind_reads : (kind : Kind) (rest : List ℕ) → IsValidKind kind → ReadsKind (canonical_kind kind ++ rest) kind rest
kind_reads Plain rest v = refl
kind_reads (Typed datatype) rest v = (
  60 ∷ ((datatype ++ 62 ∷ []) ++ rest),
  60 ∷ ((datatype ++ 62 ∷ []) ++ rest),
  ([], refl, refl),
  ([], refl, refl),
  (iri_items datatype (datatype_parts datatype v.0).iri, ap (λ (l : List ℕ). 60 ∷ l) (append_assoc datatype (62 ∷ []) rest)),
)
kind_reads (Tagged tag) rest v = (refl, (tag_parts tag v).is_one)

space_run : (more : List ℕ) → list_all is_run_byte (32 ∷ more) ≡ true → ⊥
space_run more h = cc

run_back : (xs ys : List ℕ) → list_all is_run_byte (xs ++ ys) ≡ true → list_all is_run_byte ys ≡ true
run_back [] ys h = h
run_back (x ∷ xs) ys h = run_back xs ys (and_parts (is_run_byte x) (list_all is_run_byte (xs ++ ys)) h).1

no_more : (label more later rest : List ℕ) → 32 ∷ rest ≡ more ++ later → is_label (label ++ more) ≡ true → more ≡ []
no_more label [] later rest e h = refl
no_more label (b ∷ more) later rest e h =
    let same : 32 ≡ b = cc in
    let runs : list_all is_run_byte (b ∷ more) ≡ true = run_back label (b ∷ more) (label_run (label ++ b ∷ more) (label_parts (label ++ b ∷ more) h)) in
    absurd (space_run more (subst (λ (k : ℕ). list_all is_run_byte (k ∷ more) ≡ true) (sym same) runs))

term_reads : (term : Term) (rest : List ℕ) → IsValidTerm term → ReadsTerm (canonical_term term ++ 32 ∷ rest) (as_written term) (32 ∷ rest)
term_reads (Iri text) rest v = (iri_items text (iri_parts text v.0), ap (λ (l : List ℕ). 60 ∷ l) (append_assoc text (62 ∷ []) (32 ∷ rest)))
term_reads (Blank label) rest v = record { written = refl; is_one = v; longest = λ more later e h. no_more label more later rest e h }
term_reads (Literal form kind) rest v =
    (canonical_kind kind ++ 32 ∷ rest, (form_items form, ap (λ (l : List ℕ). 34 ∷ l) (append_assoc (canonical_form form) (34 ∷ canonical_kind kind) (32 ∷ rest))), kind_reads kind (32 ∷ rest) v.1)

-- ---- no line end inside a line

abbrev no_end : ℕ → Bool
no_end b = not (nat_eq b 10 || nat_eq b 13)

abbrev NoEnds : List ℕ → Type 0
NoEnds bs = list_all no_end bs ≡ true

ends_append : (xs ys : List ℕ) → NoEnds xs → NoEnds ys → NoEnds (xs ++ ys)
ends_append [] ys h k = k
ends_append (x ∷ xs) ys h k = let p = and_parts (no_end x) (list_all no_end xs) h in rw (p.0, ends_append xs ys p.1 k) refl

ends_cons : (b : ℕ) (bs : List ℕ) → no_end b ≡ true → NoEnds bs → NoEnds (b ∷ bs)
ends_cons b bs h k = rw (h, k) refl

ends_each : (test : ℕ → Bool) (bs : List ℕ) → ((b : ℕ) → test b ≡ true → no_end b ≡ true) → list_all test bs ≡ true → NoEnds bs
ends_each test [] f h = refl
ends_each test (b ∷ bs) f h = let p = and_parts (test b) (list_all test bs) h in ends_cons b bs (f b p.0) (ends_each test bs f p.1)

iri_ends : (text : List ℕ) → IriParts text → NoEnds text
iri_ends text p = ends_each is_iri_byte text (λ b h. grind (arith, h)) p.each

run_ends : (text : List ℕ) → list_all is_run_byte text ≡ true → NoEnds text
run_ends text h = ends_each is_run_byte text (λ b h. grind (arith, h)) h

byte_ends : (k : Bool) (b : ℕ) → is_marked b ≡ k → NoEnds (if k then 92 ∷ after_mark b ∷ [] else b ∷ [])
byte_ends true b h = let good : no_end (after_mark b) ≡ true = grind (arith, h) in ends_cons 92 (after_mark b ∷ []) refl (ends_cons (after_mark b) [] good refl)
byte_ends false b h = let good : no_end b ≡ true = grind (arith, h) in ends_cons b [] good refl

form_ends : (form : List ℕ) → NoEnds (canonical_form form)
form_ends [] = refl
form_ends (b ∷ form) = ends_append (canonical_byte b) (canonical_form form) (byte_ends (is_marked b) b refl) (form_ends form)

tag_bytes_end : (b : ℕ) → Rattle.nquads_text.specs.Scan.is_tag_byte b ≡ true → no_end b ≡ true
tag_bytes_end b h = grind (arith, h)

kind_ends : (kind : Kind) → IsValidKind kind → NoEnds (canonical_kind kind)
kind_ends Plain v = refl
kind_ends (Typed datatype) v = ends_cons 94 (94 ∷ 60 ∷ (datatype ++ 62 ∷ [])) refl (ends_cons 94 (60 ∷ (datatype ++ 62 ∷ [])) refl (ends_cons 60 (datatype ++ 62 ∷ []) refl (ends_append datatype (62 ∷ []) (iri_ends datatype (datatype_parts datatype v.0).iri) refl)))
kind_ends (Tagged tag) v = ends_cons 64 tag refl (ends_each Rattle.nquads_text.specs.Scan.is_tag_byte tag tag_bytes_end (Rattle.nquads_text.proofs.TagTexts.tag_bytes tag (tag_parts tag v).is_one))

term_ends : (term : Term) → IsValidTerm term → NoEnds (canonical_term term)
term_ends (Iri text) v = ends_cons 60 (text ++ 62 ∷ []) refl (ends_append text (62 ∷ []) (iri_ends text (iri_parts text v.0)) refl)
term_ends (Blank label) v = ends_cons 95 (58 ∷ label) refl (ends_cons 58 label refl (run_ends label (label_run label (label_parts label v))))
term_ends (Literal form kind) v = ends_cons 34 (canonical_form form ++ 34 ∷ canonical_kind kind) refl (ends_append (canonical_form form) (34 ∷ canonical_kind kind) (form_ends form) (ends_cons 34 (canonical_kind kind) refl (kind_ends kind v.1)))

line_cut : (text rest : List ℕ) → NoEnds text → lines_of (text ++ 10 ∷ rest) ≡ text ∷ lines_of rest
line_cut [] rest h = refl
line_cut (b ∷ text) rest h =
    let p = and_parts (no_end b) (list_all no_end text) h in
    let q = or_parts (nat_eq b 10) (nat_eq b 13) (not-true (nat_eq b 10 || nat_eq b 13) p.0) in
    rw (q.0, q.1, line_cut text rest p.1) refl

-- ---- UTF-8

marked_low : (b : ℕ) → is_marked b ≡ true → (b < 128) × (after_mark b < 128)
marked_low b h = (grind (arith, h), grind (arith, h))

byte_utf8 : (k : Bool) (b : ℕ) (out form : List ℕ) → is_marked b ≡ k → ((out : List ℕ) → IsUtf8 (out ++ form) → IsUtf8 (out ++ canonical_form form)) → IsUtf8 (out ++ b ∷ form) → IsUtf8 (out ++ ((if k then 92 ∷ after_mark b ∷ [] else b ∷ []) ++ canonical_form form))
byte_utf8 true b out form m ih u =
    let low = marked_low b m in
    let front : IsUtf8 out = before_ascii out form b low.0 u in
    let back : IsUtf8 (canonical_form form) = ih [] (after_ascii out form b low.0 u) in
    let mark : 92 < 128 = omega arith in
    IsUtf8-append out (92 ∷ after_mark b ∷ canonical_form form) front (cons_utf8 92 (after_mark b ∷ canonical_form form) mark (cons_utf8 (after_mark b) (canonical_form form) low.1 back))
byte_utf8 false b out form m ih u = subst (λ (l : List ℕ). IsUtf8 l) (append_assoc out (b ∷ []) (canonical_form form)) (ih (out ++ b ∷ []) (subst (λ (l : List ℕ). IsUtf8 l) (sym (append_assoc out (b ∷ []) form)) u))

grown_form : (form out : List ℕ) → IsUtf8 (out ++ form) → IsUtf8 (out ++ canonical_form form)
grown_form [] out u = u
grown_form (b ∷ form) out u = byte_utf8 (is_marked b) b out form refl (λ x v. grown_form form x v) u

kind_utf8 : (kind : Kind) → IsValidKind kind → IsUtf8 (canonical_kind kind)
kind_utf8 Plain v = IsUtf8-nil
kind_utf8 (Typed datatype) v = cons_utf8 94 (94 ∷ 60 ∷ (datatype ++ 62 ∷ [])) (omega arith) (cons_utf8 94 (60 ∷ (datatype ++ 62 ∷ [])) (omega arith) (cons_utf8 60 (datatype ++ 62 ∷ []) (omega arith) (IsUtf8-append datatype (62 ∷ []) v.1 (one_ascii 62 (omega arith)))))
kind_utf8 (Tagged tag) v = cons_utf8 64 tag (omega arith) (tag_text tag (tag_parts tag v).is_one)

term_utf8 : (term : Term) → IsValidTerm term → IsUtf8 (canonical_term term)
term_utf8 (Iri text) v = cons_utf8 60 (text ++ 62 ∷ []) (omega arith) (IsUtf8-append text (62 ∷ []) v.1 (one_ascii 62 (omega arith)))
term_utf8 (Blank label) v = cons_utf8 95 (58 ∷ label) (omega arith) (cons_utf8 58 label (omega arith) (label_parts label v).utf8)
term_utf8 (Literal form kind) v = cons_utf8 34 (canonical_form form ++ 34 ∷ canonical_kind kind) (omega arith) (IsUtf8-append (canonical_form form) (34 ∷ canonical_kind kind) (grown_form form [] v.0) (cons_utf8 34 (canonical_kind kind) (omega arith) (kind_utf8 kind v.1)))

-- ---- lines

-- the text of a line without its end
abbrev line_text : Quad → List ℕ
line_text q = canonical_term q.triple.subject ++ 32 ∷ (canonical_term q.triple.predicate ++ 32 ∷ (canonical_term q.triple.object ++ (canonical_graph q.graph ++ 32 ∷ 46 ∷ [])))

ended : (s p o g rest : List ℕ) → (s ++ 32 ∷ (p ++ 32 ∷ ((o ++ g) ++ 32 ∷ 46 ∷ 10 ∷ []))) ++ rest ≡ (s ++ 32 ∷ (p ++ 32 ∷ (o ++ (g ++ 32 ∷ 46 ∷ [])))) ++ 10 ∷ rest
ended s p o g rest = simp append_assoc

line_is : (q : Quad) (rest : List ℕ) → canonical_line q ++ rest ≡ line_text q ++ 10 ∷ rest
line_is q rest = ended (canonical_term q.triple.subject) (canonical_term q.triple.predicate) (canonical_term q.triple.object) (canonical_graph q.graph) rest

-- what stands after the object: a space, and where the graph is
pub record GraphText (graph : Option Term) : Type 0 where
  pub more : List ℕ
  pub from : List ℕ
  pub spaced : canonical_graph graph ++ 32 ∷ 46 ∷ [] ≡ 32 ∷ more
  pub skips : SkipsBlanks (canonical_graph graph ++ 32 ∷ 46 ∷ []) from
  pub reads : ReadsGraph from (option_map as_written graph) (32 ∷ 46 ∷ [])

graph_text : (graph : Option Term) → IsValidGraph graph → GraphText graph
graph_text None v = record { more = 46 ∷ []; from = 32 ∷ 46 ∷ []; spaced = refl; skips = ([], refl, refl); reads = refl }
graph_text (Some graph) v =
    record {
      more = canonical_term graph ++ 32 ∷ 46 ∷ [];
      from = canonical_term graph ++ 32 ∷ 46 ∷ [];
      spaced = refl;
      skips = (32 ∷ [], refl, refl);
      reads = term_reads graph (46 ∷ []) v;
    }

graph_means : (graph : Option Term) → IsValidGraph graph → MeansGraph (option_map as_written graph) graph
graph_means None v = refl
graph_means (Some graph) v = (graph, term_means graph v, refl)

graph_ends : (graph : Option Term) → IsValidGraph graph → NoEnds (canonical_graph graph)
graph_ends None v = refl
graph_ends (Some graph) v = ends_cons 32 (canonical_term graph) refl (term_ends graph v)

graph_utf8 : (graph : Option Term) → IsValidGraph graph → IsUtf8 (canonical_graph graph)
graph_utf8 None v = IsUtf8-nil
graph_utf8 (Some graph) v = cons_utf8 32 (canonical_term graph) (omega arith) (term_utf8 graph v)

written_iri : (term : Term) → IsIri term → IsIri (as_written term)
written_iri (Iri text) c = tt
written_iri (Blank label) c = absurd c
written_iri (Literal form kind) c = absurd c

written_node : (term : Term) → IsIriOrBlank term → IsIriOrBlank (as_written term)
written_node (Iri text) c = tt
written_node (Blank label) c = tt
written_node (Literal form kind) c = absurd c

written_class : (graph : Option Term) → IsRdfGraph graph → IsRdfGraph (option_map as_written graph)
written_class None c = tt
written_class (Some graph) c = written_node graph c

abbrev written_quad : Quad → Quad
written_quad q = made_quad (as_written q.triple.subject) (as_written q.triple.predicate) (as_written q.triple.object) (option_map as_written q.graph)

pub record LineParts (q : Quad) : Type 0 where
  pub subject : IsValidTerm q.triple.subject
  pub predicate : IsValidTerm q.triple.predicate
  pub object : IsValidTerm q.triple.object
  pub graph : IsValidGraph q.graph
  pub classes : IsRdfQuad q

object_reads : (o : Term) (after more : List ℕ) → after ≡ 32 ∷ more → IsValidTerm o → ReadsTerm (canonical_term o ++ after) (as_written o) after
object_reads o after more e v = subst (λ (l : List ℕ). ReadsTerm (canonical_term o ++ l) (as_written o) l) (sym e) (term_reads o more v)

line_statement : (q : Quad) → LineParts q → IsStatement (line_text q) (written_quad q)
line_statement q v =
    let g = graph_text q.graph v.graph in
    let after_object : List ℕ = canonical_graph q.graph ++ 32 ∷ 46 ∷ [] in
    record {
      from_subject = line_text q;
      after_subject = 32 ∷ (canonical_term q.triple.predicate ++ 32 ∷ (canonical_term q.triple.object ++ (canonical_graph q.graph ++ 32 ∷ 46 ∷ [])));
      from_predicate = canonical_term q.triple.predicate ++ 32 ∷ (canonical_term q.triple.object ++ (canonical_graph q.graph ++ 32 ∷ 46 ∷ []));
      after_predicate = 32 ∷ (canonical_term q.triple.object ++ (canonical_graph q.graph ++ 32 ∷ 46 ∷ []));
      from_object = canonical_term q.triple.object ++ (canonical_graph q.graph ++ 32 ∷ 46 ∷ []);
      after_object = canonical_graph q.graph ++ 32 ∷ 46 ∷ [];
      from_graph = g.from;
      after_graph = 32 ∷ 46 ∷ [];
      after_dot = [];
      begins = ([], refl, refl);
      subject = term_reads q.triple.subject (canonical_term q.triple.predicate ++ 32 ∷ (canonical_term q.triple.object ++ (canonical_graph q.graph ++ 32 ∷ 46 ∷ []))) v.subject;
      blanks_1 = (32 ∷ [], refl, refl);
      predicate = term_reads q.triple.predicate (canonical_term q.triple.object ++ (canonical_graph q.graph ++ 32 ∷ 46 ∷ [])) v.predicate;
      blanks_2 = (32 ∷ [], refl, refl);
      object = object_reads q.triple.object (canonical_graph q.graph ++ 32 ∷ 46 ∷ []) g.more g.spaced v.object;
      blanks_3 = g.skips;
      graph = g.reads;
      blanks_4 = (32 ∷ [], refl, refl);
      over = ([], ([], refl, refl), inl refl);
      classes = record { triple = record { subject = written_node q.triple.subject v.classes.triple.subject; predicate = written_iri q.triple.predicate v.classes.triple.predicate }; graph = written_class q.graph v.classes.graph };
    }

line_means : (q : Quad) → LineParts q → MeansQuad (written_quad q) q
line_means q v = record { subject = term_means q.triple.subject v.subject; predicate = term_means q.triple.predicate v.predicate; object = term_means q.triple.object v.object; graph = graph_means q.graph v.graph }

parts_end : (s p o g : List ℕ) → NoEnds s → NoEnds p → NoEnds o → NoEnds g → NoEnds (s ++ 32 ∷ (p ++ 32 ∷ (o ++ (g ++ 32 ∷ 46 ∷ []))))
parts_end s p o g hs hp ho hg =
    let a : NoEnds (g ++ 32 ∷ 46 ∷ []) = ends_append g (32 ∷ 46 ∷ []) hg refl in
    let b : NoEnds (o ++ (g ++ 32 ∷ 46 ∷ [])) = ends_append o (g ++ 32 ∷ 46 ∷ []) ho a in
    let d : NoEnds (p ++ 32 ∷ (o ++ (g ++ 32 ∷ 46 ∷ []))) = ends_append p (32 ∷ (o ++ (g ++ 32 ∷ 46 ∷ []))) hp (ends_cons 32 (o ++ (g ++ 32 ∷ 46 ∷ [])) refl b) in
    ends_append s (32 ∷ (p ++ 32 ∷ (o ++ (g ++ 32 ∷ 46 ∷ [])))) hs (ends_cons 32 (p ++ 32 ∷ (o ++ (g ++ 32 ∷ 46 ∷ []))) refl d)

line_ends : (q : Quad) → LineParts q → NoEnds (line_text q)
line_ends q v = parts_end (canonical_term q.triple.subject) (canonical_term q.triple.predicate) (canonical_term q.triple.object) (canonical_graph q.graph) (term_ends q.triple.subject v.subject) (term_ends q.triple.predicate v.predicate) (term_ends q.triple.object v.object) (graph_ends q.graph v.graph)

line_utf8 : (q : Quad) → LineParts q → IsUtf8 (line_text q)
line_utf8 q v =
    let space : 32 < 128 = omega arith in
    let dot : 46 < 128 = omega arith in
    IsUtf8-append (canonical_term q.triple.subject) _ (term_utf8 q.triple.subject v.subject) (cons_utf8 32 _ space
    (IsUtf8-append (canonical_term q.triple.predicate) _ (term_utf8 q.triple.predicate v.predicate) (cons_utf8 32 _ space
    (IsUtf8-append (canonical_term q.triple.object) _ (term_utf8 q.triple.object v.object) (IsUtf8-append (canonical_graph q.graph) (32 ∷ 46 ∷ []) (graph_utf8 q.graph v.graph) (cons_utf8 32 (46 ∷ []) space (one_ascii 46 dot)))))))

-- ---- no fault

pub record Passes (longest : ℕ) (term : Term) : Type 0 where
  pub relative : is_relative term ≡ false
  pub lang : has_lang_string term ≡ false
  pub long : is_too_long longest term ≡ false

kind_passes : (kind : Kind) → IsValidKind kind → (is_relative_kind kind ≡ false) × (is_lang_kind kind ≡ false)
kind_passes Plain v = (refl, refl)
kind_passes (Typed datatype) v = let p = datatype_parts datatype v.0 in (ap not p.iri.scheme, p.no_lang)
kind_passes (Tagged tag) v = (refl, refl)

valid_passes : (term : Term) → IsValidTerm term → (is_relative term ≡ false) × (has_lang_string term ≡ false)
valid_passes (Iri text) v = (ap not (iri_parts text v.0).scheme, refl)
valid_passes (Blank label) v = (refl, refl)
valid_passes (Literal form kind) v = kind_passes kind v.1

label_passes : (term : Term) → HasShortLabel term → has_long_label term ≡ false
label_passes (Iri text) h = refl
label_passes (Blank label) h = le-ltb LONGEST_LABEL (length label) h
label_passes (Literal form kind) h = refl

term_passes : (longest : ℕ) (term : Term) → IsReadableTerm longest term → Passes longest term
term_passes longest term r =
    let p = valid_passes term r.valid in
    let fits : nat_lt longest (length (canonical_term term)) ≡ false = le-ltb longest (length (canonical_term term)) r.fits in
    let short : has_long_label term ≡ false = label_passes term r.label in
    record { relative = p.0; lang = p.1; long = rw (fits, short) refl }

abbrev GraphPasses : ℕ → Option Term → Type 0
GraphPasses longest graph = (graph_passes is_relative graph ≡ false) × (graph_passes has_lang_string graph ≡ false) × (graph_passes (is_too_long longest) graph ≡ false)

graph_does : (longest : ℕ) (graph : Option Term) → IsReadableGraph longest graph → GraphPasses longest graph
graph_does longest None r = (refl, refl, refl)
graph_does longest (Some graph) r = let p = term_passes longest graph r in (p.relative, p.lang, p.long)

four : (a b d g : Bool) → a ≡ false → b ≡ false → d ≡ false → g ≡ false → (((a || b) || d) || g) ≡ false
four a b d g e f h k = rw (e, f, h, k) refl

no_fault : (longest : ℕ) (q : Quad) → IsReadable longest q → fault_of longest q ≡ None
no_fault longest q r =
    let s = term_passes longest q.triple.subject r.subject in
    let p = term_passes longest q.triple.predicate r.predicate in
    let o = term_passes longest q.triple.object r.object in
    let g = graph_does longest q.graph r.graph in
    let x : some_term is_relative q ≡ false = four (is_relative q.triple.subject) (is_relative q.triple.predicate) (is_relative q.triple.object) (graph_passes is_relative q.graph) s.relative p.relative o.relative g.0 in
    let y : some_term has_lang_string q ≡ false = four (has_lang_string q.triple.subject) (has_lang_string q.triple.predicate) (has_lang_string q.triple.object) (graph_passes has_lang_string q.graph) s.lang p.lang o.lang g.1 in
    let z : some_term (is_too_long longest) q ≡ false = four (is_too_long longest q.triple.subject) (is_too_long longest q.triple.predicate) (is_too_long longest q.triple.object) (graph_passes (is_too_long longest) q.graph) s.long p.long o.long g.2 in
    three (some_term is_relative q) (some_term has_lang_string q) (some_term (is_too_long longest) q) x y z
  where
    three : (a b d : Bool) → a ≡ false → b ≡ false → d ≡ false → (if a then Some RelativeIri else (if b then Some LangString else (if d then Some TermTooLong else None))) ≡ None
    three a b d e f h = rw (e, f, h) refl

-- ---- the text

graph_valid : (longest : ℕ) (graph : Option Term) → IsReadableGraph longest graph → IsValidGraph graph
graph_valid longest None r = tt
graph_valid longest (Some graph) r = r.valid

line_parts : (longest : ℕ) (q : Quad) → IsReadable longest q → LineParts q
line_parts longest q r = record { subject = r.subject.valid; predicate = r.predicate.valid; object = r.object.valid; graph = graph_valid longest q.graph r.graph; classes = r.classes }

line_again : (longest : ℕ) (q : Quad) → IsReadable longest q → ReadsLine longest (line_text q) (Some q)
line_again longest q r = let v = line_parts longest q r in (line_utf8 q v, (written_quad q, line_statement q v, line_means q v, no_fault longest q r))

pub read_again : (longest : ℕ) (quads : List Quad) → AllByRecursion (IsReadable longest) quads → Reads (canon quads) longest quads
read_again longest [] h = refl
read_again longest (q ∷ quads) h =
    let cut : lines_of (canon (q ∷ quads)) ≡ line_text q ∷ lines_of (canon quads) = ap (λ (l : List ℕ). lines_of l) (line_is q (canon quads)) ∙ line_cut (line_text q) (canon quads) (line_ends q (line_parts longest q h.0)) in
    subst (λ (l : List (List ℕ)). ReadsLines longest l (q ∷ quads)) (sym cut) (Some q, quads, line_again longest q h.0, read_again longest quads h.1, refl)
