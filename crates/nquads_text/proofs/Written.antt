-- The texts of a statement as written are items of UTF-8.
use Rattle.std.proofs.Common.{ℕ, ◌≡◌, ◌<◌, true, List, [], ◌∷◌, ◌++◌, Option, Some, None, subst, arith}
use Rattle.std.specs.List.{list_all}
use Rattle.std.specs.Str.{IsUtf8}
use Rattle.std.proofs.lemmas.Bool.{and_parts}
use Rattle.rdf_terms.specs.declared.term.Quad.{Quad}
use Rattle.rdf_terms.specs.declared.term.Term.{Term}
use Rattle.rdf_terms.specs.declared.term.Term.TheVariants.{Iri, Blank, Literal}
use Rattle.rdf_terms.specs.declared.term.Kind.{Kind}
use Rattle.rdf_terms.specs.declared.term.Kind.TheVariants.{Plain, Typed, Tagged}
use Rattle.nquads_text.specs.Grammar.{is_blank, IsIriItem, IsFormItem, ReadsIri, ReadsForm, SkipsBlanks, ReadsKind, ReadsTerm, ReadsGraph, IsStatement}
use Rattle.nquads_text.specs.Line.{IsWrittenText, IsWrittenKind, IsWrittenTerm, IsWrittenGraph, IsWritten}
use Rattle.nquads_text.proofs.Utf8.{before_ascii, after_ascii, after_text}
use Rattle.nquads_text.proofs.Labels.{label_parts}
use Rattle.nquads_text.proofs.TagTexts.{tag_text}

blank_low : (b : ℕ) → is_blank b ≡ true → b < 128
blank_low b h = grind (arith, h)

after_all : (blanks rest : List ℕ) → list_all is_blank blanks ≡ true → IsUtf8 (blanks ++ rest) → IsUtf8 rest
after_all [] rest h u = u
after_all (b ∷ blanks) rest h u =
    let p = and_parts (is_blank b) (list_all is_blank blanks) h in
    after_all blanks rest p.1 (after_ascii [] (blanks ++ rest) b (blank_low b p.0) u)

pub after_blanks : (bytes rest : List ℕ) → SkipsBlanks bytes rest → IsUtf8 bytes → IsUtf8 rest
after_blanks bytes rest s u = after_all s.0 rest s.2 (subst (λ (l : List ℕ). IsUtf8 l) s.1 u)

between : (x y : ℕ) (bytes text rest : List ℕ) → x < 128 → y < 128 → bytes ≡ x ∷ (text ++ y ∷ rest) → IsUtf8 bytes → IsUtf8 text × IsUtf8 rest
between x y bytes text rest h k e u =
    let inside : IsUtf8 (text ++ y ∷ rest) = after_ascii [] (text ++ y ∷ rest) x h (subst (λ (l : List ℕ). IsUtf8 l) e u) in
    (before_ascii text rest y k inside, after_ascii text rest y k inside)

iri_written : (bytes text rest : List ℕ) → ReadsIri bytes text rest → IsUtf8 bytes → IsWrittenText IsIriItem text × IsUtf8 rest
iri_written bytes text rest r u = let p = between 60 62 bytes text rest (omega arith) (omega arith) r.1 u in (record { items = r.0; utf8 = p.0 }, p.1)

form_written : (bytes text rest : List ℕ) → ReadsForm bytes text rest → IsUtf8 bytes → IsWrittenText IsFormItem text × IsUtf8 rest
form_written bytes text rest r u = let p = between 34 34 bytes text rest (omega arith) (omega arith) r.1 u in (record { items = r.0; utf8 = p.0 }, p.1)

kind_written : (bytes rest : List ℕ) (kind : Kind) → ReadsKind bytes kind rest → IsUtf8 bytes → IsWrittenKind kind × IsUtf8 rest
kind_written bytes rest Plain r u = (tt, subst (λ (l : List ℕ). IsUtf8 l) r u)
kind_written bytes rest (Typed text) r u =
    let marks = after_blanks bytes (94 ∷ 94 ∷ r.0) r.2 u in
    let second = after_ascii [] (94 ∷ r.0) 94 (omega arith) marks in
    let inside = after_ascii [] r.0 94 (omega arith) second in
    iri_written r.1 text rest r.4 (after_blanks r.0 r.1 r.3 inside)
kind_written bytes rest (Tagged tag) r u =
    let text : IsUtf8 tag = tag_text tag r.1 in
    let inside : IsUtf8 (tag ++ rest) = after_ascii [] (tag ++ rest) 64 (omega arith) (subst (λ (l : List ℕ). IsUtf8 l) r.0 u) in
    (record { is_one = r.1; utf8 = text }, after_text tag rest text inside)

term_written : (bytes rest : List ℕ) (term : Term) → ReadsTerm bytes term rest → IsUtf8 bytes → IsWrittenTerm term × IsUtf8 rest
term_written bytes rest (Iri text) r u = iri_written bytes text rest r u
term_written bytes rest (Blank label) r u =
    let colon : IsUtf8 (58 ∷ (label ++ rest)) = after_ascii [] (58 ∷ (label ++ rest)) 95 (omega arith) (subst (λ (l : List ℕ). IsUtf8 l) r.written u) in
    let inside : IsUtf8 (label ++ rest) = after_ascii [] (label ++ rest) 58 (omega arith) colon in
    (r.is_one, after_text label rest (label_parts label r.is_one).utf8 inside)
term_written bytes rest (Literal form kind) r u =
    let f = form_written bytes form r.0 r.1 u in
    let k = kind_written r.0 rest kind r.2 f.1 in
    ((f.0, k.0), k.1)

graph_written : (bytes rest : List ℕ) (graph : Option Term) → ReadsGraph bytes graph rest → IsUtf8 bytes → IsWrittenGraph graph
graph_written bytes rest None r u = tt
graph_written bytes rest (Some graph) r u = (term_written bytes rest graph r u).0

pub written : (line : List ℕ) (q : Quad) → IsUtf8 line → IsStatement line q → IsWritten q
written line q u st =
    let s = term_written st.from_subject st.after_subject q.triple.subject st.subject (after_blanks line st.from_subject st.begins u) in
    let p = term_written st.from_predicate st.after_predicate q.triple.predicate st.predicate (after_blanks st.after_subject st.from_predicate st.blanks_1 s.1) in
    let o = term_written st.from_object st.after_object q.triple.object st.object (after_blanks st.after_predicate st.from_object st.blanks_2 p.1) in
    record { subject = s.0; predicate = p.0; object = o.0; graph = graph_written st.from_graph st.after_graph q.graph st.graph (after_blanks st.after_object st.from_graph st.blanks_3 o.1) }
