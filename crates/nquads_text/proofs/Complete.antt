-- What the grammar has is read.
use Rattle.std.proofs.Common.{ℕ, ◌≡◌, ◌+◌, ◌-◌, ◌⊎◌, inl, inr, true, false, ◌||◌, List, [], ◌∷◌, ◌++◌, length, slice_index, Option, Some, None, nat_eq, refl, ap, sym, subst, ◌∙◌, arith, length-append}
use Rattle.std.specs.List.{list_all}
use Rattle.std.specs.Str.{is_utf8, chars}
use Rattle.std.proofs.lemmas.Str.{is_utf8-from_IsUtf8, IsUtf8-append, chars-append}
use Rattle.std.proofs.lemmas.Bool.{and_parts}
use Rattle.rdf_terms.specs.Label.{is_label, is_label_char, begins_label, are_label_chars, ends_in_dot}
use Rattle.rdf_terms.specs.Triples.{IsIri, IsIriOrBlank, IsRdfGraph}
use Rattle.rdf_terms.specs.declared.term.Quad.{Quad}
use Rattle.rdf_terms.specs.declared.term.Term.{Term}
use Rattle.rdf_terms.specs.declared.term.Term.TheVariants.{Iri, Blank, Literal}
use Rattle.rdf_terms.specs.declared.term.Kind.{Kind}
use Rattle.rdf_terms.specs.declared.term.Kind.TheVariants.{Plain, Typed, Tagged}
use Rattle.nquads_text.specs.Grammar.{is_blank, ReadsIri, ReadsLabel, ReadsTag, SkipsBlanks, ReadsDatatype, ReadsKind, ReadsTerm, ReadsGraph, IsComment, HasNoStatement, IsStatement}
use Rattle.nquads_text.specs.Scan.{skipped, opened, is_over}
use Rattle.nquads_text.specs.Raw.{iri_part, form_part, label_part, tag_part, datatype_part, kind_part, literal_part, node_part, object_part, graph_part, statement_of}
use Rattle.nquads_text.proofs.Bodies.{iri_part-at}
use Rattle.nquads_text.proofs.Forms.{form_part-at}
use Rattle.nquads_text.proofs.Utf8.{one_ascii}
use Rattle.nquads_text.proofs.Labels.{label_at, tag_at, label_parts, LabelParts, Stops, begins_no_tag}
use Rattle.nquads_text.proofs.Statements.{skip_to, skip_twice, none_over, begins_no_blank, made_quad}

-- ---- what follows a term

-- the first mark after a term: of an IRI, a blank node, or the end of the statement
abbrev pub IsMark : List ℕ → Type 0
IsMark bytes = ((more : List ℕ) × (bytes ≡ 60 ∷ more)) ⊎ (((more : List ℕ) × (bytes ≡ 95 ∷ more)) ⊎ ((more : List ℕ) × (bytes ≡ 46 ∷ more) × HasNoStatement more))

pub record Follows (rest next : List ℕ) : Type 0 where
  pub blanks : SkipsBlanks rest next
  pub mark : IsMark next

mark_blank : (next : List ℕ) → IsMark next → begins_no_blank next ≡ true
mark_blank next (inl iri) = subst (λ (l : List ℕ). begins_no_blank l ≡ true) (sym iri.1) refl
mark_blank next (inr (inl blank)) = subst (λ (l : List ℕ). begins_no_blank l ≡ true) (sym blank.1) refl
mark_blank next (inr (inr dot)) = subst (λ (l : List ℕ). begins_no_blank l ≡ true) (sym dot.1) refl

pub skipped_next : (rest next : List ℕ) → Follows rest next → skipped rest ≡ next
skipped_next rest next f = skip_to rest next f.blanks (mark_blank next f.mark)

-- a blank or the first byte of what follows: no mark of a tag, a datatype or a byte of a tag
abbrev Plainly : List ℕ → Type 0
Plainly rest = (begins_no_tag rest ≡ true) × (opened 64 rest ≡ None)

mark_plainly : (next : List ℕ) → IsMark next → Plainly next
mark_plainly next (inl iri) = subst (λ (l : List ℕ). Plainly l) (sym iri.1) (refl, refl)
mark_plainly next (inr (inl blank)) = subst (λ (l : List ℕ). Plainly l) (sym blank.1) (refl, refl)
mark_plainly next (inr (inr dot)) = subst (λ (l : List ℕ). Plainly l) (sym dot.1) (refl, refl)

mark_open : (next : List ℕ) → IsMark next → opened 94 next ≡ None
mark_open next (inl iri) = ap (λ (l : List ℕ). opened 94 l) iri.1
mark_open next (inr (inl blank)) = ap (λ (l : List ℕ). opened 94 l) blank.1
mark_open next (inr (inr dot)) = ap (λ (l : List ℕ). opened 94 l) dot.1

blank_is : (b : ℕ) → is_blank b ≡ true → (b ≡ 32) ⊎ (b ≡ 9)
blank_is b h = grind (arith, h)

blank_plainly : (b : ℕ) (bs : List ℕ) → (b ≡ 32) ⊎ (b ≡ 9) → Plainly (b ∷ bs)
blank_plainly b bs (inl space) = subst (λ (k : ℕ). Plainly (k ∷ bs)) (sym space) (refl, refl)
blank_plainly b bs (inr tab) = subst (λ (k : ℕ). Plainly (k ∷ bs)) (sym tab) (refl, refl)

plainly_by : (blanks next : List ℕ) → list_all is_blank blanks ≡ true → IsMark next → Plainly (blanks ++ next)
plainly_by [] next h m = mark_plainly next m
plainly_by (b ∷ blanks) next h m = let p = and_parts (is_blank b) (list_all is_blank blanks) h in blank_plainly b (blanks ++ next) (blank_is b p.0)

plainly : (rest next : List ℕ) → Follows rest next → Plainly rest
plainly rest next f = subst (λ (l : List ℕ). Plainly l) (sym f.blanks.1) (plainly_by f.blanks.0 next f.blanks.2 f.mark)

-- ---- labels

blank_stops : (b : ℕ) (bs : List ℕ) → (b ≡ 32) ⊎ (b ≡ 9) → Stops (b ∷ bs)
blank_stops b bs (inl space) = subst (λ (k : ℕ). Stops (k ∷ bs)) (sym space) (λ e i. refl)
blank_stops b bs (inr tab) = subst (λ (k : ℕ). Stops (k ∷ bs)) (sym tab) (λ e i. refl)

comment_stops : (bytes : List ℕ) → IsComment bytes → Stops bytes
comment_stops bytes (inl none) = subst (λ (l : List ℕ). Stops l) (sym none) (λ e i. refl)
comment_stops bytes (inr (text, e)) = subst (λ (l : List ℕ). Stops l) (sym e) (λ e i. refl)

end_stops : (blanks comment : List ℕ) → list_all is_blank blanks ≡ true → IsComment comment → Stops (blanks ++ comment)
end_stops [] comment h c = comment_stops comment c
end_stops (b ∷ blanks) comment h c = let p = and_parts (is_blank b) (list_all is_blank blanks) h in blank_stops b (blanks ++ comment) (blank_is b p.0)

dot_stops : (more : List ℕ) → HasNoStatement more → Stops (46 ∷ more)
dot_stops more n e i = subst (λ (l : List ℕ). Stops l) (sym n.1.1) (end_stops n.1.0 n.0 n.1.2 n.2) e (i + 1)

last_one : (x : ℕ) (xs : List ℕ) → ends_in_dot (xs ++ x ∷ []) ≡ nat_eq x 46
last_one x xs = ap (λ (k : ℕ). nat_eq (slice_index (xs ++ x ∷ []) k) 46) (place xs) ∙ ap (λ (k : ℕ). nat_eq k 46) (there xs)
  where
    place : (xs : List ℕ) → length (xs ++ x ∷ []) - 1 ≡ length xs
    place xs = omega (arith, length-append xs (x ∷ []))

    there : (xs : List ℕ) → slice_index (xs ++ x ∷ []) (length xs) ≡ x
    there [] = refl
    there (y ∷ ys) = there ys

one_char : chars (95 ∷ []) ≡ 95 ∷ []
unfolding chars
one_char = refl

begins_more : (cs more : List ℕ) → begins_label cs ≡ true → begins_label (cs ++ more) ≡ true
begins_more [] more h = cc
begins_more (c ∷ cs) more h = h

each_more : (cs more : List ℕ) → are_label_chars cs ≡ true → are_label_chars more ≡ true → are_label_chars (cs ++ more) ≡ true
each_more [] more h k = k
each_more (c ∷ cs) more h k = let p = and_parts (is_label_char c || nat_eq c 46) (are_label_chars cs) h in rw (p.0, each_more cs more p.1 k) refl

-- a label with _ behind it is one
label_more : (label : List ℕ) → LabelParts label → is_label (label ++ 95 ∷ []) ≡ true
unfolding is_label
label_more label p =
    let utf8 : is_utf8 (label ++ 95 ∷ []) ≡ true = is_utf8-from_IsUtf8 (label ++ 95 ∷ []) (IsUtf8-append label (95 ∷ []) p.utf8 (one_ascii 95 (omega arith))) in
    let cs : chars (label ++ 95 ∷ []) ≡ chars label ++ 95 ∷ [] = chars-append label (95 ∷ []) p.utf8 ∙ ap (λ (l : List ℕ). chars label ++ l) one_char in
    let begins : begins_label (chars label ++ 95 ∷ []) ≡ true = begins_more (chars label) (95 ∷ []) p.begins in
    let each : are_label_chars (chars label ++ 95 ∷ []) ≡ true = each_more (chars label) (95 ∷ []) p.each refl in
    let last : ends_in_dot (label ++ 95 ∷ []) ≡ false = last_one 95 label in
    rw (utf8, cs, begins, each, last) refl

no_bytes : (b : ℕ) → ◌≡◌ {A = List ℕ} (b ∷ []) [] → ⊥
no_bytes b e = cc

mark_stops : (bytes label next : List ℕ) → ReadsLabel bytes label next → IsMark next → Stops next
mark_stops bytes label next r (inl iri) = subst (λ (l : List ℕ). Stops l) (sym iri.1) (λ e i. refl)
mark_stops bytes label next r (inr (inl blank)) =
    let none : ◌≡◌ {A = List ℕ} (95 ∷ []) [] = r.longest (95 ∷ []) blank.0 blank.1 (label_more label (label_parts label r.is_one)) in
    absurd (no_bytes 95 none)
mark_stops bytes label next r (inr (inr dot)) = subst (λ (l : List ℕ). Stops l) (sym dot.1) (dot_stops dot.0 dot.2)

stops_by : (bytes label rest blanks next : List ℕ) → ReadsLabel bytes label rest → rest ≡ blanks ++ next → list_all is_blank blanks ≡ true → IsMark next → Stops rest
stops_by bytes label rest [] next r e h m = subst (λ (l : List ℕ). Stops l) (sym e) (mark_stops bytes label next (subst (λ (l : List ℕ). ReadsLabel bytes label l) e r) m)
stops_by bytes label rest (b ∷ blanks) next r e h m =
    let p = and_parts (is_blank b) (list_all is_blank blanks) h in
    subst (λ (l : List ℕ). Stops l) (sym e) (blank_stops b (blanks ++ next) (blank_is b p.0))

label_next : (bytes label rest next : List ℕ) → ReadsLabel bytes label rest → Follows rest next → label_part bytes ≡ Some (label, rest)
label_next bytes label rest next r f = label_at bytes label rest r (stops_by bytes label rest f.blanks.0 next r f.blanks.1 f.blanks.2 f.mark)

-- ---- kinds

no_tag : (bytes : List ℕ) → opened 64 bytes ≡ None → tag_part bytes ≡ None
unfolding tag_part
no_tag bytes e = rw e refl

no_datatype : (bytes : List ℕ) → opened 94 bytes ≡ None → datatype_part bytes ≡ None
unfolding datatype_part
no_datatype bytes e = rw e refl

plain_at : (rest next : List ℕ) → Follows rest next → kind_part rest ≡ (Plain, rest)
unfolding kind_part
plain_at rest next f =
    let tag : tag_part rest ≡ None = no_tag rest (plainly rest next f).1 in
    let skip : skipped rest ≡ next = skipped_next rest next f in
    let datatype : datatype_part next ≡ None = no_datatype next (mark_open next f.mark) in
    rw (tag, skip, datatype) refl

tagged_at : (bytes tag rest next : List ℕ) → ReadsTag bytes tag rest → Follows rest next → kind_part bytes ≡ (Tagged tag, rest)
unfolding kind_part
tagged_at bytes tag rest next r f =
    let at : tag_part bytes ≡ Some (tag, rest) = tag_at bytes tag rest r (plainly rest next f).0 in
    rw at refl

iri_begins : (bytes text rest : List ℕ) → ReadsIri bytes text rest → begins_no_blank bytes ≡ true
iri_begins bytes text rest r = subst (λ (l : List ℕ). begins_no_blank l ≡ true) (sym r.1) refl

pub iri_next : (bytes from text rest : List ℕ) → SkipsBlanks bytes from → ReadsIri from text rest → iri_part (skipped bytes) ≡ Some (text, rest)
iri_next bytes from text rest s r = ap (λ (l : List ℕ). iri_part l) (skip_to bytes from s (iri_begins from text rest r)) ∙ iri_part-at from text rest r

marks_no_tag : (blanks more : List ℕ) → list_all is_blank blanks ≡ true → opened 64 (blanks ++ 94 ∷ more) ≡ None
marks_no_tag [] more h = refl
marks_no_tag (b ∷ blanks) more h = let p = and_parts (is_blank b) (list_all is_blank blanks) h in (blank_plainly b (blanks ++ 94 ∷ more) (blank_is b p.0)).1

datatype_at : (bytes text rest : List ℕ) → ReadsDatatype bytes text rest → datatype_part (skipped bytes) ≡ Some (text, rest)
unfolding datatype_part
datatype_at bytes text rest r =
    let skip : skipped bytes ≡ 94 ∷ 94 ∷ r.0 = skip_to bytes (94 ∷ 94 ∷ r.0) r.2 refl in
    let iri : iri_part (skipped r.0) ≡ Some (text, rest) = iri_next r.0 r.1 text rest r.3 r.4 in
    rw (skip, iri) refl

typed_at : (bytes text rest : List ℕ) → ReadsDatatype bytes text rest → kind_part bytes ≡ (Typed text, rest)
unfolding kind_part
typed_at bytes text rest r =
    let none : opened 64 bytes ≡ None = ap (λ (l : List ℕ). opened 64 l) r.2.1 ∙ marks_no_tag r.2.0 (94 ∷ r.0) r.2.2 in
    let tag : tag_part bytes ≡ None = no_tag bytes none in
    let at : datatype_part (skipped bytes) ≡ Some (text, rest) = datatype_at bytes text rest r in
    rw (tag, at) refl

kind_at : (bytes rest next : List ℕ) (kind : Kind) → ReadsKind bytes kind rest → Follows rest next → kind_part bytes ≡ (kind, rest)
kind_at bytes rest next Plain r f = ap (λ (l : List ℕ). kind_part l) r ∙ plain_at rest next f
kind_at bytes rest next (Typed text) r f = typed_at bytes text rest r
kind_at bytes rest next (Tagged tag) r f = tagged_at bytes tag rest next r f

-- ---- terms

no_iri : (bytes : List ℕ) → opened 60 bytes ≡ None → iri_part bytes ≡ None
unfolding iri_part
no_iri bytes e = rw e refl

no_label_at : (bytes : List ℕ) → opened 95 bytes ≡ None → label_part bytes ≡ None
unfolding label_part
no_label_at bytes e = rw e refl

pub node_at : (bytes rest next : List ℕ) (term : Term) → ReadsTerm bytes term rest → IsIriOrBlank term → Follows rest next → node_part bytes ≡ Some (term, rest)
unfolding node_part
node_at bytes rest next (Iri text) r c f = let at : iri_part bytes ≡ Some (text, rest) = iri_part-at bytes text rest r in rw at refl
node_at bytes rest next (Blank label) r c f =
    let none : iri_part bytes ≡ None = no_iri bytes (ap (λ (l : List ℕ). opened 60 l) r.written) in
    let at : label_part bytes ≡ Some (label, rest) = label_next bytes label rest next r f in
    rw (none, at) refl
node_at bytes rest next (Literal form kind) r c f = absurd c

no_node : (bytes : List ℕ) → iri_part bytes ≡ None → label_part bytes ≡ None → node_part bytes ≡ None
unfolding node_part
no_node bytes e f = rw (e, f) refl

literal_at : (bytes rest next form : List ℕ) (kind : Kind) → ReadsTerm bytes (Literal form kind) rest → Follows rest next → literal_part bytes ≡ Some (Literal form kind, rest)
unfolding literal_part
literal_at bytes rest next form kind r f =
    let at : form_part bytes ≡ Some (form, r.0) = form_part-at bytes form r.0 r.1 in
    let k : kind_part r.0 ≡ (kind, rest) = kind_at r.0 rest next kind r.2 f in
    rw (at, k) refl

object_at : (bytes rest next : List ℕ) (term : Term) → ReadsTerm bytes term rest → Follows rest next → object_part bytes ≡ Some (term, rest)
unfolding object_part
object_at bytes rest next (Iri text) r f = let at : node_part bytes ≡ Some (Iri text, rest) = node_at bytes rest next (Iri text) r tt f in rw at refl
object_at bytes rest next (Blank label) r f = let at : node_part bytes ≡ Some (Blank label, rest) = node_at bytes rest next (Blank label) r tt f in rw at refl
object_at bytes rest next (Literal form kind) r f =
    let iri : iri_part bytes ≡ None = no_iri bytes (ap (λ (l : List ℕ). opened 60 l) r.1.1) in
    let label : label_part bytes ≡ None = no_label_at bytes (ap (λ (l : List ℕ). opened 95 l) r.1.1) in
    let none : node_part bytes ≡ None = no_node bytes iri label in
    let at : literal_part bytes ≡ Some (Literal form kind, rest) = literal_at bytes rest next form kind r f in
    rw (none, at) refl

-- ---- statements

term_begins : (bytes rest : List ℕ) (term : Term) → ReadsTerm bytes term rest → begins_no_blank bytes ≡ true
term_begins bytes rest (Iri text) r = iri_begins bytes text rest r
term_begins bytes rest (Blank label) r = subst (λ (l : List ℕ). begins_no_blank l ≡ true) (sym r.written) refl
term_begins bytes rest (Literal form kind) r = subst (λ (l : List ℕ). begins_no_blank l ≡ true) (sym r.1.1) refl

iri_mark : (bytes text rest : List ℕ) → ReadsIri bytes text rest → IsMark bytes
iri_mark bytes text rest r = inl (text ++ 62 ∷ rest, r.1)

graph_mark : (bytes rest : List ℕ) (graph : Term) → ReadsTerm bytes graph rest → IsIriOrBlank graph → IsMark bytes
graph_mark bytes rest (Iri text) r c = iri_mark bytes text rest r
graph_mark bytes rest (Blank label) r c = inr (inl (58 ∷ (label ++ rest), r.written))
graph_mark bytes rest (Literal form kind) r c = absurd c

object_next : (after from end dot : List ℕ) (graph : Option Term) → SkipsBlanks after from → ReadsGraph from graph end → IsRdfGraph graph → Follows end (46 ∷ dot) → (next : List ℕ) × Follows after next
object_next after from end dot None s r c f = (46 ∷ dot, record { blanks = skip_twice after end (46 ∷ dot) (subst (λ (l : List ℕ). SkipsBlanks after l) r s) f.blanks; mark = f.mark })
object_next after from end dot (Some graph) s r c f = (from, record { blanks = s; mark = graph_mark from end graph r c })

pub record GraphEnd (after dot : List ℕ) (graph : Option Term) : Type 0 where
  pub end : List ℕ
  pub read : graph_part (skipped after) ≡ (graph, end)
  pub to_dot : skipped end ≡ 46 ∷ dot

no_graph : (bytes : List ℕ) → opened 60 bytes ≡ None → opened 95 bytes ≡ None → graph_part bytes ≡ (None, bytes)
unfolding graph_part
no_graph bytes e f = let none : node_part bytes ≡ None = no_node bytes (no_iri bytes e) (no_label_at bytes f) in rw none refl

some_graph : (bytes end : List ℕ) (graph : Term) → node_part bytes ≡ Some (graph, end) → graph_part bytes ≡ (Some graph, end)
unfolding graph_part
some_graph bytes end graph e = rw e refl

graph_at : (after from end dot : List ℕ) (graph : Option Term) → SkipsBlanks after from → ReadsGraph from graph end → IsRdfGraph graph → Follows end (46 ∷ dot) → GraphEnd after dot graph
graph_at after from end dot None s r c f =
    let skip : skipped after ≡ 46 ∷ dot = skip_to after (46 ∷ dot) (skip_twice after end (46 ∷ dot) (subst (λ (l : List ℕ). SkipsBlanks after l) r s) f.blanks) refl in
    record { end = 46 ∷ dot; read = ap (λ (l : List ℕ). graph_part l) skip ∙ no_graph (46 ∷ dot) refl refl; to_dot = refl }
graph_at after from end dot (Some graph) s r c f =
    let skip : skipped after ≡ from = skip_to after from s (term_begins from end graph r) in
    record { end = end; read = ap (λ (l : List ℕ). graph_part l) skip ∙ some_graph from end graph (node_at from end (46 ∷ dot) graph r c f); to_dot = skipped_next end (46 ∷ dot) f }

iri_is : (term : Term) → IsIri term → (text : List ℕ) × (term ≡ Iri text)
iri_is (Iri text) c = (text, refl)
iri_is (Blank label) c = absurd c
iri_is (Literal form kind) c = absurd c

pub record Read (line : List ℕ) (q : Quad) : Type 0 where
  pub read : statement_of (skipped line) ≡ Some q
  pub not_over : is_over (skipped line) ≡ false

not_over : (bytes rest : List ℕ) (term : Term) → ReadsTerm bytes term rest → IsIriOrBlank term → is_over bytes ≡ false
not_over bytes rest (Iri text) r c = ap (λ (l : List ℕ). is_over l) r.1
not_over bytes rest (Blank label) r c = ap (λ (l : List ℕ). is_over l) r.written
not_over bytes rest (Literal form kind) r c = absurd c

made_of : (line from_subject after_subject after_predicate after_object end dot text : List ℕ) (s o : Term) (g : Option Term) → skipped line ≡ from_subject → node_part from_subject ≡ Some (s, after_subject) → iri_part (skipped after_subject) ≡ Some (text, after_predicate)
    → object_part (skipped after_predicate) ≡ Some (o, after_object) → graph_part (skipped after_object) ≡ (g, end) → skipped end ≡ 46 ∷ dot → is_over (skipped dot) ≡ true → statement_of (skipped line) ≡ Some (made_quad s (Iri text) o g)
unfolding statement_of
made_of line from_subject after_subject after_predicate after_object end dot text s o g skip subject predicate object graph to_dot over = rw (skip, subject, predicate, object, graph, to_dot, over) refl

pub statement_read : (line : List ℕ) (q : Quad) → IsStatement line q → Read line q
statement_read line q st =
    let p = iri_is q.triple.predicate st.classes.triple.predicate in
    let iri : ReadsIri st.from_predicate p.0 st.after_predicate = subst (λ (t : Term). ReadsTerm st.from_predicate t st.after_predicate) p.1 st.predicate in
    let subject_next : Follows st.after_subject st.from_predicate = record { blanks = st.blanks_1; mark = iri_mark st.from_predicate p.0 st.after_predicate iri } in
    let end_next : Follows st.after_graph (46 ∷ st.after_dot) = record { blanks = st.blanks_4; mark = inr (inr (st.after_dot, refl, st.over)) } in
    let next = object_next st.after_object st.from_graph st.after_graph st.after_dot q.graph st.blanks_3 st.graph st.classes.graph end_next in
    let ended = graph_at st.after_object st.from_graph st.after_graph st.after_dot q.graph st.blanks_3 st.graph st.classes.graph end_next in
    let skip : skipped line ≡ st.from_subject = skip_to line st.from_subject st.begins (term_begins st.from_subject st.after_subject q.triple.subject st.subject) in
    let object : object_part (skipped st.after_predicate) ≡ Some (q.triple.object, st.after_object) = ap (λ (l : List ℕ). object_part l) (skip_to st.after_predicate st.from_object st.blanks_2 (term_begins st.from_object st.after_object q.triple.object st.object)) ∙ object_at st.from_object st.after_object next.0 q.triple.object st.object next.1 in
    let made : statement_of (skipped line) ≡ Some (made_quad q.triple.subject (Iri p.0) q.triple.object q.graph) =
    made_of line st.from_subject st.after_subject st.after_predicate st.after_object ended.end st.after_dot p.0 q.triple.subject q.triple.object q.graph skip (node_at st.from_subject st.after_subject st.from_predicate q.triple.subject st.subject st.classes.triple.subject subject_next)
    (iri_next st.after_subject st.from_predicate p.0 st.after_predicate st.blanks_1 iri) object ended.read ended.to_dot (none_over st.after_dot st.over) in
    record {
      read = made ∙ ap (λ (t : Term). Some (made_quad q.triple.subject t q.triple.object q.graph)) (sym p.1);
      not_over = ap (λ (l : List ℕ). is_over l) skip ∙ not_over st.from_subject st.after_subject q.triple.subject st.subject st.classes.triple.subject;
    }
