-- Resolving a statement's texts gives what the statement means; and what is meant, without a fault, can be held by the types.
use Rattle.std.proofs.Common.{ℕ, ◌≡◌, ◌⊎◌, inl, inr, Bool, if◌then◌else◌, true, false, not, ◌||◌, nat_lt, List, length, Option, Some, None, refl, ap, sym, subst, ◌∙◌}
use Rattle.std.specs.List.{list_all}
use Rattle.std.specs.Str.{IsUtf8}
use Rattle.std.proofs.lemmas.Bool.{ltb-false, not-false, or_parts}
use Rattle.std.proofs.lemmas.Option.{same_Some}
use Rattle.list_laws.proofs.Options.{bind_none, bind_some}
use Rattle.list_laws.specs.Options.{◌>>=◌}
use Rattle.rdf_terms.specs.Iri.{is_iri, is_iri_byte, has_scheme}
use Rattle.rdf_terms.specs.Tag.{lower}
use Rattle.rdf_terms.proofs.Tags.{lower_is_kept}
use Rattle.rdf_terms.specs.Datatype.{is_xsd_string}
use Rattle.rdf_terms.specs.Kinds.{typed_kind}
use Rattle.rdf_terms.specs.Canon.{canonical_term}
use Rattle.rdf_terms.specs.Triples.{IsIri, IsIriOrBlank, IsRdfGraph, IsRdfQuad}
use Rattle.rdf_terms.specs.declared.limits.TheConstants.{LONGEST_LABEL}
use Rattle.rdf_terms.specs.declared.term.Quad.{Quad}
use Rattle.rdf_terms.specs.declared.term.Term.{Term}
use Rattle.rdf_terms.specs.declared.term.Term.TheVariants.{Iri, Blank, Literal}
use Rattle.rdf_terms.specs.declared.term.Kind.{Kind}
use Rattle.rdf_terms.specs.declared.term.Kind.TheVariants.{Plain, Typed, Tagged}
use Rattle.nquads_text.specs.declared.fault.Why.{Why}
use Rattle.nquads_text.specs.declared.fault.Why.TheVariants.{RelativeIri, LangString, TermTooLong}
use Rattle.nquads_text.specs.Meaning.{HasBadEscape, MeansKind, MeansTerm, MeansGraph, MeansQuad, KindIsBad, TermIsBad, GraphIsBad, QuadIsBad}
use Rattle.nquads_text.specs.Faults.{is_relative, is_relative_kind, has_lang_string, is_lang_kind, has_long_label, is_too_long, graph_passes, some_term, fault_of}
use Rattle.nquads_text.specs.Escape.{resolved}
use Rattle.rdf_terms.specs.Valid.{IsValidKind, IsValidTerm, IsValidGraph, IsValidQuad}
use Rattle.rdf_terms.specs.Sizes.{HasShortLabel}
use Rattle.nquads_text.specs.Quads.{IsReadableTerm, IsReadableGraph, IsReadable}
use Rattle.nquads_text.specs.Line.{resolved_kind, resolved_term, resolved_graph, resolved_quad, IsWrittenKind, IsWrittenTerm, IsWrittenGraph, IsWritten}
use Rattle.nquads_text.proofs.Resolve.{means_resolved, resolved_means, bad_resolved, resolved_bad}
use Rattle.nquads_text.proofs.Texts.{text_utf8, text_iri}
use Rattle.nquads_text.proofs.Statements.{made_quad}

-- ---- from the reader to what is meant

kind_means : (raw kind : Kind) → IsWrittenKind raw → resolved_kind raw ≡ Some kind → MeansKind raw kind
kind_means Plain kind w e = sym (same_Some Plain kind e)
kind_means (Typed datatype) kind w e =
    let b = bind_some (resolved true datatype) (λ (text : List ℕ). Some (typed_kind text)) kind e in
    (b.0, resolved_means true datatype b.0 w.items b.1, sym (same_Some (typed_kind b.0) kind b.2))
kind_means (Tagged tag) kind w e = sym (same_Some (Tagged (lower tag)) kind e)

term_means : (raw term : Term) → IsWrittenTerm raw → resolved_term raw ≡ Some term → MeansTerm raw term
unfolding resolved_term
term_means (Iri bytes) term w e =
    let b = bind_some (resolved true bytes) (λ (text : List ℕ). Some (Iri text)) term e in
    (b.0, resolved_means true bytes b.0 w.items b.1, sym (same_Some (Iri b.0) term b.2))
term_means (Blank label) term w e = sym (same_Some (Blank label) term e)
term_means (Literal form kind) term w e =
    let f = bind_some (resolved false form) (λ (f : List ℕ). resolved_kind kind >>= λ k. Some (Literal f k)) term e in
    let k = bind_some (resolved_kind kind) (λ (k : Kind). Some (Literal f.0 k)) term f.2 in
    (f.0, k.0, resolved_means false form f.0 w.0.items f.1, kind_means kind k.0 w.1 k.1, sym (same_Some (Literal f.0 k.0) term k.2))

graph_means : (raw graph : Option Term) → IsWrittenGraph raw → resolved_graph raw ≡ Some graph → MeansGraph raw graph
graph_means None graph w e = sym (same_Some None graph e)
graph_means (Some raw) graph w e =
    let b = bind_some (resolved_term raw) (λ (t : Term). Some (Some t)) graph e in
    (b.0, term_means raw b.0 w b.1, sym (same_Some (Some b.0) graph b.2))

pub quad_means : (raw q : Quad) → IsWritten raw → resolved_quad raw ≡ Some q → MeansQuad raw q
unfolding resolved_quad
quad_means raw q w e =
    let s = bind_some (resolved_term raw.triple.subject) (λ (s : Term). resolved_term raw.triple.predicate >>= λ p. resolved_term raw.triple.object >>= λ o. resolved_graph raw.graph >>= λ g. Some (made_quad s p o g)) q e in
    let p = bind_some (resolved_term raw.triple.predicate) (λ (p : Term). resolved_term raw.triple.object >>= λ o. resolved_graph raw.graph >>= λ g. Some (made_quad s.0 p o g)) q s.2 in
    let o = bind_some (resolved_term raw.triple.object) (λ (o : Term). resolved_graph raw.graph >>= λ g. Some (made_quad s.0 p.0 o g)) q p.2 in
    let g = bind_some (resolved_graph raw.graph) (λ (g : Option Term). Some (made_quad s.0 p.0 o.0 g)) q o.2 in
    subst (λ (q : Quad). MeansQuad raw q) (same_Some (made_quad s.0 p.0 o.0 g.0) q g.2) (record {
      subject = term_means raw.triple.subject s.0 w.subject s.1;
      predicate = term_means raw.triple.predicate p.0 w.predicate p.1;
      object = term_means raw.triple.object o.0 w.object o.1;
      graph = graph_means raw.graph g.0 w.graph g.1;
    })

kind_bad : (raw : Kind) → IsWrittenKind raw → resolved_kind raw ≡ None → KindIsBad raw
kind_bad Plain w e = cc
kind_bad (Typed datatype) w e = by (bind_none (resolved true datatype) (λ (text : List ℕ). Some (typed_kind text)) e)
  where
    by : (resolved true datatype ≡ None) ⊎ ((text : List ℕ) × (resolved true datatype ≡ Some text) × (◌≡◌ {A = Option Kind} (Some (typed_kind text)) None)) → HasBadEscape true datatype
    by (inl none) = resolved_bad true datatype w.items none
    by (inr some) = cc
kind_bad (Tagged tag) w e = cc

term_bad : (raw : Term) → IsWrittenTerm raw → resolved_term raw ≡ None → TermIsBad raw
unfolding resolved_term
term_bad (Iri bytes) w e = by (bind_none (resolved true bytes) (λ (text : List ℕ). Some (Iri text)) e)
  where
    by : (resolved true bytes ≡ None) ⊎ ((text : List ℕ) × (resolved true bytes ≡ Some text) × (◌≡◌ {A = Option Term} (Some (Iri text)) None)) → HasBadEscape true bytes
    by (inl none) = resolved_bad true bytes w.items none
    by (inr some) = cc
term_bad (Blank label) w e = cc
term_bad (Literal form kind) w e = by (bind_none (resolved false form) (λ (f : List ℕ). resolved_kind kind >>= λ k. Some (Literal f k)) e)
  where
    in_kind : (f : List ℕ) → (resolved_kind kind ≡ None) ⊎ ((k : Kind) × (resolved_kind kind ≡ Some k) × (◌≡◌ {A = Option Term} (Some (Literal f k)) None)) → KindIsBad kind
    in_kind f (inl none) = kind_bad kind w.1 none
    in_kind f (inr some) = cc

    by : (resolved false form ≡ None) ⊎ ((f : List ℕ) × (resolved false form ≡ Some f) × ((resolved_kind kind >>= λ k. Some (Literal f k)) ≡ None)) → HasBadEscape false form ⊎ KindIsBad kind
    by (inl none) = inl (resolved_bad false form w.0.items none)
    by (inr some) = inr (in_kind some.0 (bind_none (resolved_kind kind) (λ (k : Kind). Some (Literal some.0 k)) some.2))

graph_bad : (raw : Option Term) → IsWrittenGraph raw → resolved_graph raw ≡ None → GraphIsBad raw
graph_bad None w e = cc
graph_bad (Some raw) w e = by (bind_none (resolved_term raw) (λ (t : Term). Some (Some t)) e)
  where
    by : (resolved_term raw ≡ None) ⊎ ((t : Term) × (resolved_term raw ≡ Some t) × (◌≡◌ {A = Option (Option Term)} (Some (Some t)) None)) → TermIsBad raw
    by (inl none) = term_bad raw w none
    by (inr some) = cc

bad_by : {A B : Type 0} (o : Option A) (f : A → Option B) {X Y : Type 0} → (o ≡ None → X) → ((x : A) → f x ≡ None → Y) → (o >>= f) ≡ None → X ⊎ Y
bad_by None f h k e = inl (h refl)
bad_by (Some x) f h k e = inr (k x e)

pub quad_bad : (raw : Quad) → IsWritten raw → resolved_quad raw ≡ None → QuadIsBad raw
unfolding resolved_quad
quad_bad raw w e =
    bad_by (resolved_term raw.triple.subject) (λ (s : Term). resolved_term raw.triple.predicate >>= λ p. resolved_term raw.triple.object >>= λ o. resolved_graph raw.graph >>= λ g. Some (made_quad s p o g)) (term_bad raw.triple.subject w.subject)
    (λ s. bad_by (resolved_term raw.triple.predicate) (λ (p : Term). resolved_term raw.triple.object >>= λ o. resolved_graph raw.graph >>= λ g. Some (made_quad s p o g)) (term_bad raw.triple.predicate w.predicate)
    (λ p. bad_by (resolved_term raw.triple.object) (λ (o : Term). resolved_graph raw.graph >>= λ g. Some (made_quad s p o g)) (term_bad raw.triple.object w.object)
    (λ o. last s p o (resolved_graph raw.graph) (graph_bad raw.graph w.graph))))
    e
  where
    last : (s p o : Term) (x : Option (Option Term)) {X : Type 0} → (x ≡ None → X) → (x >>= λ g. Some (made_quad s p o g)) ≡ None → X
    last s p o None h e = h refl
    last s p o (Some g) h e = cc

-- ---- from what is meant to the reader

means_kind : (raw kind : Kind) → MeansKind raw kind → resolved_kind raw ≡ Some kind
means_kind Plain kind m = ap (λ (k : Kind). Some k) (sym m)
means_kind (Typed datatype) kind m = let at : resolved true datatype ≡ Some m.0 = means_resolved true datatype m.0 m.1 in rw (at, m.2) refl
means_kind (Tagged tag) kind m = ap (λ (k : Kind). Some k) (sym m)

means_term : (raw term : Term) → MeansTerm raw term → resolved_term raw ≡ Some term
unfolding resolved_term
means_term (Iri bytes) term m = let at : resolved true bytes ≡ Some m.0 = means_resolved true bytes m.0 m.1 in rw (at, m.2) refl
means_term (Blank label) term m = ap (λ (t : Term). Some t) (sym m)
means_term (Literal form kind) term m =
    let at : resolved false form ≡ Some m.0 = means_resolved false form m.0 m.2 in
    let k : resolved_kind kind ≡ Some m.1 = means_kind kind m.1 m.3 in
    rw (at, k, m.4) refl

means_graph : (raw graph : Option Term) → MeansGraph raw graph → resolved_graph raw ≡ Some graph
means_graph None graph m = ap (λ (g : Option Term). Some g) (sym m)
means_graph (Some raw) graph m = let at : resolved_term raw ≡ Some m.0 = means_term raw m.0 m.1 in rw (at, m.2) refl

pub means_quad : (raw q : Quad) → MeansQuad raw q → resolved_quad raw ≡ Some q
unfolding resolved_quad
means_quad raw q m =
    let s : resolved_term raw.triple.subject ≡ Some q.triple.subject = means_term raw.triple.subject q.triple.subject m.subject in
    let p : resolved_term raw.triple.predicate ≡ Some q.triple.predicate = means_term raw.triple.predicate q.triple.predicate m.predicate in
    let o : resolved_term raw.triple.object ≡ Some q.triple.object = means_term raw.triple.object q.triple.object m.object in
    let g : resolved_graph raw.graph ≡ Some q.graph = means_graph raw.graph q.graph m.graph in
    rw (s, p, o, g) refl

bad_kind : (raw : Kind) → KindIsBad raw → resolved_kind raw ≡ None
bad_kind Plain b = absurd b
bad_kind (Typed datatype) b = let at : resolved true datatype ≡ None = bad_resolved true datatype b in rw at refl
bad_kind (Tagged tag) b = absurd b

none_after : {A B : Type 0} (o : Option A) (f : A → Option B) → ((x : A) → f x ≡ None) → (o >>= f) ≡ None
none_after None f h = refl
none_after (Some x) f h = h x

none_first : {A B : Type 0} (o : Option A) (f : A → Option B) → o ≡ None → (o >>= f) ≡ None
none_first None f e = refl
none_first (Some x) f e = cc

bad_term : (raw : Term) → TermIsBad raw → resolved_term raw ≡ None
unfolding resolved_term
bad_term (Iri bytes) b = let at : resolved true bytes ≡ None = bad_resolved true bytes b in rw at refl
bad_term (Blank label) b = absurd b
bad_term (Literal form kind) (inl b) = let at : resolved false form ≡ None = bad_resolved false form b in rw at refl
bad_term (Literal form kind) (inr b) =
    none_after (resolved false form) (λ (f : List ℕ). resolved_kind kind >>= λ k. Some (Literal f k)) (λ f. none_first (resolved_kind kind) (λ (k : Kind). Some (Literal f k)) (bad_kind kind b))

bad_graph : (raw : Option Term) → GraphIsBad raw → resolved_graph raw ≡ None
bad_graph None b = absurd b
bad_graph (Some raw) b = let at : resolved_term raw ≡ None = bad_term raw b in rw at refl

pub bad_quad : (raw : Quad) → QuadIsBad raw → resolved_quad raw ≡ None
unfolding resolved_quad
bad_quad raw (inl b) = let at : resolved_term raw.triple.subject ≡ None = bad_term raw.triple.subject b in rw at refl
bad_quad raw (inr (inl b)) =
    none_after (resolved_term raw.triple.subject) (λ (s : Term). resolved_term raw.triple.predicate >>= λ p. resolved_term raw.triple.object >>= λ o. resolved_graph raw.graph >>= λ g. Some (made_quad s p o g))
    (λ s. none_first (resolved_term raw.triple.predicate) (λ (p : Term). resolved_term raw.triple.object >>= λ o. resolved_graph raw.graph >>= λ g. Some (made_quad s p o g)) (bad_term raw.triple.predicate b))
bad_quad raw (inr (inr (inl b))) =
    none_after (resolved_term raw.triple.subject) (λ (s : Term). resolved_term raw.triple.predicate >>= λ p. resolved_term raw.triple.object >>= λ o. resolved_graph raw.graph >>= λ g. Some (made_quad s p o g))
    (λ s. none_after (resolved_term raw.triple.predicate) (λ (p : Term). resolved_term raw.triple.object >>= λ o. resolved_graph raw.graph >>= λ g. Some (made_quad s p o g))
    (λ p. none_first (resolved_term raw.triple.object) (λ (o : Term). resolved_graph raw.graph >>= λ g. Some (made_quad s p o g)) (bad_term raw.triple.object b)))
bad_quad raw (inr (inr (inr b))) =
    none_after (resolved_term raw.triple.subject) (λ (s : Term). resolved_term raw.triple.predicate >>= λ p. resolved_term raw.triple.object >>= λ o. resolved_graph raw.graph >>= λ g. Some (made_quad s p o g))
    (λ s. none_after (resolved_term raw.triple.predicate) (λ (p : Term). resolved_term raw.triple.object >>= λ o. resolved_graph raw.graph >>= λ g. Some (made_quad s p o g))
    (λ p. none_after (resolved_term raw.triple.object) (λ (o : Term). resolved_graph raw.graph >>= λ g. Some (made_quad s p o g))
    (λ o. none_first (resolved_graph raw.graph) (λ (g : Option Term). Some (made_quad s p o g)) (bad_graph raw.graph b))))

-- ---- what is meant, without a fault

is_iri_from : (text : List ℕ) → list_all is_iri_byte text ≡ true → not (has_scheme text) ≡ false → is_iri text ≡ true
is_iri_from text h r = let s : has_scheme text ≡ true = not-false (has_scheme text) r in rw (h, s) refl

kind_valid_by : (k : Bool) (text : List ℕ) → is_xsd_string text ≡ k → IsUtf8 text → list_all is_iri_byte text ≡ true → is_relative_kind (if k then Plain else Typed text) ≡ false → is_lang_kind (if k then Plain else Typed text) ≡ false → IsValidKind (if k then Plain else Typed text)
kind_valid_by true text x u h r l = tt
kind_valid_by false text x u h r l = let i : is_iri text ≡ true = is_iri_from text h r in (rw (i, x, l) refl, u)

kind_valid : (raw kind : Kind) → IsWrittenKind raw → MeansKind raw kind → is_relative_kind kind ≡ false → is_lang_kind kind ≡ false → IsValidKind kind
kind_valid Plain kind w m r l = subst (λ (k : Kind). IsValidKind k) (sym m) tt
kind_valid (Typed datatype) kind w m r l =
    let at : kind ≡ typed_kind m.0 = m.2 in
    subst (λ (k : Kind). IsValidKind k) (sym at) (kind_valid_by (is_xsd_string m.0) m.0 refl (text_utf8 true datatype m.0 w.utf8 m.1) (text_iri datatype m.0 m.1)
    (subst (λ (k : Kind). is_relative_kind k ≡ false) at r) (subst (λ (k : Kind). is_lang_kind k ≡ false) at l))
kind_valid (Tagged tag) kind w m r l = subst (λ (k : Kind). IsValidKind k) (sym m) (lower_is_kept tag ∙ w.is_one)

term_valid : (raw term : Term) → IsWrittenTerm raw → MeansTerm raw term → is_relative term ≡ false → has_lang_string term ≡ false → IsValidTerm term
term_valid (Iri bytes) term w m r l =
    let at : term ≡ Iri m.0 = m.2 in
    subst (λ (t : Term). IsValidTerm t) (sym at) (is_iri_from m.0 (text_iri bytes m.0 m.1) (subst (λ (t : Term). is_relative t ≡ false) at r), text_utf8 true bytes m.0 w.utf8 m.1)
term_valid (Blank label) term w m r l = subst (λ (t : Term). IsValidTerm t) (sym m) w
term_valid (Literal form kind) term w m r l =
    let at : term ≡ Literal m.0 m.1 = m.4 in
    subst (λ (t : Term). IsValidTerm t) (sym at) (text_utf8 false form m.0 w.0.utf8 m.2, kind_valid kind m.1 w.1 m.3 (subst (λ (t : Term). is_relative t ≡ false) at r) (subst (λ (t : Term). has_lang_string t ≡ false) at l))

-- each test of each term of a quad that has no fault
pub record NoFault (longest : ℕ) (term : Term) : Type 0 where
  pub relative : is_relative term ≡ false
  pub lang : has_lang_string term ≡ false
  pub long : is_too_long longest term ≡ false

abbrev GraphNoFault : ℕ → Option Term → Type 0
GraphNoFault longest None = Unit {0}
GraphNoFault longest (Some graph) = NoFault longest graph

pub record QuadNoFault (longest : ℕ) (q : Quad) : Type 0 where
  pub subject : NoFault longest q.triple.subject
  pub predicate : NoFault longest q.triple.predicate
  pub object : NoFault longest q.triple.object
  pub graph : GraphNoFault longest q.graph

none_by : (a b d : Bool) (x y z : Why) → (if a then Some x else (if b then Some y else (if d then Some z else None))) ≡ None → (a ≡ false) × (b ≡ false) × (d ≡ false)
none_by true b d x y z e = cc
none_by false true d x y z e = cc
none_by false false true x y z e = cc
none_by false false false x y z e = (refl, refl, refl)

four_false : (a b d g : Bool) → (((a || b) || d) || g) ≡ false → (a ≡ false) × (b ≡ false) × (d ≡ false) × (g ≡ false)
four_false a b d g e =
    let x = or_parts ((a || b) || d) g e in
    let y = or_parts (a || b) d x.0 in
    let z = or_parts a b y.0 in
    (z.0, z.1, y.1, x.1)

graph_no : (longest : ℕ) (graph : Option Term) → graph_passes is_relative graph ≡ false → graph_passes has_lang_string graph ≡ false → graph_passes (is_too_long longest) graph ≡ false → GraphNoFault longest graph
graph_no longest None r l t = tt
graph_no longest (Some graph) r l t = record { relative = r; lang = l; long = t }

pub no_fault : (longest : ℕ) (q : Quad) → fault_of longest q ≡ None → QuadNoFault longest q
no_fault longest q e =
    let n = none_by (some_term is_relative q) (some_term has_lang_string q) (some_term (is_too_long longest) q) RelativeIri LangString TermTooLong e in
    let r = four_false (is_relative q.triple.subject) (is_relative q.triple.predicate) (is_relative q.triple.object) (graph_passes is_relative q.graph) n.0 in
    let l = four_false (has_lang_string q.triple.subject) (has_lang_string q.triple.predicate) (has_lang_string q.triple.object) (graph_passes has_lang_string q.graph) n.1 in
    let t = four_false (is_too_long longest q.triple.subject) (is_too_long longest q.triple.predicate) (is_too_long longest q.triple.object) (graph_passes (is_too_long longest) q.graph) n.2 in
    record {
      subject = record { relative = r.0; lang = l.0; long = t.0 };
      predicate = record { relative = r.1; lang = l.1; long = t.1 };
      object = record { relative = r.2; lang = l.2; long = t.2 };
      graph = graph_no longest q.graph r.3 l.3 t.3;
    }

graph_valid : (longest : ℕ) (raw graph : Option Term) → IsWrittenGraph raw → MeansGraph raw graph → GraphNoFault longest graph → IsValidGraph graph
graph_valid longest None graph w m n = subst (λ (g : Option Term). IsValidGraph g) (sym m) tt
graph_valid longest (Some raw) graph w m n =
    let at : graph ≡ Some m.0 = m.2 in
    let f : NoFault longest m.0 = subst (λ (g : Option Term). GraphNoFault longest g) at n in
    subst (λ (g : Option Term). IsValidGraph g) (sym at) (term_valid raw m.0 w m.1 f.relative f.lang)

pub quad_valid : (longest : ℕ) (raw q : Quad) → IsWritten raw → MeansQuad raw q → fault_of longest q ≡ None → IsValidQuad q
quad_valid longest raw q w m e =
    let n = no_fault longest q e in
    record {
      subject = term_valid raw.triple.subject q.triple.subject w.subject m.subject n.subject.relative n.subject.lang;
      predicate = term_valid raw.triple.predicate q.triple.predicate w.predicate m.predicate n.predicate.relative n.predicate.lang;
      object = term_valid raw.triple.object q.triple.object w.object m.object n.object.relative n.object.lang;
      graph = graph_valid longest raw.graph q.graph w.graph m.graph n.graph;
    }

-- ---- classes and limits

means_iri : (raw term : Term) → IsIri raw → MeansTerm raw term → IsIri term
means_iri (Iri bytes) term c m = subst (λ (t : Term). IsIri t) (sym m.2) tt
means_iri (Blank label) term c m = absurd c
means_iri (Literal form kind) term c m = absurd c

means_node : (raw term : Term) → IsIriOrBlank raw → MeansTerm raw term → IsIriOrBlank term
means_node (Iri bytes) term c m = subst (λ (t : Term). IsIriOrBlank t) (sym m.2) tt
means_node (Blank label) term c m = subst (λ (t : Term). IsIriOrBlank t) (sym m) tt
means_node (Literal form kind) term c m = absurd c

means_class : (raw graph : Option Term) → IsRdfGraph raw → MeansGraph raw graph → IsRdfGraph graph
means_class None graph c m = subst (λ (g : Option Term). IsRdfGraph g) (sym m) tt
means_class (Some raw) graph c m = subst (λ (g : Option Term). IsRdfGraph g) (sym m.2) (means_node raw m.0 c m.1)

pub quad_classes : (raw q : Quad) → IsRdfQuad raw → MeansQuad raw q → IsRdfQuad q
quad_classes raw q c m =
    record {
      triple = record { subject = means_node raw.triple.subject q.triple.subject c.triple.subject m.subject; predicate = means_iri raw.triple.predicate q.triple.predicate c.triple.predicate m.predicate };
      graph = means_class raw.graph q.graph c.graph m.graph;
    }

short_label : (term : Term) → has_long_label term ≡ false → HasShortLabel term
short_label (Iri text) h = tt
short_label (Blank label) h = ltb-false LONGEST_LABEL (length label) h
short_label (Literal form kind) h = tt

readable_term : (longest : ℕ) (term : Term) → IsValidTerm term → is_too_long longest term ≡ false → IsReadableTerm longest term
readable_term longest term v h =
    let p = or_parts (nat_lt longest (length (canonical_term term))) (has_long_label term) h in
    record { valid = v; fits = ltb-false longest (length (canonical_term term)) p.0; label = short_label term p.1 }

readable_graph : (longest : ℕ) (graph : Option Term) → IsValidGraph graph → GraphNoFault longest graph → IsReadableGraph longest graph
readable_graph longest None v n = tt
readable_graph longest (Some graph) v n = readable_term longest graph v n.long

pub quad_readable : (longest : ℕ) (raw q : Quad) → IsWritten raw → IsRdfQuad raw → MeansQuad raw q → fault_of longest q ≡ None → IsReadable longest q
quad_readable longest raw q w c m e =
    let n = no_fault longest q e in
    let v = quad_valid longest raw q w m e in
    record {
      classes = quad_classes raw q c m;
      subject = readable_term longest q.triple.subject v.subject n.subject.long;
      predicate = readable_term longest q.triple.predicate v.predicate n.predicate.long;
      object = readable_term longest q.triple.object v.object n.object.long;
      graph = readable_graph longest q.graph v.graph n.graph;
    }
