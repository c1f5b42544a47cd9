-- Statements: the reader and the grammar agree.
use Rattle.std.proofs.Common.{ℕ, ◌≡◌, ◌⊎◌, inl, inr, Bool, if◌then◌else◌, true, false, not, List, [], ◌∷◌, ◌++◌, Option, Some, None, refl, ap, sym, subst, ◌∙◌, arith, append_assoc}
use Rattle.std.specs.List.{list_all}
use Rattle.std.specs.Option.{option_map}
use Rattle.std.proofs.lemmas.Bool.{and_parts, not-true}
use Rattle.std.proofs.lemmas.Option.{same_Some}
use Rattle.list_laws.proofs.Options.{bind_some, first_some, map_some, when_some}
use Rattle.list_laws.specs.Options.{first_of, when, ◌>>=◌}
use Rattle.rdf_terms.specs.Triples.{IsIriOrBlank, IsRdfGraph}
use Rattle.rdf_terms.specs.declared.term.Quad.{Quad}
use Rattle.rdf_terms.specs.declared.term.Term.{Term}
use Rattle.rdf_terms.specs.declared.term.Term.TheVariants.{Iri, Blank, Literal}
use Rattle.rdf_terms.specs.declared.term.Kind.{Kind}
use Rattle.rdf_terms.specs.declared.term.Kind.TheVariants.{Typed, Tagged}
use Rattle.nquads_text.specs.Grammar.{is_blank, SkipsBlanks, ReadsDatatype, ReadsKind, ReadsTerm, ReadsGraph, IsComment, HasNoStatement, IsStatement}
use Rattle.nquads_text.specs.Scan.{skipped, opened, is_over}
use Rattle.nquads_text.specs.Raw.{iri_part, form_part, label_part, tag_part, datatype_part, or_plain, kind_part, literal_part, node_part, object_part, or_none, graph_part, statement_of}
use Rattle.nquads_text.proofs.Items.{opened_some}
use Rattle.nquads_text.proofs.Bodies.{iri_part-some}
use Rattle.nquads_text.proofs.Forms.{form_part-some}
use Rattle.nquads_text.proofs.Labels.{label_some, tag_some}

-- ---- blanks and comments

skip_by : (k : Bool) (b : ℕ) (bs : List ℕ) → is_blank b ≡ k → SkipsBlanks bs (skipped bs) → SkipsBlanks (b ∷ bs) (if k then skipped bs else b ∷ bs)
skip_by true b bs e h = (b ∷ h.0, ap (λ (l : List ℕ). b ∷ l) h.1, rw (e, h.2) refl)
skip_by false b bs e h = ([], refl, refl)

pub skip_self : (bytes : List ℕ) → SkipsBlanks bytes (skipped bytes)
skip_self [] = ([], refl, refl)
skip_self (b ∷ bs) = skip_by (is_blank b) b bs refl (skip_self bs)

abbrev pub begins_no_blank : List ℕ → Bool
begins_no_blank [] = true
begins_no_blank (b ∷ bs) = not (is_blank b)

skipped_blanks : (blanks rest : List ℕ) → list_all is_blank blanks ≡ true → skipped (blanks ++ rest) ≡ skipped rest
skipped_blanks [] rest h = refl
skipped_blanks (b ∷ blanks) rest h = let p = and_parts (is_blank b) (list_all is_blank blanks) h in rw p.0 (skipped_blanks blanks rest p.1)

skipped_none : (rest : List ℕ) → begins_no_blank rest ≡ true → skipped rest ≡ rest
skipped_none [] h = refl
skipped_none (b ∷ bs) h = let none : is_blank b ≡ false = not-true (is_blank b) h in rw none refl

pub skip_to : (bytes rest : List ℕ) → SkipsBlanks bytes rest → begins_no_blank rest ≡ true → skipped bytes ≡ rest
skip_to bytes rest s h = ap (λ (l : List ℕ). skipped l) s.1 ∙ skipped_blanks s.0 rest s.2 ∙ skipped_none rest h

pub blanks_append : (xs ys : List ℕ) → list_all is_blank xs ≡ true → list_all is_blank ys ≡ true → list_all is_blank (xs ++ ys) ≡ true
blanks_append [] ys h k = k
blanks_append (x ∷ xs) ys h k = let p = and_parts (is_blank x) (list_all is_blank xs) h in rw (p.0, blanks_append xs ys p.1 k) refl

pub skip_twice : (bytes middle rest : List ℕ) → SkipsBlanks bytes middle → SkipsBlanks middle rest → SkipsBlanks bytes rest
skip_twice bytes middle rest s t = (s.0 ++ t.0, s.1 ∙ ap (λ (l : List ℕ). s.0 ++ l) t.1 ∙ sym (append_assoc s.0 t.0 rest), blanks_append s.0 t.0 s.2 t.2)

pub comment_over : (bytes : List ℕ) → IsComment bytes → (begins_no_blank bytes ≡ true) × (is_over bytes ≡ true)
comment_over bytes (inl none) = subst (λ (l : List ℕ). (begins_no_blank l ≡ true) × (is_over l ≡ true)) (sym none) (refl, refl)
comment_over bytes (inr (text, e)) = subst (λ (l : List ℕ). (begins_no_blank l ≡ true) × (is_over l ≡ true)) (sym e) (refl, refl)

over_comment : (bytes : List ℕ) → is_over bytes ≡ true → IsComment bytes
over_comment [] h = inl refl
over_comment (b ∷ bs) h = let same : b ≡ 35 = grind (arith, h) in inr (bs, ap (λ (k : ℕ). k ∷ bs) same)

pub none_over : (line : List ℕ) → HasNoStatement line → is_over (skipped line) ≡ true
none_over line h = let p = comment_over h.0 h.2 in ap (λ (l : List ℕ). is_over l) (skip_to line h.0 h.1 p.0) ∙ p.1

pub over_none : (line : List ℕ) → is_over (skipped line) ≡ true → HasNoStatement line
over_none line h = (skipped line, skip_self line, over_comment (skipped line) h)

-- ---- what is read is in the grammar

datatype_some : (bytes : List ℕ) (p : List ℕ × List ℕ) → datatype_part (skipped bytes) ≡ Some p → ReadsDatatype bytes p.0 p.1
unfolding datatype_part
datatype_some bytes p e =
    let a = bind_some (opened 94 (skipped bytes)) (λ (second : List ℕ). opened 94 second >>= λ inside. iri_part (skipped inside)) p e in
    let b = bind_some (opened 94 a.0) (λ (inside : List ℕ). iri_part (skipped inside)) p a.2 in
    let at : skipped bytes ≡ 94 ∷ 94 ∷ b.0 = opened_some 94 (skipped bytes) a.0 a.1 ∙ ap (λ (l : List ℕ). 94 ∷ l) (opened_some 94 a.0 b.0 b.1) in
    (b.0, skipped b.0, subst (λ (l : List ℕ). SkipsBlanks bytes l) at (skip_self bytes), skip_self b.0, iri_part-some (skipped b.0) p b.2)

abbrev pub tagged_of : List ℕ × List ℕ → Kind × List ℕ
tagged_of p = (Tagged p.0, p.1)

abbrev pub typed_of : List ℕ × List ℕ → Kind × List ℕ
typed_of p = (Typed p.0, p.1)

kind_by : (bytes : List ℕ) (x y : Option (List ℕ × List ℕ)) → tag_part bytes ≡ x → datatype_part (skipped bytes) ≡ y → ReadsKind bytes (or_plain bytes (first_of (option_map tagged_of x) (option_map typed_of y))).0 (or_plain bytes (first_of (option_map tagged_of x) (option_map typed_of y))).1
kind_by bytes (Some p) y e f = tag_some bytes p e
kind_by bytes None (Some p) e f = datatype_some bytes p f
kind_by bytes None None e f = refl

kind_some : (bytes : List ℕ) → ReadsKind bytes (kind_part bytes).0 (kind_part bytes).1
unfolding kind_part
kind_some bytes = kind_by bytes (tag_part bytes) (datatype_part (skipped bytes)) refl refl

abbrev pub Parted : Type 0
Parted = List ℕ × List ℕ

abbrev pub iri_of : Parted → Term × List ℕ
iri_of p = (Iri p.0, p.1)

abbrev pub blank_of : Parted → Term × List ℕ
blank_of p = (Blank p.0, p.1)

abbrev Node : List ℕ → Term × List ℕ → Type 0
Node bytes p = ReadsTerm bytes p.0 p.1 × IsIriOrBlank p.0

node_by : (bytes : List ℕ) (p : Term × List ℕ) → (option_map iri_of (iri_part bytes) ≡ Some p) ⊎ ((option_map iri_of (iri_part bytes) ≡ None) × (option_map blank_of (label_part bytes) ≡ Some p)) → Node bytes p
node_by bytes p (inl e) = let q = map_some iri_of (iri_part bytes) p e in subst (λ (x : Term × List ℕ). Node bytes x) q.2 (iri_part-some bytes q.0 q.1, tt)
node_by bytes p (inr e) = let q = map_some blank_of (label_part bytes) p e.1 in subst (λ (x : Term × List ℕ). Node bytes x) q.2 (label_some bytes q.0 q.1, tt)

node_some : (bytes : List ℕ) (p : Term × List ℕ) → node_part bytes ≡ Some p → Node bytes p
unfolding node_part
node_some bytes p e = node_by bytes p (first_some (option_map iri_of (iri_part bytes)) (option_map blank_of (label_part bytes)) p e)

literal_some : (bytes : List ℕ) (p : Term × List ℕ) → literal_part bytes ≡ Some p → ReadsTerm bytes p.0 p.1
unfolding literal_part
literal_some bytes p e =
    let a = bind_some (form_part bytes) (λ (f : List ℕ × List ℕ). let r : Option (Term × List ℕ) = Some (Literal f.0 (kind_part f.1).0, (kind_part f.1).1) in r) p e in
    let at : ◌≡◌ {A = Term × List ℕ} (Literal a.0.0 (kind_part a.0.1).0, (kind_part a.0.1).1) p = same_Some _ p a.2 in
    subst (λ (x : Term × List ℕ). ReadsTerm bytes x.0 x.1) at (a.0.1, form_part-some bytes a.0 a.1, kind_some a.0.1)

object_by : (bytes : List ℕ) (p : Term × List ℕ) → (node_part bytes ≡ Some p) ⊎ ((node_part bytes ≡ None) × (literal_part bytes ≡ Some p)) → ReadsTerm bytes p.0 p.1
object_by bytes p (inl e) = (node_some bytes p e).0
object_by bytes p (inr e) = literal_some bytes p e.1

object_some : (bytes : List ℕ) (p : Term × List ℕ) → object_part bytes ≡ Some p → ReadsTerm bytes p.0 p.1
unfolding object_part
object_some bytes p e = object_by bytes p (first_some (node_part bytes) (literal_part bytes) p e)

abbrev Graph : List ℕ → Option Term × List ℕ → Type 0
Graph bytes p = ReadsGraph bytes p.0 p.1 × IsRdfGraph p.0

graph_by : (bytes : List ℕ) (x : Option (Term × List ℕ)) → node_part bytes ≡ x → Graph bytes (or_none bytes x)
graph_by bytes None e = (refl, tt)
graph_by bytes (Some p) e = node_some bytes p e

graph_some : (bytes : List ℕ) → Graph bytes (graph_part bytes)
unfolding graph_part
graph_some bytes = graph_by bytes (node_part bytes) refl

dot_some : (bytes rest : List ℕ) → opened 46 (skipped bytes) ≡ Some rest → SkipsBlanks bytes (46 ∷ rest)
dot_some bytes rest e = subst (λ (l : List ℕ). SkipsBlanks bytes l) (opened_some 46 (skipped bytes) rest e) (skip_self bytes)

abbrev pub made_quad : Term → Term → Term → Option Term → Quad
made_quad s p o g = record { triple = record { subject = s; predicate = p; object = o }; graph = g }

pub statement_some : (line : List ℕ) (q : Quad) → statement_of (skipped line) ≡ Some q → IsStatement line q
unfolding statement_of
statement_some line q e =
    let s = bind_some (node_part (skipped line)) (λ (s : Term × List ℕ). iri_part (skipped s.1) >>= λ p. object_part (skipped p.1) >>= λ o. opened 46 (skipped (graph_part (skipped o.1)).1) >>= λ end. when (is_over (skipped end)) (made_quad s.0 (Iri p.0) o.0 (graph_part (skipped o.1)).0)) q e in
    let p = bind_some (iri_part (skipped s.0.1)) (λ (p : List ℕ × List ℕ). object_part (skipped p.1) >>= λ o. opened 46 (skipped (graph_part (skipped o.1)).1) >>= λ end. when (is_over (skipped end)) (made_quad s.0.0 (Iri p.0) o.0 (graph_part (skipped o.1)).0)) q s.2 in
    let o = bind_some (object_part (skipped p.0.1)) (λ (o : Term × List ℕ). opened 46 (skipped (graph_part (skipped o.1)).1) >>= λ end. when (is_over (skipped end)) (made_quad s.0.0 (Iri p.0.0) o.0 (graph_part (skipped o.1)).0)) q p.2 in
    let n = bind_some (opened 46 (skipped (graph_part (skipped o.0.1)).1)) (λ (end : List ℕ). when (is_over (skipped end)) (made_quad s.0.0 (Iri p.0.0) o.0.0 (graph_part (skipped o.0.1)).0)) q o.2 in
    let w = when_some (is_over (skipped n.0)) (made_quad s.0.0 (Iri p.0.0) o.0.0 (graph_part (skipped o.0.1)).0) q n.2 in
    let node = node_some (skipped line) s.0 s.1 in
    let graph = graph_some (skipped o.0.1) in
    subst (λ (q : Quad). IsStatement line q) w.1 (record {
      from_subject = skipped line;
      after_subject = s.0.1;
      from_predicate = skipped s.0.1;
      after_predicate = p.0.1;
      from_object = skipped p.0.1;
      after_object = o.0.1;
      from_graph = skipped o.0.1;
      after_graph = (graph_part (skipped o.0.1)).1;
      after_dot = n.0;
      begins = skip_self line;
      subject = node.0;
      blanks_1 = skip_self s.0.1;
      predicate = iri_part-some (skipped s.0.1) p.0 p.1;
      blanks_2 = skip_self p.0.1;
      object = object_some (skipped p.0.1) o.0 o.1;
      blanks_3 = skip_self o.0.1;
      graph = graph.0;
      blanks_4 = dot_some (graph_part (skipped o.0.1)).1 n.0 n.1;
      over = over_none n.0 w.0;
      classes = record { triple = record { subject = node.1; predicate = tt }; graph = graph.1 };
    })
