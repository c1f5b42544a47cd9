-- What the reader makes of a line.
use Rattle.std.specs.Prelude.{ℕ, ◌≡◌, true, false, List, Option, Some, None, Result, Ok, Err, if◌then◌else◌}
use Rattle.std.specs.Str.{is_utf8, IsUtf8}
use Rattle.list_laws.specs.Options.{◌>>=◌}
use Rattle.rdf_terms.specs.Label.{is_label}
use Rattle.rdf_terms.specs.Tag.{is_tag, lower}
use Rattle.rdf_terms.specs.Kinds.{typed_kind}
use Rattle.rdf_terms.specs.declared.term.Quad.{Quad}
use Rattle.rdf_terms.specs.declared.term.Term.{Term}
use Rattle.rdf_terms.specs.declared.term.Term.TheVariants.{Iri, Blank, Literal}
use Rattle.rdf_terms.specs.declared.term.Kind.{Kind}
use Rattle.rdf_terms.specs.declared.term.Kind.TheVariants.{Plain, Typed, Tagged}
use Rattle.nquads_text.specs.declared.fault.Why.{Why}
use Rattle.nquads_text.specs.declared.fault.Why.TheVariants.{Utf8, Statement, Escape}
use Rattle.nquads_text.specs.Grammar.{IsIriItem, IsFormItem, AreItems}
use Rattle.nquads_text.specs.Escape.{resolved}
use Rattle.nquads_text.specs.Faults.{fault_of}
use Rattle.nquads_text.specs.Raw.{line_form}

-- ---- a raw statement, its escapes resolved

abbrev pub resolved_kind : Kind → Option Kind
resolved_kind Plain = Some Plain
resolved_kind (Typed d) = resolved true d >>= λ text. Some (typed_kind text)
resolved_kind (Tagged t) = Some (Tagged (lower t))

abbrev pub resolved_literal : List ℕ → Kind → Option Term
resolved_literal form kind = do
  f ← resolved false form
  k ← resolved_kind kind
  Some (Literal f k)

unfoldable pub resolved_term : Term → Option Term
resolved_term (Iri t) = resolved true t >>= λ text. Some (Iri text)
resolved_term (Blank l) = Some (Blank l)
resolved_term (Literal form kind) = resolved_literal form kind

abbrev pub resolved_graph : Option Term → Option (Option Term)
resolved_graph None = Some None
resolved_graph (Some g) = resolved_term g >>= λ t. Some (Some t)

-- a statement of this subject and predicate
abbrev pub resolved_after : Term → Term → Quad → Option Quad
resolved_after s p q = do
  o ← resolved_term q.triple.object
  g ← resolved_graph q.graph
  Some (record { triple = record { subject = s; predicate = p; object = o }; graph = g })

unfoldable pub resolved_quad : Quad → Option Quad
resolved_quad q = do
  s ← resolved_term q.triple.subject
  p ← resolved_term q.triple.predicate
  o ← resolved_term q.triple.object
  g ← resolved_graph q.graph
  Some (record { triple = record { subject = s; predicate = p; object = o }; graph = g })

-- ---- what a raw statement and a line read as

abbrev pub or_fault : Quad → Option Why → Result Quad Why
or_fault q None = Ok q
or_fault q (Some why) = Err why

abbrev pub checked : ℕ → Option Quad → Result Quad Why
checked longest None = Err Escape
checked longest (Some q) = or_fault q (fault_of longest q)

unfoldable pub quad_of : ℕ → Quad → Result Quad Why
quad_of longest raw = checked longest (resolved_quad raw)

abbrev pub some_quad : Result Quad Why → Result (Option Quad) Why
some_quad (Ok q) = Ok (Some q)
some_quad (Err why) = Err why

abbrev pub form_read : ℕ → Option (Option Quad) → Result (Option Quad) Why
form_read longest None = Err Statement
form_read longest (Some None) = Ok None
form_read longest (Some (Some raw)) = some_quad (quad_of longest raw)

-- nothing, or a quad, or the first fault
unfoldable pub line_read : ℕ → List ℕ → Result (Option Quad) Why
line_read longest line = if is_utf8 line then form_read longest (line_form line) else Err Utf8

-- ---- texts that are as a line has them, and texts that a term may have

-- a text between marks: items of UTF-8
pub record IsWrittenText (Item : List ℕ → Type 0) (text : List ℕ) : Type 0 where
  pub items : AreItems Item text
  pub utf8 : IsUtf8 text

pub record IsWrittenTag (tag : List ℕ) : Type 0 where
  pub is_one : is_tag tag ≡ true
  pub utf8 : IsUtf8 tag

abbrev pub IsWrittenKind : Kind → Type 0
IsWrittenKind Plain = Unit {0}
IsWrittenKind (Typed datatype) = IsWrittenText IsIriItem datatype
IsWrittenKind (Tagged tag) = IsWrittenTag tag

abbrev pub IsWrittenTerm : Term → Type 0
IsWrittenTerm (Iri text) = IsWrittenText IsIriItem text
IsWrittenTerm (Blank label) = is_label label ≡ true
IsWrittenTerm (Literal form kind) = IsWrittenText IsFormItem form × IsWrittenKind kind

abbrev pub IsWrittenGraph : Option Term → Type 0
IsWrittenGraph None = Unit {0}
IsWrittenGraph (Some graph) = IsWrittenTerm graph

pub record IsWritten (q : Quad) : Type 0 where
  pub subject : IsWrittenTerm q.triple.subject
  pub predicate : IsWrittenTerm q.triple.predicate
  pub object : IsWrittenTerm q.triple.object
  pub graph : IsWrittenGraph q.graph
