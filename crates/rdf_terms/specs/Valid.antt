-- The rules that each term keeps.
use Rattle.std.specs.Prelude.{◌≡◌, true, Option, Some, None, ⊤}
use Rattle.std.specs.Str.{IsUtf8}
use Rattle.rdf_terms.specs.Iri.{is_iri}
use Rattle.rdf_terms.specs.Label.{is_label}
use Rattle.rdf_terms.specs.Tag.{is_lower_tag}
use Rattle.rdf_terms.specs.Datatype.{is_datatype}
use Rattle.rdf_terms.specs.declared.term.Term.{Term}
use Rattle.rdf_terms.specs.declared.term.Term.TheVariants.{Iri, Blank, Literal}
use Rattle.rdf_terms.specs.declared.term.Kind.{Kind}
use Rattle.rdf_terms.specs.declared.term.Kind.TheVariants.{Plain, Typed, Tagged}
use Rattle.rdf_terms.specs.declared.term.Triple.{Triple}
use Rattle.rdf_terms.specs.declared.term.Quad.{Quad}

-- a datatype is an IRI, neither xsd:string nor rdf:langString; a tag is in lower case
abbrev pub IsValidKind : Kind → Type 0
IsValidKind Plain = ⊤
IsValidKind (Typed datatype) = (is_datatype datatype ≡ true) × IsUtf8 datatype
IsValidKind (Tagged tag) = is_lower_tag tag ≡ true

-- an IRI has a scheme, a label is one of N-Quads, and each text is UTF-8
abbrev pub IsValidTerm : Term → Type 0
IsValidTerm (Iri text) = (is_iri text ≡ true) × IsUtf8 text
IsValidTerm (Blank label) = is_label label ≡ true
IsValidTerm (Literal form kind) = IsUtf8 form × IsValidKind kind

pub record IsValidTriple (t : Triple) : Type 0 where
  pub subject : IsValidTerm t.subject
  pub predicate : IsValidTerm t.predicate
  pub object : IsValidTerm t.object

-- no graph, or a valid term
abbrev pub IsValidGraph : Option Term → Type 0
IsValidGraph None = ⊤
IsValidGraph (Some graph) = IsValidTerm graph

pub record IsValidQuad (q : Quad) : Type 0 where
  pub subject : IsValidTerm q.triple.subject
  pub predicate : IsValidTerm q.triple.predicate
  pub object : IsValidTerm q.triple.object
  pub graph : IsValidGraph q.graph

-- an IRI or a literal
abbrev pub IsNotBlank : Term → Type 0
IsNotBlank (Iri text) = ⊤
IsNotBlank (Blank label) = ⊥
IsNotBlank (Literal form kind) = ⊤
