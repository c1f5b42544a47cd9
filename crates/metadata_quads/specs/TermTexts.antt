-- Terms and quads by the texts that they are of.
use Rattle.std.specs.Prelude.{ℕ, ◌≡◌, true, List, codes, Some}
use Rattle.std.specs.List.{list_all}
use Rattle.rdf_terms.specs.Iri.{is_iri}
use Rattle.rdf_terms.specs.Label.{is_label}
use Rattle.rdf_terms.specs.declared.term.Term.{Term}
use Rattle.rdf_terms.specs.declared.term.Term.TheVariants as terms
use Rattle.rdf_terms.specs.declared.term.Kind.TheVariants as literals
use Rattle.rdf_terms.specs.declared.term.Quad.{Quad}
use Rattle.metadata_quads.specs.declared.term_text.TermKind.{TermKind}
use Rattle.metadata_quads.specs.declared.term_text.TermKind.TheVariants as kinds
use Rattle.metadata_quads.specs.declared.term_text.TermText.{TermText}
use Rattle.metadata_quads.specs.declared.quad_text.QuadText.{QuadText}
use Rattle.hydra_controls.specs.LineTexts.{is_plain_byte, text_of}

-- the datatype of whole numbers
abbrev pub xsd_integer : List ℕ
xsd_integer = codes "http://www.w3.org/2001/XMLSchema#integer"

-- the term of a kind with a text
abbrev pub term_as : TermKind → List ℕ → Term
term_as kinds.Iri text = terms.Iri text
term_as kinds.Blank text = terms.Blank text
term_as kinds.Plain text = terms.Literal text literals.Plain
term_as kinds.Integer text = terms.Literal text (literals.Typed xsd_integer)

-- the term of its kind with its text
unfoldable pub term_of : TermText → Term
term_of t = term_as t.kind (text_of t.text)

-- the quad of its terms
unfoldable pub quad_of : QuadText → Quad
quad_of q = record {
  triple = record { subject = term_of q.subject; predicate = term_of q.predicate; object = term_of q.object };
  graph = Some (term_of q.graph);
}

-- the text is one of the kind, and no byte of a form is written with a backslash
abbrev pub IsTextOf : TermKind → List ℕ → Type 0
IsTextOf kinds.Iri text = is_iri text ≡ true
IsTextOf kinds.Blank text = is_label text ≡ true
IsTextOf kinds.Plain text = list_all is_plain_byte text ≡ true
IsTextOf kinds.Integer text = list_all is_plain_byte text ≡ true

-- the text is one of the term's kind
pub record IsTerm (t : TermText) : Type 0 where
  pub text : IsTextOf t.kind (text_of t.text)

-- the four terms have texts of their kinds
pub record AreTerms (q : QuadText) : Type 0 where
  pub subject : IsTerm q.subject
  pub predicate : IsTerm q.predicate
  pub object : IsTerm q.object
  pub graph : IsTerm q.graph
