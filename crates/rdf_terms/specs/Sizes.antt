-- Bounds of the texts of terms.
use Rattle.std.specs.Prelude.{ℕ, ◌+◌, ◌≤◌, length, ⊤}
use Rattle.rdf_terms.specs.declared.term.Term.{Term}
use Rattle.rdf_terms.specs.declared.term.Term.TheVariants.{Iri, Blank, Literal}
use Rattle.rdf_terms.specs.declared.term.Kind.{Kind}
use Rattle.rdf_terms.specs.declared.term.Kind.TheVariants.{Plain, Typed, Tagged}
use Rattle.rdf_terms.specs.declared.term.Triple.{Triple}
use Rattle.rdf_terms.specs.declared.limits.TheConstants.{LONGEST_LABEL}
use Rattle.rdf_terms.specs.Canon.{canonical_term}

-- a label that is not too long
abbrev pub HasShortLabel : Term → Type 0
HasShortLabel (Iri text) = ⊤
HasShortLabel (Blank label) = length label ≤ LONGEST_LABEL
HasShortLabel (Literal form kind) = ⊤

-- canonical text of at most so many bytes, and such a label
pub record IsShortTerm (longest : ℕ) (term : Term) : Type 0 where
  pub fits : length (canonical_term term) ≤ longest
  pub label : HasShortLabel term

pub record IsShortTriple (longest : ℕ) (t : Triple) : Type 0 where
  pub subject : IsShortTerm longest t.subject
  pub predicate : IsShortTerm longest t.predicate
  pub object : IsShortTerm longest t.object

-- the bytes of a datatype or a tag
abbrev pub kind_size : Kind → ℕ
kind_size Plain = 0
kind_size (Typed datatype) = length datatype
kind_size (Tagged tag) = length tag

-- the bytes of an IRI, of a label, or of a form with its datatype or tag
abbrev pub term_size : Term → ℕ
term_size (Iri text) = length text
term_size (Blank label) = length label
term_size (Literal form kind) = length form + kind_size kind
