-- Variables of mappings, in their order.
use Rattle.std.specs.Prelude.{ℕ, ◌↔◌, Bool, List, map, Option, Some, None, if◌then◌else◌}
use Rattle.std.specs.List.{Contains}
use Rattle.std.specs.List.Sorted.{IsStrictlySortedBy}
use Rattle.std.specs.declared.cmp.Ordering.{Ordering}
use Rattle.std.specs.Ordering.{ordering_then}
use Rattle.rdf_terms.specs.declared.term.Term.{Term}
use Rattle.rdf_terms.specs.declared.term.Triple.{Triple}
use Rattle.rdf_terms.specs.declared.term.Quad.{Quad}
use Rattle.rdf_terms.specs.Same.{term_eq}
use Rattle.rdf_terms.specs.Order.{term_order, bytes_order}
use Rattle.control_triples.specs.declared.variable.Variable.{Variable}
use Rattle.control_triples.specs.Vocabulary.{mapped_variable}
use Rattle.control_triples.specs.Controls.{Says, IsLiteral}
use Rattle.control_triples.specs.Parts.{form_of}
use Rattle.control_triples.specs.Ranges.{is_before}

-- a mapping, and the text of a variable
pub record Named : Type 0 where
  pub mapping : Term
  pub text : List ℕ

abbrev pub named : Variable → Named
named v = record { mapping = v.mapping.now; text = v.text.now }

abbrev pub named_all : List Variable → List Named
named_all variables = map named variables

abbrev pub texts_in : List Variable → List (List ℕ)
texts_in variables = map (λ (v : Variable). v.text.now) variables

abbrev pub named_by : Term → Option (List ℕ) → Option Named
named_by mapping None = None
named_by mapping (Some text) = Some (record { mapping = mapping; text = text })

-- the variable that a triple gives its subject
abbrev pub named_of : Triple → Option Named
named_of t = if term_eq t.predicate mapped_variable then named_by t.subject (form_of t.object) else None

abbrev pub name_order : Named → Named → Ordering
name_order a b = ordering_then (term_order a.mapping b.mapping) (bytes_order a.text b.text)

abbrev pub goes_before : Bool → Term → Named → Bool
goes_before with_equal mapping n = is_before with_equal (term_order n.mapping mapping)

-- the mapping has a variable with this text
abbrev pub HasVariable : List Quad → List ℕ → Term → List ℕ → Type 0
HasVariable quads topic mapping text = (variable : Term) × Says quads topic mapping mapped_variable variable × IsLiteral variable text

-- the variables of all mappings, each text once
pub record AreVariables (quads : List Quad) (topic : List ℕ) (names : List Named) : Type 0 where
  pub ascending : IsStrictlySortedBy name_order names
  pub members : (mapping : Term) (text : List ℕ) → Contains names (record { mapping = mapping; text = text }) ↔ HasVariable quads topic mapping text
