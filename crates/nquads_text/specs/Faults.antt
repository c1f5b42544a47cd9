-- The faults of a statement whose texts are resolved.
use Rattle.std.specs.Prelude.{ℕ, Bool, false, not, ◌||◌, nat_lt, length, Option, Some, None, if◌then◌else◌}
use Rattle.rdf_terms.specs.Iri.{has_scheme}
use Rattle.rdf_terms.specs.Datatype.{is_lang_string}
use Rattle.rdf_terms.specs.Canon.{canonical_term}
use Rattle.rdf_terms.specs.declared.limits.TheConstants.{LONGEST_LABEL}
use Rattle.rdf_terms.specs.declared.term.Quad.{Quad}
use Rattle.rdf_terms.specs.declared.term.Term.{Term}
use Rattle.rdf_terms.specs.declared.term.Term.TheVariants.{Iri, Blank, Literal}
use Rattle.rdf_terms.specs.declared.term.Kind.{Kind}
use Rattle.rdf_terms.specs.declared.term.Kind.TheVariants.{Plain, Typed, Tagged}
use Rattle.nquads_text.specs.declared.fault.Why.{Why}
use Rattle.nquads_text.specs.declared.fault.Why.TheVariants.{RelativeIri, LangString, TermTooLong}

-- an IRI without a scheme, as a datatype or as the term
abbrev pub is_relative_kind : Kind → Bool
is_relative_kind Plain = false
is_relative_kind (Typed datatype) = not (has_scheme datatype)
is_relative_kind (Tagged tag) = false

abbrev pub is_relative : Term → Bool
is_relative (Iri text) = not (has_scheme text)
is_relative (Blank label) = false
is_relative (Literal form kind) = is_relative_kind kind

-- the datatype rdf:langString, which a literal has by a tag alone
abbrev pub is_lang_kind : Kind → Bool
is_lang_kind Plain = false
is_lang_kind (Typed datatype) = is_lang_string datatype
is_lang_kind (Tagged tag) = false

abbrev pub has_lang_string : Term → Bool
has_lang_string (Iri text) = false
has_lang_string (Blank label) = false
has_lang_string (Literal form kind) = is_lang_kind kind

-- a label of more than LONGEST_LABEL bytes
abbrev pub has_long_label : Term → Bool
has_long_label (Iri text) = false
has_long_label (Blank label) = nat_lt LONGEST_LABEL (length label)
has_long_label (Literal form kind) = false

-- a canonical text of more than longest bytes, or such a label
abbrev pub is_too_long : ℕ → Term → Bool
is_too_long longest term = nat_lt longest (length (canonical_term term)) || has_long_label term

abbrev pub graph_passes : (Term → Bool) → Option Term → Bool
graph_passes test None = false
graph_passes test (Some graph) = test graph

-- some term of the quad passes the test
abbrev pub some_term : (Term → Bool) → Quad → Bool
some_term test q = test q.triple.subject || test q.triple.predicate || test q.triple.object || graph_passes test q.graph

-- the first fault of a quad whose texts are resolved
abbrev pub fault_of : ℕ → Quad → Option Why
fault_of longest q =
    if some_term is_relative q then Some RelativeIri
    else (if some_term has_lang_string q then Some LangString
    else (if some_term (is_too_long longest) q then Some TermTooLong else None))
