-- The kind of a literal by its datatype (RDF 1.1 Concepts 3.3).
use Rattle.std.specs.Prelude.{ℕ, List, if◌then◌else◌}
use Rattle.rdf_terms.specs.declared.term.Kind.{Kind}
use Rattle.rdf_terms.specs.declared.term.Kind.TheVariants.{Plain, Typed}
use Rattle.rdf_terms.specs.Datatype.{is_xsd_string}

-- xsd:string gives the plain literal
abbrev pub typed_kind : List ℕ → Kind
typed_kind text = if is_xsd_string text then Plain else Typed text
