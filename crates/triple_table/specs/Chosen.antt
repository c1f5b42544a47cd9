-- The triples of the graphs that are served.
use Rattle.std.specs.Prelude.{Bool, true, false, Option, Some, None, List, map}
use Rattle.std.specs.List.{filter}
use Rattle.std.specs.Str.{bytes_eq}
use Rattle.rdf_terms.specs.declared.term.Term.{Term}
use Rattle.rdf_terms.specs.declared.term.Term.TheVariants.{Iri, Blank, Literal}
use Rattle.rdf_terms.specs.declared.term.Triple.{Triple}
use Rattle.rdf_terms.specs.declared.term.Quad.{Quad}
use Rattle.triple_table.specs.declared.choice.Choice.{Choice}
use Rattle.triple_table.specs.declared.choice.Choice.TheVariants.{DefaultGraph, Named, Union}

-- a quad without a graph is of the default graph; only an IRI names a graph that can be chosen
abbrev pub is_chosen : Choice → Option Term → Bool
is_chosen DefaultGraph None = true
is_chosen DefaultGraph (Some graph) = false
is_chosen (Named name) None = false
is_chosen (Named name) (Some (Iri text)) = bytes_eq text name
is_chosen (Named name) (Some (Blank label)) = false
is_chosen (Named name) (Some (Literal form kind)) = false
is_chosen Union graph = true

abbrev pub chosen : Choice → List Quad → List Triple
chosen choice quads = map (λ (q : Quad). q.triple) (filter (λ (q : Quad). is_chosen choice q.graph) quads)
