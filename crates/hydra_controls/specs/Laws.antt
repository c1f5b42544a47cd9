-- A law of the metadata: their quads are RDF.
use Rattle.std.specs.Prelude.{ℕ}
use Rattle.std.specs.List.{AllByRecursion}
use Rattle.rdf_terms.specs.Triples.{IsRdfQuad}
use Rattle.rdf_terms.specs.Selections.{Selection}
use Rattle.template_fill.specs.Metadata.{Config, page_metadata}

-- subjects are IRIs or blank nodes, predicates are IRIs
abbrev pub MetadataIsRdf : Type 0
MetadataIsRdf = (config : Config) (s : Selection) (k count version : ℕ) → AllByRecursion IsRdfQuad (page_metadata config s k count version)
