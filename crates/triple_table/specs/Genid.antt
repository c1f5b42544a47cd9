-- Blank nodes as IRIs (RDF 1.1 Concepts 3.5): the IRIs of an authority under /.well-known/genid/.
use Rattle.std.specs.Prelude.{ℕ, List, ◌++◌, codes}
use Rattle.rdf_terms.specs.declared.term.Term.{Term}
use Rattle.rdf_terms.specs.declared.term.Term.TheVariants.{Iri, Blank, Literal}
use Rattle.rdf_terms.specs.declared.term.Triple.{Triple}

-- the IRI that stands for the blank node with this label
abbrev pub genid : List ℕ → List ℕ → List ℕ
genid authority label = codes "http://" ++ authority ++ codes "/.well-known/genid/" ++ label

-- a term with a blank node replaced by its IRI
abbrev pub skolem : List ℕ → Term → Term
skolem authority (Iri text) = Iri text
skolem authority (Blank label) = Iri (genid authority label)
skolem authority (Literal form kind) = Literal form kind

abbrev pub skolem_triple : List ℕ → Triple → Triple
skolem_triple authority t = record { subject = skolem authority t.subject; predicate = skolem authority t.predicate; object = skolem authority t.object }
