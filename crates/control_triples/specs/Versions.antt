-- The version as it is looked for among the control triples.
use Rattle.std.specs.Prelude.{Bool, false, not, ◌&&◌, List, [], ◌∷◌, Option, Some, None, if◌then◌else◌}
use Rattle.rdf_terms.specs.declared.term.Term.{Term}
use Rattle.rdf_terms.specs.declared.term.Term.TheVariants.{Iri, Blank, Literal}
use Rattle.rdf_terms.specs.declared.term.Triple.{Triple}
use Rattle.rdf_terms.specs.Same.{term_eq}
use Rattle.control_triples.specs.Vocabulary.{version_info}
use Rattle.control_triples.specs.Controls.{is_count_text}

-- a literal of 1 to MOST_DIGITS digits
abbrev pub is_number_term : Term → Bool
is_number_term (Iri text) = false
is_number_term (Blank label) = false
is_number_term (Literal form kind) = is_count_text form

-- the triple gives something such a literal as its version
abbrev pub is_version : Triple → Bool
is_version t = term_eq t.predicate version_info && is_number_term t.object

-- it gives another one than this
abbrev pub is_other_version : Term → Triple → Bool
is_other_version object t = is_version t && not (term_eq t.object object)

-- the object of the first triple that gives a version
abbrev pub first_version : List Triple → Option Term
first_version [] = None
first_version (t ∷ triples) = if is_version t then Some t.object else first_version triples
