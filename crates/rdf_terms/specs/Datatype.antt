-- Datatypes of literals (RDF 1.1 Concepts 3.3).
use Rattle.std.specs.Prelude.{ℕ, Bool, not, ◌&&◌, List, codes}
use Rattle.std.specs.Str.{bytes_eq}
use Rattle.rdf_terms.specs.Iri.{is_iri}

-- the datatype of a plain literal
unfoldable pub xsd_string : List ℕ
xsd_string = codes "http://www.w3.org/2001/XMLSchema#string"

-- the datatype of a literal with a language tag
unfoldable pub lang_string : List ℕ
lang_string = codes "http://www.w3.org/1999/02/22-rdf-syntax-ns#langString"

abbrev pub is_xsd_string : List ℕ → Bool
is_xsd_string text = bytes_eq text xsd_string

abbrev pub is_lang_string : List ℕ → Bool
is_lang_string text = bytes_eq text lang_string

-- an IRI with a scheme, neither xsd:string nor rdf:langString
abbrev pub is_datatype : List ℕ → Bool
is_datatype text = is_iri text && not (is_xsd_string text) && not (is_lang_string text)
