-- rdf:langString is an IRI.
use Rattle.std.proofs.Common.{ℕ, ◌≡◌, true, List, refl, ap, ◌∙◌}
use Rattle.std.proofs.lemmas.Slice.Eq.{bytes_eq-Decides}
use Rattle.rdf_terms.specs.Iri.{is_iri}
use Rattle.rdf_terms.specs.Datatype.{lang_string, is_lang_string}

lang_string_is_iri : is_iri lang_string ≡ true
unfolding lang_string
lang_string_is_iri = refl

pub lang_is_iri : (text : List ℕ) → is_lang_string text ≡ true → is_iri text ≡ true
lang_is_iri text h = ap is_iri ((bytes_eq-Decides text lang_string).0 h) ∙ lang_string_is_iri
