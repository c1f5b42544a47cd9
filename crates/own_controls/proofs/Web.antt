-- Texts that are IRIs of ASCII.
use Rattle.std.proofs.Common.{◌≡◌, ℕ, List, ◌++◌, true, sym, ◌∙◌, subst}
use Rattle.std.specs.List.{list_all}
use Rattle.std.specs.Char.{is_ascii}
use Rattle.std.proofs.lemmas.List.Folds.{list_all-append}
use Rattle.std.proofs.lemmas.Bool.{and_from}
use Rattle.list_laws.proofs.Tests.{and_first}
use Rattle.rdf_terms.specs.Iri.{is_iri, is_iri_byte, has_scheme}
use Rattle.rdf_terms.proofs.Iris.{is_iri_append}
use Rattle.own_controls.specs.Safe.{IsWeb}

-- more bytes of an IRI
pub web_more : (text more : List ℕ) → IsWeb text → list_all is_iri_byte more ≡ true → list_all is_ascii more ≡ true → IsWeb (text ++ more)
web_more text more h iri ascii = record { iri = is_iri_append text more h.iri iri; ascii = rw (list_all-append is_ascii text more, h.ascii) ascii }

pub web_of : (text : List ℕ) → is_iri text ≡ true → list_all is_ascii text ≡ true → IsWeb text
web_of text iri ascii = record { iri = iri; ascii = ascii }

-- a front of an IRI that has a scheme
pub front_web : (page text rest : List ℕ) → page ≡ text ++ rest → IsWeb page → has_scheme text ≡ true → IsWeb text
front_web page text rest is web scheme =
    let whole = subst IsWeb is web in
    let iri = and_first (list_all is_iri_byte (text ++ rest)) (has_scheme (text ++ rest)) whole.iri in
    let bytes = and_first (list_all is_iri_byte text) (list_all is_iri_byte rest) (sym (list_all-append is_iri_byte text rest) ∙ iri) in
    let ascii = and_first (list_all is_ascii text) (list_all is_ascii rest) (sym (list_all-append is_ascii text rest) ∙ whole.ascii) in
    record { iri = and_from (list_all is_iri_byte text) (has_scheme text) bytes scheme; ascii = ascii }
