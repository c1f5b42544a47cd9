-- The metadata are RDF: subjects are IRIs or blank nodes, predicates are IRIs.
use Rattle.std.proofs.Common.{ℕ, ◌-◌, ◌+◌, List, ◌++◌, Bool, true, false, nat_lt}
use Rattle.std.specs.Prelude.{codes}
use Rattle.std.specs.List.{AllByRecursion}
use Rattle.list_laws.proofs.Each.{all_append}
use Rattle.rdf_terms.specs.Fragments.{last_page_of}
use Rattle.rdf_terms.specs.Triples.{IsIri, IsIriOrBlank, IsRdfQuad}
use Rattle.rdf_terms.specs.declared.term.Term.{Term}
use Rattle.tpf_base.specs.Addresses.{address_text}
use Rattle.template_fill.specs.Pages.{page_address, template_text}
use Rattle.template_fill.specs.Metadata.{foaf, void, hydra, owl, statement, topic_quads, form_quads, mapping_quads, count_quads, link_quads, version_quads, metadata_at, page_addresses, page_metadata}
use Rattle.hydra_controls.specs.Laws.{MetadataIsRdf}

rdf_statement : (graph : List ℕ) (s p o : Term) → IsIriOrBlank s → IsIri p → IsRdfQuad (statement graph s p o)
rdf_statement graph s p o hs hp = record { triple = record { subject = hs; predicate = hp }; graph = tt }

topic_rdf : (graph page first base : List ℕ) → AllByRecursion IsRdfQuad (topic_quads graph page first base)
unfolding topic_quads foaf void hydra
topic_rdf graph page first base = (rdf_statement graph _ _ _ tt tt, (rdf_statement graph _ _ _ tt tt, (rdf_statement graph _ _ _ tt tt, tt)))

form_rdf : (graph template : List ℕ) → AllByRecursion IsRdfQuad (form_quads graph template)
unfolding form_quads hydra
form_rdf graph template = (rdf_statement graph _ _ _ tt tt, (rdf_statement graph _ _ _ tt tt, tt))

mapping_rdf : (graph label name : List ℕ) → AllByRecursion IsRdfQuad (mapping_quads graph label name)
unfolding mapping_quads hydra
mapping_rdf graph label name = (rdf_statement graph _ _ _ tt tt, (rdf_statement graph _ _ _ tt tt, (rdf_statement graph _ _ _ tt tt, tt)))

count_rdf : (graph page first : List ℕ) (count : ℕ) → AllByRecursion IsRdfQuad (count_quads graph page first count)
unfolding count_quads void hydra
count_rdf graph page first count = (rdf_statement graph _ _ _ tt tt, (rdf_statement graph _ _ _ tt tt, (rdf_statement graph _ _ _ tt tt, (rdf_statement graph _ _ _ tt tt, tt))))

link_rdf : (there : Bool) (graph page name target : List ℕ) → AllByRecursion IsRdfQuad (link_quads there graph page name target)
unfolding link_quads hydra
link_rdf true graph page name target = (rdf_statement graph _ _ _ tt tt, tt)
link_rdf false graph page name target = tt

version_rdf : (graph base : List ℕ) (version : ℕ) → AllByRecursion IsRdfQuad (version_quads graph base version)
unfolding version_quads owl
version_rdf graph base version = (rdf_statement graph _ _ _ tt tt, tt)

pub metadata_is_rdf : MetadataIsRdf
unfolding page_metadata metadata_at page_addresses
metadata_is_rdf config s k count version =
    let base = address_text config.base in
    let page = page_address config.base s k in
    let first = page_address config.base s 1 in
    let graph = page ++ codes "#metadata" in
    let next = link_rdf (nat_lt k (last_page_of count config.page_size)) graph page (codes "next") (page_address config.base s (k + 1)) in
    let previous = link_rdf (nat_lt 1 k) graph page (codes "previous") (page_address config.base s (k - 1)) in
    let maps = λ (label name : List ℕ). mapping_rdf graph label name in
    all_append IsRdfQuad _ _
    (all_append IsRdfQuad _ _
    (all_append IsRdfQuad _ _
    (all_append IsRdfQuad _ _
    (all_append IsRdfQuad _ _
    (all_append IsRdfQuad _ _
    (all_append IsRdfQuad _ _
    (all_append IsRdfQuad _ _ (topic_rdf graph page first base) (form_rdf graph (template_text config.base)))
    (maps (codes "s") (codes "subject")))
    (maps (codes "p") (codes "predicate")))
    (maps (codes "o") (codes "object")))
    (count_rdf graph page first count))
    next)
    previous)
    (version_rdf graph base version)
