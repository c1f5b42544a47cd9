use Rattle.rdf_terms.proofs.Iris.{is_iri_append}
use Rattle.metadata_quads.proofs.term_text.iri.Goals as goal

pub of_texts-requires : goal.of_texts-requires
of_texts-requires c = is_iri_append c.args.front.now c.args.end.now c.requires.front c.requires.end
