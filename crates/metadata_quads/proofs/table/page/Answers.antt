use Rattle.std.proofs.Common.{ap, append-nil, ◌∙◌}
use Rattle.rdf_terms.specs.declared.term.Term.TheVariants.{Iri}
use Rattle.hydra_controls.specs.Facts.{page_text}
use Rattle.metadata_quads.proofs.table.page.Goals as goal

pub returns-clause-term : goal.returns-clause-term
returns-clause-term c = c.section.ensures.term ∙ ap Iri (append-nil (page_text c.args.facts.first.now c.args.facts.fixed c.args.number))
