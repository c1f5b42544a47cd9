use Rattle.std.proofs.Common.{ap}
use Rattle.rdf_terms.specs.declared.term.Term.TheVariants.{Iri}
use Rattle.metadata_quads.specs.TermTexts.{term_of}
use Rattle.metadata_quads.proofs.TableLaws.{page_is_iri}
use Rattle.metadata_quads.proofs.table.section.Goals as goal

pub returns-clause-term : goal.returns-clause-term
unfolding term_of
returns-clause-term c = ap Iri c.page_then.ensures

pub returns-clause-text : goal.returns-clause-text
returns-clause-text c = record { text = page_is_iri c.args.facts.first.now c.args.name.now _ c.args.facts.fixed c.args.number c.page_then.ensures c.requires.facts.first c.requires.name }
