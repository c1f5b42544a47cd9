use Rattle.template_fill.specs.Metadata.{graph_at}
use Rattle.hydra_controls.specs.Facts.{addresses_on}
use Rattle.metadata_quads.specs.TermTexts.{quad_of, term_of}
use Rattle.metadata_quads.proofs.TableLaws.{says_is}
use Rattle.metadata_quads.proofs.table.says.Goals as goal

pub returns-clause-quad : goal.returns-clause-quad
unfolding quad_of
returns-clause-quad c = says_is (term_of c.args.subject) (term_of c.args.predicate) (term_of c.args.object) (term_of c.section.result) (graph_at (addresses_on c.args.facts)) c.section.ensures.term
