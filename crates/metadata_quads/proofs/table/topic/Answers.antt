use Rattle.std.proofs.Common.{refl, arith}
use Rattle.template_fill.specs.Metadata.{topic_quads}
use Rattle.hydra_controls.specs.Facts.{topic_of}
use Rattle.metadata_quads.specs.TermTexts.{quad_of}
use Rattle.metadata_quads.proofs.TableLaws.{row}
use Rattle.metadata_quads.proofs.table.topic.Goals as goal

pub returns-then-i-eq0-clause-said : goal.returns-then-i-eq0-clause-said
unfolding topic_quads
returns-then-i-eq0-clause-said c = λ d.
    row (topic_of c.args.facts) c.args.i 0 (quad_of c.says.result) _ _ _ _ _ _ _ d c.if-i-eq0.true c.says.ensures.quad c.section-graph.ensures.term c.foaf.ensures.term c.page-this.ensures.term refl

pub returns-then-i-eq1-clause-said : goal.returns-then-i-eq1-clause-said
unfolding topic_quads
returns-then-i-eq1-clause-said c = λ d.
    row (topic_of c.args.facts) c.args.i 1 (quad_of c.says-then-i-eq1.result) _ _ _ _ _ _ _ d c.if-i-eq1.true c.says-then-i-eq1.ensures.quad c.data_set.ensures.term c.void.ensures.term c.page.ensures.term refl

pub returns-clause-said : goal.returns-clause-said
unfolding topic_quads
returns-clause-said c = λ d.
    row (topic_of c.args.facts) c.args.i 2 (quad_of c.says-2.result) _ _ _ _ _ _ _ d (omega arith) c.says-2.ensures.quad c.data_set-2.ensures.term c.hydra.ensures.term c.blank.ensures.term refl
