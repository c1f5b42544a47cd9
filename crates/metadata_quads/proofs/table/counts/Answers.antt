use Rattle.std.proofs.Common.{refl, arith}
use Rattle.template_fill.specs.Metadata.{count_quads}
use Rattle.hydra_controls.specs.Facts.{counts_of}
use Rattle.metadata_quads.specs.TermTexts.{quad_of}
use Rattle.metadata_quads.proofs.TableLaws.{row}
use Rattle.metadata_quads.proofs.table.counts.Goals as goal

pub returns-then-i-eq0-clause-said : goal.returns-then-i-eq0-clause-said
unfolding count_quads
returns-then-i-eq0-clause-said c = λ d.
    row (counts_of c.args.facts) c.args.i 0 (quad_of c.says.result) _ _ _ _ _ _ _ d c.if-i-eq0.true c.says.ensures.quad c.page.ensures.term c.void.ensures.term c.page-this.ensures.term refl

pub returns-then-i-eq1-clause-said : goal.returns-then-i-eq1-clause-said
unfolding count_quads
returns-then-i-eq1-clause-said c = λ d.
    row (counts_of c.args.facts) c.args.i 1 (quad_of c.says-then-i-eq1.result) _ _ _ _ _ _ _ d c.if-i-eq1.true c.says-then-i-eq1.ensures.quad c.page-this.ensures.term c.hydra.ensures.term c.count.ensures.term refl

pub returns-then-i-eq2-clause-said : goal.returns-then-i-eq2-clause-said
unfolding count_quads
returns-then-i-eq2-clause-said c = λ d.
    row (counts_of c.args.facts) c.args.i 2 (quad_of c.says-then-i-eq2.result) _ _ _ _ _ _ _ d c.if-i-eq2.true c.says-then-i-eq2.ensures.quad c.page-this.ensures.term c.void-then-i-eq2.ensures.term c.count-then-i-eq2.ensures.term refl

pub returns-clause-said : goal.returns-clause-said
unfolding count_quads
returns-clause-said c = λ d.
    row (counts_of c.args.facts) c.args.i 3 (quad_of c.says-2.result) _ _ _ _ _ _ _ d (omega arith) c.says-2.ensures.quad c.page-this.ensures.term c.hydra-2.ensures.term c.page-2.ensures.term refl
