use Rattle.std.proofs.Common.{refl, arith}
use Rattle.template_fill.specs.Metadata.{form_quads}
use Rattle.hydra_controls.specs.Facts.{form_of}
use Rattle.metadata_quads.specs.TermTexts.{quad_of}
use Rattle.metadata_quads.proofs.TableLaws.{row}
use Rattle.metadata_quads.proofs.table.form.Goals as goal

pub returns-then-i-eq0-clause-said : goal.returns-then-i-eq0-clause-said
unfolding form_quads
returns-then-i-eq0-clause-said c = λ d.
    row (form_of c.args.facts) c.args.i 0 (quad_of c.says.result) _ _ _ _ _ _ _ d c.if-i-eq0.true c.says.ensures.quad c.blank-form.ensures.term c.hydra.ensures.term c.template.ensures.term refl

pub returns-clause-said : goal.returns-clause-said
unfolding form_quads
returns-clause-said c = λ d.
    row (form_of c.args.facts) c.args.i 1 (quad_of c.says-2.result) _ _ _ _ _ _ _ d (omega arith) c.says-2.ensures.quad c.blank-form.ensures.term c.hydra-2.ensures.term c.hydra-explicit.ensures.term refl
