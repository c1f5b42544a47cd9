use Rattle.std.proofs.Common.{refl, arith}
use Rattle.template_fill.specs.Metadata.{mapping_quads}
use Rattle.hydra_controls.specs.Facts.{mapping_of}
use Rattle.metadata_quads.specs.TermTexts.{quad_of}
use Rattle.metadata_quads.proofs.TableLaws.{row}
use Rattle.metadata_quads.proofs.table.mapping.Goals as goal

pub returns-then-i-eq0-clause-said : goal.returns-then-i-eq0-clause-said
unfolding mapping_quads
returns-then-i-eq0-clause-said c = λ d.
    row (mapping_of c.args.facts c.args.label.now c.args.name.now) c.args.i 0 (quad_of c.says.result) _ _ _ _ _ _ _ d c.if-i-eq0.true c.says.ensures.quad c.blank.ensures.term c.hydra.ensures.term c.blank-mapping.ensures.term refl

pub returns-then-i-eq1-clause-said : goal.returns-then-i-eq1-clause-said
unfolding mapping_quads
returns-then-i-eq1-clause-said c = λ d.
    row (mapping_of c.args.facts c.args.label.now c.args.name.now) c.args.i 1 (quad_of c.says-then-i-eq1.result) _ _ _ _ _ _ _ d c.if-i-eq1.true c.says-then-i-eq1.ensures.quad c.blank-mapping.ensures.term c.hydra-then-i-eq1.ensures.term c.plain.ensures.term refl

pub returns-clause-said : goal.returns-clause-said
unfolding mapping_quads
returns-clause-said c = λ d.
    row (mapping_of c.args.facts c.args.label.now c.args.name.now) c.args.i 2 (quad_of c.says-2.result) _ _ _ _ _ _ _ d (omega arith) c.says-2.ensures.quad c.blank-mapping.ensures.term c.hydra-2.ensures.term c.rdf.ensures.term refl
