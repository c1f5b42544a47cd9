use Rattle.metadata_quads.specs.TermTexts.{quad_of}
use Rattle.hydra_controls.proofs.TableLaws.{previous_first, version_behind, version_first}
use Rattle.metadata_quads.proofs.table.previous_and_version.Goals as goal
use Rattle.metadata_quads.proofs.table.previous_and_version.Goals.{then-facts-gt1+else-i-eq0, else-facts-gt1}

pub returns-then-i-eq0-clause-said : goal.returns-then-i-eq0-clause-said
returns-then-i-eq0-clause-said c = λ d. previous_first c.args.facts (quad_of c.link.result) c.args.i d c.if-facts-gt1.true c.if-i-eq0.true c.link.ensures.said

pub returns-clause-said : goal.returns-clause-said
returns-clause-said c = λ d.
    elim c.if-facts-gt1.branch [
      | then-facts-gt1+else-i-eq0 w ↦ version_behind c.args.facts (quad_of c.version.result) c.args.i d w.if-facts-gt1.true w.if-i-eq0.false c.requires.within c.version.ensures.said
      | else-facts-gt1 w ↦ version_first c.args.facts (quad_of c.version.result) c.args.i d w.if-facts-gt1.false c.requires.within c.version.ensures.said
    ]
