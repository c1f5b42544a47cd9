use Rattle.metadata_quads.specs.TermTexts.{quad_of}
use Rattle.hydra_controls.proofs.TableLaws.{behind_next, behind_next_within, next_first, without_next, without_next_within}
use Rattle.metadata_quads.proofs.table.links_and_version.Goals as goal

pub returns-then-i-eq0-clause-said : goal.returns-then-i-eq0-clause-said
returns-then-i-eq0-clause-said c = λ d. next_first c.args.facts (quad_of c.link.result) c.args.i d c.if-facts.true c.if-i-eq0.true c.link.ensures.said

pub previous_and_version-requires-clause-within : goal.previous_and_version-requires-clause-within
previous_and_version-requires-clause-within c = behind_next_within c.args.facts c.args.i c.if-facts.true c.if-i-eq0.false c.requires.within

pub returns-then-facts-clause-said : goal.returns-then-facts-clause-said
returns-then-facts-clause-said c = λ d. behind_next c.args.facts (quad_of c.previous_and_version.result) c.args.i d c.if-facts.true c.if-i-eq0.false (c.previous_and_version.ensures.said d)

pub previous_and_version-requires-2-clause-within : goal.previous_and_version-requires-2-clause-within
previous_and_version-requires-2-clause-within c = without_next_within c.args.facts c.args.i c.if-facts.false c.requires.within

pub returns-clause-said : goal.returns-clause-said
returns-clause-said c = λ d. without_next c.args.facts (quad_of c.previous_and_version-2.result) c.args.i d c.if-facts.false (c.previous_and_version-2.ensures.said d)
