use Rattle.std.proofs.Common.{◌∙◌}
use Rattle.hydra_controls.specs.Facts.{mark_of}
use Rattle.hydra_controls.proofs.TableLaws.{page_1, page_above}
use Rattle.hydra_controls.proofs.facts.PageFacts.page_then.Goals as goal

pub returns-then-number-eq1 : goal.returns-then-number-eq1
returns-then-number-eq1 c = c.new.ensures ∙ page_1 c.args.self.first.now c.args.end.now (mark_of c.args.self.fixed) c.args.number c.if-number-eq1.true

pub returns : goal.returns
returns c = page_above c.args.self.first.now c.page_mark.result.now c.args.end.now c.args.self.fixed c.args.number c.if-number-eq1.false c.page_mark.ensures
