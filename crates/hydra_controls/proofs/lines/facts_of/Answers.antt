use Rattle.std.proofs.Common.{refl}
use Rattle.hydra_controls.proofs.LineLaws.{facts_are}
use Rattle.hydra_controls.proofs.lines.facts_of.Goals as goal

pub returns-clause-quads : goal.returns-clause-quads
returns-clause-quads c = facts_are _ c.args.base.now c.args.first.now _ c.text.ensures.text c.text-2.ensures.text refl
