use Rattle.std.proofs.Common.{◌∙◌}
use Rattle.hydra_controls.proofs.lines.MetadataLines.facts.Goals as goal

pub returns-clause-quads : goal.returns-clause-quads
returns-clause-quads c = c.facts_of.ensures.quads ∙ c.self.view_is
