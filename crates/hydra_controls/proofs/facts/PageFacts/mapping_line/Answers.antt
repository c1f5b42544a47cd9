use Rattle.std.proofs.Common.{sym, ◌∙◌}
use Rattle.hydra_controls.proofs.facts.PageFacts.mapping_line.Goals as goal

pub returns : goal.returns
returns c = λ d. c.mapping_text.ensures d ∙ sym c.fixed_line.ensures
