use Rattle.std.proofs.Common.{List, ℕ, ◌++◌, ap, ◌∙◌}
use Rattle.std.specs.Prelude.{codes}
use Rattle.template_fill.specs.Metadata.{graph_at}
use Rattle.hydra_controls.specs.Facts.{addresses_on}
use Rattle.hydra_controls.proofs.facts.PageFacts.fixed_line.Goals as goal

pub returns : goal.returns
returns c =
    c.line_of.ensures ∙ ap (λ (l : List ℕ). c.args.front.now ++ (l ++ (l ++ (graph_at (addresses_on c.args.self) ++ codes "> .\n")))) c.new-nothing.ensures
