use Rattle.std.proofs.Common.{List, ℕ, length, ap, sym, ◌∙◌}
use Rattle.hydra_controls.specs.Facts.{quads_of}
use Rattle.hydra_controls.specs.LineTexts.{text_of_line}
use Rattle.hydra_controls.proofs.LineLaws.{placed_line, within}
use Rattle.hydra_controls.proofs.lines.MetadataLines.length.Goals as goal

pub line-requires-clause-within : goal.line-requires-clause-within
line-requires-clause-within c = within (quads_of c.facts.result) c.args.self.now c.args.i c.facts.ensures.quads c.requires

pub returns-clause-length : goal.returns-clause-length
returns-clause-length c = λ d.
    c.length.ensures.length
    ∙ ap (λ (l : List ℕ). length l) (sym (placed_line (quads_of c.facts.result) c.args.self.now c.args.i d (text_of_line c.line.result) c.facts.ensures.quads (c.line.ensures d)))
