use Rattle.std.proofs.Common.{List, [], ◌∷◌}
use Rattle.own_controls.specs.declared.lines.LineText.{LineText}
use Rattle.own_controls.specs.Lines.{graph_end}
use Rattle.own_controls.proofs.Sections.{behind_ended, version_lines}
use Rattle.own_controls.proofs.section.behind_version.Goals as goal

pub returns : goal.returns
returns c = λ page n ended is.
    let lines : List LineText = c.with_two.result ∷ [] in
    behind_ended c.args.bytes.now c.args.ending.now page lines _ c.behind_lines.result ended
    (version_lines page c.args.base.now c.args.digits.now n c.with_two.result is (c.with_two.ensures (graph_end page))) c.behind_lines.ensures
