use Rattle.std.proofs.Common.{List, [], ◌∷◌}
use Rattle.own_controls.specs.declared.lines.LineText.{LineText}
use Rattle.own_controls.specs.Lines.{graph_end}
use Rattle.own_controls.proofs.Sections.{behind_ended, link_lines}
use Rattle.own_controls.proofs.section.behind_link.Goals as goal

pub returns : goal.returns
returns c = λ name is.
    let page = c.args.page.now in
    let lines : List LineText = c.with_two.result ∷ [] in
    behind_ended c.args.bytes.now c.args.ending.now page lines _ c.behind_lines.result c.requires
    (link_lines page c.args.middle.now name c.args.target.now c.with_two.result is (c.with_two.ensures (graph_end page))) c.behind_lines.ensures
