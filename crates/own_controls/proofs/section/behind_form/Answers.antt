use Rattle.std.proofs.Common.{List, [], ◌∷◌}
use Rattle.own_controls.specs.declared.lines.LineText.{LineText}
use Rattle.own_controls.specs.Lines.{graph_end}
use Rattle.own_controls.proofs.Sections.{behind_ended, form_lines}
use Rattle.own_controls.proofs.section.behind_form.Goals as goal

pub returns : goal.returns
returns c = λ page ended.
    let end = graph_end page in
    let lines : List LineText = c.with_one.result ∷ c.fixed.result ∷ [] in
    behind_ended c.args.bytes.now c.args.ending.now page lines _ c.behind_lines.result ended
    (form_lines page c.args.template.now c.with_one.result c.fixed.result c.requires (c.with_one.ensures end) (c.fixed.ensures end)) c.behind_lines.ensures
