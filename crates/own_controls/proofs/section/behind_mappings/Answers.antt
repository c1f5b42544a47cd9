use Rattle.std.proofs.Common.{List, [], ◌∷◌}
use Rattle.own_controls.specs.declared.lines.LineText.{LineText}
use Rattle.own_controls.specs.Lines.{graph_end}
use Rattle.own_controls.proofs.Sections.{behind_ended, mappings_lines}
use Rattle.own_controls.proofs.section.behind_mappings.Goals as goal

pub returns : goal.returns
returns c = λ page ended.
    let end = graph_end page in
    let lines : List LineText =
    c.fixed.result ∷ c.fixed-2.result ∷ c.fixed-3.result ∷ c.fixed-4.result ∷ c.fixed-5.result ∷ c.fixed-6.result ∷ c.fixed-7.result ∷ c.fixed-8.result ∷ c.fixed-9.result ∷ [] in
    behind_ended c.args.bytes.now c.args.ending.now page lines _ c.behind_lines.result ended
    (mappings_lines page c.fixed.result c.fixed-2.result c.fixed-3.result c.fixed-4.result c.fixed-5.result c.fixed-6.result c.fixed-7.result c.fixed-8.result c.fixed-9.result
    (c.fixed.ensures end) (c.fixed-2.ensures end) (c.fixed-3.ensures end) (c.fixed-4.ensures end) (c.fixed-5.ensures end) (c.fixed-6.ensures end) (c.fixed-7.ensures end)
    (c.fixed-8.ensures end) (c.fixed-9.ensures end)) c.behind_lines.ensures
