use Rattle.std.proofs.Common.{List, [], ◌∷◌}
use Rattle.own_controls.specs.declared.lines.LineText.{LineText}
use Rattle.own_controls.specs.Lines.{graph_end}
use Rattle.own_controls.proofs.Sections.{behind_ended, counts_lines}
use Rattle.own_controls.proofs.section.behind_counts.Goals as goal

pub returns : goal.returns
returns c = λ n is.
    let page = c.args.page.now in
    let end = graph_end page in
    let lines : List LineText = c.with_two.result ∷ c.with_two-2.result ∷ c.with_two-3.result ∷ c.with_two-4.result ∷ [] in
    behind_ended c.args.bytes.now c.args.ending.now page lines _ c.behind_lines.result c.requires
    (counts_lines page c.args.first.now c.args.digits.now n c.with_two.result c.with_two-2.result c.with_two-3.result c.with_two-4.result is (c.with_two.ensures end) (c.with_two-2.ensures end) (c.with_two-3.ensures end) (c.with_two-4.ensures end)) c.behind_lines.ensures
