use Rattle.std.proofs.Common.{List, [], ◌∷◌}
use Rattle.own_controls.specs.declared.lines.LineText.{LineText}
use Rattle.own_controls.specs.Lines.{graph_end}
use Rattle.own_controls.proofs.Sections.{behind_ended, topic_lines}
use Rattle.own_controls.proofs.section.behind_topic.Goals as goal

pub returns : goal.returns
returns c =
    let page = c.args.page.now in
    let end = graph_end page in
    let lines : List LineText = c.with_two.result ∷ c.with_two-2.result ∷ c.with_one.result ∷ [] in
    behind_ended c.args.bytes.now c.args.ending.now page lines _ c.behind_lines.result c.requires
    (topic_lines page c.args.first.now c.args.base.now c.with_two.result c.with_two-2.result c.with_one.result (c.with_two.ensures end) (c.with_two-2.ensures end) (c.with_one.ensures end)) c.behind_lines.ensures
