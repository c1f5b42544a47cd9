use Rattle.std.specs.Prelude.{codes}
use Rattle.own_controls.proofs.Joined.{behind_third}
use Rattle.own_controls.proofs.start.behind_graph.Goals as goal

pub returns : goal.returns
returns c =
    behind_third c.args.bytes.now (codes " <") c.args.page.now (codes "#metadata> .\n") c.in_ok-from_section.from_section.now c.behind.result c.in_ok-from_section.ensures c.behind.ensures
