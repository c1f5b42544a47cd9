use Rattle.std.proofs.Common.{◌∙◌}
use Rattle.own_controls.specs.Lines.{graph_end}
use Rattle.own_controls.proofs.Joined.{front_is}
use Rattle.own_controls.proofs.start.line_ending.Goals as goal

pub returns : goal.returns
returns c = c.split_at.ensures.front ∙ (front_is c.in_ok-graph.graph.now (graph_end c.args.page.now) c.in_ok-rest.rest.now c.in_ok-rest.ensures).0
