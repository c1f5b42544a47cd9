use Rattle.std.proofs.Common.{sym, ◌∙◌}
use Rattle.control_triples.proofs.Controlled.{graph_added, no_graph}
use Rattle.control_triples.proofs.controls.add_graph.Goals as goal

pub returns-in_ok-insert : goal.returns-in_ok-insert
returns-in_ok-insert c = λ graph.
    graph_added _ _ _ c.args.found.now.graph.now graph (sym c.same.ensures.test ∙ c.if-same.true) (c.in_ok-insert.ensures.updates.0 (record c.args.topic { now = graph }))

pub returns-else-same : goal.returns-else-same
returns-else-same c = λ graph.
    no_graph _ _ _ (sym c.same.ensures.test ∙ c.if-same.false)
