-- The set holds the graphs of the topics so far, and that of one more.
use Rattle.std.proofs.Common.{List, ◌∙◌, ap, arith}
use Rattle.std.specs.List.{list_any}
use Rattle.std.proofs.lemmas.Result.{IfOk-from_err}
use Rattle.control_triples.specs.declared.topic.GraphTopic.{GraphTopic}
use Rattle.control_triples.specs.Parts.{is_about_in}
use Rattle.control_triples.proofs.Steps.{any_more, all_taken}
use Rattle.control_triples.proofs.controls.graphs_about.Goals as goal

pub returns-in_err-add_graph : goal.returns-in_err-add_graph
returns-in_err-add_graph c = IfOk-from_err _ _ c.from_residual.ensures.0

pub loop-found-preserved : goal.loop-found-preserved
loop-found-preserved c = λ graph.
    any_more (is_about_in c.args.topic.now graph) c.args.topics.now c.loop-found.found-index _ _ _ c.loop-found-test.true c.found-item.is (c.loop-found.invariant graph) (c.in_ok-add_graph.ensures graph)

pub returns : goal.returns
returns c = λ graph. c.loop-found.invariant graph ∙ ap (λ (l : List GraphTopic). list_any (is_about_in c.args.topic.now graph) l) (all_taken c.args.topics.now c.loop-found.found-index (omega (arith, c.loop-found-test.false)))
