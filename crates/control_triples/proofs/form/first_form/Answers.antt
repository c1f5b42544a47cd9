use Rattle.std.proofs.Common.{arith, Bor}
use Rattle.rdf_terms.specs.declared.term.Term.{Term}
use Rattle.control_triples.specs.Controls.{IsForm}
use Rattle.control_triples.specs.Places.{texts_of}
use Rattle.control_triples.proofs.Formed.{no_form, least_at, passed_more, node_in}
use Rattle.control_triples.proofs.form.first_form.Goals as goal

pub form_at-requires-clause-searched : goal.form_at-requires-clause-searched
form_at-requires-clause-searched c = (c.requires.members c.node-item.result.now).0 (node_in c.args.nodes.now c.loop-node.node-index c.node-item.result c.loop-node-test.true c.node-item.is)

pub returns-in-Some : goal.returns-in-Some
returns-in-Some c =
    let q = c.args.index.now.controls.now in
    least_at q.quads q.topic c.args.nodes.now c.requires.ascending c.requires.members c.loop-node.node-index c.node-item.result (texts_of c.in-Some.parts) c.loop-node-test.true c.node-item.is c.in-Some.ensures c.loop-node.invariant

pub loop-node-preserved : goal.loop-node-preserved
loop-node-preserved c = λ k d l texts.
    let q = c.args.index.now.controls.now in
    passed_more (λ (t : Bor Term). IsForm q.quads q.topic t.now texts) c.args.nodes.now c.loop-node.node-index c.node-item.result c.loop-node-test.true c.node-item.is
    (λ k d l. c.loop-node.invariant k d l texts) (c.in_default.ensures texts) k d l

pub returns : goal.returns
returns c =
    let q = c.args.index.now.controls.now in
    let past = c.loop-node-test.false in
    no_form q.quads q.topic c.args.nodes.now c.requires.ascending c.requires.members (λ k d l texts. c.loop-node.invariant k d (omega (arith, l, past)) texts)
