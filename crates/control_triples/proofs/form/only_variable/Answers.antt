use Rattle.list_laws.proofs.Tests.{not_both_ways}
use Rattle.control_triples.specs.Controls.{MapsTo}
use Rattle.control_triples.proofs.Formed.{only_text, two_texts}
use Rattle.control_triples.proofs.form.only_variable.Goals as goal

pub returns-in_err-text : goal.returns-in_err-text
returns-in_err-text c = rw c.from_residual.ensures (λ text h. c.in_err-text.ensures text h.0)

pub returns-then-has_other_variable : goal.returns-then-has_other_variable
returns-then-has_other_variable c =
    let q = c.args.index.now.controls.now in
    two_texts (MapsTo q.quads q.topic c.args.node.now c.args.property.now) c.in_ok-text.text.now c.in_ok-text.ensures (c.has_other_variable.ensures.0 c.if-has_other_variable.true)

pub returns : goal.returns
returns c =
    let q = c.args.index.now.controls.now in
    only_text (MapsTo q.quads q.topic c.args.node.now c.args.property.now) c.in_ok-text.text.now c.in_ok-text.ensures (λ h. not_both_ways c.has_other_variable.result (c.has_other_variable.ensures.1 h) c.if-has_other_variable.false)
