use Rattle.std.proofs.Common.{subst, sym, ◌∙◌}
use Rattle.std.specs.Prelude.{◌↔◌}
use Rattle.std.specs.List.{Contains}
use Rattle.rdf_terms.specs.declared.term.Term.{Term}
use Rattle.control_triples.specs.Vocabulary.{form_template}
use Rattle.control_triples.specs.Controls.{Says, IsTemplateOf}
use Rattle.control_triples.specs.Parts.{objects_in}
use Rattle.control_triples.proofs.Formed.{no_literal, two_literals, one_literal, template_is}
use Rattle.control_triples.proofs.form.template_of.Goals as goal

pub returns-in_err-literal : goal.returns-in_err-literal
returns-in_err-literal c =
    let q = c.args.index.now.controls.now in
    let m = subst (λ (p : Term). (o : Term) → Contains (objects_in c.objects-objects.result.now) o ↔ Says q.quads q.topic c.args.node.now p o) c.requires.node.template c.objects-objects.ensures.members in
    rw c.from_residual.ensures (no_literal (λ o. Says q.quads q.topic c.args.node.now form_template o) (objects_in c.objects-objects.result.now) m c.in_err-literal.ensures)

pub returns-then-has_other_literal : goal.returns-then-has_other_literal
returns-then-has_other_literal c =
    let q = c.args.index.now.controls.now in
    let m = subst (λ (p : Term). (o : Term) → Contains (objects_in c.objects-objects.result.now) o ↔ Says q.quads q.topic c.args.node.now p o) c.requires.node.template c.objects-objects.ensures.members in
    two_literals (λ o. Says q.quads q.topic c.args.node.now form_template o) (objects_in c.objects-objects.result.now) m c.in_ok-literal.literal.now c.in_ok-literal.ensures.0 c.in_ok-literal.ensures.1
    (sym c.has_other_literal.ensures ∙ c.if-has_other_literal.true)

pub returns : goal.returns
returns c =
    let q = c.args.index.now.controls.now in
    let m = subst (λ (p : Term). (o : Term) → Contains (objects_in c.objects-objects.result.now) o ↔ Says q.quads q.topic c.args.node.now p o) c.requires.node.template c.objects-objects.ensures.members in
    template_is c.form_of.result c.in_ok-literal.literal.now (IsTemplateOf q.quads q.topic c.args.node.now) c.form_of.ensures c.in_ok-literal.ensures.1
    (one_literal (λ o. Says q.quads q.topic c.args.node.now form_template o) (objects_in c.objects-objects.result.now) m c.in_ok-literal.literal.now c.in_ok-literal.ensures.0 c.in_ok-literal.ensures.1
    (sym c.has_other_literal.ensures ∙ c.if-has_other_literal.false))
