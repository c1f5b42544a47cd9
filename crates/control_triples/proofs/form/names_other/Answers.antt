use Rattle.std.proofs.Common.{subst, sym, ◌∙◌, refl}
use Rattle.list_laws.proofs.Tests.{not_both_ways}
use Rattle.rdf_terms.specs.declared.term.Term.{Term}
use Rattle.control_triples.specs.Controls.{Says}
use Rattle.control_triples.specs.Variables.{texts_in, HasVariable}
use Rattle.control_triples.proofs.Formed.{texts_are, other_text, text_other}
use Rattle.control_triples.proofs.form.names_other.Goals as goal

pub returns-then-holds : goal.returns-then-holds
returns-then-holds c =
    let q = c.args.index.now.controls.now in
    let m = texts_are q.quads q.topic c.args.mapping.now c.args.index.now.variables.now c.args.index.now.variables.now (texts_in c.variables_of.result.now) refl c.requires.variables c.variables_of.ensures.members in
    let has = subst (λ (p : Term). Says q.quads q.topic c.args.mapping.now p c.args.property.now) c.requires.mappings.property (c.holds.ensures.0 c.if-holds.true) in (
      (λ h. let r = other_text (HasVariable q.quads q.topic c.args.mapping.now) (texts_in c.variables_of.result.now) m c.args.text.now (sym c.has_other_text.ensures ∙ h) in (r.0, (has, r.1), r.2)),
      (λ h. c.has_other_text.ensures ∙ text_other (HasVariable q.quads q.topic c.args.mapping.now) (texts_in c.variables_of.result.now) m c.args.text.now h.0 h.1.1 h.2),
    )

pub returns-else-holds : goal.returns-else-holds
returns-else-holds c =
    let q = c.args.index.now.controls.now in (
      (λ h. absurd (not_both_ways c.holds.result h c.if-holds.false)),
      (λ h. c.holds.ensures.1 (subst (λ (p : Term). Says q.quads q.topic c.args.mapping.now p c.args.property.now) (sym c.requires.mappings.property) h.1.0)),
    )
