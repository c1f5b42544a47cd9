use Rattle.std.proofs.Common.{subst, sym, ◌∙◌}
use Rattle.std.specs.Prelude.{◌↔◌}
use Rattle.std.specs.List.{Contains}
use Rattle.list_laws.proofs.Tests.{not_both_ways}
use Rattle.rdf_terms.specs.declared.term.Term.{Term}
use Rattle.control_triples.specs.Vocabulary.{representation, rdf_subject, rdf_predicate, rdf_object}
use Rattle.control_triples.specs.Controls.{Says, IsOnly, MapsTo}
use Rattle.control_triples.specs.Parts.{objects_in}
use Rattle.control_triples.proofs.Only.{only_one}
use Rattle.control_triples.proofs.Formed.{other_object, no_other_object}
use Rattle.control_triples.proofs.form.form_at.Goals as goal

pub returns-then-has_other_object : goal.returns-then-has_other_object
returns-then-has_other_object c = λ texts f.
    let q = c.args.index.now.controls.now in
    let m = subst (λ (p : Term). (o : Term) → Contains (objects_in c.objects-others.result.now) o ↔ Says q.quads q.topic c.args.node.now p o) c.requires.index.node.representation_is c.objects-others.ensures.members in
    other_object (λ o. Says q.quads q.topic c.args.node.now representation o) (objects_in c.objects-others.result.now) m c.args.index.now.node.explicit.now (sym c.has_other_object.ensures ∙ c.if-has_other_object.true) (λ o h. f.explicit o h ∙ sym c.requires.index.node.explicit)

pub returns-in_err-template : goal.returns-in_err-template
returns-in_err-template c = rw c.from_residual.ensures (λ texts f. c.in_err-template.ensures f.literal f.template)

pub returns-in_err-subject : goal.returns-in_err-subject
returns-in_err-subject c = rw c.from_residual-in_err-subject.ensures (λ texts f. let q = c.args.index.now.controls.now in c.in_err-subject.ensures texts.subject (subst (λ (p : Term). IsOnly (MapsTo q.quads q.topic c.args.node.now p) texts.subject) (sym c.requires.index.places.subject) f.subject))

pub returns-in_err-predicate : goal.returns-in_err-predicate
returns-in_err-predicate c = rw c.from_residual-in_err-predicate.ensures (λ texts f. let q = c.args.index.now.controls.now in c.in_err-predicate.ensures texts.predicate (subst (λ (p : Term). IsOnly (MapsTo q.quads q.topic c.args.node.now p) texts.predicate) (sym c.requires.index.places.predicate) f.predicate))

pub returns-in_err-object : goal.returns-in_err-object
returns-in_err-object c = rw c.from_residual-in_err-object.ensures (λ texts f. let q = c.args.index.now.controls.now in c.in_err-object.ensures texts.object (subst (λ (p : Term). IsOnly (MapsTo q.quads q.topic c.args.node.now p) texts.object) (sym c.requires.index.places.object) f.object))

pub returns-then-all_differ : goal.returns-then-all_differ
returns-then-all_differ c =
    let q = c.args.index.now.controls.now in
    let m = subst (λ (p : Term). (o : Term) → Contains (objects_in c.objects-others.result.now) o ↔ Says q.quads q.topic c.args.node.now p o) c.requires.index.node.representation_is c.objects-others.ensures.members in
    let differ = c.all_differ.ensures.0 c.if-all_differ.true in
    let t = c.in_ok-template.ensures in
    record {
      searched = c.requires.searched;
      literal = t.0;
      template = t.1;
      template_text = t.2;
      explicit = λ o h. no_other_object (λ o. Says q.quads q.topic c.args.node.now representation o) (objects_in c.objects-others.result.now) m c.args.index.now.node.explicit.now (sym c.has_other_object.ensures ∙ c.if-has_other_object.false) o h ∙ c.requires.index.node.explicit;
      subject = subst (λ (p : Term). IsOnly (MapsTo q.quads q.topic c.args.node.now p) c.in_ok-subject.subject.now) c.requires.index.places.subject c.in_ok-subject.ensures;
      predicate = subst (λ (p : Term). IsOnly (MapsTo q.quads q.topic c.args.node.now p) c.in_ok-predicate.predicate.now) c.requires.index.places.predicate c.in_ok-predicate.ensures;
      object = subst (λ (p : Term). IsOnly (MapsTo q.quads q.topic c.args.node.now p) c.in_ok-object.object.now) c.requires.index.places.object c.in_ok-object.ensures;
      subject_predicate = differ.0;
      subject_object = differ.1.0;
      predicate_object = differ.1.1;
    }

pub returns-else-all_differ : goal.returns-else-all_differ
returns-else-all_differ c = λ texts f.
    let q = c.args.index.now.controls.now in
    let s = only_one (MapsTo q.quads q.topic c.args.node.now rdf_subject) c.in_ok-subject.subject.now texts.subject (subst (λ (p : Term). IsOnly (MapsTo q.quads q.topic c.args.node.now p) c.in_ok-subject.subject.now) c.requires.index.places.subject c.in_ok-subject.ensures) f.subject in
    let p = only_one (MapsTo q.quads q.topic c.args.node.now rdf_predicate) c.in_ok-predicate.predicate.now texts.predicate (subst (λ (p : Term). IsOnly (MapsTo q.quads q.topic c.args.node.now p) c.in_ok-predicate.predicate.now) c.requires.index.places.predicate c.in_ok-predicate.ensures) f.predicate in
    let o = only_one (MapsTo q.quads q.topic c.args.node.now rdf_object) c.in_ok-object.object.now texts.object (subst (λ (p : Term). IsOnly (MapsTo q.quads q.topic c.args.node.now p) c.in_ok-object.object.now) c.requires.index.places.object c.in_ok-object.ensures) f.object in
    not_both_ways c.all_differ.result (c.all_differ.ensures.1 ((λ e. f.subject_predicate (sym s ∙ e ∙ p)), ((λ e. f.subject_object (sym s ∙ e ∙ o)), (λ e. f.predicate_object (sym p ∙ e ∙ o))))) c.if-all_differ.false
